-- What an event has to keep, so that states stay safe.
use Rattle.std.proofs.Common.{◌≡◌, ℕ, suc, ◌<◌, ◌≤◌, true, false, List, [], ◌∷◌, length, Option, Some, None, is_some, refl, sym, ap, subst, ◌∙◌, arith}
use Rattle.std.specs.Prelude.{slice_get, slice_index_or}
use Rattle.std.proofs.lemmas.List.{length-map}
use Rattle.std.proofs.lemmas.Option.{same_Some, slice_get_within}
use Rattle.file_model.specs.Lists.{SeenBody, body_size}
use Rattle.file_model.specs.Tries.{is_odd}
use Rattle.round_model.specs.Refiners.{Refining}
use Rattle.round_laws.specs.Arcs.{from_within}
use Rattle.session_model.specs.Sessions.{SessionState, is_left_over, locks}
use Rattle.session_model.specs.SessionStates.{IsSessionState}
use Rattle.session_laws.specs.StateLaws.{locks_within}
use Rattle.tier_model.specs.Places.{is_marked}
use Rattle.tier_model.specs.Tiers.{TierState, count, is_held, load, IsTier}
use Rattle.tier_laws.specs.BodyLaws.{there_is_body, body_is_there, away_not_there}
use Rattle.tier_laws.specs.ChainLaws.{IsTopTied}
use Rattle.token_words.specs.Sessions.{IsSession}
use Rattle.run_model.specs.Worlds.{World, patch_count, is_base, HasFileBodies, IsWorld}
use Rattle.run_model.specs.States.{State, seat_uses}
use Rattle.run_model.specs.Safe.{IsHeldAtTop, IsSetUp, IsSafe}

-- tier k is a tier of the world, with bodies of the file
pub record IsTierOf (w : World) (k : ℕ) (t : TierState) : Type 0 where
  pub tier : IsTier t
  pub set_up : IsSetUp w k t
  pub bodies : HasFileBodies w t

-- the session has a number, is one over the mesh, and what it has locked has an odd epoch
pub record IsSeated (w : World) (epochs : ℕ → ℕ) (i : ℕ) (s : SessionState) : Type 0 where
  pub number : IsSession i
  pub is : IsSessionState w.mesh s
  pub locked : (p : ℕ) → locks s p ≡ true → is_odd (epochs p) ≡ true

-- a safe state, where what is locked has an odd epoch and the top tier is tied to the epochs
pub record IsSound (w : World) (a : State) : Type 0 where
  pub many : length a.chain.tiers ≡ length w.budgets
  pub tiers : (k : ℕ) (t : TierState) → slice_get a.chain.tiers k ≡ Some t → IsTierOf w k t
  pub tied : IsTopTied a.chain (is_base w)
  pub no_pins : (k : ℕ) (t : TierState) (p : ℕ) → slice_get a.chain.tiers (suc k) ≡ Some t → is_marked t.pinned p ≡ false
  pub base_odd : (p : ℕ) → is_base w p ≡ true → is_odd (a.chain.epochs p) ≡ true
  pub seats : (i : ℕ) (s : SessionState) → a.sessions i ≡ Some s → IsSeated w a.chain.epochs i s
  pub sets : (i p : ℕ) → a.users i p ≡ seat_uses (a.sessions i) p

-- ---- what is sound is safe

pub many_patches : (w : World) (k : ℕ) (t : TierState) → IsSetUp w k t → count t ≡ patch_count w
many_patches w k t set_up = ap length set_up.made.sizes ∙ length-map w.mesh.index.fields (body_size w.mesh.index.version)

pub base_within : (w : World) (p : ℕ) → is_base w p ≡ true → p < patch_count w
base_within w p base = from_within w.mesh.index.fields w.mesh.root p base

pub locked_within : (w : World) (s : SessionState) (p : ℕ) → IsSessionState w.mesh s → locks s p ≡ true → p < patch_count w
locked_within w s p is locked = subst (λ (n : ℕ). p < n) is.many (locks_within w.mesh s is p locked)

first_there : (tiers : List TierState) → 1 ≤ length tiers → (top : TierState) × (slice_get tiers 0 ≡ Some top)
first_there [] some_there = absurd (omega arith)
first_there (t ∷ ts) some_there = (t, refl)

pub top_there : (w : World) (a : State) → IsWorld w → length a.chain.tiers ≡ length w.budgets → (top : TierState) × (slice_get a.chain.tiers 0 ≡ Some top)
top_there w a world many = first_there a.chain.tiers (subst (λ (n : ℕ). 1 ≤ n) (sym many) world.some_tier)

body_of_held : (t : TierState) (p : ℕ) (found : Option SeenBody) → slice_index_or t.held p None ≡ found → is_some found ≡ true → (body : SeenBody) × (slice_get t.held p ≡ Some (Some body))
body_of_held t p None at held = absurd (cc)
body_of_held t p (Some body) at held = (body, there_is_body t.held p body at)

pub held_has_body : (t : TierState) (p : ℕ) → is_held t p ≡ true → (body : SeenBody) × (slice_get t.held p ≡ Some (Some body))
held_has_body t p held = body_of_held t p (slice_index_or t.held p None) refl held

pub odd_is_held : (w : World) (a : State) → IsWorld w → IsSound w a → (p : ℕ) → p < patch_count w → is_odd (a.chain.epochs p) ≡ true → IsHeldAtTop w a p
odd_is_held w a world sound p within odd =
    let there = top_there w a world sound.many in
    let top = there.0 in
    let of_world = sound.tiers 0 top there.1 in
    let counted = subst (λ (n : ℕ). p < n) (sym (many_patches w 0 top of_world.set_up)) within in
    let body = held_has_body top p (sym ((sound.tied.top top there.1).held p counted) ∙ odd) in
    record {
      top = top;
      is_top = there.1;
      body = body.0;
      holds = body.1;
      of_file = of_world.bodies.held p body.0 body.1;
    }

old_alone : (w : World) (s : SessionState) (p : ℕ) → IsSessionState w.mesh s → is_left_over s p ≡ true → (round : Option Refining) → s.round ≡ round → s.round ≡ None
old_alone w s p is old None at = at
old_alone w s p is old (Some r) at = absurd (let none = (is.running r at).no_old p in cc)

pub sound_safe : (w : World) (a : State) → IsWorld w → IsSound w a → IsSafe w a
sound_safe w a world sound = record {
  many = sound.many;
  tiers = λ k t at. (sound.tiers k t at).tier;
  set_up = λ k t at. (sound.tiers k t at).set_up;
  numbers = λ i s at. (sound.seats i s at).number;
  seats = λ i s at. (sound.seats i s at).is;
  held_where_odd = λ top p at within. (sound.tied.top top at).held p (subst (λ (n : ℕ). p < n) (sym (many_patches w 0 top (sound.tiers 0 top at).set_up)) within);
  locked_are_held = λ i s p at locked. let seat = sound.seats i s at in odd_is_held w a world sound p (locked_within w s p seat.is locked) (seat.locked p locked);
  base_is_held = λ p base. odd_is_held w a world sound p (base_within w p base) (sound.base_odd p base);
  bodies = λ k t at. (sound.tiers k t at).bodies;
  loads = λ k t budget at given. let of_world = sound.tiers k t at in subst (λ (n : ℕ). load t ≤ n) (same_Some t.budget budget (sym of_world.set_up.budget ∙ given)) of_world.tier.fits;
  sets_are_uses = λ i s p at. sound.sets i p ∙ ap (λ (o : Option SessionState). seat_uses o p) at;
  no_other_sets = λ i p at. sound.sets i p ∙ ap (λ (o : Option SessionState). seat_uses o p) at;
  coming_not_held = λ k t p at comes. away_not_there t.held p ((sound.tiers k t at).tier.coming.away p comes);
  coming_is_low = λ top p at comes. (sound.tied.top top at).low p comes;
  pins_are_base = λ top p at within. sym ((sound.tied.top top at).pins p (subst (λ (n : ℕ). p < n) (sym (many_patches w 0 top (sound.tiers 0 top at).set_up)) within));
  no_other_pins = sound.no_pins;
  old_or_round = λ i s p at old. old_alone w s p (sound.seats i s at).is old s.round refl;
  flight_not_locked = λ i s p at flies. ((sound.seats i s at).is.flight p flies).free;
}

-- ---- what is safe is sound

held_is_odd : (w : World) (a : State) → IsSafe w a → (p : ℕ) → IsHeldAtTop w a p → is_odd (a.chain.epochs p) ≡ true
held_is_odd w a safe p held =
    let sized = (safe.tiers 0 held.top held.is_top).sized.held in
    let many = many_patches w 0 held.top (safe.set_up 0 held.top held.is_top) in
    let inside = slice_get_within held.top.held p (Some held.body) held.holds in
    safe.held_where_odd held.top p held.is_top (omega arith)
    ∙ ap (λ (o : Option SeenBody). is_some o) (body_is_there held.top.held p held.body held.holds)

pub safe_sound : (w : World) (a : State) → IsSafe w a → IsSound w a
safe_sound w a safe = record {
  many = safe.many;
  tiers = λ k t at. record { tier = safe.tiers k t at; set_up = safe.set_up k t at; bodies = safe.bodies k t at };
  tied = record {
    top = λ t at. let many = many_patches w 0 t (safe.set_up 0 t at) in record {
      held = λ p within. safe.held_where_odd t p at (omega arith);
      pins = λ p within. sym (safe.pins_are_base t p at (omega arith));
      low = λ p comes. safe.coming_is_low t p at comes;
    };
  };
  no_pins = safe.no_other_pins;
  base_odd = λ p base. held_is_odd w a safe p (safe.base_is_held p base);
  seats = λ i s at. record {
    number = safe.numbers i s at;
    is = safe.seats i s at;
    locked = λ p locked. held_is_odd w a safe p (safe.locked_are_held i s p at locked);
  };
  sets = λ i p. by_seat i p (a.sessions i) refl;
}
  where
    by_seat : (i p : ℕ) (seat : Option SessionState) → a.sessions i ≡ seat → a.users i p ≡ seat_uses seat p
    by_seat i p None at = safe.no_other_sets i p at
    by_seat i p (Some s) at = safe.sets_are_uses i s p at
