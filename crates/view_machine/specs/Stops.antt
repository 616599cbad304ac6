-- Where a run stands that was refused memory.
use Rattle.std.proofs.Common.{◌≡◌, ℕ, zero, suc, ◌<◌, ◌≤◌, Bool, false, List, length, Some, sym, ap, subst, ◌∙◌, arith, inl, inr}
use Rattle.std.specs.Prelude.{slice_get, slice_set}
use Rattle.std.proofs.lemmas.Bool.{cases_eq}
use Rattle.std.proofs.lemmas.List.{length-set}
use Rattle.tier_model.specs.Places.{is_marked}
use Rattle.tier_model.specs.Tiers.{TierState}
use Rattle.tier_model.specs.Turns.{begun}
use Rattle.tier_laws.specs.BodyLaws.{get-set_same, get-set_other}
use Rattle.tier_laws.specs.TierLaws.{IsTier-begun}
use Rattle.tier_laws.specs.TieLaws.{tied-begun}
use Rattle.tier_laws.specs.TurnLaws.{begun_places, begun_version, begun_wishes}
use Rattle.tier_model.specs.Keeping.{KeepsWishes}
use Rattle.tier_model.specs.Ties.{IsTied}
use Rattle.run_model.specs.Worlds.{World, is_base, IsWorld}
use Rattle.run_model.specs.States.{State, board_of}
use Rattle.run_model.specs.Events.{Reaches}
use Rattle.run_model.specs.Safe.{IsSafe}
use Rattle.run_laws.specs.SafeLaws.{events_keep_safe}
use Rattle.run_model.specs.Kept.{TakeWishes}
use Rattle.run_laws.specs.KeptLaws.{events_take}
use Rattle.run_laws.specs.Sound.{IsTierOf, IsSound, sound_safe, safe_sound}
use Rattle.run_laws.specs.BodyLaws.{bodies-begun}

-- tier k has begun its turn: where the posted views have changed, it has taken their wishes
unfoldable pub began : World → State → ℕ → TierState → State
began w a k t = record a { chain = record a.chain { tiers = slice_set a.chain.tiers k (begun (board_of w a) t) } }

-- events lead there, but that at most one tier has begun a turn that it didn't make
pub data StopsAt (w : World) (a : State) : State → Type 0 where
  AtEvents : {b : State} → Reaches w a b → StopsAt w a b
  AtTurn : {b : State} (k : ℕ) (t : TierState) → Reaches w a b → slice_get b.chain.tiers k ≡ Some t → StopsAt w a (began w b k t)

-- ---- a tier that has begun its turn is still safe

begun_tier : (w : World) (a : State) (k : ℕ) (t : TierState) → IsTierOf w k t → IsTierOf w k (begun (board_of w a) t)
begun_tier w a k t of_world =
    let same = begun_places (board_of w a) t in
    record {
      tier = IsTier-begun (board_of w a) t of_world.tier;
      set_up = record {
        made = record { sizes = same.sizes ∙ of_world.set_up.made.sizes; base = same.base ∙ of_world.set_up.made.base };
        budget = of_world.set_up.budget ∙ ap Some (sym same.budget);
        width = same.width ∙ of_world.set_up.width;
      };
      bodies = bodies-begun w (board_of w a) t of_world.bodies;
    }

-- what holds of each tier, holds still after one is changed of which it holds
each_still : (P : ℕ → TierState → Type 0) (tiers : List TierState) (k : ℕ) (after : TierState) → ((j : ℕ) (t : TierState) → slice_get tiers j ≡ Some t → P j t) → P k after → (j : ℕ) (t : TierState) → slice_get (slice_set tiers k after) j ≡ Some t → P j t
each_still P tiers k after each here j t at =
    elim (cases_eq j k) [
      | inl same ↦ subst (λ (n : ℕ). P n t) (sym same) (subst (P k) (get-set_same tiers k after t (subst (λ (n : ℕ). slice_get (slice_set tiers k after) n ≡ Some t) same at)) here)
      | inr ne ↦ each j t (sym (get-set_other tiers k j after ne) ∙ at)
    ]

-- the top tier is tied, and no other tier has pins
abbrev IsPinned : World → State → ℕ → TierState → Type 0
IsPinned w a zero t = IsTied t a.chain.epochs (is_base w)
IsPinned w a (suc k) t = (p : ℕ) → is_marked t.pinned p ≡ false

pinned_in : (w : World) (a : State) → IsSound w a → (k : ℕ) (t : TierState) → slice_get a.chain.tiers k ≡ Some t → IsPinned w a k t
pinned_in w a sound zero t at = sound.tied.top t at
pinned_in w a sound (suc k) t at = λ p. sound.no_pins k t p at

pinned_begun : (w : World) (a : State) (k : ℕ) (t : TierState) → IsPinned w a k t → IsPinned w a k (begun (board_of w a) t)
pinned_begun w a zero t is = tied-begun (board_of w a) t a.chain.epochs (is_base w) is
pinned_begun w a (suc k) t is = λ p. ap (λ (marks : List Bool). is_marked marks p) (begun_places (board_of w a) t).pinned ∙ is p

began_sound : (w : World) (a : State) (k : ℕ) (t : TierState) → IsSound w a → slice_get a.chain.tiers k ≡ Some t → IsSound w (began w a k t)
unfolding began
began_sound w a k t sound at =
    let now = begun (board_of w a) t in
    let tiers = each_still (IsTierOf w) a.chain.tiers k now sound.tiers (begun_tier w a k t (sound.tiers k t at)) in
    let pins = each_still (IsPinned w a) a.chain.tiers k now (pinned_in w a sound) (pinned_begun w a k t (pinned_in w a sound k t at)) in
    record {
      many = length-set a.chain.tiers k now ∙ sound.many;
      tiers = tiers;
      tied = record { top = λ s there. pins 0 s there };
      no_pins = λ j s p there. pins (suc j) s there p;
      base_odd = sound.base_odd;
      seats = sound.seats;
      sets = sound.sets;
    }

pub began_safe : (w : World) (a : State) (k : ℕ) (t : TierState) → IsWorld w → IsSafe w a → slice_get a.chain.tiers k ≡ Some t → IsSafe w (began w a k t)
began_safe w a k t world safe at = sound_safe w (began w a k t) world (began_sound w a k t (safe_sound w a safe) at)

-- where a run stops, its state is safe
pub stops_safe : (w : World) (a b : State) → IsWorld w → IsSafe w a → StopsAt w a b → IsSafe w b
stops_safe w a b world safe (AtEvents reaches) = events_keep_safe w a b world safe reaches
stops_safe w a _ world safe (AtTurn {b = b} k t reaches at) = began_safe w b k t world (events_keep_safe w a b world safe reaches) at

-- ---- and it has taken the board's wishes

keeps-begun : (w : World) (a : State) (t : TierState) → KeepsWishes (board_of w a) t → KeepsWishes (board_of w a) (begun (board_of w a) t)
keeps-begun w a t keeps = record {
  wishes = λ same p within. begun_wishes (board_of w a) t keeps p (subst (λ (sizes : List ℕ). p < length sizes) (begun_places (board_of w a) t).sizes within);
}

began_take : (w : World) (a : State) (k : ℕ) (t : TierState) → TakeWishes w a → slice_get a.chain.tiers k ≡ Some t → TakeWishes w (began w a k t)
unfolding began board_of
began_take w a k t take at =
    let now = begun (board_of w a) t in
    let same : now.version ≡ a.version = begun_version (board_of w a) t in
    record {
      versions = each_still (λ j s. s.version ≤ a.version) a.chain.tiers k now take.versions (omega arith);
      wishes = each_still (λ j s. KeepsWishes (board_of w a) s) a.chain.tiers k now take.wishes (keeps-begun w a t (take.wishes k t at));
    }

pub stops_take : (w : World) (a b : State) → IsWorld w → IsSafe w a → TakeWishes w a → StopsAt w a b → TakeWishes w b
stops_take w a b world safe take (AtEvents reaches) = events_take w a b world safe reaches take
stops_take w a _ world safe take (AtTurn {b = b} k t reaches at) = began_take w b k t (events_take w a b world safe reaches take) at
