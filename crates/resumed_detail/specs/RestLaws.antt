-- Behind sessions that joined tiers at rest, a settling that has room is ready.
use Rattle.std.proofs.Common.{◌≡◌, ℕ, ◌≤◌, Bool, true, false, ◌&&◌, ltb, List, Option, Some, None, refl, sym, ap, subst, ◌∙◌}
use Rattle.std.proofs.Math.Path.{fun_ext}
use Rattle.std.specs.Prelude.{slice_get}
use Rattle.std.specs.Option.{option_map_or}
use Rattle.std.proofs.lemmas.Bool.{or_from}
use Rattle.round_model.specs.Views.{view_rules}
use Rattle.round_laws.specs.Wanted.{FitsWanted}
use Rattle.session_model.specs.Sessions.{round_ended, with_view, counted_from}
use Rattle.token_words.specs.Sessions.{session_count, session_count-none}
use Rattle.tier_model.specs.Places.{is_marked}
use Rattle.tier_model.specs.Tiers.{TierState}
use Rattle.tier_model.specs.Chains.{is_top}
use Rattle.detail_laws.specs.Needs.{needed_bytes}
use Rattle.run_model.specs.Worlds.{World, IsWorld}
use Rattle.run_model.specs.States.{State, board_of}
use Rattle.bench_laws.specs.Settlings.{in_use, was_passed, passed_or_used, KeepsBases, IsReadyToSettle, IsReadyToShow}
use Rattle.resumed_model.specs.Resting.{resting, AreResting, GoesOn}
use Rattle.resumed_model.specs.Rejoins.{Viewer, Rejoin, joined_session, Stands}
use Rattle.resumed_model.specs.RestingLaws.{resting_goes_on}
use Rattle.resumed_model.specs.RejoinLaws.{rejoined_goes_on, rejoined_chain, rejoined_unused}
use Rattle.resumed_detail.specs.SettledViews.{HoldsWished}

none_of : (top : Bool) (n : ℕ) → n ≡ 0 → (top && ltb 0 n) ≡ false
none_of true n none = ap (ltb 0) none
none_of false n none = refl

module _ (w : World) (tiers : List TierState) (epochs : ℕ → ℕ) (are : AreResting w tiers epochs) (vs : List Viewer)
    (a : State) (joined : Rejoin w (resting tiers epochs) vs a) where
  pub goes_on : IsWorld w → GoesOn w a
  goes_on world = rejoined_goes_on w (resting tiers epochs) a vs world (resting_goes_on w tiers epochs are world) joined

  tiers_are : a.chain.tiers ≡ tiers
  unfolding resting
  tiers_are = ap (λ c. c.tiers) (rejoined_chain w (resting tiers epochs) a vs joined)

  tier_at : (k : ℕ) (t : TierState) → slice_get a.chain.tiers k ≡ Some t → slice_get tiers k ≡ Some t
  tier_at k t at = ap (λ (ts : List TierState). slice_get ts k) (sym tiers_are) ∙ at

  pub bases_stay : KeepsBases (resting tiers epochs) → KeepsBases a
  unfolding resting
  bases_stay bases k t at = bases k t (tier_at k t at)

  -- ---- nothing is passed over or in use

  unused : (p i : ℕ) → a.users i p ≡ false
  unfolding resting
  unused p i = rejoined_unused w (resting tiers epochs) a vs p (λ j. refl) joined i

  none_passed : (k p : ℕ) → was_passed a k p ≡ false
  none_passed k p = by (slice_get a.chain.tiers k) refl
    where
      by : (found : Option TierState) → slice_get a.chain.tiers k ≡ found
          → option_map_or (λ (t : TierState). is_marked t.passed p) found false ≡ false
      by None at = refl
      by (Some t) at = (are.at_rest k t (tier_at k t at)).none_passed p

  none_used : (k p : ℕ) → in_use a k p ≡ false
  none_used k p =
      none_of (is_top k) (session_count (λ i. a.users i p))
      (session_count-none (λ i. a.users i p) (λ i number. unused p i))

  pub none_needed : (k : ℕ) → passed_or_used a k ≡ (λ p. false)
  none_needed k = fun_ext (λ p. or_from (was_passed a k p) (in_use a k p) (none_passed k p) (none_used k p))

  pub is_ready : HoldsWished w a → IsReadyToSettle w a
  is_ready holds = record {
    room = λ k t at. subst (λ (used : ℕ → Bool). needed_bytes t (board_of w a).wish used ≤ t.budget)
        (sym (none_needed k)) (holds.room k t at);
    none_aside = λ k t at. (are.at_rest k t (tier_at k t at)).none_aside;
    low = holds.low;
  }

-- a session that joined has a view and no round
pub is_shown : (w : World) (a : State) (v : Viewer) → Stands w a v → FitsWanted (view_rules v.view w.mesh)
    → IsReadyToShow w a v.session v.view
unfolding counted_from with_view round_ended
is_shown w a v stands fits = record {
  session = joined_session w v;
  at = stands.at;
  viewed = refl;
  fresh = refl;
  fits = fits;
}
