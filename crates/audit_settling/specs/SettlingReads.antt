-- The readers of a settling read the texts of their relations.
use Rattle.std.proofs.Common.{ℕ, zero, suc, ◌^◌, ◌≤◌, Bool, true, false, Option, Some, None}
use Rattle.std.specs.Prelude.{slice_get}
use Rattle.tier_model.specs.Tiers.{TierState}
use Rattle.tier_model.specs.Turns.{Failed}
use Rattle.run_model.specs.Worlds.{patch_count}
use Rattle.run_model.specs.LineTexts.{turn_line}
use Rattle.run_model.specs.RunTexts.{is_lowest}
use Rattle.audit_lines.specs.Readers.{Reader, nothing, due_by_line, Relation, IsNothing, IsTold, Reads}
use Rattle.audit_lines.specs.ReaderLaws.{nothing_reads, due_reads}
use Rattle.audit_lines.specs.SequenceLaws.{then_reads}
use Rattle.audit_settling.specs.Settlings.{Settling, Standing, fetched_patch, below_gives, fetch_by, told_gives, moved_with, judge_outcome, outcome_text, IsOutcomeOf, read_turn_by, IsTurnBy, never, IsNever, read_turn_of, IsTurnOf, read_turn, IsTurnRead, is_idle, unless_idle, UnlessIdle, read_turns, AreTurnsRead, most_turns, read_tiers, AreTiersRead}
use Rattle.audit_settling.specs.OutcomeLines.{outcome_reads}

never_reads : {X : Type 0} → Reads (never {X = X}) IsNever
never_reads = record { sound = λ p read is. absurd (cc); complete = λ p q x text is behind. elim is [ ] }

module _ (a : Settling) (some : 1 ≤ patch_count a.world) (few : patch_count a.world ≤ 10 ^ 19) where
  turn_by_reads : (k : ℕ) (r : Standing) (t : TierState) (lowest : Bool) (fetch : Option ℕ)
      → Reads (read_turn_by a k r t lowest fetch) (IsTurnBy a k r t lowest fetch)
  turn_by_reads k r t true (Some p) =
      then_reads (due_by_line 0 (judge_outcome (patch_count a.world) k p) outcome_text)
      (λ outcome. nothing (moved_with a k r t (told_gives a outcome.turn)))
      (IsTold 0 (IsOutcomeOf (patch_count a.world) k p) outcome_text)
      (λ outcome. IsNothing (moved_with a k r t (told_gives a outcome.turn)))
      (outcome_reads (patch_count a.world) k p some few)
      (λ line outcome text is. nothing_reads (moved_with a k r t (told_gives a outcome.turn)))
  turn_by_reads k r t true None = let m = moved_with a k r t Failed in due_reads (turn_line k m.answer) m
  turn_by_reads k r t false fetch = let m = moved_with a k r t
      (fetch_by (below_gives r.state.chain.tiers k) fetch) in due_reads (turn_line k m.answer) m

  turn_of_reads : (k : ℕ) (r : Standing) (tier : Option TierState)
      → Reads (read_turn_of a k r tier) (IsTurnOf a k r tier)
  turn_of_reads k r None = never_reads
  turn_of_reads k r (Some t) = turn_by_reads k r t (is_lowest a.world k) (fetched_patch a.world r.state k t)

  pub turn_reads : (k : ℕ) (r : Standing) → Reads (read_turn a k r) (IsTurnRead a k r)
  turn_reads k r = turn_of_reads k r (slice_get r.state.chain.tiers k)

  idle_or_on : (idle : Bool) (s : Standing) (reader : Reader Standing) (Is : Relation Standing) → Reads reader Is
      → Reads (unless_idle idle s reader) (UnlessIdle idle s Is)
  idle_or_on true s reader Is reads = nothing_reads s
  idle_or_on false s reader Is reads = reads

  pub turns_read : (k most : ℕ) (r : Standing) → Reads (read_turns a k most r) (AreTurnsRead a k most r)
  turns_read k zero r = never_reads
  turns_read k (suc most) r =
      then_reads (read_turn a k r) (λ m. unless_idle (is_idle m.answer) m.next (read_turns a k most m.next))
      (IsTurnRead a k r) (λ m. UnlessIdle (is_idle m.answer) m.next (AreTurnsRead a k most m.next))
      (turn_reads k r)
      (λ line m text is. idle_or_on (is_idle m.answer) m.next (read_turns a k most m.next)
      (AreTurnsRead a k most m.next) (turns_read k most m.next))

  pub tiers_read : (n : ℕ) (r : Standing) → Reads (read_tiers a n r) (AreTiersRead a n r)
  tiers_read zero r = nothing_reads r
  tiers_read (suc n) r =
      then_reads (read_turns a n (most_turns a.world) r) (read_tiers a n) (AreTurnsRead a n (most_turns a.world) r)
      (AreTiersRead a n)
      (turns_read n (most_turns a.world) r) (λ line s text is. tiers_read n s)
