-- A settling that is read is one of the tiers.
use Rattle.std.proofs.Common.{◌≡◌, ◌≢◌, ℕ, zero, suc, ◌+◌, Bool, true, false, List, [], ◌∷◌, ◌++◌, length, refl, sym, ap, subst, ◌∙◌, append_assoc, append-nil}
use Rattle.std.proofs.lemmas.List.{length-set}
use Rattle.tier_model.specs.declared.turns.Turn.{Turn}
use Rattle.tier_model.specs.declared.turns.Turn.TheVariants.{Reserve, Evict, Kept, Got, Lost, Fault, Changed, Commit, Idle}
use Rattle.run_model.specs.States.{State, moved}
use Rattle.run_model.specs.Turning.{TurnsTo}
use Rattle.run_model.specs.Lines.{IdlesTo, LastTurn, MoreTurns, AllSettled, TierSettles}
use Rattle.run_model.specs.LineTexts.{turn_line, turn_lines}
use Rattle.audit_lines.specs.Places.{line_feeds}
use Rattle.audit_lines.specs.Readers.{IsNothing}
use Rattle.audit_settling.specs.Settlings.{Settling, IsSettling, Standing, Moved, is_idle, UnlessIdle, AreTurnsRead, most_turns, AreTiersRead, FitTurns, Settled}
use Rattle.audit_settling.specs.TurnsRead.{TurnRead, turn_is}

idle_is : (answer : Turn) → is_idle answer ≡ true → answer ≡ Idle
idle_is Idle is = refl
idle_is (Reserve p) is = absurd (cc)
idle_is (Evict p) is = absurd (cc)
idle_is (Kept p uses) is = absurd (cc)
idle_is (Got p) is = absurd (cc)
idle_is (Lost p) is = absurd (cc)
idle_is (Fault p) is = absurd (cc)
idle_is (Changed p fault) is = absurd (cc)
idle_is (Commit p) is = absurd (cc)

not_idle : (answer : Turn) → is_idle answer ≡ false → answer ≢ Idle
not_idle answer other same = absurd (let idle = ap is_idle same in cc)

many_after : (a : Settling) (k : ℕ) (r : Standing) (m : Moved) (text : List ℕ) → TurnRead a k r m text
    → length r.state.chain.tiers ≡ length a.world.budgets → length m.next.state.chain.tiers ≡ length a.world.budgets
unfolding moved
many_after a k r m text read many =
    ap (λ (s : State). length s.chain.tiers) read.turns.is ∙ length-set r.state.chain.tiers k read.turns.after ∙ many

fit_both : (xs ys : List (ℕ × Turn)) → FitTurns xs → FitTurns ys → FitTurns (xs ++ ys)
fit_both [] ys first last = last
fit_both (x ∷ xs) ys first last = (first.0, fit_both xs ys first.1 last)

pub lines_both : (xs ys : List (ℕ × Turn)) → turn_lines (xs ++ ys) ≡ turn_lines xs ++ turn_lines ys
unfolding turn_lines
lines_both [] ys = refl
lines_both (x ∷ xs) ys = ap (λ (rest : List ℕ). turn_line x.0 x.1 ++ rest) (lines_both xs ys)
    ∙ sym (append_assoc (turn_line x.0 x.1) (turn_lines xs) (turn_lines ys))

-- turns of tier k until one is idle
record Idled (a : Settling) (k : ℕ) (r s : Standing) (text : List ℕ) : Type 0 where
  turns : List (ℕ × Turn)
  idles : IdlesTo a.world k r.state turns s.state
  log : s.log ≡ r.log ++ turns
  fits : FitTurns turns
  is : text ≡ turn_lines turns
  many : length s.state.chain.tiers ≡ length a.world.budgets

module _ (a : Settling) (settling : IsSettling a) where
  last_turn : (k : ℕ) (r : Standing) (m : Moved) (s : Standing) (line : ℕ) (front back : List ℕ)
      → TurnRead a k r m front → m.answer ≡ Idle → IsNothing m.next line s back
      → length m.next.state.chain.tiers ≡ length a.world.budgets → Idled a k r s (front ++ back)
  unfolding turn_lines
  last_turn k r m s line front back read idle none many =
      let P : Standing → Type 0 = λ n. Idled a k r n (front ++ back) in
      subst P (sym none.value) (record {
        turns = (k, Idle) ∷ [];
        idles = LastTurn (subst (λ (x : Turn). TurnsTo a.world k r.state x m.next.state) idle read.turns);
        log = read.log ∙ ap (λ (x : Turn). r.log ++ ((k, x) ∷ [])) idle;
        fits = (tt, tt);
        is = ap (λ (rest : List ℕ). front ++ rest) none.is
            ∙ ap (λ (text : List ℕ). text ++ []) (read.is ∙ ap (turn_line k) idle);
        many = many;
      })

  more_turns : (k : ℕ) (r : Standing) (m : Moved) (s : Standing) (front back : List ℕ) → TurnRead a k r m front
      → m.answer ≢ Idle → Idled a k m.next s back → Idled a k r s (front ++ back)
  unfolding turn_lines
  more_turns k r m s front back read on rest = record {
    turns = (k, m.answer) ∷ rest.turns;
    idles = MoreTurns m.answer on read.turns rest.idles;
    log = rest.log ∙ ap (λ (log : List (ℕ × Turn)). log ++ rest.turns) read.log
        ∙ append_assoc r.log ((k, m.answer) ∷ []) rest.turns;
    fits = (read.fits, rest.fits);
    is = ap (λ (text : List ℕ). text ++ back) read.is ∙ ap (λ (text : List ℕ). turn_line k m.answer ++ text) rest.is;
    many = rest.many;
  }

  turns_are : (k most : ℕ) (r : Standing) (line : ℕ) (s : Standing) (text : List ℕ)
      → length r.state.chain.tiers ≡ length a.world.budgets → AreTurnsRead a k most r line s text → Idled a k r s text
  turns_are k zero r line s text many are = elim are [ ]
  turns_are k (suc most) r line s text many are =
      let m = are.value in
      let read = turn_is a settling k r many line m are.front are.first in
      let after = many_after a k r m are.front read many in
      subst (Idled a k r s) (sym are.is)
      (by_idle (is_idle m.answer) refl are.next read after
      (λ next. turns_are k most m.next (line_feeds are.front + line) s are.back after next))
    where
      by_idle : (idle : Bool) → is_idle are.value.answer ≡ idle
          → UnlessIdle idle are.value.next (AreTurnsRead a k most are.value.next)
          (line_feeds are.front + line) s are.back → TurnRead a k r are.value are.front
          → length are.value.next.state.chain.tiers ≡ length a.world.budgets
          → (AreTurnsRead a k most are.value.next (line_feeds are.front + line) s are.back
          → Idled a k are.value.next s are.back) → Idled a k r s (are.front ++ are.back)
      by_idle true idle next read after on = last_turn k r are.value s
          (line_feeds are.front + line) are.front are.back read (idle_is are.value.answer idle) next after
      by_idle false idle next read after on = more_turns k r are.value s are.front are.back read
          (not_idle are.value.answer idle) (on next)

  -- a settling that is read is one of the first n tiers
  pub tiers_are : (n : ℕ) (r : Standing) (line : ℕ) (s : Standing) (text : List ℕ)
      → length r.state.chain.tiers ≡ length a.world.budgets → AreTiersRead a n r line s text → Settled a n r s text
  unfolding turn_lines
  tiers_are zero r line s text many none =
      let P : Standing → Type 0 = λ n. Settled a zero r n text in
      subst P (sym none.value)
      (record { turns = []; settles = AllSettled; log = sym (append-nil r.log); fits = tt; is = none.is })
  tiers_are (suc n) r line s text many are =
      let first = turns_are n (most_turns a.world) r line are.value are.front many are.first in
      let rest = tiers_are n are.value (line_feeds are.front + line) s are.back first.many are.next in
      record {
        turns = first.turns ++ rest.turns;
        settles = TierSettles first.idles rest.settles;
        log = rest.log ∙ ap (λ (log : List (ℕ × Turn)). log ++ rest.turns) first.log
            ∙ append_assoc r.log first.turns rest.turns;
        fits = fit_both first.turns rest.turns first.fits rest.fits;
        is =
            are.is
            ∙ ap (λ (front : List ℕ). front ++ are.back) first.is
            ∙ ap (λ (back : List ℕ). turn_lines first.turns ++ back) rest.is
            ∙ sym (lines_both first.turns rest.turns);
      }
