-- What turns of a chain raise the counts of its store by.
use Rattle.std.proofs.Common.{◌≡◌, ℕ, suc, ◌+◌, ◌<◌, ◌≤◌, Bool, true, false, List, [], ◌∷◌, ◌++◌, length, Option, Some, None, Err, if◌then◌else◌, inl, inr, refl, sym, ap, subst, ◌∙◌, arith}
use Rattle.std.specs.Prelude.{slice_get, slice_index}
use Rattle.std.proofs.lemmas.Bool.{eq-eqb, ne_eqb}
use Rattle.std.proofs.lemmas.Option.{same_Some, slice_get_within, slice_get_cases}
use Rattle.file_model.specs.declared.faults.FileFault.{FileFault}
use Rattle.file_model.specs.Lists.{BodyLists, IndexLists, no_body}
use Rattle.session_model.specs.Sessions.{SessionState}
use Rattle.tier_model.specs.declared.turns.Turn.{Turn}
use Rattle.tier_model.specs.declared.turns.Turn.TheVariants.{Reserve, Evict, Kept, Got, Lost, Fault, Changed, Commit, Idle}
use Rattle.tier_model.specs.Answers.{IfFault, IfChanged}
use Rattle.tier_model.specs.Counts.{bytes_got, got_bytes, is_fault, faults_in}
use Rattle.tier_model.specs.JournalCounts.{faults-append, got-append}
use Rattle.tier_model.specs.Ranks.{Posted}
use Rattle.tier_model.specs.Tiers.{TierState, sizes_of}
use Rattle.view_outside.specs.Faults.{Rose, RoseBy, RoseBy-sum}
use Rattle.view_outside.specs.Taken.{taken_after, taken_after-zero, taken_after-taken_after}
use Rattle.transfer_step.specs.TurnWords.{TurnTakes}
use Rattle.cache_chain.specs.ChainStates.{FindsChanged}
use Rattle.cache_chain.specs.Turning.{AtLowest}
use Rattle.cache_chain.specs.TurnRuns.{Setting, Moment, MakesTurn, MakesTurns, Begins, Then}
use Rattle.run_model.specs.Worlds.{World, IsWorld}
use Rattle.run_model.specs.RunTexts.{is_lowest, lowest_turns}
use Rattle.run_model.specs.Safe.{IsSafe}
use Rattle.view_machine.specs.LineCounts.{IsNoFailure, HasNoFailure, IsNoChange, HasNoChange, TellsBodies, CountsTurns, rises_none, counts_none}
use Rattle.view_machine.specs.SettleStates.{all_made}
use Rattle.body_loads.specs.ToldBodies.{told_bodies, said_bodies, said_of}
use Rattle.view_machine.specs.TurnStates.{state_at, IsSettingOf}

-- ---- turns, and then more turns

if_both : (b : Bool) (x : Turn) (all first last : List Turn) → all ≡ first ++ last → (if b then x ∷ all else all) ≡ (if b then x ∷ first else first) ++ last
if_both true x all first last is = ap (λ (ts : List Turn). x ∷ ts) is
if_both false x all first last is = is

lowest_both : (w : World) (first last : List (ℕ × Turn)) → lowest_turns w (first ++ last) ≡ lowest_turns w first ++ lowest_turns w last
unfolding lowest_turns
lowest_both w [] last = refl
lowest_both w (t ∷ ts) last = if_both (is_lowest w t.0) t.1 (lowest_turns w (ts ++ last)) (lowest_turns w ts) (lowest_turns w last) (lowest_both w ts last)

no_failure_first : (first last : List (ℕ × Turn)) → HasNoFailure (first ++ last) → HasNoFailure first
no_failure_first [] last none = tt
no_failure_first (t ∷ ts) last none = (none.0, no_failure_first ts last none.1)

no_failure_last : (first last : List (ℕ × Turn)) → HasNoFailure (first ++ last) → HasNoFailure last
no_failure_last [] last none = none
no_failure_last (t ∷ ts) last none = no_failure_last ts last none.1

no_change_both : (first last : List (ℕ × Turn)) → HasNoChange first → HasNoChange last → HasNoChange (first ++ last)
no_change_both [] last before after = after
no_change_both (t ∷ ts) last before after = (before.0, no_change_both ts last before.1 after)

counts_both : (w : World) (first last : List (ℕ × Turn)) (f g h t u v : ℕ) → CountsTurns w first f g t u → CountsTurns w last g h u v → CountsTurns w (first ++ last) f h t v
counts_both w first last f g h t u v before after =
    let lows = lowest_turns w first in
    let more = lowest_turns w last in
    let sizes = sizes_of w.mesh.index in
    let faults : faults_in (lowest_turns w (first ++ last)) ≡ faults_in lows + faults_in more = ap faults_in (lowest_both w first last) ∙ faults-append lows more in
    let bytes : got_bytes sizes (lowest_turns w (first ++ last)) ≡ got_bytes sizes lows + got_bytes sizes more = ap (got_bytes sizes) (lowest_both w first last) ∙ got-append sizes lows more in
    record {
      faults = subst (λ (n : ℕ). RoseBy n f h) (sym faults) (RoseBy-sum (faults_in lows) (faults_in more) f g h before.faults after.faults);
      unchanged = λ tells. no_change_both first last (before.unchanged tells) (after.unchanged tells);
      taken = λ none.
          after.taken (no_failure_last first last none) ∙ ap (λ (n : ℕ). taken_after n (got_bytes sizes more)) (before.taken (no_failure_first first last none))
          ∙ taken_after-taken_after t (got_bytes sizes lows) (got_bytes sizes more) ∙ ap (taken_after t) (sym bytes);
    }

-- ---- one turn

rises_with : (tiers : List TierState) (k : ℕ) (answer : Turn) (before now : ℕ) → IfFault answer (λ _. AtLowest tiers k (Rose before now)) → before ≤ now → RoseBy (is_fault answer + 0) before now
unfolding is_fault
rises_with tiers k (Fault p) before now rose later = rose.1
rises_with tiers k (Reserve p) before now rose later = rises_none before now later
rises_with tiers k (Evict p) before now rose later = rises_none before now later
rises_with tiers k (Kept p uses) before now rose later = rises_none before now later
rises_with tiers k (Got p) before now rose later = rises_none before now later
rises_with tiers k (Lost p) before now rose later = rises_none before now later
rises_with tiers k (Changed p fault) before now rose later = rises_none before now later
rises_with tiers k (Commit p) before now rose later = rises_none before now later
rises_with tiers k Idle before now rose later = rises_none before now later

plus_none : (n : ℕ) → n ≡ n + 0
plus_none n = omega arith

takes_with : (sizes : List ℕ) (answer : Turn) (before now : ℕ) → TurnTakes sizes answer before now → IsNoFailure answer → now ≡ taken_after before (bytes_got sizes answer + 0)
unfolding bytes_got
takes_with sizes (Got p) before now takes none = takes ∙ ap (taken_after before) (plus_none (slice_index sizes p))
takes_with sizes (Fault p) before now takes none = absurd none
takes_with sizes (Changed p fault) before now takes none = absurd none
takes_with sizes (Reserve p) before now takes none = takes ∙ sym (taken_after-zero before)
takes_with sizes (Evict p) before now takes none = takes ∙ sym (taken_after-zero before)
takes_with sizes (Kept p uses) before now takes none = takes ∙ sym (taken_after-zero before)
takes_with sizes (Lost p) before now takes none = takes ∙ sym (taken_after-zero before)
takes_with sizes (Commit p) before now takes none = takes ∙ sym (taken_after-zero before)
takes_with sizes Idle before now takes none = takes ∙ sym (taken_after-zero before)

-- bytes that break the rule of a body are no told body
no_told_change : (w : World) (bytes : Option (List ℕ)) (p : ℕ) (fault : FileFault) → w.bodies ≡ told_bodies w.mesh.index bytes → TellsBodies w → FindsChanged w.mesh.index bytes p fault → ⊥
no_told_change w None p fault same tells found = absurd (let told = tells.told in cc)
no_told_change w (Some bs) p fault same tells found =
    let is : said_bodies w.mesh.index bs ≡ tells.bodies = same_Some (said_bodies w.mesh.index bs) tells.bodies (sym same ∙ tells.told) in
    let none : slice_get tells.bodies p ≡ Some no_body.lists = subst (λ (ls : List BodyLists). slice_get ls p ≡ Some no_body.lists) is (said_of w.mesh.index bs p (Err fault) found) in
    let some = tells.some_triangle p no_body.lists none in
    omega (arith, some)

unchanged_with : (w : World) (index : IndexLists) (bytes : Option (List ℕ)) (tiers : List TierState) (k : ℕ) (answer : Turn) → index ≡ w.mesh.index → w.bodies ≡ told_bodies w.mesh.index bytes
    → IfChanged answer (λ p fault. AtLowest tiers k (FindsChanged index bytes p fault)) → TellsBodies w → IsNoChange answer
unchanged_with w index bytes tiers k (Changed p fault) over same found tells = no_told_change w bytes p fault same tells (subst (λ (i : IndexLists). FindsChanged i bytes p fault) over found.1)
unchanged_with w index bytes tiers k (Reserve p) over same found tells = tt
unchanged_with w index bytes tiers k (Evict p) over same found tells = tt
unchanged_with w index bytes tiers k (Kept p uses) over same found tells = tt
unchanged_with w index bytes tiers k (Got p) over same found tells = tt
unchanged_with w index bytes tiers k (Lost p) over same found tells = tt
unchanged_with w index bytes tiers k (Fault p) over same found tells = tt
unchanged_with w index bytes tiers k (Commit p) over same found tells = tt
unchanged_with w index bytes tiers k Idle over same found tells = tt

-- of a turn of tier k, what counts where that tier is the lowest, and where it isn't
abbrev counted_of : Bool → Turn → List Turn
counted_of lowest answer = if lowest then answer ∷ [] else []

lowest_of_one : (w : World) (k : ℕ) (answer : Turn) → lowest_turns w ((k, answer) ∷ []) ≡ counted_of (is_lowest w k) answer
unfolding lowest_turns
lowest_of_one w k answer = refl

-- the counts of a turn whose turns of the lowest tier are these
counts_with : (w : World) (k : ℕ) (answer : Turn) (lows : List Turn) (f g t u : ℕ) → lowest_turns w ((k, answer) ∷ []) ≡ lows → RoseBy (faults_in lows) f g → (IsNoFailure answer → u ≡ taken_after t (got_bytes (sizes_of w.mesh.index) lows)) → (TellsBodies w → IsNoChange answer) → CountsTurns w ((k, answer) ∷ []) f g t u
counts_with w k answer lows f g t u is faults taken unchanged = record {
  unchanged = λ tells. (unchanged tells, tt);
  faults = subst (λ (ts : List Turn). RoseBy (faults_in ts) f g) (sym is) faults;
  taken = λ none. taken none.0 ∙ ap (λ (ts : List Turn). taken_after t (got_bytes (sizes_of w.mesh.index) ts)) (sym is);
}

less_differs : (m n : ℕ) → m < n → m ≡ n → ⊥
less_differs m n less same = omega arith

last_of : (k count budgets : ℕ) → k < count → count ≤ suc k → count ≡ budgets → suc k ≡ budgets
last_of k count budgets within few same = omega arith

module _ (w : World) (u : Setting) (k : ℕ) (answer : Turn) (m n : Moment) (many : length m.tiers ≡ length w.budgets) (sizes : (t : TierState) → slice_get m.tiers k ≡ Some t → t.sizes ≡ sizes_of w.mesh.index) (over : u.index ≡ w.mesh.index) (same : w.bodies ≡ told_bodies w.mesh.index u.bytes) (turn : MakesTurn u k answer m n) where
  no_change : TellsBodies w → IsNoChange answer
  no_change = unchanged_with w u.index u.bytes m.tiers k answer over same turn.changed

  within : k < length m.tiers
  within = slice_get_within m.tiers k turn.turn.before turn.turn.was

  lowest_counts : slice_get m.tiers (suc k) ≡ None → suc k ≡ length w.budgets → CountsTurns w ((k, answer) ∷ []) m.faults n.faults m.taken n.taken
  unfolding faults_in got_bytes
  lowest_counts none last =
      let lows : lowest_turns w ((k, answer) ∷ []) ≡ answer ∷ [] = lowest_of_one w k answer ∙ ap (λ (b : Bool). counted_of b answer) (eq-eqb (suc k) (length w.budgets) last) in
      let takes = subst (λ (ns : List ℕ). TurnTakes ns answer m.taken n.taken) (sizes turn.turn.before turn.turn.was) (turn.taken none turn.turn.before turn.turn.was) in
      counts_with w k answer (answer ∷ []) m.faults n.faults m.taken n.taken lows
      (rises_with m.tiers k answer m.faults n.faults turn.fault turn.later)
      (λ sound. takes_with (sizes_of w.mesh.index) answer m.taken n.taken takes sound) no_change

  upper_counts : (t : TierState) → slice_get m.tiers (suc k) ≡ Some t → suc k < length w.budgets → CountsTurns w ((k, answer) ∷ []) m.faults n.faults m.taken n.taken
  unfolding faults_in got_bytes
  upper_counts t at less =
      let lows : lowest_turns w ((k, answer) ∷ []) ≡ [] = lowest_of_one w k answer ∙ ap (λ (b : Bool). counted_of b answer) (ne_eqb (suc k) (length w.budgets) (less_differs (suc k) (length w.budgets) less)) in
      counts_with w k answer [] m.faults n.faults m.taken n.taken lows (rises_none m.faults n.faults turn.later) (λ sound. turn.upper t at ∙ sym (taken_after-zero m.taken)) no_change

  pub one_counts : CountsTurns w ((k, answer) ∷ []) m.faults n.faults m.taken n.taken
  one_counts =
      elim ((slice_get_cases m.tiers (suc k)).1) [
        | inl there ↦ upper_counts there.0 there.2 (subst (λ (count : ℕ). suc k < count) many there.1)
        | inr past ↦ lowest_counts past.1 (last_of k (length m.tiers) (length w.budgets) within past.0 many)
      ]

-- ---- turns one after another

module _ (w : World) (world : IsWorld w) (sessions : ℕ → Option SessionState) (posted : ℕ → Option Posted) (version : ℕ) (u : Setting) where
  pub turns_count : (m n : Moment) (log : List (ℕ × Turn)) → IsSettingOf w (state_at sessions posted version m) u → IsSafe w (state_at sessions posted version m) → MakesTurns u m log n → CountsTurns w log m.faults n.faults m.taken n.taken
  turns_count m n _ setting safe Begins = counts_none w m.faults m.faults m.taken (omega arith)
  turns_count m o _ setting safe (Then {made = made} {n = n} k answer earlier turn) =
      let before = all_made w world sessions posted version u m n made setting safe earlier in
      counts_both w made ((k, answer) ∷ []) m.faults n.faults o.faults m.taken n.taken o.taken
      (turns_count m n made setting safe earlier)
      (one_counts w u k answer n o before.safe.many (λ t at. (before.safe.set_up k t at).made.sizes) setting.index setting.bodies turn)
