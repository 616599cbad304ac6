-- What a turn over the wishes that a tier keeps leaves of what its journal says of the floor.
use Rattle.std.proofs.Common.{◌≡◌, ℕ, ◌≤◌, Bool, true, List, Option, Some, None, Result, Ok, Err, IfOk, IfSome, sym, ap, subst, ◌∙◌, arith}
use Rattle.std.specs.Borrow.{GName}
use Rattle.file_model.specs.declared.faults.FileFault.{FileFault}
use Rattle.file_model.specs.Lists.{IndexLists, SeenBody}
use Rattle.view_outside.specs.Faults.{RoseBy, RoseBy-sum}
use Rattle.view_outside.specs.Files.{Named, HasFile, file_bytes}
use Rattle.view_outside.specs.Taken.{taken_after}
use Rattle.body_loads.specs.Loads.{body_at}
use Rattle.body_loads.specs.LoadLaws.{loads_no_fault}
use Rattle.token_table.specs.Setups.{Setup}
use Rattle.tier_model.specs.declared.turns.Turn.{Turn}
use Rattle.tier_model.specs.Tiers.{TierState}
use Rattle.tier_model.specs.Answers.{IfChanged}
use Rattle.tier_model.specs.Counts.{got_bytes, faults_in, lost_in, changes_in}
use Rattle.tier_model.specs.JournalCounts.{faults-more, lost-more, changes-more, got-more}
use Rattle.transfer_step.specs.TurnWords.{told_of}
use Rattle.cache_chain.specs.ChainStates.{FindsChanged}
use Rattle.cache_chain.specs.WordTurns.{TurnsStore, NeverFails}
use Rattle.level_model.specs.Levels.{FloorSeen, IsFileOf, IsOverStore, IsOverTier}
use Rattle.level_model.specs.LevelTurns.{TurnsRanked, KeepsFloor}
use Rattle.level_model.specs.TurnCounts.{fault_rises, never_fails, never_loses, never_changes, rises_later, takes_body}
use Rattle.level_model.specs.KeptTops.{JournalGrows, journal_grows}

-- ---- what was found to have changed

changes_kept : {E : Type 0} (finds : ℕ → FileFault → Type 0) (result : Result Turn E) (s t : TierState)
    → ((p : ℕ) (fault : FileFault) → finds p fault → ⊥) → IfOk result (λ answer. IfChanged answer finds)
    → JournalGrows result s t → changes_in s.journal ≡ 0 → changes_in t.journal ≡ 0
changes_kept finds (Ok answer) s t none changed grows before =
    let now = ap changes_in grows ∙ changes-more s.journal answer in
    let here = never_changes finds answer none changed in
    omega arith
changes_kept finds (Err e) s t none changed grows before = ap changes_in grows ∙ before

-- where the bytes are told and the index is their file's, nothing
pub none_changed : {E : Type 0} (index : IndexLists) (bytes : Option (List ℕ)) (result : Result Turn E)
    (s t : TierState) → IsFileOf index bytes → IfOk result (λ answer. IfChanged answer (FindsChanged index bytes))
    → JournalGrows result s t → IfSome bytes (λ _. changes_in s.journal ≡ 0)
    → IfSome bytes (λ _. changes_in t.journal ≡ 0)
none_changed index None result s t right changed grows before = tt
none_changed index (Some bs) result s t right changed grows before =
    let file = right.told in
    changes_kept (FindsChanged index (Some bs)) result s t
    (λ p fault found. loads_no_fault bs file.0 p fault file.1
    (subst (λ (i : IndexLists). body_at i bs p ≡ Some (Err fault)) (sym file.2) found))
    changed grows before

-- ---- over a store

-- the floor is the same, but for the counts, and the journal fits them
again_over : (setup : Setup) (lender : GName) (s t : TierState) (floor after : FloorSeen) → KeepsFloor floor after
    → lost_in t.journal ≡ 0 → RoseBy (faults_in t.journal) setup.faults after.faults
    → taken_after setup.taken (got_bytes t.sizes t.journal) ≤ after.taken → IsOverStore setup lender s floor
    → IsOverStore setup lender t after
again_over setup lender s t floor after same lost faults taken over = record {
  there = subst (λ (files : Option (List Named)). HasFile files after.file) (sym same.files)
      (subst (λ (file : ℕ). HasFile floor.files file) (sym same.file) over.there);
  bytes = ap (λ (files : Option (List Named)). file_bytes files after.file) same.files
      ∙ ap (file_bytes floor.files) same.file ∙ over.bytes;
  lent = same.lender ∙ over.lent;
  lost = lost;
  faults = faults;
  taken = taken;
}

pub over_store_kept : {E : Type 0} (setup : Setup) (lender : GName) (finds : ℕ → FileFault → Type 0) (top : Bool)
    (epochs : ℕ → ℕ) (gives : ℕ → SeenBody → Type 0) (result : Result Turn E) (s t : TierState)
    (floor after : FloorSeen)
    → TurnsRanked (told_of (λ _. true) top epochs) gives result s t → KeepsFloor floor after
    → TurnsStore finds s result floor.faults after.faults floor.taken after.taken
    → IsOverStore setup lender s floor → IsOverStore setup lender t after
over_store_kept setup lender finds top epochs gives (Ok answer) s t floor after turned same store over =
    let grows = journal_grows (told_of (λ _. true) top epochs) gives (Ok answer) s t turned in
    let lost = ap lost_in grows ∙ lost-more s.journal answer in
    let none = never_loses answer turned.lost in
    let faults = ap faults_in grows ∙ faults-more s.journal answer in
    let rose = RoseBy-sum _ _ _ _ _ over.faults (fault_rises answer floor.faults after.faults store.fault
    store.later) in
    let got = ap (λ (sizes : List ℕ). got_bytes sizes t.journal) turned.same.sizes ∙ ap (got_bytes s.sizes) grows
    ∙ got-more s.sizes s.journal answer in
    let takes = takes_body s.sizes answer floor.taken after.taken store.taken in
    let before = over.taken in
    let few = over.lost in
    again_over setup lender s t floor after same (omega arith)
    (subst (λ (n : ℕ). RoseBy n setup.faults after.faults) (sym faults) rose) (omega arith) over
over_store_kept setup lender finds top epochs gives (Err e) s t floor after turned same store over =
    let stays = turned.none in
    let later = rises_later floor.taken after.taken _ store.taken in
    let rose = over.faults in
    let grown = store.later in
    let before = over.taken in
    subst (λ (x : TierState). IsOverStore setup lender x after) (sym stays)
    (again_over setup lender s s floor after same over.lost (omega arith) (omega arith) over)

-- ---- over another tier

pub over_tier_kept : {E : Type 0} (result : Result Turn E) (s t : TierState) → JournalGrows result s t
    → NeverFails result → IsOverTier s → IsOverTier t
over_tier_kept {E = E} (Ok answer) s t grows never over =
    let faults = ap faults_in grows ∙ faults-more s.journal answer in
    let none = never_fails answer never.fault in
    let before = over.faults in
    record {
      faults = omega arith;
      changes = changes_kept {E = E} (λ _ _. ⊥) (Ok answer) s t
          (λ p fault found. found) never.changed grows over.changes;
    }
over_tier_kept (Err e) s t grows never over = record {
  faults = ap faults_in grows ∙ over.faults;
  changes = ap
      changes_in grows ∙ over.changes;
}

pub said : {X : Type 0} (P : Type 0) (told : Option X) → P → IfSome told (λ _. P)
said P None is = tt
said P (Some x) is = is
