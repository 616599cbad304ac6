-- A tier's journal that is read is one that the tier can have come by, and the other way round.
use Rattle.std.proofs.Common.{◌≡◌, ℕ, zero, suc, ◌<◌, false, List, [], ◌∷◌, length, Some, refl}
use Rattle.std.specs.Prelude.{slice_get}
use Rattle.std.specs.List.{AllByRecursion}
use Rattle.std.proofs.lemmas.List.{length-map, length-replicate}
use Rattle.file_model.specs.declared.fields.PatchField.{PatchField}
use Rattle.mesh_model.specs.Graph.{is_root}
use Rattle.tier_model.specs.declared.turns.Turn.{Turn}
use Rattle.tier_model.specs.declared.turns.Turn.TheVariants.{Reserve, Evict, Kept, Got, Lost, Fault, Changed, Commit, Idle}
use Rattle.tier_model.specs.Tiers.{sizes_of}
use Rattle.run_model.specs.Worlds.{World, patch_count}
use Rattle.serve_model.specs.FittingFaults.{IsFitting}
use Rattle.serve_model.specs.Journals.{journal_text, pins_of, ReplaysAt}
use Rattle.audit_spelling.specs.Spellings.{IsEntry}
use Rattle.audit_journals.specs.Journals.{Replayed, too_many, IsJournal}
use Rattle.audit_replays.specs.TierBooks.{book_at}
use Rattle.audit_replays.specs.EntryPatches.{entries_within}

entry_fits : (patches : ℕ) (entry : Turn) → IsEntry patches entry → IsFitting entry
entry_fits patches (Reserve p) is = tt
entry_fits patches (Evict p) is = tt
entry_fits patches (Kept p uses) is = tt
entry_fits patches (Got p) is = tt
entry_fits patches (Lost p) is = tt
entry_fits patches (Fault p) is = tt
entry_fits patches (Changed p fault) is = is.1
entry_fits patches (Commit p) is = tt
entry_fits patches Idle is = tt

entries_fit : (patches : ℕ) (journal : List Turn) → AllByRecursion (IsEntry patches) journal
    → AllByRecursion IsFitting journal
entries_fit patches [] all = tt
entries_fit patches (t ∷ ts) all = (entry_fits patches t all.0, entries_fit patches ts all.1)

many_pins : (w : World) (k : ℕ) → length (pins_of w k) ≡ patch_count w
many_pins w zero = length-map w.mesh.index.fields (λ (f : PatchField). is_root w.mesh.index.fields f.tail)
many_pins w (suc k) = length-replicate (patch_count w) false

-- a journal that is read is one that tier k can have come by
pub journal_replays : (w : World) (k budget : ℕ) → slice_get w.budgets k ≡ Some budget
    → (line : ℕ) (r : Replayed) (text : List ℕ) → IsJournal k (book_at w k budget) line r text → ReplaysAt w k r.journal
journal_replays w k budget of_tier line r text is = record {
  budget = budget;
  of_tier = of_tier;
  places = r.places;
  replays = is.replays;
  fits = entries_fit (patch_count w) r.journal is.entries;
}

-- a short journal that tier k can have come by is read from its text
pub replays_read : (w : World) (k : ℕ) (journal : List Turn) (at : ReplaysAt w k journal) → length journal < too_many
    → (line : ℕ) → IsJournal k (book_at w k at.budget) line (record { places = at.places; journal = journal })
    (journal_text k journal)
replays_read w k journal at few line = record {
  replays = at.replays;
  entries = entries_within (patch_count w) at.budget w.width (sizes_of w.mesh.index) (pins_of w k) journal at.places
      (many_pins w k) at.replays at.fits;
  few = few;
  is = refl;
}
