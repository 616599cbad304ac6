-- The book of a tier of a world: by what its journal is read.
use Rattle.std.specs.Prelude.{ℕ}
use Rattle.tier_model.specs.Tiers.{sizes_of}
use Rattle.run_model.specs.Worlds.{World, patch_count}
use Rattle.serve_model.specs.Journals.{pins_of}
use Rattle.audit_journals.specs.Journals.{Book}

abbrev pub book_at : World → ℕ → ℕ → Book
book_at w k budget = record {
  patches = patch_count w;
  sizes = sizes_of w.mesh.index;
  width = w.width;
  pinned = pins_of w k;
  budget = budget;
}
