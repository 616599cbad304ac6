-- What a run began with.
use Rattle.std.specs.Prelude.{ℕ, List, [], Option, None}
use Rattle.atomic_table.specs.Seated.{TableId}
use Rattle.file_model.specs.Lists.{IndexLists}

-- the mesh, its file's bytes where they are told, each tier's budget from the top one on, how many bodies a tier may
-- have coming at a time, and the store's counts of faults and of bytes taken
pub record Setup : Type 0 where
  pub mesh : IndexLists
  pub bytes : Option (List ℕ)
  pub budgets : List ℕ
  pub width : ℕ
  pub faults : ℕ
  pub taken : ℕ

-- a table without words, and a run over no patch
abbrev pub no_table : TableId
no_table = record { words = 0; slots = 0; views_name = 0; atom = 0; block = 0; offset = 0; slot_names = [] }

abbrev pub no_setup : Setup
no_setup = record {
  mesh = record { version = 1; nodes = []; fields = [] };
  bytes = None;
  budgets = [];
  width = 1;
  faults = 0;
  taken = 0;
}
