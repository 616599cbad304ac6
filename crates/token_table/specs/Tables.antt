-- What holds of each table.
use Rattle.std.specs.Prelude.{◌≡◌, ℕ, ◌<◌}
use Rattle.atomic_table.specs.Seated.{TableId}

-- the table has words, as many as it was made with epochs, and no slots
pub record IsTable (table : TableId) (epochs : ℕ) : Type 0 where
  pub some_words : 0 < table.words
  pub same : epochs ≡ table.words
  pub none : table.slots ≡ 0
