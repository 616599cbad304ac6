use Rattle.std.specs.Prelude.{ℕ}

-- what is known of a store over the system's files: its faults so far, and how many bytes it has handed over
pub record FolderCounts : Type 0 where
  pub faults : ℕ
  pub taken : ℕ
