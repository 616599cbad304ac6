-- Trying the patches of one node.
use Rattle.std.specs.Prelude.{ℕ, List, [], ◌∷◌, if◌then◌else◌}
use Rattle.file_model.specs.declared.fields.Try.{Try}
use Rattle.file_model.specs.Tries.{is_odd}

-- what came of it: all granted, one refused, or no answer yet for a patch
pub data Verdict : Type 0 where
  Granted : Verdict
  Refused : Verdict
  OpenAt : ℕ → Verdict

-- the answers, what came of them, and the epochs that are left
pub record Tried : Type 0 where
  pub tries : List Try
  pub verdict : Verdict
  pub unused : List ℕ

abbrev pub with_try : Try → Tried → Tried
with_try t tried = record { tries = t ∷ tried.tries; verdict = tried.verdict; unused = tried.unused }

-- the epochs answer the patches in order, up to the first even one
unfoldable pub tried_patches : List ℕ → List ℕ → Tried
tried_patches [] epochs = record { tries = []; verdict = Granted; unused = epochs }
tried_patches (p ∷ ps) [] = record { tries = []; verdict = OpenAt p; unused = [] }
tried_patches (p ∷ ps) (epoch ∷ epochs) =
    if is_odd epoch then with_try (record { patch = p; epoch = epoch }) (tried_patches ps epochs)
    else record { tries = record { patch = p; epoch = epoch } ∷ []; verdict = Refused; unused = epochs }
