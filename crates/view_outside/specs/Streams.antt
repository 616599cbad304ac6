-- What a source gives and what a sink takes, where they tell it.
use Rattle.std.specs.Prelude.{◌≡◌, ℕ, List, [], ◌++◌, drop, Option, None, Some, refl}
use Rattle.std.proofs.Common.{ap, append_assoc, append-nil}
use Rattle.view_outside.specs.Files.{ReadsFrom}

-- the first n bytes of the buffer are the first of the rest, which then begins after them
pub record TakesFirst (rest : List ℕ) (buffer : List ℕ) (n : ℕ) (left : Option (List ℕ)) : Type 0 where
  pub first : ReadsFrom rest 0 buffer n
  pub after : left ≡ Some (drop n rest)

-- where told, a read takes the first n bytes of the rest; a source that tells nothing goes on telling nothing
abbrev pub ReadsRest : Option (List ℕ) → List ℕ → ℕ → Option (List ℕ) → Type 0
ReadsRest None buffer n left = left ≡ None
ReadsRest (Some rest) buffer n left = TakesFirst rest buffer n left

-- what is told after these bytes more
abbrev pub appended : Option (List ℕ) → List ℕ → Option (List ℕ)
appended None piece = None
appended (Some written) piece = Some (written ++ piece)

pub appended-nil : (told : Option (List ℕ)) → appended told [] ≡ told
appended-nil None = refl
appended-nil (Some written) = ap Some (append-nil written)

pub appended-appended : (told : Option (List ℕ)) (first second : List ℕ)
    → appended (appended told first) second ≡ appended told (first ++ second)
appended-appended None first second = refl
appended-appended (Some written) first second = ap Some (append_assoc written first second)
