-- What callers see of a shown frame.
use Rattle.std.specs.Prelude.{ℕ, List}
use Rattle.file_model.specs.declared.fields.Try.{Try}
use Rattle.file_model.specs.Lists.{SeenBody}

-- whose it is, its number, the nodes of its cut, its round's answers, and its patches with their bodies
pub record ShownSeen : Type 0 where
  pub session : ℕ
  pub number : ℕ
  pub cut : List ℕ
  pub tries : List Try
  pub patches : List ℕ
  pub bodies : List SeenBody
