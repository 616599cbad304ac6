use Rattle.std.proofs.Common.{◌≡◌, ℕ, ◌≤◌, List, [], ◌∷◌, length, take, refl, arith}
use Rattle.std.specs.Prelude.{slice_set}
use Rattle.link_messages.proofs.writing.put_kind.Goals as goal

first_set : (bytes : List ℕ) (kind : ℕ) → 1 ≤ length bytes → take 1 (slice_set bytes 0 kind) ≡ kind ∷ []
first_set [] kind some = absurd (omega arith)
first_set (first ∷ bytes) kind some = refl

pub returns-clause-text : goal.returns-clause-text
returns-clause-text c = first_set c.args.out.now c.args.kind c.requires
