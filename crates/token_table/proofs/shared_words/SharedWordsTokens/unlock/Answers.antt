use Rattle.std.proofs.Common.{false, sym, subst}
use Rattle.token_words.specs.Changes.{SetAt}
use Rattle.token_table.specs.Known.{has}
use Rattle.token_table.specs.Seats.{SessionSeen}
use Rattle.token_table.proofs.Sets.{leaves}
use Rattle.token_table.proofs.shared_words.SharedWordsTokens.unlock.Goals as goal

pub returns-clause-uses : goal.returns-clause-uses
returns-clause-uses c =
    subst (λ (s : SessionSeen). SetAt (has c.args.pass.now.own.uses) c.args.patch false (has s.own.uses)) (sym c.unlock.ensures.left)
    (leaves c.args.pass.now.own.uses c.args.patch)

pub returns-clause-locks : goal.returns-clause-locks
returns-clause-locks c =
    subst (λ (s : SessionSeen). SetAt (has c.args.pass.now.own.locks) c.args.patch false (has s.own.locks)) (sym c.unlock.ensures.left)
    (leaves c.args.pass.now.own.locks c.args.patch)
