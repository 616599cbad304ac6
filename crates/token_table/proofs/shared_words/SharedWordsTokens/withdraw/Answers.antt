use Rattle.std.proofs.Common.{false, sym, subst}
use Rattle.token_words.specs.Changes.{SetAt, Stays}
use Rattle.token_table.specs.Known.{has}
use Rattle.token_table.specs.Seats.{SessionSeen}
use Rattle.token_table.proofs.Sets.{leaves, leaves_none}
use Rattle.token_table.proofs.shared_words.SharedWordsTokens.withdraw.Goals as goal

pub returns-clause-uses : goal.returns-clause-uses
returns-clause-uses c =
    subst (λ (s : SessionSeen). SetAt (has c.args.pass.now.own.uses) c.args.patch false (has s.own.uses)) (sym c.withdraw.ensures.left)
    (leaves c.args.pass.now.own.uses c.args.patch)

pub returns-clause-locks : goal.returns-clause-locks
returns-clause-locks c =
    subst (λ (s : SessionSeen). Stays (has c.args.pass.now.own.locks) (has s.own.locks)) (sym c.withdraw.ensures.left)
    (leaves_none c.args.pass.now.own.locks c.args.patch c.requires.refused)
