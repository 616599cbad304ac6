-- The word has the users that it had.
use Rattle.std.proofs.Common.{refl, arith}
use Rattle.token_words.proofs.EntryReads.{still_unused}
use Rattle.token_words.proofs.plain_words.PlainTokens.pin_as_is.Goals as goal

pub returns-clause-unused : goal.returns-clause-unused
returns-clause-unused c = λ unused.
    let parts = still_unused c.args.self.now.entries.items c.args.patch c.index_mut.result.now _ (omega (arith, c.requires, c.args.self.now.entries.ok.0)) c.index_mut.ensures.value refl refl (unused.users, unused.lockers) in
    record { users = parts.0; lockers = parts.1 }
