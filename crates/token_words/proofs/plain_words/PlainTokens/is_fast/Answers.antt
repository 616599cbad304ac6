-- A patch without a word is neither.
use Rattle.std.proofs.Common.{sym, arith}
use Rattle.std.proofs.lemmas.Bool.{ltb-false}
use Rattle.std.proofs.lemmas.Option.{slice_get_past}
use Rattle.token_words.proofs.EntryReads.{none_fast}
use Rattle.token_words.proofs.plain_words.PlainTokens.is_fast.Goals as goal

pub returns-in-None : goal.returns-in-None
returns-in-None c =
    none_fast c.args.self.now.entries.items c.args.patch
    (slice_get_past c.args.self.now.entries.items c.args.patch (omega (arith, ltb-false c.args.patch _ (sym c.in-None.ensures.lookup.0), c.deref.ensures.len)))
