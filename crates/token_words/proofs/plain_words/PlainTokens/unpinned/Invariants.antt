use Rattle.token_words.specs.PlainTokens.{words_seen}
use Rattle.token_words.proofs.EntryReads.{AreUnpinned}
use Rattle.token_words.proofs.plain_words.PlainTokens.unpinned.Given as goal

abbrev pub invariant-loop-epoch : goal.invariant-loop-epoch
invariant-loop-epoch l = AreUnpinned l.epochs l.epoch-index (words_seen l.tokens)
