use Rattle.std.proofs.Common.{take}
use Rattle.token_words.specs.PlainTokens.{HasEpochs}
use Rattle.token_words.proofs.plain_words.PlainTokens.with_epochs.Given as goal

abbrev pub invariant-loop-patch : goal.invariant-loop-patch
invariant-loop-patch l = HasEpochs l.epochs (take l.patch-index l.base) l.tokens
