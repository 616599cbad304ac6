use Rattle.std.proofs.Common.{take}
use Rattle.token_words.specs.PlainTokens.{HasWords}
use Rattle.token_words.proofs.plain_words.PlainTokens.with_words.Given as goal

abbrev pub invariant-loop-word : goal.invariant-loop-word
invariant-loop-word l = HasWords (take l.word-index l.words) l.tokens
