use Rattle.std.proofs.Common.{take}
use Rattle.token_words.specs.PlainTokens.{IsStart}
use Rattle.token_words.proofs.plain_words.PlainTokens.new.Given as goal

abbrev pub invariant-loop-patch : goal.invariant-loop-patch
invariant-loop-patch l = IsStart l.patches (take l.patch-index l.base) l.tokens
