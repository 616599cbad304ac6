use Rattle.std.proofs.Common.{arith}
use Rattle.std.proofs.lemmas.Nat.{ones-le}
use Rattle.token_words.proofs.Masks.{count_ones-mask}
use Rattle.token_words.proofs.session_sets.SessionSet.len.Goals as goal

pub returns-clause-count : goal.returns-clause-count
returns-clause-count c = count_ones-mask _ (omega arith)

pub returns-clause-most : goal.returns-clause-most
returns-clause-most c = ones-le 64 _ (omega arith)
