use Rattle.std.proofs.Common.{◌≡◌, ◌+◌, ◌*◌, ◌%◌, map, take}
use Rattle.token_table.proofs.making.first_words.Given as goal

abbrev pub invariant-loop-epoch : goal.invariant-loop-epoch
invariant-loop-epoch l = l.words.items ≡ map (λ epoch. epoch * 4294967296 + epoch % 2) (take l.epoch-index l.epochs)
