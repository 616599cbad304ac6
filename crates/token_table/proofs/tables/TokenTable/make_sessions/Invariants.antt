use Rattle.std.proofs.Common.{◌≡◌}
use Rattle.token_table.specs.Makings.{AreNewcomers, with_sessions}
use Rattle.token_table.proofs.tables.TokenTable.make_sessions.Given as goal

abbrev pub invariant-loop-made : goal.invariant-loop-made
invariant-loop-made l = record {
  seats : AreNewcomers l.self l.made l.seats.items;
  keeper : l.keeper ≡ with_sessions l.made l.fn.keeper;
}
