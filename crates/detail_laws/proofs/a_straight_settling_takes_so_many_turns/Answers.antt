use Rattle.detail_laws.specs.ExactTurns.{straight-begins, exact_turns, turns_at_first, turns_beside_base}
use Rattle.detail_laws.proofs.a_straight_settling_takes_so_many_turns.Goals as goal

pub returns : goal.returns
returns c = record { straight = straight-begins; exact = exact_turns; at_first = turns_at_first; beside_base = turns_beside_base }
