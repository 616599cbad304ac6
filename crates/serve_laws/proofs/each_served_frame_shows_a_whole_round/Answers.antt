use Rattle.std.specs.Prelude.{None}
use Rattle.serve_laws.specs.ServedRounds.{serves_shows, shows_along}
use Rattle.serve_laws.proofs.each_served_frame_shows_a_whole_round.Goals as goal

pub returns-clause-order : goal.returns-clause-order
returns-clause-order c = serves_shows

pub returns-clause-orders : goal.returns-clause-orders
returns-clause-orders c w bodies b orders dids is_told accepted serves = shows_along w bodies None b orders dids is_told accepted tt serves
