use Rattle.live_model.specs.LiveLaws.{line_shows, shows_along}
use Rattle.live_model.proofs.laws.driving_shows_whole_rounds.Goals as goal

pub returns-clause-line : goal.returns-clause-line
returns-clause-line c = line_shows

pub returns-clause-run : goal.returns-clause-run
returns-clause-run c = shows_along
