use Rattle.session_seats.specs.OrderLaws.{frees_all}
use Rattle.token_words.specs.PlainTokens.{words_seen}
use Rattle.session_seats.proofs.seats.Seats.free.Goals as goal

pub returns-clause-does : goal.returns-clause-does
returns-clause-does c = frees_all c.args.session (words_seen c.args.words.now) c.args.self.now c.release.result (words_seen c.release.new.words) c.release.new.self c.requires.seated c.release.ensures.frees
