use Rattle.run_laws.specs.AnswerLaws.{turns_to}
use Rattle.run_laws.proofs.lines.a_turn_does_what_it_promises.Goals as goal

pub returns : goal.returns
returns c = turns_to
