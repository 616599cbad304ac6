use Rattle.live_model.specs.Places.{place_of}
use Rattle.view_machine.specs.Machines.{world_of, run_state}
use Rattle.live_machine.specs.Stepping.{long_in}
use Rattle.live_machine.proofs.stepping.answer_long.Goals as goal

pub answer-requires-clause-allowed : goal.answer-requires-clause-allowed
answer-requires-clause-allowed g c = λ order is. absurd cc

pub returns : goal.returns
returns g c = λ line long.
    let m = c.args.machine.now in
    c.answer.ensures line (long_in (place_of (world_of m) (run_state m)) line long)
