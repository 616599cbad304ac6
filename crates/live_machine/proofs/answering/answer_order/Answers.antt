use Rattle.live_machine.specs.Obeying.{play_numbered}
use Rattle.live_machine.proofs.answering.answer_order.Goals as goal

pub note-requires : goal.note-requires
note-requires g c = play_numbered c.args.machine.now c.args.order.now c.requires.allowed
