use Rattle.two_eyes.proofs.LookingLaws.{all_closed, first_version}
use Rattle.two_eyes.proofs.watch_file.Goals as goal

pub watch-requires-clause-closed : goal.watch-requires-clause-closed
watch-requires-clause-closed g c = all_closed c.in-Ok-start.machine c.in-Ok-start.ensures.opens.opening

pub watch-requires-clause-few : goal.watch-requires-clause-few
watch-requires-clause-few g c = first_version c.in-Ok-start.machine c.in-Ok-start.ensures.opens.opening
