use Rattle.resumed_model.specs.RestingLaws.{resting_goes_on}
use Rattle.resumed_model.proofs.a_run_goes_on_from_tiers_at_rest.Goals as goal

pub returns : goal.returns
returns c = λ w tiers epochs world are. resting_goes_on w tiers epochs are world
