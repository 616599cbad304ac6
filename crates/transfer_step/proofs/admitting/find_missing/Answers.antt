-- A choice by the answers of such a test is the candidate.
use Rattle.tier_laws.specs.Chosen.{candidate-by_answers}
use Rattle.transfer_step.proofs.admitting.find_missing.Goals as goal

pub returns-clause-candidate : goal.returns-clause-candidate
returns-clause-candidate g c = λ told tells.
    candidate-by_answers told c.args.tier.now.state (λ p answer. goal.F-post g c.args.fits p answer) c.greatest_missing.result tells c.greatest_missing.ensures.choice
