use Rattle.file_convert.specs.ConvertLaws.{fits_or_wide, none_wide, wide_is_one}
use Rattle.file_convert.proofs.laws.bodies_fit_or_one_is_the_least_wide.Goals as goal

pub returns-clause-either : goal.returns-clause-either
returns-clause-either c = fits_or_wide

pub returns-clause-not_both : goal.returns-clause-not_both
returns-clause-not_both c = none_wide

pub returns-clause-one : goal.returns-clause-one
returns-clause-one c = wide_is_one
