use Rattle.file_convert.specs.ConvertLaws.{converted_is_file, file_fits, all_fit_1}
use Rattle.file_convert.proofs.laws.a_file_that_fits_is_a_patch_file.Goals as goal

pub returns-clause-fits : goal.returns-clause-fits
returns-clause-fits c = converted_is_file

pub returns-clause-only : goal.returns-clause-only
returns-clause-only c = file_fits

pub returns-clause-first : goal.returns-clause-first
returns-clause-first c = all_fit_1
