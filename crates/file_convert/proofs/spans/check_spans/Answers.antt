use Rattle.std.proofs.Common.{map}
use Rattle.std.specs.Arc.{arc_value}
use Rattle.file_convert.specs.Held.{lists_of}
use Rattle.file_convert.proofs.Fitting.{all_fit_other}
use Rattle.file_convert.proofs.spans.check_spans.Goals as goal

pub returns-then-version-ne2-clause-fit : goal.returns-then-version-ne2-clause-fit
returns-then-version-ne2-clause-fit c = all_fit_other c.args.version (lists_of (map arc_value c.args.bodies.now)) c.requires.version c.if-version-ne2.true
