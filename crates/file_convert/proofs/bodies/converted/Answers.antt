use Rattle.std.proofs.Common.{◌∙◌, ap, map}
use Rattle.file_model.specs.Lists.{corners_of}
use Rattle.patch_body.specs.Seen.{lists_with}
use Rattle.file_convert.proofs.Fitting.{other_rules, lists_are}
use Rattle.file_convert.proofs.bodies.converted.Goals as goal

pub body_in-requires-clause-rules : goal.body_in-requires-clause-rules
body_in-requires-clause-rules c =
    other_rules c.args.version c.args.body.now.version c.args.body.now.lists (lists_with c.deref.result.now c.deref-2.result.now)
    (lists_are c.args.body.now.lists c.deref.result.now c.deref-2.result.now (c.deref.ensures.value ∙ c.in_ok-points.ensures) (ap (map corners_of) c.deref-2.ensures.value ∙ c.in_ok-corners.ensures))
    c.patch-patch.ensures.facts.rules c.requires.fits
