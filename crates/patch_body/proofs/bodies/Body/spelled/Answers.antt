use Rattle.std.proofs.Common.{length, refl}
use Rattle.std.proofs.lemmas.List.{length-map}
use Rattle.file_model.specs.Lists.{corners_of}
use Rattle.file_laws.specs.Bodies.{IsBody-from}
use Rattle.patch_body.specs.Seen.{lists_with}
use Rattle.patch_body.proofs.Kept.{IsSpelled, kept_from_spelling}
use Rattle.patch_body.proofs.bodies.Body.spelled.Goals as goal

pub body_bytes-requires-clause-narrow : goal.body_bytes-requires-clause-narrow
body_bytes-requires-clause-narrow c = (IsBody-from c.args.version (lists_with c.args.points.now c.args.corners.now) c.requires.rules).narrow

was_spelled : (c : goal.In_ok-bytes) → IsSpelled c.args.patch c.args.version (length c.args.points.now) (length c.args.corners.now) (lists_with c.args.points.now c.args.corners.now) c.in_ok-bytes.bytes.items
was_spelled c = kept_from_spelling c.args.patch c.args.version _ _ (lists_with c.args.points.now c.args.corners.now) c.in_ok-bytes.bytes.items c.requires.version c.requires.points c.requires.triangles refl (length-map c.args.corners.now corners_of) c.requires.rules c.in_ok-bytes.ensures

pub invariant_of-result : goal.invariant_of-result
invariant_of-result c = (was_spelled c).kept

pub returns-clause-lists : goal.returns-clause-lists
returns-clause-lists c = (was_spelled c).same
