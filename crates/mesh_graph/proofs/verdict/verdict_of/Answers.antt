use Rattle.std.proofs.Common.{refl}
use Rattle.mesh_graph.proofs.VerdictLaws.{one_root, root_fault, all_grounded, least_ungrounded}
use Rattle.mesh_graph.proofs.verdict.verdict_of.Goals as goal

pub returns-in-Err : goal.returns-in-Err
returns-in-Err c version = root_fault version c.args.nodes.now c.args.fields.now c.args.incoming.now c.requires.incoming c.in-Err.fault c.in-Err.ensures

pub returns-in-Some : goal.returns-in-Some
returns-in-Some c version = (
  c.in-Ok.root,
  one_root version c.args.nodes.now c.args.fields.now c.args.incoming.now c.requires.incoming c.in-Ok.root c.in-Ok.ensures,
  least_ungrounded version c.args.nodes.now c.args.fields.now c.args.levels.now c.requires.levels c.in-Some.node c.in-Some.ensures.least,
)

pub returns-in-Some-first_unnested : goal.returns-in-Some-first_unnested
returns-in-Some-first_unnested c version = (
  c.in-Ok.root,
  one_root version c.args.nodes.now c.args.fields.now c.args.incoming.now c.requires.incoming c.in-Ok.root c.in-Ok.ensures,
  all_grounded version c.args.nodes.now c.args.fields.now c.args.levels.now c.requires.levels (c.in_default.ensures.none refl),
  c.in-Some-first_unnested.ensures version,
)

pub returns-in-Some-first_unnested-2 : goal.returns-in-Some-first_unnested-2
returns-in-Some-first_unnested-2 c version = (
  c.in-Ok.root,
  one_root version c.args.nodes.now c.args.fields.now c.args.incoming.now c.requires.incoming c.in-Ok.root c.in-Ok.ensures,
  all_grounded version c.args.nodes.now c.args.fields.now c.args.levels.now c.requires.levels (c.in_default.ensures.none refl),
  c.in_default-first_unnested.ensures version,
  c.in-Some-first_unnested-2.ensures version,
)

pub returns : goal.returns
returns c version = record {
  one_root = one_root version c.args.nodes.now c.args.fields.now c.args.incoming.now c.requires.incoming c.in-Ok.root c.in-Ok.ensures;
  grounded = all_grounded version c.args.nodes.now c.args.fields.now c.args.levels.now c.requires.levels (c.in_default.ensures.none refl);
  errors = c.in_default-first_unnested.ensures version;
  balls = c.in_default-first_unnested-2.ensures version;
}
