use Rattle.mesh_graph.specs.Nesting.{rule_of}
use Rattle.mesh_graph.proofs.NestLaws.{AreNestedBelow}
use Rattle.mesh_graph.proofs.nesting.first_unnested.Given as goal

-- the patches so far keep the rule
abbrev pub invariant-loop-patch : goal.invariant-loop-patch
invariant-loop-patch l = AreNestedBelow (rule_of l.nesting) l.nodes l.fields l.patch
