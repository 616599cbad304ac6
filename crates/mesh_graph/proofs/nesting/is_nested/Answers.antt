use Rattle.std.proofs.Common.{Bool, get_or, sym, ◌∙◌, ap, pos, ◌||◌}
use Rattle.std.proofs.lemmas.Option.{slice_get-get_or}
use Rattle.file_model.specs.declared.fields.Node.{Node}
use Rattle.mesh_graph.specs.Nesting.{rule_of}
use Rattle.mesh_graph.proofs.NestLaws.{nested_is}
use Rattle.mesh_graph.proofs.nesting.is_nested.Goals as goal

abbrev no_node : Node
no_node = record { ball = record { centre = record { x = pos 0; y = pos 0; z = pos 0 }; radius = 0 }; error = 0 }

pub keeps_rule-requires-clause-tail : goal.keeps_rule-requires-clause-tail
keeps_rule-requires-clause-tail c = c.requires.near c.args.field.now.tail (get_or c.args.nodes.now c.args.field.now.tail no_node) (slice_get-get_or c.args.nodes.now c.args.field.now.tail no_node c.requires.tail)

pub keeps_rule-requires-clause-head : goal.keeps_rule-requires-clause-head
keeps_rule-requires-clause-head c = c.requires.near c.args.field.now.head (get_or c.args.nodes.now c.args.field.now.head no_node) (slice_get-get_or c.args.nodes.now c.args.field.now.head no_node c.requires.head)

pub returns-then-is_bare : goal.returns-then-is_bare
returns-then-is_bare c fields arcs =
    ap (λ (b : Bool). b || rule_of c.args.nesting (get_or c.args.nodes.now c.args.field.now.tail no_node) (get_or c.args.nodes.now c.args.field.now.head no_node)) c.if-is_bare.ensures
    ∙ sym (nested_is (rule_of c.args.nesting) fields c.args.nodes.now c.args.outgoing.now c.args.field.now no_node arcs c.requires.tail c.requires.head)

pub returns : goal.returns
returns c fields arcs =
    c.keeps_rule.ensures
    ∙ ap (λ (b : Bool). b || rule_of c.args.nesting (get_or c.args.nodes.now c.args.field.now.tail no_node) (get_or c.args.nodes.now c.args.field.now.head no_node)) c.if-is_bare.ensures
    ∙ sym (nested_is (rule_of c.args.nesting) fields c.args.nodes.now c.args.outgoing.now c.args.field.now no_node arcs c.requires.tail c.requires.head)
