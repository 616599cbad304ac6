-- Nothing was added, so nothing is kept.
use Rattle.std.proofs.Common.{sym, arith}
use Rattle.mesh_model.specs.Graph.{leads_from}
use Rattle.dag_check.specs.AllNodeSums.{all_sums_of}
use Rattle.dag_check.proofs.AddedLaws.{first_triangles-zero, along}
use Rattle.dag_check.proofs.IndexLaws.{graph_of}
use Rattle.dag_check.proofs.StartLaws.{new_is, new_follows}
use Rattle.dag_check.proofs.checkers.Checker.begin.Goals as goal

pub empty_all_sums-requires : goal.empty_all_sums-requires
empty_all_sums-requires c = graph_of c.args.index c.nodes.result.now c.fields.result.now c.in_ok-graph.graph c.nodes.ensures c.fields.ensures c.in_ok-graph.ensures

pub invariant_of-result : goal.invariant_of-result
invariant_of-result c = record {
  rules = c.node_count-nodes.ensures.rules;
  graph = graph_of c.args.index c.nodes.result.now c.fields.result.now c.in_ok-graph.graph c.nodes.ensures c.fields.ensures c.in_ok-graph.ensures;
  within = omega arith;
  few = omega (arith, c.new.ensures.count);
  all_sums = new_is c.args.index (all_sums_of c.in_ok-all_sums.all_sums) c.in_ok-all_sums.ensures;
}

pub returns-clause-follows : goal.returns-clause-follows
returns-clause-follows c = λ bodies. record {
  base = λ root e. along (sym (first_triangles-zero (leads_from root) c.args.index.fields bodies)) c.new.ensures.nets;
  all_sums = new_follows c.args.index (all_sums_of c.in_ok-all_sums.all_sums) bodies c.in_ok-all_sums.ensures;
}
