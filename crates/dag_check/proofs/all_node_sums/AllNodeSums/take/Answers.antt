-- The count moves as the node's own does.
use Rattle.std.proofs.Common.{◌≡◌, ℕ, ◌<◌, List, length, refl, arith, get_or}
use Rattle.std.specs.Prelude.{slice_get, Some}
use Rattle.std.proofs.lemmas.Option.{slice_get_read}
use Rattle.mesh_model.specs.Nets.{one_if}
use Rattle.dag_check.specs.declared.node_sums.NodeSums.{NodeSums}
use Rattle.dag_check.specs.NodeSums.{is_under_way}
use Rattle.dag_check.proofs.SumLaws.{few_under_way, one_if_few, recounted}
use Rattle.dag_check.proofs.all_node_sums.AllNodeSums.take.Goals as goal

found : (node_sums : List NodeSums) (node : ℕ) (t : NodeSums) → node < length node_sums → t ≡ get_or node_sums node t → slice_get node_sums node ≡ Some t
found node_sums node t low e = slice_get_read node_sums (length node_sums) node t refl low e

pub take-requires-clause-room : goal.take-requires-clause-room
take-requires-clause-room c =
    (c.requires.sums.sums c.args.node c.index_mut-sums_at.result.now (found c.args.self.now.node_sums.items c.args.node c.index_mut-sums_at.result.now c.requires.node c.index_mut-sums_at.ensures.value) c.args.side).few

pub take-requires-clause-left : goal.take-requires-clause-left
take-requires-clause-left c =
    c.requires.left c.index_mut-sums_at.result.now (found c.args.self.now.node_sums.items c.args.node c.index_mut-sums_at.result.now c.requires.node c.index_mut-sums_at.ensures.value)

pub overflow_add-self : goal.overflow_add-self
overflow_add-self c =
    omega (arith, few_under_way c.args.self.now.node_sums.items, c.requires.sums.few_nodes, c.requires.sums.open_nodes, c.open_nodes-open_after.ensures, one_if_few (is_under_way c.take.new.self))

pub returns : goal.returns
returns c =
    let there = found c.args.self.now.node_sums.items c.args.node c.index_mut-sums_at.result.now c.requires.node c.index_mut-sums_at.ensures.value in
    record {
      old_sums = c.index_mut-sums_at.result.now;
      empty_node_sums = c.take.new.self;
      difference = c.in_ok-difference.difference;
      there = there;
      takes = c.in_ok-difference.ensures;
      node_sums = refl;
      open_nodes = rw (c.open_nodes-open.ensures, c.open_nodes-open_after.ensures) (recounted (λ (t : NodeSums). one_if (is_under_way t)) c.args.self.now.node_sums.items c.args.node c.index_mut-sums_at.result.now c.take.new.self c.args.self.now.open_nodes there c.requires.sums.open_nodes);
      border_found = c.least_border-self.ensures;
    }
