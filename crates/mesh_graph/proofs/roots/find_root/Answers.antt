use Rattle.std.proofs.Common.{ℕ, ◌+◌, Option, length, arith, sym, ◌∙◌, subst}
use Rattle.mesh_graph.specs.Adjacency.{is_bare_at}
use Rattle.mesh_graph.proofs.RootLaws.{HasFound, found_none, found_one, found_two, found_all, answer_is}
use Rattle.mesh_graph.proofs.roots.find_root.Goals as goal
use Rattle.mesh_graph.proofs.roots.find_root.Goals.{then-is_bare+in_default, else-is_bare}

pub returns-in-Some : goal.returns-in-Some
returns-in-Some c = found_two (is_bare_at c.args.incoming.now) (length c.args.incoming.now) c.loop-node.node c.in-Some.first c.loop-node.found (omega (arith, c.node_count-node-end.ensures)) (sym c.is_bare.ensures ∙ c.if-is_bare.true) c.in-Some.is c.loop-node.invariant

pub loop-node-preserved : goal.loop-node-preserved
loop-node-preserved c =
    elim c.if-is_bare.branch [
      | then-is_bare+in_default w ↦
          subst (λ (o : Option ℕ). HasFound (is_bare_at c.args.incoming.now) (length c.args.incoming.now) (c.loop-node.node + 1) o) (sym w.found-is)
          (found_one (is_bare_at c.args.incoming.now) (length c.args.incoming.now) c.loop-node.node c.loop-node.found (omega (arith, c.node_count-node-end.ensures)) (sym c.is_bare.ensures ∙ w.if-is_bare.true) w.in_default.is c.loop-node.invariant)
      | else-is_bare w ↦
          subst (λ (o : Option ℕ). HasFound (is_bare_at c.args.incoming.now) (length c.args.incoming.now) (c.loop-node.node + 1) o) (sym w.found-is)
          (found_none (is_bare_at c.args.incoming.now) (length c.args.incoming.now) c.loop-node.node c.loop-node.found (omega (arith, c.node_count-node-end.ensures)) (sym c.is_bare.ensures ∙ w.if-is_bare.false) c.loop-node.invariant)
    ]

pub returns : goal.returns
returns c =
    c.ok_or.ensures.value ∙ answer_is c.loop-node.found ∙ found_all (is_bare_at c.args.incoming.now) (length c.args.incoming.now) c.loop-node.node c.loop-node.found (omega (arith, c.node_count-node-end.ensures)) c.loop-node.invariant
