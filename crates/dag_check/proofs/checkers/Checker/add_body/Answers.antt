-- The base and the nodes on the patch's two sides take the body.
use Rattle.std.proofs.Common.{◌≡◌, ◌∙◌, sym, ap, arith, subst}
use Rattle.std.specs.Prelude.{slice_get}
use Rattle.mesh_model.specs.declared.sides.NodeSide.TheVariants.{Incoming, Outgoing}
use Rattle.dag_check.specs.NodeSums.{taken_both, one_more}
use Rattle.dag_check.specs.AllNodeSums.{all_sums_of, AreAllSums}
use Rattle.dag_check.specs.Checkers.{CheckerSeen, Follows}
use Rattle.dag_check.proofs.IndexLaws.{Ends, ends_of}
use Rattle.dag_check.proofs.BodyLaws.{summed_of, ready_of, low_at_first, low_between, between_is, takes_is, takes_follows}
use Rattle.dag_check.proofs.checkers.Checker.add_body.Goals as goal

pub take-requires-clause-node : goal.take-requires-clause-node
take-requires-clause-node c =
    let ends : Ends c.self.inside.index c.patch-field.result = ends_of c.self.inside.index c.self.inside.next c.patch-field.result c.self.invariant.rules c.patch-field.ensures in
    omega (arith, ends.head, c.self.invariant.all_sums.as_many)

pub take-requires-clause-sums : goal.take-requires-clause-sums
take-requires-clause-sums c = summed_of c.self.inside.index (taken_both c.self.inside.next) (all_sums_of c.self.inside.all_sums) c.self.invariant.rules (low_at_first _ c.self.invariant) c.self.invariant.all_sums

pub take-requires-clause-left : goal.take-requires-clause-left
take-requires-clause-left c = ready_of Incoming c.self.inside.index (taken_both c.self.inside.next) c.patch-field.result (all_sums_of c.self.inside.all_sums) c.patch-field.ensures c.self.invariant.all_sums

pub take-requires-2-clause-node : goal.take-requires-2-clause-node
take-requires-2-clause-node c =
    let ends : Ends c.self.inside.index c.patch-field.result = ends_of c.self.inside.index c.self.inside.next c.patch-field.result c.self.invariant.rules c.patch-field.ensures in
    let seen : CheckerSeen = record { index = c.self.inside.index; graph = c.self.inside.graph; next = c.self.inside.next; base = c.self.inside.base; all_sums = all_sums_of c.self.inside.all_sums } in
    let between : AreAllSums c.self.inside.index (one_more Incoming (taken_both c.self.inside.next)) (all_sums_of c.take.new.self) = between_is seen c.patch-field.result c.args.body.now.lists (all_sums_of c.take.new.self) c.self.invariant c.patch-field.ensures c.patch-patch.ensures.facts.triangles.few c.in_ok-take.ensures in
    omega (arith, ends.tail, between.as_many)

pub take-requires-2-clause-sums : goal.take-requires-2-clause-sums
take-requires-2-clause-sums c =
    let seen : CheckerSeen = record { index = c.self.inside.index; graph = c.self.inside.graph; next = c.self.inside.next; base = c.self.inside.base; all_sums = all_sums_of c.self.inside.all_sums } in
    summed_of c.self.inside.index (one_more Incoming (taken_both c.self.inside.next)) (all_sums_of c.take.new.self) c.self.invariant.rules (low_between seen c.patch-field.result c.self.invariant c.patch-field.ensures)
    (between_is seen c.patch-field.result c.args.body.now.lists (all_sums_of c.take.new.self) c.self.invariant c.patch-field.ensures c.patch-patch.ensures.facts.triangles.few c.in_ok-take.ensures)

pub take-requires-2-clause-left : goal.take-requires-2-clause-left
take-requires-2-clause-left c =
    let seen : CheckerSeen = record { index = c.self.inside.index; graph = c.self.inside.graph; next = c.self.inside.next; base = c.self.inside.base; all_sums = all_sums_of c.self.inside.all_sums } in
    ready_of Outgoing c.self.inside.index (one_more Incoming (taken_both c.self.inside.next)) c.patch-field.result (all_sums_of c.take.new.self) c.patch-field.ensures
    (between_is seen c.patch-field.result c.args.body.now.lists (all_sums_of c.take.new.self) c.self.invariant c.patch-field.ensures c.patch-patch.ensures.facts.triangles.few c.in_ok-take.ensures)

pub invariant_of-result : goal.invariant_of-result
invariant_of-result c =
    let seen : CheckerSeen = record { index = c.self.inside.index; graph = c.self.inside.graph; next = c.self.inside.next; base = c.self.inside.base; all_sums = all_sums_of c.self.inside.all_sums } in
    takes_is seen c.patch-field.result c.args.body.now.lists c.add_to_base.new.base (all_sums_of c.take.new.self) (all_sums_of c.take-2.new.self) c.self.invariant
    (record {
      field = c.patch-field.ensures;
      few = c.patch-patch.ensures.facts.triangles.few;
      base_count = c.in_ok-add_to_base.ensures.count;
      base_nets = λ root e. c.in_ok-add_to_base.ensures.nets root (c.verdict.ensures ∙ e);
      incoming = c.in_ok-take.ensures;
      outgoing = c.in_ok-take-2.ensures;
    })

pub returns-clause-follows : goal.returns-clause-follows
returns-clause-follows c = λ bodies h at.
    let seen : CheckerSeen = record { index = c.self.inside.index; graph = c.self.inside.graph; next = c.self.inside.next; base = c.self.inside.base; all_sums = all_sums_of c.self.inside.all_sums } in
    let same : seen ≡ c.args.self = c.self.view_is in
    takes_follows seen c.patch-field.result c.args.body.now.lists c.add_to_base.new.base (all_sums_of c.take.new.self) (all_sums_of c.take-2.new.self) c.self.invariant
    (record {
      field = c.patch-field.ensures;
      few = c.patch-patch.ensures.facts.triangles.few;
      base_count = c.in_ok-add_to_base.ensures.count;
      base_nets = λ root e. c.in_ok-add_to_base.ensures.nets root (c.verdict.ensures ∙ e);
      incoming = c.in_ok-take.ensures;
      outgoing = c.in_ok-take-2.ensures;
    })
    bodies (ap (λ (s : CheckerSeen). slice_get bodies s.next) same ∙ at) (subst (λ (s : CheckerSeen). Follows s bodies) (sym same) h)
