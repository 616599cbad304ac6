-- The graph's verdict comes first, then the least node whose nets differ.
use Rattle.std.proofs.Common.{◌∙◌, sym, ap, subst, List, length, ◌≡◌}
use Rattle.std.specs.Map.{keys_of}
use Rattle.std.proofs.lemmas.Result.{err_from_is_err_and}
use Rattle.mesh_model.specs.Accepted.{IsAccepted, IsMeshFault, triangles_out_of}
use Rattle.mesh_model.specs.Meshes.{IsMesh}
use Rattle.grid_vertex.specs.declared.triangles.Triangle.{Triangle}
use Rattle.edge_chain.specs.Chains.{Chain, IsNetOf}
use Rattle.mesh_model.specs.Nets.{AreOpen, HasOpenPairs}
use Rattle.dag_check.specs.Added.{file_with}
use Rattle.dag_check.specs.AllNodeSums.{all_sums_of}
use Rattle.dag_check.specs.Checkers.{CheckerSeen, Follows}
use Rattle.accepted_mesh.specs.MeshView.{MeshSeen}
use Rattle.accepted_mesh.specs.MeshLaws.{mesh_is}
use Rattle.dag_check.proofs.FinishLaws.{Decided, verdict_err, verdict_ok, finish_err, finish_ok, base_pairs}
use Rattle.dag_check.proofs.checkers.Checker.finish.Goals as goal

pub returns-in_err-root-clause-verdict : goal.returns-in_err-root-clause-verdict
returns-in_err-root-clause-verdict c = λ bodies h.
    let seen : CheckerSeen = record { index = c.self.inside.index; graph = c.self.inside.graph; next = c.self.inside.next; base = c.self.inside.base; all_sums = all_sums_of c.self.inside.all_sums } in
    let p = err_from_is_err_and c.from_residual.result c.from_residual.ensures.1 in
    rw (p.1, p.2) (subst (λ (s : CheckerSeen). IsMeshFault (file_with s.index bodies) c.in_err-root.field-0.0) c.self.view_is (verdict_err seen _ bodies c.self.invariant (sym c.verdict.ensures ∙ c.in_err-root.was)))

pub returns-in_err-border-clause-verdict : goal.returns-in_err-border-clause-verdict
returns-in_err-border-clause-verdict c = λ bodies h.
    let seen : CheckerSeen = record { index = c.self.inside.index; graph = c.self.inside.graph; next = c.self.inside.next; base = c.self.inside.base; all_sums = all_sums_of c.self.inside.all_sums } in
    let same : seen ≡ c.args.self = c.self.view_is in
    let decided : Decided seen c.in_ok-root.root = record { is_checker = c.self.invariant; verdict = sym c.verdict.ensures ∙ c.in_ok-root.was; all = subst (λ (s : CheckerSeen). s.next ≡ length s.index.fields) (sym same) c.requires } in
    let p = err_from_is_err_and c.from_residual-in_err-border.result c.from_residual-in_err-border.ensures.1 in
    rw (p.1, p.2) (subst (λ (s : CheckerSeen). IsMeshFault (file_with s.index bodies) c.in_err-border.field-0.0) same
    (finish_err seen c.in_ok-root.root _ bodies decided (sym c.border.ensures ∙ c.in_err-border.was) (subst (λ (s : CheckerSeen). Follows s bodies) (sym same) h)))

pub returns-clause-verdict : goal.returns-clause-verdict
returns-clause-verdict c = λ bodies h.
    let seen : CheckerSeen = record { index = c.self.inside.index; graph = c.self.inside.graph; next = c.self.inside.next; base = c.self.inside.base; all_sums = all_sums_of c.self.inside.all_sums } in
    let same : seen ≡ c.args.self = c.self.view_is in
    let decided : Decided seen c.in_ok-root.root = record { is_checker = c.self.invariant; verdict = sym c.verdict.ensures ∙ c.in_ok-root.was; all = subst (λ (s : CheckerSeen). s.next ≡ length s.index.fields) (sym same) c.requires } in
    subst (λ (m : MeshSeen). IsAccepted (file_with c.args.self.index bodies) m.lists.root) (sym c.with.ensures)
    (subst (λ (s : CheckerSeen). IsAccepted (file_with s.index bodies) c.in_ok-root.root) same
    (finish_ok seen c.in_ok-root.root bodies decided (sym c.border.ensures ∙ c.in_ok-border.was) (subst (λ (s : CheckerSeen). Follows s bodies) (sym same) h)))

pub returns-clause-facts : goal.returns-clause-facts
returns-clause-facts c =
    let seen : CheckerSeen = record { index = c.self.inside.index; graph = c.self.inside.graph; next = c.self.inside.next; base = c.self.inside.base; all_sums = all_sums_of c.self.inside.all_sums } in
    subst (λ (m : MeshSeen). IsMesh m.lists) (sym c.with.ensures)
    (mesh_is c.self.inside.index c.self.inside.graph c.in_ok-root.root
    (record { rules = c.self.invariant.rules; graph = c.self.invariant.graph; nested = verdict_ok seen c.in_ok-root.root c.self.invariant (sym c.verdict.ensures ∙ c.in_ok-root.was) }))

pub returns-clause-base : goal.returns-clause-base
returns-clause-base c = λ bodies h.
    let seen : CheckerSeen = record { index = c.self.inside.index; graph = c.self.inside.graph; next = c.self.inside.next; base = c.self.inside.base; all_sums = all_sums_of c.self.inside.all_sums } in
    let same : seen ≡ c.args.self = c.self.view_is in
    let decided : Decided seen c.in_ok-root.root = record { is_checker = c.self.invariant; verdict = sym c.verdict.ensures ∙ c.in_ok-root.was; all = subst (λ (s : CheckerSeen). s.next ≡ length s.index.fields) (sym same) c.requires } in
    let pairs : c.open_edges.result ≡ length c.self.inside.base.entries = c.open_edges.ensures.pairs ∙ ap (λ (chain : Chain). length chain.entries) c.gather.ensures in
    let nets = subst (λ (chain : Chain). (triangles : List Triangle) → IsNetOf triangles chain → AreOpen triangles (keys_of chain.entries)) c.gather.ensures c.open_edges.ensures.nets in
    subst (λ (m : MeshSeen). HasOpenPairs (triangles_out_of (file_with c.args.self.index bodies) m.lists.root) m.base_open) (sym c.with.ensures)
    (subst (λ (s : CheckerSeen). HasOpenPairs (triangles_out_of (file_with s.index bodies) c.in_ok-root.root) c.open_edges.result) same
    (base_pairs seen c.in_ok-root.root c.open_edges.result bodies decided pairs nets (subst (λ (s : CheckerSeen). Follows s bodies) (sym same) h)))
