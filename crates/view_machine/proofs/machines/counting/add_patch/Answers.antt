use Rattle.std.proofs.Common.{Result, Ok, Err, ◌++◌, subst, ◌∙◌}
use Rattle.std.specs.Prelude.{OnOk}
use Rattle.std.specs.Arc.{arc_value}
use Rattle.file_model.specs.Lists.{SeenBody, triangles_of}
use Rattle.edge_chain.specs.Chains.{IsNetOf}
use Rattle.view_machine.specs.FrameLines.{body_not_missing, body_found}
use Rattle.view_machine.proofs.machines.counting.add_patch.Goals as goal

on_ok : {T E P Q : Type 0} (result : Result T E) → (P → Q) → OnOk result P → OnOk result Q
on_ok (Ok x) then is = then is
on_ok (Err e) then is = tt

pub unreachable-requires : goal.unreachable-requires
unreachable-requires g c =
    body_not_missing c.args.chain.now.mesh.lists.index.fields c.args.chain.now.tiers c.args.patch c.requires.top (λ body. arc_value body.now) c.top_body.result c.top_body.ensures c.in-None.is

pub returns-clause-nets : goal.returns-clause-nets
returns-clause-nets g c =
    let found = c.deref.ensures ∙ body_found c.args.chain.now.mesh.lists.index.fields c.args.chain.now.tiers c.args.patch c.requires.top (λ body. arc_value body.now) c.top_body.result c.top_body.ensures c.in-Some.body c.in-Some.is in
    on_ok c.add_body.result
    (λ nets triangles net. subst (λ (b : SeenBody). IsNetOf (triangles ++ triangles_of b.lists) c.add_body.new.chain) found (nets triangles net))
    c.add_body.ensures.nets
