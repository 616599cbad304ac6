-- The patches that lead to the node no longer lead out of the set, and those that lead from it do.
use Rattle.std.proofs.Common.{ap, ◌∙◌, length, arith}
use Rattle.file_model.specs.Lists.{IndexLists}
use Rattle.mesh_model.specs.Graph.{leads_to, leads_from}
use Rattle.mesh_model.specs.Chosen.{chosen_few}
use Rattle.cut_refiner.proofs.PatchLaws.{patches_in_range}
use Rattle.cut_refiner.proofs.GrowingCutLaws.{grown, few_fields}
use Rattle.cut_refiner.proofs.growing_cuts.GrowingCut.size_with.Goals as goal

pub triangles_of-into-requires-clause-patches : goal.triangles_of-into-requires-clause-patches
triangles_of-into-requires-clause-patches c =
    rw (c.incoming.ensures, c.fields-fields.ensures, c.index.ensures.value) (patches_in_range (leads_to c.args.node) c.args.mesh.now.lists.index.fields)

pub triangles_of-into-requires-clause-few : goal.triangles_of-into-requires-clause-few
triangles_of-into-requires-clause-few c =
    omega (arith, ap length c.incoming.ensures, chosen_few (leads_to c.args.node) c.args.mesh.now.lists.index.fields, few_fields c.args.mesh.now.lists c.requires.is_mesh)

pub triangles_of-out_of-requires-clause-patches : goal.triangles_of-out_of-requires-clause-patches
triangles_of-out_of-requires-clause-patches c =
    rw (c.outgoing.ensures, c.fields-fields.ensures, c.index.ensures.value) (patches_in_range (leads_from c.args.node) c.args.mesh.now.lists.index.fields)

pub triangles_of-out_of-requires-clause-few : goal.triangles_of-out_of-requires-clause-few
triangles_of-out_of-requires-clause-few c =
    omega (arith, ap length c.outgoing.ensures, chosen_few (leads_from c.args.node) c.args.mesh.now.lists.index.fields, few_fields c.args.mesh.now.lists c.requires.is_mesh)

pub overflow_sub-result : goal.overflow_sub-result
overflow_sub-result c =
    let is = grown c.args.mesh.now.lists c.args.self.now.in_cut.items c.args.self.now.missing.items c.args.self.now.size c.args.node c.requires c.fields-fields.result.now c.incoming.result.now c.outgoing.result.now c.triangles_of-into.result c.triangles_of-out_of.result
    (c.fields-fields.ensures ∙ ap (λ (index : IndexLists). index.fields) c.index.ensures.value) c.incoming.ensures c.outgoing.ensures c.triangles_of-into.ensures c.triangles_of-out_of.ensures in
    is.less

pub overflow_add-result : goal.overflow_add-result
overflow_add-result c =
    let is = grown c.args.mesh.now.lists c.args.self.now.in_cut.items c.args.self.now.missing.items c.args.self.now.size c.args.node c.requires c.fields-fields.result.now c.incoming.result.now c.outgoing.result.now c.triangles_of-into.result c.triangles_of-out_of.result
    (c.fields-fields.ensures ∙ ap (λ (index : IndexLists). index.fields) c.index.ensures.value) c.incoming.ensures c.outgoing.ensures c.triangles_of-into.ensures c.triangles_of-out_of.ensures in
    omega (arith, is.fits, c.triangle_sum-most.ensures, c.triangle_sum-most.type_inv)

pub returns : goal.returns
returns c =
    let is = grown c.args.mesh.now.lists c.args.self.now.in_cut.items c.args.self.now.missing.items c.args.self.now.size c.args.node c.requires c.fields-fields.result.now c.incoming.result.now c.outgoing.result.now c.triangles_of-into.result c.triangles_of-out_of.result
    (c.fields-fields.ensures ∙ ap (λ (index : IndexLists). index.fields) c.index.ensures.value) c.incoming.ensures c.outgoing.ensures c.triangles_of-into.ensures c.triangles_of-out_of.ensures in
    is.is
