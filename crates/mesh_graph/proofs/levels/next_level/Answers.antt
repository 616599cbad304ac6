use Rattle.std.proofs.Common.{◌≡◌, get_or}
use Rattle.std.proofs.lemmas.Option.{slice_get-get_or}
use Rattle.mesh_model.specs.declared.sides.NodeSide.TheVariants.{Incoming}
use Rattle.mesh_graph.specs.Sides.{patches_at}
use Rattle.mesh_graph.proofs.ArcLaws.{list_is, list_in_range, open_parent, next_found, among_equal, empty_at}
use Rattle.mesh_graph.proofs.levels.next_level.Goals as goal

pub first_open-place-requires-clause-patches : goal.first_open-place-requires-clause-patches
first_open-place-requires-clause-patches c = list_in_range Incoming c.args.fields.now _ c.args.incoming.now c.args.node c.patches_of-patches.result.now c.requires.incoming c.requires.node c.patches_of-patches.ensures

pub level_over-requires-clause-patches : goal.level_over-requires-clause-patches
level_over-requires-clause-patches c = list_in_range Incoming c.args.fields.now _ c.args.incoming.now c.args.node c.patches_of-patches.result.now c.requires.incoming c.requires.node c.patches_of-patches.ensures

pub returns-then-place-patches : goal.returns-then-place-patches
returns-then-place-patches c empty =
    let is : c.patches_of-patches.result.now ≡ patches_at Incoming c.args.fields.now c.args.node = list_is Incoming c.args.fields.now _ c.args.incoming.now c.args.node c.patches_of-patches.result.now c.requires.incoming c.requires.node c.patches_of-patches.ensures in
    open_parent c.args.fields.now c.args.levels.now c.args.node (get_or c.patches_of-patches.result.now c.first_open-place.result 0)
    (among_equal c.patches_of-patches.result.now _ c.first_open-place.result is c.if-place-patches.true)
    (c.first_open-place.ensures _ (slice_get-get_or c.patches_of-patches.result.now c.first_open-place.result 0 c.if-place-patches.true))

pub returns : goal.returns
returns c =
    let is : c.patches_of-patches.result.now ≡ patches_at Incoming c.args.fields.now c.args.node = list_is Incoming c.args.fields.now _ c.args.incoming.now c.args.node c.patches_of-patches.result.now c.requires.incoming c.requires.node c.patches_of-patches.ensures in
    next_found c.args.fields.now c.args.levels.now c.args.node c.level_over.result (empty_at c.args.levels.now c.args.node c.requires.node c.if-is_some.ensures) c.requires.levels (rw is at c.level_over.ensures)
