-- What the threads leave is what a machine over tiers at rest asks for.
use Rattle.std.proofs.Common.{◌≡◌, ◌≤◌, true, List, length, map, refl, sym, subst, ◌∙◌, arith}
use Rattle.std.specs.Prelude.{slice_index}
use Rattle.std.proofs.Math.Path.{fun_ext}
use Rattle.std.proofs.lemmas.List.{length-map}
use Rattle.atomic_table.specs.Seated.{TableId}
use Rattle.mesh_model.specs.Meshes.{MeshLists, IsMesh}
use Rattle.token_words.specs.PlainTokens.{epoch_of}
use Rattle.token_words.specs.declared.plain_words.PlainTokens.{PlainTokens}
use Rattle.token_table.specs.declared.knowledge.Desk.{Desk}
use Rattle.token_table.specs.Closings.{HasDesk}
use Rattle.tier_model.specs.Tiers.{TierState}
use Rattle.cache_chain.specs.ChainStates.{AreTiersOf}
use Rattle.run_model.specs.Worlds.{World, IsWorld}
use Rattle.resumed_model.specs.Resting.{AreResting}
use Rattle.level_model.specs.Levels.{RunSeen, FloorSeen, seat_of}
use Rattle.level_model.specs.LevelLists.{AreLevels}
use Rattle.view_machine.specs.Machines.{world_with}
use Rattle.view_machine.specs.MachineLaws.{world_told}
use Rattle.view_machine.specs.RestMachines.{RestsOver}
use Rattle.left_runs.specs.Left.{unwished, world_left}
use Rattle.left_runs.specs.LeftLevels.{some_level}
use Rattle.left_runs.specs.LeftRests.{first_there, pins_are, top_at, left_world, levels_rest, left_bodies, left_pins, left_many}

module _ (mesh : MeshLists) (run : RunSeen) (same : mesh.index ≡ run.setup.mesh) (facts : IsMesh mesh) (home : TableId)
    (desk : Desk) (tiers : List TierState) (floor : FloorSeen) (many : length tiers ≡ length run.setup.budgets)
    (are : AreLevels run mesh.index 0 (seat_of true home 0 desk) tiers floor) where
  abbrev w : World
  w = world_left mesh run.setup

  abbrev left : List TierState
  left = map unwished tiers

  rest : AreResting w left (slice_index desk.epochs)
  rest = levels_rest mesh run same facts home desk tiers floor many are

  -- the world of the tiers that are left is that of the run
  pub world_is_left : world_with mesh run.setup.bytes left ≡ w
  world_is_left =
      let world = left_world mesh run same facts home desk tiers floor many are in
      world_told w run.setup.bytes left world.some_tier rest.many (λ k t at. (rest.each k t at).set_up) refl

  -- they are tiers of the mesh's file
  pub levels_are_tiers : length tiers ≤ 4 → AreTiersOf mesh.index run.setup.bytes left
  levels_are_tiers few =
      let as_many = length-map tiers unwished in
      let some = some_level run mesh.index 0 (seat_of true home 0 desk) tiers floor are in
      record {
        some_tier = omega arith;
        few_tiers = omega arith;
        each = λ k t at.
            let of_world = rest.each k t at in
            record {
              tier = of_world.tier;
              made = of_world.set_up.made;
              bodies = left_bodies mesh run same facts home desk tiers floor many are k t at;
            };
        top = left_pins mesh run same facts home desk tiers floor many are;
        others = rest.no_pins;
      }

  -- a machine over them goes on with the words that the keeper leaves
  pub left_rests : (words : PlainTokens) → HasDesk desk words → RestsOver mesh run.setup.bytes left words
  left_rests words has =
      let top = first_there tiers (some_level run mesh.index 0 (seat_of true home 0 desk) tiers floor are) in
      let epochs : epoch_of words ≡ slice_index desk.epochs = fun_ext has.epochs in
      let known = subst (AreResting w left) (sym epochs) rest in
      record {
        world = subst IsWorld (sym world_is_left) (left_world mesh run same facts home desk tiers floor many are);
        are = subst (λ (v : World). AreResting v left (epoch_of words)) (sym world_is_left) known;
        patches = has.patches ∙ left_many mesh run same facts home desk tiers floor many are;
        pins = λ p. has.pins p
            ∙ sym (pins_are mesh run same facts top.0 desk
            (top_at mesh run same facts home desk tiers floor many are top.0 top.1) p);
        unused = has.unused;
      }
