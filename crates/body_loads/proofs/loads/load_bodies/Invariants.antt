-- The bodies of the patches before this one were loaded.
use Rattle.std.proofs.Common.{◌≡◌, ◌≤◌, List, ℕ, map, take}
use Rattle.std.specs.Prelude.{All, IfSome}
use Rattle.std.specs.Arc.{arc_value}
use Rattle.view_outside.specs.Files.{file_bytes}
use Rattle.file_model.specs.Lists.{SeenBody}
use Rattle.patch_file.specs.BodyRead.{IsBodyOf}
use Rattle.body_loads.specs.Loads.{AreBodiesAt, patches_of}
use Rattle.body_loads.proofs.Steps.{HasTaken}
use Rattle.body_loads.proofs.loads.load_bodies.Given as goal

abbrev pub invariant-loop-patch : goal.invariant-loop-patch
invariant-loop-patch g l = record {
  files : g.S.Store.files l.store ≡ g.S.Store.files l.initial.store;
  later : g.S.Store.faults l.initial.store ≤ g.S.Store.faults l.store;
  patches : patches_of (map arc_value l.bodies.items) ≡ take l.patch-index l.patches;
  bodies : All (λ (body : SeenBody). IsBodyOf l.index body.patch body) (map arc_value l.bodies.items);
  taken : HasTaken l.index l.patches l.patch-index (g.S.Store.taken l.initial.store) (g.S.Store.taken l.store);
  told : IfSome (file_bytes (g.S.Store.files l.initial.store) l.file) (λ (bytes : List ℕ). AreBodiesAt l.index bytes (take l.patch-index l.patches) (map arc_value l.bodies.items));
}
