-- The world of a run over a file whose bytes are told.
use Rattle.std.specs.Prelude.{◌≡◌, ℕ, List, Some, Ok}
use Rattle.file_model.specs.Lists.{FileLists}
use Rattle.file_model.specs.Reading.{file_in}
use Rattle.file_model.specs.Rules.{IsPatchFile}
use Rattle.mesh_model.specs.Accepted.{IsAccepted}
use Rattle.run_model.specs.Worlds.{World}

-- the world has the mesh and the bodies of the file of these bytes, which are an accepted file
pub record IsWorldOver (bytes : List ℕ) (w : World) : Type 0 where
  pub file : FileLists
  pub read : file_in bytes ≡ Ok file
  pub spelling : IsPatchFile file bytes
  pub accepted : IsAccepted file w.mesh.root
  pub index : file.index ≡ w.mesh.index
  pub bodies : w.bodies ≡ Some file.bodies
