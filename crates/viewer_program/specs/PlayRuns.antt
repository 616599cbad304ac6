-- What `play` and `playw` run: the world of their file and words, the script's lines, and what is counted of a run.
use Rattle.std.specs.Prelude.{◌≡◌, ℕ, ◌+◌, ◌≤◌, List, length, sum_by, slice_index, Option, Some, None, Ok, IfSome}
use Rattle.std.specs.List.{AllByRecursion}
use Rattle.mesh_model.specs.Meshes.{MeshLists}
use Rattle.cache_chain.specs.Refusals.{base_size}
use Rattle.script_model.specs.declared.modes.Mode.TheVariants.{Play}
use Rattle.script_model.specs.declared.orders.Line.{Line}
use Rattle.script_model.specs.Scripts.{script_in, AreLines}
use Rattle.view_outside.specs.Faults.{Rose, RoseBy}
use Rattle.view_outside.specs.Taken.{taken_after}
use Rattle.run_model.specs.Worlds.{World, IsWorld}
pub use Rattle.run_laws.specs.ToldWorlds.{IsWorldOver}
use Rattle.run_model.specs.Lines.{Did}
use Rattle.run_model.specs.RunTexts.{StoreOutcome, IsRunText, turns_in, faults_of, bytes_from_store}
use Rattle.view_machine.specs.RunEnds.{HaveNoChange}
use Rattle.body_loads.specs.ToldBodies.{told_bodies}
use Rattle.viewer_program.specs.Playing.{PlaySeen}
use Rattle.viewer_program.specs.Promises.{KeepsPromises}

-- ---- the world

-- it is the world that the words ask for, over the file that is named, where its bytes are told
pub record IsWorldOf (play : PlaySeen) (told : Option (List ℕ)) (w : World) : Type 0 where
  pub world : IsWorld w
  pub budgets : w.budgets ≡ play.budgets
  pub width : w.width ≡ play.width
  pub over : IfSome told (λ bytes. IsWorldOver bytes w)

-- the first budget holds the bodies of the base patches
pub record HoldsBase (w : World) : Type 0 where
  pub fits : base_size w.mesh ≤ slice_index w.budgets 0

-- the world of a run with these words over the mesh and its file
abbrev pub play_world : MeshLists → Option (List ℕ) → PlaySeen → World
play_world mesh told play = record { mesh = mesh; bodies = told_bodies mesh.index told; budgets = play.budgets; width = play.width }

-- ---- the script

-- these are the lines of a script for so many tiers, and those that the source gives, where its bytes are told
pub record AreScripted (tiers : ℕ) (rest : Option (List ℕ)) (lines : List Line) : Type 0 where
  pub rules : AreLines Play tiers lines
  pub said : IfSome rest (λ bytes. script_in Play tiers bytes ≡ Ok lines)

-- the world of the run, in which the base fits, and the lines of its script
pub record IsSetUp (play : PlaySeen) (told rest : Option (List ℕ)) (w : World) (lines : List Line) : Type 0 where
  pub world : IsWorldOf play told w
  pub holds : HoldsBase w
  pub script : AreScripted (length play.budgets) rest lines

-- ---- what is counted

-- how many lines tell that the store failed, and how many bytes of bodies it gave
abbrev pub run_faults : World → List Did → ℕ
run_faults w dids = sum_by (faults_of w) dids

abbrev pub run_bytes : World → List Did → ℕ
run_bytes w dids = sum_by (bytes_from_store w) dids

-- ---- the text

-- lines ran in the world from its opening on, and print this text; the store failed at least as often as they tell, and where
-- the file is told, they tell of no bytes that break the rule of bodies
pub record PrintsRun (w : World) (lines : List Line) (text : List ℕ) (faults faults_now : ℕ) : Type 0 where
  pub outcomes : List StoreOutcome
  pub is : IsRunText w lines outcomes text
  pub told_faults : RoseBy (run_faults w is.dids) faults faults_now
  pub unchanged : (w.bodies ≡ None → ⊥) → HaveNoChange is.dids
  pub promises : KeepsPromises w is.runs

-- where the store didn't fail, it gave these first bytes and those of the patches that came from it in the run, and no
-- other; where it tells nothing, this has the premise that no line tells of bytes that break the rule of bodies
abbrev pub TakesExactly : World → List Did → ℕ → ℕ → ℕ → ℕ → ℕ → Type 0
TakesExactly w dids first faults faults_now taken taken_now =
    (Rose faults faults_now → ⊥) → (w.bodies ≡ None → HaveNoChange dids) → taken_now ≡ taken_after taken (first + run_bytes w dids)
