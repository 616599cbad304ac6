-- What comes before the script of a run: its file is found and checked, and its tiers open.
use Rattle.std.specs.Prelude.{◌≡◌, ℕ, ◌+◌, ◌<◌, ◌≤◌, List, length, slice_index, Option, IfSome}
use Rattle.file_model.specs.Lists.{FileLists}
use Rattle.file_model.specs.Reading.{file_size}
use Rattle.file_model.specs.Rules.{IsPatchFile}
use Rattle.mesh_model.specs.Accepted.{IsAccepted}
use Rattle.mesh_model.specs.Graph.{outgoing}
use Rattle.mesh_model.specs.Meshes.{MeshLists}
use Rattle.body_loads.specs.Loads.{sizes_sum}
use Rattle.view_outside.specs.Faults.{Rose}
use Rattle.view_outside.specs.Files.{Named, HasFile, HasName, file_bytes}
use Rattle.view_outside.specs.Taken.{RisesBelow, taken_after}
use Rattle.tier_model.specs.Tiers.{TierState}
use Rattle.cache_chain.specs.ChainStates.{AreTiersOf}
use Rattle.cache_chain.specs.Opening.{IsOpened}
use Rattle.cache_chain.specs.Refusals.{base_size}
use Rattle.text_model.specs.declared.statuses.Status.{Status}
use Rattle.text_model.specs.declared.statuses.Status.TheVariants as statuses
use Rattle.run_model.specs.Worlds.{World}
use Rattle.viewer_program.specs.Answers.{IsRefusalOf}
use Rattle.viewer_program.specs.Outside.{StoreSeen}
use Rattle.viewer_program.specs.Playing.{PlaySeen}
use Rattle.viewer_program.specs.PlayRuns.{play_world, IsWorldOf, HoldsBase}
use Rattle.viewer_program.specs.Told.{named_bytes}

-- ---- what was loaded

-- the world of the file and the words, whose base fits the first budget
pub record CanPlay (play : PlaySeen) (told : Option (List ℕ)) : Type 0 where
  pub world : World
  pub of_words : IsWorldOf play told world
  pub holds : HoldsBase world

-- there is such a world, and the store gave its file and the bodies of its base patches, and no other byte
pub record HasLoaded (play : PlaySeen) (told : Option (List ℕ)) (before after : StoreSeen) : Type 0 where
  pub can : CanPlay play told
  pub taken : after.taken ≡ taken_after before.taken (file_size can.world.mesh.index + base_size can.world.mesh)

-- a play is ready to read its script: tiers over the file of this number have just opened, in the world of the file and
-- the words, whose base fits
pub record IsReady (play : PlaySeen) (files : Option (List Named)) (file : ℕ) (mesh : MeshLists)
    (tiers : List TierState) : Type 0 where
  pub there : HasFile files file
  pub are : AreTiersOf mesh.index (file_bytes files file) tiers
  pub opened : IsOpened mesh.index (file_bytes files file) play.budgets play.width tiers
  pub of_words : IsWorldOf play (file_bytes files file) (play_world mesh (file_bytes files file) play)
  pub holds : HoldsBase (play_world mesh (file_bytes files file) play)

-- since then the store handed over so many bytes
pub record HasGiven (first : ℕ) (before now : StoreSeen) : Type 0 where
  pub later : before.faults ≤ now.faults
  pub taken : now.taken ≡ taken_after before.taken first

-- ---- why not

-- of an accepted file that is told, less was taken than it has together with the bodies of its base patches
abbrev pub TakesLess : Option (List ℕ) → ℕ → ℕ → Type 0
TakesLess told taken taken_now =
    IfSome told (λ bytes. (file : FileLists) (root : ℕ) → IsPatchFile file bytes → IsAccepted file root
    → RisesBelow taken taken_now (length bytes + sizes_sum file.index (outgoing file.index.fields root)))

-- the store failed, or tells that it has no file of the name, before it had given all that
pub record FailsToLoad (name : List ℕ) (before after : StoreSeen) : Type 0 where
  pub failed : HasName before.files name → Rose before.faults after.faults
  pub less : TakesLess (named_bytes before.files name) before.taken after.taken

-- the file is accepted, and its base has more bytes than the first budget
pub record IsShort (play : PlaySeen) (told : Option (List ℕ)) (need given : ℕ) : Type 0 where
  pub world : World
  pub of_words : IsWorldOf play told world
  pub needs : need ≡ base_size world.mesh
  pub gives : given ≡ slice_index play.budgets 0
  pub less : given < need

-- the file is accepted where it is told, in which case nothing of it changes; and its base fits
pub record MayChange (play : PlaySeen) (told : Option (List ℕ)) : Type 0 where
  pub untold : IfSome told (λ bytes. ⊥)
  pub can : CanPlay play told

-- what a status says that stops a run before its script is read
abbrev pub StopsLoading : PlaySeen → List ℕ → StoreSeen → StoreSeen → Status → Type 0
StopsLoading play name before after (statuses.Refused refusal) =
    IfSome (named_bytes before.files name) (λ bytes. IsRefusalOf bytes refusal)
StopsLoading play name before after statuses.ReadFault = FailsToLoad name before after
StopsLoading play name before after (statuses.Budget need given) =
    IsShort play (named_bytes before.files name) need given
StopsLoading play name before after (statuses.Changed patch fault) =
    MayChange play (named_bytes before.files name)
StopsLoading play name before after statuses.Memory = Unit {0}
StopsLoading play name before after status = ⊥
