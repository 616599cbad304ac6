-- Why a chain doesn't start, and what that says of the budget and the store.
use Rattle.std.specs.Prelude.{◌≡◌, ℕ, ◌<◌, ◌≤◌, List, Option}
use Rattle.view_outside.specs.Files.{Named}
use Rattle.view_outside.specs.Faults.{Rose}
use Rattle.view_outside.specs.Taken.{RisesBelow, RisesAtMost}
use Rattle.file_model.specs.Lists.{IndexLists}
use Rattle.mesh_model.specs.Graph.{outgoing}
use Rattle.mesh_model.specs.Meshes.{MeshLists}
use Rattle.body_loads.specs.declared.refusals.LoadRefusal.{LoadRefusal}
use Rattle.body_loads.specs.declared.refusals.LoadRefusal.TheVariants as loads
use Rattle.body_loads.specs.Loads.{RefusesLoad, IsBodyChange, sizes_sum}
use Rattle.cache_chain.specs.declared.refusals.StartRefusal.{StartRefusal}
use Rattle.cache_chain.specs.declared.refusals.StartRefusal.TheVariants.{Budget, ReadFault, Changed, Memory}

-- a refusal to load a body, as one to start
abbrev pub refused_load : LoadRefusal → StartRefusal
refused_load (loads.Changed patch fault) = Changed patch fault
refused_load loads.ReadFault = ReadFault
refused_load loads.Memory = Memory

-- how many bytes the bodies of the base patches have together
abbrev pub base_size : MeshLists → ℕ
base_size mesh = sizes_sum mesh.index (outgoing mesh.index.fields mesh.root)

-- the budget is named with what is needed, which is more
abbrev pub NamesBudget : ℕ → ℕ → StartRefusal → Type 0
NamesBudget need given (Budget n g) = (n ≡ need) × (g ≡ given) × (given < need)
NamesBudget need given ReadFault = Unit {0}
NamesBudget need given (Changed patch fault) = Unit {0}
NamesBudget need given Memory = Unit {0}

-- the patch that is named is the first of the base patches whose bytes break the body rule
abbrev pub NamesChange : IndexLists → List ℕ → List ℕ → StartRefusal → Type 0
NamesChange index bytes base (Changed patch fault) = RefusesLoad index bytes base (loads.Changed patch fault)
NamesChange index bytes base (Budget need given) = Unit {0}
NamesChange index bytes base ReadFault = Unit {0}
NamesChange index bytes base Memory = Unit {0}

-- the fault that is named is one that the patch's body can have
abbrev pub NamesBodyFault : StartRefusal → Type 0
NamesBodyFault (Changed patch fault) = IsBodyChange (loads.Changed patch fault)
NamesBodyFault (Budget need given) = Unit {0}
NamesBodyFault ReadFault = Unit {0}
NamesBodyFault Memory = Unit {0}

-- only a store that failed is named so, and it gave less than all base patches have; where the budget doesn't do,
-- nothing was read
abbrev pub HasReason : ℕ → ℕ → ℕ → ℕ → ℕ → StartRefusal → Type 0
HasReason need faults later taken now ReadFault = Rose faults later × RisesBelow taken now need
HasReason need faults later taken now (Budget n g) = (later ≡ faults) × (now ≡ taken)
HasReason need faults later taken now (Changed patch fault) = Unit {0}
HasReason need faults later taken now Memory = Unit {0}

-- the refusal has its reason in a state that the store came to. Only what was asked of the store shows such a state: a
-- call that knows nothing of the store but its trait has no other way to one in which it failed
pub record HasCauseIn {S : Type 0} (files : S → Option (List Named)) (faults taken : S → ℕ) (need : ℕ) (store : S) (refusal : StartRefusal) : Type 0 where
  pub left : S
  pub kept : files left ≡ files store
  pub later : faults store ≤ faults left
  pub most : RisesAtMost (taken store) (taken left) need
  pub reason : HasReason need (faults store) (faults left) (taken store) (taken left) refusal
