-- Bodies that are read again after their file was checked.
use Rattle.std.specs.Prelude.{◌≡◌, ℕ, List, ◌∷◌, ◌++◌, map, slice_get, Option, Some, option_map, unwrap_or, Result, Ok, Err}
use Rattle.std.specs.List.{Contains, sum_by}
use Rattle.file_model.specs.declared.faults.FileFault.{FileFault}
use Rattle.file_model.specs.declared.fields.PatchField.{PatchField}
use Rattle.file_model.specs.Lists.{BodyLists, IndexLists, SeenBody, body_size}
use Rattle.file_model.specs.BodyFaults.{IsBodyFault}
use Rattle.file_model.specs.Reading.{body_of_file, body_offset}
use Rattle.body_loads.specs.declared.refusals.LoadRefusal.{LoadRefusal}
use Rattle.body_loads.specs.declared.refusals.LoadRefusal.TheVariants.{Changed, ReadFault, Memory}

-- what the bytes at a patch's place say, or how they break the body rule; none where there is no such patch
abbrev pub body_at : IndexLists → List ℕ → ℕ → Option (Result BodyLists FileFault)
body_at index bytes patch = option_map (λ (f : PatchField). body_of_file index.version patch f (body_offset index patch) bytes) (slice_get index.fields patch)

-- a body as it was read
abbrev pub read_as : SeenBody → Option (Result BodyLists FileFault)
read_as body = Some (Ok body.lists)

-- the bodies are what the bytes say of these patches
abbrev pub AreBodiesAt : IndexLists → List ℕ → List ℕ → List SeenBody → Type 0
AreBodiesAt index bytes patches bodies = map (body_at index bytes) patches ≡ map read_as bodies

-- of these patches this one is the first whose bytes break the body rule, and they do so with this fault: the bytes of
-- those before it say bodies
pub record IsFirstChange (index : IndexLists) (bytes : List ℕ) (patches : List ℕ) (patch : ℕ) (fault : FileFault) : Type 0 where
  pub before : List ℕ
  pub behind : List ℕ
  pub whole : patches ≡ before ++ patch ∷ behind
  pub bodies : List SeenBody
  pub are : AreBodiesAt index bytes before bodies
  pub breaks : body_at index bytes patch ≡ Some (Err fault)

-- what a refusal of a load of these patches says of the bytes
abbrev pub RefusesLoad : IndexLists → List ℕ → List ℕ → LoadRefusal → Type 0
RefusesLoad index bytes patches (Changed patch fault) = IsFirstChange index bytes patches patch fault
RefusesLoad index bytes patches ReadFault = Unit {0}
RefusesLoad index bytes patches Memory = Unit {0}

-- a refusal names no patch but one of these
abbrev pub NamesOneOf : List ℕ → LoadRefusal → Type 0
NamesOneOf patches (Changed patch fault) = Contains patches patch
NamesOneOf patches ReadFault = Unit {0}
NamesOneOf patches Memory = Unit {0}

-- how many bytes the body of a patch has, and those of these patches; none has a patch that isn't there
abbrev pub size_at : IndexLists → ℕ → ℕ
size_at index patch = unwrap_or (option_map (body_size index.version) (slice_get index.fields patch)) 0

abbrev pub sizes_sum : IndexLists → List ℕ → ℕ
sizes_sum index patches = sum_by (size_at index) patches

abbrev pub patches_of : List SeenBody → List ℕ
patches_of bodies = map (λ (body : SeenBody). body.patch) bodies

abbrev pub lists_of : List SeenBody → List BodyLists
lists_of bodies = map (λ (body : SeenBody). body.lists) bodies

-- what changed of a patch is a fault that its body can have
abbrev pub IsBodyChange : LoadRefusal → Type 0
IsBodyChange (Changed patch fault) = IsBodyFault patch fault
IsBodyChange ReadFault = Unit {0}
IsBodyChange Memory = Unit {0}
