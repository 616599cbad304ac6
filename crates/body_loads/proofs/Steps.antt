-- Loading one body after the other.
use Rattle.std.proofs.Common.{◌≡◌, ℕ, zero, suc, ◌+◌, ◌<◌, ◌≤◌, List, [], ◌∷◌, ◌++◌, length, get_or, map, take, drop, Option, Some, None, Result, Err, refl, sym, ap, subst, ◌∙◌, arith}
use Rattle.std.specs.Prelude.{slice_get, IfSome, All}
use Rattle.std.specs.List.{Contains}
use Rattle.std.proofs.lemmas.List.{take-append-drop, drop_more, take_more, take_all, map-append}
use Rattle.std.proofs.lemmas.List.Elements.{All-append, Contains-get_or}
use Rattle.std.proofs.lemmas.List.Sums.{sum_by_more, sum_by_more_le}
use Rattle.std.proofs.lemmas.Option.{slice_get-get_or}
use Rattle.file_model.specs.declared.faults.FileFault.{FileFault}
use Rattle.file_model.specs.declared.fields.PatchField.{PatchField}
use Rattle.file_model.specs.declared.refusals.ReadRefusal.{ReadRefusal}
use Rattle.file_model.specs.declared.refusals.ReadRefusal.TheVariants.{File}
use Rattle.file_model.specs.Answers.{Refuses}
use Rattle.file_model.specs.Lists.{BodyLists, IndexLists, SeenBody, body_size}
use Rattle.file_model.specs.Reading.{body_of_file, body_offset}
use Rattle.view_outside.specs.Taken.{taken_after, RisesBelow, RisesAtMost, taken_after-taken_after}
use Rattle.patch_file.specs.BodyRead.{IsBodyOf}
use Rattle.body_loads.specs.declared.refusals.LoadRefusal.{LoadRefusal}
use Rattle.body_loads.specs.declared.refusals.LoadRefusal.TheVariants.{Changed, ReadFault, Memory}
use Rattle.body_loads.specs.Loads.{body_at, AreBodiesAt, IsFirstChange, RefusesLoad, NamesOneOf, size_at, sizes_sum, read_as, patches_of}

-- ---- one body

-- the field of a patch that is there
field_at : (fields : List PatchField) (patch : ℕ) → patch < length fields → (f : PatchField) × (slice_get fields patch ≡ Some f)
field_at fields patch lt =
    let none_there : PatchField = record { tail = 0; head = 0; points = 0; triangles = 0 } in
    (get_or fields patch none_there, slice_get-get_or fields patch none_there lt)

-- what holds of the size that the field gives holds of the patch's size
pub at_size : (P : ℕ → Type 0) (index : IndexLists) (patch : ℕ) → patch < length index.fields → IfSome (slice_get index.fields patch) (λ field. P (body_size index.version field)) → P (size_at index patch)
at_size P index patch lt holds =
    let field = field_at index.fields patch lt in
    rw field.1 (rw field.1 at holds)

changed_alone : (index : IndexLists) (patch : ℕ) (refusal : ReadRefusal) (fault : FileFault) (bytes : List ℕ) → patch < length index.fields → refusal ≡ File fault
    → IfSome (slice_get index.fields patch) (λ field. Refuses refusal (body_of_file index.version patch field (body_offset index patch) bytes)) → IsFirstChange index bytes (patch ∷ []) patch fault
changed_alone index patch refusal fault bytes lt is breaks =
    let field = field_at index.fields patch lt in
    let fault_is : body_of_file index.version patch field.0 (body_offset index patch) bytes ≡ Err fault = rw (field.1, is) at breaks in
    record { before = []; behind = []; whole = refl; bodies = []; are = refl; breaks = rw field.1 (ap Some fault_is) }

-- the bytes of the patch break the rule
pub one_change : (told : Option (List ℕ)) (index : IndexLists) (patch : ℕ) (refusal : ReadRefusal) (fault : FileFault) → patch < length index.fields → refusal ≡ File fault
    → IfSome told (λ bytes. IfSome (slice_get index.fields patch) (λ field. Refuses refusal (body_of_file index.version patch field (body_offset index patch) bytes)))
    → IfSome told (λ bytes. RefusesLoad index bytes (patch ∷ []) (Changed patch fault))
one_change None index patch refusal fault lt is breaks = tt
one_change (Some bytes) index patch refusal fault lt is breaks = changed_alone index patch refusal fault bytes lt is breaks

-- ---- a body behind others

-- the one item of a list
only : (p q : ℕ) (before behind : List ℕ) → p ∷ [] ≡ before ++ q ∷ behind → q ≡ p
only p q [] behind is = cc
only p q (x ∷ []) behind is = absurd cc
only p q (x ∷ y ∷ ys) behind is = absurd cc

changed : (index : IndexLists) (bytes patches : List ℕ) (i d : ℕ) (bodies : List SeenBody) (refusal : LoadRefusal) → i < length patches → AreBodiesAt index bytes (take i patches) bodies
    → RefusesLoad index bytes (get_or patches i d ∷ []) refusal → RefusesLoad index bytes patches refusal
changed index bytes patches i d bodies (Changed patch fault) lt are change =
    let same : patch ≡ get_or patches i d = only (get_or patches i d) patch change.before change.behind change.whole in
    record {
      before = take i patches;
      behind = drop (i + 1) patches;
      whole = sym (take-append-drop i patches) ∙ ap (λ (ps : List ℕ). take i patches ++ ps) (drop_more patches i d lt ∙ ap (λ (p : ℕ). p ∷ drop (i + 1) patches) (sym same));
      bodies = bodies;
      are = are;
      breaks = change.breaks;
    }
changed index bytes patches i d bodies ReadFault lt are change = tt
changed index bytes patches i d bodies Memory lt are change = tt

-- the first change behind bodies that are whole is the first of all
pub later_change : (told : Option (List ℕ)) (index : IndexLists) (patches : List ℕ) (i d : ℕ) (bodies : List SeenBody) (refusal : LoadRefusal) → i < length patches
    → IfSome told (λ (bytes : List ℕ). AreBodiesAt index bytes (take i patches) bodies) → IfSome told (λ (bytes : List ℕ). RefusesLoad index bytes (get_or patches i d ∷ []) refusal)
    → IfSome told (λ (bytes : List ℕ). RefusesLoad index bytes patches refusal)
later_change None index patches i d bodies refusal lt are change = tt
later_change (Some bytes) index patches i d bodies refusal lt are change = changed index bytes patches i d bodies refusal lt are change

single : (p q k : ℕ) → k < length (p ∷ []) → get_or (p ∷ []) k q ≡ q → q ≡ p
single p q zero lt is = sym is
single p q (suc k) lt is = absurd (omega (arith, lt))

pub named_later : (patches : List ℕ) (i d : ℕ) (refusal : LoadRefusal) → i < length patches → NamesOneOf (get_or patches i d ∷ []) refusal → NamesOneOf patches refusal
named_later patches i d (Changed patch fault) lt named =
    subst (Contains patches) (sym (single (get_or patches i d) patch named.0 named.1 named.2)) (Contains-get_or patches i d lt)
named_later patches i d ReadFault lt named = tt
named_later patches i d Memory lt named = tt

-- ---- how much was taken

-- the bodies of the first i patches were taken
abbrev pub HasTaken : IndexLists → List ℕ → ℕ → ℕ → ℕ → Type 0
HasTaken index patches i before now = now ≡ taken_after before (sizes_sum index (take i patches))

pub taken_more : (index : IndexLists) (patches : List ℕ) (i d before between now : ℕ) → i < length patches → HasTaken index patches i before between → now ≡ taken_after between (size_at index (get_or patches i d)) → HasTaken index patches (i + 1) before now
taken_more index patches i d before between now lt so_far takes =
    takes ∙ ap (λ (t : ℕ). taken_after t (size_at index (get_or patches i d))) so_far ∙ taken_after-taken_after before (sizes_sum index (take i patches)) (size_at index (get_or patches i d))
    ∙ ap (taken_after before) (sym (sum_by_more (size_at index) patches i d lt))

-- a part of a body more, below a limit that the rest leaves room for
rises_more : (index : IndexLists) (patches : List ℕ) (i d extra before between now : ℕ) → i < length patches → HasTaken index patches i before between → RisesBelow between now (size_at index (get_or patches i d) + extra) → RisesBelow before now (sizes_sum index patches + extra)
rises_more index patches i d extra before between now lt so_far rises =
    record {
      bytes = sizes_sum index (take i patches) + rises.bytes;
      below = omega (arith, rises.below, sum_by_more_le (size_at index) patches i d lt);
      sum = rises.sum ∙ ap (λ (t : ℕ). taken_after t rises.bytes) so_far ∙ taken_after-taken_after before (sizes_sum index (take i patches)) rises.bytes;
    }

pub most_more : (index : IndexLists) (patches : List ℕ) (i d before between now : ℕ) → i < length patches → HasTaken index patches i before between → RisesAtMost between now (size_at index (get_or patches i d)) → RisesAtMost before now (sizes_sum index patches)
most_more index patches i d before between now lt so_far rises = rises_more index patches i d 1 before between now lt so_far rises

pub cut_more : (index : IndexLists) (patches : List ℕ) (i d before between now : ℕ) → i < length patches → HasTaken index patches i before between → RisesBelow between now (size_at index (get_or patches i d)) → RisesBelow before now (sizes_sum index patches)
cut_more index patches i d before between now lt so_far rises =
    let none : size_at index (get_or patches i d) ≡ size_at index (get_or patches i d) + 0 = omega arith in
    let more = rises_more index patches i d 0 before between now lt so_far (subst (RisesBelow between now) none rises) in
    subst (RisesBelow before now) (omega arith) more

-- all were taken
pub taken_all : (index : IndexLists) (patches : List ℕ) (i before now : ℕ) → length patches ≤ i → HasTaken index patches i before now → now ≡ taken_after before (sizes_sum index patches)
taken_all index patches i before now all is = is ∙ ap (λ (ps : List ℕ). taken_after before (sizes_sum index ps)) (take_all i patches all)

pub most_all : (index : IndexLists) (patches : List ℕ) (i before now : ℕ) → length patches ≤ i → HasTaken index patches i before now → RisesAtMost before now (sizes_sum index patches)
most_all index patches i before now all is = record { bytes = sizes_sum index patches; below = omega arith; sum = taken_all index patches i before now all is }

-- ---- bodies that were loaded

one_only : (index : IndexLists) (body : SeenBody) → IsBodyOf index body.patch body → All (λ (b : SeenBody). IsBodyOf index b.patch b) (body ∷ [])
one_only index body is zero d lt = is
one_only index body is (suc k) d lt = absurd (omega (arith, lt))

-- a body more, which is its patch's
pub own_more : (index : IndexLists) (bodies : List SeenBody) (body : SeenBody) → All (λ (b : SeenBody). IsBodyOf index b.patch b) bodies → IsBodyOf index body.patch body → All (λ (b : SeenBody). IsBodyOf index b.patch b) (bodies ++ body ∷ [])
own_more index bodies body are is = All-append (λ (b : SeenBody). IsBodyOf index b.patch b) bodies (body ∷ []) are (one_only index body is)

pub patches_more : (patches : List ℕ) (i d : ℕ) (bodies : List SeenBody) (body : SeenBody) → i < length patches → patches_of bodies ≡ take i patches → body.patch ≡ get_or patches i d → patches_of (bodies ++ body ∷ []) ≡ take (i + 1) patches
patches_more patches i d bodies body lt are is =
    map-append (λ (b : SeenBody). b.patch) bodies (body ∷ []) ∙ ap (λ (ps : List ℕ). ps ++ body.patch ∷ []) are ∙ ap (λ (p : ℕ). take i patches ++ p ∷ []) is ∙ sym (take_more patches i d lt)

at_more : (index : IndexLists) (bytes patches : List ℕ) (i d : ℕ) (bodies : List SeenBody) (body : SeenBody) → i < length patches → AreBodiesAt index bytes (take i patches) bodies → body_at index bytes (get_or patches i d) ≡ read_as body
    → AreBodiesAt index bytes (take (i + 1) patches) (bodies ++ body ∷ [])
at_more index bytes patches i d bodies body lt are is =
    ap (map (body_at index bytes)) (take_more patches i d lt) ∙ map-append (body_at index bytes) (take i patches) (get_or patches i d ∷ []) ∙ ap (λ (xs : List (Option (Result BodyLists FileFault))). xs ++ body_at index bytes (get_or patches i d) ∷ []) are
    ∙ ap (λ (x : Option (Result BodyLists FileFault)). map read_as bodies ++ x ∷ []) is ∙ sym (map-append read_as bodies (body ∷ []))

-- a body more, which is what the bytes say
pub told_more : (told : Option (List ℕ)) (index : IndexLists) (patches : List ℕ) (i d : ℕ) (bodies : List SeenBody) (body : SeenBody) → i < length patches → IfSome told (λ (bytes : List ℕ). AreBodiesAt index bytes (take i patches) bodies)
    → IfSome told (λ (bytes : List ℕ). body_at index bytes (get_or patches i d) ≡ read_as body) → IfSome told (λ (bytes : List ℕ). AreBodiesAt index bytes (take (i + 1) patches) (bodies ++ body ∷ []))
told_more None index patches i d bodies body lt are is = tt
told_more (Some bytes) index patches i d bodies body lt are is = at_more index bytes patches i d bodies body lt are is
