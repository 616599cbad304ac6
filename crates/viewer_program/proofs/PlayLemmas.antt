-- What stands before a run: the world, and the refusals that come before its lines.
use Rattle.std.proofs.Common.{◌≡◌, ℕ, zero, suc, ◌+◌, ◌<◌, ◌≤◌, leb, ◌⊎◌, List, [], ◌∷◌, length, map, Option, Some, None, Result, Ok, Err, refl, sym, ap, subst, ◌∙◌, inl, inr, arith}
use Rattle.std.specs.Prelude.{slice_get, slice_index, option_map, ◌==◌, IfSome, IsTrue}
use Rattle.std.specs.List.{range_with_len, list_all}
use Rattle.std.proofs.lemmas.Bool.{and_parts, leb-true, eqb-true, cases_lt}
use Rattle.std.proofs.lemmas.Option.{same_Some}
use Rattle.file_model.specs.declared.faults.FileFault.{FileFault}
use Rattle.file_model.specs.declared.fields.PatchField.{PatchField}
use Rattle.file_model.specs.Lists.{BodyLists, IndexLists, FileLists}
use Rattle.file_model.specs.Reading.{file_in, file_size}
use Rattle.file_model.specs.declared.limits.TheConstants.{MOST_IN_PATCH}
use Rattle.file_model.specs.Rules.{IsPatchFile, is_between, has_ends, has_counts, is_field, fits_field, are_bodies}
use Rattle.file_laws.specs.Files.{are_bodies-parts}
use Rattle.mesh_model.specs.declared.refusals.Refusal.{Refusal}
use Rattle.mesh_model.specs.declared.refusals.Refusal.TheVariants.{File, Dag}
use Rattle.mesh_model.specs.Graph.{outgoing}
use Rattle.mesh_model.specs.Accepted.{IsAccepted}
use Rattle.mesh_model.specs.Meshes.{MeshLists, IsMesh}
use Rattle.accepted_mesh.specs.MeshView.{MeshSeen}
use Rattle.body_loads.specs.Loads.{body_at}
use Rattle.body_loads.specs.LoadLaws.{loads_body, loads_no_fault}
use Rattle.dag_check.specs.declared.refusals.CheckRefusal.{CheckRefusal}
use Rattle.dag_check.specs.declared.refusals.CheckRefusal.TheVariants as checks
use Rattle.dag_check.specs.Checks.{Checks}
use Rattle.cache_chain.specs.declared.refusals.StartRefusal.{StartRefusal}
use Rattle.cache_chain.specs.declared.refusals.StartRefusal.TheVariants as starts
use Rattle.cache_chain.specs.Refusals.{base_size, NamesBudget, NamesChange, HasReason}
use Rattle.std.specs.Option.{option_and_then}
use Rattle.view_outside.specs.Faults.{Rose, Rose-earlier}
use Rattle.view_outside.specs.OnlyRead.{OnlyIf}
use Rattle.view_outside.specs.Streams.{appended}
use Rattle.view_outside.specs.Written.{WritesPart}
use Rattle.view_outside.specs.Files.{Named, number_named, bytes_at, file_bytes, Finds}
use Rattle.script_model.specs.declared.limits.TheConstants.{MOST_SCRIPT}
use Rattle.script_model.specs.declared.modes.Mode.TheVariants.{Play}
use Rattle.script_model.specs.declared.orders.Line.{Line}
use Rattle.script_model.specs.Scripts.{script_in}
use Rattle.view_script.specs.declared.refusals.ScriptRefusal.{ScriptRefusal}
use Rattle.view_script.specs.declared.refusals.ScriptRefusal.TheVariants as scripts
use Rattle.view_script.specs.Answers.{Refuses, IfJudged}
use Rattle.line_reader.specs.Reads.{ReadsThrough}
use Rattle.view_machine.specs.LineCounts.{TellsBodies}
use Rattle.body_loads.specs.ToldBodies.{lists_said, said_bodies}
use Rattle.run_laws.specs.PrintedFrames.{told_file}
use Rattle.run_model.specs.Worlds.{World}
use Rattle.text_model.specs.declared.statuses.Status.{Status}
use Rattle.text_model.specs.declared.statuses.Status.TheVariants as statuses
use Rattle.viewer_program.specs.Answers.{IsRefusalOf}
use Rattle.viewer_program.specs.Endings.{IsChange}
use Rattle.viewer_program.specs.Loading.{TakesLess, HasLoaded, HasGiven, StopsLoading}
use Rattle.viewer_program.specs.Outside.{StoreSeen, OutsideSeen}
use Rattle.viewer_program.specs.Playing.{PlaySeen, IsPlay}
use Rattle.viewer_program.specs.PlayRuns.{play_world, IsWorldOver, IsWorldOf, HoldsBase, IsSetUp}
use Rattle.viewer_program.specs.PlayEnds.{StoreCounts, counts_of, RunsPart, RunEnds, IsUntouched, PlaysPart, PlayEnds}
use Rattle.viewer_program.specs.Told.{named_bytes}
use Rattle.viewer_program.specs.Refusals.{check_status, start_status, script_status}
use Rattle.viewer_program.proofs.TakenLemmas.{takes_base}

-- ---- the bodies of the file are those of the world

-- what is read at each patch from `first` on is a body of the list
abbrev AreAt : ℕ → (ℕ → Option (Result BodyLists FileFault)) → List BodyLists → Type 0
AreAt first at bodies = (k : ℕ) → at (first + k) ≡ option_map Ok (slice_get bodies k)

all_said : (first n : ℕ) (at : ℕ → Option (Result BodyLists FileFault)) (bodies : List BodyLists) → AreAt first at bodies → length bodies ≡ n → map (λ p. lists_said (at p)) (range_with_len first n) ≡ bodies
all_said first zero at [] are many = refl
all_said first zero at (b ∷ bodies) are many = absurd (omega (arith, many))
all_said first (suc n) at [] are many = absurd (omega (arith, many))
all_said first (suc n) at (b ∷ bodies) are many =
    let here : first ≡ first + 0 = omega arith in
    let one : lists_said (at first) ≡ b = ap (λ (p : ℕ). lists_said (at p)) here ∙ ap lists_said (are 0) in
    let next : (k : ℕ) → first + 1 + k ≡ first + suc k = λ k. omega arith in
    let rest : map (λ p. lists_said (at p)) (range_with_len (first + 1) n) ≡ bodies = all_said (first + 1) n at bodies (λ k. ap at (next k) ∙ are (suc k)) (omega (arith, many)) in
    λ i. one i ∷ rest i

as_many : (version : ℕ) (fields : List PatchField) (bodies : List BodyLists) → IsTrue (are_bodies version fields bodies) → length bodies ≡ length fields
unfolding are_bodies
as_many version [] [] are = refl
as_many version [] (b ∷ bodies) are = absurd cc
as_many version (f ∷ fields) [] are = absurd cc
as_many version (f ∷ fields) (b ∷ bodies) are = ap suc (as_many version fields bodies (are_bodies-parts version f fields b bodies are).others)

said_is_file : (bytes : List ℕ) (file : FileLists) → file_in bytes ≡ Ok file → IsPatchFile file bytes → said_bodies file.index bytes ≡ file.bodies
unfolding said_bodies
said_is_file bytes file is spelling =
    let number : (k : ℕ) → 0 + k ≡ k = λ k. omega arith in
    all_said 0 (length file.index.fields) (body_at file.index bytes) file.bodies (λ k. ap (body_at file.index bytes) (number k) ∙ loads_body bytes file k is) (as_many file.index.version file.index.fields file.bodies spelling.bodies)

-- ---- the world

world_over : (bytes : List ℕ) (mesh : MeshSeen) (play : PlaySeen) → Checks bytes (Ok mesh) → IsWorldOver bytes (play_world mesh.lists (Some bytes) play)
world_over bytes mesh play (file, is, of, spelling) = record {
  file = file;
  read = is;
  spelling = spelling;
  accepted = of.accepted;
  index = of.index;
  bodies = ap (λ (i : IndexLists). Some (said_bodies i bytes)) (sym of.index) ∙ ap Some (said_is_file bytes file is spelling);
}

over_told : (told : Option (List ℕ)) (mesh : MeshSeen) (play : PlaySeen) → IfSome told (λ (bytes : List ℕ). Checks bytes (Ok mesh)) → IfSome told (λ (bytes : List ℕ). IsWorldOver bytes (play_world mesh.lists told play))
over_told None mesh play checked = tt
over_told (Some bytes) mesh play checked = world_over bytes mesh play checked

-- the world over a mesh that was checked
pub world_of_mesh : (told : Option (List ℕ)) (mesh : MeshSeen) (play : PlaySeen) → IsMesh mesh.lists → IsPlay play → IfSome told (λ (bytes : List ℕ). Checks bytes (Ok mesh)) → IsWorldOf play told (play_world mesh.lists told play)
world_of_mesh told mesh play facts rules checked = record {
  world = record { mesh = facts; some_tier = rules.some_tier; wide = rules.wide };
  budgets = refl;
  width = refl;
  over = over_told told mesh play checked;
}

-- ---- bodies that are told

corners_of_field : (nodes : ℕ) (f : PatchField) (b : BodyLists) → IsTrue (fits_field f b) → IsTrue (is_field nodes f) → 1 ≤ length b.corners
corners_of_field nodes f b fits rules =
    let sizes = and_parts (length b.points == f.points) (length b.corners == f.triangles) fits in
    let counts = and_parts (is_between 1 MOST_IN_PATCH f.points) (is_between 1 MOST_IN_PATCH f.triangles) (and_parts (has_ends nodes f) (has_counts f) rules).1 in
    let some = leb-true 1 f.triangles (and_parts (leb 1 f.triangles) (leb f.triangles MOST_IN_PATCH) counts.1).0 in
    let same = eqb-true (length b.corners) f.triangles sizes.1 in
    omega (arith, some, same)

some_corner : (version nodes : ℕ) (fields : List PatchField) (bodies : List BodyLists) → IsTrue (are_bodies version fields bodies) → IsTrue (list_all (is_field nodes) fields) → (p : ℕ) (lists : BodyLists) → slice_get bodies p ≡ Some lists → 1 ≤ length lists.corners
unfolding are_bodies
some_corner version nodes fields [] are rules p lists at = absurd cc
some_corner version nodes [] (b ∷ bodies) are rules p lists at = absurd cc
some_corner version nodes (f ∷ fields) (b ∷ bodies) are rules zero lists at =
    subst (λ (ls : BodyLists). 1 ≤ length ls.corners) (same_Some b lists at)
    (corners_of_field nodes f b (are_bodies-parts version f fields b bodies are).fits (and_parts (is_field nodes f) (list_all (is_field nodes) fields) rules).0)
some_corner version nodes (f ∷ fields) (b ∷ bodies) are rules (suc p) lists at =
    some_corner version nodes fields bodies (are_bodies-parts version f fields b bodies are).others (and_parts (is_field nodes f) (list_all (is_field nodes) fields) rules).1 p lists at

-- the world of a file that isn't told has no bodies, and that of one that is has them
pub tells_or_not : (told : Option (List ℕ)) (mesh : MeshLists) (play : PlaySeen) → IsWorldOf play told (play_world mesh told play) → ((play_world mesh told play).bodies ≡ None) ⊎ TellsBodies (play_world mesh told play)
tells_or_not None mesh play of = inl refl
tells_or_not (Some bytes) mesh play of =
    let over = of.over in
    let file = over.file in
    inr (record {
      bodies = file.bodies;
      told = over.bodies;
      some_triangle = some_corner file.index.version (length file.index.nodes) file.index.fields file.bodies over.spelling.bodies over.spelling.index.fields;
    })

-- what is told of the file is accepted
pub accepted_or_not : (told : Option (List ℕ)) (mesh : MeshLists) (play : PlaySeen) → IsWorldOf play told (play_world mesh told play) → IfSome (play_world mesh told play).bodies (λ (bodies : List BodyLists). IsAccepted (told_file (play_world mesh told play) bodies) mesh.root)
accepted_or_not None mesh play of = tt
accepted_or_not (Some bytes) mesh play of =
    let over = of.over in
    let file = over.file in
    let same : said_bodies mesh.index bytes ≡ file.bodies = same_Some (said_bodies mesh.index bytes) file.bodies over.bodies in
    let is : file ≡ record { index = mesh.index; bodies = said_bodies mesh.index bytes } = λ i. record { index = over.index i; bodies = (sym same) i } in
    subst (λ (f : FileLists). IsAccepted f mesh.root) is over.accepted

-- ---- refusals

no_change : (bytes : List ℕ) (mesh : MeshSeen) (base : List ℕ) (patch : ℕ) (fault : FileFault) → Checks bytes (Ok mesh) → NamesChange mesh.lists.index bytes base (starts.Changed patch fault) → ⊥
no_change bytes mesh base patch fault (file, is, of, spelling) change =
    loads_no_fault bytes file patch fault is (subst (λ (i : IndexLists). body_at i bytes patch ≡ Some (Err fault)) (sym of.index) change.breaks)

no_change_told : (told : Option (List ℕ)) (mesh : MeshSeen) (base : List ℕ) (patch : ℕ) (fault : FileFault) → IfSome told (λ (bytes : List ℕ). Checks bytes (Ok mesh)) → IfSome told (λ (bytes : List ℕ). NamesChange mesh.lists.index bytes base (starts.Changed patch fault)) → IfSome told (λ (bytes : List ℕ). ⊥)
no_change_told None mesh base patch fault checked change = tt
no_change_told (Some bytes) mesh base patch fault checked change = no_change bytes mesh base patch fault checked change

-- where the answer is another, the base fits
pub holds_base : (w : World) (given : ℕ) (P : Type 0) → given ≡ slice_index w.budgets 0 → (given < base_size w.mesh → P) → (P → ⊥) → HoldsBase w
holds_base w given P is large other =
    elim (cases_lt given (base_size w.mesh)) [
      | inl less ↦ absurd (other (large less))
      | inr more ↦ record { fits = subst (λ (n : ℕ). base_size w.mesh ≤ n) is more }
    ]

refusal_told : (refusal : Refusal) → (bytes : List ℕ) → Checks bytes (Err (checks.Refused refusal)) → IsRefusalOf bytes refusal
refusal_told (File fault) bytes is = is
refusal_told (Dag fault) bytes is = is

refused_told : (found : Option (List ℕ)) (refusal : Refusal) → IfSome found (λ (bytes : List ℕ). Checks bytes (Err (checks.Refused refusal))) → IfSome found (λ (bytes : List ℕ). IsRefusalOf bytes refusal)
refused_told None refusal is = tt
refused_told (Some bytes) refusal is = refusal_told refusal bytes is

module _ (play : PlaySeen) (name : List ℕ) (before after : StoreSeen) where
  abbrev told : Option (List ℕ)
  told = named_bytes before.files name

  -- a check that gives no mesh
  pub check_stops : (refusal : CheckRefusal) → IfSome told (λ (bytes : List ℕ). Checks bytes (Err refusal)) → OnlyIf checks.ReadFault (TakesLess told before.taken after.taken) refusal → OnlyIf checks.ReadFault (Rose before.faults after.faults) refusal
      → StopsLoading play name before after (check_status refusal)
  check_stops (checks.Refused refusal) is cut rose = refused_told told refusal is
  check_stops checks.ReadFault is cut rose = record { failed = λ named. rose refl; less = cut refl }
  check_stops checks.Memory is cut rose = tt

  -- tiers that don't open
  pub start_stops : (mesh : MeshSeen) (refusal : StartRefusal) (now : StoreSeen) → HasGiven (file_size mesh.lists.index) before now → IsWorldOf play told (play_world mesh.lists told play) → IfSome told (λ (bytes : List ℕ). Checks bytes (Ok mesh))
      → (slice_index play.budgets 0 < base_size mesh.lists → refusal ≡ starts.Budget (base_size mesh.lists) (slice_index play.budgets 0)) → NamesBudget (base_size mesh.lists) (slice_index play.budgets 0) refusal
      → IfSome told (λ (bytes : List ℕ). NamesChange mesh.lists.index bytes (outgoing mesh.lists.index.fields mesh.lists.root) refusal) → HasReason (base_size mesh.lists) now.faults after.faults now.taken after.taken refusal
      → StopsLoading play name before after (start_status refusal)
  start_stops mesh (starts.Budget need given) now gave world checked large (needs, gives, less) change reason =
      record { world = play_world mesh.lists told play; of_words = world; needs = needs; gives = gives; less = rw (needs, gives) less }
  start_stops mesh (starts.Changed patch fault) now gave world checked large budget change reason = record {
    untold = no_change_told told mesh (outgoing mesh.lists.index.fields mesh.lists.root) patch fault checked change;
    can = record {
      world = play_world mesh.lists told play;
      of_words = world;
      holds = holds_base (play_world mesh.lists told play) (slice_index play.budgets 0) (starts.Changed patch fault ≡ starts.Budget (base_size mesh.lists) (slice_index play.budgets 0)) refl large (λ same. cc);
    };
  }
  start_stops mesh starts.ReadFault now gave world checked large budget change (rose, rises) = record {
    failed = λ named. Rose-earlier before.faults now.faults after.faults gave.later rose;
    less = takes_base told mesh before.taken now.taken after.taken checked gave.taken rises;
  }
  start_stops mesh starts.Memory now gave world checked large budget change reason = tt

-- a play that stops so has written nothing and read no script
pub stopped_ends : (play : PlaySeen) (name : List ℕ) (before after : OutsideSeen) (status : Status) → IsUntouched before after → StopsLoading play name before.store after.store status → PlayEnds play name before after status
stopped_ends play name before after statuses.Ok untouched stops = absurd stops
stopped_ends play name before after statuses.WriteFault untouched stops = absurd stops
stopped_ends play name before after statuses.Memory untouched stops = inl untouched
stopped_ends play name before after statuses.Usage untouched stops = absurd stops
stopped_ends play name before after (statuses.Refused refusal) untouched stops = (untouched, stops)
stopped_ends play name before after statuses.ReadFault untouched stops = inl (untouched, stops)
stopped_ends play name before after (statuses.Script fault) untouched stops = absurd stops
stopped_ends play name before after (statuses.Budget need given) untouched stops = (untouched, stops)
stopped_ends play name before after (statuses.Changed patch fault) untouched stops = (untouched, stops)
stopped_ends play name before after (statuses.Wide patch) untouched stops = absurd stops

module _ (play : PlaySeen) (name : List ℕ) (before after : OutsideSeen) where
  abbrev named : Option (List ℕ)
  named = named_bytes before.store.files name

  -- a script that can't be read
  pub script_ends : (refusal : ScriptRefusal) → HasLoaded play named before.store after.store → IfSome before.source.rest (λ (bytes : List ℕ). Refuses refusal (script_in Play (length play.budgets) bytes))
      → IfJudged (ReadsThrough (MOST_SCRIPT + 1) before.source.rest after.source.rest) refusal → OnlyIf scripts.ReadFault (Rose before.source.faults after.source.faults) refusal → after.sink.written ≡ before.sink.written
      → PlayEnds play name before after (script_status refusal)
  script_ends (scripts.Script fault) loaded said through rose written = record { loaded = loaded; faulty = said; through = through; written = written }
  script_ends scripts.ReadFault loaded said through rose written = inr (record { loaded = loaded; failed = rose refl; written = written })
  script_ends scripts.Memory loaded said through rose written = inr (inl (record { can = loaded.can; written = written }))

  played_part : (w : World) (lines : List Line) (is_written : List ℕ → Type 0) → IsSetUp play named before.source.rest w lines → ReadsThrough (MOST_SCRIPT + 1) before.source.rest after.source.rest
      → RunsPart w lines (counts_of before.store.faults after.store.faults before.store.taken after.store.taken) is_written → PlaysPart play named before after is_written
  played_part w lines is_written set_up through ran = record {
    world = w;
    lines = lines;
    set_up = set_up;
    through = through;
    done = ran.done;
    left = ran.left;
    parts = ran.parts;
    text = ran.text;
    prints = ran.prints;
    written = ran.written;
  }

  -- a run
  pub run_ends : (w : World) (lines : List Line) (status : Status) → IsSetUp play named before.source.rest w lines → ReadsThrough (MOST_SCRIPT + 1) before.source.rest after.source.rest
      → RunEnds w lines (file_size w.mesh.index + base_size w.mesh) (counts_of before.store.faults after.store.faults before.store.taken after.store.taken) status before.sink.written after.sink.written → PlayEnds play name before after status
  run_ends w lines statuses.Ok set_up through ran = record { world = w; lines = lines; set_up = set_up; through = through; text = ran.text; prints = ran.prints; taken = ran.taken; written = ran.written }
  run_ends w lines statuses.WriteFault set_up through ran = played_part w lines (WritesPart before.sink.written after.sink.written) set_up through ran
  run_ends w lines statuses.Memory set_up through (inl none) = inr (inl (record { can = record { world = w; of_words = set_up.world; holds = set_up.holds }; written = none }))
  run_ends w lines statuses.Memory set_up through (inr ran) = inr (inr (played_part w lines (λ (text : List ℕ). after.sink.written ≡ appended before.sink.written text) set_up through ran))
  run_ends w lines statuses.Usage set_up through ran = absurd ran
  run_ends w lines (statuses.Refused refusal) set_up through ran = absurd ran
  run_ends w lines statuses.ReadFault set_up through ran = absurd ran
  run_ends w lines (statuses.Script fault) set_up through ran = absurd ran
  run_ends w lines (statuses.Budget need given) set_up through ran = absurd ran
  run_ends w lines (statuses.Changed patch fault) set_up through ran = absurd ran
  run_ends w lines (statuses.Wide patch) set_up through ran = absurd ran

-- no run finds that its file changed
pub run_no_change : (w : World) (lines : List Line) (first : ℕ) (counts : StoreCounts) (before after : Option (List ℕ)) (status : Status) → RunEnds w lines first counts status before after → IsChange status
run_no_change w lines first counts before after statuses.Ok ran = tt
run_no_change w lines first counts before after statuses.WriteFault ran = tt
run_no_change w lines first counts before after statuses.Memory ran = tt
run_no_change w lines first counts before after statuses.Usage ran = tt
run_no_change w lines first counts before after (statuses.Refused refusal) ran = tt
run_no_change w lines first counts before after statuses.ReadFault ran = tt
run_no_change w lines first counts before after (statuses.Script fault) ran = tt
run_no_change w lines first counts before after (statuses.Budget need given) ran = tt
run_no_change w lines first counts before after (statuses.Changed patch fault) ran = absurd ran
run_no_change w lines first counts before after (statuses.Wide patch) ran = tt

-- a play is a command
pub play_not_usage : (play : PlaySeen) (name : List ℕ) (before after : OutsideSeen) (status : Status) → PlayEnds play name before after status → status ≡ statuses.Usage → ⊥
play_not_usage play name before after status ends is = subst (λ (s : Status). PlayEnds play name before after s) is ends

-- ---- the file of the name

number_is : (files : List Named) (file : ℕ) (found : Option ℕ) → found ≡ Some file → option_and_then (bytes_at files) found ≡ bytes_at files file
number_is files file found is = ap (option_and_then (bytes_at files)) is

pub named_is : (files : Option (List Named)) (name : List ℕ) (file : ℕ) → Finds files name file → named_bytes files name ≡ file_bytes files file
named_is None name file found = refl
named_is (Some files) name file found = number_is files file (number_named files name) found
