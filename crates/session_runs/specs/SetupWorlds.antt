-- The world of a run's setup: bodies that were collected from its top tier are the file's there.
use Rattle.std.proofs.Common.{◌≡◌, ℕ, ◌<◌, ◌≤◌, List, [], ◌∷◌, ◌++◌, length, map, get_or, Option, Some, None, Result, Ok, MatchResult, refl, sym, ap, subst, ◌∙◌, arith}
use Rattle.std.specs.Prelude.{slice_get, slice_index_or, IfSome, All}
use Rattle.std.specs.Option.{option_map}
use Rattle.std.specs.List.{AllZip}
use Rattle.std.proofs.lemmas.List.Elements.{All-head, All-tail}
use Rattle.std.proofs.lemmas.Option.{same_Some, IfSome_then, slice_get-get_or, slice_get-map, get_or_from_slice_get}
use Rattle.atomic_table.specs.Seated.{TableId}
use Rattle.file_model.specs.declared.fields.PatchField.{PatchField}
use Rattle.file_model.specs.Lists.{IndexLists, SeenBody, body_size}
use Rattle.mesh_model.specs.Meshes.{MeshLists}
use Rattle.patch_file.specs.BodyRead.{IsBodyOf}
use Rattle.body_loads.specs.ToldBodies.{said_bodies, told_bodies, said_of}
use Rattle.round_model.specs.Refiners.{Refining, cut_patches}
use Rattle.round_laws.specs.Among.{among_at}
use Rattle.session_locks.specs.Sessions.{SessionSeen, IsSession}
use Rattle.tier_model.specs.Tiers.{IsBodyFor, sizes_of}
use Rattle.token_table.specs.Seats.{SessionSeen as SeatSeen}
use Rattle.token_table.specs.Setups.{Setup}
use Rattle.frame_writer.specs.Frames.{AreBodiesOf, AddsFrame}
use Rattle.run_model.specs.Worlds.{World}
use Rattle.run_model.specs.Worlds.{IsFileBody as IsWorldBody}
use Rattle.run_model.specs.Lines.{frame_with}
use Rattle.shared_sessions.specs.SharedSeats.{HasSeat}
use Rattle.shared_sessions.specs.RoundPatches.{round_patch}
use Rattle.shared_sessions.specs.FrameLines.{ShowsNext}
use Rattle.session_runs.specs.Bodies.{BodiesSeen, IsSetupBody, IsShared, AddsBodies, AddsSome}

-- the world of a run over the mesh with this setup
abbrev pub setup_world : Setup → MeshLists → World
setup_world setup mesh = record {
  mesh = mesh;
  bodies = told_bodies mesh.index setup.bytes;
  budgets = setup.budgets;
  width = setup.width;
}

-- ---- one body

told_where : {A B : Type 0} (f : A → B) (P : B → Type 0) (o : Option A) → IfSome o (λ a. P (f a))
    → IfSome (option_map f o) P
told_where f P None holds = tt
told_where f P (Some a) holds = holds

-- a field where there is none
no_field : PatchField
no_field = record { tail = 0; head = 0; points = 0; triangles = 0 }

body_for : (index : IndexLists) (p : ℕ) (body : SeenBody) → p < length index.fields → IsBodyOf index p body
    → IsBodyFor (sizes_of index) p body
body_for index p body within is = record {
  patch = is.number;
  size = size ∙ sym (get_or_from_slice_get (sizes_of index) p (body_size index.version field) 0
      (slice_get-map (body_size index.version) index.fields p ∙ ap (option_map (body_size index.version)) there));
}
  where
    field : PatchField
    field = get_or index.fields p no_field

    there : slice_get index.fields p ≡ Some field
    there = slice_get-get_or index.fields p no_field within

    size : length body.bytes ≡ body_size index.version field
    size = subst (λ (o : Option PatchField). IfSome o (λ f. length body.bytes ≡ body_size index.version f)) there
        is.size

setup_body : (setup : Setup) (mesh : MeshLists) (p : ℕ) (body : SeenBody) → mesh.index ≡ setup.mesh
    → p < length setup.mesh.fields → IsSetupBody setup p body → IsWorldBody (setup_world setup mesh) p body
setup_body setup mesh p body same within is =
    subst (λ (index : IndexLists). IsWorldBody (setup_world setup (record mesh { index = index })) p body)
    (sym same) (record {
      of_patch = body_for setup.mesh p body within is.right;
      version = is.right.version;
      told = told_where (said_bodies setup.mesh) (λ bodies. slice_get bodies p ≡ Some body.lists) setup.bytes
          (IfSome_then setup.bytes is.told (λ bytes said. said_of setup.mesh bytes p (Ok body.lists) said));
    })

-- ---- bodies of patches

pub all_named : (setup : Setup) (ps : List ℕ) (bodies : List SeenBody) → AllZip (IsSetupBody setup) ps bodies
    → AreBodiesOf ps bodies
all_named setup [] [] are = refl
all_named setup [] (b ∷ bs) are = absurd are
all_named setup (p ∷ ps) [] are = absurd are
all_named setup (p ∷ ps) (b ∷ bs) are =
    ap (λ (q : ℕ). q ∷ map (λ (body : SeenBody). body.patch) bs) are.0.right.number
    ∙ ap (λ (qs : List ℕ). p ∷ qs) (all_named setup ps bs are.1)

all_of_file : (setup : Setup) (mesh : MeshLists) (P : ℕ → Type 0) (ps : List ℕ) (bodies : List SeenBody)
    → mesh.index ≡ setup.mesh → ((p : ℕ) → P p → p < length setup.mesh.fields) → All P ps
    → AllZip (IsSetupBody setup) ps bodies → AllZip (IsWorldBody (setup_world setup mesh)) ps bodies
all_of_file setup mesh P [] [] same within each are = tt
all_of_file setup mesh P [] (b ∷ bs) same within each are = absurd are
all_of_file setup mesh P (p ∷ ps) [] same within each are = absurd are
all_of_file setup mesh P (p ∷ ps) (b ∷ bs) same within each are = (
  setup_body setup mesh p b same (within p (All-head P p ps each)) are.0,
  all_of_file setup mesh P ps bs same within (All-tail P p ps each) are.1,
)

-- ---- a round's frame

-- the patches of a round's frame may be collected by its session
pub round_shared : (table : TableId) (setup : Setup) (seat : SeatSeen) (seen : SessionSeen) (r : Refining)
    (patches : List ℕ) → HasSeat table seat seen → IsSession seen → seen.mesh.index ≡ setup.mesh
    → seen.state.round ≡ Some r → patches ≡ cut_patches r → All (IsShared setup seat.own) patches
round_shared table setup seat seen r patches pass facts same there are =
    subst (All (IsShared setup seat.own)) (sym are) (λ k d within.
    let p = slice_index_or (cut_patches r) k d in
    let is = round_patch table seat seen pass facts r there p
    (among_at (cut_patches r) k p (slice_get-get_or (cut_patches r) k d within)) in
    subst (λ (index : IndexLists). IsShared (record setup { mesh = index }) seat.own p) same
    (record { within = is.within; there = is.there }))

-- the bodies that were collected first of all are those of the patches
pub collected_named : (setup : Setup) (patches : List ℕ) (before after : BodiesSeen) → before.bodies ≡ []
    → AddsBodies setup patches before after → AreBodiesOf patches after.bodies
collected_named setup patches before after none adds =
    subst (AreBodiesOf patches) (sym (adds.bodies ∙ ap (λ (bs : List SeenBody). bs ++ adds.more) none))
    (all_named setup patches adds.more adds.are)

-- a frame's text with the bodies that were collected for its round
pub shows_next : (table : TableId) (setup : Setup) (seat : SeatSeen) (seen : SessionSeen) (i : ℕ) (r : Refining)
    (patches : List ℕ) (bodies : List SeenBody) (none collected : BodiesSeen) (before after : List ℕ)
    → HasSeat table seat seen → IsSession seen → seen.mesh.index ≡ setup.mesh → seen.state.round ≡ Some r
    → patches ≡ cut_patches r → none.bodies ≡ [] → AddsBodies setup patches none collected
    → bodies ≡ collected.bodies → seen.number ≡ i
    → ((q : Refining) → seen.state.round ≡ Some q → AddsFrame before after (frame_with bodies seen.number seen.state q))
    → ShowsNext (setup_world setup seen.mesh) i seen.state before after
shows_next table setup seat seen i r patches bodies none collected before after pass facts same there are empty adds is
    numbered written = record {
      bodies = bodies;
      of_file = λ q now. subst (λ (ps : List ℕ). AllZip (IsWorldBody (setup_world setup seen.mesh)) ps bodies)
          (are ∙ ap cut_patches (same_Some r q (sym there ∙ now)))
          (subst (AllZip (IsWorldBody (setup_world setup seen.mesh)) patches) (sym made)
          (all_of_file setup seen.mesh (IsShared setup seat.own) patches adds.more same (λ p shared. shared.within)
          (round_shared table setup seat seen r patches pass facts same there are) adds.are));
      adds = λ q now. subst (λ (n : ℕ). AddsFrame before after (frame_with bodies n seen.state q)) numbered
          (written q now);
    }
  where
    made : bodies ≡ adds.more
    made = is ∙ adds.bodies ∙ ap (λ (bs : List SeenBody). bs ++ adds.more) empty

-- ---- answers of calls

pub all_added : {T E : Type 0} (x : T) (result : Result T E) (setup : Setup) (patches : List ℕ)
    (before after : BodiesSeen) → result ≡ Ok x
    → MatchResult result (λ _. AddsBodies setup patches before after) (λ _. AddsSome setup patches before after)
    → AddsBodies setup patches before after
all_added {T = T} {E = E} x result setup patches before after is adds =
    subst (λ (r : Result T E). MatchResult r (λ _. AddsBodies setup patches before after)
    (λ _. AddsSome setup patches before after)) is adds

-- the table has a word for each patch of the mesh
pub words_suffice : (table named : TableId) (mesh : MeshLists) (setup : Setup) → table ≡ named
    → mesh.index ≡ setup.mesh → named.words ≡ length setup.mesh.fields → length mesh.index.fields ≤ table.words
words_suffice table named mesh setup same index fits =
    let words : table.words ≡ named.words = ap (λ (t : TableId). t.words) same in
    let fields : length mesh.index.fields ≡ length setup.mesh.fields =
    ap (λ (i : IndexLists). length i.fields) index in
    omega (arith, words, fields, fits)
