-- The frame of a granted round.
use Rattle.std.proofs.Common.{◌≡◌, ◌<◌, ℕ, List, [], ◌∷◌, ◌++◌, length, Option, Some, None, Ok, refl, sym, ap, subst, ◌∙◌}
use Rattle.std.specs.Prelude.{IfSome, slice_index_or}
use Rattle.std.specs.List.{AllByRecursion}
use Rattle.grid_vertex.specs.declared.triangles.Triangle.{Triangle}
use Rattle.file_model.specs.declared.fields.Try.{Try}
use Rattle.file_model.specs.Lists.{IndexLists, FileLists}
use Rattle.file_model.specs.Reading.{file_in}
use Rattle.mesh_model.specs.Graph.{nodes_where}
use Rattle.mesh_model.specs.Nets.{net, HaveOneNet}
use Rattle.mesh_model.specs.Frames.{leads_out, frame_patches, frame_triangles, IsCut}
use Rattle.mesh_model.specs.Accepted.{IsAccepted, triangles_out_of}
use Rattle.mesh_model.specs.Meshes.{MeshLists, IsMesh}
use Rattle.mesh_laws.specs.Frames.{frame_of_set}
use Rattle.round_laws.specs.Cuts.{round_is_cut, round_boundary}
use Rattle.text_model.specs.FrameText.{Frame, IsFrameText}
use Rattle.file_model.specs.Lists.{SeenBody}
use Rattle.frame_writer.specs.Frames.{frame_of, triangles_in}
use Rattle.round_model.specs.declared.asks.Ask.TheVariants.{Lock, Done}
use Rattle.round_model.specs.Order.{Rules}
use Rattle.round_model.specs.Rounds.{NodeInProgress, has, round_of, IsWhole, epochs_of}
use Rattle.round_model.specs.Refiners.{Refining, pending_ask, next_ask, next_try, round_state, cut_of, cut_patches}
use Rattle.body_loads.specs.Loads.{AreBodiesAt}
use Rattle.body_loads.specs.PatchLists.{chosen_below}
use Rattle.body_loads.specs.LoadLaws.{loads_triangles}
use Rattle.accepted_mesh.specs.MeshView.{MeshSeen, IsMeshOf}
use Rattle.round_model.specs.Views.{rules_of}
use Rattle.text_model.specs.ShownCuts.{ShowsCut}
use Rattle.still_texts.specs.Full.{want_rules, IsGranted, IsRoundFrame, IsRoundText}
use Rattle.still_texts.proofs.ShownLemmas.{triangles_in-lists}

-- ---- the round is done

no_lock_at : (at : Option NodeInProgress) → ((patch : ℕ) → next_try at ≡ Lock patch → ⊥) → next_try at ≡ Done
no_lock_at None never = refl
no_lock_at (Some hand) never = absurd (never hand.patch refl)

-- where nothing is owed and no lock is asked for, the round is done
pub done_from : (r : Refining) → r.owed ≡ [] → ((patch : ℕ) → pending_ask r ≡ Lock patch → ⊥) → pending_ask r ≡ Done
unfolding pending_ask
done_from r none never =
    let same : next_ask r.owed (round_state r).at ≡ next_try (round_state r).at = ap (λ (owed : List ℕ). next_ask owed (round_state r).at) none in
    same ∙ no_lock_at (round_state r).at (λ patch is. never patch (same ∙ is))

-- the epochs of answers that are all 1 are all 1
granted_epochs : (tries : List Try) → AllByRecursion (λ (answer : Try). answer.epoch ≡ 1) tries → AllByRecursion (λ (epoch : ℕ). epoch ≡ 1) (epochs_of tries)
granted_epochs [] all = tt
granted_epochs (t ∷ ts) (first, others) = (first, granted_epochs ts others)

-- one more answer of 1 is noted, and nothing is owed
pub granted_more : (tries : List Try) (patch : ℕ) → AllByRecursion (λ (answer : Try). answer.epoch ≡ 1) tries → AllByRecursion (λ (answer : Try). answer.epoch ≡ 1) (tries ++ (record { patch = patch; epoch = 1 } ∷ []))
granted_more [] patch all = (refl, tt)
granted_more (t ∷ ts) patch (first, others) = (first, granted_more ts patch others)

-- ---- the frame of a granted round

-- what is known of a round that is done and in which every try was granted
pub record IsThrough (r : Refining) : Type 0 where
  pub whole : IsWhole (round_state r)
  pub granted : AllByRecursion (λ (answer : Try). answer.epoch ≡ 1) r.tries

-- its frame, of these tries and the bodies loaded for it
abbrev pub round_frame : Refining → List Try → List SeenBody → Frame
round_frame r tries bodies = frame_of 0 1 (cut_of r) tries (cut_patches r) bodies

round_shows : (bytes : List ℕ) (file : FileLists) (mesh : MeshSeen) (r : Refining) (tries : List Try) (bodies : List SeenBody) → file_in bytes ≡ Ok file → IsMeshOf file mesh → r.rules.mesh ≡ mesh.lists → AreBodiesAt file.index bytes (cut_patches r) bodies
    → ShowsCut file mesh.lists.root (has (round_state r).set) (round_frame r tries bodies)
unfolding cut_of cut_patches
round_shows bytes file mesh r tries bodies is of same are =
    let set = has (round_state r).set in
    let is_mesh : IsMesh r.rules.mesh = subst IsMesh (sym same) of.facts in
    let index : r.rules.mesh.index ≡ file.index = ap (λ (m : MeshLists). m.index) same ∙ sym of.index in
    let root : r.rules.mesh.root ≡ mesh.lists.root = ap (λ (m : MeshLists). m.root) same in
    let patches : cut_patches r ≡ frame_patches set file.index.fields = ap (λ (i : IndexLists). frame_patches set i.fields) index in
    let triangles : triangles_in bodies ≡ frame_triangles set file.index.fields file.bodies = triangles_in-lists bodies ∙ loads_triangles bytes file (leads_out set) bodies is (subst (λ (ps : List ℕ). AreBodiesAt file.index bytes ps bodies) patches are) in
    let border = subst (λ (v : ℕ). HaveOneNet (frame_of_set file set) (triangles_out_of file v)) root (round_boundary r.rules file (epochs_of r.tries) is_mesh (subst (IsAccepted file) (sym root) of.accepted) (sym index)) in
    record {
      cut = subst (λ (v : ℕ). IsCut file.index.fields v set) root (subst (λ (i : IndexLists). IsCut i.fields r.rules.mesh.root set) index (round_is_cut r.rules is_mesh (epochs_of r.tries)));
      nodes = ap (λ (i : IndexLists). nodes_where (length i.nodes) set) index;
      patches = patches;
      triangles = triangles;
      boundary = λ a b. ap (λ (ts : List Triangle). net ts a b) triangles ∙ border a b;
    }

-- the rules of a round are those by the scores, the threshold and the limit over the mesh
abbrev pub IsBy : (MeshLists → List ℕ) → ℕ → ℕ → MeshSeen → Refining → Type 0
IsBy scores least limit mesh r = r.rules ≡ want_rules scores least limit mesh.lists

-- the frame of the bodies loaded for a granted round
pub round_is_of : (scores : MeshLists → List ℕ) (least limit : ℕ) (bytes : List ℕ) (file : FileLists) (mesh : MeshSeen) (r : Refining) (tries : List Try) (bodies : List SeenBody) → file_in bytes ≡ Ok file → IsMeshOf file mesh → IsBy scores least limit mesh r → IsThrough r → tries ≡ (round_state r).tries → AreBodiesAt file.index bytes (cut_patches r) bodies
    → IsRoundFrame (want_rules scores least limit) file mesh.lists.root (round_frame r tries bodies)
unfolding rules_of
round_is_of scores least limit bytes file mesh r tries bodies is of rules through answers are = record {
  mesh = mesh.lists;
  is_mesh = of.facts;
  of_file = sym of.index;
  from_root = refl;
  epochs = epochs_of r.tries;
  granted = subst (λ (rs : Rules). IsGranted rs (epochs_of r.tries)) rules (record { whole = through.whole; granted = granted_epochs r.tries through.granted });
  still = record { session = refl; number = refl };
  shows = subst (λ (rs : Rules). ShowsCut file mesh.lists.root (has (round_of rs (epochs_of r.tries)).set) (round_frame r tries bodies)) rules (round_shows bytes file mesh r tries bodies is of (ap (λ (rs : Rules). rs.mesh) rules) are);
  tries = answers ∙ ap (λ (rs : Rules). (round_of rs (epochs_of r.tries)).tries) rules;
}

-- where the file is told
pub told_round : (scores : MeshLists → List ℕ) (least limit : ℕ) (told : Option (List ℕ)) (mesh : MeshSeen) (r : Refining) (bodies : List SeenBody) (text : List ℕ) → IsBy scores least limit mesh r → IsThrough r → r.tries ≡ (round_state r).tries → IfSome told (λ (bytes : List ℕ). AreBodiesAt mesh.lists.index bytes (cut_patches r) bodies)
    → IsFrameText (round_frame r r.tries bodies) text → IfSome told (λ (bytes : List ℕ). (file : FileLists) → file_in bytes ≡ Ok file → IsMeshOf file mesh → IsRoundText (want_rules scores least limit) file mesh.lists.root text)
told_round scores least limit None mesh r bodies text rules through answers are written = tt
told_round scores least limit (Some bytes) mesh r bodies text rules through answers are written = λ file is of. record {
  frame = round_frame r r.tries bodies;
  of_round = round_is_of scores least limit bytes file mesh r r.tries bodies is of rules through answers (subst (λ (i : IndexLists). AreBodiesAt i bytes (cut_patches r) bodies) (sym of.index) are);
  is = written;
}

-- each number of the list is a patch of these fields
abbrev ArePatchesOf : IndexLists → List ℕ → Type 0
ArePatchesOf index patches = (k d : ℕ) → k < length patches → slice_index_or patches k d < length index.fields

-- the patches of a round's frame are the mesh's
pub round_patches : (scores : MeshLists → List ℕ) (least limit : ℕ) (mesh : MeshSeen) (r : Refining) (patches : List ℕ) → IsBy scores least limit mesh r → patches ≡ cut_patches r → (k d : ℕ) → k < length patches → slice_index_or patches k d < length mesh.lists.index.fields
unfolding cut_patches rules_of
round_patches scores least limit mesh r patches rules are =
    let below : ArePatchesOf r.rules.mesh.index (cut_patches r) = chosen_below (leads_out (has (round_state r).set)) r.rules.mesh.index.fields in
    subst (ArePatchesOf mesh.lists.index) (sym are) (subst (λ (index : IndexLists). ArePatchesOf index (cut_patches r)) (ap (λ (rs : Rules). rs.mesh.index) rules) below)
