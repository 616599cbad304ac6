-- The base's frame shows the cut of the root alone.
use Rattle.std.proofs.Common.{◌≡◌, ◌≢◌, ◌<◌, ◌≤◌, ℕ, zero, suc, ◌+◌, List, [], ◌∷◌, ◌++◌, length, Option, Some, None, Ok, refl, sym, ap, subst, ◌∙◌, inl, inr, arith}
use Rattle.std.specs.Prelude.{IfSome}
use Rattle.std.specs.List.{flat_map}
use Rattle.std.proofs.lemmas.Bool.{cases_eq, eq-eqb, ne_eqb}
use Rattle.grid_vertex.specs.declared.triangles.Triangle.{Triangle}
use Rattle.file_model.specs.Lists.{IndexLists, FileLists, triangles_of}
use Rattle.file_model.specs.Rules.{IsIndex}
use Rattle.file_model.specs.Reading.{file_in}
use Rattle.mesh_model.specs.Graph.{numbers_from, nodes_where, outgoing, leads_from}
use Rattle.mesh_model.specs.Nets.{net}
use Rattle.mesh_model.specs.Frames.{root_alone}
use Rattle.mesh_model.specs.Accepted.{triangles_out_of}
use Rattle.mesh_laws.specs.Bases.{base_is_cut, base_patches, base_triangles}
use Rattle.mesh_laws.specs.Roots.{only_root_from_roots}
use Rattle.text_model.specs.Lines.{Adds}
use Rattle.text_model.specs.FrameText.{Frame, IsFrameText}
use Rattle.file_model.specs.Lists.{SeenBody}
use Rattle.frame_writer.specs.Frames.{AddsFrame, frame_of, triangles_in}
use Rattle.body_loads.specs.Loads.{AreBodiesAt, lists_of}
use Rattle.body_loads.specs.LoadLaws.{loads_triangles}
use Rattle.accepted_mesh.specs.MeshView.{MeshSeen, IsMeshOf}
use Rattle.text_model.specs.ShownCuts.{ShowsCut}
use Rattle.still_texts.specs.Shown.{IsBaseText}

-- bodies' triangles are their lists'
pub triangles_in-lists : (bodies : List SeenBody) → triangles_in bodies ≡ flat_map triangles_of (lists_of bodies)
triangles_in-lists [] = refl
triangles_in-lists (body ∷ bodies) = ap (λ (ts : List Triangle). triangles_of body.lists ++ ts) (triangles_in-lists bodies)

-- ---- the root is the one node of the set

alone_past : (root n first : ℕ) → root < first → numbers_from first n (root_alone root) ≡ []
unfolding numbers_from
alone_past root zero first past = refl
alone_past root (suc n) first past = rw (ne_eqb first root (λ same. omega (arith, same))) (alone_past root n (first + 1) (omega arith))

alone_from : (root n first : ℕ) → first ≤ root → root < first + n → numbers_from first n (root_alone root) ≡ root ∷ []
unfolding numbers_from
alone_from root zero first low high = absurd (omega arith)
alone_from root (suc n) first low high =
    elim (cases_eq first root) [
      | inl same ↦ rw (eq-eqb first root same, same) (ap (λ (vs : List ℕ). root ∷ vs) (alone_past root n (root + 1) (omega arith)))
      | inr other ↦ rw (ne_eqb first root other) (alone_from root n (first + 1) (let apart : first ≢ root = other in omega (arith, apart)) (omega arith))
    ]

root_is_alone : (n root : ℕ) → root < n → nodes_where n (root_alone root) ≡ root ∷ []
root_is_alone n root within = alone_from root n 0 (omega arith) (omega arith)

-- ---- the base's frame

-- the frame of bodies whose triangles are those of the root's patches
base_shows : (file : FileLists) (mesh : MeshSeen) (bodies : List SeenBody) → IsMeshOf file mesh → triangles_in bodies ≡ triangles_out_of file mesh.lists.root
    → ShowsCut file mesh.lists.root (root_alone mesh.lists.root) (frame_of 0 1 (mesh.lists.root ∷ []) [] (outgoing file.index.fields mesh.lists.root) bodies)
base_shows file mesh bodies is are =
    let root = mesh.lists.root in
    let one_root = is.accepted.graph.one_root in
    record {
      cut = base_is_cut file.index root (subst IsIndex (sym is.index) is.facts.rules) is.accepted.graph;
      nodes = sym (root_is_alone (length file.index.nodes) root (only_root_from_roots (length file.index.nodes) file.index.fields root one_root).node);
      patches = sym (base_patches (length file.index.nodes) file.index.fields root one_root);
      triangles = are ∙ sym (base_triangles (length file.index.nodes) file root one_root);
      boundary = λ a b. ap (λ (ts : List Triangle). net ts a b) are;
    }

-- the frame that is written of the bodies loaded for the root's patches
base_text_is : (bytes : List ℕ) (file : FileLists) (mesh : MeshSeen) (bodies : List SeenBody) (text : List ℕ) → file_in bytes ≡ Ok file → IsMeshOf file mesh → AreBodiesAt file.index bytes (outgoing file.index.fields mesh.lists.root) bodies
    → IsFrameText (frame_of 0 1 (mesh.lists.root ∷ []) [] (outgoing file.index.fields mesh.lists.root) bodies) text → IsBaseText file mesh.lists.root text
base_text_is bytes file mesh bodies text is of are written = record {
  frame = frame_of 0 1 (mesh.lists.root ∷ []) [] (outgoing file.index.fields mesh.lists.root) bodies;
  still = record { session = refl; number = refl };
  shows = base_shows file mesh bodies of (triangles_in-lists bodies ∙ loads_triangles bytes file (leads_from mesh.lists.root) bodies is are);
  untried = refl;
  is = written;
}

-- a piece that was appended to nothing
pub first_piece : (before after piece : List ℕ) → before ≡ [] → Adds before after piece → after ≡ piece
first_piece before after piece none adds = adds.is ∙ ap (λ (front : List ℕ). front ++ piece) none

-- the text of a frame that was appended to nothing
pub first_text : (before after : List ℕ) (frame : Frame) → before ≡ [] → AddsFrame before after frame → IsFrameText frame after
first_text before after frame none adds =
    subst (IsFrameText frame) (sym (first_piece before after adds.text none adds.adds)) adds.is_text

-- ---- where the file is told

-- the bodies loaded for the mesh's base, and the text of their frame
pub told_base : (told : Option (List ℕ)) (mesh : MeshSeen) (bodies : List SeenBody) (text : List ℕ) → IfSome told (λ (bytes : List ℕ). AreBodiesAt mesh.lists.index bytes (outgoing mesh.lists.index.fields mesh.lists.root) bodies)
    → IsFrameText (frame_of 0 1 (mesh.lists.root ∷ []) [] (outgoing mesh.lists.index.fields mesh.lists.root) bodies) text
    → IfSome told (λ (bytes : List ℕ). (file : FileLists) → file_in bytes ≡ Ok file → IsMeshOf file mesh → IsBaseText file mesh.lists.root text)
told_base None mesh bodies text are written = tt
told_base (Some bytes) mesh bodies text are written = λ file is of.
    base_text_is bytes file mesh bodies text is of
    (subst (λ (i : IndexLists). AreBodiesAt i bytes (outgoing i.fields mesh.lists.root) bodies) (sym of.index) are)
    (subst (λ (i : IndexLists). IsFrameText (frame_of 0 1 (mesh.lists.root ∷ []) [] (outgoing i.fields mesh.lists.root) bodies) text) (sym of.index) written)
