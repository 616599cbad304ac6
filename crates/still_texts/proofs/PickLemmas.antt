-- What a ray meets first in the bodies that were loaded.
use Rattle.std.proofs.Common.{◌≡◌, ℕ, List, [], ◌∷◌, map, Option, Some, None, Ok, refl, sym, subst, ◌∙◌}
use Rattle.std.specs.Prelude.{IfSome, slice_get, option_map}
use Rattle.file_model.specs.Lists.{BodyLists, IndexLists, FileLists, SeenBody}
use Rattle.file_model.specs.Reading.{file_in}
use Rattle.mesh_model.specs.Meshes.{MeshLists}
use Rattle.round_model.specs.Refiners.{Refining, round_state, cut_patches}
use Rattle.round_model.specs.Scores.{score_of}
use Rattle.round_model.specs.Views.{ViewSeen, view_rules}
use Rattle.body_loads.specs.Loads.{body_at, read_as, AreBodiesAt}
use Rattle.body_loads.specs.LoadLaws.{loads_body}
use Rattle.accepted_mesh.specs.MeshView.{MeshSeen, IsMeshOf}
use Rattle.ray_pick.specs.declared.picks.Hit.{Hit}
use Rattle.ray_pick.specs.Rays.{RaySeen}
use Rattle.ray_pick.specs.Picks.{IsPicked}
use Rattle.still_texts.specs.Picks.{pick_line, AreBodiesIn, IsPickText}
use Rattle.still_texts.proofs.RoundLemmas.{IsThrough, round_frame, round_is_of}

as_read : (at : Option BodyLists) (body : SeenBody) → option_map Ok at ≡ read_as body → at ≡ Some body.lists
as_read None body is = absurd cc
as_read (Some lists) body is = let same : lists ≡ body.lists = cc in λ i. Some (same i)

-- the bodies loaded of a file are the file's
loaded_in : (bytes : List ℕ) (file : FileLists) (patches : List ℕ) (bodies : List SeenBody) → file_in bytes ≡ Ok file → AreBodiesAt file.index bytes patches bodies → AreBodiesIn file patches bodies
loaded_in bytes file [] [] is are = refl
loaded_in bytes file [] (b ∷ bs) is are = absurd cc
loaded_in bytes file (p ∷ ps) [] is are = absurd cc
loaded_in bytes file (p ∷ ps) (b ∷ bs) is are =
    let here : body_at file.index bytes p ≡ read_as b = cc in
    let behind : map (body_at file.index bytes) ps ≡ map read_as bs = cc in
    let first = as_read (slice_get file.bodies p) b (sym (loads_body bytes file p is) ∙ here) in
    let others = loaded_in bytes file ps bs is behind in
    λ i. first i ∷ others i

-- where the file is told
pub told_pick : (told : Option (List ℕ)) (view : ViewSeen) (ray : RaySeen) (mesh : MeshSeen) (r : Refining) (bodies : List SeenBody) (found : Option Hit) (text : List ℕ) → r.rules ≡ view_rules view mesh.lists → IsThrough r → IfSome told (λ (bytes : List ℕ). AreBodiesAt mesh.lists.index bytes (cut_patches r) bodies)
    → IsPicked ray (cut_patches r) bodies found → text ≡ pick_line found → IfSome told (λ (bytes : List ℕ). (file : FileLists) → file_in bytes ≡ Ok file → IsMeshOf file mesh → IsPickText view ray file mesh.lists.root text)
told_pick None view ray mesh r bodies found text rules through are picked is_line = tt
told_pick (Some bytes) view ray mesh r bodies found text rules through are picked is_line = λ file is of.
    let loaded = subst (λ (i : IndexLists). AreBodiesAt i bytes (cut_patches r) bodies) (sym of.index) are in
    record {
      frame = round_frame r (round_state r).tries bodies;
      of_round = round_is_of (λ (lists : MeshLists). map (score_of view.eye view.focal) lists.index.nodes) view.threshold view.limit bytes file mesh r (round_state r).tries bodies is of rules through refl loaded;
      bodies = bodies;
      of_file = loaded_in bytes file (cut_patches r) bodies is loaded;
      found = found;
      picked = picked;
      is = is_line;
    }
