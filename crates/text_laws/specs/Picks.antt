-- What a ray meets first is told by the patches and what their bodies say. So a pick has one text.
use Rattle.std.proofs.Common.{◌≡◌, ℕ, zero, suc, ◌+◌, ◌<◌, List, [], ◌∷◌, ◌++◌, length, map, take, Option, Some, None, refl, sym, ap, subst, ◌∙◌}
use Rattle.std.specs.Prelude.{slice_get}
use Rattle.grid_vertex.specs.declared.triangles.Triangle.{Triangle}
use Rattle.file_model.specs.Lists.{BodyLists, FileLists, SeenBody, triangles_of}
use Rattle.text_model.specs.FrameText.{Frame}
use Rattle.round_model.specs.Views.{ViewSeen, view_rules}
use Rattle.body_loads.specs.Loads.{lists_of}
use Rattle.ray_pick.specs.declared.picks.Hit.{Hit}
use Rattle.ray_pick.specs.Rays.{RaySeen, Misses}
use Rattle.ray_pick.specs.Picks.{triangles_in, IsNearest, IsSpot, IsPicked}
use Rattle.ray_pick.specs.OnePick.{pick_is_one}
use Rattle.still_texts.specs.Picks.{pick_line, AreBodiesIn, IsPickText}
use Rattle.text_laws.specs.Texts.{round_frame_is_one}

-- ---- bodies that say the same

same_lists : (bodies others : List SeenBody) → map (λ (body : SeenBody). Some body.lists) bodies ≡ map (λ (body : SeenBody). Some body.lists) others → lists_of bodies ≡ lists_of others
same_lists [] [] same = refl
same_lists [] (o ∷ os) same = absurd cc
same_lists (b ∷ bs) [] same = absurd cc
same_lists (b ∷ bs) (o ∷ os) same =
    let here : b.lists ≡ o.lists = cc in
    let behind : map (λ (body : SeenBody). Some body.lists) bs ≡ map (λ (body : SeenBody). Some body.lists) os = cc in
    let rest = same_lists bs os behind in
    λ i. here i ∷ rest i

same_triangles : (bodies others : List SeenBody) → lists_of bodies ≡ lists_of others → triangles_in bodies ≡ triangles_in others
same_triangles [] [] same = refl
same_triangles [] (o ∷ os) same = absurd cc
same_triangles (b ∷ bs) [] same = absurd cc
same_triangles (b ∷ bs) (o ∷ os) same =
    let here : b.lists ≡ o.lists = cc in
    let behind : lists_of bs ≡ lists_of os = cc in
    let rest = same_triangles bs os behind in
    λ i. triangles_of (here i) ++ rest i

same_take : (bodies others : List SeenBody) (k : ℕ) → lists_of bodies ≡ lists_of others → lists_of (take k bodies) ≡ lists_of (take k others)
same_take bodies others zero same = refl
same_take [] [] (suc k) same = refl
same_take [] (o ∷ os) (suc k) same = absurd cc
same_take (b ∷ bs) [] (suc k) same = absurd cc
same_take (b ∷ bs) (o ∷ os) (suc k) same =
    let here : b.lists ≡ o.lists = cc in
    let behind : lists_of bs ≡ lists_of os = cc in
    let rest = same_take bs os k behind in
    λ i. here i ∷ rest i

same_at : (bodies others : List SeenBody) (k : ℕ) (body : SeenBody) → lists_of bodies ≡ lists_of others → slice_get bodies k ≡ Some body → (other : SeenBody) × (slice_get others k ≡ Some other) × (body.lists ≡ other.lists)
same_at [] others k body same there = absurd cc
same_at (b ∷ bs) [] k body same there = absurd cc
same_at (b ∷ bs) (o ∷ os) zero body same there = let is : b ≡ body = cc in let here : b.lists ≡ o.lists = cc in (o, refl, ap (λ (seen : SeenBody). seen.lists) (sym is) ∙ here)
same_at (b ∷ bs) (o ∷ os) (suc k) body same there = let behind : lists_of bs ≡ lists_of os = cc in same_at bs os k body behind there

same_spot : (patches : List ℕ) (bodies others : List SeenBody) (place patch triangle : ℕ) → lists_of bodies ≡ lists_of others → IsSpot patches bodies place patch triangle → IsSpot patches others place patch triangle
same_spot patches bodies others place patch triangle same spot =
    let other = same_at bodies others spot.index spot.body same spot.body_there in
    record {
      index = spot.index;
      body = other.0;
      patch_there = spot.patch_there;
      body_there = other.1;
      inside = subst (λ (lists : BodyLists). triangle < length (triangles_of lists)) other.2 spot.inside;
      place_is = spot.place_is ∙ ap (λ (ts : List Triangle). length ts + triangle) (same_triangles (take spot.index bodies) (take spot.index others) (same_take bodies others spot.index same));
    }

same_pick : (ray : RaySeen) (patches : List ℕ) (bodies others : List SeenBody) (found : Option Hit) → lists_of bodies ≡ lists_of others → IsPicked ray patches bodies found → IsPicked ray patches others found
unfolding IsPicked
same_pick ray patches bodies others None same picked =
    subst (λ (ts : List Triangle). (k : ℕ) (t : Triangle) → k < length ts → slice_get ts k ≡ Some t → Misses ray t) (same_triangles bodies others same) picked
same_pick ray patches bodies others (Some hit) same picked = record {
  nearest = subst (λ (ts : List Triangle). IsNearest ray ts (length ts) hit.place hit.above hit.below) (same_triangles bodies others same) picked.nearest;
  spot = same_spot patches bodies others hit.place hit.patch hit.triangle same picked.spot;
}

-- ---- the text

found_is_one : (ray : RaySeen) (file : FileLists) (patches others : List ℕ) (bodies other_bodies : List SeenBody) (found other : Option Hit) → patches ≡ others → AreBodiesIn file patches bodies → AreBodiesIn file others other_bodies → IsPicked ray patches bodies found → IsPicked ray others other_bodies other → found ≡ other
found_is_one ray file patches others bodies other_bodies found other same are other_are h k =
    let are_same = subst (λ (ps : List ℕ). AreBodiesIn file ps bodies) same are in
    let lists = same_lists bodies other_bodies (sym are_same ∙ other_are) in
    pick_is_one ray others other_bodies found other (same_pick ray others bodies other_bodies found lists (subst (λ (ps : List ℕ). IsPicked ray ps bodies found) same h)) k

pub pick_text_is_one : (view : ViewSeen) (ray : RaySeen) (file : FileLists) (root : ℕ) (text other : List ℕ) → IsPickText view ray file root text → IsPickText view ray file root other → text ≡ other
pick_text_is_one view ray file root text other h k =
    let frame = round_frame_is_one (view_rules view) file root h.frame k.frame h.of_round k.of_round in
    let found = found_is_one ray file h.frame.patches k.frame.patches h.bodies k.bodies h.found k.found (ap (λ (f : Frame). f.patches) frame) h.of_file k.of_file h.picked k.picked in
    h.is ∙ ap pick_line found ∙ sym k.is
