-- A cut has one still frame for its tries. So the base has one text, and a round in which every try is
-- granted has one.
use Rattle.std.proofs.Common.{◌≡◌, ℕ, Bool, List, sym, ap, subst, ◌∙◌}
use Rattle.file_model.specs.Lists.{FileLists}
use Rattle.mesh_model.specs.Frames.{root_alone}
use Rattle.mesh_model.specs.Meshes.{MeshLists}
use Rattle.text_model.specs.FrameText.{Frame, IsFrameText}
use Rattle.round_model.specs.Order.{Rules}
use Rattle.round_model.specs.Rounds.{RoundState, has, round_of}
use Rattle.text_model.specs.ShownCuts.{ShowsCut}
use Rattle.still_texts.specs.Shown.{IsStill, IsBaseText}
use Rattle.still_texts.specs.Full.{IsGranted, IsRoundFrame, IsRoundText}
use Rattle.still_texts.specs.Sides.{IsSidesText}
use Rattle.view_planes.specs.HalfSpaces.{HalfSpaceSeen}
use Rattle.text_laws.specs.FrameTexts.{frame_text_is_one}
use Rattle.text_laws.specs.Meshes.{mesh_is_one}
use Rattle.text_laws.specs.Rounds.{granted_is_one}

-- ---- frames

frame_is_one : (file : FileLists) (root : ℕ) (in_set : ℕ → Bool) (frame other : Frame) → IsStill frame → IsStill other → ShowsCut file root in_set frame → ShowsCut file root in_set other → frame.tries ≡ other.tries → frame ≡ other
frame_is_one file root in_set frame other still other_still shows other_shows tries =
    let session = still.session ∙ sym other_still.session in
    let number = still.number ∙ sym other_still.number in
    let cut = shows.nodes ∙ sym other_shows.nodes in
    let patches = shows.patches ∙ sym other_shows.patches in
    let triangles = shows.triangles ∙ sym other_shows.triangles in
    λ i. record { session = session i; number = number i; cut = cut i; tries = tries i; patches = patches i; triangles = triangles i }

text_of_one : (frame other : Frame) (text other_text : List ℕ) → frame ≡ other → IsFrameText frame text → IsFrameText other other_text → text ≡ other_text
text_of_one frame other text other_text same h k = frame_text_is_one other text other_text (subst (λ (f : Frame). IsFrameText f text) same h) k

-- ---- the base

pub base_text_is_one : (file : FileLists) (root : ℕ) (text other : List ℕ) → IsBaseText file root text → IsBaseText file root other → text ≡ other
base_text_is_one file root text other h k =
    text_of_one h.frame k.frame text other (frame_is_one file root (root_alone root) h.frame k.frame h.still k.still h.shows k.shows (h.untried ∙ sym k.untried)) h.is k.is

-- ---- rounds in which every try is granted

stand_is_one : (rules : MeshLists → Rules) (mesh other : MeshLists) (epochs others : List ℕ) → mesh ≡ other → IsGranted (rules mesh) epochs → IsGranted (rules other) others → round_of (rules mesh) epochs ≡ round_of (rules other) others
stand_is_one rules mesh other epochs others same h k =
    let one = granted_is_one (rules other) epochs others (subst (λ (m : MeshLists). IsGranted (rules m) epochs) same h) k in
    λ i. round_of (rules (same i)) (one i)

pub round_frame_is_one : (rules : MeshLists → Rules) (file : FileLists) (root : ℕ) (frame other : Frame) → IsRoundFrame rules file root frame → IsRoundFrame rules file root other → frame ≡ other
round_frame_is_one rules file root frame other h k =
    let mesh = mesh_is_one h.mesh k.mesh h.is_mesh k.is_mesh (h.of_file ∙ sym k.of_file) (h.from_root ∙ sym k.from_root) in
    let stand = stand_is_one rules h.mesh k.mesh h.epochs k.epochs mesh h.granted k.granted in
    let shows = subst (λ (s : RoundState). ShowsCut file root (has s.set) frame) stand h.shows in
    let tries = h.tries ∙ ap (λ (s : RoundState). s.tries) stand ∙ sym k.tries in
    frame_is_one file root (has (round_of (rules k.mesh) k.epochs).set) frame other h.still k.still shows k.shows tries

pub round_text_is_one : (rules : MeshLists → Rules) (file : FileLists) (root : ℕ) (text other : List ℕ) → IsRoundText rules file root text → IsRoundText rules file root other → text ≡ other
round_text_is_one rules file root text other h k =
    text_of_one h.frame k.frame text other (round_frame_is_one rules file root h.frame k.frame h.of_round k.of_round) h.is k.is

-- ---- the sides of a plane

pub sides_text_is_one : (plane : HalfSpaceSeen) (file : FileLists) (text other : List ℕ) → IsSidesText plane file text → IsSidesText plane file other → text ≡ other
sides_text_is_one plane file text other h k = h ∙ sym k
