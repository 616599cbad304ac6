-- Frames of rounds in which every try is granted, and their texts.
use Rattle.std.specs.Prelude.{◌≡◌, ℕ, List}
use Rattle.std.specs.List.{AllByRecursion}
use Rattle.file_model.specs.Lists.{FileLists}
use Rattle.mesh_model.specs.Meshes.{MeshLists, IsMesh}
use Rattle.text_model.specs.FrameText.{Frame, IsFrameText}
use Rattle.round_model.specs.Order.{Rules}
use Rattle.round_model.specs.Rounds.{has, round_of, IsWhole}
use Rattle.round_model.specs.Views.{ViewSeen, rules_of, view_rules}
use Rattle.text_model.specs.ShownCuts.{ShowsCut}
use Rattle.view_planes.specs.Planes.{PlanesSeen, planes_rules}
use Rattle.still_texts.specs.Shown.{IsStill}

-- the round is whole, and each of its tries was answered by epoch 1
pub record IsGranted (rules : Rules) (epochs : List ℕ) : Type 0 where
  pub whole : IsWhole (round_of rules epochs)
  pub granted : AllByRecursion (λ epoch. epoch ≡ 1) epochs

-- the rules of a round over a mesh: each node's score, the score that a wanted node is above, and a limit
abbrev pub want_rules : (MeshLists → List ℕ) → ℕ → ℕ → MeshLists → Rules
want_rules scores least limit mesh = rules_of mesh (scores mesh) least limit

-- the frame is that of the whole round by the rules over the file's mesh in which every try is granted
pub record IsRoundFrame (rules : MeshLists → Rules) (file : FileLists) (root : ℕ) (frame : Frame) : Type 0 where
  pub mesh : MeshLists
  pub is_mesh : IsMesh mesh
  pub of_file : mesh.index ≡ file.index
  pub from_root : mesh.root ≡ root
  pub epochs : List ℕ
  pub granted : IsGranted (rules mesh) epochs
  pub still : IsStill frame
  pub shows : ShowsCut file root (has (round_of (rules mesh) epochs).set) frame
  pub tries : frame.tries ≡ (round_of (rules mesh) epochs).tries

-- the text of that frame
pub record IsRoundText (rules : MeshLists → Rules) (file : FileLists) (root : ℕ) (text : List ℕ) : Type 0 where
  pub frame : Frame
  pub of_round : IsRoundFrame rules file root frame
  pub is : IsFrameText frame text

-- the text of the view's frame
abbrev pub IsFullText : ViewSeen → FileLists → ℕ → List ℕ → Type 0
IsFullText view file root text = IsRoundText (view_rules view) file root text

-- the text of the frame of the view with half-spaces
abbrev pub IsCullText : PlanesSeen → FileLists → ℕ → List ℕ → Type 0
IsCullText seen file root text = IsRoundText (planes_rules seen) file root text
