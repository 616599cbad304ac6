-- Triangles have one number of open edges. So an accepted file has one line, and a frame one text.
use Rattle.std.proofs.Common.{◌≡◌, ℕ, List, length, sym, ap, ◌∙◌}
use Rattle.grid_vertex.specs.declared.triangles.Triangle.{Triangle}
use Rattle.file_model.specs.Lists.{FileLists}
use Rattle.mesh_model.specs.Nets.{HasOpenPairs}
use Rattle.mesh_model.specs.Frames.{triangles_in_all}
use Rattle.mesh_model.specs.Accepted.{triangles_out_of}
use Rattle.text_model.specs.FrameText.{Frame, IsFrameText, frame_text}
use Rattle.text_model.specs.AcceptedText.{IsAcceptedText, accepted_line}
use Rattle.mesh_laws.specs.OpenEdges.{open_is_one}

count_is_one : (triangles : List Triangle) (m n : ℕ) → HasOpenPairs triangles m → HasOpenPairs triangles n → m ≡ n
count_is_one triangles m n h k = sym h.number ∙ ap length (open_is_one triangles h.pairs k.pairs h.are_open k.are_open) ∙ k.number

pub accepted_text_is_one : (file : FileLists) (root : ℕ) (text other : List ℕ) → IsAcceptedText file root text → IsAcceptedText file root other → text ≡ other
accepted_text_is_one file root text other h k =
    let same = count_is_one (triangles_out_of file root) h.open_edges k.open_edges h.counted k.counted in
    h.is ∙ ap (accepted_line (length file.index.nodes) (length file.index.fields) (triangles_in_all file.index.fields)) same ∙ sym k.is

pub frame_text_is_one : (frame : Frame) (text other : List ℕ) → IsFrameText frame text → IsFrameText frame other → text ≡ other
frame_text_is_one frame text other h k =
    let same = count_is_one frame.triangles h.open_edges k.open_edges h.counted k.counted in
    h.is ∙ ap (λ (count : ℕ). frame_text count frame) same ∙ sym k.is
