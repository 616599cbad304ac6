-- The summary of a bench run is a function of the number of columns.
use Rattle.std.proofs.Common.{◌≡◌, ℕ, ◌+◌, ◌-◌, ◌*◌, ◌≤◌, List, length, refl, sym, ap, subst, ◌∙◌, arith}
use Rattle.grid_vertex.specs.declared.triangles.Triangle.{Triangle}
use Rattle.mesh_model.specs.Frames.{root_alone}
use Rattle.mesh_model.specs.Nets.{Pair, HasOpenPairs}
use Rattle.mesh_laws.specs.Frames.{frame_of_set}
use Rattle.mesh_laws.specs.Bases.{base_is_cut}
use Rattle.mesh_laws.specs.OpenEdges.{open_is_one}
use Rattle.strip_laws.specs.StripBorder.{frame_has_open}
use Rattle.strip_laws.specs.StripCounts.{patch_count, field_count}
use Rattle.strip_laws.specs.StripFrames.{base_patch_count, base_triangle_count}
use Rattle.strip_laws.specs.StripNodes.{node_count}
use Rattle.strip_laws.specs.StripRules.{strip_index, strip_is_accepted, file_length_1}
use Rattle.text_model.specs.BenchText.{FrameCounts, BenchCounts, bench_text}
use Rattle.text_model.specs.FrameText.{Frame}
use Rattle.tier_model.specs.declared.turns.Turn.{Turn}
use Rattle.bench_laws.specs.BenchRuns.{bench_file, bench_dids, bench_turns, bench_frame, bench_counts, IsFrameCounted, AreBenchCounts, IsBenchText}
use Rattle.bench_laws.specs.BenchLaws.{bench_comes_to}

open_number : (triangles : List Triangle) (m n : ℕ) → HasOpenPairs triangles m → HasOpenPairs triangles n → m ≡ n
open_number triangles m n first second =
    sym first.number ∙ ap (λ (pairs : List Pair). length pairs) (open_is_one triangles first.pairs second.pairs first.are_open second.are_open) ∙ second.number

frame_counts : (frame : Frame) (counts others : FrameCounts) → IsFrameCounted frame counts → IsFrameCounted frame others → counts ≡ others
frame_counts frame counts others first second =
    let nodes = sym first.nodes ∙ second.nodes in
    let patches = sym first.patches ∙ second.patches in
    let triangles = sym first.triangles ∙ second.triangles in
    let open_edges = open_number frame.triangles counts.open_edges others.open_edges first.open_edges second.open_edges in
    λ t. counts_with (nodes t) (patches t) (triangles t) (open_edges t)
  where
    counts_with : ℕ → ℕ → ℕ → ℕ → FrameCounts
    counts_with nodes patches triangles open_edges = record { nodes = nodes; patches = patches; triangles = triangles; open_edges = open_edges }

same_log : (log other : List (ℕ × Turn)) (frame more : Frame) → bench_dids log frame ≡ bench_dids other more → log ≡ other
same_log log other frame more same = cc

same_frame : (log other : List (ℕ × Turn)) (frame more : Frame) → bench_dids log frame ≡ bench_dids other more → frame ≡ more
same_frame log other frame more same = cc

abbrev counts_of : ℕ → ℕ → ℕ → ℕ → ℕ → ℕ → ℕ → ℕ → FrameCounts → BenchCounts
counts_of columns file_bytes file_nodes file_patches base_patches base_triangles base_open turns frame = record {
  columns = columns;
  file_bytes = file_bytes;
  file_nodes = file_nodes;
  file_patches = file_patches;
  base_patches = base_patches;
  base_triangles = base_triangles;
  base_open = base_open;
  turns = turns;
  frame = frame;
}

-- what is counted of a run is so much
pub bench_counts_are : (c : ℕ) → 2 ≤ c → c ≤ 16384 → (counts : BenchCounts) → AreBenchCounts c counts → counts ≡ bench_counts c
bench_counts_are c some few counts are =
    let comes = bench_comes_to c some few are.w (bench_dids are.log are.frame) are.run in
    let file = bench_file c in
    let bytes : counts.file_bytes ≡ 388 * c - 96 = let is = are.file_bytes in let many = file_length_1 c some few in omega arith in
    let nodes : counts.file_nodes ≡ 2 * c + 1 = sym are.file_nodes ∙ node_count c (omega arith) in
    let patches : counts.file_patches ≡ 4 * c - 1 = let is = are.file_patches in let many = patch_count c (omega arith) in let fields = field_count c in omega arith in
    let base_patches : counts.base_patches ≡ c = sym are.base_patches ∙ base_patch_count c (omega arith) in
    let base_triangles : counts.base_triangles ≡ 2 * c = sym are.base_triangles ∙ base_triangle_count 1 c (omega arith) in
    let accepted = strip_is_accepted 1 c (omega arith) in
    let border = frame_has_open 1 c (root_alone 0) refl some few (base_is_cut file.index 0 (strip_index 1 c refl some few) accepted.graph) in
    let base_open : counts.base_open ≡ 2 * c + 2 = open_number (frame_of_set file (root_alone 0)) counts.base_open (2 * c + 2) are.base_open border in
    let turns : counts.turns ≡ bench_turns c = sym are.turns ∙ ap (λ (log : List (ℕ × Turn)). length log) (same_log are.log comes.log are.frame comes.frame comes.are) ∙ comes.turns in
    let frame : counts.frame ≡ bench_frame c =
    frame_counts are.frame counts.frame (bench_frame c) are.counted (subst (λ (f : Frame). IsFrameCounted f (bench_frame c)) (sym (same_frame are.log comes.log are.frame comes.frame comes.are)) comes.finest.counted) in
    λ t. counts_of (sym are.columns t) (bytes t) (nodes t) (patches t) (base_patches t) (base_triangles t) (base_open t) (turns t) (frame t)

-- so its summary is one
pub bench_text_is : (c : ℕ) → 2 ≤ c → c ≤ 16384 → (text : List ℕ) → IsBenchText c text → text ≡ bench_text (bench_counts c)
bench_text_is c some few text is = is.is ∙ ap bench_text (bench_counts_are c some few is.counts is.are)
