-- The summary that a bench run prints.
use Rattle.std.specs.Prelude.{ℕ, List, [], ◌∷◌, ◌++◌, codes}
use Rattle.std.specs.Fmt.{decimal}
use Rattle.text_model.specs.Lines.{line_of}

-- how large a frame is: the nodes of its cut, its patches, its triangles, and its open edges
pub record FrameCounts : Type 0 where
  pub nodes : ℕ
  pub patches : ℕ
  pub triangles : ℕ
  pub open_edges : ℕ

-- what a bench run counts: the columns of its strip; the bytes, nodes and patches of the strip's file; the
-- base; the turns until the tier settled; and the frame of the round behind that
pub record BenchCounts : Type 0 where
  pub columns : ℕ
  pub file_bytes : ℕ
  pub file_nodes : ℕ
  pub file_patches : ℕ
  pub base_patches : ℕ
  pub base_triangles : ℕ
  pub base_open : ℕ
  pub turns : ℕ
  pub frame : FrameCounts

-- the strip's columns
unfoldable pub bench_line : ℕ → List ℕ
bench_line columns = line_of (codes "bench") (decimal columns ∷ [])

-- the strip's file
unfoldable pub bench_file_line : BenchCounts → List ℕ
bench_file_line b = line_of (codes "file") (decimal b.file_bytes ∷ codes "nodes" ∷ decimal b.file_nodes ∷ codes "patches" ∷ decimal b.file_patches ∷ [])

-- the base
unfoldable pub bench_base_line : BenchCounts → List ℕ
bench_base_line b = line_of (codes "base") (codes "patches" ∷ decimal b.base_patches ∷ codes "triangles" ∷ decimal b.base_triangles ∷ codes "open" ∷ decimal b.base_open ∷ [])

-- the turns
unfoldable pub bench_settle_line : ℕ → List ℕ
bench_settle_line turns = line_of (codes "settle") (decimal turns ∷ [])

-- the frame
unfoldable pub bench_frame_line : FrameCounts → List ℕ
bench_frame_line f = line_of (codes "frame") (codes "nodes" ∷ decimal f.nodes ∷ codes "patches" ∷ decimal f.patches ∷ codes "triangles" ∷ decimal f.triangles ∷ codes "open" ∷ decimal f.open_edges ∷ [])

-- the five lines
unfoldable pub bench_text : BenchCounts → List ℕ
bench_text b = bench_line b.columns ++ (bench_file_line b ++ (bench_base_line b ++ (bench_settle_line b.turns ++ bench_frame_line b.frame)))
