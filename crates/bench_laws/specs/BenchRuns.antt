-- What `bench` does over the strip of c columns, and the summary that it prints.
use Rattle.std.specs.Prelude.{◌≡◌, ℕ, ◌+◌, ◌-◌, ◌*◌, List, [], ◌∷◌, length, Some}
use Rattle.std.specs.List.{range_with_len}
use Rattle.file_model.specs.Lists.{FileLists}
use Rattle.file_model.specs.Spelling.{file_text}
use Rattle.mesh_model.specs.Frames.{frame_patches, root_alone}
use Rattle.mesh_model.specs.Meshes.{IsMesh}
use Rattle.mesh_model.specs.Nets.{HasOpenPairs}
use Rattle.mesh_laws.specs.Frames.{frame_of_set}
use Rattle.round_model.specs.Views.{ViewSeen}
use Rattle.script_model.specs.declared.orders.Order.{Order}
use Rattle.script_model.specs.declared.orders.Order.TheVariants as orders
use Rattle.strip_laws.specs.Strip.{flat, strip_file}
use Rattle.text_model.specs.BenchText.{FrameCounts, BenchCounts, bench_text}
use Rattle.text_model.specs.FrameText.{Frame}
use Rattle.tier_model.specs.declared.turns.Turn.{Turn}
use Rattle.run_model.specs.Worlds.{World}
use Rattle.run_model.specs.States.{State}
use Rattle.run_model.specs.Lines.{Did, DidOpen, DidView, DidTurns, DidFrame, Runs}
use Rattle.run_model.specs.RunTexts.{store_outcomes, IsOpening}
use Rattle.bench_laws.specs.Settlings.{NeverFails, IsReadyToSettle, IsReadyToShow}

-- ---- what is run

-- the strip in version 1
abbrev pub bench_file : ℕ → FileLists
bench_file c = strip_file 1 c

-- as many bytes as all bodies have
abbrev pub bench_budget : ℕ → ℕ
bench_budget c = 300 * c - 120

-- from the strip's middle, a view that wants all that there is
abbrev pub bench_view : ℕ → ViewSeen
bench_view c = record { eye = flat (2 * c) 2; focal = 65536; threshold = 1; limit = 4294967295 }

-- session 1 opens with that view
abbrev pub first_orders : ℕ → List Order
first_orders c = orders.Open 1 ∷ (orders.View 1 (bench_view c) ∷ [])

-- it does so, the tier settles, and a round is finished
abbrev pub bench_orders : ℕ → List Order
bench_orders c = orders.Open 1 ∷ (orders.View 1 (bench_view c) ∷ (orders.Settle ∷ (orders.Frame 1 ∷ [])))

-- the accepted strip, whose bodies are told, and one tier that has room for them all and to which patches come one
-- at a time
pub record IsBenchWorld (c : ℕ) (w : World) : Type 0 where
  pub mesh : IsMesh w.mesh
  pub index : w.mesh.index ≡ (bench_file c).index
  pub bodies : w.bodies ≡ Some (bench_file c).bodies
  pub budgets : w.budgets ≡ bench_budget c ∷ []
  pub width : w.width ≡ 1

-- what the four lines did
abbrev pub bench_dids : List (ℕ × Turn) → Frame → List Did
bench_dids log frame = DidOpen 1 ∷ (DidView 1 ∷ (DidTurns log ∷ (DidFrame frame ∷ [])))

-- a run of the four lines from an opening over the strip, over a store that never fails
pub record IsBenchRun (c : ℕ) (w : World) (dids : List Did) : Type 0 where
  pub world : IsBenchWorld c w
  pub first : State
  pub opens : IsOpening w first
  pub last : State
  pub runs : Runs w first (bench_orders c) dids last
  pub never : NeverFails (store_outcomes w dids)

-- ---- what is counted

-- the frame has so many nodes in its cut, patches, triangles and open edges
pub record IsFrameCounted (frame : Frame) (counts : FrameCounts) : Type 0 where
  pub nodes : length frame.cut ≡ counts.nodes
  pub patches : length frame.patches ≡ counts.patches
  pub triangles : length frame.triangles ≡ counts.triangles
  pub open_edges : HasOpenPairs frame.triangles counts.open_edges

-- the counts are those of the strip's file, its base, and a run
pub record AreBenchCounts (c : ℕ) (counts : BenchCounts) : Type 0 where
  pub w : World
  pub log : List (ℕ × Turn)
  pub frame : Frame
  pub run : IsBenchRun c w (bench_dids log frame)
  pub columns : c ≡ counts.columns
  pub file_bytes : length (file_text (bench_file c)) ≡ counts.file_bytes
  pub file_nodes : length (bench_file c).index.nodes ≡ counts.file_nodes
  pub file_patches : length (bench_file c).index.fields ≡ counts.file_patches
  pub base_patches : length (frame_patches (root_alone 0) (bench_file c).index.fields) ≡ counts.base_patches
  pub base_triangles : length (frame_of_set (bench_file c) (root_alone 0)) ≡ counts.base_triangles
  pub base_open : HasOpenPairs (frame_of_set (bench_file c) (root_alone 0)) counts.base_open
  pub turns : length log ≡ counts.turns
  pub counted : IsFrameCounted frame counts.frame

-- the text is the summary of what a run came to
pub record IsBenchText (c : ℕ) (text : List ℕ) : Type 0 where
  pub counts : BenchCounts
  pub are : AreBenchCounts c counts
  pub is : text ≡ bench_text counts

-- ---- what it comes to

-- 9c - 2 turns: each patch outside the base is reserved, fetched and held, and one turn is idle
abbrev pub bench_turns : ℕ → ℕ
bench_turns c = 9 * c - 2

-- the finest frame
abbrev pub bench_frame : ℕ → FrameCounts
bench_frame c = record { nodes = 2 * c; patches = c + 1; triangles = 6 * c - 2; open_edges = 2 * c + 2 }

abbrev pub bench_counts : ℕ → BenchCounts
bench_counts c = record {
  columns = c;
  file_bytes = 388 * c - 96;
  file_nodes = 2 * c + 1;
  file_patches = 4 * c - 1;
  base_patches = c;
  base_triangles = 2 * c;
  base_open = 2 * c + 2;
  turns = bench_turns c;
  frame = bench_frame c;
}

-- the cut is all nodes before the sink, and the frame is so large
pub record IsFinestFrame (c : ℕ) (frame : Frame) : Type 0 where
  pub cut : frame.cut ≡ range_with_len 0 (2 * c)
  pub counted : IsFrameCounted frame (bench_frame c)

-- the settling took so many turns, and the frame behind it is the finest
pub record ComesTo (c : ℕ) (dids : List Did) : Type 0 where
  pub log : List (ℕ × Turn)
  pub frame : Frame
  pub are : dids ≡ bench_dids log frame
  pub turns : length log ≡ bench_turns c
  pub finest : IsFinestFrame c frame

-- behind its first two lines a run is ready to settle, and session 1's view can be shown
pub record IsReadyToBench (c : ℕ) (w : World) (a : State) : Type 0 where
  pub settle : IsReadyToSettle w a
  pub show : IsReadyToShow w a 1 (bench_view c)
