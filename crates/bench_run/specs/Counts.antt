-- What a bench run counts, and how large the strip's base is.
use Rattle.text_model.specs.BenchText.{FrameCounts, BenchCounts}
use Rattle.view_machine.specs.declared.sizes.FrameSize.{FrameSize}
use Rattle.bench_run.specs.declared.summaries.RunCounts.{RunCounts}

abbrev pub frame_seen : FrameSize → FrameCounts
frame_seen f = record { nodes = f.nodes; patches = f.patches; triangles = f.triangles; open_edges = f.open_edges }

abbrev pub counts_seen : RunCounts → BenchCounts
counts_seen c = record {
  columns = c.columns;
  file_bytes = c.file_bytes;
  file_nodes = c.file_nodes;
  file_patches = c.file_patches;
  base_patches = c.base_patches;
  base_triangles = c.base_triangles;
  base_open = c.base_open;
  turns = c.turns;
  frame = frame_seen c.frame;
}
