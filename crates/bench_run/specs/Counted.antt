-- What is counted of the strip's mesh and of a run over it.
use Rattle.std.proofs.Common.{◌≡◌, ℕ, ◌≤◌, List, length, refl, sym, ap, subst, ◌∙◌, arith}
use Rattle.accepted_mesh.specs.MeshView.{MeshSeen, IsMeshOf}
use Rattle.file_laws.specs.Files.{length-file_text}
use Rattle.file_model.specs.declared.fields.PatchField.{PatchField}
use Rattle.file_model.specs.Lists.{IndexLists}
use Rattle.file_model.specs.Reading.{file_size}
use Rattle.mesh_model.specs.Accepted.{triangles_out_of}
use Rattle.mesh_model.specs.Graph.{outgoing}
use Rattle.mesh_model.specs.Nets.{HasOpenPairs}
use Rattle.grid_vertex.specs.declared.triangles.Triangle.{Triangle}
use Rattle.mesh_model.specs.Frames.{root_alone}
use Rattle.mesh_laws.specs.Frames.{frame_of_set}
use Rattle.mesh_laws.specs.Bases.{base_patches, base_triangles}
use Rattle.strip_laws.specs.Strip.{strip_nodes}
use Rattle.strip_laws.specs.StripGraph.{one_root as strip_root}
use Rattle.strip_laws.specs.StripNodes.{node_count}
use Rattle.strip_laws.specs.StripRules.{strip_is_file, strip_is_accepted}
use Rattle.text_model.specs.BenchText.{BenchCounts, FrameCounts}
use Rattle.mesh_laws.specs.Verdicts.{one_root}
use Rattle.view_machine.specs.declared.sizes.FrameSize.{FrameSize}
use Rattle.view_machine.specs.FrameSizes.{HasSize}
use Rattle.bench_laws.specs.BenchRuns.{bench_file, IsFrameCounted, AreBenchCounts}
use Rattle.bench_run.specs.BaseSizes.{base_sum, base_counted}
use Rattle.bench_run.specs.Counts.{frame_seen}
use Rattle.bench_run.specs.Ran.{RunsBench}

-- the numbers are those of the mesh
pub record AreMeshCounts (mesh : MeshSeen) (counts : BenchCounts) : Type 0 where
  pub file_bytes : counts.file_bytes ≡ file_size mesh.lists.index
  pub file_nodes : counts.file_nodes ≡ length mesh.lists.index.nodes
  pub file_patches : counts.file_patches ≡ length mesh.lists.index.fields
  pub base_patches : counts.base_patches ≡ length (outgoing mesh.lists.index.fields mesh.lists.root)
  pub base_triangles : counts.base_triangles ≡ base_sum mesh.lists.root mesh.lists.index.fields
  pub base_open : counts.base_open ≡ mesh.base_open

pub are_counts : (c : ℕ) → 2 ≤ c → c ≤ 16384 → (mesh : MeshSeen) → IsMeshOf (bench_file c) mesh → (counts : BenchCounts) (size : FrameSize) → AreMeshCounts mesh counts → c ≡ counts.columns → frame_seen size ≡ counts.frame → RunsBench c counts.turns size → AreBenchCounts c counts
are_counts c some few mesh of counts size are columns frame runs =
    let file = bench_file c in
    let spelling = strip_is_file 1 c refl some few in
    let root : mesh.lists.root ≡ 0 = one_root file mesh.lists.root 0 of.accepted (strip_is_accepted 1 c (omega arith)) in
    let roots = strip_root (length (strip_nodes c)) c (omega arith) (node_count c (omega arith)) in
    record {
      w = runs.w;
      log = runs.log;
      frame = runs.frame;
      run = runs.run;
      columns = columns;
      file_bytes = length-file_text file spelling.bodies ∙ ap file_size of.index ∙ sym are.file_bytes;
      file_nodes = ap (λ (i : IndexLists). length i.nodes) of.index ∙ sym are.file_nodes;
      file_patches = ap (λ (i : IndexLists). length i.fields) of.index ∙ sym are.file_patches;
      base_patches =
          ap (λ (ps : List ℕ). length ps) (base_patches (length (strip_nodes c)) file.index.fields 0 roots)
          ∙ ap (λ (i : IndexLists). length (outgoing i.fields 0)) of.index ∙ ap (λ (v : ℕ). length (outgoing mesh.lists.index.fields v)) (sym root) ∙ sym are.base_patches;
      base_triangles =
          ap (λ (ts : List Triangle). length ts) (base_triangles (length (strip_nodes c)) file 0 roots)
          ∙ base_counted 0 1 file.index.fields file.bodies spelling.bodies
          ∙ ap (λ (i : IndexLists). base_sum 0 i.fields) of.index ∙ ap (λ (v : ℕ). base_sum v mesh.lists.index.fields) (sym root) ∙ sym are.base_triangles;
      base_open =
          subst (HasOpenPairs (frame_of_set file (root_alone 0))) (sym are.base_open)
          (subst (λ (ts : List Triangle). HasOpenPairs ts mesh.base_open) (sym (base_triangles (length (strip_nodes c)) file 0 roots))
          (subst (λ (v : ℕ). HasOpenPairs (triangles_out_of file v) mesh.base_open) root of.base));
      turns = runs.many;
      counted = subst (IsFrameCounted runs.frame) frame (record { nodes = runs.has.nodes; patches = runs.has.patches; triangles = runs.has.triangles; open_edges = runs.has.open_edges });
    }
