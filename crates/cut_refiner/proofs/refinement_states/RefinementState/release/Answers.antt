-- The node is a candidate where nothing is missing any more, it is no sink and it is wanted.
use Rattle.std.proofs.Common.{◌≡◌, ◌-◌, ◌<◌, ◌∙◌, sym, get_or, length, slice_set, List, ℕ, arith}
use Rattle.std.proofs.lemmas.List.{get_or_read, length-set}
use Rattle.mesh_model.specs.Graph.{is_sink}
use Rattle.cut_refiner.proofs.ReleaseLaws.{others_of_set, released, still_misses, is_a_sink, is_unwanted, candidate_is, sink_is}
use Rattle.cut_refiner.proofs.refinement_states.RefinementState.release.Goals as goal
use Rattle.cut_refiner.proofs.refinement_states.RefinementState.release.Goals.{else-index-eq0-via-then-index-eq0+then-not-is_sink+else-wants, else-index-eq0-via-then-index-eq0+else-not-is_sink, else-index-eq0-via-else-index-eq0}

-- what was read at a place of a list that was written there
read_of_set : (missing : List ℕ) (nodes v n x : ℕ) → v < nodes → length missing ≡ nodes → x ≡ get_or (slice_set missing v n) v x → x ≡ get_or (slice_set missing v n) v 0
read_of_set missing nodes v n x node many is = get_or_read (slice_set missing v n) v x (omega (arith, length-set missing v n)) is 0

pub returns-then-wants-clause-waiting : goal.returns-then-wants-clause-waiting
returns-then-wants-clause-waiting c = λ rest waiting among.
    let missing = c.args.self.now.growing.missing.items in
    let n = c.index_mut.result.now - 1 in
    let sink = sink_is c.args.rules.now c.mesh-mesh.result.now.lists c.args.node c.is_sink.result c.mesh-mesh.ensures.value c.is_sink.ensures in
    let read = read_of_set missing (length c.args.rules.now.mesh.index.nodes) c.args.node n c.index.result.now c.requires.node c.requires.counts c.index.ensures in
    released c.args.rules.now rest missing (slice_set missing c.args.node n) c.args.self.now.candidates.items c.args.node (others_of_set missing c.args.node n) waiting c.requires.missed c.candidate.result c.push.new.self.items (is_sink c.args.rules.now.mesh.index.fields c.args.node) among
    (sym read ∙ c.if-index-eq0.true) (sink ∙ c.if-not-is_sink.true) (sym c.if-wants.ensures)
    c.candidate.ensures.node (candidate_is c.args.rules.now c.candidate.result c.args.node c.candidate.ensures.score c.candidate.ensures.level c.candidate.ensures.node) c.push.ensures.items

pub returns-else-index-eq0-clause-waiting : goal.returns-else-index-eq0-clause-waiting
returns-else-index-eq0-clause-waiting c = λ rest waiting among.
    let missing = c.args.self.now.growing.missing.items in
    let n = c.index_mut.result.now - 1 in
    let read = read_of_set missing (length c.args.rules.now.mesh.index.nodes) c.args.node n c.index.result.now c.requires.node c.requires.counts c.index.ensures in
    elim c.else-index-eq0.branch [
      | else-index-eq0-via-then-index-eq0+then-not-is_sink+else-wants w ↦
          is_unwanted c.args.rules.now rest missing (slice_set missing c.args.node n) c.args.self.now.candidates.items c.args.node (others_of_set missing c.args.node n) waiting c.requires.missed (sym w.if-wants.ensures)
      | else-index-eq0-via-then-index-eq0+else-not-is_sink w ↦
          is_a_sink c.args.rules.now rest missing (slice_set missing c.args.node n) c.args.self.now.candidates.items c.args.node (others_of_set missing c.args.node n) waiting c.requires.missed (is_sink c.args.rules.now.mesh.index.fields c.args.node) among
          (sink_is c.args.rules.now c.mesh-mesh.result.now.lists c.args.node w.is_sink.result c.mesh-mesh.ensures.value w.is_sink.ensures ∙ w.if-not-is_sink.false)
      | else-index-eq0-via-else-index-eq0 w ↦
          still_misses c.args.rules.now rest missing (slice_set missing c.args.node n) c.args.self.now.candidates.items c.args.node (others_of_set missing c.args.node n) waiting c.requires.missed (λ same. w.if-index-eq0.false (read ∙ same))
    ]
