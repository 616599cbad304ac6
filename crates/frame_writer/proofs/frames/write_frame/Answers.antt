use Rattle.std.proofs.Common.{map, length, refl, ap, ◌∙◌, OnOk}
use Rattle.std.proofs.lemmas.Result.{on_ok_weaker}
use Rattle.std.proofs.lemmas.Map.Entries.{length-keys_of}
use Rattle.std.specs.Map.{keys_of}
use Rattle.std.specs.Arc.{arc_value}
use Rattle.edge_chain.specs.NetLaws.{open_from_net}
use Rattle.text_model.specs.Lines.{begins_line}
use Rattle.text_model.specs.FrameText.{head_line, frame_text}
use Rattle.frame_writer.specs.Frames.{AddsFrame, frame_of, triangles_in}
use Rattle.frame_writer.proofs.FrameLemmas.{Adds-frame}
use Rattle.frame_writer.specs.Appending.{Adds-ended}
use Rattle.frame_writer.specs.Ending.{begins_line-frame_text}
use Rattle.frame_writer.proofs.frames.write_frame.Goals as goal

pub returns-clause-ok : goal.returns-clause-ok
unfolding head_line
returns-clause-ok c =
    let a = c.args in
    let seen = map arc_value a.bodies.now in
    let frame = frame_of a.session a.number a.cut.now a.tries.now a.patches.now seen in
    let chain = c.in_ok-chain.chain in
    on_ok_weaker c.write_bodies.result (λ lines. record {
      text = frame_text (length chain.entries) frame;
      is_text = record {
        open_edges = length chain.entries;
        counted = record { pairs = keys_of chain.entries; are_open = open_from_net (triangles_in seen) chain c.in_ok-chain.ensures; number = length-keys_of chain.entries };
        is = refl;
      };
      adds = Adds-frame (length chain.entries) frame (c.in_ok-write_head.ensures.ok seen c.in_ok-chain.ensures) c.in_ok-write_front.ensures.ok lines;
    }) c.write_bodies.ensures.ok

pub returns-clause-ended : goal.returns-clause-ended
returns-clause-ended c =
    let a = c.args in
    let frame = frame_of a.session a.number a.cut.now a.tries.now a.patches.now (map arc_value a.bodies.now) in
    let text : OnOk c.write_bodies.result (AddsFrame a.out.now.items c.write_bodies.new.out.items frame) = returns-clause-ok c in
    on_ok_weaker c.write_bodies.result (λ adds. Adds-ended adds.adds c.requires.begins (ap begins_line adds.is_text.is ∙ begins_line-frame_text adds.is_text.open_edges frame)) text
