use Rattle.std.proofs.Common.{◌≡◌, [], ap, ◌∙◌}
use Rattle.std.specs.List.{flat_map}
use Rattle.file_model.specs.Lists.{FileLists, SeenBody}
use Rattle.file_model.specs.Spelling.{body_text, index_text, file_text}
use Rattle.patch_file.specs.Batches.{Sent, Sent-then, Sent-part, Sent-wrote, Sends-part}
use Rattle.patch_file.proofs.Appending.{Wrote-failed, Sent-same, WritesPart-same, bodies_text}
use Rattle.patch_file.proofs.writing.write_file.Goals as goal

pub returns-in_err-add_index-clause-text : goal.returns-in_err-add_index-clause-text
unfolding file_text
returns-in_err-add_index-clause-text g c =
    let file = c.args.parts.now in
    Wrote-failed c.from_residual.result _ _ _ c.from_residual.ensures.0 (Sends-part _ _ [] (index_text file.index) (flat_map (body_text file.index.version) file.bodies) (rw c.new-batch.ensures at c.in_err-add_index.ensures.text))

pub returns-in_err-add_bodies-clause-text : goal.returns-in_err-add_bodies-clause-text
unfolding file_text
returns-in_err-add_bodies-clause-text g c =
    let inside = c.parts.inside in
    let file = c.args.parts.now in
    let bytes = flat_map (λ (b : SeenBody). b.bytes) c.deref.result.now in
    let text : bytes ≡ flat_map (body_text file.index.version) file.bodies =
    ap (flat_map (λ (b : SeenBody). b.bytes)) c.deref.ensures.value ∙ bodies_text inside.version inside.bodies.items c.parts.invariant ∙ ap (λ (f : FileLists). flat_map (body_text f.index.version) f.bodies) c.parts.view_is in
    let index : Sent _ _ [] c.add_index.new.batch (index_text file.index) = rw c.new-batch.ensures at c.in_ok-add_index.ensures.text in
    let part = Sent-part _ _ _ [] c.add_index.new.batch (index_text file.index) bytes index c.in_err-add_bodies.ensures.text in
    Wrote-failed c.from_residual-in_err-add_bodies.result _ _ _ c.from_residual-in_err-add_bodies.ensures.0 (WritesPart-same _ _ (index_text file.index) bytes _ text part)

pub returns-clause-text : goal.returns-clause-text
unfolding file_text
returns-clause-text g c =
    let inside = c.parts.inside in
    let file = c.args.parts.now in
    let bytes = flat_map (λ (b : SeenBody). b.bytes) c.deref.result.now in
    let text : bytes ≡ flat_map (body_text file.index.version) file.bodies =
    ap (flat_map (λ (b : SeenBody). b.bytes)) c.deref.ensures.value ∙ bodies_text inside.version inside.bodies.items c.parts.invariant ∙ ap (λ (f : FileLists). flat_map (body_text f.index.version) f.bodies) c.parts.view_is in
    let index : Sent _ _ [] c.add_index.new.batch (index_text file.index) = rw c.new-batch.ensures at c.in_ok-add_index.ensures.text in
    let given = Sent-then _ _ _ [] c.add_index.new.batch c.add_bodies.new.batch (index_text file.index) bytes index c.in_ok-add_bodies.ensures.text in
    Sent-wrote c.send.result _ _ _ c.add_bodies.new.batch (file_text file) (Sent-same _ _ [] c.add_bodies.new.batch (index_text file.index) bytes _ text given) c.send.ensures.text
