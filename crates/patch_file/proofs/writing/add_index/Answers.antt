use Rattle.std.proofs.Common.{◌≡◌, ◌++◌, subst, ap}
use Rattle.std.specs.List.{flat_map}
use Rattle.file_model.specs.Lists.{FileLists}
use Rattle.file_model.specs.Spelling.{node_text, field_text, index_text}
use Rattle.patch_file.specs.Batches.{Sends, Sends-part}
use Rattle.patch_file.proofs.Appending.{Sends-failed, Sends-after, index_text-is}
use Rattle.patch_file.proofs.writing.add_index.Goals as goal

pub returns-in_err-add-clause-text : goal.returns-in_err-add-clause-text
returns-in_err-add-clause-text g c =
    let nodes = c.as_slice-nodes.result.now in
    let fields = c.as_slice-fields.result.now in
    let text : c.header_bytes-header.result ++ (flat_map node_text nodes ++ flat_map field_text fields) ≡ index_text c.args.parts.now.index =
    index_text-is c.args.parts.now.index c.parts.inside.version nodes fields c.header_bytes-header.result c.header_bytes-header.ensures (rw (c.as_slice-nodes.ensures.value, c.as_slice-fields.ensures.value) (ap (λ (f : FileLists). f.index) c.parts.view_is)) in
    subst (Sends c.from_residual.result _ _ _ _) text (Sends-failed c.from_residual.result _ _ _ _ _ c.from_residual.ensures.0 (Sends-part _ _ c.args.batch.now c.header_bytes-header.result (flat_map node_text nodes ++ flat_map field_text fields) c.in_err-add.ensures.text))

pub returns-clause-text : goal.returns-clause-text
returns-clause-text g c =
    let nodes = c.as_slice-nodes.result.now in
    let fields = c.as_slice-fields.result.now in
    let text : c.header_bytes-header.result ++ (flat_map node_text nodes ++ flat_map field_text fields) ≡ index_text c.args.parts.now.index =
    index_text-is c.args.parts.now.index c.parts.inside.version nodes fields c.header_bytes-header.result c.header_bytes-header.ensures (rw (c.as_slice-nodes.ensures.value, c.as_slice-fields.ensures.value) (ap (λ (f : FileLists). f.index) c.parts.view_is)) in
    subst (Sends c.add_units.result _ _ _ _) text (Sends-after c.add_units.result _ _ _ _ _ _ _ _ c.in_ok-add.ensures.text c.add_units.ensures.text)
