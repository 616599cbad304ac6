use Rattle.std.specs.List.{flat_map}
use Rattle.file_model.specs.Spelling.{node_text, field_text}
use Rattle.patch_file.specs.Batches.{Sends-part}
use Rattle.patch_file.proofs.Appending.{Sends-failed, Sends-after}
use Rattle.patch_file.proofs.writing.add_units.Goals as goal

pub returns-in_err-add_nodes-clause-text : goal.returns-in_err-add_nodes-clause-text
returns-in_err-add_nodes-clause-text g c =
    Sends-failed c.from_residual.result _ _ _ _ _ c.from_residual.ensures.0 (Sends-part _ _ c.args.batch.now (flat_map node_text c.args.nodes.now) (flat_map field_text c.args.fields.now) c.in_err-add_nodes.ensures.text)

pub returns-clause-text : goal.returns-clause-text
returns-clause-text g c = Sends-after c.add_fields.result _ _ _ _ _ _ _ _ c.in_ok-add_nodes.ensures.text c.add_fields.ensures.text
