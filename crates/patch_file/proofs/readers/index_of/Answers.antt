use Rattle.std.proofs.Common.{◌+◌, length, ap, ◌∙◌}
use Rattle.file_model.specs.Lists.{bodies_offset}
use Rattle.patch_file.specs.Headers.{header_seen}
use Rattle.patch_file.proofs.ReadUnits.{index_read}
use Rattle.patch_file.proofs.readers.index_of.Goals as goal

pub from_lists-requires : goal.from_lists-requires
from_lists-requires c =
    (index_read (header_seen c.args.header) (16 + length c.args.bytes.now) c.args.bytes.now c.in_ok-nodes.rest.now c.in_ok-fields.field-0-1.now c.in_ok-nodes.nodes.items c.in_ok-fields.fields.items c.requires.rules c.requires.size c.in_ok-nodes.ensures.exact c.in_ok-fields.ensures.exact).rules

pub returns-clause-size : goal.returns-clause-size
returns-clause-size c =
    ap bodies_offset c.in_ok-from_lists.ensures ∙ (index_read (header_seen c.args.header) (16 + length c.args.bytes.now) c.args.bytes.now c.in_ok-nodes.rest.now c.in_ok-fields.field-0-1.now c.in_ok-nodes.nodes.items c.in_ok-fields.fields.items c.requires.rules c.requires.size c.in_ok-nodes.ensures.exact c.in_ok-fields.ensures.exact).size

pub returns-clause-read : goal.returns-clause-read
returns-clause-read c =
    (index_read (header_seen c.args.header) (16 + length c.args.bytes.now) c.args.bytes.now c.in_ok-nodes.rest.now c.in_ok-fields.field-0-1.now c.in_ok-nodes.nodes.items c.in_ok-fields.fields.items c.requires.rules c.requires.size c.in_ok-nodes.ensures.exact c.in_ok-fields.ensures.exact).read
