use Rattle.std.proofs.Common.{◌≡◌, take, ap, ◌∙◌, arith}
use Rattle.std.proofs.lemmas.List.{length-take}
use Rattle.view_outside.specs.Taken.{taken_after}
use Rattle.patch_file.specs.Headers.{header_seen}
use Rattle.patch_file.proofs.HeaderRules.{header_is}
use Rattle.patch_file.proofs.readers.read_header.Goals as goal

pub returns-in-Ok-header_of-clause-rules : goal.returns-in-Ok-header_of-clause-rules
returns-in-Ok-header_of-clause-rules g c =
    (header_is (take c.in-Ok.n c.read_full.new.buffer) (header_seen c.in-Ok-header_of.header) c.in-Ok-header_of.ensures).rules

pub returns-in-Ok-header_of-clause-taken : goal.returns-in-Ok-header_of-clause-taken
returns-in-Ok-header_of-clause-taken g c =
    let long = (header_is (take c.in-Ok.n c.read_full.new.buffer) (header_seen c.in-Ok-header_of.header) c.in-Ok-header_of.ensures).long in
    let whole : c.in-Ok.n ≡ 16 = omega (arith, long, length-take c.in-Ok.n c.read_full.new.buffer, c.in-Ok.ensures.bound, c.read_full.auto.buffer) in
    c.in-Ok.ensures.taken ∙ ap (taken_after _) whole
