use Rattle.std.proofs.Common.{◌≡◌, ℕ, None, leb, sym}
use Rattle.std.proofs.lemmas.Bool.{and_parts, leb-true}
use Rattle.std.specs.Prelude.{IsTrue}
use Rattle.file_model.specs.Reading.{body_in}
use Rattle.file_model.specs.Rules.{is_between}
use Rattle.file_laws.specs.Numbers.{IsBytes}
use Rattle.patch_body.specs.Faults.{fault_of}
use Rattle.patch_body.specs.Seen.{IsCount}
use Rattle.patch_body.proofs.Kept.{IsRead, kept_from_reading}
use Rattle.patch_body.proofs.bodies.Body.from_bytes.Goals as goal

counted : (n : ℕ) → IsTrue (is_between 1 65535 n) → IsCount n
counted n h =
    let parts = and_parts (leb 1 n) (leb n 65535) h in
    record { some_there = leb-true 1 n parts.0; few = leb-true n 65535 parts.1 }

was_read : (c : goal.In_ok-check_body) → IsRead c.args.patch c.args.version c.args.field c.args.offset c.args.bytes.items
was_read c =
    let counts = and_parts (is_between 1 65535 c.args.field.points) (is_between 1 65535 c.args.field.triangles) c.requires.counts in
    let fits : IsBytes c.args.bytes.items = rw (← c.deref.ensures.value) c.check_body.ensures.bytes in
    let points : IsCount c.args.field.points = counted c.args.field.points counts.0 in
    let triangles : IsCount c.args.field.triangles = counted c.args.field.triangles counts.1 in
    let none : fault_of (body_in c.args.version c.args.patch c.args.field c.args.offset c.args.bytes.items) ≡ None = rw (← c.deref.ensures.value) (sym c.in_ok-check_body.ensures.fault) in
    kept_from_reading c.args.patch c.args.version c.args.field c.args.offset c.args.bytes.items fits c.requires.version points triangles c.requires.size none

pub invariant_of-result : goal.invariant_of-result
invariant_of-result c = (was_read c).kept

pub returns-clause-exact : goal.returns-clause-exact
returns-clause-exact c = (was_read c).is
