use Rattle.std.proofs.Common.{drop, refl}
use Rattle.file_model.specs.Numbers.{number_in}
use Rattle.patch_body.proofs.Axes.{int_eq-shift}
use Rattle.patch_body.proofs.checking.check_offsets.Goals as goal

pub returns-clause-zeros : goal.returns-clause-zeros
returns-clause-zeros c =
    let origin = c.args.origin in
    let bytes = c.args.bytes.now in
    rw (c.read_u16-x.ensures, c.read_u16-y.ensures, c.read_u16-z.ensures, int_eq-shift origin.x (number_in 2 bytes), int_eq-shift origin.y (number_in 2 (drop 2 bytes)), int_eq-shift origin.z (number_in 2 (drop 4 bytes))) refl
