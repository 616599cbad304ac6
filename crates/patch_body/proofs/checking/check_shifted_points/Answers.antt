use Rattle.std.proofs.Common.{◌≡◌, drop, length, take, ◌-◌}
use Rattle.std.proofs.lemmas.Bool.{le-ltb}
use Rattle.std.proofs.lemmas.List.{take_rest}
use Rattle.file_model.specs.Reading.{shifted_points_at}
use Rattle.patch_body.proofs.Axes.{fault-tight}
use Rattle.patch_body.proofs.checking.check_shifted_points.Goals as goal

pub returns : goal.returns
unfolding shifted_points_at
returns c =
    let bytes = c.args.bytes.now in
    let behind : take (length bytes - 12) (drop 12 bytes) ≡ drop 12 bytes = take_rest bytes 12 in
    rw (le-ltb (length bytes) 12 c.if-bytes-lt12.false, fault-tight) (rw (behind, c.read_point.ensures) at c.check_all_offsets.ensures)
