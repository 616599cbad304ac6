use Rattle.std.proofs.Common.{SFits, w32, leb, ◌&&◌, rules}
use Rattle.std.specs.Prelude.{unsigned_abs, ◌-ℤ◌}
use Rattle.std.proofs.lemmas.Bool.{and_parts, leb-true}
use Rattle.std.proofs.lemmas.Int.{to_z-of_z}
use Rattle.patch_body.proofs.spelling.push_offsets.Goals as goal

pub offset-y-requires : goal.offset-y-requires
offset-y-requires c =
    let o = c.args.origin in
    let p = c.args.point in
    let of_origin : SFits w32 o.y = search rules in
    let of_point : SFits w32 p.y = search rules in
    let outer = and_parts (leb (unsigned_abs (p.x -ℤ o.x)) 65535 && leb (unsigned_abs (p.y -ℤ o.y)) 65535) (leb (unsigned_abs (p.z -ℤ o.z)) 65535) c.requires in
    let inner = and_parts (leb (unsigned_abs (p.x -ℤ o.x)) 65535) (leb (unsigned_abs (p.y -ℤ o.y)) 65535) outer.0 in
    rw (to_z-of_z w32 p.y of_point, to_z-of_z w32 o.y of_origin) (leb-true (unsigned_abs (p.y -ℤ o.y)) 65535 inner.1)

pub offset-z-requires : goal.offset-z-requires
offset-z-requires c =
    let o = c.args.origin in
    let p = c.args.point in
    let of_origin : SFits w32 o.z = search rules in
    let of_point : SFits w32 p.z = search rules in
    let outer = and_parts (leb (unsigned_abs (p.x -ℤ o.x)) 65535 && leb (unsigned_abs (p.y -ℤ o.y)) 65535) (leb (unsigned_abs (p.z -ℤ o.z)) 65535) c.requires in
    rw (to_z-of_z w32 p.z of_point, to_z-of_z w32 o.z of_origin) (leb-true (unsigned_abs (p.z -ℤ o.z)) 65535 outer.1)
