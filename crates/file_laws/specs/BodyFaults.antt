-- A body that is read has no fault but one that a body of its patch can have.
use Rattle.std.specs.Prelude.{◌≡◌, ℕ, zero, suc, ◌+◌, ◌==◌, Bool, true, false, not, List, length, drop, Result, Ok, Err, IfErr, if◌then◌else◌, nat_lt, refl}
use Rattle.std.proofs.Common.{subst}
use Rattle.std.specs.List.{list_any}
use Rattle.std.specs.Ordering.{int_eq}
use Rattle.grid_vertex.specs.declared.points.Point.{Point}
use Rattle.grid_vertex.specs.Points.{is_in_grid}
use Rattle.grid_vertex.specs.Triangles.{is_flat_triangle}
use Rattle.file_model.specs.declared.fields.PatchField.{PatchField}
use Rattle.file_model.specs.declared.faults.FileFault.{FileFault}
use Rattle.file_model.specs.BodyFaults.{IsBodyFault}
use Rattle.file_model.specs.Lists.{triangle_of}
use Rattle.file_model.specs.Reading.{◌>>=◌, many_at, point_in, corners_in, shifted_in, point_at, shifted_at, tight, shifted_points_at, points_at, triangle_at, body_in}

-- the fault is one of this patch's body
abbrev Of : {A : Type 0} → ℕ → Result A FileFault → Type 0
Of patch read = IfErr read (IsBodyFault patch)

either : {A : Type 0} (patch : ℕ) (test : Bool) (first second : Result A FileFault) → Of patch first → Of patch second → Of patch (if test then first else second)
either patch true first second one other = one
either patch false first second one other = other

bound : {A B : Type 0} (patch : ℕ) (read : Result A FileFault) (next : A → Result B FileFault) → Of patch read → ((x : A) → Of patch (next x)) → Of patch (read >>= next)
bound patch (Ok x) next first second = second x
bound patch (Err fault) next first second = first

many : {A : Type 0} (patch : ℕ) (unit : ℕ → List ℕ → Result (A × List ℕ) FileFault) → ((k : ℕ) (bytes : List ℕ) → Of patch (unit k bytes)) → (n k : ℕ) (bytes : List ℕ) → Of patch (many_at unit n k bytes)
unfolding many_at
many patch unit each zero k bytes = tt
many patch unit each (suc n) k bytes = bound patch (unit k bytes) _ (each k bytes) (λ first. bound patch (many_at unit n (k + 1) first.1) _ (many patch unit each n (k + 1) first.1) (λ others. tt))

of_point : (patch end k : ℕ) (bytes : List ℕ) → Of patch (point_at patch end k bytes)
unfolding point_at
of_point patch end k bytes = either patch (nat_lt (length bytes) 12) _ _ tt (either patch (not (is_in_grid (point_in bytes))) _ _ refl tt)

of_shifted : (origin : Point) (patch end k : ℕ) (bytes : List ℕ) → Of patch (shifted_at origin patch end k bytes)
unfolding shifted_at
of_shifted origin patch end k bytes = either patch (nat_lt (length bytes) 6) _ _ tt (either patch (not (is_in_grid (shifted_in origin bytes))) _ _ refl tt)

of_tight : (origin : Point) (patch : ℕ) (points : List Point × List ℕ) → Of patch (tight origin patch points)
unfolding tight
of_tight origin patch points =
    either patch (not (list_any (λ (p : Point). int_eq p.x origin.x) points.0)) _ _ refl
    (either patch (not (list_any (λ (p : Point). int_eq p.y origin.y) points.0)) _ _ refl
    (either patch (not (list_any (λ (p : Point). int_eq p.z origin.z) points.0)) _ _ refl tt))

of_shifted_points : (count patch end : ℕ) (bytes : List ℕ) → Of patch (shifted_points_at count patch end bytes)
unfolding shifted_points_at
of_shifted_points count patch end bytes =
    either patch (nat_lt (length bytes) 12) _ _ tt
    (bound patch (many_at (shifted_at (point_in bytes) patch end) count 0 (drop 12 bytes)) _ (many patch (shifted_at (point_in bytes) patch end) (of_shifted (point_in bytes) patch end) count 0 (drop 12 bytes)) (of_tight (point_in bytes) patch))

of_points : (version count patch end : ℕ) (bytes : List ℕ) → Of patch (points_at version count patch end bytes)
unfolding points_at
of_points version count patch end bytes = either patch (version == 2) _ _ (of_shifted_points count patch end bytes) (many patch (point_at patch end) (of_point patch end) count 0 bytes)

of_triangle : (points : List Point) (patch end k : ℕ) (bytes : List ℕ) → Of patch (triangle_at points patch end k bytes)
unfolding triangle_at
of_triangle points patch end k bytes =
    either patch (nat_lt (length bytes) 6) _ _ tt
    (either patch (not (nat_lt (corners_in bytes).a (length points))) _ _ refl
    (either patch (not (nat_lt (corners_in bytes).b (length points))) _ _ refl
    (either patch (not (nat_lt (corners_in bytes).c (length points))) _ _ refl
    (either patch (is_flat_triangle (triangle_of points (corners_in bytes))) _ _ refl tt))))

of_body : (version patch : ℕ) (f : PatchField) (offset : ℕ) (bytes : List ℕ) → Of patch (body_in version patch f offset bytes)
unfolding body_in
of_body version patch f offset bytes =
    bound patch (points_at version f.points patch (offset + length bytes) bytes) _ (of_points version f.points patch (offset + length bytes) bytes) (λ points.
    bound patch (many_at (triangle_at points.0 patch (offset + length bytes)) f.triangles 0 points.1) _ (many patch (triangle_at points.0 patch (offset + length bytes)) (of_triangle points.0 patch (offset + length bytes)) f.triangles 0 points.1) (λ corners. tt))

-- the fault of a body that is read is one of its patch's body
pub body_fault : (version patch : ℕ) (f : PatchField) (offset : ℕ) (bytes : List ℕ) (fault : FileFault) → body_in version patch f offset bytes ≡ Err fault → IsBodyFault patch fault
body_fault version patch f offset bytes fault is = subst (Of patch) is (of_body version patch f offset bytes)
