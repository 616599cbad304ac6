-- The steps of a loop that looks at units, by the fault of those that are left.
use Rattle.std.proofs.Common.{◌≡◌, ℕ, suc, ◌+◌, ◌-◌, ◌<◌, ◌≤◌, List, [], drop, Option, Some, None, Result, Ok, Err, refl, sym, ap, ◌∙◌, arith}
use Rattle.grid_vertex.specs.declared.points.Point.{Point}
use Rattle.file_model.specs.declared.faults.FileFault.{FileFault}
use Rattle.file_model.specs.Reading.{many_at}
use Rattle.patch_body.specs.declared.zeros.Zeros.{Zeros}
use Rattle.patch_body.specs.Faults.{fault_of}
use Rattle.patch_body.specs.Zeros.{zeros_at, either, zeros_with, loose_fault, fault_with}
use Rattle.patch_body.proofs.Units.{IsUnit, one_more, with_first, fault-with_first, err_from_some}

-- the fault of the first unit is that of all
pub first_fails : {A : Type 0} (unit : ℕ → List ℕ → Result (A × List ℕ) FileFault) (n k : ℕ) (bytes : List ℕ) (fault : FileFault)
    → k < n → fault_of (unit k bytes) ≡ Some fault → many_at unit (n - k) k bytes ≡ Err fault
unfolding many_at
first_fails unit n k bytes fault lt h =
    let more : n - k ≡ suc (n - suc k) = omega arith in
    rw (more, err_from_some (unit k bytes) fault h) refl

pub first_passes : {A : Type 0} {width : ℕ} {value : List ℕ → A} {unit : ℕ → List ℕ → Result (A × List ℕ) FileFault} → IsUnit width value unit → (n k : ℕ) (bytes : List ℕ)
    → k < n → fault_of (unit k bytes) ≡ None → many_at unit (n - k) k bytes ≡ with_first (value bytes) (many_at unit (n - (k + 1)) (k + 1) (drop width bytes))
first_passes {unit = unit} u n k bytes lt h =
    let more : n - k ≡ suc (n - (k + 1)) = omega arith in
    ap (λ (m : ℕ). many_at unit m k bytes) more ∙ one_more u (n - (k + 1)) k bytes h

pub none_left : {A : Type 0} (unit : ℕ → List ℕ → Result (A × List ℕ) FileFault) (n k : ℕ) (bytes : List ℕ) → n ≤ k → many_at unit (n - k) k bytes ≡ Ok ([], bytes)
unfolding many_at
none_left unit n k bytes le = let done : n - k ≡ 0 = omega arith in rw done refl

-- the same with what a loop keeps: `all` is the fault of all units
pub goes_on : {A : Type 0} {width : ℕ} {value : List ℕ → A} {unit : ℕ → List ℕ → Result (A × List ℕ) FileFault} → IsUnit width value unit → (n k : ℕ) (bytes rest : List ℕ) (all : Option FileFault)
    → k < n → None ≡ fault_of (unit k bytes) → rest ≡ drop width bytes → fault_of (many_at unit (n - k) k bytes) ≡ all → fault_of (many_at unit (n - (k + 1)) (k + 1) rest) ≡ all
goes_on {width = width} {value = value} {unit = unit} u n k bytes rest all lt h same so_far =
    ap (λ (left : List ℕ). fault_of (many_at unit (n - (k + 1)) (k + 1) left)) same ∙ sym (fault-with_first (value bytes) (many_at unit (n - (k + 1)) (k + 1) (drop width bytes))) ∙ sym (ap fault_of (first_passes u n k bytes lt (sym h))) ∙ so_far

pub ends : {A : Type 0} (unit : ℕ → List ℕ → Result (A × List ℕ) FileFault) (n k : ℕ) (bytes : List ℕ) (fault : FileFault) (all : Option FileFault)
    → k < n → Some fault ≡ fault_of (unit k bytes) → fault_of (many_at unit (n - k) k bytes) ≡ all → Some fault ≡ all
ends unit n k bytes fault all lt h so_far = sym (ap fault_of (first_fails unit n k bytes fault lt (sym h))) ∙ so_far

pub is_done : {A : Type 0} (unit : ℕ → List ℕ → Result (A × List ℕ) FileFault) (n k : ℕ) (bytes : List ℕ) (all : Option FileFault)
    → n ≤ k → fault_of (many_at unit (n - k) k bytes) ≡ all → None ≡ all
is_done unit n k bytes all le so_far = sym (ap fault_of (none_left unit n k bytes le)) ∙ so_far

fault_with-first : (seen : Zeros) (origin : Point) (patch : ℕ) (p : Point) (read : Result (List Point × List ℕ) FileFault) → fault_with seen origin patch (with_first p read) ≡ fault_with (either seen (zeros_at origin p)) origin patch read
unfolding zeros_with
fault_with-first seen origin patch p (Ok points) = refl
fault_with-first seen origin patch p (Err fault) = refl

-- and with the axes that were seen
pub goes_on_seeing : {width : ℕ} {value : List ℕ → Point} {unit : ℕ → List ℕ → Result (Point × List ℕ) FileFault} → IsUnit width value unit → (seen : Zeros) (origin : Point) (patch n k : ℕ) (bytes rest : List ℕ) (all : Option FileFault)
    → k < n → None ≡ fault_of (unit k bytes) → rest ≡ drop width bytes → fault_with seen origin patch (many_at unit (n - k) k bytes) ≡ all
    → fault_with (either seen (zeros_at origin (value bytes))) origin patch (many_at unit (n - (k + 1)) (k + 1) rest) ≡ all
goes_on_seeing {width = width} {value = value} {unit = unit} u seen origin patch n k bytes rest all lt h same so_far =
    let now : Zeros = either seen (zeros_at origin (value bytes)) in
    ap (λ (left : List ℕ). fault_with now origin patch (many_at unit (n - (k + 1)) (k + 1) left)) same ∙ sym (fault_with-first seen origin patch (value bytes) (many_at unit (n - (k + 1)) (k + 1) (drop width bytes))) ∙ sym (ap (fault_with seen origin patch) (first_passes u n k bytes lt (sym h))) ∙ so_far

pub ends_seeing : (unit : ℕ → List ℕ → Result (Point × List ℕ) FileFault) (seen : Zeros) (origin : Point) (patch n k : ℕ) (bytes : List ℕ) (fault : FileFault) (all : Option FileFault)
    → k < n → Some fault ≡ fault_of (unit k bytes) → fault_with seen origin patch (many_at unit (n - k) k bytes) ≡ all → Some fault ≡ all
ends_seeing unit seen origin patch n k bytes fault all lt h so_far = sym (ap (fault_with seen origin patch) (first_fails unit n k bytes fault lt (sym h))) ∙ so_far

pub is_done_seeing : (unit : ℕ → List ℕ → Result (Point × List ℕ) FileFault) (seen : Zeros) (origin : Point) (patch n k : ℕ) (bytes : List ℕ) (all : Option FileFault)
    → n ≤ k → fault_with seen origin patch (many_at unit (n - k) k bytes) ≡ all → loose_fault patch seen ≡ all
unfolding zeros_with
is_done_seeing unit seen origin patch n k bytes all le so_far = sym (ap (fault_with seen origin patch) (none_left unit n k bytes le)) ∙ so_far
