-- Reading units of one width, one after the other.
use Rattle.std.proofs.Common.{◌≡◌, ℕ, zero, suc, ◌+◌, ◌*◌, ◌<◌, ◌≤◌, Bool, true, false, cond, List, [], ◌∷◌, length, drop, Some, None, Result, Ok, Err, refl, sym, ap, ◌∙◌, arith}
use Rattle.std.specs.Prelude.{slice_get}
use Rattle.std.proofs.lemmas.List.{drop-drop, length-drop}
use Rattle.file_model.specs.declared.faults.FileFault.{FileFault}
use Rattle.file_model.specs.Reading.{◌>>=◌, many_at}
use Rattle.patch_body.specs.Faults.{fault_of}

abbrev pub given : {A : Type 0} → A → List ℕ → Result (A × List ℕ) FileFault
given x rest = Ok (x, rest)

-- a value put before those of the others
abbrev pub with_first : {A : Type 0} → A → Result (List A × List ℕ) FileFault → Result (List A × List ℕ) FileFault
with_first x read = read >>= λ others. Ok (x ∷ others.0, others.1)

-- what reading gives past a test that a fault stands behind
pub record Passes {A : Type 0} (test : Bool) (fault : FileFault) (read : Result A FileFault) : Type 0 where
  pub fails : test ≡ false
  pub none : fault_of read ≡ None
  pub is : cond test (Err fault) read ≡ read

pub passes : {A : Type 0} (test : Bool) (fault : FileFault) (read : Result A FileFault) → fault_of (cond test (Err fault) read) ≡ None → Passes test fault read
passes true fault read h = absurd cc
passes false fault read h = record { fails = refl; none = h; is = refl }

-- where two steps have no fault, the first has none
pub first_none : {A B : Type 0} (read : Result A FileFault) (f : A → Result B FileFault) → fault_of (read >>= f) ≡ None → fault_of read ≡ None
first_none (Ok x) f h = refl
first_none (Err fault) f h = absurd cc

pub err_from_some : {A : Type 0} (read : Result A FileFault) (fault : FileFault) → fault_of read ≡ Some fault → read ≡ Err fault
err_from_some (Ok x) fault h = absurd cc
err_from_some (Err e) fault h = cc

pub fault-with_first : {A : Type 0} (x : A) (read : Result (List A × List ℕ) FileFault) → fault_of (with_first x read) ≡ fault_of read
fault-with_first x (Ok others) = refl
fault-with_first x (Err fault) = refl

-- where the unit has no fault, it gives the value of its bytes and drops so many, which are there
pub record IsUnit {A : Type 0} (width : ℕ) (value : List ℕ → A) (unit : ℕ → List ℕ → Result (A × List ℕ) FileFault) : Type 0 where
  pub gives : (k : ℕ) (bytes : List ℕ) → fault_of (unit k bytes) ≡ None → unit k bytes ≡ given (value bytes) (drop width bytes)
  pub room : (k : ℕ) (bytes : List ℕ) → fault_of (unit k bytes) ≡ None → width ≤ length bytes

-- n units read from number k on, where there is no fault
pub record AreUnits {A : Type 0} (width : ℕ) (value : List ℕ → A) (unit : ℕ → List ℕ → Result (A × List ℕ) FileFault) (n k : ℕ) (bytes : List ℕ) (items : List A) : Type 0 where
  pub is : many_at unit n k bytes ≡ Ok (items, drop (width * n) bytes)
  pub count : length items ≡ n
  pub room : width * n ≤ length bytes
  pub item : (j : ℕ) → j < n → slice_get items j ≡ Some (value (drop (width * j) bytes))
  pub none : (j : ℕ) → j < n → fault_of (unit (k + j) (drop (width * j) bytes)) ≡ None

-- the first of some units, and the others
pub record FirstOf {A : Type 0} (width : ℕ) (value : List ℕ → A) (unit : ℕ → List ℕ → Result (A × List ℕ) FileFault) (n k : ℕ) (bytes : List ℕ) : Type 0 where
  pub first : fault_of (unit k bytes) ≡ None
  pub others : fault_of (many_at unit n (k + 1) (drop width bytes)) ≡ None
  pub both : many_at unit (suc n) k bytes ≡ with_first (value bytes) (many_at unit n (k + 1) (drop width bytes))

pub one_more : {A : Type 0} {width : ℕ} {value : List ℕ → A} {unit : ℕ → List ℕ → Result (A × List ℕ) FileFault} → IsUnit width value unit → (n k : ℕ) (bytes : List ℕ)
    → fault_of (unit k bytes) ≡ None → many_at unit (suc n) k bytes ≡ with_first (value bytes) (many_at unit n (k + 1) (drop width bytes))
unfolding many_at
one_more u n k bytes h = rw (u.gives k bytes h) refl

pub first_of : {A : Type 0} {width : ℕ} {value : List ℕ → A} {unit : ℕ → List ℕ → Result (A × List ℕ) FileFault} → IsUnit width value unit → (n k : ℕ) (bytes : List ℕ)
    → fault_of (many_at unit (suc n) k bytes) ≡ None → FirstOf width value unit n k bytes
unfolding many_at
first_of {width = width} {value = value} {unit = unit} u n k bytes h =
    let first : fault_of (unit k bytes) ≡ None = first_none (unit k bytes) _ h in
    let both = one_more u n k bytes first in
    record {
      first = first;
      others = sym (ap fault_of both ∙ fault-with_first (value bytes) (many_at unit n (k + 1) (drop width bytes))) ∙ h;
      both = both;
    }

-- what stands so many units behind the first one
past : (width j : ℕ) (bytes : List ℕ) → drop (width * j) (drop width bytes) ≡ drop (width * suc j) bytes
past width j bytes = let more : width + width * j ≡ width * suc j = omega arith in drop-drop (width * j) width bytes ∙ ap (λ (m : ℕ). drop m bytes) more

more_items : {A : Type 0} (width : ℕ) (value : List ℕ → A) (n : ℕ) (bytes : List ℕ) (items : List A) → ((j : ℕ) → j < n → slice_get items j ≡ Some (value (drop (width * j) (drop width bytes))))
    → (j : ℕ) → j < suc n → slice_get (value bytes ∷ items) j ≡ Some (value (drop (width * j) bytes))
more_items width value n bytes items h zero lt = let start : 0 ≡ width * 0 = omega arith in ap (λ (m : ℕ). Some (value (drop m bytes))) start
more_items width value n bytes items h (suc j) lt = h j (omega arith) ∙ ap (λ (rest : List ℕ). Some (value rest)) (past width j bytes)

more_none : {A : Type 0} (width : ℕ) (unit : ℕ → List ℕ → Result (A × List ℕ) FileFault) (n k : ℕ) (bytes : List ℕ) → fault_of (unit k bytes) ≡ None
    → ((j : ℕ) → j < n → fault_of (unit (k + 1 + j) (drop (width * j) (drop width bytes))) ≡ None) → (j : ℕ) → j < suc n → fault_of (unit (k + j) (drop (width * j) bytes)) ≡ None
more_none width unit n k bytes first h zero lt =
    let start : width * 0 ≡ 0 = omega arith in
    let same : k + 0 ≡ k = omega arith in
    ap (λ (m : ℕ). fault_of (unit m (drop (width * 0) bytes))) same ∙ ap (λ (m : ℕ). fault_of (unit k (drop m bytes))) start ∙ first
more_none width unit n k bytes first h (suc j) lt =
    let same : k + suc j ≡ k + 1 + j = omega arith in
    ap (λ (m : ℕ). fault_of (unit m (drop (width * suc j) bytes))) same ∙ ap (λ (rest : List ℕ). fault_of (unit (k + 1 + j) rest)) (sym (past width j bytes)) ∙ h j (omega arith)

more_room : (width n : ℕ) (bytes : List ℕ) → width ≤ length bytes → width * n ≤ length (drop width bytes) → width * suc n ≤ length bytes
more_room width n bytes first others = let more : width * suc n ≡ width + width * n = omega arith in omega (arith, length-drop width bytes)

pub are_units : {A : Type 0} {width : ℕ} {value : List ℕ → A} {unit : ℕ → List ℕ → Result (A × List ℕ) FileFault} → IsUnit width value unit → (n k : ℕ) (bytes : List ℕ)
    → fault_of (many_at unit n k bytes) ≡ None → (items : List A) × AreUnits width value unit n k bytes items
unfolding many_at
are_units {width = width} u zero k bytes h =
    let start : 0 ≡ width * 0 = omega arith in
    ([], record { is = ap (λ (m : ℕ). Ok ([], drop m bytes)) start; count = refl; room = omega arith; item = λ j lt. absurd (omega arith); none = λ j lt. absurd (omega arith) })
are_units {A = A} {width = width} {value = value} {unit = unit} u (suc n) k bytes h =
    let f = first_of u n k bytes h in
    let o = are_units u n (k + 1) (drop width bytes) f.others in (
      value bytes ∷ o.0,
      record {
        is = f.both ∙ rw (o.1.is) (ap (λ (rest : List ℕ). Ok (value bytes ∷ o.0, rest)) (past width n bytes));
        count = ap suc o.1.count;
        room = more_room width n bytes (u.room k bytes f.first) o.1.room;
        item = more_items width value n bytes o.0 o.1.item;
        none = more_none width unit n k bytes f.first o.1.none;
      },
    )

-- two units of one width that give one value: where those of the first have no fault, and the second
-- has none where the first has none, the second gives the same
pub same_units : {A : Type 0} {width : ℕ} {value : List ℕ → A} {unit other : ℕ → List ℕ → Result (A × List ℕ) FileFault} → IsUnit width value unit → IsUnit width value other
    → ((k : ℕ) (bytes : List ℕ) → fault_of (unit k bytes) ≡ None → fault_of (other k bytes) ≡ None) → (n k : ℕ) (bytes : List ℕ)
    → fault_of (many_at unit n k bytes) ≡ None → many_at other n k bytes ≡ many_at unit n k bytes
unfolding many_at
same_units u o less zero k bytes h = refl
same_units {width = width} {value = value} u o less (suc n) k bytes h =
    let f = first_of u n k bytes h in
    one_more o n k bytes (less k bytes f.first) ∙ ap (with_first (value bytes)) (same_units u o less n (k + 1) (drop width bytes) f.others) ∙ sym f.both
