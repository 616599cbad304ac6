-- Reading units in a loop: those behind so far, before what reading gives of the rest.
use Rattle.std.proofs.Common.{◌≡◌, ℕ, ◌+◌, ◌-◌, ◌<◌, ◌≤◌, suc, List, [], ◌∷◌, ◌++◌, Result, Ok, Err, refl, sym, ap, ◌∙◌, append_assoc, arith}
use Rattle.std.proofs.lemmas.List.{append-nil}
use Rattle.file_model.specs.declared.faults.FileFault.{FileFault}
use Rattle.file_model.specs.Reading.{◌>>=◌, many_at}

abbrev pub Units : Type 0 → Type 0
Units A = Result (List A × List ℕ) FileFault

-- the units that were read, before those of the rest
abbrev pub with_front : {A : Type 0} → List A → Units A → Units A
with_front front read = read >>= λ others. Ok (front ++ others.0, others.1)

pub starts : {A : Type 0} (read : Units A) → with_front [] read ≡ read
starts (Ok x) = refl
starts (Err fault) = refl

regroup : {A : Type 0} (front : List A) (x : A) (read : Units A) → with_front front (read >>= λ others. Ok (x ∷ others.0, others.1)) ≡ with_front (front ++ x ∷ []) read
regroup front x (Ok others) = ap (λ xs. Ok (xs, others.1)) (sym (append_assoc front (x ∷ []) others.0))
regroup front x (Err fault) = refl

pub goes_on : {A : Type 0} (unit : ℕ → List ℕ → Result (A × List ℕ) FileFault) (front : List A) (count i : ℕ) (bytes : List ℕ) (x : A) (after : List ℕ) (total : Units A)
    → i < count → unit i bytes ≡ Ok (x, after) → with_front front (many_at unit (count - i) i bytes) ≡ total → with_front (front ++ x ∷ []) (many_at unit (count - (i + 1)) (i + 1) after) ≡ total
unfolding many_at
goes_on unit front count i bytes x after total lt here so_far =
    let k : count - i ≡ suc (count - (i + 1)) = omega arith in
    let one : with_front front (many_at unit (count - i) i bytes) ≡ with_front (front ++ x ∷ []) (many_at unit (count - (i + 1)) (i + 1) after) = rw (k, here) (regroup front x (many_at unit (count - (i + 1)) (i + 1) after)) in
    sym one ∙ so_far

pub stops : {A : Type 0} (unit : ℕ → List ℕ → Result (A × List ℕ) FileFault) (front : List A) (count i : ℕ) (bytes : List ℕ) (fault : FileFault) (total : Units A)
    → i < count → unit i bytes ≡ Err fault → with_front front (many_at unit (count - i) i bytes) ≡ total → total ≡ Err fault
unfolding many_at
stops unit front count i bytes fault total lt here so_far =
    let k : count - i ≡ suc (count - (i + 1)) = omega arith in
    let one : with_front front (many_at unit (count - i) i bytes) ≡ Err fault = rw (k, here) refl in
    sym so_far ∙ one

pub is_done : {A : Type 0} (unit : ℕ → List ℕ → Result (A × List ℕ) FileFault) (front : List A) (count i : ℕ) (bytes : List ℕ) (total : Units A)
    → count ≤ i → with_front front (many_at unit (count - i) i bytes) ≡ total → total ≡ Ok (front, bytes)
unfolding many_at
is_done unit front count i bytes total le so_far =
    let k : count - i ≡ 0 = omega arith in
    let one : with_front front (many_at unit (count - i) i bytes) ≡ Ok (front, bytes) = rw k (ap (λ xs. Ok (xs, bytes)) (append-nil front)) in
    sym so_far ∙ one
