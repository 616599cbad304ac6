-- A fault of a file has one spelling.
use Rattle.std.proofs.Common.{◌≡◌, ℕ, ◌^◌, ◌≤◌, ◌==◌, Bool, true, ◌&&◌, List, [], ◌∷◌, map, Option, Some, None, refl, ap, subst, ◌∙◌, arith}
use Rattle.std.specs.Prelude.{if◌then◌else◌}
use Rattle.std.specs.Fmt.{decimal}
use Rattle.std.specs.List.{AllByRecursion}
use Rattle.std.specs.Option.{option_and_then}
use Rattle.std.proofs.lemmas.Bool.{cond-true, cond_both, and_parts, eqb-true, ltb-true, lt-ltb}
use Rattle.std.proofs.lemmas.Option.{option_and_then_some}
use Rattle.file_model.specs.declared.faults.FileFault.{FileFault}
use Rattle.file_model.specs.declared.faults.FileFault.TheVariants.{Magic, Version, NotZero, NodeCount, PatchCount, Truncated, Trailing, NodeOutOfGrid, ArcEnd, BodyCount, PointOutOfGrid, CornerIndex, Flat, Loose}
use Rattle.number_words.specs.Numbers.{number_in}
use Rattle.text_model.specs.StatusText.{file_fault_numbers, file_fault_words}
use Rattle.serve_model.specs.FittingFaults.{has_bits}
use Rattle.audit_spelling.specs.Words.{each_in, Spells}
use Rattle.audit_spelling.specs.WordLaws.{each_spells}
use Rattle.audit_spelling.specs.NumberSpellings.{number_spells}
use Rattle.audit_spelling.specs.Spellings.{most_64, FitsFault, fault_alone, fault_with_small, fault_with_one, fault_with_pair, fault_with_two, fault_with_three, fault_of, fault_in}

abbrev AreFew : List ℕ → Type 0
AreFew numbers = AllByRecursion (λ n. n ≤ most_64) numbers

few_16 : (n : ℕ) → has_bits 16 n ≡ true → n ≤ most_64
few_16 n is = let within = ltb-true n (2 ^ 16) is in omega arith

few_32 : (n : ℕ) → has_bits 32 n ≡ true → n ≤ most_64
few_32 n is = let within = ltb-true n (2 ^ 32) is in omega arith

few_64 : (n : ℕ) → has_bits 64 n ≡ true → n ≤ most_64
few_64 n is = let within = ltb-true n (2 ^ 64) is in omega arith

one : (n : ℕ) → n ≤ 14 → n ≤ most_64
one n small = omega arith

few_two : (number a b : ℕ) → number ≤ 14 → (has_bits 32 a && has_bits 32 b) ≡ true → AreFew (number ∷ a ∷ b ∷ [])
few_two number a b small fits =
    let both = and_parts (has_bits 32 a) (has_bits 32 b) fits in
    (one number small, (few_32 a both.0, (few_32 b both.1, tt)))

-- the numbers of a fault that fits are few
numbers_few : (fault : FileFault) → FitsFault fault → AreFew (file_fault_numbers fault)
numbers_few Magic fits = (omega arith, tt)
numbers_few (Version found) fits = (omega arith, (few_16 found fits, tt))
numbers_few NotZero fits = (omega arith, tt)
numbers_few (NodeCount count) fits = (omega arith, (few_32 count fits, tt))
numbers_few (PatchCount count) fits = (omega arith, (few_32 count fits, tt))
numbers_few (Truncated length) fits = (omega arith, (few_64 length fits, tt))
numbers_few (Trailing seen) fits = (omega arith, (few_64 seen fits, tt))
numbers_few (NodeOutOfGrid node) fits = (omega arith, (few_32 node fits, tt))
numbers_few (ArcEnd patch) fits = (omega arith, (few_32 patch fits, tt))
numbers_few (BodyCount patch) fits = (omega arith, (few_32 patch fits, tt))
numbers_few (PointOutOfGrid patch point) fits = few_two 11 patch point (omega arith) fits
numbers_few (CornerIndex patch triangle corner) fits =
    let both = and_parts (has_bits 32 patch && has_bits 32 triangle) (has_bits 32 corner) fits in
    let first = and_parts (has_bits 32 patch) (has_bits 32 triangle) both.0 in
    (omega arith, (few_32 patch first.0, (few_32 triangle first.1, (few_32 corner both.1, tt))))
numbers_few (Flat patch triangle) fits = few_two 13 patch triangle (omega arith) fits
numbers_few (Loose patch axis) fits = few_two 14 patch axis (omega arith) fits

-- ---- what numbers spell

-- where there is a fault, it has these numbers and fits
abbrev IsOf : List ℕ → Option FileFault → Type 0
IsOf numbers None = Unit {0}
IsOf numbers (Some fault) = (numbers ≡ file_fault_numbers fault) × FitsFault fault

-- a chain of tests gives faults of the numbers where each of them does
one_fault : (numbers : List ℕ) (number due : ℕ) (fault : FileFault) (others : Option FileFault)
    → (number ≡ due → (numbers ≡ file_fault_numbers fault) × FitsFault fault) → IsOf numbers others
    → IsOf numbers (if number == due then Some fault else others)
one_fault numbers number due fault others here there =
    cond_both (number == due) (Some fault) others (IsOf numbers) (λ same. here (eqb-true number due same))
    (λ other. there)

-- a fault under a test
if_fits : (numbers : List ℕ) (test : Bool) (fault others : Option FileFault) → (test ≡ true → IsOf numbers fault)
    → IsOf numbers others → IsOf numbers (if test then fault else others)
if_fits numbers test fault others here there = cond_both test fault others (IsOf numbers) here (λ other. there)

alone_is : (n : ℕ) → IsOf (n ∷ []) (fault_alone n)
alone_is n = one_fault (n ∷ []) n 1 Magic _ (λ is. (ap (λ (m : ℕ). m ∷ []) is, refl))
    (one_fault (n ∷ []) n 3 NotZero None (λ is. (ap (λ (m : ℕ). m ∷ []) is, refl)) tt)

small_is : (n a : ℕ) → has_bits 32 a ≡ true → IsOf (n ∷ a ∷ []) (fault_with_small n a)
small_is n a fits =
    let numbers = n ∷ a ∷ [] in
    one_fault numbers n 4 (NodeCount a) _ (λ is. (ap (λ (m : ℕ). m ∷ a ∷ []) is, fits))
    (one_fault numbers n 5 (PatchCount a) _ (λ is. (ap (λ (m : ℕ). m ∷ a ∷ []) is, fits))
    (one_fault numbers n 8 (NodeOutOfGrid a) _ (λ is. (ap (λ (m : ℕ). m ∷ a ∷ []) is, fits))
    (one_fault numbers n 9 (ArcEnd a) _ (λ is. (ap (λ (m : ℕ). m ∷ a ∷ []) is, fits))
    (one_fault numbers n 10 (BodyCount a) None (λ is. (ap (λ (m : ℕ). m ∷ a ∷ []) is, fits)) tt))))

with_one_is : (n a : ℕ) → a ≤ most_64 → IsOf (n ∷ a ∷ []) (fault_with_one n a)
with_one_is n a few =
    let numbers = n ∷ a ∷ [] in
    cond_both (n == 2) (if has_bits 16 a then Some (Version a) else None) _ (IsOf numbers)
    (λ same. if_fits numbers (has_bits 16 a) (Some (Version a)) None
    (λ fits. (ap (λ (m : ℕ). m ∷ a ∷ []) (eqb-true n 2 same), fits)) tt)
    (λ other.
    one_fault numbers n 6 (Truncated a) _ (λ is. (ap (λ (m : ℕ). m ∷ a ∷ []) is, lt-ltb a (2 ^ 64) (omega arith)))
    (one_fault numbers n 7 (Trailing a) _ (λ is. (ap (λ (m : ℕ). m ∷ a ∷ []) is, lt-ltb a (2 ^ 64) (omega arith)))
    (if_fits numbers (has_bits 32 a) (fault_with_small n a) None (small_is n a) tt)))

with_two_is : (n a b : ℕ) → IsOf (n ∷ a ∷ b ∷ []) (fault_with_two n a b)
with_two_is n a b =
    let numbers = n ∷ a ∷ b ∷ [] in
    if_fits numbers (has_bits 32 a && has_bits 32 b) (fault_with_pair n a b) None
    (λ fits.
    one_fault numbers n 11 (PointOutOfGrid a b) _ (λ is. (ap (λ (m : ℕ). m ∷ a ∷ b ∷ []) is, fits))
    (one_fault numbers n 13 (Flat a b) _ (λ is. (ap (λ (m : ℕ). m ∷ a ∷ b ∷ []) is, fits))
    (one_fault numbers n 14 (Loose a b) None (λ is. (ap (λ (m : ℕ). m ∷ a ∷ b ∷ []) is, fits)) tt)))
    tt

with_three_is : (n a b c : ℕ) → IsOf (n ∷ a ∷ b ∷ c ∷ []) (fault_with_three n a b c)
with_three_is n a b c =
    let numbers = n ∷ a ∷ b ∷ c ∷ [] in
    if_fits numbers (has_bits 32 a && has_bits 32 b && has_bits 32 c)
    (if n == 12 then Some (CornerIndex a b c) else None) None
    (λ fits. one_fault numbers n 12 (CornerIndex a b c) None (λ is. (ap (λ (m : ℕ). m ∷ a ∷ b ∷ c ∷ []) is, fits)) tt)
    tt

fault_is : (numbers : List ℕ) → AreFew numbers → IsOf numbers (fault_of numbers)
fault_is [] few = tt
fault_is (n ∷ []) few = alone_is n
fault_is (n ∷ a ∷ []) few = with_one_is n a few.1.0
fault_is (n ∷ a ∷ b ∷ []) few = with_two_is n a b
fault_is (n ∷ a ∷ b ∷ c ∷ []) few = with_three_is n a b c
fault_is (n ∷ a ∷ b ∷ c ∷ d ∷ rest) few = tt

numbers_complete : (fault : FileFault) → FitsFault fault → fault_of (file_fault_numbers fault) ≡ Some fault
numbers_complete Magic fits = refl
numbers_complete (Version found) fits = cond-true (has_bits 16 found) (Some (Version found)) None fits
numbers_complete NotZero fits = refl
numbers_complete (NodeCount count) fits = cond-true (has_bits 32 count) (Some (NodeCount count)) None fits
numbers_complete (PatchCount count) fits = cond-true (has_bits 32 count) (Some (PatchCount count)) None fits
numbers_complete (Truncated length) fits = refl
numbers_complete (Trailing seen) fits = refl
numbers_complete (NodeOutOfGrid node) fits = cond-true (has_bits 32 node) (Some (NodeOutOfGrid node)) None fits
numbers_complete (ArcEnd patch) fits = cond-true (has_bits 32 patch) (Some (ArcEnd patch)) None fits
numbers_complete (BodyCount patch) fits = cond-true (has_bits 32 patch) (Some (BodyCount patch)) None fits
numbers_complete (PointOutOfGrid patch point) fits = cond-true (has_bits 32 patch && has_bits 32 point)
    (Some (PointOutOfGrid patch point)) None fits
numbers_complete (CornerIndex patch triangle corner) fits = cond-true
    (has_bits 32 patch && has_bits 32 triangle && has_bits 32 corner)
    (Some (CornerIndex patch triangle corner)) None fits
numbers_complete (Flat patch triangle) fits = cond-true (has_bits 32 patch && has_bits 32 triangle)
    (Some (Flat patch triangle)) None fits
numbers_complete (Loose patch axis) fits = cond-true (has_bits 32 patch && has_bits 32 axis)
    (Some (Loose patch axis)) None fits

each_number : Spells (each_in (number_in most_64)) (λ numbers. map decimal numbers) AreFew
each_number = each_spells (number_in most_64) decimal (λ n. n ≤ most_64) (number_spells most_64 (omega arith))

fault_sound : (words : List (List ℕ)) (fault : FileFault) → fault_in words ≡ Some fault
    → (words ≡ file_fault_words fault) × FitsFault fault
fault_sound words fault is =
    option_and_then_some fault_of (each_in (number_in most_64) words) fault is
    (λ numbers spelt like.
    let of_words = each_number.sound words numbers spelt in
    let of_fault = subst (IsOf numbers) like (fault_is numbers of_words.1) in
    (of_words.0 ∙ ap (λ (ns : List ℕ). map decimal ns) of_fault.0, of_fault.1))

fault_complete : (fault : FileFault) → FitsFault fault → fault_in (file_fault_words fault) ≡ Some fault
fault_complete fault fits =
    ap (option_and_then fault_of) (each_number.complete (file_fault_numbers fault) (numbers_few fault fits))
    ∙ numbers_complete fault fits

-- numbers of words spell a fault exactly where they are those that are printed of it and its arguments fit
pub fault_spells : Spells fault_in file_fault_words FitsFault
fault_spells = record {
  sound = fault_sound;
  complete = fault_complete;
  plain = λ fault fits. each_number.plain (file_fault_numbers fault) (numbers_few fault fits);
}
