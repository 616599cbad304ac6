-- What turns count up to, and then more turns.
use Rattle.std.proofs.Common.{◌≡◌, ◌∙◌, ℕ, ◌+◌, List, [], ◌∷◌, ◌++◌, ap, arith}
use Rattle.tier_model.specs.declared.turns.Turn.{Turn}
use Rattle.tier_model.specs.declared.turns.Turn.TheVariants.{Reserve, Evict, Kept, Got, Lost, Fault, Changed, Commit, Idle}
use Rattle.tier_model.specs.Counts.{bytes_got, got_bytes, is_fault, faults_in, is_lost, lost_in, is_change, changes_in, entries_of}

-- ---- two lists of turns

pub faults-append : (first last : List Turn) → faults_in (first ++ last) ≡ faults_in first + faults_in last
unfolding faults_in
faults-append [] last = omega arith
faults-append (t ∷ ts) last = let rest = faults-append ts last in omega arith

pub lost-append : (first last : List Turn) → lost_in (first ++ last) ≡ lost_in first + lost_in last
unfolding lost_in
lost-append [] last = omega arith
lost-append (t ∷ ts) last = let rest = lost-append ts last in omega arith

pub changes-append : (first last : List Turn) → changes_in (first ++ last) ≡ changes_in first + changes_in last
unfolding changes_in
changes-append [] last = omega arith
changes-append (t ∷ ts) last = let rest = changes-append ts last in omega arith

pub got-append : (sizes : List ℕ) (first last : List Turn) → got_bytes sizes (first ++ last) ≡ got_bytes sizes first + got_bytes sizes last
unfolding got_bytes
got-append sizes [] last = omega arith
got-append sizes (t ∷ ts) last = let rest = got-append sizes ts last in omega arith

-- ---- a journal, and the entry that a turn leaves in it

faults_of_entry : (answer : Turn) → faults_in (entries_of answer) ≡ is_fault answer
unfolding entries_of faults_in is_fault
faults_of_entry (Reserve p) = omega arith
faults_of_entry (Evict p) = omega arith
faults_of_entry (Kept p uses) = omega arith
faults_of_entry (Got p) = omega arith
faults_of_entry (Lost p) = omega arith
faults_of_entry (Fault p) = omega arith
faults_of_entry (Changed p fault) = omega arith
faults_of_entry (Commit p) = omega arith
faults_of_entry Idle = omega arith

lost_of_entry : (answer : Turn) → lost_in (entries_of answer) ≡ is_lost answer
unfolding entries_of lost_in is_lost
lost_of_entry (Reserve p) = omega arith
lost_of_entry (Evict p) = omega arith
lost_of_entry (Kept p uses) = omega arith
lost_of_entry (Got p) = omega arith
lost_of_entry (Lost p) = omega arith
lost_of_entry (Fault p) = omega arith
lost_of_entry (Changed p fault) = omega arith
lost_of_entry (Commit p) = omega arith
lost_of_entry Idle = omega arith

changes_of_entry : (answer : Turn) → changes_in (entries_of answer) ≡ is_change answer
unfolding entries_of changes_in is_change
changes_of_entry (Reserve p) = omega arith
changes_of_entry (Evict p) = omega arith
changes_of_entry (Kept p uses) = omega arith
changes_of_entry (Got p) = omega arith
changes_of_entry (Lost p) = omega arith
changes_of_entry (Fault p) = omega arith
changes_of_entry (Changed p fault) = omega arith
changes_of_entry (Commit p) = omega arith
changes_of_entry Idle = omega arith

got_of_entry : (sizes : List ℕ) (answer : Turn) → got_bytes sizes (entries_of answer) ≡ bytes_got sizes answer
unfolding entries_of got_bytes bytes_got
got_of_entry sizes (Reserve p) = omega arith
got_of_entry sizes (Evict p) = omega arith
got_of_entry sizes (Kept p uses) = omega arith
got_of_entry sizes (Got p) = omega arith
got_of_entry sizes (Lost p) = omega arith
got_of_entry sizes (Fault p) = omega arith
got_of_entry sizes (Changed p fault) = omega arith
got_of_entry sizes (Commit p) = omega arith
got_of_entry sizes Idle = omega arith

pub faults-more : (journal : List Turn) (answer : Turn) → faults_in (journal ++ entries_of answer) ≡ faults_in journal + is_fault answer
faults-more journal answer = faults-append journal (entries_of answer) ∙ ap (λ (n : ℕ). faults_in journal + n) (faults_of_entry answer)

pub lost-more : (journal : List Turn) (answer : Turn) → lost_in (journal ++ entries_of answer) ≡ lost_in journal + is_lost answer
lost-more journal answer = lost-append journal (entries_of answer) ∙ ap (λ (n : ℕ). lost_in journal + n) (lost_of_entry answer)

pub changes-more : (journal : List Turn) (answer : Turn) → changes_in (journal ++ entries_of answer) ≡ changes_in journal + is_change answer
changes-more journal answer = changes-append journal (entries_of answer) ∙ ap (λ (n : ℕ). changes_in journal + n) (changes_of_entry answer)

pub got-more : (sizes : List ℕ) (journal : List Turn) (answer : Turn) → got_bytes sizes (journal ++ entries_of answer) ≡ got_bytes sizes journal + bytes_got sizes answer
got-more sizes journal answer = got-append sizes journal (entries_of answer) ∙ ap (λ (n : ℕ). got_bytes sizes journal + n) (got_of_entry sizes answer)
