-- Marks are listed, set and taken.
use Rattle.std.proofs.Common.{◌≡◌, ℕ, ◌+◌, ◌<◌, ◌≤◌, inl, inr, Bool, true, false, List, [], ◌∷◌, ◌++◌, length, replicate, refl, sym, ap, subst, ◌∙◌, arith}
use Rattle.std.specs.Prelude.{cond, slice_index, slice_index_or, slice_set}
use Rattle.std.specs.List.{count_by}
use Rattle.std.proofs.lemmas.Bool.{cases_eq, cases_lt, cases_Bool, both_ways}
use Rattle.std.proofs.lemmas.List.{length-set, get_or-set_same, get_or-set_other, get_or_past, get_or_append_left, ext_get_or, length-replicate, get_or-replicate}
use Rattle.std.proofs.Math.Seq.{get_or-append_seam}
use Rattle.std.proofs.lemmas.List.Sums.{sum_by-set, count_by-le-length}
use Rattle.tier_model.specs.Places.{is_marked}
use Rattle.tier_budget.specs.Marked.{IsAmong, AreListed, AreMarks}

-- what is marked is one of the patches
marked_in_range : (marks : List Bool) (p : ℕ) → is_marked marks p ≡ true → p < length marks
marked_in_range marks p is = elim (cases_lt p (length marks)) [
  | inl within ↦ within
  | inr past ↦ absurd (both_ways (is_marked marks p) (get_or_past marks p false past) is)
]

-- ---- a patch is marked

length_more : (listed : List ℕ) (p : ℕ) → length (listed ++ p ∷ []) ≡ length listed + 1
length_more [] p = refl
length_more (q ∷ listed) p = let more = length_more listed p in omega arith

among_more : (listed : List ℕ) (p q : ℕ) → IsAmong listed q → IsAmong (listed ++ p ∷ []) q
among_more listed p q is = record {
  place = is.place;
  within = let more = length_more listed p in let within = is.within in omega arith;
  there = get_or_append_left listed (p ∷ []) 0 is.place is.within ∙ is.there;
}

among_last : (listed : List ℕ) (p : ℕ) → IsAmong (listed ++ p ∷ []) p
among_last listed p = record {
  place = length listed;
  within = let more = length_more listed p in omega arith;
  there = get_or-append_seam listed p [] 0;
}

listed_more : (marks : List Bool) (listed : List ℕ) (p : ℕ) → p < length marks → AreListed marks listed → AreListed (slice_set marks p true) (listed ++ p ∷ [])
listed_more marks listed p within is = record {
  patches = λ i less. elim (cases_lt i (length listed)) [
    | inl before ↦ rw (get_or_append_left listed (p ∷ []) 0 i before) (let there = is.patches i before in let many = length-set marks p true in omega arith)
    | inr after ↦
        let last : i ≡ length listed = (let more = length_more listed p in omega arith) in
        let seam : slice_index (listed ++ p ∷ []) i ≡ p = ap (slice_index (listed ++ p ∷ [])) last ∙ get_or-append_seam listed p [] 0 in
        rw seam (let many = length-set marks p true in omega arith)
  ];
  every = λ q marked. elim (cases_eq q p) [
    | inl same ↦ subst (IsAmong (listed ++ p ∷ [])) (sym same) (among_last listed p)
    | inr ne ↦ among_more listed p q (is.every q (sym (get_or-set_other marks p q true false ne) ∙ marked))
  ];
}

-- one for a mark, else 0
abbrev one_if : Bool → ℕ
one_if m = cond m 1 0

count_marked : (marks : List Bool) (p : ℕ) → p < length marks → is_marked marks p ≡ false → count_by (λ m. m) (slice_set marks p true) ≡ count_by (λ m. m) marks + 1
count_marked marks p within unmarked =
    let set = sum_by-set (λ m. one_if m) marks p true false within in
    let before : one_if (slice_index_or marks p false) ≡ 0 = ap (λ (b : Bool). cond b 1 0) unmarked in
    omega arith

-- there is room to list one more patch where one isn't marked
pub room_for : (marks : List Bool) (listed : List ℕ) (room p : ℕ) → AreMarks marks listed room → p < length marks → is_marked marks p ≡ false → length listed < room
room_for marks listed room p are within unmarked =
    let more = count_marked marks p within unmarked in
    let most = count_by-le-length (λ m. m) (slice_set marks p true) in
    let many = length-set marks p true in
    let once = are.once in
    let roomy = are.roomy in
    omega arith

pub marks_more : (marks : List Bool) (listed : List ℕ) (room p : ℕ) → AreMarks marks listed room → p < length marks → is_marked marks p ≡ false → AreMarks (slice_set marks p true) (listed ++ p ∷ []) room
marks_more marks listed room p are within unmarked = record {
  are_listed = listed_more marks listed p within are.are_listed;
  once = let more = count_marked marks p within unmarked in let longer = length_more listed p in let once = are.once in omega arith;
  roomy = let many = length-set marks p true in let roomy = are.roomy in omega arith;
}

-- ---- all marks are taken

-- the patch stands in the list, past the first n
pub record IsAmongLast (listed : List ℕ) (n p : ℕ) : Type 0 where
  pub place : ℕ
  pub later : n ≤ place
  pub within : place < length listed
  pub there : slice_index listed place ≡ p

-- the marked patches are past the first n that are listed
pub record AreLast (marks : List Bool) (listed : List ℕ) (n : ℕ) : Type 0 where
  pub every : (p : ℕ) → is_marked marks p ≡ true → IsAmongLast listed n p

pub last_of_all : (marks : List Bool) (listed : List ℕ) → AreListed marks listed → AreLast marks listed 0
last_of_all marks listed is = record {
  every = λ p marked. let among = is.every p marked in record { place = among.place; later = omega arith; within = among.within; there = among.there };
}

pub last_fewer : (marks : List Bool) (listed : List ℕ) (n q : ℕ) → q ≡ slice_index listed n → q < length marks → AreLast marks listed n → AreLast (slice_set marks q false) listed (n + 1)
last_fewer marks listed n q here within last = record {
  every = λ p marked. elim (cases_eq p q) [
    | inl same ↦ absurd (both_ways (is_marked (slice_set marks q false) q) (get_or-set_same marks q false false within) (subst (λ (m : ℕ). is_marked (slice_set marks q false) m ≡ true) same marked))
    | inr ne ↦
        let among = last.every p (sym (get_or-set_other marks q p false false ne) ∙ marked) in
        elim (cases_eq among.place n) [
          | inl at ↦ absurd (ne (sym among.there ∙ ap (slice_index listed) at ∙ sym here))
          | inr past ↦ record { place = among.place; later = let later = among.later in omega arith; within = among.within; there = among.there }
        ]
  ];
}

pub none_left : (marks : List Bool) (listed : List ℕ) (n : ℕ) → length listed ≤ n → AreLast marks listed n → marks ≡ replicate (length marks) false
none_left marks listed n past last =
    ext_get_or false marks (replicate (length marks) false) (sym (length-replicate (length marks) false))
    (λ i within. elim (cases_Bool (is_marked marks i)) [
      | inl marked ↦ absurd (let among = last.every i marked in let within_list = among.within in let later = among.later in omega arith)
      | inr unmarked ↦ unmarked ∙ sym (get_or-replicate (length marks) i false false within)
    ])
