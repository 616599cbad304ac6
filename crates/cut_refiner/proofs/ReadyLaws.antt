-- The candidates are the nodes that are ready, each once: taking the first one.
use Rattle.std.proofs.Common.{◌≡◌, ℕ, suc, ◌+◌, ◌<◌, ◌≤◌, Bool, true, false, not, ◌&&◌, ◌||◌, eqb, List, [], ◌∷◌, ◌++◌, length, Some, refl, sym, ap, subst, ◌∙◌, arith, inl, inr, append_assoc}
use Rattle.std.specs.Prelude.{slice_get, slice_index}
use Rattle.std.specs.List.{AllByRecursion}
use Rattle.std.specs.List.Sorted.{IsPermutation}
use Rattle.std.proofs.lemmas.Bool.{cases_eq, cases_Bool, eq-eqb, ne_eqb, and_parts, and_from, and_left, and_right, or_left, or_right, false_from_ne_true}
use Rattle.std.proofs.lemmas.List.Elements.{All-from_recursion, recursion_from_All}
use Rattle.std.proofs.lemmas.List.Sorted.{All-permutation, sum_by-IsPermutation}
use Rattle.std.proofs.lemmas.List.Sums.{sum_by-cons}
use Rattle.file_model.specs.declared.fields.PatchField.{PatchField}
use Rattle.mesh_model.specs.Graph.{leads_to}
use Rattle.mesh_model.specs.Nets.{one_if}
use Rattle.round_model.specs.Order.{Rules, comes_before, node_order}
use Rattle.round_model.specs.Rounds.{has, has_parents, is_wanted, is_within_limit, is_tried}
use Rattle.mesh_laws.specs.Each.{each_at}
use Rattle.round_laws.specs.Ascending.{Ascends, IsInnerNode, order_ascends, order_is_inner}
use Rattle.round_laws.specs.Passing.{gone_before}
use Rattle.cut_refiner.specs.declared.candidates.Candidate.{Candidate}
use Rattle.cut_refiner.specs.Candidates.{is_tried_before, IsFirst}
use Rattle.cut_refiner.specs.GrowingCuts.{missing_of}
use Rattle.round_laws.specs.Among.{is_among}
use Rattle.cut_refiner.specs.RefinementStates.{IsCandidate, times_of, is_ready, IsWaiting, ArePassed}
use Rattle.cut_refiner.proofs.CandidateLaws.{nodes_in_order}
use Rattle.round_laws.specs.Among.{among_both, IsSplit, split_among, each_among, each_listed, not_behind}

-- ---- how often a node is a candidate

pub times_cons : (c : Candidate) (items : List Candidate) (v : ℕ) → times_of (c ∷ items) v ≡ one_if (eqb c.node.0 v) + times_of items v
unfolding times_of
times_cons c items v = sum_by-cons (λ (d : Candidate). one_if (eqb d.node.0 v)) c items

pub times_none : (v : ℕ) → times_of [] v ≡ 0
unfolding times_of
times_none v = refl

pub times_permuted : (xs ys : List Candidate) (v : ℕ) → IsPermutation xs ys → times_of ys v ≡ times_of xs v
unfolding times_of
times_permuted xs ys v h = sum_by-IsPermutation (λ (d : Candidate). one_if (eqb d.node.0 v)) xs ys h

pub one_of_same : (u v : ℕ) → u ≡ v → one_if (eqb u v) ≡ 1
one_of_same u v same = ap one_if (eq-eqb u v same)

pub one_of_apart : (u v : ℕ) → (u ≡ v → ⊥) → one_if (eqb u v) ≡ 0
one_of_apart u v apart = ap one_if (ne_eqb u v apart)

-- a candidate of the node
pub record HasItem (items : List Candidate) (v : ℕ) : Type 0 where
  pub place : ℕ
  pub item : Candidate
  pub there : slice_get items place ≡ Some item
  pub is : item.node.0 ≡ v

pub item_of_times : (items : List Candidate) (v : ℕ) → 1 ≤ times_of items v → HasItem items v
item_of_times [] v h = absurd (omega (arith, times_none v))
item_of_times (c ∷ items) v h =
    elim (cases_eq c.node.0 v) [
      | inl same ↦ record { place = 0; item = c; there = refl; is = same }
      | inr apart ↦
          let rest = item_of_times items v (omega (arith, times_cons c items v, one_of_apart c.node.0 v apart)) in
          record { place = suc rest.place; item = rest.item; there = rest.there; is = rest.is }
    ]

-- ---- parents and missing patches

parents_step : (leads tail rest : Bool) (m : ℕ) → rest ≡ eqb m 0 → ((not leads || tail) && rest) ≡ eqb (one_if (leads && not tail) + m) 0
parents_step true true rest m h = h ∙ ap (λ n. eqb n 0) (let start : m ≡ 0 + m = omega arith in start)
parents_step true false rest m h = sym (ne_eqb (1 + m) 0 (λ same. omega arith))
parents_step false tail rest m h = h ∙ ap (λ n. eqb n 0) (let start : m ≡ 0 + m = omega arith in start)

pub parents_tell : (fields : List PatchField) (set : List Bool) (v : ℕ) → has_parents fields set v ≡ eqb (missing_of fields (has set) v) 0
unfolding missing_of
parents_tell [] set v = refl
parents_tell (f ∷ fs) set v =
    parents_step (leads_to v f) (has set f.tail) (has_parents fs set v) (missing_of fs (has set) v) (parents_tell fs set v)
    ∙ ap (λ n. eqb n 0) (sym (sum_by-cons (λ (g : PatchField). one_if (leads_to v g && not (has set g.tail))) f fs))

-- ---- taking the first candidate

one_if_true : (t : Bool) → 1 ≤ one_if t → t ≡ true
one_if_true true h = refl
one_if_true false h = absurd (omega arith)

-- the test of a node but for its place in the order
abbrev pub is_free : Rules → List ℕ → ℕ → Bool
is_free rules missing v = is_wanted rules v && (eqb (slice_index missing v) 0)

-- what is left once a candidate was taken: the nodes before it aren't tried
pub record IsTaken (rules : Rules) (rest missing : List ℕ) (set : List Bool) (new : List Candidate) (v : ℕ) : Type 0 where
  pub before : List ℕ
  pub after : List ℕ
  pub split : rest ≡ before ++ v ∷ after
  pub are_passed : ArePassed rules set before
  pub node : v < length rules.mesh.index.nodes
  pub among : is_among rest v ≡ true
  pub later : (u : ℕ) → is_among after u ≡ true → is_among rest u ≡ true
  pub wanted : is_wanted rules v ≡ true
  pub parents : has_parents rules.mesh.index.fields set v ≡ true
  pub waiting : IsWaiting rules after missing new

-- what stands in the rest is a node
pub node_in_rest : (rules : Rules) (gone rest : List ℕ) (v : ℕ) → node_order rules ≡ gone ++ rest → is_among rest v ≡ true → v < length rules.mesh.index.nodes
node_in_rest rules gone rest v order there =
    let all = subst (AllByRecursion (IsInnerNode rules)) order (order_is_inner rules) in
    (each_among (IsInnerNode rules) (gone ++ rest) v all (among_both gone rest v ∙ or_right (is_among gone v) (is_among rest v) there)).node

-- the numbers are those of the patches from outside the set
abbrev pub TellMissing : Rules → List ℕ → List Bool → Type 0
TellMissing rules missing set = (v : ℕ) → v < length rules.mesh.index.nodes → slice_index missing v ≡ missing_of rules.mesh.index.fields (has set) v

free_tells : (rules : Rules) (missing : List ℕ) (set : List Bool) (v : ℕ) → TellMissing rules missing set → v < length rules.mesh.index.nodes → (is_wanted rules v && has_parents rules.mesh.index.fields set v) ≡ is_free rules missing v
free_tells rules missing set v tell node = ap (λ (t : Bool). is_wanted rules v && t) (parents_tell rules.mesh.index.fields set v ∙ ap (λ n. eqb n 0) (sym (tell v node)))

untried : (rules : Rules) (missing : List ℕ) (set : List Bool) (v : ℕ) → TellMissing rules missing set → v < length rules.mesh.index.nodes → is_free rules missing v ≡ false → is_tried rules set v ≡ false
untried rules missing set v tell node never =
    and_left (is_wanted rules v && has_parents rules.mesh.index.fields set v) (is_within_limit rules set v) (free_tells rules missing set v tell node ∙ never)

module _ (rules : Rules) (rest missing : List ℕ) (set : List Bool) (old new : List Candidate) (x : Candidate) (gone : List ℕ) (waiting : IsWaiting rules rest missing old) (permuted : IsPermutation old (x ∷ new)) (first : IsFirst x old) (order : node_order rules ≡ gone ++ rest) (tell : TellMissing rules missing set) where
  abbrev v : ℕ
  v = x.node.0

  old_times : (u : ℕ) → times_of old u ≡ one_if (eqb v u) + times_of new u
  old_times u = sym (times_permuted old (x ∷ new) u permuted) ∙ times_cons x new u

  ready_here : is_ready rules rest missing v ≡ true
  ready_here = one_if_true (is_ready rules rest missing v) (omega (arith, old_times v, one_of_same v v refl, waiting.once v))

  among_here : is_among rest v ≡ true
  among_here = (and_parts (is_among rest v) (is_free rules missing v) ready_here).0

  split : IsSplit rest v
  split = split_among rest v among_here

  order_split : node_order rules ≡ (gone ++ split.before) ++ v ∷ split.after
  order_split = order ∙ ap (λ (vs : List ℕ). gone ++ vs) split.is ∙ sym (append_assoc gone split.before (v ∷ split.after))

  ascends : Ascends rules ((gone ++ split.before) ++ v ∷ split.after)
  ascends = subst (Ascends rules) order_split (order_ascends rules)

  in_rest : (u : ℕ) → is_among rest u ≡ (is_among split.before u || (eqb v u || is_among split.after u))
  in_rest u = ap (λ (vs : List ℕ). is_among vs u) split.is ∙ among_both split.before (v ∷ split.after) u

  comes_first : (u : ℕ) → is_among split.before u ≡ true → comes_before rules u v ≡ true
  comes_first u there =
      each_among (λ w. comes_before rules w v ≡ true) (gone ++ split.before) u (gone_before rules v (gone ++ split.before) split.after ascends)
      (among_both gone split.before u ∙ or_right (is_among gone u) (is_among split.before u) there)

  candidates : AllByRecursion (IsCandidate rules) (x ∷ new)
  candidates = recursion_from_All (IsCandidate rules) (x ∷ new) (All-permutation (IsCandidate rules) old (x ∷ new) permuted (All-from_recursion (IsCandidate rules) old waiting.each))

  never_before : (u : ℕ) (item : HasItem old u) → comes_before rules u v ≡ false
  never_before u item =
      subst (λ (w : ℕ). comes_before rules w v ≡ false) item.is
      (sym (nodes_in_order rules item.item x (each_at (IsCandidate rules) old item.place item.item item.there waiting.each) candidates.0)
      ∙ each_at (λ other. is_tried_before other x ≡ false) old item.place item.item item.there first)

  unready_before : (u : ℕ) → is_among split.before u ≡ true → is_ready rules rest missing u ≡ false
  unready_before u there =
      false_from_ne_true (is_ready rules rest missing u) (λ ready.
      let listed = item_of_times old u (omega (arith, waiting.once u, ap one_if ready)) in
      let never = never_before u listed in
      let before = comes_first u there in
      absurd (cc))

  unfree_before : (u : ℕ) → is_among split.before u ≡ true → is_free rules missing u ≡ false
  unfree_before u there =
      false_from_ne_true (is_free rules missing u) (λ free.
      let in' = in_rest u ∙ or_left (is_among split.before u) (eqb v u || is_among split.after u) there in
      let ready = and_from (is_among rest u) (is_free rules missing u) in' free in
      let never = unready_before u there in
      absurd (cc))

  passed_before : (u : ℕ) → is_among split.before u ≡ true → is_tried rules set u ≡ false
  passed_before u there =
      untried rules missing set u tell (node_in_rest rules gone rest u order (in_rest u ∙ or_left (is_among split.before u) (eqb v u || is_among split.after u) there)) (unfree_before u there)

  behind : is_among split.after v ≡ false
  behind = not_behind rules v (gone ++ split.before) split.after ascends

  in_after : (u : ℕ) → (v ≡ u → ⊥) → is_among split.before u ≡ false → is_among rest u ≡ is_among split.after u
  in_after u apart not_before = in_rest u ∙ ap (λ (t : Bool). t || (eqb v u || is_among split.after u)) not_before ∙ ap (λ (t : Bool). t || is_among split.after u) (ne_eqb v u apart)

  same_ready : (u : ℕ) → (v ≡ u → ⊥) → is_ready rules rest missing u ≡ is_ready rules split.after missing u
  same_ready u apart =
      elim (cases_Bool (is_free rules missing u)) [
        | inl free ↦ ap (λ (t : Bool). t && is_free rules missing u) (in_after u apart (false_from_ne_true (is_among split.before u) (λ there. let never = unfree_before u there in absurd (cc))))
        | inr never ↦ and_right (is_among rest u) (is_free rules missing u) never ∙ sym (and_right (is_among split.after u) (is_free rules missing u) never)
      ]

  once_now : (u : ℕ) → times_of new u ≡ one_if (is_ready rules split.after missing u)
  once_now u =
      elim (cases_eq v u) [
        | inl same ↦ subst (λ (w : ℕ). times_of new w ≡ one_if (is_ready rules split.after missing w)) same
            (let none = ap one_if (and_left (is_among split.after v) (is_free rules missing v) behind) in omega (arith, old_times v, one_of_same v v refl, waiting.once v, ap one_if ready_here))
        | inr apart ↦ omega (arith, old_times u, one_of_apart v u apart, waiting.once u, ap one_if (same_ready u apart))
      ]

  free_here : is_free rules missing v ≡ true
  free_here = (and_parts (is_among rest v) (is_free rules missing v) ready_here).1

  pub taken : IsTaken rules rest missing set new v
  taken =
      let both = and_parts (is_wanted rules v) (has_parents rules.mesh.index.fields set v) (free_tells rules missing set v tell (node_in_rest rules gone rest v order among_here) ∙ free_here) in
      record {
        before = split.before;
        after = split.after;
        split = split.is;
        are_passed = each_listed (λ u. is_tried rules set u ≡ false) split.before passed_before;
        node = node_in_rest rules gone rest v order among_here;
        among = among_here;
        later = λ u there. in_rest u ∙ or_right (is_among split.before u) (eqb v u || is_among split.after u) (or_right (eqb v u) (is_among split.after u) there);
        wanted = both.0;
        parents = both.1;
        waiting = record { each = candidates.1; once = once_now };
      }

-- ---- no candidate is left

pub none_ready : (rules : Rules) (rest missing : List ℕ) (set : List Bool) (gone : List ℕ) → IsWaiting rules rest missing [] → node_order rules ≡ gone ++ rest → TellMissing rules missing set → ArePassed rules set rest
none_ready rules rest missing set gone waiting order tell = each_listed (λ u. is_tried rules set u ≡ false) rest passed
  where
    unfree : (u : ℕ) → is_among rest u ≡ true → is_free rules missing u ≡ false
    unfree u there =
        false_from_ne_true (is_free rules missing u) (λ free.
        let ready = and_from (is_among rest u) (is_free rules missing u) there free in
        absurd (omega (arith, times_none u, waiting.once u, ap one_if ready)))

    passed : (u : ℕ) → is_among rest u ≡ true → is_tried rules set u ≡ false
    passed u there = untried rules missing set u tell (node_in_rest rules gone rest u order there) (unfree u there)
