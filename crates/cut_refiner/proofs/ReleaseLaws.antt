-- The candidates are the nodes that are ready, each once: one patch less is missing.
use Rattle.std.proofs.Common.{◌≡◌, ◌≢◌, ℕ, zero, suc, ◌+◌, ◌<◌, ◌≤◌, Bool, true, false, not, ◌&&◌, eqb, List, [], ◌∷◌, ◌++◌, length, Some, refl, sym, ap, subst, ◌∙◌, arith, inl, inr}
use Rattle.std.specs.Prelude.{slice_get, slice_index, slice_set}
use Rattle.std.specs.List.{AllByRecursion}
use Rattle.std.specs.List.Sorted.{IsPermutation}
use Rattle.std.proofs.lemmas.Bool.{cases_eq, cases_lt, eq-eqb, ne_eqb, and_from, and_left, and_right}
use Rattle.std.proofs.lemmas.List.{get_or-set_other}
use Rattle.std.proofs.lemmas.List.Elements.{All-from_recursion, recursion_from_All}
use Rattle.std.proofs.lemmas.List.Sorted.{All-permutation}
use Rattle.mesh_model.specs.Nets.{one_if}
use Rattle.mesh_model.specs.Graph.{is_sink}
use Rattle.mesh_model.specs.Meshes.{MeshLists}
use Rattle.round_model.specs.Order.{Rules, score, level, node_order}
use Rattle.round_model.specs.Rounds.{is_wanted}
use Rattle.mesh_laws.specs.Each.{each_from_places}
use Rattle.cut_refiner.specs.declared.candidates.Candidate.{Candidate}
use Rattle.round_laws.specs.Among.{is_among}
use Rattle.cut_refiner.specs.RefinementStates.{IsCandidate, times_of, is_ready, IsWaiting}
use Rattle.cut_refiner.proofs.ReadyLaws.{times_cons, times_none, times_permuted, one_of_same, one_of_apart, is_free, node_in_rest}

-- a node that misses a patch is no candidate
unready : (rules : Rules) (rest missing : List ℕ) (v : ℕ) → 0 < slice_index missing v → is_ready rules rest missing v ≡ false
unready rules rest missing v missed = and_right (is_among rest v) (is_free rules missing v) (and_right (is_wanted rules v) (eqb (slice_index missing v) 0) (ne_eqb (slice_index missing v) 0 (λ same. omega arith)))

pub no_candidate : (rules : Rules) (rest missing : List ℕ) (items : List Candidate) (v : ℕ) → IsWaiting rules rest missing items → 0 < slice_index missing v → times_of items v ≡ 0
no_candidate rules rest missing items v waiting missed = waiting.once v ∙ ap one_if (unready rules rest missing v missed)

-- but for the node as many patches are missing as before
abbrev pub IsOfOthers : List ℕ → List ℕ → ℕ → Type 0
IsOfOthers missing fewer v = (u : ℕ) → (v ≡ u → ⊥) → slice_index fewer u ≡ slice_index missing u

pub others_of_set : (missing : List ℕ) (v n : ℕ) → IsOfOthers missing (slice_set missing v n) v
others_of_set missing v n u apart = let other : u ≢ v = λ same. apart (sym same) in get_or-set_other missing v u n 0 other

module _ (rules : Rules) (rest missing fewer : List ℕ) (items : List Candidate) (v : ℕ) (others : IsOfOthers missing fewer v) (waiting : IsWaiting rules rest missing items) (missed : 0 < slice_index missing v) where
  other_ready : (u : ℕ) → (v ≡ u → ⊥) → is_ready rules rest missing u ≡ is_ready rules rest fewer u
  other_ready u apart = ap (λ n. is_among rest u && (is_wanted rules u && eqb n 0)) (sym (others u apart))

  none_here : times_of items v ≡ 0
  none_here = no_candidate rules rest missing items v waiting missed

  kept : is_ready rules rest fewer v ≡ false → IsWaiting rules rest fewer items
  kept never = record {
    each = waiting.each;
    once = λ u. elim (cases_eq v u) [
      | inl same ↦ subst (λ (w : ℕ). times_of items w ≡ one_if (is_ready rules rest fewer w)) same (none_here ∙ sym (ap one_if never))
      | inr apart ↦ waiting.once u ∙ ap one_if (other_ready u apart)
    ];
  }

  put : (c : Candidate) (new : List Candidate) → c.node.0 ≡ v → IsCandidate rules c → IsPermutation (c ∷ items) new → is_ready rules rest fewer v ≡ true → IsWaiting rules rest fewer new
  put c new is candidate permuted ready = record {
    each = recursion_from_All (IsCandidate rules) new (All-permutation (IsCandidate rules) (c ∷ items) new permuted (All-from_recursion (IsCandidate rules) (c ∷ items) (candidate, waiting.each)));
    once = λ u. elim (cases_eq v u) [
      | inl same ↦ subst (λ (w : ℕ). times_of new w ≡ one_if (is_ready rules rest fewer w)) same
          (omega (arith, times_permuted (c ∷ items) new v permuted, times_cons c items v, one_of_same c.node.0 v is, none_here, ap one_if ready))
      | inr apart ↦ omega (arith, times_permuted (c ∷ items) new u permuted, times_cons c items u, one_of_apart c.node.0 u (λ same. apart (sym is ∙ same)), waiting.once u, ap one_if (other_ready u apart))
    ];
  }

  -- the node is a candidate now
  pub released : (c : Candidate) (new : List Candidate) (sink : Bool) → is_among rest v ≡ not sink → slice_index fewer v ≡ 0 → sink ≡ false → is_wanted rules v ≡ true → c.node.0 ≡ v → IsCandidate rules c → IsPermutation (c ∷ items) new → IsWaiting rules rest fewer new
  released c new sink among none inner wanted is candidate permuted =
      put c new is candidate permuted
      (and_from (is_among rest v) (is_free rules fewer v) (among ∙ ap not inner) (and_from (is_wanted rules v) (eqb (slice_index fewer v) 0) wanted (eq-eqb (slice_index fewer v) 0 none)))

  -- patches are still missing
  pub still_misses : (slice_index fewer v ≡ 0 → ⊥) → IsWaiting rules rest fewer items
  still_misses some = kept (and_right (is_among rest v) (is_free rules fewer v) (and_right (is_wanted rules v) (eqb (slice_index fewer v) 0) (ne_eqb (slice_index fewer v) 0 some)))

  -- a sink is no candidate
  pub is_a_sink : (sink : Bool) → is_among rest v ≡ not sink → sink ≡ true → IsWaiting rules rest fewer items
  is_a_sink sink among is = kept (and_left (is_among rest v) (is_free rules fewer v) (among ∙ ap not is))

  -- nor is a node that isn't wanted
  pub is_unwanted : is_wanted rules v ≡ false → IsWaiting rules rest fewer items
  is_unwanted unwanted = kept (and_right (is_among rest v) (is_free rules fewer v) (and_left (is_wanted rules v) (eqb (slice_index fewer v) 0) unwanted))

-- ---- there is room for one more

-- the sum of a number for each node below n
sum_below : ℕ → (ℕ → ℕ) → ℕ
sum_below zero g = 0
sum_below (suc n) g = sum_below n g + g n

below_adds : (n : ℕ) (f g h : ℕ → ℕ) → ((u : ℕ) → f u ≡ g u + h u) → sum_below n f ≡ sum_below n g + sum_below n h
unfolding sum_below
below_adds zero f g h is = refl
below_adds (suc n) f g h is = omega (arith, below_adds n f g h is, is n)

below_zero : (n : ℕ) (g : ℕ → ℕ) → ((u : ℕ) → u < n → g u ≡ 0) → sum_below n g ≡ 0
unfolding sum_below
below_zero zero g none = refl
below_zero (suc n) g none = omega (arith, below_zero n g (λ u less. none u (omega arith)), none n (omega arith))

below_one : (n v : ℕ) → v < n → sum_below n (λ u. one_if (eqb v u)) ≡ 1
unfolding sum_below
below_one zero v less = absurd (omega arith)
below_one (suc n) v less =
    elim (cases_eq v n) [
      | inl same ↦ omega (arith, one_of_same v n same, below_zero n (λ u. one_if (eqb v u)) (λ u within. one_of_apart v u (λ equal. omega arith)))
      | inr apart ↦ omega (arith, one_of_apart v n apart, below_one n v (under apart))
    ]
  where
    under : (v ≡ n → ⊥) → v < n
    under apart = elim (cases_lt v n) [ inl within ↦ within | inr past ↦ absurd (apart (omega arith)) ]

below_most : (n : ℕ) (g : ℕ → ℕ) → ((u : ℕ) → g u ≤ 1) → sum_below n g ≤ n
unfolding sum_below
below_most zero g most = omega arith
below_most (suc n) g most = omega (arith, below_most n g most, most n)

below_less : (n : ℕ) (g : ℕ → ℕ) (v : ℕ) → ((u : ℕ) → g u ≤ 1) → v < n → g v ≡ 0 → sum_below n g < n
unfolding sum_below
below_less zero g v most less none = absurd (omega arith)
below_less (suc n) g v most less none =
    elim (cases_eq v n) [
      | inl same ↦ let here = ap g same in omega (arith, below_most n g most)
      | inr apart ↦ omega (arith, below_less n g v most (under apart) none, most n)
    ]
  where
    under : (v ≡ n → ⊥) → v < n
    under apart = elim (cases_lt v n) [ inl within ↦ within | inr past ↦ absurd (apart (omega arith)) ]

items_below : (n : ℕ) (items : List Candidate) → AllByRecursion (λ (c : Candidate). c.node.0 < n) items → sum_below n (times_of items) ≡ length items
items_below n [] all = below_zero n (times_of []) (λ u less. times_none u)
items_below n (c ∷ items) all =
    omega (arith, below_adds n (times_of (c ∷ items)) (λ u. one_if (eqb c.node.0 u)) (times_of items) (times_cons c items), below_one n c.node.0 all.0, items_below n items all.1)

times_at : (items : List Candidate) (k : ℕ) (c : Candidate) → slice_get items k ≡ Some c → 1 ≤ times_of items c.node.0
times_at [] k c h = absurd (cc)
times_at (d ∷ items) zero c h = omega (arith, times_cons d items c.node.0, one_of_same d.node.0 c.node.0 (ap (λ (x : Candidate). x.node.0) (same h)))
  where
    same : Some d ≡ Some c → d ≡ c
    same e = cc
times_at (d ∷ items) (suc k) c h = omega (arith, times_cons d items c.node.0, times_at items k c h)

one_at_most : (t : Bool) → one_if t ≤ 1
one_at_most true = omega arith
one_at_most false = omega arith

among_from : (t : Bool) (u : Bool) → 1 ≤ one_if (t && u) → t ≡ true
among_from true u h = refl
among_from false u h = absurd (omega arith)

-- where a node isn't a candidate there are fewer than nodes
pub few_candidates : (rules : Rules) (rest missing gone : List ℕ) (items : List Candidate) (v : ℕ) → IsWaiting rules rest missing items → node_order rules ≡ gone ++ rest → v < length rules.mesh.index.nodes → times_of items v ≡ 0 → length items < length rules.mesh.index.nodes
few_candidates rules rest missing gone items v waiting order node none =
    let n = length rules.mesh.index.nodes in
    let nodes = each_from_places (λ (c : Candidate). c.node.0 < n) items (λ k c there.
    node_in_rest rules gone rest c.node.0 order (among_from (is_among rest c.node.0) (is_free rules missing c.node.0) (omega (arith, times_at items k c there, waiting.once c.node.0)))) in
    omega (arith, items_below n items nodes, below_less n (times_of items) v (λ u. omega (arith, waiting.once u, one_at_most (is_ready rules rest missing u))) node none)

-- ---- what the code says of a candidate

pub candidate_is : (rules : Rules) (c : Candidate) (v : ℕ) → c.score ≡ score rules v → c.level.0 ≡ level rules v → c.node.0 ≡ v → IsCandidate rules c
candidate_is rules c v scored levelled node = record { scored = scored ∙ ap (score rules) (sym node); levelled = levelled ∙ ap (level rules) (sym node) }

pub sink_is : (rules : Rules) (mesh : MeshLists) (v : ℕ) (r : Bool) → mesh ≡ rules.mesh → r ≡ is_sink mesh.index.fields v → is_sink rules.mesh.index.fields v ≡ r
sink_is rules mesh v r same is = ap (λ (m : MeshLists). is_sink m.index.fields v) (sym same) ∙ sym is
