-- What the lists of patches of all nodes say.
use Rattle.std.proofs.Common.{◌≡◌, ℕ, zero, suc, ◌+◌, ◌<◌, ◌≤◌, true, false, List, [], ◌∷◌, ◌++◌, Option, Some, None, length, get_or, take, drop, map, arith, sym, ◌∙◌, ap, subst, refl}
use Rattle.std.specs.List.{slice_get, Contains, range_with_len}
use Rattle.std.specs.Prelude.{All, MatchOption, option_map, unwrap_or, is_some}
use Rattle.std.proofs.lemmas.Bool.{eqb-true, eq-eqb}
use Rattle.std.proofs.lemmas.List.Elements.{Contains-get_or, Contains-push, All-map, All-contains}
use Rattle.std.proofs.lemmas.List.{take_more, map-append, append_assoc, get_or_append_left, length_push, length-take, length-append, length-drop}
use Rattle.std.proofs.lemmas.List.FromFn.{length-range_with_len, get_or-range_with_len}
use Rattle.std.proofs.lemmas.Option.{slice_get_within, slice_get-get_or}
use Rattle.file_model.specs.declared.fields.PatchField.{PatchField}
use Rattle.mesh_model.specs.Chosen.{chosen_few}
use Rattle.mesh_model.specs.declared.sides.NodeSide.{NodeSide}
use Rattle.mesh_model.specs.declared.sides.NodeSide.TheVariants.{Incoming, Outgoing}
use Rattle.mesh_model.specs.Sides.{node_on, is_on}
use Rattle.mesh_graph.specs.Sides.{patches_at}
use Rattle.mesh_graph.specs.Adjacency.{IsAdjacency}
use Rattle.mesh_graph.specs.Chains.{HaveNodes}
use Rattle.mesh_graph.specs.Levels.{IsOpen, HasOpenParent, AreLevels, IsLevelOver, IsNextLevel, head_of}
use Rattle.mesh_graph.proofs.LevelLaws.{IsPassing, passing_from, among_from, level_from_over, room_over}

abbrev no_field : PatchField
no_field = record { tail = 0; head = 0; points = 0; triangles = 0 }

-- a node's list has its patches
pub list_is : (side : NodeSide) (fields : List PatchField) (nodes : ℕ) (lists : List (List ℕ)) (v : ℕ) (ps : List ℕ) → IsAdjacency side fields nodes lists → v < nodes → slice_get lists v ≡ Some ps → ps ≡ patches_at side fields v
list_is side fields nodes lists v ps arcs v_in is = let e : Some ps ≡ Some (patches_at side fields v) = sym is ∙ arcs.each v v_in in cc

-- a patch of a node's list
pub record IsAmong (side : NodeSide) (fields : List PatchField) (v p : ℕ) : Type 0 where
  pub field : PatchField
  pub there : slice_get fields p ≡ Some field
  pub on : node_on side field ≡ v

pub among : (side : NodeSide) (fields : List PatchField) (v p : ℕ) → Contains (patches_at side fields v) p → IsAmong side fields v p
among side fields v p h =
    let is : IsPassing (is_on side v) fields 0 p = passing_from (is_on side v) fields 0 p h in
    let place : p ≡ is.place = omega (arith, is.number) in
    record {
      field = is.field;
      there = ap (slice_get fields) place ∙ is.there;
      on = eqb-true (node_on side is.field) v is.passes;
    }

pub in_range : (side : NodeSide) (fields : List PatchField) (v : ℕ) → All (λ p. p < length fields) (patches_at side fields v)
in_range side fields v k d k_in =
    let is : IsAmong side fields v (get_or (patches_at side fields v) k d) = among side fields v (get_or (patches_at side fields v) k d) (Contains-get_or (patches_at side fields v) k d k_in) in
    slice_get_within fields (get_or (patches_at side fields v) k d) is.field is.there

pub list_in_range : (side : NodeSide) (fields : List PatchField) (nodes : ℕ) (lists : List (List ℕ)) (v : ℕ) (ps : List ℕ) → IsAdjacency side fields nodes lists → v < nodes → slice_get lists v ≡ Some ps → All (λ p. p < length fields) ps
list_in_range side fields nodes lists v ps arcs v_in is = rw (list_is side fields nodes lists v ps arcs v_in is) (in_range side fields v)

-- a node has no more patches than there are
pub list_few : (side : NodeSide) (fields : List PatchField) (nodes : ℕ) (lists : List (List ℕ)) (v : ℕ) (ps : List ℕ) → IsAdjacency side fields nodes lists → v < nodes → slice_get lists v ≡ Some ps → length ps ≤ length fields
list_few side fields nodes lists v ps arcs v_in is = rw (list_is side fields nodes lists v ps arcs v_in is) (chosen_few (is_on side v) fields)

-- an incoming patch from a node without a level
pub open_parent : (fields : List PatchField) (levels : List (Option ℕ)) (v p : ℕ) → Contains (patches_at Incoming fields v) p → IsOpen fields levels p → HasOpenParent fields levels v
open_parent fields levels v p h is_open =
    let is : IsAmong Incoming fields v p = among Incoming fields v p h in
    let same : is.field ≡ is_open.field = let s : Some is.field ≡ Some is_open.field = sym is.there ∙ is_open.there in cc in
    record {
      patch = p;
      field = is_open.field;
      there = is_open.there;
      leads = ap (λ (f : PatchField). f.head) (sym same) ∙ is.on;
      missing = is_open.missing;
    }

-- the answer for a node without a level is the one over its incoming patches
pub next_found : (fields : List PatchField) (levels : List (Option ℕ)) (v : ℕ) (result : Option ℕ) → slice_get levels v ≡ Some None → AreLevels fields levels
    → MatchOption result ((p : ℕ) × Contains (patches_at Incoming fields v) p × IsOpen fields levels p) (IsLevelOver fields levels (patches_at Incoming fields v))
    → MatchOption result (slice_get levels v ≡ Some None → HasOpenParent fields levels v) (IsNextLevel fields levels v)
next_found fields levels v None empty are (p, h, is_open) = λ _. open_parent fields levels v p h is_open
next_found fields levels v (Some level) empty are over = record {
  empty = empty;
  is = level_from_over fields levels v level are over;
  room = room_over fields levels (patches_at Incoming fields v) level are over;
}

pub head_is : (fields : List PatchField) (p : ℕ) (d : PatchField) → p < length fields → head_of fields p ≡ (get_or fields p d).head
head_is fields p d p_in = ap (λ (o : Option PatchField). unwrap_or (option_map (λ (f : PatchField). f.head) o) 0) (slice_get-get_or fields p d p_in)

contains-map : (h : ℕ → ℕ) (xs : List ℕ) (x : ℕ) → Contains xs x → Contains (map h xs) (h x)
contains-map h [] x (k, k_in, is) = absurd (omega arith)
contains-map h (y ∷ ys) x (zero, k_in, is) = (0, omega arith, ap h is)
contains-map h (y ∷ ys) x (suc k, k_in, is) =
    let later : Contains (map h ys) (h x) = contains-map h ys x (k, omega arith, is) in
    (suc later.0, omega (arith, later.1), later.2)

-- the heads of a node's outgoing patches stand among those of its list
pub heads_there : (fields : List PatchField) (v p : ℕ) (f : PatchField) → slice_get fields p ≡ Some f → f.tail ≡ v → Contains (map (head_of fields) (patches_at Outgoing fields v)) f.head
heads_there fields v p f there tail =
    let h : Contains (patches_at Outgoing fields v) p = among_from (is_on Outgoing v) fields 0 p p f (omega arith) there (eq-eqb f.tail v tail) in
    let head : head_of fields p ≡ f.head = ap (λ (o : Option PatchField). unwrap_or (option_map (λ (g : PatchField). g.head) o) 0) there in
    subst (λ (w : ℕ). Contains (map (head_of fields) (patches_at Outgoing fields v)) w) head (contains-map (head_of fields) (patches_at Outgoing fields v) p h)

-- the heads of patches are nodes
pub heads_in_range : (fields : List PatchField) (nodes : ℕ) (ps : List ℕ) → HaveNodes Incoming nodes fields → All (λ p. p < length fields) ps → All (λ v. v < nodes) (map (head_of fields) ps)
heads_in_range fields nodes ps heads all =
    All-map (λ v. v < nodes) (head_of fields) ps
    (λ k d k_in.
    let p_in : get_or ps k d < length fields = all k d k_in in
    let there : slice_get fields (get_or ps k d) ≡ Some (get_or fields (get_or ps k d) no_field) = slice_get-get_or fields (get_or ps k d) no_field p_in in
    rw (head_is fields (get_or ps k d) no_field p_in) (heads (get_or ps k d) (get_or fields (get_or ps k d) no_field) there))

pub all_range : (n : ℕ) → All (λ v. v < n) (range_with_len 0 n)
all_range n k d k_in =
    let h : k < n = omega (arith, length-range_with_len 0 n) in
    rw (get_or-range_with_len 0 n k d h) (omega arith)

pub range_contains_all : (n v : ℕ) → v < n → Contains (range_with_len 0 n) v
range_contains_all n v v_in = (v, omega (arith, length-range_with_len 0 n), get_or-range_with_len 0 n v v v_in ∙ (let e : 0 + v ≡ v = omega arith in e))

-- a list and what is mapped from the first elements of another, with one element more
pub heads_more : (h : ℕ → ℕ) (old now new ps : List ℕ) (i x : ℕ) → i < length ps → now ≡ old ++ map h (take i ps) → new ≡ now ++ x ∷ [] → x ≡ h (get_or ps i 0) → new ≡ old ++ map h (take (i + 1) ps)
heads_more h old now new ps i x i_in now_is new_is x_is =
    let more : map h (take (i + 1) ps) ≡ map h (take i ps) ++ x ∷ [] = ap (map h) (take_more ps i 0 i_in) ∙ map-append h (take i ps) (get_or ps i 0 ∷ []) ∙ ap (λ y. map h (take i ps) ++ y ∷ []) (sym x_is) in
    new_is ∙ ap (λ l. l ++ x ∷ []) now_is ∙ append_assoc old (map h (take i ps)) (x ∷ []) ∙ ap (λ l. old ++ l) (sym more)

-- the last of a list and those before it
pub all_before : (n : ℕ) (waiting rest : List ℕ) (v : ℕ) → waiting ≡ rest ++ v ∷ [] → All (λ u. u < n) waiting → (v < n) × All (λ u. u < n) rest
all_before n waiting rest v is all =
    let all_of : All (λ u. u < n) (rest ++ v ∷ []) = subst (λ (l : List ℕ). All (λ u. u < n) l) is all in (
      All-contains (λ u. u < n) (rest ++ v ∷ []) v all_of (Contains-push rest v),
      λ k d k_in. subst (λ (x : ℕ). x < n) (get_or_append_left rest (v ∷ []) d k k_in) (all_of k d (omega (arith, length_push rest v))),
    )

pub places_kept : (len : ℕ) (old new : List ℕ) → len ≡ length old → length new ≡ length old → length (take len (new ++ drop (length new) old)) ≡ length old
places_kept len old new len_is same = rw (length-take, length-append, length-drop) (omega arith)

-- an element of a list stands in an equal one
pub among_equal : (ps qs : List ℕ) (k : ℕ) → ps ≡ qs → k < length ps → Contains qs (get_or ps k 0)
among_equal ps qs k is k_in = subst (λ (l : List ℕ). Contains l (get_or ps k 0)) is (Contains-get_or ps k 0 k_in)

none_is : (o : Option ℕ) → false ≡ is_some o → o ≡ None
none_is None h = refl
none_is (Some x) h = absurd cc

pub empty_at : (levels : List (Option ℕ)) (v : ℕ) → v < length levels → false ≡ is_some (get_or levels v None) → slice_get levels v ≡ Some None
empty_at levels v v_in h = slice_get-get_or levels v None v_in ∙ ap Some (none_is (get_or levels v None) h)

pub empty_list : (xs : List ℕ) → (0 < length xs → false ≡ true) → xs ≡ []
empty_list [] h = refl
empty_list (x ∷ xs) h = let e : false ≡ true = h (omega arith) in absurd cc
