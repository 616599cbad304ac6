-- A round whose tries are all granted has each wanted node in its set, where these fit; and all its tries are of
-- wanted nodes.
use Rattle.std.proofs.Common.{◌≡◌, ℕ, zero, suc, ◌<◌, ◌≤◌, ◌⊎◌, Bool, true, false, not, ◌&&◌, ◌||◌, eqb, List, [], ◌∷◌, ◌++◌, length, replicate, Some, None, refl, sym, ap, subst, ◌∙◌, arith, append_assoc, append-nil, inl, inr}
use Rattle.std.specs.Prelude.{slice_get}
use Rattle.std.specs.List.{AllByRecursion, list_any, list_all}
use Rattle.std.proofs.lemmas.Bool.{cond_both, cond-true, cases_Bool, cases_eq, both_ways, and_from, or_cases, or_left, or_right, or_from, eqb-true, eq-eqb, le-leb, ltb-true, lt-ltb, not_from_false, false_from_ne_true}
use Rattle.std.proofs.lemmas.List.{length-replicate}
use Rattle.file_model.specs.declared.fields.PatchField.{PatchField}
use Rattle.file_model.specs.declared.fields.Try.{Try}
use Rattle.file_model.specs.Tries.{is_odd}
use Rattle.mesh_model.specs.Graph.{leads_to, leads_from, is_root, is_sink, outgoing}
use Rattle.mesh_model.specs.Meshes.{IsMesh}
use Rattle.round_model.specs.Order.{Rules, score, level, comes_before, node_order}
use Rattle.round_model.specs.Tries.{Verdict, Granted, Refused, OpenAt, Tried, with_try, tried_patches}
use Rattle.round_model.specs.Rounds.{RoundState, has, with_member, frame_size, is_wanted, has_parents, is_within_limit, is_tried, after_verdict, after_tries, round_from, root_set, round_of}
use Rattle.mesh_laws.specs.Each.{each_then, each_at}
use Rattle.mesh_laws.specs.Ends.{HasEnds, each_has_ends}
use Rattle.mesh_laws.specs.Roots.{only_root_from_roots}
use Rattle.round_laws.specs.Before.{decides_before}
use Rattle.round_laws.specs.Answers.{try_of, refused_at}
use Rattle.round_laws.specs.Ascending.{Ascends, IsInnerNode, order_ascends, order_is_inner, order_has}
use Rattle.round_laws.specs.Members.{still_has, has_member, as_many_members}
use Rattle.round_laws.specs.Passing.{passes, rest_behind}
use Rattle.round_laws.specs.Among.{is_among, among_both, among_at, each_among, each_listed}
use Rattle.round_laws.specs.Parents.{FallsAlong, inner_parent_first}
use Rattle.round_laws.specs.Cuts.{root_set_has, joining_from_test}
use Rattle.round_laws.specs.Arcs.{among_outgoing, passing_at}
use Rattle.round_laws.specs.Wanted.{with_members, AreWanted, FitsWanted, AreGranted, IsOfWanted}

-- ---- lists

parts_of : {X : Type 0} (P : X → Type 0) (xs ys : List X) → AllByRecursion P (xs ++ ys) → AllByRecursion P xs × AllByRecursion P ys
parts_of P [] ys all = (tt, all)
parts_of P (x ∷ xs) ys all = let rest = parts_of P xs ys all.1 in ((all.0, rest.0), rest.1)

each_joined : {X : Type 0} (P : X → Type 0) (xs ys : List X) → AllByRecursion P xs → AllByRecursion P ys → AllByRecursion P (xs ++ ys)
each_joined P [] ys first second = second
each_joined P (x ∷ xs) ys first second = (first.0, each_joined P xs ys first.1 second)

any_at : (test : PatchField → Bool) (fields : List PatchField) (p : ℕ) (f : PatchField) → slice_get fields p ≡ Some f → test f ≡ true → list_any test fields ≡ true
any_at test [] p f here passes = absurd (cc)
any_at test (g ∷ gs) zero f here passes = or_left (test g) (list_any test gs) (subst (λ (h : PatchField). test h ≡ true) (same here) passes)
  where
    same : Some g ≡ Some f → f ≡ g
    same e = cc
any_at test (g ∷ gs) (suc p) f here passes = or_right (test g) (list_any test gs) (any_at test gs p f here passes)

all_at : (test : PatchField → Bool) (fields : List PatchField) → ((p : ℕ) (f : PatchField) → slice_get fields p ≡ Some f → test f ≡ true) → list_all test fields ≡ true
all_at test [] each = refl
all_at test (f ∷ fs) each = and_from (test f) (list_all test fs) (each 0 f refl) (all_at test fs (λ p g here. each (suc p) g here))

middle_at : (first rest : List ℕ) (v : ℕ) → slice_get (first ++ v ∷ rest) (length first) ≡ Some v
middle_at [] rest v = refl
middle_at (u ∷ first) rest v = middle_at first rest v

front_among : (first rest : List ℕ) (i u : ℕ) → i < length first → slice_get (first ++ rest) i ≡ Some u → is_among first u ≡ true
front_among [] rest i u less at = absurd (omega arith)
front_among (w ∷ first) rest zero u less at = or_left (eqb w u) (is_among first u) (eq-eqb w u (same at))
  where
    same : Some w ≡ Some u → w ≡ u
    same e = cc
front_among (w ∷ first) rest (suc i) u less at = or_right (eqb w u) (is_among first u) (front_among first rest i u (omega arith) at)

-- ---- a set with members

members_more : (set : List Bool) (first : List ℕ) (v : ℕ) → with_members set (first ++ v ∷ []) ≡ with_member (with_members set first) v
unfolding with_members
members_more set [] v = refl
members_more set (u ∷ first) v = members_more (with_member set u) first v

members_keep : (set : List Bool) (first : List ℕ) (u : ℕ) → has set u ≡ true → has (with_members set first) u ≡ true
unfolding with_members
members_keep set [] u had = had
members_keep set (v ∷ first) u had = members_keep (with_member set v) first u (still_has set v u had)

members_have : (set : List Bool) (first : List ℕ) (u : ℕ) → u < length set → is_among first u ≡ true → has (with_members set first) u ≡ true
unfolding with_members
members_have set [] u within there = absurd (cc)
members_have set (v ∷ first) u within there =
    elim (or_cases (eqb v u) (is_among first u) there) [
      | inl here ↦ members_keep (with_member set v) first u (subst (λ (w : ℕ). has (with_member set w) u ≡ true) (sym (eqb-true v u here)) (has_member set u within))
      | inr later ↦ members_have (with_member set v) first u (subst (λ (n : ℕ). u < n) (sym (as_many_members set v)) within) later
    ]

root_set_many : (rules : Rules) → length (root_set rules) ≡ length rules.mesh.index.nodes
unfolding root_set
root_set_many rules = as_many_members (replicate (length rules.mesh.index.nodes) false) rules.mesh.root ∙ length-replicate (length rules.mesh.index.nodes) false

-- ---- a wanted node is tried

-- the first nodes of the order, then these; the first are all wanted, and in the set beside the root
record IsAt (rules : Rules) (first rest : List ℕ) (set : List Bool) : Type 0 where
  order : node_order rules ≡ first ++ rest
  members : set ≡ with_members (root_set rules) first
  wanted : AreWanted rules first

has_first : (rules : Rules) (first rest : List ℕ) (set : List Bool) (u : ℕ) → IsAt rules first rest set → IsInnerNode rules u → is_among first u ≡ true → has set u ≡ true
has_first rules first rest set u at inner there =
    subst (λ (s : List Bool). has s u ≡ true) (sym at.members)
    (members_have (root_set rules) first u (subst (λ (n : ℕ). u < n) (sym (root_set_many rules)) inner.node) there)

has_root : (rules : Rules) (first rest : List ℕ) (set : List Bool) → IsMesh rules.mesh → IsAt rules first rest set → has set rules.mesh.root ≡ true
has_root rules first rest set mesh at =
    subst (λ (s : List Bool). has s rules.mesh.root ≡ true) (sym at.members)
    (members_keep (root_set rules) first rules.mesh.root (root_set_has rules mesh rules.mesh.root ∙ eq-eqb rules.mesh.root rules.mesh.root refl))

-- a tail other than the root is an inner node
tail_is_inner : (rules : Rules) → IsMesh rules.mesh → (p : ℕ) (f : PatchField) → slice_get rules.mesh.index.fields p ≡ Some f → (rules.mesh.root ≡ f.tail → ⊥) → IsInnerNode rules f.tail
tail_is_inner rules mesh p f here apart =
    let fields = rules.mesh.index.fields in
    let ends = each_at (HasEnds (length rules.mesh.index.nodes)) fields p f here (each_has_ends rules.mesh.index mesh.rules) in
    let root = only_root_from_roots (length rules.mesh.index.nodes) fields rules.mesh.root mesh.graph.one_root in
    let leads : list_any (leads_from f.tail) fields ≡ true = any_at (leads_from f.tail) fields p f here (eq-eqb f.tail f.tail refl) in
    record {
      node = ends.tail;
      inner = not_from_false (is_root fields f.tail || is_sink fields f.tail)
          (or_from (is_root fields f.tail) (is_sink fields f.tail) (root.others f.tail ends.tail apart) (ap (λ (b : Bool). not b) leads));
    }

parent_is_in : (rules : Rules) (first rest : List ℕ) (set : List Bool) (v p : ℕ) (f : PatchField) → IsMesh rules.mesh → FallsAlong rules → IsAt rules first (v ∷ rest) set → slice_get rules.mesh.index.fields p ≡ Some f → f.head ≡ v → has set f.tail ≡ true
parent_is_in rules first rest set v p f mesh falls at here head =
    elim (cases_eq rules.mesh.root f.tail) [
      | inl same ↦ subst (λ (u : ℕ). has set u ≡ true) same (has_root rules first (v ∷ rest) set mesh at)
      | inr apart ↦
          let inner = tail_is_inner rules mesh p f here apart in
          let stands : slice_get (node_order rules) (length first) ≡ Some f.head = ap (λ (vs : List ℕ). slice_get vs (length first)) at.order ∙ middle_at first rest v ∙ ap (λ (w : ℕ). Some w) (sym head) in
          let place = inner_parent_first rules mesh falls p f here inner.inner (length first) stands in
          has_first rules first (v ∷ rest) set f.tail at inner
          (front_among first (v ∷ rest) place.0 f.tail place.1 (sym (ap (λ (vs : List ℕ). slice_get vs place.0) at.order) ∙ place.2))
    ]

-- the next stand, with the node in the set
joined : (rules : Rules) (first rest : List ℕ) (set : List Bool) (v : ℕ) → IsAt rules first (v ∷ rest) set → is_wanted rules v ≡ true → IsAt rules (first ++ v ∷ []) rest (with_member set v)
joined rules first rest set v at wanted = record {
  order = at.order ∙ sym (append_assoc first (v ∷ []) rest);
  members = ap (λ (s : List Bool). with_member s v) at.members ∙ sym (members_more (root_set rules) first v);
  wanted = each_joined (λ u. is_wanted rules u ≡ true) first (v ∷ []) at.wanted (wanted, tt);
}

wanted_is_tried : (rules : Rules) (first rest : List ℕ) (set : List Bool) (v : ℕ) → IsMesh rules.mesh → FallsAlong rules → FitsWanted rules → IsAt rules first (v ∷ rest) set → is_wanted rules v ≡ true → is_tried rules set v ≡ true
wanted_is_tried rules first rest set v mesh falls fits at wanted =
    let fields = rules.mesh.index.fields in
    let next = joined rules first rest set v at wanted in
    let within : frame_size (has (with_member set v)) fields ≤ rules.limit =
    subst (λ (s : List Bool). frame_size (has s) fields ≤ rules.limit) (sym next.members) (fits.fits (first ++ v ∷ []) rest next.order next.wanted) in
    let parents : has_parents fields set v ≡ true = all_at (λ (f : PatchField). not (leads_to v f) || has set f.tail) fields (λ p f here.
    elim (cases_Bool (leads_to v f)) [
      | inl leads ↦ or_right (not (leads_to v f)) (has set f.tail) (parent_is_in rules first rest set v p f mesh falls at here (eqb-true f.head v leads))
      | inr never ↦ or_left (not (leads_to v f)) (has set f.tail) (not_from_false (leads_to v f) never)
    ]) in
    and_from (is_wanted rules v && has_parents fields set v) (is_within_limit rules set v)
    (and_from (is_wanted rules v) (has_parents fields set v) wanted parents)
    (le-leb (frame_size (has (with_member set v)) fields) rules.limit within)

-- ---- the tries of a round

verdict_kept : (set : List Bool) (tries : List Try) (v : ℕ) (tried : Tried) (rest : List Bool → List Try → List ℕ → RoundState) (verdict : Verdict) → ((s : List Bool) (t : List Try) (e : List ℕ) → AreGranted (rest s t e).tries → AreGranted t) → AreGranted (after_verdict set tries v tried rest verdict).tries → AreGranted (tries ++ tried.tries)
verdict_kept set tries v tried rest Granted go granted = go (with_member set v) (tries ++ tried.tries) tried.unused granted
verdict_kept set tries v tried rest Refused go granted = go set (tries ++ tried.tries) tried.unused granted
verdict_kept set tries v tried rest (OpenAt p) go granted = granted

-- the tries so far are among those of the round
tries_kept : (rules : Rules) (vs : List ℕ) (set : List Bool) (tries : List Try) (epochs : List ℕ) → AreGranted (round_from rules vs set tries epochs).tries → AreGranted tries
unfolding round_from
tries_kept rules [] set tries epochs granted = granted
tries_kept rules (v ∷ vs) set tries epochs granted =
    let tried = tried_patches (outgoing rules.mesh.index.fields v) epochs in
    cond_both (is_tried rules set v) (after_tries set tries v tried (λ s t e. round_from rules vs s t e)) (round_from rules vs set tries epochs) (λ (stand : RoundState). AreGranted stand.tries → AreGranted tries)
    (λ is all. (parts_of (λ (t : Try). is_odd t.epoch ≡ true) tries tried.tries (verdict_kept set tries v tried (λ s t e. round_from rules vs s t e) tried.verdict (λ s t e. tries_kept rules vs s t e) all)).0)
    (λ passed all. tries_kept rules vs set tries epochs all) granted

-- where a patch was refused a try wasn't granted
refused_is_even : (ps epochs : List ℕ) → (tried_patches ps epochs).verdict ≡ Refused → AreGranted (tried_patches ps epochs).tries → ⊥
unfolding tried_patches
refused_is_even [] epochs refused granted = absurd (cc)
refused_is_even (p ∷ ps) [] refused granted = absurd (cc)
refused_is_even (p ∷ ps) (e ∷ es) refused granted =
    cond_both (is_odd e) (with_try (try_of p e) (tried_patches ps es)) (refused_at p e es) (λ (t : Tried). t.verdict ≡ Refused → AreGranted t.tries → ⊥)
    (λ odd is all. refused_is_even ps es is all.1)
    (λ even is all. both_ways (is_odd e) even all.0) refused granted

-- ---- the round goes through all wanted nodes

-- a round that is through with all tries granted has the node in its set
abbrev Has : ℕ → RoundState → Type 0
Has u stand = stand.at ≡ None → AreGranted stand.tries → has stand.set u ≡ true

verdict_has : (rules : Rules) (vs : List ℕ) (set : List Bool) (tries : List Try) (v u : ℕ) (ps epochs : List ℕ) (verdict : Verdict) → (tried_patches ps epochs).verdict ≡ verdict → ((t : List Try) (e : List ℕ) → Has u (round_from rules vs (with_member set v) t e)) → Has u (after_verdict set tries v (tried_patches ps epochs) (λ s t e. round_from rules vs s t e) verdict)
verdict_has rules vs set tries v u ps epochs Granted is go through granted = go (tries ++ (tried_patches ps epochs).tries) (tried_patches ps epochs).unused through granted
verdict_has rules vs set tries v u ps epochs Refused is go through granted =
    absurd (refused_is_even ps epochs is
    (parts_of (λ (t : Try). is_odd t.epoch ≡ true) tries (tried_patches ps epochs).tries (tries_kept rules vs set (tries ++ (tried_patches ps epochs).tries) (tried_patches ps epochs).unused granted)).1)
verdict_has rules vs set tries v u ps epochs (OpenAt p) is go through granted = absurd (cc)

not_tried : (rules : Rules) (set : List Bool) (v : ℕ) → is_wanted rules v ≡ false → is_tried rules set v ≡ false
not_tried rules set v unwanted = ap (λ (b : Bool). (b && has_parents rules.mesh.index.fields set v) && is_within_limit rules set v) unwanted

-- no node behind one that isn't wanted is wanted
unwanted_behind : (rules : Rules) (v w : ℕ) → comes_before rules v w ≡ true → is_wanted rules v ≡ false → is_wanted rules w ≡ false
unwanted_behind rules v w before unwanted = false_from_ne_true (is_wanted rules w) (λ wanted. both_ways (is_wanted rules v) unwanted (more wanted ((decides_before rules v w).0 before)))
  where
    more : is_wanted rules w ≡ true → (score rules w < score rules v) ⊎ ((score rules v ≡ score rules w) × ((level rules v < level rules w) ⊎ ((level rules v ≡ level rules w) × (v < w)))) → is_wanted rules v ≡ true
    more wanted (inl less) = let above = ltb-true rules.threshold (score rules w) wanted in lt-ltb rules.threshold (score rules v) (omega arith)
    more wanted (inr even) = let above = ltb-true rules.threshold (score rules w) wanted in let same = even.0 in lt-ltb rules.threshold (score rules v) (omega arith)

none_wanted : (rules : Rules) (first rest : List ℕ) (v : ℕ) → node_order rules ≡ first ++ v ∷ rest → is_wanted rules v ≡ false → AllByRecursion (λ w. is_wanted rules w ≡ false) (v ∷ rest)
none_wanted rules first rest v order unwanted =
    let behind = (rest_behind rules v first rest (subst (Ascends rules) order (order_ascends rules))).0 in
    (unwanted, each_then (λ w. comes_before rules v w ≡ true) (λ w. is_wanted rules w ≡ false) rest (λ w before. unwanted_behind rules v w before unwanted) behind)

-- at a node that isn't wanted the round has all that are
rest_passes : (rules : Rules) (first rest : List ℕ) (set : List Bool) (tries : List Try) (epochs : List ℕ) (v u : ℕ) → IsAt rules first (v ∷ rest) set → is_wanted rules v ≡ false → IsInnerNode rules u → is_among (first ++ v ∷ rest) u ≡ true → is_wanted rules u ≡ true → Has u (round_from rules (v ∷ rest) set tries epochs)
unfolding round_from
rest_passes rules first rest set tries epochs v u at unwanted inner there wanted through granted =
    let none = none_wanted rules first rest v at.order unwanted in
    let passed = passes rules (v ∷ rest) [] set tries epochs (each_then (λ w. is_wanted rules w ≡ false) (λ w. is_tried rules set w ≡ false) (v ∷ rest) (not_tried rules set) none) in
    let same = ap (λ (vs : List ℕ). round_from rules vs set tries epochs) (append-nil (v ∷ rest)) in
    subst (λ (stand : RoundState). has stand.set u ≡ true) (sym passed ∙ same)
    (elim (or_cases (is_among first u) (is_among (v ∷ rest) u) (sym (among_both first (v ∷ rest) u) ∙ there)) [
      | inl front ↦ has_first rules first (v ∷ rest) set u at inner front
      | inr behind ↦ absurd (both_ways (is_wanted rules u) (each_among (λ w. is_wanted rules w ≡ false) (v ∷ rest) u none behind) wanted)
    ])

tried_goes_on : (rules : Rules) (set : List Bool) (tries : List Try) (epochs : List ℕ) (v u : ℕ) (vs : List ℕ) → is_tried rules set v ≡ true → Has u (after_tries set tries v (tried_patches (outgoing rules.mesh.index.fields v) epochs) (λ s t e. round_from rules vs s t e)) → Has u (round_from rules (v ∷ vs) set tries epochs)
unfolding round_from
tried_goes_on rules set tries epochs v u vs tried h =
    subst (Has u) (sym (cond-true (is_tried rules set v) (after_tries set tries v (tried_patches (outgoing rules.mesh.index.fields v) epochs) (λ s t e. round_from rules vs s t e)) (round_from rules vs set tries epochs) tried)) h

at_the_end : (rules : Rules) (set : List Bool) (tries : List Try) (epochs : List ℕ) (u : ℕ) → has set u ≡ true → Has u (round_from rules [] set tries epochs)
unfolding round_from
at_the_end rules set tries epochs u had through granted = had

from_full : (rules : Rules) (first rest : List ℕ) (set : List Bool) (tries : List Try) (epochs : List ℕ) (u : ℕ) → IsMesh rules.mesh → FallsAlong rules → FitsWanted rules → IsAt rules first rest set → IsInnerNode rules u → is_among (first ++ rest) u ≡ true → is_wanted rules u ≡ true → Has u (round_from rules rest set tries epochs)
from_full rules first [] set tries epochs u mesh falls fits at inner there wanted =
    at_the_end rules set tries epochs u (has_first rules first [] set u at inner (subst (λ (vs : List ℕ). is_among vs u ≡ true) (append-nil first) there))
from_full rules first (v ∷ rest) set tries epochs u mesh falls fits at inner there wanted =
    elim (cases_Bool (is_wanted rules v)) [
      | inr unwanted ↦ rest_passes rules first rest set tries epochs v u at unwanted inner there wanted
      | inl here ↦ tried_goes_on rules set tries epochs v u rest (wanted_is_tried rules first rest set v mesh falls fits at here)
          (verdict_has rules rest set tries v u (outgoing rules.mesh.index.fields v) epochs (tried_patches (outgoing rules.mesh.index.fields v) epochs).verdict refl
          (λ t e. from_full rules (first ++ v ∷ []) rest (with_member set v) t e u mesh falls fits (joined rules first rest set v at here) inner
          (subst (λ (vs : List ℕ). is_among vs u ≡ true) (sym (append_assoc first (v ∷ []) rest)) there) wanted))
    ]

pub full_round : (rules : Rules) (epochs : List ℕ) → IsMesh rules.mesh → FallsAlong rules → FitsWanted rules → (round_of rules epochs).at ≡ None → AreGranted (round_of rules epochs).tries → (v : ℕ) → IsInnerNode rules v → is_wanted rules v ≡ true → has (round_of rules epochs).set v ≡ true
unfolding round_of with_members
full_round rules epochs mesh falls fits through granted v inner wanted =
    let place = order_has rules v inner in
    from_full rules [] (node_order rules) (root_set rules) [] epochs v mesh falls fits (record { order = refl; members = refl; wanted = tt }) inner (among_at (node_order rules) place.0 v place.1) wanted through granted

-- ---- each try is of a wanted node

outgoing_of_wanted : (rules : Rules) (v : ℕ) → IsInnerNode rules v → is_wanted rules v ≡ true → AllByRecursion (IsOfWanted rules) (outgoing rules.mesh.index.fields v)
outgoing_of_wanted rules v inner wanted =
    let fields = rules.mesh.index.fields in
    each_listed (IsOfWanted rules) (outgoing fields v) (λ p there.
    let is = passing_at (leads_from v) fields p (sym (among_outgoing fields v p) ∙ there) in
    let same : v ≡ is.field.tail = sym (eqb-true is.field.tail v is.passes) in
    record {
      field = is.field;
      there = is.there;
      inner = subst (IsInnerNode rules) same inner;
      wanted = subst (λ (u : ℕ). is_wanted rules u ≡ true) same wanted;
    })

tried_of_wanted : (rules : Rules) (ps epochs : List ℕ) → AllByRecursion (IsOfWanted rules) ps → AllByRecursion (λ (t : Try). IsOfWanted rules t.patch) (tried_patches ps epochs).tries
unfolding tried_patches
tried_of_wanted rules [] epochs all = tt
tried_of_wanted rules (p ∷ ps) [] all = tt
tried_of_wanted rules (p ∷ ps) (e ∷ es) all =
    cond_both (is_odd e) (with_try (try_of p e) (tried_patches ps es)) (refused_at p e es) (λ (tried : Tried). AllByRecursion (λ (t : Try). IsOfWanted rules t.patch) tried.tries)
    (λ odd. (all.0, tried_of_wanted rules ps es all.1))
    (λ even. (all.0, tt))

abbrev AreOfWanted : Rules → List Try → Type 0
AreOfWanted rules tries = AllByRecursion (λ (t : Try). IsOfWanted rules t.patch) tries

verdict_of_wanted : (rules : Rules) (set : List Bool) (tries : List Try) (v : ℕ) (tried : Tried) (rest : List Bool → List Try → List ℕ → RoundState) (verdict : Verdict) → ((s : List Bool) (t : List Try) (e : List ℕ) → AreOfWanted rules t → AreOfWanted rules (rest s t e).tries) → AreOfWanted rules (tries ++ tried.tries) → AreOfWanted rules (after_verdict set tries v tried rest verdict).tries
verdict_of_wanted rules set tries v tried rest Granted go all = go (with_member set v) (tries ++ tried.tries) tried.unused all
verdict_of_wanted rules set tries v tried rest Refused go all = go set (tries ++ tried.tries) tried.unused all
verdict_of_wanted rules set tries v tried rest (OpenAt p) go all = all

from_of_wanted : (rules : Rules) (vs : List ℕ) (set : List Bool) (tries : List Try) (epochs : List ℕ) → AllByRecursion (IsInnerNode rules) vs → AreOfWanted rules tries → AreOfWanted rules (round_from rules vs set tries epochs).tries
unfolding round_from
from_of_wanted rules [] set tries epochs inner all = all
from_of_wanted rules (v ∷ vs) set tries epochs inner all =
    let tried = tried_patches (outgoing rules.mesh.index.fields v) epochs in
    cond_both (is_tried rules set v) (after_tries set tries v tried (λ s t e. round_from rules vs s t e)) (round_from rules vs set tries epochs) (λ (stand : RoundState). AreOfWanted rules stand.tries)
    (λ is. verdict_of_wanted rules set tries v tried (λ s t e. round_from rules vs s t e) tried.verdict (λ s t e kept. from_of_wanted rules vs s t e inner.1 kept)
    (each_joined (λ (t : Try). IsOfWanted rules t.patch) tries tried.tries all
    (tried_of_wanted rules (outgoing rules.mesh.index.fields v) epochs (outgoing_of_wanted rules v inner.0 (joining_from_test rules set v is).wanted))))
    (λ passed. from_of_wanted rules vs set tries epochs inner.1 all)

pub tries_are_of_wanted : (rules : Rules) (epochs : List ℕ) → AllByRecursion (λ (t : Try). IsOfWanted rules t.patch) (round_of rules epochs).tries
unfolding round_of
tries_are_of_wanted rules epochs = from_of_wanted rules (node_order rules) (root_set rules) [] epochs (order_is_inner rules) tt
