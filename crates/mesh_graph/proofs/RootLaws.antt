-- Nodes without patches on a side, and the one root.
use Rattle.std.proofs.Common.{◌≡◌, ℕ, zero, suc, ◌+◌, ◌-◌, ◌<◌, ◌≤◌, Bool, true, false, List, [], ◌∷◌, ◌++◌, Option, Some, None, Result, Ok, Err, arith, sym, ◌∙◌, ap, subst, refl, if◌then◌else◌, not, ◌||◌}
use Rattle.std.specs.List.{list_any}
use Rattle.std.specs.Option.{ok_or}
use Rattle.std.proofs.lemmas.List.{append-nil}
use Rattle.file_model.specs.declared.fields.PatchField.{PatchField}
use Rattle.mesh_model.specs.declared.refusals.DagFault.{DagFault}
use Rattle.mesh_model.specs.declared.refusals.DagFault.TheVariants.{NoRoot, TwoRoots}
use Rattle.mesh_model.specs.Graph.{patches_from, numbers_from, nodes_where, roots, is_root, only_root}
use Rattle.mesh_model.specs.declared.sides.NodeSide.{NodeSide}
use Rattle.mesh_model.specs.declared.sides.NodeSide.TheVariants.{Incoming}
use Rattle.mesh_model.specs.Sides.{is_on}
use Rattle.mesh_graph.specs.Adjacency.{IsAdjacency, is_empty_list, is_bare_at}

bare-by : (start : ℕ) (ps : List ℕ) (t any : Bool) → is_empty_list (Some ps) ≡ not any → is_empty_list (Some (if t then start ∷ ps else ps)) ≡ not (t || any)
bare-by start ps true any h = refl
bare-by start ps false any h = h

bare_from : (test : PatchField → Bool) (fields : List PatchField) (start : ℕ) → is_empty_list (Some (patches_from start test fields)) ≡ not (list_any test fields)
unfolding patches_from
bare_from test [] start = refl
bare_from test (f ∷ fs) start = bare-by start (patches_from (start + 1) test fs) (test f) (list_any test fs) (bare_from test fs (start + 1))

-- a node is bare where no patch touches it
pub bare_is : (side : NodeSide) (fields : List PatchField) (nodes : ℕ) (lists : List (List ℕ)) (v : ℕ) → IsAdjacency side fields nodes lists → v < nodes → is_bare_at lists v ≡ not (list_any (is_on side v) fields)
bare_is side fields nodes lists v arcs v_in = ap is_empty_list (arcs.each v v_in) ∙ bare_from (is_on side v) fields 0

numbers-by : (first : ℕ) (xs ys : List ℕ) (s t : Bool) → s ≡ t → xs ≡ ys → (if s then first ∷ xs else xs) ≡ (if t then first ∷ ys else ys)
numbers-by first xs ys true true e same = ap (λ zs. first ∷ zs) same
numbers-by first xs ys false false e same = same
numbers-by first xs ys true false e same = absurd cc
numbers-by first xs ys false true e same = absurd cc

numbers_same : (f g : ℕ → Bool) (n first : ℕ) → ((v : ℕ) → first ≤ v → v < first + n → f v ≡ g v) → numbers_from first n f ≡ numbers_from first n g
unfolding numbers_from
numbers_same f g zero first same = refl
numbers_same f g (suc n) first same =
    numbers-by first (numbers_from (first + 1) n f) (numbers_from (first + 1) n g) (f first) (g first) (same first (omega arith) (omega arith))
    (numbers_same f g n (first + 1) (λ v low high. same v (omega arith) (omega arith)))

-- the bare nodes are the roots
pub roots_are : (fields : List PatchField) (nodes : ℕ) (lists : List (List ℕ)) → IsAdjacency Incoming fields nodes lists → nodes_where nodes (is_bare_at lists) ≡ roots nodes fields
roots_are fields nodes lists arcs = numbers_same (is_bare_at lists) (is_root fields) nodes 0 (λ v low high. bare_is Incoming fields nodes lists v arcs (omega arith))

-- the root that was found, and those to come
abbrev pub found_list : Option ℕ → List ℕ
found_list None = []
found_list (Some a) = a ∷ []

abbrev pub HasFound : (ℕ → Bool) → ℕ → ℕ → Option ℕ → Type 0
HasFound test n v found = found_list found ++ numbers_from v (n - v) test ≡ nodes_where n test

numbers_step : (test : ℕ → Bool) (n v : ℕ) → v < n → numbers_from v (n - v) test ≡ (if test v then v ∷ numbers_from (v + 1) (n - (v + 1)) test else numbers_from (v + 1) (n - (v + 1)) test)
unfolding numbers_from
numbers_step test n v v_in = ap (λ k. numbers_from v k test) (let e : n - v ≡ suc (n - (v + 1)) = omega arith in e)

pub found_none : (test : ℕ → Bool) (n v : ℕ) (found : Option ℕ) → v < n → test v ≡ false → HasFound test n v found → HasFound test n (v + 1) found
found_none test n v found v_in off h =
    let step : numbers_from v (n - v) test ≡ numbers_from (v + 1) (n - (v + 1)) test = numbers_step test n v v_in ∙ ap (λ t. if t then v ∷ numbers_from (v + 1) (n - (v + 1)) test else numbers_from (v + 1) (n - (v + 1)) test) off in
    ap (λ l. found_list found ++ l) (sym step) ∙ h

step_on : (test : ℕ → Bool) (n v : ℕ) → v < n → test v ≡ true → numbers_from v (n - v) test ≡ v ∷ numbers_from (v + 1) (n - (v + 1)) test
step_on test n v v_in on = numbers_step test n v v_in ∙ ap (λ t. if t then v ∷ numbers_from (v + 1) (n - (v + 1)) test else numbers_from (v + 1) (n - (v + 1)) test) on

pub found_one : (test : ℕ → Bool) (n v : ℕ) (found : Option ℕ) → v < n → test v ≡ true → found ≡ None → HasFound test n v found → HasFound test n (v + 1) (Some v)
found_one test n v found v_in on none h =
    let all : numbers_from v (n - v) test ≡ nodes_where n test = subst (λ (o : Option ℕ). found_list o ++ numbers_from v (n - v) test ≡ nodes_where n test) none h in
    sym (step_on test n v v_in on) ∙ all

pub found_two : (test : ℕ → Bool) (n v a : ℕ) (found : Option ℕ) → v < n → test v ≡ true → found ≡ Some a → HasFound test n v found → Err (TwoRoots a v) ≡ only_root (nodes_where n test)
found_two test n v a found v_in on some h =
    let all : a ∷ numbers_from v (n - v) test ≡ nodes_where n test = subst (λ (o : Option ℕ). found_list o ++ numbers_from v (n - v) test ≡ nodes_where n test) some h in
    ap only_root (ap (λ l. a ∷ l) (sym (step_on test n v v_in on)) ∙ all)

-- the answer at the end
abbrev pub answer_of : Option ℕ → Result ℕ DagFault
answer_of None = Err NoRoot
answer_of (Some a) = Ok a

pub answer_is : (found : Option ℕ) → ok_or found NoRoot ≡ answer_of found
answer_is None = refl
answer_is (Some a) = refl

answer-by : (found : Option ℕ) → answer_of found ≡ only_root (found_list found)
answer-by None = refl
answer-by (Some a) = refl

pub found_all : (test : ℕ → Bool) (n v : ℕ) (found : Option ℕ) → n ≤ v → HasFound test n v found → answer_of found ≡ only_root (nodes_where n test)
unfolding numbers_from
found_all test n v found past h =
    let none : numbers_from v (n - v) test ≡ [] = ap (λ k. numbers_from v k test) (let e : n - v ≡ 0 = omega arith in e) in
    answer-by found ∙ ap only_root (sym (append-nil (found_list found)) ∙ ap (λ l. found_list found ++ l) (sym none) ∙ h)
