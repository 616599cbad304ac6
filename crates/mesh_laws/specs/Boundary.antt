-- Every frame has the net of the root's triangles. At a node of a cut other than the root what leads in
-- weighs as what leads out, and nothing leads to the root: so over all of the cut's nodes what leads out
-- weighs the root's triangles more than what leads in. A patch that leads to a node of the cut leads from
-- one too, so what leads out of the nodes is the frame and what leads in.
use Rattle.std.proofs.Common.{◌≡◌, ℕ, zero, suc, ◌+◌, ◌<◌, ◌≤◌, Bool, true, false, cond, not, ◌&&◌, ◌||◌, eqb, ltb, length, refl, sym, ap, ◌∙◌, arith, inl, inr}
use Rattle.std.specs.Prelude.{◌==◌, ℤ, pos, ◌+ℤ◌}
use Rattle.std.specs.List.{AllByRecursion}
use Rattle.std.proofs.lemmas.Int.{ints}
use Rattle.std.proofs.lemmas.Bool.{cases_order, cases_eq, and_right, lt-ltb, le-ltb, eq-eqb, ne_eqb, not_from_false, or_from}
use Rattle.grid_vertex.specs.declared.points.Point.{Point}
use Rattle.file_model.specs.declared.fields.PatchField.{PatchField}
use Rattle.file_model.specs.Lists.{FileLists}
use Rattle.file_model.specs.Rules.{IsIndex}
use Rattle.mesh_model.specs.Graph.{leads_to, is_root, is_sink}
use Rattle.mesh_model.specs.Nets.{one_if, net, HaveOneNet}
use Rattle.mesh_model.specs.Frames.{triangles_where, leads_out, frame_triangles, IsCut}
use Rattle.mesh_model.specs.Accepted.{IsAccepted, triangles_to, triangles_out_of}
use Rattle.mesh_laws.specs.Each.{each_from_places, each_of_all, each_then}
use Rattle.mesh_laws.specs.Ends.{HasEnds, each_has_ends}
use Rattle.mesh_laws.specs.Patches.{Splits, triangles_same, net_split, net_none}
use Rattle.mesh_laws.specs.Roots.{IsOnlyRoot, only_root_from_roots}

-- ---- tests of one end of a patch

-- the end is a node of the set before the n-th
abbrev is_before : (ℕ → Bool) → ℕ → ℕ → Bool
is_before in_set n v = ltb v n && in_set v

-- the end is the n-th node, which is of the set
abbrev is_at : (ℕ → Bool) → ℕ → ℕ → Bool
is_at in_set n v = in_set n && (v == n)

-- one more node
one_more : (in_set : ℕ → Bool) (n v : ℕ) → one_if (is_before in_set (suc n) v) ≡ one_if (is_before in_set n v) + one_if (is_at in_set n v)
one_more in_set n v =
    elim (cases_order v n) [
      | inl same ↦
          let there = lt-ltb v (suc n) (omega arith) in
          let not_before = le-ltb v n (omega arith) in
          let equal = eq-eqb v n same in
          rw (there, not_before, equal, same) (elim (in_set n) as (λ t. one_if t ≡ 0 + one_if (t && true)) [ true ↦ refl | false ↦ refl ])
      | inr (inl less) ↦
          let there = lt-ltb v (suc n) (omega arith) in
          let was = lt-ltb v n less in
          let apart = ne_eqb v n (λ e. absurd (omega arith)) in
          let none = and_right (in_set n) (eqb v n) apart in
          rw (there, was, none) (omega arith)
      | inr (inr more) ↦
          let not_there = le-ltb v (suc n) (omega arith) in
          let not_before = le-ltb v n (omega arith) in
          let apart = ne_eqb v n (λ e. absurd (omega arith)) in
          let none = and_right (in_set n) (eqb v n) apart in
          rw (not_there, not_before, none) refl
    ]

-- ---- what is known of the graph

-- what the law asks of a file, a set of its nodes and a root
record IsMeshCut (file : FileLists) (root : ℕ) (in_set : ℕ → Bool) : Type 0 where
  only_root : IsOnlyRoot (length file.index.nodes) file.index.fields root
  has_root : in_set root ≡ true
  ends : AllByRecursion (HasEnds (length file.index.nodes)) file.index.fields
  parents : AllByRecursion (λ f. in_set f.head ≡ true → in_set f.tail ≡ true) file.index.fields
  kept : (v : ℕ) → v < length file.index.nodes → (root ≡ v → ⊥) → in_set v ≡ true → HaveOneNet (triangles_to file v) (triangles_out_of file v)

mesh_cut_from : (file : FileLists) (root : ℕ) (in_set : ℕ → Bool) → IsIndex file.index → IsAccepted file root → IsCut file.index.fields root in_set → IsMeshCut file root in_set
mesh_cut_from file root in_set rules accepted cut =
    let nodes = length file.index.nodes in
    let fields = file.index.fields in
    let only = only_root_from_roots nodes fields root accepted.graph.one_root in
    record {
      only_root = only;
      has_root = cut.has_root;
      ends = each_has_ends file.index rules;
      parents = each_from_places (λ f. in_set f.head ≡ true → in_set f.tail ≡ true) fields cut.has_parents;
      kept = λ v node apart in_cut. accepted.nets v node (not_from_false (is_root fields v || is_sink fields v) (or_from (is_root fields v) (is_sink fields v) (only.others v node apart) (cut.no_sink v in_cut)));
    }

module _ (file : FileLists) (root : ℕ) (in_set : ℕ → Bool) (a b : Point) where
  -- the net of the patches that pass the test
  abbrev weight : (PatchField → Bool) → ℤ
  weight test = net (triangles_where test file.index.fields file.bodies) a b

  -- the net of the root's triangles
  abbrev of_root : ℤ
  of_root = net (triangles_out_of file root) a b

  no_weight : weight (λ f. false) ≡ pos 0
  no_weight = net_none (λ f. false) file.index.fields file.bodies a b (each_of_all (λ f. false ≡ false) file.index.fields (λ f. refl))

  none_before : (key : PatchField → ℕ) → weight (λ f. is_before in_set 0 (key f)) ≡ pos 0
  none_before key =
      net_none (λ f. is_before in_set 0 (key f)) file.index.fields file.bodies a b
      (each_of_all (λ f. is_before in_set 0 (key f) ≡ false) file.index.fields (λ f. ap (λ (t : Bool). t && in_set (key f)) (le-ltb (key f) 0 (omega arith))))

  one_more_weight : (key : PatchField → ℕ) (n : ℕ) → weight (λ f. is_before in_set (suc n) (key f)) ≡ weight (λ f. is_before in_set n (key f)) +ℤ weight (λ f. is_at in_set n (key f))
  one_more_weight key n =
      let p : PatchField → Bool = λ f. is_before in_set (suc n) (key f) in
      let q : PatchField → Bool = λ f. is_before in_set n (key f) in
      let r : PatchField → Bool = λ f. is_at in_set n (key f) in
      net_split p q r file.index.fields file.bodies a b (each_of_all (Splits p q r) file.index.fields (λ f. one_more in_set n (key f)))

  -- at a node what leads out of it weighs as what leads in, but for the root
  balance : IsMeshCut file root in_set → (n : ℕ) → n < length file.index.nodes → (t : Bool) → in_set n ≡ t → weight (λ f. t && (f.tail == n)) ≡ weight (λ f. t && (f.head == n)) +ℤ cond (root == n) of_root (pos 0)
  balance is n node false e =
      let apart = ne_eqb root n (λ same. absurd (let here = sym is.has_root ∙ ap in_set same ∙ e in cc)) in
      rw (apart, no_weight) (omega (arith, ints))
  balance is n node true e =
      elim (cases_eq root n) [
        | inl same ↦
            let equal = eq-eqb root n same in
            let out : weight (λ f. f.tail == n) ≡ of_root = ap (λ (v : ℕ). weight (λ f. f.tail == v)) (sym same) in
            let into : weight (λ f. f.head == n) ≡ pos 0 = ap (λ (v : ℕ). weight (λ f. f.head == v)) (sym same) ∙ net_none (leads_to root) file.index.fields file.bodies a b is.only_root.no_patch in
            rw (equal, out, into) (omega (arith, ints))
        | inr apart ↦
            let unequal = ne_eqb root n apart in
            let kept : weight (λ f. f.head == n) ≡ weight (λ f. f.tail == n) = is.kept n node apart e a b in
            rw (unequal) (omega (arith, ints, kept))
      ]

  root_once : (n : ℕ) → cond (ltb root (suc n)) of_root (pos 0) ≡ cond (ltb root n) of_root (pos 0) +ℤ cond (root == n) of_root (pos 0)
  root_once n =
      elim (cases_order root n) [
        | inl same ↦ rw (lt-ltb root (suc n) (omega arith), le-ltb root n (omega arith), eq-eqb root n same) (omega (arith, ints))
        | inr (inl less) ↦ rw (lt-ltb root (suc n) (omega arith), lt-ltb root n less, ne_eqb root n (λ e. absurd (omega arith))) (omega (arith, ints))
        | inr (inr more) ↦ rw (le-ltb root (suc n) (omega arith), le-ltb root n (omega arith), ne_eqb root n (λ e. absurd (omega arith))) (omega (arith, ints))
      ]

  -- over the first n nodes
  balance_of : IsMeshCut file root in_set → (n : ℕ) → n ≤ length file.index.nodes → weight (λ f. is_before in_set n f.tail) ≡ weight (λ f. is_before in_set n f.head) +ℤ cond (ltb root n) of_root (pos 0)
  balance_of is zero h =
      rw (none_before (λ f. f.tail), none_before (λ f. f.head), le-ltb root 0 (omega arith)) (omega (arith, ints))
  balance_of is (suc n) h =
      let tails = one_more_weight (λ f. f.tail) n in
      let heads = one_more_weight (λ f. f.head) n in
      let here = balance is n (omega arith) (in_set n) refl in
      let rest = balance_of is n (omega arith) in
      omega (arith, ints, tails, heads, here, rest, root_once n)

  -- over all nodes
  balance_of_all : IsMeshCut file root in_set → weight (λ f. in_set f.tail) ≡ weight (λ f. in_set f.head) +ℤ of_root
  balance_of_all is =
      let nodes = length file.index.nodes in
      let all = balance_of is nodes (omega arith) in
      let tails : weight (λ f. is_before in_set nodes f.tail) ≡ weight (λ f. in_set f.tail) = ap (λ ts. net ts a b) (triangles_same (λ f. is_before in_set nodes f.tail) (λ f. in_set f.tail) file.index.fields file.bodies
      (each_then (HasEnds nodes) (λ f. is_before in_set nodes f.tail ≡ in_set f.tail) file.index.fields (λ f ends. ap (λ (t : Bool). t && in_set f.tail) (lt-ltb f.tail nodes ends.tail)) is.ends)) in
      let heads : weight (λ f. is_before in_set nodes f.head) ≡ weight (λ f. in_set f.head) = ap (λ ts. net ts a b) (triangles_same (λ f. is_before in_set nodes f.head) (λ f. in_set f.head) file.index.fields file.bodies
      (each_then (HasEnds nodes) (λ f. is_before in_set nodes f.head ≡ in_set f.head) file.index.fields (λ f ends. ap (λ (t : Bool). t && in_set f.head) (lt-ltb f.head nodes ends.head)) is.ends)) in
      sym tails ∙ all ∙ rw (heads, lt-ltb root nodes is.only_root.node) refl

  frame_splits : (t h : Bool) → (h ≡ true → t ≡ true) → one_if t ≡ one_if (t && not h) + one_if h
  frame_splits true true e = refl
  frame_splits true false e = refl
  frame_splits false true e = absurd (let never = e refl in cc)
  frame_splits false false e = refl

  -- what leads from the set is the frame and what leads back into the set
  frame_and_rest : IsMeshCut file root in_set → weight (λ f. in_set f.tail) ≡ weight (leads_out in_set) +ℤ weight (λ f. in_set f.head)
  frame_and_rest is =
      let p : PatchField → Bool = λ f. in_set f.tail in
      let r : PatchField → Bool = λ f. in_set f.head in
      net_split p (leads_out in_set) r file.index.fields file.bodies a b
      (each_then (λ f. in_set f.head ≡ true → in_set f.tail ≡ true) (Splits p (leads_out in_set) r) file.index.fields (λ f parents. frame_splits (in_set f.tail) (in_set f.head) parents) is.parents)

  boundary_at : IsMeshCut file root in_set → weight (leads_out in_set) ≡ of_root
  boundary_at is = omega (arith, ints, frame_and_rest is, balance_of_all is)

-- the frame of each cut has the net of the root's triangles
pub boundary : (file : FileLists) (root : ℕ) (in_set : ℕ → Bool) → IsIndex file.index → IsAccepted file root → IsCut file.index.fields root in_set → HaveOneNet (frame_triangles in_set file.index.fields file.bodies) (triangles_out_of file root)
boundary file root in_set rules accepted cut a b = boundary_at file root in_set a b (mesh_cut_from file root in_set rules accepted cut)
