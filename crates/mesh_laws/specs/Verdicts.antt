-- A file is accepted with one root, or has one first fault.
use Rattle.std.proofs.Common.{◌≡◌, ℕ, List, [], ◌∷◌, ℤ, refl, sym, ap, subst, ◌∙◌}
use Rattle.file_model.specs.Lists.{FileLists}
use Rattle.mesh_model.specs.declared.refusals.DagFault.{DagFault}
use Rattle.mesh_model.specs.declared.refusals.DagFault.TheVariants.{NoRoot, TwoRoots, Cycle, ErrorNotNested, BallNotNested, Border}
use Rattle.mesh_model.specs.Nets.{Pair, net}
use Rattle.mesh_model.specs.Accepted.{has_no_more_error, has_ball_within, triangles_to, triangles_out_of, IsAccepted, IsBorderFault, IsLeastDifference, IsMeshFault}
use Rattle.mesh_laws.specs.Leasts.{none_unnested, unnested_is_one, none_ungrounded, ungrounded_is_one, none_at_border, border_is_one, difference_is_one}

-- ---- lists of roots

none_and_some : (xs : List ℕ) (a : ℕ) (others : List ℕ) → xs ≡ [] → xs ≡ a ∷ others → ⊥
none_and_some [] a others h k = absurd cc
none_and_some (x ∷ xs) a others h k = absurd cc

one_and_two : (xs : List ℕ) (a b c : ℕ) (others : List ℕ) → xs ≡ a ∷ [] → xs ≡ b ∷ c ∷ others → ⊥
one_and_two [] a b c others h k = absurd cc
one_and_two (x ∷ []) a b c others h k = absurd cc
one_and_two (x ∷ y ∷ ys) a b c others h k = absurd cc

only_one : (xs : List ℕ) (a b : ℕ) → xs ≡ a ∷ [] → xs ≡ b ∷ [] → a ≡ b
only_one [] a b h k = absurd cc
only_one (x ∷ xs) a b h k = cc

first_two : (xs : List ℕ) (a b c d : ℕ) (others rest : List ℕ) → xs ≡ a ∷ b ∷ others → xs ≡ c ∷ d ∷ rest → TwoRoots a b ≡ TwoRoots c d
first_two [] a b c d others rest h k = absurd cc
first_two (x ∷ []) a b c d others rest h k = absurd cc
first_two (x ∷ y ∷ ys) a b c d others rest h k = cc

-- ---- verdicts

pub one_root : (file : FileLists) (root other : ℕ) → IsAccepted file root → IsAccepted file other → root ≡ other
one_root file root other h k = only_one _ root other h.graph.one_root k.graph.one_root

pub not_both : (file : FileLists) (root : ℕ) (fault : DagFault) → IsAccepted file root → IsMeshFault file fault → ⊥
not_both file root NoRoot h k = none_and_some _ root [] k h.graph.one_root
not_both file root (TwoRoots a b) h k = one_and_two _ root a b k.0 h.graph.one_root k.1
not_both file root (Cycle v) h k = none_ungrounded file.index v h.graph.grounded k.2
not_both file root (ErrorNotNested p) h k = none_unnested has_no_more_error file.index p h.graph.errors k.3
not_both file root (BallNotNested p) h k = none_unnested has_ball_within file.index p h.graph.balls k.4
not_both file root (Border v a b net_in net_out) h k = none_at_border file v (record { a = a; b = b }) h.nets k.2

-- ---- faults of one kind

abbrev border_fault : ℕ → Pair → ℤ → ℤ → DagFault
border_fault v pair net_in net_out = Border v pair.a pair.b net_in net_out

-- a border's node and pair say the fault
borders_are_one : (file : FileLists) (v w : ℕ) (p q : Pair) → IsBorderFault file v p → IsBorderFault file w q
    → border_fault v p (net (triangles_to file v) p.a p.b) (net (triangles_out_of file v) p.a p.b) ≡ border_fault w q (net (triangles_to file w) q.a q.b) (net (triangles_out_of file w) q.a q.b)
borders_are_one file v w p q h k =
    let node = border_is_one file v w p q h k in
    let there = subst (λ u. IsLeastDifference file u q) (sym node) k.differs in
    let pair = difference_is_one file v p q h.differs there in
    λ i. border_fault (node i) (pair i) (net (triangles_to file (node i)) (pair i).a (pair i).b) (net (triangles_out_of file (node i)) (pair i).a (pair i).b)

with_nets : (v : ℕ) (pair : Pair) (net_in net_out true_in true_out : ℤ) → true_in ≡ net_in → true_out ≡ net_out → border_fault v pair true_in true_out ≡ border_fault v pair net_in net_out
with_nets v pair net_in net_out true_in true_out h k = λ i. border_fault v pair (h i) (k i)

-- ---- all faults

pub one_fault : (file : FileLists) (fault other : DagFault) → IsMeshFault file fault → IsMeshFault file other → fault ≡ other
one_fault file NoRoot NoRoot h k = refl
one_fault file NoRoot (TwoRoots a b) h k = absurd (none_and_some _ a (b ∷ k.0) h k.1)
one_fault file NoRoot (Cycle v) h k = absurd (none_and_some _ k.0 [] h k.1)
one_fault file NoRoot (ErrorNotNested p) h k = absurd (none_and_some _ k.0 [] h k.1)
one_fault file NoRoot (BallNotNested p) h k = absurd (none_and_some _ k.0 [] h k.1)
one_fault file NoRoot (Border v a b net_in net_out) h k = absurd (none_and_some _ k.0 [] h k.1.one_root)
one_fault file (TwoRoots a b) NoRoot h k = absurd (none_and_some _ a (b ∷ h.0) k h.1)
one_fault file (TwoRoots a b) (TwoRoots c d) h k = first_two _ a b c d h.0 k.0 h.1 k.1
one_fault file (TwoRoots a b) (Cycle v) h k = absurd (one_and_two _ k.0 a b h.0 k.1 h.1)
one_fault file (TwoRoots a b) (ErrorNotNested p) h k = absurd (one_and_two _ k.0 a b h.0 k.1 h.1)
one_fault file (TwoRoots a b) (BallNotNested p) h k = absurd (one_and_two _ k.0 a b h.0 k.1 h.1)
one_fault file (TwoRoots a b) (Border v c d net_in net_out) h k = absurd (one_and_two _ k.0 a b h.0 k.1.one_root h.1)
one_fault file (Cycle v) NoRoot h k = absurd (none_and_some _ h.0 [] k h.1)
one_fault file (Cycle v) (TwoRoots a b) h k = absurd (one_and_two _ h.0 a b k.0 h.1 k.1)
one_fault file (Cycle v) (Cycle w) h k = ap (λ u. Cycle u) (ungrounded_is_one file.index v w h.2 k.2)
one_fault file (Cycle v) (ErrorNotNested p) h k = absurd (none_ungrounded file.index v k.2 h.2)
one_fault file (Cycle v) (BallNotNested p) h k = absurd (none_ungrounded file.index v k.2 h.2)
one_fault file (Cycle v) (Border w a b net_in net_out) h k = absurd (none_ungrounded file.index v k.1.grounded h.2)
one_fault file (ErrorNotNested p) NoRoot h k = absurd (none_and_some _ h.0 [] k h.1)
one_fault file (ErrorNotNested p) (TwoRoots a b) h k = absurd (one_and_two _ h.0 a b k.0 h.1 k.1)
one_fault file (ErrorNotNested p) (Cycle v) h k = absurd (none_ungrounded file.index v h.2 k.2)
one_fault file (ErrorNotNested p) (ErrorNotNested q) h k = ap (λ r. ErrorNotNested r) (unnested_is_one has_no_more_error file.index p q h.3 k.3)
one_fault file (ErrorNotNested p) (BallNotNested q) h k = absurd (none_unnested has_no_more_error file.index p k.3 h.3)
one_fault file (ErrorNotNested p) (Border v a b net_in net_out) h k = absurd (none_unnested has_no_more_error file.index p k.1.errors h.3)
one_fault file (BallNotNested p) NoRoot h k = absurd (none_and_some _ h.0 [] k h.1)
one_fault file (BallNotNested p) (TwoRoots a b) h k = absurd (one_and_two _ h.0 a b k.0 h.1 k.1)
one_fault file (BallNotNested p) (Cycle v) h k = absurd (none_ungrounded file.index v h.2 k.2)
one_fault file (BallNotNested p) (ErrorNotNested q) h k = absurd (none_unnested has_no_more_error file.index q h.3 k.3)
one_fault file (BallNotNested p) (BallNotNested q) h k = ap (λ r. BallNotNested r) (unnested_is_one has_ball_within file.index p q h.4 k.4)
one_fault file (BallNotNested p) (Border v a b net_in net_out) h k = absurd (none_unnested has_ball_within file.index p k.1.balls h.4)
one_fault file (Border v a b net_in net_out) NoRoot h k = absurd (none_and_some _ h.0 [] k h.1.one_root)
one_fault file (Border v a b net_in net_out) (TwoRoots c d) h k = absurd (one_and_two _ h.0 c d k.0 h.1.one_root k.1)
one_fault file (Border v a b net_in net_out) (Cycle w) h k = absurd (none_ungrounded file.index w h.1.grounded k.2)
one_fault file (Border v a b net_in net_out) (ErrorNotNested q) h k = absurd (none_unnested has_no_more_error file.index q h.1.errors k.3)
one_fault file (Border v a b net_in net_out) (BallNotNested q) h k = absurd (none_unnested has_ball_within file.index q h.1.balls k.4)
one_fault file (Border v a b net_in net_out) (Border w c d in_too out_too) h k =
    let p : Pair = record { a = a; b = b } in
    let q : Pair = record { a = c; b = d } in
    sym (with_nets v p net_in net_out _ _ h.3 h.4) ∙ borders_are_one file v w p q h.2 k.2 ∙ with_nets w q in_too out_too _ _ k.3 k.4
