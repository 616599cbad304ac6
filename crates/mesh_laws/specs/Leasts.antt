-- What is the least of its kind is one.
use Rattle.std.proofs.Common.{◌≡◌, ℕ, ◌<◌, Bool, true, false, arith, inl, inr}
use Rattle.std.specs.Prelude.{length}
use Rattle.std.proofs.lemmas.Bool.{cases_lt, false_from_ne_true}
use Rattle.file_model.specs.declared.fields.Node.{Node}
use Rattle.file_model.specs.Lists.{IndexLists, FileLists}
use Rattle.mesh_model.specs.Nets.{Pair, is_pair_before}
use Rattle.mesh_model.specs.Accepted.{AllNested, AllGrounded, KeepsNets, IsLeastUnnested, IsLeastUngrounded, IsLeastDifference, IsBorderFault}
use Rattle.mesh_laws.specs.Pairs.{pair_tied}

least_is_one : (m n : ℕ) → (m < n → ⊥) → (n < m → ⊥) → m ≡ n
least_is_one m n h k =
    elim (cases_lt m n) [
      | inl less ↦ absurd (h less)
      | inr least ↦ elim (cases_lt n m) [ inl less ↦ absurd (k less) | inr most ↦ omega (arith, least, most) ]
    ]

true_and_false : (b : Bool) → b ≡ true → b ≡ false → ⊥
true_and_false true h k = absurd cc
true_and_false false h k = absurd cc

-- ---- patches

pub none_unnested : (test : Node → Node → Bool) (index : IndexLists) (p : ℕ) → AllNested test index → IsLeastUnnested test index p → ⊥
none_unnested test index p all least = true_and_false _ (all p least.fails.0 least.fails.1) least.fails.2

not_below : (test : Node → Node → Bool) (index : IndexLists) (p q : ℕ) → IsLeastUnnested test index p → IsLeastUnnested test index q → p < q → ⊥
not_below test index p q first second less = true_and_false _ (second.least p first.fails.0 less first.fails.1) first.fails.2

pub unnested_is_one : (test : Node → Node → Bool) (index : IndexLists) (p q : ℕ) → IsLeastUnnested test index p → IsLeastUnnested test index q → p ≡ q
unnested_is_one test index p q first second = least_is_one p q (not_below test index p q first second) (not_below test index q p second first)

-- ---- nodes

pub none_ungrounded : (index : IndexLists) (v : ℕ) → AllGrounded index → IsLeastUngrounded index v → ⊥
none_ungrounded index v all least = least.ungrounded (all v least.node)

pub ungrounded_is_one : (index : IndexLists) (v w : ℕ) → IsLeastUngrounded index v → IsLeastUngrounded index w → v ≡ w
ungrounded_is_one index v w first second = least_is_one v w (λ less. first.ungrounded (second.least v less)) (λ less. second.ungrounded (first.least w less))

-- ---- borders

border_breaks : (file : FileLists) (v : ℕ) (pair : Pair) → IsBorderFault file v pair → KeepsNets file v → ⊥
border_breaks file v pair fault keeps = fault.differs.differs (keeps fault.inner pair.a pair.b)

pub none_at_border : (file : FileLists) (v : ℕ) (pair : Pair) → ((u : ℕ) → u < length file.index.nodes → KeepsNets file u) → IsBorderFault file v pair → ⊥
none_at_border file v pair all fault = border_breaks file v pair fault (all v fault.node)

pub border_is_one : (file : FileLists) (v w : ℕ) (p q : Pair) → IsBorderFault file v p → IsBorderFault file w q → v ≡ w
border_is_one file v w p q first second =
    least_is_one v w (λ less. border_breaks file v p first (second.earlier v less)) (λ less. border_breaks file w q second (first.earlier w less))

-- the least pair at which a node's nets differ
pub difference_is_one : (file : FileLists) (v : ℕ) (p q : Pair) → IsLeastDifference file v p → IsLeastDifference file v q → p ≡ q
difference_is_one file v p q first second =
    pair_tied p q
    (false_from_ne_true (is_pair_before p q) (λ before. first.differs (second.least p first.forward before)))
    (false_from_ne_true (is_pair_before q p) (λ before. second.differs (first.least q second.forward before)))
