-- The least border difference among the nodes that were compared.
use Rattle.std.specs.Prelude.{◌≡◌, ℕ, ◌<◌, ◌≤◌, ◌⊎◌, Bool, true, false, nat_lt, Option, Some, None, MatchOption, IsTrue, refl, if◌then◌else◌}
use Rattle.std.proofs.Common.{sym, subst, inl, inr, arith}
use Rattle.std.proofs.lemmas.Bool.{ltb-true, ltb-false}
use Rattle.file_model.specs.Lists.{FileLists}
use Rattle.mesh_model.specs.Nets.{HaveOneNet}
use Rattle.mesh_model.specs.Accepted.{KeepsNets, is_inner, triangles_to, triangles_out_of}
use Rattle.edge_chain.specs.declared.differences.Difference.{Difference}
use Rattle.edge_chain.specs.Chains.{IsFirstNetDifference}
use Rattle.dag_check.specs.declared.borders.BorderDifference.{BorderDifference}
use Rattle.dag_check.specs.Borders.{lesser_border, IsLeastBorder, HasBorderDifference}

-- the same nodes are compared
pub border_stays : (file : FileLists) (Before After : ℕ → Type 0) (found : Option BorderDifference) → ((v : ℕ) → Before v → After v) → ((v : ℕ) → After v → Before v) → HasBorderDifference file Before found → HasBorderDifference file After found
border_stays file Before After None on back h = λ v now. h v (back v now)
border_stays file Before After (Some border_found) on back h = record {
  compared = on border_found.node h.compared;
  inner = h.inner;
  differs = h.differs;
  least = λ v low now. h.least v low (back v now);
}

-- one node more is compared
pub record AddsNode (node : ℕ) (Before After : ℕ → Type 0) : Type 0 where
  pub on : (v : ℕ) → Before v → After v
  pub here : After node
  pub back : (v : ℕ) → After v → (v ≡ node) ⊎ Before v

-- the nets of a node's two sides differ first at the difference, or are one
abbrev pub DifferAt : FileLists → ℕ → Option Difference → Type 0
DifferAt file v difference = MatchOption difference (HaveOneNet (triangles_to file v) (triangles_out_of file v)) (IsFirstNetDifference (triangles_to file v) (triangles_out_of file v))

-- the node keeps its nets, and so do the others
keeps_at : (file : FileLists) (node v : ℕ) (Before : ℕ → Type 0) → HaveOneNet (triangles_to file node) (triangles_out_of file node) → (Before v → KeepsNets file v) → (v ≡ node) ⊎ Before v → KeepsNets file v
keeps_at file node v Before same h which =
    elim which [ inl e ↦ subst (λ (u : ℕ). KeepsNets file u) (sym e) (λ _. same) | inr b ↦ h b ]

keeps_before : (file : FileLists) (node v : ℕ) (Before : ℕ → Type 0) → v < node → (Before v → KeepsNets file v) → (v ≡ node) ⊎ Before v → KeepsNets file v
keeps_before file node v Before low h which = elim which [ inl e ↦ absurd (omega arith) | inr b ↦ h b ]

new_border : (file : FileLists) (Before After : ℕ → Type 0) (node : ℕ) (difference : Difference) → IsTrue (is_inner file.index.fields node) → AddsNode node Before After → IsFirstNetDifference (triangles_to file node) (triangles_out_of file node) difference → ((v : ℕ) → v < node → Before v → KeepsNets file v) → IsLeastBorder file After (record { node = node; difference = difference })
new_border file Before After node difference inner adds differs least = record {
  compared = adds.here;
  inner = inner;
  differs = differs;
  least = λ v low now. keeps_before file node v Before low (least v low) (adds.back v now);
}

old_border : (file : FileLists) (Before After : ℕ → Type 0) (node : ℕ) (border_found : BorderDifference) → border_found.node < node → AddsNode node Before After → IsLeastBorder file Before border_found → IsLeastBorder file After border_found
old_border file Before After node border_found low adds h = record {
  compared = adds.on border_found.node h.compared;
  inner = h.inner;
  differs = h.differs;
  least = λ v below now. keeps_before file node v Before (omega arith) (h.least v below) (adds.back v now);
}

-- of the border difference that was found and of one at the node, the lesser
chosen : (file : FileLists) (Before After : ℕ → Type 0) (node : ℕ) (difference : Difference) (border_found : BorderDifference) (test : Bool) → nat_lt border_found.node node ≡ test → IsTrue (is_inner file.index.fields node) → AddsNode node Before After → IsFirstNetDifference (triangles_to file node) (triangles_out_of file node) difference → IsLeastBorder file Before border_found → IsLeastBorder file After (if test then border_found else record { node = node; difference = difference })
chosen file Before After node difference border_found true e inner adds differs h = old_border file Before After node border_found (ltb-true border_found.node node e) adds h
chosen file Before After node difference border_found false e inner adds differs h =
    let high : node ≤ border_found.node = ltb-false border_found.node node e in
    new_border file Before After node difference inner adds differs (λ v low b. h.least v (omega arith) b)

pub border_more : (file : FileLists) (Before After : ℕ → Type 0) (found : Option BorderDifference) (node : ℕ) (difference : Option Difference) → IsTrue (is_inner file.index.fields node) → AddsNode node Before After → DifferAt file node difference → HasBorderDifference file Before found → HasBorderDifference file After (lesser_border found node difference)
border_more file Before After None node None inner adds one h = λ v now. keeps_at file node v Before one (h v) (adds.back v now)
border_more file Before After (Some border_found) node None inner adds one h = record {
  compared = adds.on border_found.node h.compared;
  inner = h.inner;
  differs = h.differs;
  least = λ v low now. keeps_at file node v Before one (h.least v low) (adds.back v now);
}
border_more file Before After None node (Some difference) inner adds differs h = new_border file Before After node difference inner adds differs (λ v low b. h v b)
border_more file Before After (Some border_found) node (Some difference) inner adds differs h = chosen file Before After node difference border_found (nat_lt border_found.node node) refl inner adds differs h
