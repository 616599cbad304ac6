-- Lines of sides, one after the other.
use Rattle.std.proofs.Common.{◌≡◌, ℕ, zero, suc, ◌+◌, Some, List, [], ◌∷◌, ◌++◌, length, drop, refl, sym, ap, ◌∙◌, append_assoc, append-nil, add-one}
use Rattle.std.specs.Prelude.{slice_get}
use Rattle.file_model.specs.declared.fields.Node.{Node}
use Rattle.text_model.specs.Lines.{Adds}
use Rattle.view_planes.specs.HalfSpaces.{HalfSpaceSeen, side_of}
use Rattle.still_texts.specs.Sides.{side_line, side_lines, sides_of}

-- the lines so far, and those of the nodes that are left, are those of all
abbrev pub AreLinesBefore : HalfSpaceSeen → List Node → ℕ → List ℕ → Type 0
AreLinesBefore plane nodes node text = text ++ side_lines node (sides_of plane (drop node nodes)) ≡ side_lines 0 (sides_of plane nodes)

drop_first : (nodes : List Node) (v : ℕ) (node : Node) → slice_get nodes v ≡ Some node → drop v nodes ≡ node ∷ drop (suc v) nodes
drop_first [] v node here = absurd cc
drop_first (n ∷ ns) zero node here = let same : n ≡ node = cc in ap (λ (m : Node). m ∷ ns) same
drop_first (n ∷ ns) (suc v) node here = drop_first ns v node here

drop_next : (nodes : List Node) (v : ℕ) (node : Node) → slice_get nodes v ≡ Some node → drop v nodes ≡ node ∷ drop (v + 1) nodes
drop_next nodes v node here = rw (add-one) (drop_first nodes v node here)

-- one more node has its line
pub line_more : (plane : HalfSpaceSeen) (nodes : List Node) (v : ℕ) (node : Node) (before after : List ℕ) → slice_get nodes v ≡ Some node → AreLinesBefore plane nodes v before → Adds before after (side_line v (side_of plane node.ball)) → AreLinesBefore plane nodes (v + 1) after
unfolding side_lines
line_more plane nodes v node before after here are adds =
    let line = side_line v (side_of plane node.ball) in
    let rest = side_lines (v + 1) (sides_of plane (drop (v + 1) nodes)) in
    ap (λ (t : List ℕ). t ++ rest) adds.is ∙ append_assoc before line rest
    ∙ ap (λ (ns : List Node). before ++ side_lines v (sides_of plane ns)) (sym (drop_next nodes v node here)) ∙ are

drop_all : (nodes : List Node) → drop (length nodes) nodes ≡ []
drop_all [] = refl
drop_all (n ∷ ns) = drop_all ns

-- where no node is left the lines are all
pub lines_whole : (plane : HalfSpaceSeen) (nodes : List Node) (count : ℕ) (text : List ℕ) → count ≡ length nodes → AreLinesBefore plane nodes count text → text ≡ side_lines 0 (sides_of plane nodes)
unfolding side_lines
lines_whole plane nodes count text all are =
    sym (append-nil text) ∙ ap (λ (ns : List Node). text ++ side_lines count (sides_of plane ns)) (sym (drop_all nodes) ∙ ap (λ (n : ℕ). drop n nodes) (sym all)) ∙ are
