-- What leads to an inner node of the strip and what leads from it has one net.
use Rattle.std.proofs.Common.{◌≡◌, ℕ, ◌+◌, ◌-◌, ◌*◌, ◌<◌, Bool, true, false, [], ◌++◌, refl, sym, ap, ◌∙◌, arith, append-nil}
use Rattle.std.specs.List.{flat_map}
use Rattle.std.proofs.lemmas.Bool.{eq-eqb, ne_eqb}
use Rattle.grid_vertex.specs.declared.points.Point.{Point}
use Rattle.file_model.specs.declared.fields.PatchField.{PatchField}
use Rattle.file_model.specs.Lists.{triangle_of, triangles_from, point_at_place}
use Rattle.mesh_model.specs.Graph.{leads_to, leads_from}
use Rattle.mesh_model.specs.Nets.{net, HaveOneNet}
use Rattle.mesh_model.specs.Accepted.{triangles_to, triangles_out_of}
use Rattle.strip_laws.specs.Strip.{low, high, middle, halfway, square_at, edge_at, square, left_half, right_half, halves, opened, strip_patches, strip_file}
use Rattle.strip_laws.specs.Picks.{given, given_some, given_none, own, chosen_given, parts_by_kind, none_from, one_from, two_from}
use Rattle.strip_laws.specs.EdgeNets.{square_net, edge_net}
use Rattle.strip_laws.specs.StripGraph.{edge_is, edge_above, edge_apart}

-- two halves that both fail or pass
two_none : (test : PatchField → Bool) (c i : ℕ) → test (left_half c i).field ≡ false → test (right_half c i).field ≡ false → flat_map (given test own) (halves c i) ≡ []
two_none test c i l r = λ t. given_none test own (left_half c i) l t ++ (given_none test own (right_half c i) r t ++ [])

two_some : (test : PatchField → Bool) (c i : ℕ) → test (left_half c i).field ≡ true → test (right_half c i).field ≡ true → flat_map (given test own) (halves c i) ≡ own (left_half c i) ++ own (right_half c i)
two_some test c i l r = (λ t. given_some test own (left_half c i) l t ++ (given_some test own (right_half c i) r t ++ [])) ∙ ap (λ rest. own (left_half c i) ++ rest) (append-nil (own (right_half c i)))

left_some : (test : PatchField → Bool) (c i : ℕ) → test (left_half c i).field ≡ true → test (right_half c i).field ≡ false → flat_map (given test own) (halves c i) ≡ own (left_half c i)
left_some test c i l r = (λ t. given_some test own (left_half c i) l t ++ (given_none test own (right_half c i) r t ++ [])) ∙ append-nil (own (left_half c i))

right_some : (test : PatchField → Bool) (c i : ℕ) → test (left_half c i).field ≡ false → test (right_half c i).field ≡ true → flat_map (given test own) (halves c i) ≡ own (right_half c i)
right_some test c i l r = (λ t. given_none test own (left_half c i) l t ++ (given_some test own (right_half c i) r t ++ [])) ∙ append-nil (own (right_half c i))

-- ---- a square

pub to_square : (version c i : ℕ) → i < c → triangles_to (strip_file version c) (square_at i) ≡ own (square i)
to_square version c i less =
    chosen_given (leads_to (square_at i)) (strip_patches c)
    ∙ parts_by_kind (given (leads_to (square_at i)) own) c (own (square i)) [] []
    (one_from (λ k. given (leads_to (square_at i)) own (square k)) c 0 i (omega arith) (omega arith) (λ k from below apart. given_none (leads_to (square_at i)) own (square k) (ne_eqb (square_at k) (square_at i) (λ e. apart (omega arith))))
    ∙ given_some (leads_to (square_at i)) own (square i) (eq-eqb (square_at i) (square_at i) refl))
    (none_from (λ k. flat_map (given (leads_to (square_at i)) own) (halves c k)) c 0 (λ k from below. two_none (leads_to (square_at i)) c k
    (ne_eqb (edge_at c k) (square_at i) (λ e. absurd (omega (arith, edge_above c k (omega arith)))))
    (ne_eqb (edge_at c (k + 1)) (square_at i) (λ e. absurd (omega (arith, edge_above c (k + 1) (omega arith)))))))
    (none_from (λ j. given (leads_to (square_at i)) own (opened c j)) (c - 1) 0 (λ j from below. given_none (leads_to (square_at i)) own (opened c j) (ne_eqb (2 * c) (square_at i) (λ e. absurd (omega arith)))))
    ∙ append-nil (own (square i))

pub from_square : (version c i : ℕ) → i < c → triangles_out_of (strip_file version c) (square_at i) ≡ own (left_half c i) ++ own (right_half c i)
from_square version c i less =
    chosen_given (leads_from (square_at i)) (strip_patches c)
    ∙ parts_by_kind (given (leads_from (square_at i)) own) c [] (own (left_half c i) ++ own (right_half c i)) []
    (none_from (λ k. given (leads_from (square_at i)) own (square k)) c 0 (λ k from below. given_none (leads_from (square_at i)) own (square k) (ne_eqb 0 (square_at i) (λ e. absurd (omega arith)))))
    (one_from (λ k. flat_map (given (leads_from (square_at i)) own) (halves c k)) c 0 i (omega arith) (omega arith) (λ k from below apart. two_none (leads_from (square_at i)) c k
    (ne_eqb (square_at k) (square_at i) (λ e. apart (omega arith)))
    (ne_eqb (square_at k) (square_at i) (λ e. apart (omega arith))))
    ∙ two_some (leads_from (square_at i)) c i (eq-eqb (square_at i) (square_at i) refl) (eq-eqb (square_at i) (square_at i) refl))
    (none_from (λ j. given (leads_from (square_at i)) own (opened c j)) (c - 1) 0 (λ j from below. given_none (leads_from (square_at i)) own (opened c j) (ne_eqb (c + (j + 1)) (square_at i) (λ e. absurd (omega arith)))))
    ∙ append-nil (own (left_half c i) ++ own (right_half c i))

square_fills : (c i : ℕ) (a b : Point) → net (own (square i)) a b ≡ net (own (left_half c i) ++ own (right_half c i)) a b
unfolding triangles_from triangle_of point_at_place
square_fills c i a b = square_net (low i) (low (i + 1)) (high (i + 1)) (high i) (middle i) a b

pub square_keeps : (version c i : ℕ) → i < c → HaveOneNet (triangles_to (strip_file version c) (square_at i)) (triangles_out_of (strip_file version c) (square_at i))
square_keeps version c i less a b =
    ap (λ ts. net ts a b) (to_square version c i less) ∙ square_fills c i a b ∙ ap (λ ts. net ts a b) (sym (from_square version c i less))

-- ---- an edge between squares j and j + 1

pub to_edge : (version c j : ℕ) → j + 1 < c → triangles_to (strip_file version c) (c + (j + 1)) ≡ own (right_half c j) ++ own (left_half c (j + 1))
to_edge version c j less =
    let here : edge_at c (j + 1) ≡ c + (j + 1) = edge_is c (j + 1) (omega arith) in
    chosen_given (leads_to (c + (j + 1))) (strip_patches c)
    ∙ parts_by_kind (given (leads_to (c + (j + 1))) own) c [] (own (right_half c j) ++ own (left_half c (j + 1))) []
    (none_from (λ k. given (leads_to (c + (j + 1))) own (square k)) c 0 (λ k from below. given_none (leads_to (c + (j + 1))) own (square k) (ne_eqb (square_at k) (c + (j + 1)) (λ e. absurd (omega arith)))))
    (two_from (λ k. flat_map (given (leads_to (c + (j + 1))) own) (halves c k)) c 0 j (omega arith) (omega arith) (λ k from below apart apart'. two_none (leads_to (c + (j + 1))) c k
    (ne_eqb (edge_at c k) (c + (j + 1)) (edge_apart c k (j + 1) less apart'))
    (ne_eqb (edge_at c (k + 1)) (c + (j + 1)) (edge_apart c (k + 1) (j + 1) less (λ e. apart (omega arith)))))
    ∙ (λ t. right_some (leads_to (c + (j + 1))) c j
    (ne_eqb (edge_at c j) (c + (j + 1)) (edge_apart c j (j + 1) less (λ e. absurd (omega arith))))
    (eq-eqb (edge_at c (j + 1)) (c + (j + 1)) here) t
    ++ left_some (leads_to (c + (j + 1))) c (j + 1)
    (eq-eqb (edge_at c (j + 1)) (c + (j + 1)) here)
    (ne_eqb (edge_at c (j + 1 + 1)) (c + (j + 1)) (edge_apart c (j + 1 + 1) (j + 1) less (λ e. absurd (omega arith)))) t))
    (none_from (λ k. given (leads_to (c + (j + 1))) own (opened c k)) (c - 1) 0 (λ k from below. given_none (leads_to (c + (j + 1))) own (opened c k) (ne_eqb (2 * c) (c + (j + 1)) (λ e. absurd (omega arith)))))
    ∙ append-nil (own (right_half c j) ++ own (left_half c (j + 1)))

pub from_edge : (version c j : ℕ) → j + 1 < c → triangles_out_of (strip_file version c) (c + (j + 1)) ≡ own (opened c j)
from_edge version c j less =
    chosen_given (leads_from (c + (j + 1))) (strip_patches c)
    ∙ parts_by_kind (given (leads_from (c + (j + 1))) own) c [] [] (own (opened c j))
    (none_from (λ k. given (leads_from (c + (j + 1))) own (square k)) c 0 (λ k from below. given_none (leads_from (c + (j + 1))) own (square k) (ne_eqb 0 (c + (j + 1)) (λ e. absurd (omega arith)))))
    (none_from (λ k. flat_map (given (leads_from (c + (j + 1))) own) (halves c k)) c 0 (λ k from below. two_none (leads_from (c + (j + 1))) c k
    (ne_eqb (square_at k) (c + (j + 1)) (λ e. absurd (omega arith)))
    (ne_eqb (square_at k) (c + (j + 1)) (λ e. absurd (omega arith)))))
    (one_from (λ k. given (leads_from (c + (j + 1))) own (opened c k)) (c - 1) 0 j (omega arith) (omega arith) (λ k from below apart. given_none (leads_from (c + (j + 1))) own (opened c k) (ne_eqb (c + (k + 1)) (c + (j + 1)) (λ e. apart (omega arith))))
    ∙ given_some (leads_from (c + (j + 1))) own (opened c j) (eq-eqb (c + (j + 1)) (c + (j + 1)) refl))

edge_fills : (c j : ℕ) (a b : Point) → net (own (right_half c j) ++ own (left_half c (j + 1))) a b ≡ net (own (opened c j)) a b
unfolding triangles_from triangle_of point_at_place
edge_fills c j a b = edge_net (low (j + 1)) (high (j + 1)) (high j) (middle j) (low (j + 1 + 1)) (middle (j + 1)) (halfway (j + 1)) a b

pub edge_keeps : (version c j : ℕ) → j + 1 < c → HaveOneNet (triangles_to (strip_file version c) (c + (j + 1))) (triangles_out_of (strip_file version c) (c + (j + 1)))
edge_keeps version c j less a b =
    ap (λ ts. net ts a b) (to_edge version c j less) ∙ edge_fills c j a b ∙ ap (λ ts. net ts a b) (sym (from_edge version c j less))
