-- Lists of patches, one behind the other.
use Rattle.std.proofs.Common.{◌≡◌, ℕ, zero, suc, ◌-◌, ◌≤◌, ◌⊎◌, inl, inr, ⊎_elim, List, [], ◌∷◌, ◌++◌, Some, length, take, drop, arith, sym, ◌∙◌, ap, subst, refl, length-append, length-drop}
use Rattle.std.specs.List.{slice_get, slice_range}
use Rattle.std.specs.Option.{option_map}
use Rattle.std.proofs.lemmas.List.{drop-append-le, take-append-le, drop_at, take_all, length-map}
use Rattle.std.proofs.lemmas.Option.{slice_get-map}
use Rattle.file_model.specs.declared.fields.PatchField.{PatchField}
use Rattle.mesh_model.specs.declared.sides.NodeSide.{NodeSide}
use Rattle.mesh_graph.specs.declared.arcs.Span.{Span}
use Rattle.mesh_graph.specs.Sides.{patches_at}
use Rattle.mesh_graph.specs.Spans.{list_in, lists_in, IsSpan, AreSpans}
use Rattle.mesh_graph.specs.Adjacency.{IsAdjacency}
use Rattle.mesh_graph.specs.ListReads.{slice_get-there}

pub slice_get-push_cases : {X : Type 0} → (xs : List X) (y : X) (i : ℕ) (x : X) → slice_get (xs ++ y ∷ []) i ≡ Some x → (slice_get xs i ≡ Some x) ⊎ ((i ≡ length xs) × (y ≡ x))
slice_get-push_cases [] y zero x h = inr (refl, (let e : y ≡ x = cc in e))
slice_get-push_cases [] y (suc i) x h = absurd cc
slice_get-push_cases (z ∷ zs) y zero x h = inl h
slice_get-push_cases (z ∷ zs) y (suc i) x h =
    ⊎_elim
    (λ (old : slice_get zs i ≡ Some x). inl old)
    (λ (last : (i ≡ length zs) × (y ≡ x)). inr (ap suc last.0, last.1))
    (slice_get-push_cases zs y i x h)

-- what is appended leaves a span as it is
range_kept : (xs more : List ℕ) (start end : ℕ) → start ≤ end → end ≤ length xs → slice_range (xs ++ more) start end ≡ slice_range xs start end
range_kept xs more start end ordered within =
    let short : end - start ≤ length (drop start xs) = rw length-drop (omega arith) in
    ap (take (end - start)) (drop-append-le start xs more (omega arith)) ∙ take-append-le (end - start) (drop start xs) more short

range_new : (xs more : List ℕ) → slice_range (xs ++ more) (length xs) (length (xs ++ more)) ≡ more
range_new xs more =
    ap (take (length (xs ++ more) - length xs)) (drop_at xs more (length xs) refl) ∙ take_all (length (xs ++ more) - length xs) more (omega (arith, length-append xs more))

-- the spans that were made hold the patches of the nodes so far
pub record AreSpansOf (side : NodeSide) (fields : List PatchField) (patches : List ℕ) (spans : List Span) : Type 0 where
  pub are : AreSpans patches spans
  pub each : (v : ℕ) (span : Span) → slice_get spans v ≡ Some span → list_in patches span ≡ patches_at side fields v

-- one node more
pub spans_more : (side : NodeSide) (fields : List PatchField) (patches more : List ℕ) (spans : List Span) (span : Span) → AreSpansOf side fields patches spans → more ≡ patches ++ patches_at side fields (length spans) → span.start ≡ length patches → span.end ≡ length more → AreSpansOf side fields more (spans ++ span ∷ [])
spans_more side fields patches more spans span are is start end =
    let longer : length patches ≤ length more = omega (arith, ap length is, length-append patches (patches_at side fields (length spans))) in
    record {
      are = λ v s h. ⊎_elim
          (λ (old : slice_get spans v ≡ Some s). record { ordered = (are.are v s old).ordered; within = omega (arith, (are.are v s old).within) })
          (λ (last : (v ≡ length spans) × (span ≡ s)). subst (λ (t : Span). IsSpan more t) last.1 (record { ordered = omega (arith, start, end); within = omega (arith, end) }))
          (slice_get-push_cases spans span v s h);
      each = λ v s h. ⊎_elim
          (λ (old : slice_get spans v ≡ Some s).
          ap (λ (ps : List ℕ). list_in ps s) is ∙ range_kept patches (patches_at side fields (length spans)) s.start s.end (are.are v s old).ordered (are.are v s old).within ∙ are.each v s old)
          (λ (last : (v ≡ length spans) × (span ≡ s)).
          ap (list_in more) (sym last.1) ∙ ap (λ (a : ℕ). slice_range more a span.end) start ∙ ap (slice_range more (length patches)) end
          ∙ ap (λ (ps : List ℕ). slice_range ps (length patches) (length ps)) is ∙ range_new patches (patches_at side fields (length spans)) ∙ ap (patches_at side fields) (sym last.0))
          (slice_get-push_cases spans span v s h);
    }

-- the spans of all nodes
pub arcs_from_spans : (side : NodeSide) (fields : List PatchField) (nodes : ℕ) (patches : List ℕ) (spans : List Span) → length spans ≡ nodes → AreSpansOf side fields patches spans → IsAdjacency side fields nodes (lists_in patches spans)
arcs_from_spans side fields nodes patches spans as_many are = record {
  as_many = length-map spans (list_in patches) ∙ as_many;
  each = λ v v_in.
      let span : (s : Span) × (slice_get spans v ≡ Some s) = slice_get-there spans v (omega (arith, as_many)) in
      slice_get-map (list_in patches) spans v ∙ ap (option_map (list_in patches)) span.1 ∙ ap Some (are.each v span.0 span.1);
}
