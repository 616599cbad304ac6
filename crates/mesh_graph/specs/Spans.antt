-- Lists that stand one behind the other in one list.
use Rattle.std.specs.Prelude.{◌≡◌, ℕ, ◌≤◌, List, length, map, slice_range, slice_get, Some}
use Rattle.mesh_graph.specs.declared.arcs.Span.{Span}

-- what stands in a span
abbrev pub list_in : List ℕ → Span → List ℕ
list_in patches span = slice_range patches span.start span.end

abbrev pub lists_in : List ℕ → List Span → List (List ℕ)
lists_in patches spans = map (list_in patches) spans

-- the span stands in the list
pub record IsSpan (patches : List ℕ) (span : Span) : Type 0 where
  pub ordered : span.start ≤ span.end
  pub within : span.end ≤ length patches

abbrev pub AreSpans : List ℕ → List Span → Type 0
AreSpans patches spans = (v : ℕ) (span : Span) → slice_get spans v ≡ Some span → IsSpan patches span
