-- Gathering: sorted sums become tight from the front on.
use Rattle.std.specs.Prelude.{◌≡◌, ◌+◌, ◌≤◌, false, List, [], ◌∷◌, ◌++◌, ℤ, ◌+ℤ◌}
use Rattle.std.specs.declared.cmp.Ordering.{Ordering}
use Rattle.std.specs.declared.cmp.Ordering.TheVariants.{Equal}
use Rattle.std.specs.Ordering.{is_lt, is_eq}
use Rattle.std.specs.List.{AllByRecursion}
use Rattle.edge_chain.specs.Gaps.{IsTight}
use Rattle.edge_chain.specs.Totals.{total, weight}

module _ {K : Type 0} (R : K → K → Ordering) where
  -- no key comes before an earlier one
  unfoldable pub Rises : List (K × ℤ) → Type 0
  Rises [] = Unit {0}
  Rises (e ∷ es) = AllByRecursion (λ f. is_lt (R f.0 e.0) ≡ false) es × Rises es

  -- an entry joins the last kept one if they tie
  pub data Meets (kept : List (K × ℤ)) (e : K × ℤ) : List (K × ℤ) → ℤ → Type 0 where
    Starts : kept ≡ [] → Meets kept e kept e.1
    Follows : (front : List (K × ℤ)) (last : K × ℤ) → kept ≡ front ++ last ∷ [] → is_eq (R last.0 e.0) ≡ false → Meets kept e kept e.1
    Joins : (front : List (K × ℤ)) (last : K × ℤ) → kept ≡ front ++ last ∷ [] → R last.0 e.0 ≡ Equal → Meets kept e front (last.1 +ℤ e.1)

  -- what was kept is tight, what is left follows it in order, and together they are the whole
  pub record Gathers (kept rest whole : List (K × ℤ)) : Type 0 where
    pub totals : (q : K) → total R kept q +ℤ total R rest q ≡ total R whole q
    pub tight : IsTight R kept
    pub rises : Rises rest
    pub behind : AllByRecursion (λ k. AllByRecursion (λ f. is_lt (R f.0 k.0) ≡ false) rest) kept
    pub weights : weight kept + weight rest ≤ weight whole

  -- a tight list with the totals of the whole
  pub record Gathered (whole kept : List (K × ℤ)) : Type 0 where
    pub totals : (q : K) → total R kept q ≡ total R whole q
    pub tight : IsTight R kept
    pub weights : weight kept ≤ weight whole
