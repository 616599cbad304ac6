-- Lists of sums in which a key may stand more than once: what it has in all, and the tight list of that.
use Rattle.std.specs.Prelude.{ℕ, cond, List, [], ◌∷◌, ℤ, pos, ◌+ℤ◌, unsigned_abs}
use Rattle.std.specs.List.{sum_by}
use Rattle.std.specs.declared.cmp.Ordering.{Ordering}
use Rattle.std.specs.declared.cmp.Ordering.TheVariants.{Less, Equal, Greater}
use Rattle.std.specs.Ordering.{int_eq}
use Rattle.std.specs.BTreeMap.{is_at}

-- 1 where the integer isn't 0
abbrev pub some : ℤ → ℕ
some z = cond (int_eq z (pos 0)) 0 1

-- how large the sums are together, without sign
unfoldable pub weight : {K : Type 0} → List (K × ℤ) → ℕ
weight es = sum_by (λ e. unsigned_abs e.1) es

-- an entry before others, unless its integer is 0
abbrev pub unless_zero : {K : Type 0} → K × ℤ → List (K × ℤ) → List (K × ℤ)
unless_zero e rest = cond (int_eq e.1 (pos 0)) rest (e ∷ rest)

-- the list of an entry, unless its integer is 0
abbrev pub alone : {K : Type 0} → K × ℤ → List (K × ℤ)
alone e = unless_zero e []

module _ {K : Type 0} (R : K → K → Ordering) where
  -- what an entry adds at a key
  abbrev pub part : K → K × ℤ → ℤ
  part q e = cond (is_at (R q) e.0) e.1 (pos 0)

  -- what a key has in all
  unfoldable pub total : List (K × ℤ) → K → ℤ
  total [] q = pos 0
  total (e ∷ es) q = part q e +ℤ total es q

  -- an entry before a tight list, by its key and the first one's
  abbrev pub put_by : Ordering → K × ℤ → K × ℤ → List (K × ℤ) → List (K × ℤ) → List (K × ℤ)
  put_by Less e f fs again = unless_zero e (f ∷ fs)
  put_by Equal e f fs again = unless_zero (f.0, e.1 +ℤ f.1) fs
  put_by Greater e f fs again = f ∷ again

  -- a tight list with an entry more
  abbrev pub put : K × ℤ → List (K × ℤ) → List (K × ℤ)
  put e [] = alone e
  put e (f ∷ fs) = put_by (R e.0 f.0) e f fs (put e fs)

  -- the tight list with these totals
  unfoldable pub normal : List (K × ℤ) → List (K × ℤ)
  normal [] = []
  normal (e ∷ es) = put e (normal es)
