-- Laws of ranks: wishes rank patches, and so does the order turned about.
use Rattle.std.proofs.Common.{◌≡◌, ℕ, Bool, false, sym, inl, inr}
use Rattle.std.proofs.lemmas.Bool.{cases_Bool}
use Rattle.tier_heap.specs.Laws.{above_not_below, not_above_self, above_from_not_below, above_trans}
use Rattle.tier_heap.specs.Entries.{is_above}
use Rattle.tier_model.specs.Ranks.{outranks, IsRanking}

pub outranks_is_ranking : (wish : ℕ → ℕ) → IsRanking (outranks wish)
unfolding outranks
outranks_is_ranking wish = record {
  either = λ p q ne. elim (cases_Bool (is_above (q, wish q) (p, wish p))) [
    | inl is ↦ inr is
    | inr never ↦ inl (above_from_not_below (p, wish p) (q, wish q) ne never)
  ];
  one_way = λ p q h. above_not_below (p, wish p) (q, wish q) h;
  chain = λ p q r h l. above_trans (p, wish p) (q, wish q) (r, wish r) h l;
}

pub turned_is_ranking : (above : ℕ → ℕ → Bool) → IsRanking above → IsRanking (λ p q. above q p)
turned_is_ranking above ranking = record {
  either = λ p q ne. ranking.either q p (λ same. ne (sym same));
  one_way = λ p q h. ranking.one_way q p h;
  chain = λ p q r h l. ranking.chain r q p l h;
}

-- no patch outranks itself
pub outranks_never_itself : (wish : ℕ → ℕ) (p : ℕ) → outranks wish p p ≡ false
unfolding outranks
outranks_never_itself wish p = not_above_self (p, wish p)
