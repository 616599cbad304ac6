-- How products of whole numbers multiply out.
use Rattle.std.proofs.Common.{◌≡◌, ℤ, pos, negsuc, zero, suc, ◌+ℤ◌, ◌*ℤ◌, neg_ℤ, arith}
use Rattle.std.proofs.lemmas.Int.{ints}
use Rattle.std.proofs.Math.IntN.{suc_ℤ-*ℤ, pred_ℤ-*ℤ, *ℤ_comm, zero-*ℤ}

pub distrib : (a b c : ℤ) → a *ℤ (b +ℤ c) ≡ a *ℤ b +ℤ a *ℤ c
distrib (pos zero) b c = omega (arith, ints, zero-*ℤ (b +ℤ c), zero-*ℤ b, zero-*ℤ c)
distrib (pos (suc n)) b c =
    omega (arith, ints, suc_ℤ-*ℤ (pos n) (b +ℤ c), suc_ℤ-*ℤ (pos n) b, suc_ℤ-*ℤ (pos n) c, distrib (pos n) b c)
distrib (negsuc zero) b c =
    omega (arith, ints, pred_ℤ-*ℤ (pos zero) (b +ℤ c), pred_ℤ-*ℤ (pos zero) b, pred_ℤ-*ℤ (pos zero) c, zero-*ℤ (b +ℤ c), zero-*ℤ b, zero-*ℤ c)
distrib (negsuc (suc n)) b c =
    omega (arith, ints, pred_ℤ-*ℤ (negsuc n) (b +ℤ c), pred_ℤ-*ℤ (negsuc n) b, pred_ℤ-*ℤ (negsuc n) c, distrib (negsuc n) b c)

pub distrib_right : (a b c : ℤ) → (a +ℤ b) *ℤ c ≡ a *ℤ c +ℤ b *ℤ c
distrib_right a b c = omega (arith, ints, *ℤ_comm (a +ℤ b) c, *ℤ_comm a c, *ℤ_comm b c, distrib c a b)

pub times_neg : (a b : ℤ) → a *ℤ neg_ℤ b ≡ neg_ℤ (a *ℤ b)
times_neg (pos zero) b = omega (arith, ints, zero-*ℤ (neg_ℤ b), zero-*ℤ b)
times_neg (pos (suc n)) b = omega (arith, ints, suc_ℤ-*ℤ (pos n) (neg_ℤ b), suc_ℤ-*ℤ (pos n) b, times_neg (pos n) b)
times_neg (negsuc zero) b = omega (arith, ints, pred_ℤ-*ℤ (pos zero) (neg_ℤ b), pred_ℤ-*ℤ (pos zero) b, zero-*ℤ (neg_ℤ b), zero-*ℤ b)
times_neg (negsuc (suc n)) b =
    omega (arith, ints, pred_ℤ-*ℤ (negsuc n) (neg_ℤ b), pred_ℤ-*ℤ (negsuc n) b, times_neg (negsuc n) b)

pub neg_times : (a b : ℤ) → neg_ℤ a *ℤ b ≡ neg_ℤ (a *ℤ b)
neg_times a b = omega (arith, ints, *ℤ_comm (neg_ℤ a) b, *ℤ_comm a b, times_neg b a)

pub assoc : (a b c : ℤ) → (a *ℤ b) *ℤ c ≡ a *ℤ (b *ℤ c)
assoc (pos zero) b c = rw (zero-*ℤ b) (omega (arith, ints, zero-*ℤ c, zero-*ℤ (b *ℤ c)))
assoc (pos (suc n)) b c =
    rw (suc_ℤ-*ℤ (pos n) b) (omega (arith, ints, distrib_right (pos n *ℤ b) b c, assoc (pos n) b c, suc_ℤ-*ℤ (pos n) (b *ℤ c)))
assoc (negsuc zero) b c =
    rw (pred_ℤ-*ℤ (pos zero) b, zero-*ℤ b) (omega (arith, ints, distrib_right (pos zero) (neg_ℤ b) c, zero-*ℤ c, neg_times b c, pred_ℤ-*ℤ (pos zero) (b *ℤ c), zero-*ℤ (b *ℤ c)))
assoc (negsuc (suc n)) b c =
    rw (pred_ℤ-*ℤ (negsuc n) b) (omega (arith, ints, distrib_right (negsuc n *ℤ b) (neg_ℤ b) c, neg_times b c, assoc (negsuc n) b c, pred_ℤ-*ℤ (negsuc n) (b *ℤ c)))
