-- A set of nodes as a list of flags: what it has once a node is put in.
use Rattle.std.proofs.Common.{◌≡◌, ℕ, zero, suc, ◌<◌, ◌⊎◌, Bool, true, false, List, [], ◌∷◌, length, replicate, refl, ap, arith, inl, inr}
use Rattle.round_model.specs.Rounds.{has, with_member}

pub still_has : (set : List Bool) (v u : ℕ) → has set u ≡ true → has (with_member set v) u ≡ true
still_has [] v u h = h
still_has (t ∷ ts) zero zero h = refl
still_has (t ∷ ts) zero (suc u) h = h
still_has (t ∷ ts) (suc v) zero h = h
still_has (t ∷ ts) (suc v) (suc u) h = still_has ts v u h

pub had_or_is : (set : List Bool) (v u : ℕ) → has (with_member set v) u ≡ true → (v ≡ u) ⊎ (has set u ≡ true)
had_or_is [] v u h = inr h
had_or_is (t ∷ ts) zero zero h = inl refl
had_or_is (t ∷ ts) zero (suc u) h = inr h
had_or_is (t ∷ ts) (suc v) zero h = inr h
had_or_is (t ∷ ts) (suc v) (suc u) h =
    elim (had_or_is ts v u h) [
      | inl same ↦ inl (ap suc same)
      | inr had ↦ inr had
    ]

pub has_member : (set : List Bool) (v : ℕ) → v < length set → has (with_member set v) v ≡ true
has_member [] v h = absurd (omega arith)
has_member (t ∷ ts) zero h = refl
has_member (t ∷ ts) (suc v) h = has_member ts v (omega arith)

pub empty_has_none : (n v : ℕ) → has (replicate n false) v ≡ false
empty_has_none zero v = refl
empty_has_none (suc n) zero = refl
empty_has_none (suc n) (suc v) = empty_has_none n v

pub as_many_members : (set : List Bool) (v : ℕ) → length (with_member set v) ≡ length set
as_many_members [] v = refl
as_many_members (t ∷ ts) zero = refl
as_many_members (t ∷ ts) (suc v) = ap suc (as_many_members ts v)
