-- Tiers in a list that was split behind one of them, and a list that was written through.
use Rattle.std.proofs.Common.{◌≡◌, ℕ, zero, suc, ◌+◌, ◌<◌, ◌≤◌, List, [], ◌∷◌, ◌++◌, length, take, drop, Some, None, refl, sym, ap, ◌∙◌, arith}
use Rattle.std.specs.Prelude.{slice_get, slice_set, slice_index_or}
use Rattle.std.proofs.lemmas.List.{length-set, length-map, map-set}
use Rattle.tier_model.specs.Tiers.{TierState}
use Rattle.tier_laws.specs.BodyLaws.{get-set_same}
use Rattle.tier_budget.specs.TierView.{TierSeen}
use Rattle.cache_chain.specs.ChainStates.{states_of}

-- the item of a list, as it is read
pub state_at : (tiers : List TierSeen) (k : ℕ) (d : TierSeen) → k < length tiers → slice_get (states_of tiers) k ≡ Some (slice_index_or tiers k d).state
state_at [] k d within = absurd (omega arith)
state_at (t ∷ tiers) zero d within = refl
state_at (t ∷ tiers) (suc k) d within = state_at tiers k d (omega arith)

-- ---- a list in two parts

in_front : (front back : List TierSeen) (k : ℕ) (d : TierSeen) → k < length front → slice_get (states_of (front ++ back)) k ≡ Some (slice_index_or front k d).state
in_front [] back k d within = absurd (omega arith)
in_front (t ∷ front) back zero d within = refl
in_front (t ∷ front) back (suc k) d within = in_front front back k d (omega arith)

behind : (front back : List TierSeen) (n : ℕ) → length front ≡ n → slice_get (states_of (front ++ back)) n ≡ slice_get (states_of back) 0
behind [] back zero many = refl
behind [] back (suc n) many = absurd (omega arith)
behind (t ∷ front) back zero many = absurd (omega arith)
behind (t ∷ front) back (suc n) many = behind front back n (omega arith)

set_in_front : (front back : List TierSeen) (k : ℕ) (t : TierSeen) → k < length front → states_of (slice_set front k t ++ back) ≡ slice_set (states_of (front ++ back)) k t.state
set_in_front [] back k t within = absurd (omega arith)
set_in_front (u ∷ front) back zero t within = refl
set_in_front (u ∷ front) back (suc k) t within = ap (λ (ss : List TierState). u.state ∷ ss) (set_in_front front back k t (omega arith))

module _ (all front back : List TierSeen) (k : ℕ) (is : all ≡ front ++ back) (many : length front ≡ k + 1) where
  -- the last tier of the front
  pub tier_split : (d : TierSeen) → slice_get (states_of all) k ≡ Some (slice_index_or front k d).state
  tier_split d = ap (λ (ts : List TierSeen). slice_get (states_of ts) k) is ∙ in_front front back k d (omega arith)

  next_split : slice_get (states_of all) (suc k) ≡ slice_get (states_of back) 0
  next_split = ap (λ (ts : List TierSeen). slice_get (states_of ts) (suc k)) is ∙ behind front back (suc k) (omega arith)

  first_is : (tiers : List TierSeen) (below : TierSeen) → Some below ≡ slice_get tiers 0 → slice_get (states_of tiers) 0 ≡ Some below.state
  first_is [] below first = absurd (cc)
  first_is (t ∷ tiers) below first = let same : below ≡ t = cc in ap (λ (u : TierSeen). Some u.state) (sym same)

  no_first : (tiers : List TierSeen) → None ≡ slice_get tiers 0 → slice_get (states_of tiers) 0 ≡ None
  no_first [] first = refl
  no_first (t ∷ tiers) first = absurd (cc)

  -- the first behind it
  pub next_is : (below : TierSeen) → Some below ≡ slice_get back 0 → slice_get (states_of all) (suc k) ≡ Some below.state
  next_is below first = next_split ∙ first_is back below first

  pub none_next : None ≡ slice_get back 0 → slice_get (states_of all) (suc k) ≡ None
  none_next first = next_split ∙ no_first back first

  -- that tier was written
  pub set_split : (t : TierSeen) → states_of (slice_set front k t ++ back) ≡ slice_set (states_of all) k t.state
  set_split t = set_in_front front back k t (omega arith) ∙ ap (λ (ts : List TierSeen). slice_set (states_of ts) k t.state) (sym is)

  pub written_is : (t : TierSeen) (s : TierState) → slice_get (states_of (slice_set front k t ++ back)) k ≡ Some s → t.state ≡ s
  written_is t s at = get-set_same (states_of all) k t.state s (sym (ap (λ (ss : List TierState). slice_get ss k) (set_split t)) ∙ at)

-- ---- a list that was written through a slice of as many items

take_front : {X : Type 0} (xs rest : List X) (n : ℕ) → length xs ≡ n → take n (xs ++ rest) ≡ xs
take_front [] rest zero many = refl
take_front [] rest (suc n) many = absurd (omega arith)
take_front (x ∷ xs) rest zero many = absurd (omega arith)
take_front (x ∷ xs) rest (suc n) many = ap (λ (ys : List _). x ∷ ys) (take_front xs rest n (omega arith))

pub written_whole : {X : Type 0} (before now : List X) → length now ≡ length before → take (length before) (now ++ drop (length now) before) ≡ now
written_whole before now many = take_front now (drop (length now) before) (length before) many

-- the first was written
pub first_written : (before : List TierSeen) (t : TierSeen) → states_of (take (length before) (slice_set before 0 t ++ drop (length (slice_set before 0 t)) before)) ≡ slice_set (states_of before) 0 t.state
first_written before t = ap states_of (written_whole before (slice_set before 0 t) (length-set before 0 t)) ∙ map-set (λ (u : TierSeen). u.state) before 0 t

pub many_states : (tiers : List TierSeen) → length (states_of tiers) ≤ 4 → length tiers ≤ 4
many_states tiers few = let same = length-map tiers (λ (t : TierSeen). t.state) in omega arith
