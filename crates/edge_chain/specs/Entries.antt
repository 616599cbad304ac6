-- What holds of the entries of a chain: an entry for each integer other than 0, and one list for one map.
use Rattle.std.specs.Prelude.{◌≡◌, ◌≢◌, Bool, true, List, [], ◌∷◌, ℤ, pos, Option, Some, None, MatchOption, IfSome, Contains, IsTrue, IsSome, unwrap_or, refl, suc}
use Rattle.std.proofs.Common.{sym, ap, ◌∙◌, arith}
use Rattle.std.specs.declared.cmp.Ordering.{Ordering}
use Rattle.std.specs.declared.cmp.Ordering.TheVariants.{Less, Equal, Greater}
use Rattle.std.specs.Ordering.{is_lt}
use Rattle.std.specs.List.{AllByRecursion}
use Rattle.std.specs.List.Sorted.{IsStrictlySortedBy}
use Rattle.std.specs.Map.{lookup, keys_of}
use Rattle.std.specs.BTreeMap.{is_at}
use Rattle.std.proofs.lemmas.Cmp.{eq_by_cmp_equiv}
use Rattle.std.proofs.lemmas.Map.Views.{tells_apart, Contains-from_lookup, Contains-keys_from_lookup, IsSome-lookup_from_Contains}
use Rattle.mesh_model.specs.Nets.{Pair, is_forward, is_pair_before, Ascend}
use Rattle.edge_chain.specs.Chains.{kept_net, AreEntries, HoldSame}
use Rattle.edge_chain.specs.Gaps.{Gap, first_gap, IsGap, IsTight, gap_key, gap_is}
use Rattle.edge_chain.specs.Orders.{pair_cmp, pair_cmp_total, pair_cmp_exact, is_same_pair_is, is_pair_before_is}

-- the integer of the pair's entry
abbrev pub entry_at : List (Pair × ℤ) → Pair → Option ℤ
entry_at entries p = lookup (is_at (pair_cmp p)) entries

pub held_is : (entries : List (Pair × ℤ)) (p : Pair) → kept_net entries p ≡ unwrap_or (entry_at entries p) (pos 0)
held_is entries p = ap (λ (test : Pair → Bool). unwrap_or (lookup test entries) (pos 0)) (λ i q. is_same_pair_is p q i)

less_from_lt : (o : Ordering) → is_lt o ≡ true → o ≡ Less
less_from_lt Less e = refl
less_from_lt Equal e = absurd cc
less_from_lt Greater e = absurd cc

all_less : (p : Pair) (ps : List Pair) → ((q : Pair) → Contains ps q → IsTrue (is_pair_before p q)) → AllByRecursion (λ q. pair_cmp p q ≡ Less) ps
all_less p [] h = tt
all_less p (q ∷ qs) h = (
  less_from_lt (pair_cmp p q) (sym (is_pair_before_is p q) ∙ h q (0, omega arith, refl)),
  all_less p qs (λ r k. h r (suc k.0, omega arith, k.2)),
)

pub sorted_from_ascend : (ps : List Pair) → Ascend ps → IsStrictlySortedBy pair_cmp ps
unfolding IsStrictlySortedBy
sorted_from_ascend [] h = tt
sorted_from_ascend (p ∷ ps) h = (all_less p ps h.0, sorted_from_ascend ps h.1)

pub contains_from_entry : (entries : List (Pair × ℤ)) (p : Pair) (v : ℤ) → entry_at entries p ≡ Some v → Contains entries (p, v)
contains_from_entry entries p v e = Contains-from_lookup (tells_apart pair_cmp_exact) p v entries e

-- a pair with an integer other than 0 has an entry
some_from_held : (found : Option ℤ) (v : ℤ) → unwrap_or found (pos 0) ≡ v → v ≢ pos 0 → IsSome found
some_from_held None v e h = absurd (h (sym e))
some_from_held (Some w) v e h = refl

pub contains_key_from_held : (entries : List (Pair × ℤ)) (p : Pair) → kept_net entries p ≢ pos 0 → Contains (keys_of entries) p
contains_key_from_held entries p h =
    Contains-keys_from_lookup (tells_apart pair_cmp_exact) p entries (some_from_held (entry_at entries p) (kept_net entries p) (sym (held_is entries p)) h)

-- what is known at a pair that has an entry
pub record IsEntry (entries : List (Pair × ℤ)) (p : Pair) : Type 0 where
  pub forward : IsTrue (is_forward p)
  pub not_zero : kept_net entries p ≢ pos 0

entry_known : (entries : List (Pair × ℤ)) → AreEntries entries → (p : Pair) (found : Option ℤ) → entry_at entries p ≡ found → IsSome found → IsEntry entries p
entry_known entries h p None e there = absurd cc
entry_known entries h p (Some v) e there =
    let in' = contains_from_entry entries p v e in
    record {
      forward = h.forward (p, v) in';
      not_zero = λ z. h.not_zero (p, v) in' (sym (held_is entries p ∙ ap (λ (o : Option ℤ). unwrap_or o (pos 0)) e) ∙ z);
    }

pub entry_from_key : (entries : List (Pair × ℤ)) → AreEntries entries → (p : Pair) → Contains (keys_of entries) p → IsEntry entries p
entry_from_key entries h p there =
    entry_known entries h p (entry_at entries p) refl (IsSome-lookup_from_Contains (eq_by_cmp_equiv pair_cmp_total) p entries there)

all_not_zero : (es : List (Pair × ℤ)) → ((e : Pair × ℤ) → Contains es e → e.1 ≢ pos 0) → AllByRecursion (λ e. e.1 ≢ pos 0) es
all_not_zero [] h = tt
all_not_zero (e ∷ es) h = (h e (0, omega arith, refl), all_not_zero es (λ f there. h f (suc there.0, omega arith, there.2)))

pub tight_entries : (entries : List (Pair × ℤ)) → AreEntries entries → IsTight pair_cmp entries
tight_entries entries h = record { ascending = sorted_from_ascend (keys_of entries) h.ascending; not_zero = all_not_zero entries h.not_zero }

all_forward : (es : List (Pair × ℤ)) → ((e : Pair × ℤ) → Contains es e → IsTrue (is_forward e.0)) → AllByRecursion (λ p. IsTrue (is_forward p)) (keys_of es)
all_forward [] h = tt
all_forward (e ∷ es) h = (h e (0, omega arith, refl), all_forward es (λ f there. h f (suc there.0, omega arith, there.2)))

no_gap : (here there : List (Pair × ℤ)) → HoldSame here there → (gap : Option (Gap Pair)) → MatchOption gap (here ≡ there) (IsGap pair_cmp here there) → IfSome gap (λ g. IsTrue (is_forward g.0)) → here ≡ there
no_gap here there same None is forward = is
no_gap here there same (Some g) is forward =
    absurd (is.differs (sym is.here_is ∙ sym (held_is here g.0) ∙ same g.0 forward ∙ held_is there g.0 ∙ is.there_is))

-- lists that hold the same are one
pub entries_from_held : (here there : List (Pair × ℤ)) → AreEntries here → AreEntries there → HoldSame here there → here ≡ there
entries_from_held here there h k same =
    no_gap here there same (first_gap pair_cmp here there) (gap_is pair_cmp pair_cmp_total pair_cmp_exact here there (tight_entries here h) (tight_entries there k))
    (gap_key pair_cmp (λ (p : Pair). IsTrue (is_forward p)) here there (all_forward here h.forward) (all_forward there k.forward))
