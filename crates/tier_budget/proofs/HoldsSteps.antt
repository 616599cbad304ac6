-- The set of the patches that are held goes along with each change of the tier.
use Rattle.std.proofs.Common.{◌≡◌, ◌≢◌, ℕ, ◌≤◌, ◌*◌, inl, inr, false, List, length, replicate, Option, Some, None, is_some, refl, sym, ap, subst, ◌∙◌, arith}
use Rattle.std.specs.Prelude.{slice_index_or, slice_set}
use Rattle.std.proofs.lemmas.Bool.{cases_lt, both_ways}
use Rattle.std.proofs.lemmas.List.{length-map, get_or-set_same, get_or-set_other, get_or-replicate, get_or_past, length-set, length-replicate}
use Rattle.file_model.specs.Lists.{IndexLists, SeenBody, body_size}
use Rattle.tier_model.specs.Tiers.{TierState, count, is_held}
use Rattle.tier_model.specs.Changes.{fresh, committed, dropped, with_pin}
use Rattle.tier_budget.specs.PatchSets.{HasPatch}
use Rattle.tier_budget.specs.TierView.{TierSeen, Holds}
use Rattle.tier_budget.proofs.WordSteps.{all_set}

pub holds_moved : (s u : TierState) (words : List ℕ) → u ≡ s → Holds s words → Holds u words
holds_moved s u words same is = subst (λ (t : TierState). Holds t words) (sym same) is

pub holds_of_view : (v w : TierSeen) (words : List ℕ) → v ≡ w → Holds v.state words → Holds w.state words
holds_of_view v w words same is = subst (λ (u : TierSeen). Holds u.state words) same is

others_held : (held : List (Option SeenBody)) (p : ℕ) (o : Option SeenBody) (q : ℕ) → q ≢ p → is_some (slice_index_or (slice_set held p o) q None) ≡ is_some (slice_index_or held q None)
others_held held p o q ne = ap (λ (b : Option SeenBody). is_some b) (get_or-set_other held p q o None ne)

pub holds-with_pin : (s : TierState) (body : SeenBody) (words new : List ℕ) → HasPatch new body.patch → ((p : ℕ) → HasPatch words p → HasPatch new p) → length new ≡ length words → Holds s words → Holds (with_pin s body) new
unfolding with_pin
holds-with_pin s body words new has others room is =
    all_set (count s) (is_held s) (is_held (with_pin s body)) words new body.patch (λ held. has) (λ p ne. others p) room (others_held s.held body.patch (Some body)) is

pub holds-committed : (s : TierState) (p : ℕ) (words new : List ℕ) → HasPatch new p → ((q : ℕ) → HasPatch words q → HasPatch new q) → length new ≡ length words → Holds s words → Holds (committed s p) new
unfolding committed
holds-committed s p words new has others room is =
    all_set (count s) (is_held s) (is_held (committed s p)) words new p (λ held. has) (λ q ne. others q) room (others_held s.held p (slice_index_or s.came p None)) is

not_held : (held : List (Option SeenBody)) (p : ℕ) → is_some (slice_index_or (slice_set held p None) p None) ≡ false
not_held held p = elim (cases_lt p (length held)) [
  | inl within ↦ ap (λ (b : Option SeenBody). is_some b) (get_or-set_same held p None None within)
  | inr past ↦ ap (λ (b : Option SeenBody). is_some b) (get_or_past (slice_set held p None) p None (let many = length-set held p None in omega arith))
]

pub holds-dropped : (s : TierState) (p : ℕ) (words new : List ℕ) → ((q : ℕ) → q ≢ p → HasPatch words q → HasPatch new q) → length new ≡ length words → Holds s words → Holds (dropped s p) new
unfolding dropped
holds-dropped s p words new others room is =
    all_set (count s) (is_held s) (is_held (dropped s p)) words new p (λ held. absurd (both_ways (is_held (dropped s p) p) (not_held s.held p) held)) others room (others_held s.held p None) is

none_there : (held : List (Option SeenBody)) (n p : ℕ) → held ≡ replicate n None → is_some (slice_index_or held p None) ≡ false
none_there held n p is = elim (cases_lt p n) [
  | inl within ↦ ap (λ (b : Option SeenBody). is_some b) (ap (λ (bs : List (Option SeenBody)). slice_index_or bs p None) is ∙ get_or-replicate n p None None within)
  | inr past ↦ ap (λ (b : Option SeenBody). is_some b) (get_or_past held p None (let many : length held ≡ n = ap length is ∙ length-replicate n None in omega arith))
]

pub holds-fresh : (index : IndexLists) (budget width : ℕ) (words : List ℕ) → length index.fields ≤ 64 * length words → Holds (fresh index budget width) words
unfolding fresh
holds-fresh index budget width words room = record {
  room = let many = length-map index.fields (body_size index.version) in omega arith;
  each = λ p held. absurd (both_ways (is_held (fresh index budget width) p) (none_there (fresh index budget width).held (length index.fields) p refl) held);
}
