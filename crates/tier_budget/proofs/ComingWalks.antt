-- What is said of the patches that come, in std's words for lists.
use Rattle.std.proofs.Common.{◌≡◌, ℕ, ◌+◌, ◌<◌, ◌≤◌, ◌==◌, Bool, true, false, not, ◌||◌, List, [], ◌∷◌, ◌++◌, length, map, filter, take, drop, Some, None, eqb, refl, sym, ap, ◌∙◌, cond, if◌then◌else◌, add-one}
use Rattle.std.specs.Prelude.{option_map, slice_get, slice_index_or, slice_set}
use Rattle.std.proofs.lemmas.Bool.{cond_both, both_ways, or_left, eq-eqb, eqb-true, ne_eqb}
use Rattle.std.proofs.lemmas.List.{take_all, append-nil, get_or_default}
use Rattle.std.proofs.lemmas.List.Edits.{map_over_more}
use Rattle.std.proofs.Math.ListN.{drop_of_length-le}
use Rattle.std.proofs.Math.Seq.{drop-cons}
use Rattle.tier_model.specs.declared.turns.Coming.{Coming}
use Rattle.tier_model.specs.Places.{full, is_coming, first_coming, first_bare, with_body, without}

-- the one with its body, if it is of the patch
abbrev pub give : ℕ → Coming → Coming
give p c = if c.patch == p then full p else c

-- what is read past the end
abbrev pub past_end : Coming
past_end = record { patch = 0; has_body = false }

pub with_body_is_map : (p : ℕ) (cs : List Coming) → with_body p cs ≡ map (give p) cs
unfolding with_body
with_body_is_map p [] = refl
with_body_is_map p (c ∷ cs) = ap (λ (ds : List Coming). give p c ∷ ds) (with_body_is_map p cs)

pub without_is_filter : (p : ℕ) (cs : List Coming) → without p cs ≡ filter (λ (c : Coming). not (c.patch == p)) cs
unfolding without
without_is_filter p [] = refl
without_is_filter p (c ∷ cs) =
    cond_both (eqb c.patch p) (without p cs) (c ∷ without p cs) (λ (ds : List Coming). ds ≡ cond (not (eqb c.patch p)) (c ∷ filter (λ (d : Coming). not (d.patch == p)) cs) (filter (λ (d : Coming). not (d.patch == p)) cs))
    (λ is. rw is (without_is_filter p cs))
    (λ never. rw never (ap (λ (ds : List Coming). c ∷ ds) (without_is_filter p cs)))

pub first_is_item : (cs : List Coming) → first_coming cs ≡ option_map (λ (c : Coming). c.patch) (slice_get cs 0)
unfolding first_coming
first_is_item [] = refl
first_is_item (c ∷ cs) = refl

bare_of_rest : (c : Coming) (cs : List Coming) → c.has_body ≡ true → first_bare (c ∷ cs) ≡ first_bare cs
unfolding first_bare
bare_of_rest c cs has = rw has

bare_of_first : (c : Coming) (cs : List Coming) → c.has_body ≡ false → first_bare (c ∷ cs) ≡ Some c.patch
unfolding first_bare
bare_of_first c cs lacks = rw lacks

from_here : (cs : List Coming) (i : ℕ) (d : Coming) → i < length cs → drop i cs ≡ slice_index_or cs i d ∷ drop (i + 1) cs
from_here cs i d within = rw (add-one) (drop-cons cs i d within)

pub bare_here : (cs : List Coming) (i : ℕ) (d : Coming) → i < length cs → (slice_index_or cs i d).has_body ≡ false → first_bare (drop i cs) ≡ Some (slice_index_or cs i d).patch
bare_here cs i d within lacks = ap first_bare (from_here cs i d within) ∙ bare_of_first (slice_index_or cs i d) (drop (i + 1) cs) lacks

pub bare_later : (cs : List Coming) (i : ℕ) (d : Coming) → i < length cs → (slice_index_or cs i d).has_body ≡ true → first_bare (drop i cs) ≡ first_bare (drop (i + 1) cs)
bare_later cs i d within has = ap first_bare (from_here cs i d within) ∙ bare_of_rest (slice_index_or cs i d) (drop (i + 1) cs) has

pub none_is_bare : (cs : List Coming) (i : ℕ) → length cs ≤ i → first_bare (drop i cs) ≡ None
unfolding first_bare
none_is_bare cs i past = ap first_bare (drop_of_length-le cs past)

pub give_here : (p : ℕ) (c : Coming) → c.patch ≡ p → record { patch = c.patch; has_body = true } ≡ give p c
give_here p c is = cond_both (eqb c.patch p) (full p) c (λ (d : Coming). record { patch = c.patch; has_body = true } ≡ d) (λ same. ap (λ (q : ℕ). full q) is) (λ never. absurd (both_ways (eqb c.patch p) never (eq-eqb c.patch p is)))

pub give_elsewhere : (p : ℕ) (c : Coming) → (c.patch ≡ p → ⊥) → c ≡ give p c
give_elsewhere p c ne = cond_both (eqb c.patch p) (full p) c (λ (d : Coming). c ≡ d) (λ same. absurd (ne (eqb-true c.patch p same))) (λ never. refl)

comes_first : (c : Coming) (cs : List Coming) (p : ℕ) → c.patch ≡ p → is_coming (c ∷ cs) p ≡ true
unfolding is_coming
comes_first c cs p is = or_left (eqb c.patch p) (is_coming cs p) (eq-eqb c.patch p is)

comes_later : (c : Coming) (cs : List Coming) (p : ℕ) → (c.patch ≡ p → ⊥) → is_coming (c ∷ cs) p ≡ is_coming cs p
unfolding is_coming
comes_later c cs p ne = ap (λ (b : Bool). b || is_coming cs p) (ne_eqb c.patch p ne)

pub comes_here : (cs : List Coming) (i p : ℕ) (d : Coming) → i < length cs → (slice_index_or cs i d).patch ≡ p → is_coming (drop i cs) p ≡ true
comes_here cs i p d within is = ap (λ (ds : List Coming). is_coming ds p) (from_here cs i d within) ∙ comes_first (slice_index_or cs i d) (drop (i + 1) cs) p is

pub comes_after : (cs : List Coming) (i p : ℕ) (d : Coming) → i < length cs → ((slice_index_or cs i d).patch ≡ p → ⊥) → is_coming (drop i cs) p ≡ is_coming (drop (i + 1) cs) p
comes_after cs i p d within ne = ap (λ (ds : List Coming). is_coming ds p) (from_here cs i d within) ∙ comes_later (slice_index_or cs i d) (drop (i + 1) cs) p ne

pub none_comes_after : (cs : List Coming) (i p : ℕ) → length cs ≤ i → is_coming (drop i cs) p ≡ false
unfolding is_coming
none_comes_after cs i p past = ap (λ (ds : List Coming). is_coming ds p) (drop_of_length-le cs past)

-- one more was written
pub given_more : (p i : ℕ) (old now : List Coming) (d e : Coming) → i < length old → i < length now → now ≡ map (give p) (take i old) ++ drop i old → e ≡ give p (slice_index_or now i d) → slice_set now i e ≡ map (give p) (take (i + 1) old) ++ drop (i + 1) old
given_more p i old now d e within there is given = ap (slice_set now i) given ∙ map_over_more (give p) old now i (slice_index_or now i d) within is (get_or_default now i d (slice_index_or now i d) there)

pub given_all : (p i : ℕ) (old now : List Coming) → length old ≤ i → now ≡ map (give p) (take i old) ++ drop i old → now ≡ with_body p old
given_all p i old now past is = is ∙ ap (λ (cs : List Coming). map (give p) cs ++ drop i old) (take_all i old past) ∙ ap (λ (cs : List Coming). map (give p) old ++ cs) (drop_of_length-le old past) ∙ append-nil (map (give p) old) ∙ sym (with_body_is_map p old)
