-- Where no key's opposite stands among keys, no edge of theirs cancels another.
use Rattle.std.proofs.Common.{◌≡◌, ◌≢◌, ◌∙◌, ℕ, ◌*◌, ◌+◌, ◌/◌, ◌<◌, ◌≤◌, inl, inr, Bool, true, false, List, ltb, leb, length, map, get_or, refl, sym, ap, subst, arith}
use Rattle.std.specs.Prelude.{All}
use Rattle.std.specs.List.{Contains}
use Rattle.std.proofs.lemmas.Bool.{ltb-true, ltb-false, leb-true, leb-false, cases_Bool}
use Rattle.std.proofs.lemmas.List.{get_or-map, length-map}
use Rattle.std.proofs.lemmas.List.Elements.{All-map}
use Rattle.std.proofs.lemmas.Simd.{map-map}
use Rattle.grid_vertex.specs.declared.points.Point.{Point}
use Rattle.body_edges.specs.Keys.{key_of, from_of, to_of, IsKey, edge_between, NoOpposites}
use Rattle.body_edges.specs.Borders.{edge_at, NoneCancels}
use Rattle.body_edges.proofs.KeyLaws.{key_if, even_half, odd_half, from_of_key}

-- the places that a key's edge goes between
abbrev ends : ℕ → ℕ × ℕ
ends key = (from_of key, to_of key)

half_if : (from to : ℕ) (forward back : Bool) → ltb from to ≡ forward → ltb to from ≡ back → from ≢ to → key_if forward from to / 2 ≡ key_if back to from / 2
half_if from to true true f b apart = absurd (omega (arith, ltb-true from to f, ltb-true to from b))
half_if from to true false f b apart = even_half (from * 65536 + to) ∙ sym (odd_half (from * 65536 + to))
half_if from to false true f b apart = odd_half (to * 65536 + from) ∙ sym (even_half (to * 65536 + from))
half_if from to false false f b apart = absurd (apart (omega (arith, ltb-false from to f, ltb-false to from b)))

-- an edge and its opposite have one half
one_half : (from to : ℕ) → from ≢ to → key_of from to / 2 ≡ key_of to from / 2
unfolding key_of
one_half from to apart = half_if from to (ltb from to) (ltb to from) refl refl apart

-- a key that stands for the edge from one place to another
record Stands (points : ℕ) (keys : List ℕ) (from to : ℕ) : Type 0 where
  at : ℕ
  within : at < length keys
  key : get_or keys at 0 ≡ key_of from to
  apart : from ≢ to
  low : from < points
  high : to < points

stands : (points : ℕ) (keys : List ℕ) (from to : ℕ) → All (IsKey points) keys → Contains (map ends keys) (from, to) → Stands points keys from to
stands points keys from to all (k, within, at) =
    let low : k < length keys = omega (arith, length-map keys ends) in
    let there : ends (get_or keys k 0) ≡ (from, to) = sym (get_or-map ends keys k 0 (from, to) low) ∙ at in
    let begin : from_of (get_or keys k 0) ≡ from = ap (λ (p : ℕ × ℕ). p.0) there in
    let end : to_of (get_or keys k 0) ≡ to = ap (λ (p : ℕ × ℕ). p.1) there in
    let key = all k 0 low in
    record {
      at = k;
      within = low;
      key = key.made ∙ ap (λ (n : ℕ). key_of n (to_of (get_or keys k 0))) begin ∙ ap (λ (n : ℕ). key_of from n) end;
      apart = λ e. key.apart (begin ∙ e ∙ sym end);
      low = subst (λ (n : ℕ). n < points) begin key.from;
      high = subst (λ (n : ℕ). n < points) end key.to;
    }

both_ways : (points : ℕ) (keys : List ℕ) (from to : ℕ) → points ≤ 65535 → NoOpposites keys → Stands points keys from to → Stands points keys to from → ⊥
both_ways points keys from to few apart there back =
    let half : get_or keys there.at 0 / 2 ≡ get_or keys back.at 0 / 2 = ap (λ (n : ℕ). n / 2) there.key ∙ one_half from to there.apart ∙ sym (ap (λ (n : ℕ). n / 2) back.key) in
    let same : get_or keys there.at 0 ≡ get_or keys back.at 0 =
    elim (cases_Bool (leb there.at back.at)) as (λ _. get_or keys there.at 0 ≡ get_or keys back.at 0) [
      | inl before ↦ apart there.at back.at (leb-true there.at back.at before) back.within half
      | inr behind ↦ sym (apart back.at there.at (omega (arith, leb-false there.at back.at behind)) there.within (sym half))
    ] in
    there.apart (sym (from_of_key from to (omega (arith, there.low)) (omega (arith, there.high))) ∙ ap from_of (sym there.key ∙ same ∙ back.key) ∙ from_of_key to from (omega (arith, there.high)) (omega (arith, there.low)))

pub none_cancels : (points : List Point) (keys : List ℕ) → length points ≤ 65535 → All (IsKey (length points)) keys → NoOpposites keys → NoneCancels (map (edge_between points) keys) points
unfolding edge_at edge_between
none_cancels points keys few all apart = record {
  places = map ends keys;
  edges_are = sym (map-map (edge_at points) ends keys);
  there = All-map (λ (p : ℕ × ℕ). (p.0 < length points) × (p.1 < length points)) ends keys (λ k d low. ((all k d low).from, (all k d low).to));
  one_way = λ from to h k. both_ways (length points) keys from to few apart (stands (length points) keys from to all h) (stands (length points) keys to from all k);
}
