-- The greatest wish of a node over views, one of which changes.
use Rattle.std.proofs.Common.{◌≡◌, ◌≢◌, ℕ, zero, suc, ◌+◌, ◌<◌, ◌≤◌, max, Bool, true, false, List, [], ◌∷◌, length, take, Option, Some, None, All, ◌⊎◌, inl, inr, refl, sym, ap, subst, ◌∙◌, arith}
use Rattle.std.specs.Prelude.{◌&&◌, ◌==◌, nat_lt, slice_get, slice_index, slice_index_or, slice_set, if◌then◌else◌}
use Rattle.std.specs.Option.{option_map_or}
use Rattle.std.proofs.lemmas.Bool.{eqb-false, ltb-false}
use Rattle.std.proofs.lemmas.Option.{slice_get-get_or}
use Rattle.std.proofs.lemmas.List.{set-get_or, take_all}
use Rattle.std.proofs.lemmas.List.Elements.{All-more, All-contains}
use Rattle.tier_model.specs.Ranks.{Posted, view_wish, node_wish}
use Rattle.wish_board.specs.Maxima.{AreScored, AreGreatest, AreRaised, AreLowered, leads}
use Rattle.wish_board.specs.PostedSlots.{AreSlots}

-- the node's wish in a view, if there is one
abbrev pub slot_wish : Option Posted → ℕ → ℕ
slot_wish o v = option_map_or (λ (view : Posted). view_wish view v) o 0

-- ---- the greatest wish is the greatest

pub wish-least : (views : List (Option Posted)) (v i : ℕ) (o : Option Posted) → slice_get views i ≡ Some o → slot_wish o v ≤ node_wish views v
unfolding node_wish
wish-least [] v i o at = absurd (cc)
wish-least (None ∷ views) v zero o at = let same = ap (λ (x : Option (Option Posted)). option_map_or (λ (p : Option Posted). slot_wish p v) x 0) at in omega (arith, same)
wish-least (Some x ∷ views) v zero o at = let same = ap (λ (x : Option (Option Posted)). option_map_or (λ (p : Option Posted). slot_wish p v) x 0) at in omega (arith, same)
wish-least (None ∷ views) v (suc i) o at = wish-least views v i o at
wish-least (Some x ∷ views) v (suc i) o at = let less = wish-least views v i o at in omega (arith, less)

pub wish-most : (views : List (Option Posted)) (v n : ℕ) → ((i : ℕ) (view : Posted) → slice_get views i ≡ Some (Some view) → view_wish view v ≤ n) → node_wish views v ≤ n
unfolding node_wish
wish-most [] v n each = omega arith
wish-most (None ∷ views) v n each = wish-most views v n (λ i view at. each (suc i) view at)
wish-most (Some x ∷ views) v n each = let first = each zero x refl in let rest = wish-most views v n (λ i view at. each (suc i) view at) in omega (arith, first, rest)

-- ---- over slots

-- the wish of no view in the slots is above this
abbrev pub IsMost : List (Option Posted) → ℕ → ℕ → List ℕ → Type 0
IsMost views v n slots = All (λ s. (view : Posted) → slice_get views s ≡ Some (Some view) → view_wish view v ≤ n) slots

pub most-more : (views : List (Option Posted)) (slots : List ℕ) (v i before now : ℕ) (o : Option Posted) → i < length slots → slice_index slots i < length views → o ≡ slice_index_or views (slice_index slots i) o → now ≡ max before (slot_wish o v)
    → before ≤ node_wish views v → IsMost views v before (take i slots) → (now ≤ node_wish views v) × IsMost views v now (take (i + 1) slots)
most-more views slots v i before now o within there read is most each =
    let s = slice_index slots i in
    let at : slice_get views s ≡ Some o = slice_get-get_or views s o there ∙ ap (λ (p : Option Posted). Some p) (sym read) in
    let here = wish-least views v s o at in (
      omega (arith, here, is, most),
      All-more (λ t. (view : Posted) → slice_get views t ≡ Some (Some view) → view_wish view v ≤ now) slots i 0 within
          (λ k d h view has. (let less = each k d h view has in omega (arith, less, is)))
          (λ view has. (
          let same : slot_wish o v ≡ view_wish view v = ap (λ (x : Option (Option Posted)). option_map_or (λ (p : Option Posted). slot_wish p v) x 0) (sym at ∙ has) in
          omega (arith, same, is))),
    )

pub most-is : (views : List (Option Posted)) (slots : List ℕ) (v i n : ℕ) → AreSlots views slots → n ≤ node_wish views v → IsMost views v n (take i slots) → length slots ≤ i → n ≡ node_wish views v
most-is views slots v i n are most each all =
    let over = subst (IsMost views v n) (take_all i slots all) each in
    let greatest = wish-most views v n (λ s view at. All-contains (λ t. (w : Posted) → slice_get views t ≡ Some (Some w) → view_wish w v ≤ n) slots s over (are.all s view at) view at) in
    omega (arith, most, greatest)

-- ---- a slot changes

wish-set : (views : List (Option Posted)) (i : ℕ) (o : Option Posted) (v : ℕ) → i < length views → node_wish (slice_set views i o) v ≡ max (slot_wish o v) (node_wish (slice_set views i None) v)
unfolding node_wish
wish-set [] i o v within = absurd (omega (arith, within))
wish-set (x ∷ views) zero None v within = omega arith
wish-set (x ∷ views) zero (Some view) v within = refl
wish-set (None ∷ views) (suc i) o v within = wish-set views i o v (omega (arith, within))
wish-set (Some x ∷ views) (suc i) o v within = let more = wish-set views i o v (omega (arith, within)) in omega (arith, more)

wish-at : (views : List (Option Posted)) (i : ℕ) (o : Option Posted) (v : ℕ) → i < length views → o ≡ slice_index_or views i o → node_wish views v ≡ max (slot_wish o v) (node_wish (slice_set views i None) v)
wish-at views i o v within at = ap (λ (vs : List (Option Posted)). node_wish vs v) (sym (ap (slice_set views i) at ∙ set-get_or views i o)) ∙ wish-set views i o v within

led : (wants leads : Bool) (b x m : ℕ) → m ≡ (if wants && leads then x else b) → (m ≡ x) ⊎ ((m ≡ b) × ((wants ≡ false) ⊎ (leads ≡ false)))
led true true b x m is = inl is
led true false b x m is = inr (is, inr refl)
led false leads b x m is = inr (is, inl refl)

-- a node's wish is the one that was found, or stays where the view didn't want the node or had another wish
lead-cases : (w b x m : ℕ) → m ≡ (if nat_lt 0 w && (w == b) then x else b) → (m ≡ x) ⊎ ((m ≡ b) × ((w ≡ 0) ⊎ (w ≢ b)))
lead-cases w b x m is = elim (led (nat_lt 0 w) (w == b) b x m is) [
  | inl found ↦ inl found
  | inr kept ↦ elim kept.1 [
    | inl unwanted ↦ inr (kept.0, inl (let le = ltb-false 0 w unwanted in omega (arith, le)))
    | inr other ↦ inr (kept.0, inr (eqb-false w b other))
  ]
]

-- the wish over all views is the greater one of this number and the view's in the slot
abbrev pub IsBut : List (Option Posted) → Option Posted → ℕ → ℕ → Type 0
IsBut views o v n = max (slot_wish o v) n ≡ node_wish views v

but-lowered : (views : List (Option Posted)) (i v before now : ℕ) (left : Posted) (o : Option Posted) → i < length views → o ≡ slice_index_or views i o → before ≡ node_wish (slice_set views i (Some left)) v
    → now ≡ (if nat_lt 0 (view_wish left v) && (view_wish left v == before) then node_wish views v else before) → IsBut views o v now
but-lowered views i v before now left o within at was is =
    let old = wish-set views i (Some left) v within in
    let new = wish-at views i o v within at in
    elim (lead-cases (view_wish left v) before (node_wish views v) now is) [
      | inl found ↦ omega (arith, found, new)
      | inr kept ↦ elim kept.1 [
        | inl none ↦ (let same = kept.0 in omega (arith, same, none, old, new, was))
        | inr other ↦ (let same = kept.0 in omega (arith, same, other, old, new, was))
      ]
    ]

-- the greatest wishes, where the one of a view is still to be raised
pub record AreBut (nodes : ℕ) (views : List (Option Posted)) (o : Option Posted) (greatest : List ℕ) : Type 0 where
  pub all_nodes : length greatest ≡ nodes
  pub each : (v : ℕ) → v < nodes → IsBut views o v (slice_index greatest v)

pub but-left : (nodes : ℕ) (views : List (Option Posted)) (i : ℕ) (left : Posted) (o : Option Posted) (before now : List ℕ) → i < length views → o ≡ slice_index_or views i o → AreGreatest nodes (slice_set views i (Some left)) before → AreLowered left views nodes before now → AreBut nodes views o now
but-left nodes views i left o before now within at are lowered = record {
  all_nodes = lowered.all_nodes ∙ are.all_nodes;
  each = λ v inside. but-lowered views i v (slice_index before v) (slice_index now v) left o within at (are.each v inside) (lowered.lowered v inside);
}

pub but-none : (nodes : ℕ) (views : List (Option Posted)) (i : ℕ) (o : Option Posted) (before : List ℕ) → i < length views → o ≡ slice_index_or views i o → AreGreatest nodes (slice_set views i None) before → AreBut nodes views o before
but-none nodes views i o before within at are = record {
  all_nodes = are.all_nodes;
  each = λ v inside. (let new = wish-at views i o v within at in let was = are.each v inside in omega (arith, new, was));
}

pub but-raised : (nodes n : ℕ) (views : List (Option Posted)) (view : Posted) (before now : List ℕ) → AreBut nodes views (Some view) before → length before ≡ n → AreRaised view n before now → AreGreatest nodes views now
but-raised nodes n views view before now are many raised = record {
  all_nodes = raised.all_nodes ∙ are.all_nodes;
  each = λ v inside. raised.raised v (let as_many = are.all_nodes in omega (arith, as_many, many, inside)) ∙ are.each v inside;
}

pub but-nothing : (nodes : ℕ) (views : List (Option Posted)) (greatest : List ℕ) → AreBut nodes views None greatest → AreGreatest nodes views greatest
but-nothing nodes views greatest are = record {
  all_nodes = are.all_nodes;
  each = λ v inside. (let same = are.each v inside in omega (arith, same));
}

-- a view that was come to has a score for each node
pub scored_at : (nodes : ℕ) (views : List (Option Posted)) (i : ℕ) (o : Option Posted) (view : Posted) → AreScored nodes views → i < length views → o ≡ slice_index_or views i o → o ≡ Some view → length view.scores ≡ nodes
unfolding AreScored
scored_at nodes views i o view are within is some = are i view (slice_get-get_or views i o within ∙ ap (λ (p : Option Posted). Some p) (sym is ∙ some))
