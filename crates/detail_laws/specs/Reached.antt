-- Settling and a round behind it bring the detail that the view wants.
use Rattle.std.proofs.Common.{◌≡◌, ℕ, zero, suc, ◌<◌, ◌≤◌, Bool, true, false, ◌||◌, ltb, List, [], ◌∷◌, length, map, Option, Some, None, refl, ap, subst, ◌∙◌, arith, inl, inr}
use Rattle.std.specs.Prelude.{slice_get}
use Rattle.std.specs.Option.{option_map_or}
use Rattle.std.proofs.lemmas.Bool.{cond-true, ltb-true, not-true, or_parts}
use Rattle.std.proofs.lemmas.Option.{same_Some, slice_get_past, slice_get_within}
use Rattle.file_model.specs.declared.fields.PatchField.{PatchField}
use Rattle.file_model.specs.declared.fields.Try.{Try}
use Rattle.file_model.specs.Tries.{is_odd}
use Rattle.mesh_model.specs.Graph.{is_root, is_sink}
use Rattle.round_model.specs.Order.{Rules, score}
use Rattle.round_model.specs.Rounds.{has, round_of}
use Rattle.mesh_laws.specs.Each.{each_both}
use Rattle.round_laws.specs.Cuts.{IsRootOrWanted, round_members, round_is_cut}
use Rattle.tier_model.specs.declared.turns.Turn.{Turn}
use Rattle.tier_model.specs.Places.{is_marked}
use Rattle.tier_model.specs.Tiers.{TierState, is_held, base_marks}
use Rattle.tier_model.specs.Ranks.{Posted, view_wish, node_wish, wish_of}
use Rattle.tier_model.specs.Turns.{Board}
use Rattle.tier_model.specs.Chains.{Chain, has_below}
use Rattle.tier_laws.specs.ChainLaws.{AreTiers, tied_settled}
use Rattle.tier_model.specs.Settling.{Settles}
use Rattle.detail_laws.specs.Needs.{GoWell, IsHeldIn, AreReady}
use Rattle.detail_laws.specs.Settled.{settled-holds, settled-count}
use Rattle.round_laws.specs.Wanted.{AreGranted, IsOfWanted}
use Rattle.detail_laws.specs.Wanted.{AreAnsweredBy, IsPosted, SettlesWell, IsRoundOf}
use Rattle.round_laws.specs.FullRounds.{full_round, tries_are_of_wanted}

-- ---- a patch of a wanted node is wished, and no base patch

-- a node is wished as much as each view wishes it
wished_by_each : (views : List (Option Posted)) (place v : ℕ) (view : Posted) → slice_get views place ≡ Some (Some view) → view_wish view v ≤ node_wish views v
unfolding node_wish
wished_by_each [] place v view at = absurd (cc)
wished_by_each (None ∷ views) zero v view at = absurd (cc)
wished_by_each (None ∷ views) (suc place) v view at = wished_by_each views place v view at
wished_by_each (Some other ∷ views) zero v view at =
    let same = ap (λ (w : Posted). view_wish w v) (first other view at) in
    omega arith
  where
    first : (x y : Posted) → Some (Some x) ≡ Some (Some y) → y ≡ x
    first x y is = cc
wished_by_each (Some other ∷ views) (suc place) v view at = let rest = wished_by_each views place v view at in omega arith

pub wanted_is_wished : (rules : Rules) (board : Board) (p : ℕ) → IsPosted rules board → IsOfWanted rules p → 0 < board.wish p
unfolding wish_of
wanted_is_wished rules board p posted of_wanted =
    let v = of_wanted.field.tail in
    let above = ltb-true rules.threshold (score rules v) of_wanted.wanted in
    let view = cond-true (ltb rules.threshold (score rules v)) (score rules v) 0 of_wanted.wanted in
    let most = wished_by_each posted.views posted.place v (record { scores = rules.scores; threshold = rules.threshold }) posted.posted in
    let wish = posted.wishes p ∙ ap (λ (o : Option PatchField). option_map_or (λ (f : PatchField). node_wish posted.views f.tail) o 0) of_wanted.there in
    omega arith

pub mark_at : (test : PatchField → Bool) (fields : List PatchField) (p : ℕ) (f : PatchField) → slice_get fields p ≡ Some f → is_marked (map test fields) p ≡ test f
mark_at test [] p f here = absurd (cc)
mark_at test (g ∷ gs) zero f here = ap test (same_Some g f here)
mark_at test (g ∷ gs) (suc p) f here = mark_at test gs p f here

map_many : (test : PatchField → Bool) (fields : List PatchField) → length (map test fields) ≡ length fields
map_many test [] = refl
map_many test (f ∷ fs) = ap suc (map_many test fs)

wanted_no_base : (rules : Rules) (p : ℕ) → IsOfWanted rules p → is_marked (base_marks rules.mesh.index.fields) p ≡ false
wanted_no_base rules p of_wanted =
    let fields = rules.mesh.index.fields in
    let v = of_wanted.field.tail in
    mark_at (λ (f : PatchField). is_root fields f.tail) fields p of_wanted.field of_wanted.there
    ∙ (or_parts (is_root fields v) (is_sink fields v) (not-true (is_root fields v || is_sink fields v) of_wanted.inner.inner)).0

wanted_within : (rules : Rules) (p : ℕ) → IsOfWanted rules p → p < length (base_marks rules.mesh.index.fields)
wanted_within rules p of_wanted =
    let fields = rules.mesh.index.fields in
    let within = slice_get_within fields p of_wanted.field of_wanted.there in
    let many = map_many (λ (f : PatchField). is_root fields f.tail) fields in
    omega arith

-- ---- so it is held behind the settling, and its epoch is odd

-- below the lowest tier is the store, which has every patch
pub store_has : (tiers : List TierState) (k p : ℕ) → length tiers ≡ suc k → has_below tiers k p ≡ true
unfolding has_below
store_has tiers k p many = ap (λ (o : Option TierState). option_map_or (λ (t : TierState). is_held t p) o true) (slice_get_past tiers (suc k) (omega arith))

held_by_number : (board : Board) (used : ℕ → ℕ → Bool) (base : List Bool) (n : ℕ) (a c : Chain) (log : List (ℕ × Turn)) → 1 ≤ n → length a.tiers ≡ n → Settles board n a log c → AreReady board used base n a → GoWell used log → (p : ℕ) → p < length base → is_marked base p ≡ false → 0 < board.wish p → IsHeldIn c.tiers 0 p
held_by_number board used base zero a c log some many _ ready well p within not_base wished = absurd (omega arith)
held_by_number board used base (suc k) a c log some many turns ready well p within not_base wished =
    settled-holds board used base k a c log turns ready well p within not_base wished (store_has a.tiers k p many)

wanted_is_held : (rules : Rules) (board : Board) (used : ℕ → ℕ → Bool) (a c : Chain) (log : List (ℕ × Turn)) (p : ℕ) → SettlesWell rules board used a c log → IsPosted rules board → IsOfWanted rules p → IsHeldIn c.tiers 0 p
wanted_is_held rules board used a c log p well posted of_wanted =
    held_by_number board used (base_marks rules.mesh.index.fields) (length a.tiers) a c log well.some_tier refl well.settles well.ready well.well p
    (wanted_within rules p of_wanted) (wanted_no_base rules p of_wanted) (wanted_is_wished rules board p posted of_wanted)

are_tiers : (rules : Rules) (board : Board) (used : ℕ → ℕ → Bool) (a c : Chain) (log : List (ℕ × Turn)) → SettlesWell rules board used a c log → AreTiers a
are_tiers rules board used a c log well = record {
  each = λ k t at. (well.ready.each k t (slice_get_within a.tiers k t at) at).is_tier;
}

wanted_is_odd : (rules : Rules) (board : Board) (used : ℕ → ℕ → Bool) (a c : Chain) (log : List (ℕ × Turn)) (p : ℕ) → SettlesWell rules board used a c log → IsPosted rules board → IsOfWanted rules p → is_odd (c.epochs p) ≡ true
wanted_is_odd rules board used a c log p well posted of_wanted =
    let held = wanted_is_held rules board used a c log p well posted of_wanted in
    let tied = (tied_settled board (length a.tiers) a c log well.pinned (are_tiers rules board used a c log well) well.settles well.tied).top held.tier held.at in
    let many = settled-count board used (base_marks rules.mesh.index.fields) (length a.tiers) a c log well.settles well.ready held.tier held.at well.some_tier in
    let within = wanted_within rules p of_wanted in
    tied.held p (omega arith) ∙ held.holds

-- ---- so all tries are granted

granted_from : (rules : Rules) (epochs : ℕ → ℕ) (answers : List ℕ) → ((p : ℕ) → IsOfWanted rules p → is_odd (epochs p) ≡ true) → AreAnsweredBy epochs (round_of rules answers).tries → AreGranted (round_of rules answers).tries
granted_from rules epochs answers odd answered =
    each_both (λ (t : Try). IsOfWanted rules t.patch) (λ (t : Try). t.epoch ≡ epochs t.patch) (λ (t : Try). is_odd t.epoch ≡ true) (round_of rules answers).tries
    (λ t of_wanted is. ap is_odd is ∙ odd t.patch of_wanted) (tries_are_of_wanted rules answers) answered

-- the set of the round is the root and the inner nodes that the view wants
pub reached_detail : (rules : Rules) (board : Board) (used : ℕ → ℕ → Bool) (a c : Chain) (log : List (ℕ × Turn)) (answers : List ℕ) → SettlesWell rules board used a c log → IsRoundOf rules board c.epochs answers → (v : ℕ) → (has (round_of rules answers).set v ≡ true → IsRootOrWanted rules v) × (IsRootOrWanted rules v → has (round_of rules answers).set v ≡ true)
reached_detail rules board used a c log answers well round v = (round_members rules answers v, there)
  where
    granted : AreGranted (round_of rules answers).tries
    granted = granted_from rules c.epochs answers (λ p of_wanted. wanted_is_odd rules board used a c log p well round.posted of_wanted) round.answered

    there : IsRootOrWanted rules v → has (round_of rules answers).set v ≡ true
    there (inl root) = subst (λ (u : ℕ). has (round_of rules answers).set u ≡ true) root (round_is_cut rules round.mesh answers).has_root
    there (inr is) = full_round rules answers round.mesh round.falls round.fits round.through granted v is.0 is.1
