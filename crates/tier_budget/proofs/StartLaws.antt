-- A new tier is a tier, and so is one that a patch was pinned in.
use Rattle.std.proofs.Common.{◌≡◌, ℕ, zero, suc, ◌+◌, ◌≤◌, Bool, true, false, List, [], ◌∷◌, ◌++◌, length, map, replicate, Option, Some, None, is_some, refl, sym, ap, subst, ◌∙◌, arith}
use Rattle.std.specs.Prelude.{slice_get, slice_index, slice_index_or, slice_set}
use Rattle.std.proofs.lemmas.List.{length-set, length-map, length-replicate, map-set}
use Rattle.std.proofs.lemmas.Option.{same_Some}
use Rattle.file_model.specs.Lists.{IndexLists, SeenBody}
use Rattle.tier_model.specs.declared.turns.Coming.{Coming}
use Rattle.tier_model.specs.declared.turns.Turn.{Turn}
use Rattle.tier_model.specs.Places.{Places, AreApart, is_coming, is_full, marked_bytes, coming_bytes, load_of, Replays, Begins, Goes}
use Rattle.tier_model.specs.Tiers.{TierState, IsWidth, IsBodyFor, IsTier, places, load, sizes_of, pinned_bytes}
use Rattle.tier_model.specs.Changes.{fresh, with_pin}
use Rattle.tier_laws.specs.ComingLaws.{nothing_comes}
use Rattle.tier_laws.specs.LoadLaws.{marked_none, marked_more}
use Rattle.tier_laws.specs.BodyLaws.{each-set, none_there, marks_of_nothing, away_is_unmarked}

-- nothing held, and nothing coming
abbrev pub nothing : ℕ → Places
nothing n = record { held = replicate n false; coming = [] }

abbrev pub marks_of_bodies : List (Option SeenBody) → List Bool
marks_of_bodies bodies = map (λ (o : Option SeenBody). is_some o) bodies

no_load : (sizes : List ℕ) (n : ℕ) → load_of sizes (nothing n) ≡ 0
unfolding load_of coming_bytes
no_load sizes n = let none = marked_none sizes n in omega arith

never_full : (p n : ℕ) → is_full [] p ≡ is_some (slice_index_or (replicate {A = Option SeenBody} n None) p None)
unfolding is_full
never_full zero zero = refl
never_full (suc p) zero = refl
never_full zero (suc n) = refl
never_full (suc p) (suc n) = never_full p n

pub fresh_places : (index : IndexLists) (budget width : ℕ) → places (fresh index budget width) ≡ nothing (length index.fields)
unfolding fresh
fresh_places index budget width = ap (λ (ms : List Bool). record { held = ms; coming = [] }) (marks_of_nothing SeenBody (length index.fields))

pub fresh_load : (index : IndexLists) (budget width : ℕ) → load (fresh index budget width) ≡ 0
unfolding fresh
fresh_load index budget width = ap (load_of (sizes_of index)) (fresh_places index budget width) ∙ no_load (sizes_of index) (length index.fields)

pub IsTier-fresh : (index : IndexLists) (budget width : ℕ) → IsWidth width → IsTier (fresh index budget width)
unfolding fresh AreApart
IsTier-fresh index budget width wide =
    let n = length index.fields in
    let sizes : length (sizes_of index) ≡ n = length-map index.fields _ in
    let many : (A : Type 0) (x : A) → length (replicate n x) ≡ length (sizes_of index) = λ A x. length-replicate n x ∙ sym sizes in
    record {
      wide = wide;
      sized = record { wishes = many ℕ 0; base = length-map index.fields _ ∙ sym sizes; pinned = many Bool false; passed = many Bool false; aside = many Bool false; held = many (Option SeenBody) None; came = many (Option SeenBody) None };
      fits = let none = fresh_load index budget width in omega arith;
      coming = record { few = omega arith; apart = tt; away = λ p comes. absurd (nothing_comes p comes); arrived = λ p. never_full p n };
      held_bodies = λ p b is. absurd (none_there n p b is);
      came_bodies = λ p b is. absurd (none_there n p b is);
      replays = subst (Replays budget width (sizes_of index) (replicate n false) []) (sym (fresh_places index budget width)) Begins;
    }

-- ---- pins

never_empty : (journal : List Turn) (entry : Turn) → journal ++ entry ∷ [] ≡ [] → ⊥
never_empty [] entry is = absurd (cc)
never_empty (e ∷ journal) entry is = absurd (cc)

-- before the first entry exactly the pinned patches are held, and nothing comes
pub begins_at : {budget width : ℕ} {sizes : List ℕ} {pinned : List Bool} {journal : List Turn} {a : Places} → Replays budget width sizes pinned journal a → journal ≡ [] → a ≡ record { held = pinned; coming = [] }
begins_at Begins is = refl
begins_at (Goes {journal = journal} entry before needs fits) is = absurd (never_empty journal entry is)

-- what stands before the first entry
pub record Stands (s : TierState) : Type 0 where
  pub held : marks_of_bodies s.held ≡ s.pinned
  pub coming : s.coming ≡ []

pub stands : (s : TierState) → IsTier s → s.journal ≡ [] → Stands s
stands s tier begins =
    let is = begins_at tier.replays begins in
    record { held = ap (λ (a : Places). a.held) is; coming = ap (λ (a : Places). a.coming) is }

pub load_is_pinned : (s : TierState) → Stands s → load s ≡ pinned_bytes s
unfolding load_of coming_bytes
load_is_pinned s stand =
    let held = ap (marked_bytes s.sizes) stand.held in
    let coming = ap (coming_bytes s.sizes) stand.coming in
    omega arith

pub pinned_load : (s : TierState) (body : SeenBody) → slice_get s.held body.patch ≡ Some None → load (with_pin s body) ≡ load s + slice_index s.sizes body.patch
unfolding with_pin load_of
pinned_load s body away =
    let marks = map-set (λ (o : Option SeenBody). is_some o) s.held body.patch (Some body) in
    let bytes = ap (marked_bytes s.sizes) marks in
    let more = marked_more s.sizes (marks_of_bodies s.held) body.patch (away_is_unmarked s.held body.patch away) in
    omega arith

pub IsTier-with_pin : (s : TierState) (body : SeenBody) → IsTier s → s.journal ≡ [] → slice_get s.held body.patch ≡ Some None → IsBodyFor s.sizes body.patch body → load s + slice_index s.sizes body.patch ≤ s.budget → IsTier (with_pin s body)
unfolding with_pin
IsTier-with_pin s body tier begins away right room =
    let p = body.patch in
    let stand = stands s tier begins in
    let marks : marks_of_bodies (slice_set s.held p (Some body)) ≡ slice_set s.pinned p true = map-set (λ (o : Option SeenBody). is_some o) s.held p (Some body) ∙ ap (λ (ms : List Bool). slice_set ms p true) stand.held in
    let same : places (with_pin s body) ≡ record { held = slice_set s.pinned p true; coming = [] } = ap (λ (ms : List Bool). record { held = ms; coming = s.coming }) marks ∙ ap (λ (cs : List Coming). record { held = slice_set s.pinned p true; coming = cs }) stand.coming in
    record {
      wide = tier.wide;
      sized = record { wishes = tier.sized.wishes; base = tier.sized.base; pinned = length-set s.pinned p true ∙ tier.sized.pinned; passed = tier.sized.passed; aside = tier.sized.aside; held = length-set s.held p (Some body) ∙ tier.sized.held; came = tier.sized.came };
      fits = let more = pinned_load s body away in omega arith;
      coming = record {
        few = tier.coming.few;
        apart = tier.coming.apart;
        away = λ q comes. absurd (nothing_comes q (subst (λ (cs : List Coming). is_coming cs q ≡ true) stand.coming comes));
        arrived = tier.coming.arrived;
      };
      held_bodies = each-set (IsBodyFor s.sizes) s.held p (Some body) tier.held_bodies (λ b is. subst (IsBodyFor s.sizes p) (same_Some body b is) right);
      came_bodies = tier.came_bodies;
      replays = subst (λ (j : List Turn). Replays s.budget s.width s.sizes (slice_set s.pinned p true) j (places (with_pin s body))) (sym begins)
          (subst (Replays s.budget s.width s.sizes (slice_set s.pinned p true) []) (sym same) Begins);
    }
