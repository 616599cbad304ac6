-- How tiers begin: empty, or with pinned patches.
use Rattle.std.proofs.Common.{◌≡◌, ℕ, zero, suc, ◌+◌, ◌≤◌, Bool, true, false, List, [], ◌∷◌, ◌++◌, length, map, replicate, Option, Some, None, is_some, refl, sym, ap, ap₂, subst, ◌∙◌, arith}
use Rattle.std.specs.Prelude.{slice_get, slice_index_or, slice_set, if◌then◌else◌}
use Rattle.std.proofs.lemmas.List.{length-set, length-map, length-replicate, map-set}
use Rattle.std.proofs.lemmas.Option.{same_Some}
use Rattle.file_model.specs.declared.fields.PatchField.{PatchField}
use Rattle.file_model.specs.Lists.{IndexLists, SeenBody, body_size}
use Rattle.mesh_model.specs.Graph.{is_root}
use Rattle.file_model.specs.Tries.{is_odd}
use Rattle.tier_model.specs.declared.turns.Turn.{Turn}
use Rattle.tier_model.specs.declared.turns.Coming.{Coming}
use Rattle.tier_model.specs.Places.{Places, is_marked, is_coming, is_full, AreApart, marked_bytes, coming_bytes, load_of, Replays, Begins, Goes}
use Rattle.tier_model.specs.Tiers.{TierState, size, places, load, IsWidth, IsBodyFor, IsTier, IsOfFile, sizes_of, base_marks, IsMadeOf}
use Rattle.tier_model.specs.Changes.{fresh, with_pin}
use Rattle.tier_model.specs.Ties.{IsTied}
use Rattle.tier_model.specs.Counts.{commits_and_evicts, AreCounted}
use Rattle.tier_model.specs.Chains.{bodies_at, opened_top, opened_tiers, opened}
use Rattle.tier_laws.specs.ComingLaws.{nothing_comes}
use Rattle.tier_laws.specs.LoadLaws.{marked_none, marked_more}
use Rattle.tier_laws.specs.BodyLaws.{marks_of, none_there, each-set, away_is_unmarked, marks_of_nothing}

-- ---- empty

nothing_there : (X : Type 0) (n q : ℕ) → is_some (slice_index_or (replicate {A = Option X} n None) q None) ≡ false
nothing_there X zero q = refl
nothing_there X (suc n) zero = refl
nothing_there X (suc n) (suc q) = nothing_there X n q

-- the load of places at which nothing comes
pub load_of_held : (sizes : List ℕ) (marks : List Bool) → load_of sizes (record { held = marks; coming = [] }) ≡ marked_bytes sizes marks
unfolding load_of coming_bytes
load_of_held sizes marks = omega arith

pub IsTier-fresh : (index : IndexLists) (budget width : ℕ) → IsWidth width → IsTier (fresh index budget width)
unfolding fresh AreApart is_full
IsTier-fresh index budget width wide =
    let n = length index.fields in
    let as_many : length (sizes_of index) ≡ n = length-map index.fields (body_size index.version) in
    let none : marks_of {X = SeenBody} (replicate n None) ≡ replicate n false = marks_of_nothing SeenBody n in
    let empty : load_of (sizes_of index) (record { held = marks_of {X = SeenBody} (replicate n None); coming = [] }) ≡ 0 =
    load_of_held (sizes_of index) (marks_of {X = SeenBody} (replicate n None)) ∙ ap (marked_bytes (sizes_of index)) none ∙ marked_none (sizes_of index) n in
    record {
      wide = wide;
      sized = record {
        wishes = length-replicate n 0 ∙ sym as_many;
        base = length-map index.fields (λ (f : PatchField). is_root index.fields f.tail) ∙ sym as_many;
        pinned = length-replicate n false ∙ sym as_many;
        passed = length-replicate n false ∙ sym as_many;
        aside = length-replicate n false ∙ sym as_many;
        held = length-replicate {A = Option SeenBody} n None ∙ sym as_many;
        came = length-replicate {A = Option SeenBody} n None ∙ sym as_many;
      };
      fits = omega arith;
      coming = record {
        few = omega arith;
        apart = tt;
        away = λ p comes. absurd (nothing_comes p comes);
        arrived = λ p. sym (nothing_there SeenBody n p);
      };
      held_bodies = λ p body at. absurd (none_there n p body at);
      came_bodies = λ p body at. absurd (none_there n p body at);
      replays = subst (λ (marks : List Bool). Replays budget width (sizes_of index) (replicate n false) [] (record { held = marks; coming = [] })) (sym none) Begins;
    }

pub made-fresh : (index : IndexLists) (budget width : ℕ) → IsMadeOf index (fresh index budget width)
unfolding fresh
made-fresh index budget width = record { sizes = refl; base = refl }

pub file-fresh : (body : ℕ → SeenBody) (index : IndexLists) (budget width : ℕ) → IsOfFile body (fresh index budget width)
unfolding fresh
file-fresh body index budget width = record {
  held = λ p b at. absurd (none_there (length index.fields) p b at);
  came = λ p b at. absurd (none_there (length index.fields) p b at);
}

-- ---- a patch is pinned

no_entry : (journal : List Turn) (entry : Turn) → journal ++ entry ∷ [] ≡ [] → ⊥
no_entry [] entry is = absurd (cc)
no_entry (t ∷ ts) entry is = absurd (cc)

-- before the first entry the pinned patches are held, and nothing comes
pub places_at_first : (budget width : ℕ) (sizes : List ℕ) (pinned : List Bool) (journal : List Turn) (a : Places) → Replays budget width sizes pinned journal a → journal ≡ [] → (a.held ≡ pinned) × (a.coming ≡ [])
places_at_first budget width sizes pinned journal a Begins is = (refl, refl)
places_at_first budget width sizes pinned journal a (Goes {journal = earlier} entry before needs fits) is = absurd (no_entry earlier entry is)

pub IsTier-with_pin : (s : TierState) (body : SeenBody) → IsTier s → s.journal ≡ [] → slice_get s.held body.patch ≡ Some None → length body.bytes ≡ size s body.patch → load s + size s body.patch ≤ s.budget → IsTier (with_pin s body)
unfolding with_pin
IsTier-with_pin s body tier first away bytes room =
    let p = body.patch in
    let at_first = places_at_first s.budget s.width s.sizes s.pinned s.journal (places s) tier.replays first in
    let pins = slice_set s.pinned p true in
    let marks : marks_of (slice_set s.held p (Some body)) ≡ pins = map-set (λ (o : Option SeenBody). is_some o) s.held p (Some body) ∙ ap (λ (ms : List Bool). slice_set ms p true) at_first.0 in
    let same : places (with_pin s body) ≡ record { held = pins; coming = [] } = ap₂ (λ (ms : List Bool) (cs : List Coming). record { held = ms; coming = cs }) marks at_first.1 in
    let before : load s ≡ marked_bytes s.sizes s.pinned = ap₂ (λ (ms : List Bool) (cs : List Coming). load_of s.sizes (record { held = ms; coming = cs })) at_first.0 at_first.1 ∙ load_of_held s.sizes s.pinned in
    let more = marked_more s.sizes s.pinned p (subst (λ (ms : List Bool). slice_get ms p ≡ Some false) at_first.0 (away_is_unmarked s.held p away)) in
    let now : load (with_pin s body) ≡ marked_bytes s.sizes pins = ap (load_of s.sizes) same ∙ load_of_held s.sizes pins in
    record {
      wide = tier.wide;
      sized = record { wishes = tier.sized.wishes; base = tier.sized.base; pinned = length-set s.pinned p true ∙ tier.sized.pinned; passed = tier.sized.passed; aside = tier.sized.aside; held = length-set s.held p (Some body) ∙ tier.sized.held; came = tier.sized.came };
      fits = omega arith;
      coming = record {
        few = tier.coming.few;
        apart = tier.coming.apart;
        away = λ q comes. absurd (nothing_comes q (subst (λ (cs : List Coming). is_coming cs q ≡ true) at_first.1 comes));
        arrived = tier.coming.arrived;
      };
      held_bodies = each-set (IsBodyFor s.sizes) s.held p (Some body) tier.held_bodies (λ b is. subst (IsBodyFor s.sizes p) (same_Some body b is) (record { patch = refl; size = bytes }));
      came_bodies = tier.came_bodies;
      replays = subst (λ (journal : List Turn). Replays s.budget s.width s.sizes pins journal (places (with_pin s body))) (sym first)
          (subst (Replays s.budget s.width s.sizes pins []) (sym same) Begins);
    }

pub file-with_pin : (body : ℕ → SeenBody) (s : TierState) (b : SeenBody) → b ≡ body b.patch → IsOfFile body s → IsOfFile body (with_pin s b)
unfolding with_pin
file-with_pin body s b right of_file = record {
  held = each-set (λ q c. c ≡ body q) s.held b.patch (Some b) of_file.held (λ c is. sym (same_Some b c is) ∙ right);
  came = of_file.came;
}

-- ---- the opening of the top tier

bodies_length : (body : ℕ → SeenBody) (k : ℕ) (marks : List Bool) → length (bodies_at body k marks) ≡ length marks
unfolding bodies_at
bodies_length body k [] = refl
bodies_length body k (m ∷ ms) = ap suc (bodies_length body (k + 1) ms)

marks_of_bodies : (body : ℕ → SeenBody) (k : ℕ) (marks : List Bool) → marks_of (bodies_at body k marks) ≡ marks
unfolding bodies_at
marks_of_bodies body k [] = refl
marks_of_bodies body k (true ∷ ms) = ap (λ (bs : List Bool). true ∷ bs) (marks_of_bodies body (k + 1) ms)
marks_of_bodies body k (false ∷ ms) = ap (λ (bs : List Bool). false ∷ bs) (marks_of_bodies body (k + 1) ms)

-- a body that is there is the file's of a marked patch
body_of_mark : (body : ℕ → SeenBody) (k : ℕ) (marks : List Bool) (p : ℕ) (b : SeenBody) → slice_get (bodies_at body k marks) p ≡ Some (Some b) → (is_marked marks p ≡ true) × (b ≡ body (k + p))
unfolding bodies_at
body_of_mark body k [] p b at = absurd (cc)
body_of_mark body k (true ∷ ms) zero b at = let same : body k ≡ b = cc in (refl, sym same ∙ ap body (omega arith))
body_of_mark body k (false ∷ ms) zero b at = absurd (cc)
body_of_mark body k (m ∷ ms) (suc p) b at =
    let rest = body_of_mark body (k + 1) ms p b at in
    (rest.0, rest.1 ∙ ap body (omega arith))

held_is_marked : (body : ℕ → SeenBody) (k : ℕ) (marks : List Bool) (p : ℕ) → is_some (slice_index_or (bodies_at body k marks) p None) ≡ is_marked marks p
unfolding bodies_at
held_is_marked body k [] p = refl
held_is_marked body k (true ∷ ms) zero = refl
held_is_marked body k (false ∷ ms) zero = refl
held_is_marked body k (m ∷ ms) (suc p) = held_is_marked body (k + 1) ms p

-- the base patches fit, and these are their bodies
pub record FitsBase (index : IndexLists) (body : ℕ → SeenBody) (budget : ℕ) : Type 0 where
  pub fits : marked_bytes (sizes_of index) (base_marks index.fields) ≤ budget
  pub bodies : (p : ℕ) → is_marked (base_marks index.fields) p ≡ true → IsBodyFor (sizes_of index) p (body p)

pub IsTier-opened_top : (index : IndexLists) (body : ℕ → SeenBody) (budget width : ℕ) → IsWidth width → FitsBase index body budget → IsTier (opened_top index body budget width)
unfolding opened_top fresh
IsTier-opened_top index body budget width wide base =
    let marks = base_marks index.fields in
    let empty = IsTier-fresh index budget width wide in
    let same : marks_of (bodies_at body 0 marks) ≡ marks = marks_of_bodies body 0 marks in
    let now : load (opened_top index body budget width) ≡ marked_bytes (sizes_of index) marks = ap (λ (ms : List Bool). load_of (sizes_of index) (record { held = ms; coming = [] })) same ∙ load_of_held (sizes_of index) marks in
    let room = base.fits in
    record {
      wide = wide;
      sized = record { wishes = empty.sized.wishes; base = empty.sized.base; pinned = empty.sized.base; passed = empty.sized.passed; aside = empty.sized.aside; held = bodies_length body 0 marks ∙ empty.sized.base; came = empty.sized.came };
      fits = omega arith;
      coming = record {
        few = empty.coming.few;
        apart = empty.coming.apart;
        away = λ p comes. absurd (nothing_comes p comes);
        arrived = empty.coming.arrived;
      };
      held_bodies = λ p b at. let is = body_of_mark body 0 marks p b at in subst (IsBodyFor (sizes_of index) p) (sym (is.1 ∙ ap body (omega arith))) (base.bodies p is.0);
      came_bodies = empty.came_bodies;
      replays = subst (λ (ms : List Bool). Replays budget width (sizes_of index) marks [] (record { held = ms; coming = [] })) (sym same) Begins;
    }

pub made-opened_top : (index : IndexLists) (body : ℕ → SeenBody) (budget width : ℕ) → IsMadeOf index (opened_top index body budget width)
unfolding opened_top fresh
made-opened_top index body budget width = record { sizes = refl; base = refl }

pub file-opened_top : (index : IndexLists) (body : ℕ → SeenBody) (budget width : ℕ) → IsOfFile body (opened_top index body budget width)
unfolding opened_top fresh
file-opened_top index body budget width = record {
  held = λ p b at. (body_of_mark body 0 (base_marks index.fields) p b at).1 ∙ ap body (omega arith);
  came = λ p b at. absurd (none_there (length index.fields) p b at);
}

-- the top tier holds the base patches, pinned, and each of them has epoch 1
pub tied-opened : (index : IndexLists) (body : ℕ → SeenBody) (budgets : List ℕ) (budget width : ℕ) → IsTied (opened_top index body budget width) (opened index body budgets width).epochs (is_marked (base_marks index.fields))
unfolding opened_top fresh opened
tied-opened index body budgets budget width = record {
  held = λ p within. odd_where (is_marked (base_marks index.fields) p) ∙ sym (held_is_marked body 0 (base_marks index.fields) p);
  pins = λ p within. refl;
  low = λ p comes. absurd (nothing_comes p comes);
}
  where
    odd_where : (b : Bool) → is_odd (if b then 1 else 0) ≡ b
    odd_where true = refl
    odd_where false = refl

pub counted-opened : (index : IndexLists) (body : ℕ → SeenBody) (budgets : List ℕ) (budget width : ℕ) → AreCounted (opened_top index body budget width) (opened index body budgets width).epochs
unfolding opened_top fresh opened commits_and_evicts
counted-opened index body budgets budget width = record { counted = λ p. omega arith }

-- ---- the opening of a chain

each_fresh : (index : IndexLists) (P : TierState → Type 0) (width : ℕ) → ((budget : ℕ) → P (fresh index budget width)) → (budgets : List ℕ) (k : ℕ) (t : TierState) → slice_get (map (λ b. fresh index b width) budgets) k ≡ Some t → P t
each_fresh index P width each [] k t at = absurd (cc)
each_fresh index P width each (b ∷ bs) zero t at = subst P (same_Some (fresh index b width) t at) (each b)
each_fresh index P width each (b ∷ bs) (suc k) t at = each_fresh index P width each bs k t at

pub each-opened : (index : IndexLists) (body : ℕ → SeenBody) (P : TierState → Type 0) (budget : ℕ) (budgets : List ℕ) (width : ℕ) → P (opened_top index body budget width) → ((b : ℕ) → P (fresh index b width)) → (k : ℕ) (t : TierState) → slice_get (opened_tiers index body (budget ∷ budgets) width) k ≡ Some t → P t
unfolding opened_tiers
each-opened index body P budget budgets width top lower zero t at = subst P (same_Some (opened_top index body budget width) t at) top
each-opened index body P budget budgets width top lower (suc k) t at = each_fresh index P width lower budgets k t at
