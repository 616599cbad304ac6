-- Each change of a tier leaves a tier.
use Rattle.std.proofs.Common.{◌≡◌, ℕ, zero, suc, ◌+◌, ◌<◌, ◌≤◌, Bool, true, false, eqb, List, [], ◌∷◌, ◌++◌, length, map, Option, Some, None, is_some, refl, sym, ap, subst, ◌∙◌, arith, inl, inr}
use Rattle.std.specs.Prelude.{slice_get, slice_index, slice_index_or, slice_set}
use Rattle.std.specs.List.{range_with_len}
use Rattle.std.proofs.lemmas.Bool.{cond_both, cases_eq, both_ways}
use Rattle.std.proofs.lemmas.List.{length-set, length-map, length-replicate, length_push, get_or-set_same, get_or-set_other, map-set}
use Rattle.std.proofs.lemmas.Option.{same_Some, slice_get_within}
use Rattle.file_model.specs.Lists.{SeenBody}
use Rattle.tier_model.specs.declared.turns.Abort.{Abort}
use Rattle.tier_model.specs.declared.turns.Abort.TheVariants as reasons
use Rattle.tier_model.specs.declared.turns.Coming.{Coming}
use Rattle.tier_model.specs.declared.turns.Turn.{Turn}
use Rattle.tier_model.specs.declared.turns.Turn.TheVariants.{Reserve, Evict, Got, Lost, Fault, Changed, Commit}
use Rattle.tier_model.specs.Places.{Places, bare, is_coming, is_full, first_bare, with_body, without, load_of, Needs, after, Replays, Goes}
use Rattle.tier_model.specs.Tiers.{TierState, count, size, places, load, kept_wish, IsBodyFor, IsTier}
use Rattle.tier_model.specs.Changes.{reserved, arrived, abort_entry, aside_after, aborted, committed, dropped, passed_over, calmed, renewed, ranked}
use Rattle.tier_laws.specs.ComingLaws.{nothing_comes, reserved_others, reserved_full, reserved_apart, arrived_comes, arrived_full, arrived_others, arrived_apart, arrived_length, gone_comes, gone_full, gone_full_others, gone_came, gone_apart, gone_length, first_comes, bare_comes, bare_not_full, all_are_full}
use Rattle.tier_laws.specs.LoadLaws.{load-reserve, load-got, load-lost, load-commit, load-evict}
use Rattle.tier_model.specs.Turns.{Board, begun}
use Rattle.tier_laws.specs.BodyLaws.{get-set_other, each-set, unmarked_is_away, away_is_unmarked, there_is_body}

-- ---- a patch comes

pub IsTier-reserved : (s : TierState) (p : ℕ) → IsTier s → Needs s.width s.pinned (places s) (Reserve p) → load s + size s p ≤ s.budget → IsTier (reserved s p)
unfolding reserved after
IsTier-reserved s p tier needs room =
    let more = load-reserve s.sizes (places s) p in
    let fits : load_of s.sizes (after (places s) (Reserve p)) ≤ s.budget = omega arith in
    record {
      wide = tier.wide;
      sized = record { wishes = tier.sized.wishes; base = tier.sized.base; pinned = tier.sized.pinned; passed = tier.sized.passed; aside = tier.sized.aside; held = tier.sized.held; came = tier.sized.came };
      fits = fits;
      coming = record {
        few = let longer = length_push s.coming (bare p) in let fewer = needs.0 in omega arith;
        apart = reserved_apart s.coming p tier.coming.apart needs.2;
        away = λ q comes. elim (cases_eq q p) [
          | inl same ↦ subst (λ (n : ℕ). slice_get s.held n ≡ Some None) (sym same) (unmarked_is_away s.held p needs.1)
          | inr ne ↦ tier.coming.away q (sym (reserved_others s.coming p q ne) ∙ comes)
        ];
        arrived = λ q. reserved_full s.coming p q ∙ tier.coming.arrived q;
      };
      held_bodies = tier.held_bodies;
      came_bodies = tier.came_bodies;
      replays = Goes (Reserve p) tier.replays needs fits;
    }

-- a patch that comes has a place in the lists by patch
pub comes_within : (s : TierState) (p : ℕ) → IsTier s → is_coming s.coming p ≡ true → p < count s
comes_within s p tier comes =
    let within = slice_get_within s.held p None (tier.coming.away p comes) in
    let sized = tier.sized.held in
    omega arith

-- ---- its body comes

pub IsTier-arrived : (s : TierState) (p : ℕ) (body : SeenBody) → IsTier s → Needs s.width s.pinned (places s) (Got p) → IsBodyFor s.sizes p body → IsTier (arrived s p body)
unfolding arrived after
IsTier-arrived s p body tier needs right =
    let comes = bare_comes s.coming p needs in
    let within = comes_within s p tier comes in
    let same_load = load-got s.sizes (places s) p in
    let room = tier.fits in
    let fits : load_of s.sizes (after (places s) (Got p)) ≤ s.budget = omega arith in
    record {
      wide = tier.wide;
      sized = record { wishes = tier.sized.wishes; base = tier.sized.base; pinned = tier.sized.pinned; passed = tier.sized.passed; aside = tier.sized.aside; held = tier.sized.held; came = length-set s.came p (Some body) ∙ tier.sized.came };
      fits = fits;
      coming = record {
        few = let as_many = arrived_length p s.coming in let few = tier.coming.few in omega arith;
        apart = arrived_apart p s.coming tier.coming.apart;
        away = λ q comes. tier.coming.away q (sym (arrived_comes p s.coming q) ∙ comes);
        arrived = λ q. elim (cases_eq q p) [
          | inl same ↦ subst (λ (n : ℕ). is_full (with_body p s.coming) n ≡ is_some (slice_index_or (slice_set s.came p (Some body)) n None)) (sym same)
              (arrived_full p s.coming comes ∙ sym (ap (λ o. is_some o) (get_or-set_same s.came p (Some body) None (let sized = tier.sized.came in omega arith))))
          | inr ne ↦ arrived_others p s.coming q ne ∙ tier.coming.arrived q ∙ sym (ap (λ o. is_some o) (get_or-set_other s.came p q (Some body) None ne))
        ];
      };
      held_bodies = tier.held_bodies;
      came_bodies = each-set (IsBodyFor s.sizes) s.came p (Some body) tier.came_bodies (λ b is. subst (IsBodyFor s.sizes p) (same_Some body b is) right);
      replays = Goes (Got p) tier.replays needs fits;
    }

-- ---- it doesn't come

aside_length : (aside : List Bool) (p : ℕ) (why : Abort) → length (aside_after aside p why) ≡ length aside
unfolding aside_after
aside_length aside p reasons.Lost = refl
aside_length aside p reasons.Fault = length-set aside p true
aside_length aside p (reasons.Changed fault) = length-set aside p true

goes_without : (budget width : ℕ) (sizes : List ℕ) (pinned : List Bool) (journal : List Turn) (a : Places) (p : ℕ) (why : Abort) → Replays budget width sizes pinned journal a → first_bare a.coming ≡ Some p → load_of sizes (after a (Lost p)) ≤ budget → Replays budget width sizes pinned (journal ++ abort_entry p why ∷ []) (after a (Lost p))
unfolding abort_entry after
goes_without budget width sizes pinned journal a p reasons.Lost replays bare fits = Goes (Lost p) replays bare fits
goes_without budget width sizes pinned journal a p reasons.Fault replays bare fits = Goes (Fault p) replays bare fits
goes_without budget width sizes pinned journal a p (reasons.Changed fault) replays bare fits = Goes (Changed p fault) replays bare fits

pub IsTier-aborted : (s : TierState) (p : ℕ) (why : Abort) → IsTier s → Needs s.width s.pinned (places s) (Lost p) → IsTier (aborted s p why)
unfolding aborted after
IsTier-aborted s p why tier needs =
    let comes = bare_comes s.coming p needs in
    let fewer = load-lost s.sizes (places s) p tier.coming.apart comes in
    let room = tier.fits in
    let fits : load_of s.sizes (after (places s) (Lost p)) ≤ s.budget = omega arith in
    record {
      wide = tier.wide;
      sized = record { wishes = tier.sized.wishes; base = tier.sized.base; pinned = tier.sized.pinned; passed = tier.sized.passed; aside = aside_length s.aside p why ∙ tier.sized.aside; held = tier.sized.held; came = tier.sized.came };
      fits = fits;
      coming = record {
        few = let shorter = gone_length p s.coming in let few = tier.coming.few in omega arith;
        apart = gone_apart p s.coming tier.coming.apart;
        away = λ q comes. tier.coming.away q (gone_came p s.coming q comes);
        arrived = λ q. elim (cases_eq q p) [
          | inl same ↦ subst (λ (n : ℕ). is_full (without p s.coming) n ≡ is_some (slice_index_or s.came n None)) (sym same)
              (gone_full p s.coming ∙ sym (bare_not_full s.coming p tier.coming.apart needs) ∙ tier.coming.arrived p)
          | inr ne ↦ gone_full_others p s.coming q ne ∙ tier.coming.arrived q
        ];
      };
      held_bodies = tier.held_bodies;
      came_bodies = tier.came_bodies;
      replays = goes_without s.budget s.width s.sizes s.pinned s.journal (places s) p why tier.replays needs fits;
    }

-- ---- it is held

pub IsTier-committed : (s : TierState) (p : ℕ) → IsTier s → Needs s.width s.pinned (places s) (Commit p) → IsTier (committed s p)
unfolding committed after
IsTier-committed s p tier needs =
    let body = slice_index_or s.came p None in
    let comes = first_comes s.coming p needs.0 in
    let away = tier.coming.away p comes in
    let within = comes_within s p tier comes in
    let there : is_some body ≡ true = sym (tier.coming.arrived p) ∙ all_are_full s.coming p needs.1 comes in
    let marks = map-set (λ (o : Option SeenBody). is_some o) s.held p body ∙ ap (slice_set (map (λ (o : Option SeenBody). is_some o) s.held) p) there in
    let same_load = load-commit s.sizes (places s) p tier.coming.apart comes (away_is_unmarked s.held p away) in
    let room = tier.fits in
    let fits : load_of s.sizes (after (places s) (Commit p)) ≤ s.budget = omega arith in
    let same : places (committed s p) ≡ after (places s) (Commit p) = ap (λ (ms : List Bool). record { held = ms; coming = without p s.coming }) marks in
    record {
      wide = tier.wide;
      sized = record { wishes = tier.sized.wishes; base = tier.sized.base; pinned = tier.sized.pinned; passed = tier.sized.passed; aside = tier.sized.aside; held = length-set s.held p body ∙ tier.sized.held; came = length-set s.came p None ∙ tier.sized.came };
      fits = subst (λ (a : Places). load_of s.sizes a ≤ s.budget) (sym same) fits;
      coming = record {
        few = let shorter = gone_length p s.coming in let few = tier.coming.few in omega arith;
        apart = gone_apart p s.coming tier.coming.apart;
        away = λ q there. get-set_other s.held p q body (λ is. both_ways (is_coming (without p s.coming) q) (subst (λ (n : ℕ). is_coming (without p s.coming) n ≡ false) (sym is) (gone_comes p s.coming)) there) ∙ tier.coming.away q (gone_came p s.coming q there);
        arrived = λ q. elim (cases_eq q p) [
          | inl is ↦ subst (λ (n : ℕ). is_full (without p s.coming) n ≡ is_some (slice_index_or (slice_set s.came p None) n None)) (sym is)
              (gone_full p s.coming ∙ sym (ap (λ o. is_some o) (get_or-set_same s.came p None None (let sized = tier.sized.came in omega arith))))
          | inr ne ↦ gone_full_others p s.coming q ne ∙ tier.coming.arrived q ∙ sym (ap (λ o. is_some o) (get_or-set_other s.came p q None None ne))
        ];
      };
      held_bodies = each-set (IsBodyFor s.sizes) s.held p body tier.held_bodies (λ b is. tier.came_bodies p b (there_is_body s.came p b is));
      came_bodies = each-set (IsBodyFor s.sizes) s.came p None tier.came_bodies (λ b is. absurd (cc));
      replays = subst (Replays s.budget s.width s.sizes s.pinned (s.journal ++ Commit p ∷ [])) (sym same) (Goes (Commit p) tier.replays needs fits);
    }

-- ---- it leaves

pub IsTier-dropped : (s : TierState) (p : ℕ) → IsTier s → Needs s.width s.pinned (places s) (Evict p) → IsTier (dropped s p)
unfolding dropped after
IsTier-dropped s p tier needs =
    let marks = map-set (λ (o : Option SeenBody). is_some o) s.held p None in
    let fewer = load-evict s.sizes (places s) p needs.1 in
    let room = tier.fits in
    let fits : load_of s.sizes (after (places s) (Evict p)) ≤ s.budget = omega arith in
    let same : places (dropped s p) ≡ after (places s) (Evict p) = ap (λ (ms : List Bool). record { held = ms; coming = s.coming }) marks in
    record {
      wide = tier.wide;
      sized = record { wishes = tier.sized.wishes; base = tier.sized.base; pinned = tier.sized.pinned; passed = tier.sized.passed; aside = tier.sized.aside; held = length-set s.held p None ∙ tier.sized.held; came = tier.sized.came };
      fits = subst (λ (a : Places). load_of s.sizes a ≤ s.budget) (sym same) fits;
      coming = record {
        few = tier.coming.few;
        apart = tier.coming.apart;
        away = λ q comes. absurd (nothing_comes q (subst (λ (cs : List Coming). is_coming cs q ≡ true) needs.0 comes));
        arrived = tier.coming.arrived;
      };
      held_bodies = each-set (IsBodyFor s.sizes) s.held p None tier.held_bodies (λ b is. absurd (cc));
      came_bodies = tier.came_bodies;
      replays = subst (Replays s.budget s.width s.sizes s.pinned (s.journal ++ Evict p ∷ [])) (sym same) (Goes (Evict p) tier.replays needs fits);
    }

-- ---- changes without an entry

pub IsTier-passed_over : (s : TierState) (p : ℕ) → IsTier s → IsTier (passed_over s p)
unfolding passed_over
IsTier-passed_over s p tier = record {
  wide = tier.wide;
  sized = record { wishes = tier.sized.wishes; base = tier.sized.base; pinned = tier.sized.pinned; passed = length-set s.passed p true ∙ tier.sized.passed; aside = tier.sized.aside; held = tier.sized.held; came = tier.sized.came };
  fits = tier.fits;
  coming = record { few = tier.coming.few; apart = tier.coming.apart; away = tier.coming.away; arrived = tier.coming.arrived };
  held_bodies = tier.held_bodies;
  came_bodies = tier.came_bodies;
  replays = tier.replays;
}

pub IsTier-calmed : (s : TierState) → IsTier s → IsTier (calmed s)
unfolding calmed
IsTier-calmed s tier = record {
  wide = tier.wide;
  sized = record { wishes = tier.sized.wishes; base = tier.sized.base; pinned = tier.sized.pinned; passed = length-replicate (count s) false; aside = tier.sized.aside; held = tier.sized.held; came = tier.sized.came };
  fits = tier.fits;
  coming = record { few = tier.coming.few; apart = tier.coming.apart; away = tier.coming.away; arrived = tier.coming.arrived };
  held_bodies = tier.held_bodies;
  came_bodies = tier.came_bodies;
  replays = tier.replays;
}

pub IsTier-renewed : (s : TierState) (version : ℕ) → IsTier s → IsTier (renewed s version)
unfolding renewed
IsTier-renewed s version tier = record {
  wide = tier.wide;
  sized = record { wishes = tier.sized.wishes; base = tier.sized.base; pinned = tier.sized.pinned; passed = length-replicate (count s) false; aside = length-replicate (count s) false; held = tier.sized.held; came = tier.sized.came };
  fits = tier.fits;
  coming = record { few = tier.coming.few; apart = tier.coming.apart; away = tier.coming.away; arrived = tier.coming.arrived };
  held_bodies = tier.held_bodies;
  came_bodies = tier.came_bodies;
  replays = tier.replays;
}

length-range : (from n : ℕ) → length (range_with_len from n) ≡ n
length-range from zero = refl
length-range from (suc n) = ap suc (length-range (from + 1) n)

pub IsTier-ranked : (s : TierState) (wish : ℕ → ℕ) → IsTier s → IsTier (ranked s wish)
unfolding ranked
IsTier-ranked s wish tier = record {
  wide = tier.wide;
  sized = record { wishes = length-map (range_with_len 0 (count s)) wish ∙ length-range 0 (count s); base = tier.sized.base; pinned = tier.sized.pinned; passed = tier.sized.passed; aside = tier.sized.aside; held = tier.sized.held; came = tier.sized.came };
  fits = tier.fits;
  coming = record { few = tier.coming.few; apart = tier.coming.apart; away = tier.coming.away; arrived = tier.coming.arrived };
  held_bodies = tier.held_bodies;
  came_bodies = tier.came_bodies;
  replays = tier.replays;
}

-- the kept wishes are those that the tier was ranked by
wish_in_range : (wish : ℕ → ℕ) (from n p : ℕ) → p < n → slice_index (map wish (range_with_len from n)) p ≡ wish (from + p)
wish_in_range wish from zero p within = absurd (omega arith)
wish_in_range wish from (suc n) zero within = ap wish (omega arith)
wish_in_range wish from (suc n) (suc p) within = wish_in_range wish (from + 1) n p (omega arith) ∙ ap wish (omega arith)

pub ranked_wish : (s : TierState) (wish : ℕ → ℕ) (p : ℕ) → p < count s → kept_wish (ranked s wish) p ≡ wish p
unfolding ranked
ranked_wish s wish p within = wish_in_range wish 0 (count s) p within ∙ ap wish (omega arith)

pub IsTier-begun : (board : Board) (s : TierState) → IsTier s → IsTier (begun board s)
unfolding begun
IsTier-begun board s tier =
    cond_both (eqb board.version s.version) s (renewed (ranked s board.wish) board.version) IsTier
    (λ same. tier)
    (λ differs. IsTier-renewed (ranked s board.wish) board.version (IsTier-ranked s board.wish tier))
