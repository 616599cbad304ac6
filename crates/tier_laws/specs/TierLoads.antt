-- The load of a tier after each change.
use Rattle.std.proofs.Common.{◌≡◌, ℕ, ◌+◌, Bool, true, false, List, Option, Some, None, is_some, refl, sym, ap, ◌∙◌, arith}
use Rattle.std.specs.Prelude.{slice_get, slice_index_or, slice_set}
use Rattle.std.proofs.lemmas.List.{map-set}
use Rattle.file_model.specs.Lists.{SeenBody}
use Rattle.tier_model.specs.declared.turns.Abort.{Abort}
use Rattle.tier_model.specs.declared.turns.Turn.TheVariants.{Lost, Commit, Evict}
use Rattle.tier_model.specs.Places.{without, marked_bytes, load_of, Needs, after}
use Rattle.tier_model.specs.Tiers.{TierState, size, places, load, pinned_bytes, IsTier}
use Rattle.tier_model.specs.Changes.{reserved, arrived, aborted, committed, dropped, passed_over, calmed, renewed, ranked, with_pin}
use Rattle.tier_laws.specs.ComingLaws.{bare_comes, first_comes, all_are_full}
use Rattle.tier_laws.specs.LoadLaws.{marked_more, load-reserve, load-got, load-lost, load-commit, load-evict}
use Rattle.tier_laws.specs.BodyLaws.{marks_of, away_is_unmarked}

pub load_reserved : (s : TierState) (p : ℕ) → load (reserved s p) ≡ load s + size s p
unfolding reserved after
load_reserved s p = load-reserve s.sizes (places s) p

pub load_arrived : (s : TierState) (p : ℕ) (body : SeenBody) → load (arrived s p body) ≡ load s
unfolding arrived after
load_arrived s p body = load-got s.sizes (places s) p

pub load_aborted : (s : TierState) (p : ℕ) (why : Abort) → IsTier s → Needs s.width s.pinned (places s) (Lost p) → load (aborted s p why) + size s p ≡ load s
unfolding aborted after
load_aborted s p why tier needs = load-lost s.sizes (places s) p tier.coming.apart (bare_comes s.coming p needs)

pub load_committed : (s : TierState) (p : ℕ) → IsTier s → Needs s.width s.pinned (places s) (Commit p) → load (committed s p) ≡ load s
unfolding committed after
load_committed s p tier needs =
    let body = slice_index_or s.came p None in
    let comes = first_comes s.coming p needs.0 in
    let there : is_some body ≡ true = sym (tier.coming.arrived p) ∙ all_are_full s.coming p needs.1 comes in
    let marks = map-set (λ (o : Option SeenBody). is_some o) s.held p body ∙ ap (slice_set (marks_of s.held) p) there in
    ap (λ (ms : List Bool). load_of s.sizes (record { held = ms; coming = without p s.coming })) marks
    ∙ load-commit s.sizes (places s) p tier.coming.apart comes (away_is_unmarked s.held p (tier.coming.away p comes))

pub load_dropped : (s : TierState) (p : ℕ) → Needs s.width s.pinned (places s) (Evict p) → load (dropped s p) + size s p ≡ load s
unfolding dropped after
load_dropped s p needs =
    ap (λ (ms : List Bool). load_of s.sizes (record { held = ms; coming = s.coming }) + size s p) (map-set (λ (o : Option SeenBody). is_some o) s.held p None)
    ∙ load-evict s.sizes (places s) p needs.1

pub load_passed_over : (s : TierState) (p : ℕ) → load (passed_over s p) ≡ load s
unfolding passed_over
load_passed_over s p = refl

pub load_calmed : (s : TierState) → load (calmed s) ≡ load s
unfolding calmed
load_calmed s = refl

pub load_renewed : (s : TierState) (version : ℕ) → load (renewed s version) ≡ load s
unfolding renewed
load_renewed s version = refl

pub load_ranked : (s : TierState) (wish : ℕ → ℕ) → load (ranked s wish) ≡ load s
unfolding ranked
load_ranked s wish = refl

pub load_with_pin : (s : TierState) (body : SeenBody) → slice_get s.held body.patch ≡ Some None → load (with_pin s body) ≡ load s + size s body.patch
unfolding with_pin load_of
load_with_pin s body away =
    let p = body.patch in
    let marks = ap (marked_bytes s.sizes) (map-set (λ (o : Option SeenBody). is_some o) s.held p (Some body)) in
    let more = marked_more s.sizes (marks_of s.held) p (away_is_unmarked s.held p away) in
    omega arith

pub pinned_with_pin : (s : TierState) (body : SeenBody) → slice_get s.pinned body.patch ≡ Some false → pinned_bytes (with_pin s body) ≡ pinned_bytes s + size s body.patch
unfolding with_pin
pinned_with_pin s body unpinned = marked_more s.sizes s.pinned body.patch unpinned
