-- What follows of a level for those that turn it and read it.
use Rattle.std.proofs.Common.{◌≡◌, ℕ, ◌<◌, ◌≤◌, ◌⊎◌, Bool, true, List, length, Some, sym, ap, subst, ◌∙◌, inl, inr, arith}
use Rattle.std.specs.Prelude.{slice_get, slice_index}
use Rattle.std.specs.Bool.{MatchBool}
use Rattle.std.proofs.lemmas.Bool.{eqb-true}
use Rattle.std.proofs.lemmas.List.{length-map}
use Rattle.file_model.specs.Lists.{IndexLists, SeenBody, body_size}
use Rattle.file_model.specs.Tries.{is_odd}
use Rattle.token_table.specs.declared.knowledge.Desk.{Desk}
use Rattle.token_table.specs.Seats.{is_pinned}
use Rattle.token_table.specs.Setups.{Setup}
use Rattle.tier_model.specs.Places.{is_marked}
use Rattle.tier_model.specs.Tiers.{TierState, count, is_held, sizes_of, base_marks}
use Rattle.tier_model.specs.Ties.{IsTied}
use Rattle.cache_chain.specs.ChainStates.{IsFileBody}
use Rattle.level_model.specs.Levels.{RunSeen, SeatSeen, FloorSeen, IsTopSeat, IsLowerSeat, IsLevel}

-- ---- the tier is the mesh's

pub level_sizes : (run : RunSeen) (k : ℕ) (mesh : IndexLists) (s : TierState) (seat : SeatSeen) (floor : FloorSeen)
    → IsLevel run k mesh s seat floor → sizes_of mesh ≡ s.sizes
level_sizes run k mesh s seat floor level = ap sizes_of level.of_setup.same ∙ sym level.of_setup.made.sizes

pub level_count : (run : RunSeen) (k : ℕ) (mesh : IndexLists) (s : TierState) (seat : SeatSeen) (floor : FloorSeen)
    → IsLevel run k mesh s seat floor → count s ≡ length run.setup.mesh.fields
level_count run k mesh s seat floor level = ap (λ (ns : List ℕ). length ns) level.of_setup.made.sizes
    ∙ length-map run.setup.mesh.fields (body_size run.setup.mesh.version)

-- ---- the seat

-- a seat with words is the keeper's
pub keeper_top : (setup : Setup) (s : TierState) (desk : Desk) (has_words : Bool) → has_words ≡ true
    → MatchBool has_words (IsTopSeat setup s desk) (IsLowerSeat s) → IsTopSeat setup s desk
keeper_top setup s desk has_words is owned = subst (λ (b : Bool). MatchBool b (IsTopSeat setup s desk) (IsLowerSeat s))
    is owned

pub level_words : (run : RunSeen) (k : ℕ) (mesh : IndexLists) (s : TierState) (seat : SeatSeen) (floor : FloorSeen)
    → IsLevel run k mesh s seat floor → seat.has_words ≡ true → count s ≤ length seat.desk.epochs
level_words run k mesh s seat floor level words =
    let many = (keeper_top run.setup s seat.desk seat.has_words words level.owned).many in
    omega arith

pub level_tied : (run : RunSeen) (k : ℕ) (mesh : IndexLists) (s : TierState) (seat : SeatSeen) (floor : FloorSeen)
    → IsLevel run k mesh s seat floor → seat.has_words ≡ true
    → IsTied s (slice_index seat.desk.epochs) (is_pinned seat.desk)
level_tied run k mesh s seat floor level words = (keeper_top run.setup s seat.desk seat.has_words words
    level.owned).tied

-- ---- what a level holds

-- each body is the file's
pub level_body : (run : RunSeen) (k : ℕ) (mesh : IndexLists) (s : TierState) (seat : SeatSeen) (floor : FloorSeen)
    (p : ℕ) (body : SeenBody) → IsLevel run k mesh s seat floor → slice_get s.held p ≡ Some (Some body)
    → IsFileBody run.setup.mesh run.setup.bytes p body
level_body run k mesh s seat floor p body level held = level.of_setup.bodies.held p body held

base_odd : (setup : Setup) (s : TierState) (desk : Desk) (p : ℕ) → IsTopSeat setup s desk
    → is_marked (base_marks setup.mesh.fields) p ≡ true → is_odd (slice_index desk.epochs p) ≡ true
base_odd setup s desk p top base =
    let pinned : is_pinned desk p ≡ true = top.pins p ∙ ap (λ (marks : List Bool). is_marked marks p) top.base ∙ base in
    top.fits.pinned p (eqb-true (slice_index desk.pins p) 1 pinned)

-- the top level holds each base patch, and each patch whose epoch with the keeper is odd
pub top_holds : (run : RunSeen) (k : ℕ) (mesh : IndexLists) (s : TierState) (seat : SeatSeen) (floor : FloorSeen)
    (p : ℕ) → IsLevel run k mesh s seat floor → seat.has_words ≡ true → p < length run.setup.mesh.fields
    → (is_marked (base_marks run.setup.mesh.fields) p ≡ true) ⊎ (is_odd (slice_index seat.desk.epochs p) ≡ true)
    → is_held s p ≡ true
top_holds run k mesh s seat floor p level words within there =
    let top = keeper_top run.setup s seat.desk seat.has_words words level.owned in
    let many = level_count run k mesh s seat floor level in
    let held = top.tied.held p (omega arith) in
    elim there [
      | inl base ↦ sym held ∙ base_odd run.setup s seat.desk p top base
      | inr odd ↦ sym held ∙ odd
    ]
