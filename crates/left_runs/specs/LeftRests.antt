-- Levels leave tiers at rest, from which a run goes on.
use Rattle.std.proofs.Common.{◌≡◌, ℕ, suc, ◌+◌, ◌<◌, ◌≤◌, Bool, true, false, List, [], ◌∷◌, length, map, Option, Some, None, refl, sym, ap, subst, ◌∙◌, arith}
use Rattle.std.specs.Prelude.{slice_get, slice_index}
use Rattle.std.proofs.lemmas.Bool.{eqb-true}
use Rattle.std.proofs.lemmas.List.{length-map}
use Rattle.atomic_table.specs.Seated.{TableId}
use Rattle.file_model.specs.Lists.{IndexLists, SeenBody}
use Rattle.file_model.specs.Tries.{is_odd}
use Rattle.mesh_model.specs.Meshes.{MeshLists, IsMesh}
use Rattle.token_table.specs.declared.knowledge.Desk.{Desk}
use Rattle.token_table.specs.Seats.{is_pinned}
use Rattle.tier_model.specs.Places.{is_marked}
use Rattle.tier_model.specs.Tiers.{TierState, IsWidth, IsBodyFor, IsMadeOf, sizes_of, base_marks}
use Rattle.tier_model.specs.Ranks.{Posted, wish_of}
use Rattle.tier_model.specs.Keeping.{KeepsWishes}
use Rattle.tier_model.specs.Ties.{IsTied}
use Rattle.tier_laws.specs.TieLaws.{tied-again}
use Rattle.detail_laws.specs.Needs.{KeepsBase}
use Rattle.wish_board.specs.Boards.{no_posted, empty_board}
use Rattle.wish_board.specs.BoardLaws.{no_wish}
use Rattle.cache_chain.specs.ChainStates.{IsFileBody, HasBodies}
use Rattle.run_model.specs.Worlds.{World, patch_count, is_base, IsWorld}
use Rattle.run_model.specs.Worlds.{IsFileBody as IsWorldBody}
use Rattle.run_model.specs.States.{board_of, posted_views}
use Rattle.run_laws.specs.OpeningLaws.{base_is_marked}
use Rattle.run_laws.specs.Sound.{IsTierOf, many_patches}
use Rattle.resumed_model.specs.Resting.{resting, IsAtRest, AreResting}
use Rattle.level_model.specs.Levels.{RunSeen, SeatSeen, FloorSeen, seat_of, IsTopSeat, IsLevel}
use Rattle.level_model.specs.LevelLists.{AreLevels}
use Rattle.view_machine.specs.WorldBodies.{world_body}
use Rattle.left_runs.specs.Left.{unwished, world_left}
use Rattle.left_runs.specs.LeftTiers.{unwished_setup, unwished_version, unwished_wish, unwished_rests, unwished_tier, unwished_tied, unwished_bodies, unwished_base, was_tier}
use Rattle.left_runs.specs.LeftLevels.{IsLevelAt, some_level, each_level, top_level, lower_level}

-- ---- where no view is posted nothing is wished

unposted : posted_views (λ (i : ℕ). None) ≡ no_posted
unposted = refl

resting_wish : (w : World) (tiers : List TierState) (epochs : ℕ → ℕ) (p : ℕ)
    → (board_of w (resting tiers epochs)).wish p ≡ 0
unfolding board_of resting empty_board
resting_wish w tiers epochs p =
    ap (λ (views : List (Option Posted)). wish_of w.mesh.index.fields views p) unposted ∙ no_wish w.mesh p

pub first_there : (tiers : List TierState) → 1 ≤ length tiers → (top : TierState) × (slice_get tiers 0 ≡ Some top)
first_there [] some_there = absurd (omega arith)
first_there (t ∷ ts) some_there = (t, refl)

-- ---- a level's tier

module _ (mesh : MeshLists) (run : RunSeen) (same : mesh.index ≡ run.setup.mesh) where
  abbrev w : World
  w = world_left mesh run.setup

  -- what is of the setup's mesh is of this one
  here : (P : IndexLists → Type 0) → P run.setup.mesh → P mesh.index
  here P there = subst P (sym same) there

  level_made : (s : TierState) → IsMadeOf run.setup.mesh s → IsMadeOf mesh.index (unwished s)
  level_made s there =
      let made = here (λ index. IsMadeOf index s) there in
      let keeps = unwished_setup s in
      record { sizes = keeps.sizes ∙ made.sizes; base = keeps.base ∙ made.base }

  level_bodies : (s : TierState) → HasBodies (IsFileBody run.setup.mesh run.setup.bytes) s
      → HasBodies (IsFileBody mesh.index run.setup.bytes) (unwished s)
  level_bodies s there = here (λ index. HasBodies (IsFileBody index run.setup.bytes) (unwished s))
      (unwished_bodies s (IsFileBody run.setup.mesh run.setup.bytes) there)

  -- a body of the file is one of the world's
  file_body : (sizes : List ℕ) (p : ℕ) (body : SeenBody) → sizes ≡ sizes_of mesh.index → IsBodyFor sizes p body
      → IsFileBody mesh.index run.setup.bytes p body → IsWorldBody w p body
  file_body sizes p body is for of_file =
      world_body w run.setup.bytes p body refl (subst (λ (ns : List ℕ). IsBodyFor ns p body) is for) of_file

  -- the tier is one of the world
  level_tier : (k : ℕ) (s : TierState) (seat : SeatSeen) (floor : FloorSeen) → IsLevel run k mesh.index s seat floor
      → IsTierOf w k (unwished s)
  level_tier k s seat floor level =
      let keeps = unwished_setup s in
      let made = level_made s level.of_setup.made in
      let tier = unwished_tier s level.budget.tier in
      let bodies = level_bodies s level.of_setup.bodies in
      record {
        tier = tier;
        set_up = record {
          made = made;
          budget = level.budget.budget ∙ ap (λ (n : ℕ). Some n) (sym keeps.budget);
          width = keeps.width ∙ level.budget.width;
        };
        bodies = record {
          held = λ p body at. file_body (unwished s).sizes p body made.sizes (tier.held_bodies p body at)
              (bodies.held p body at);
          came = λ p body at. file_body (unwished s).sizes p body made.sizes (tier.came_bodies p body at)
              (bodies.came p body at);
        };
      }

  -- ---- the top tier

  -- the keeper's pins are the base patches
  pub pins_are : IsMesh mesh → (s : TierState) (desk : Desk) → IsTopSeat run.setup s desk → (p : ℕ)
      → is_base w p ≡ is_pinned desk p
  pins_are facts s desk top p =
      base_is_marked mesh facts p
      ∙ ap (λ (index : IndexLists). is_marked (base_marks index.fields) p) same
      ∙ sym (ap (λ (marks : List Bool). is_marked marks p) top.base)
      ∙ sym (top.pins p)

  top_tied : IsMesh mesh → (s : TierState) (desk : Desk) → IsTopSeat run.setup s desk
      → IsTied (unwished s) (slice_index desk.epochs) (is_base w)
  top_tied facts s desk top =
      unwished_tied s (slice_index desk.epochs) (is_base w)
      (tied-again s (slice_index desk.epochs) (slice_index desk.epochs) (is_pinned desk) (is_base w) (λ p. refl)
      (pins_are facts s desk top) top.tied)

  top_odd : IsMesh mesh → (s : TierState) (desk : Desk) → IsTopSeat run.setup s desk → (p : ℕ) → is_base w p ≡ true
      → is_odd (slice_index desk.epochs p) ≡ true
  top_odd facts s desk top p base =
      top.fits.pinned p (eqb-true (slice_index desk.pins p) 1 (sym (pins_are facts s desk top p) ∙ base))

  -- ---- all tiers

  module _ (facts : IsMesh mesh) (home : TableId) (desk : Desk) (tiers : List TierState) (floor : FloorSeen)
      (many : length tiers ≡ length run.setup.budgets)
      (are : AreLevels run mesh.index 0 (seat_of true home 0 desk) tiers floor) where
    level_at : (k : ℕ) (s : TierState) → slice_get tiers k ≡ Some s → IsLevelAt run mesh.index k s
    level_at k s at =
        let number : 0 + k ≡ k = omega arith in
        subst (λ (n : ℕ). IsLevelAt run mesh.index n s) number
        (each_level run mesh.index 0 (seat_of true home 0 desk) tiers floor are k s at)

    pub top_at : (s : TierState) → slice_get tiers 0 ≡ Some s → IsTopSeat run.setup s desk
    top_at = top_level run mesh.index 0 (seat_of true home 0 desk) tiers floor are refl

    -- what holds of each tier that wishes nothing any more
    each_left : (P : ℕ → TierState → Type 0) → ((k : ℕ) (s : TierState) → slice_get tiers k ≡ Some s → P k (unwished s))
        → (k : ℕ) (t : TierState) → slice_get (map unwished tiers) k ≡ Some t → P k t
    each_left P each k t at =
        let was = was_tier tiers k t at in
        subst (P k) was.is (each k was.before was.at)

    pub left_world : IsWorld w
    left_world =
        let some = some_level run mesh.index 0 (seat_of true home 0 desk) tiers floor are in
        let top = first_there tiers some in
        let here = level_at 0 top.0 top.1 in
        record {
          mesh = facts;
          some_tier = subst (λ (n : ℕ). 1 ≤ n) many some;
          wide = subst IsWidth here.level.budget.width here.level.budget.tier.wide;
        }

    pub levels_rest : AreResting w (map unwished tiers) (slice_index desk.epochs)
    levels_rest = record {
      many = length-map tiers unwished ∙ many;
      each = each_left (IsTierOf w) (λ k s at.
          let here = level_at k s at in
          level_tier k s here.seat here.floor here.level);
      at_rest = each_left (λ k t. IsAtRest t) (λ k s at. unwished_rests s);
      versions = each_left (λ k t. t.version ≡ 0) (λ k s at. unwished_version s);
      wishes = each_left (λ k t. KeepsWishes (board_of w (resting (map unwished tiers) (slice_index desk.epochs))) t)
          (λ k s at. record {
            wishes = λ is p within.
                unwished_wish s p (subst (λ (ns : List ℕ). p < length ns) (unwished_setup s).sizes within)
                ∙ sym (resting_wish w (map unwished tiers) (slice_index desk.epochs) p);
          });
      tied = record {
        top = λ t at.
            let was = was_tier tiers 0 t at in
            subst (λ (u : TierState). IsTied u (slice_index desk.epochs) (is_base w)) was.is
            (top_tied facts was.before desk (top_at was.before was.at));
      };
      no_pins = λ k t p at.
          let was = was_tier tiers (suc k) t at in
          let lower = lower_level run mesh.index 0 (seat_of true home 0 desk) tiers floor are k was.before was.at in
          subst (λ (u : TierState). is_marked u.pinned p ≡ false) was.is
          (ap (λ (marks : List Bool). is_marked marks p) (unwished_setup was.before).pinned ∙ lower.unpinned p);
      base_odd = λ p base.
          let top = first_there tiers (some_level run mesh.index 0 (seat_of true home 0 desk) tiers floor are) in
          top_odd facts top.0 desk (top_at top.0 top.1) p base;
    }

    pub left_bodies : (k : ℕ) (t : TierState) → slice_get (map unwished tiers) k ≡ Some t
        → HasBodies (IsFileBody mesh.index run.setup.bytes) t
    left_bodies = each_left (λ k t. HasBodies (IsFileBody mesh.index run.setup.bytes) t)
        (λ k s at. level_bodies s (level_at k s at).level.of_setup.bodies)

    -- the first has exactly the base pinned
    pub left_pins : (t : TierState) → slice_get (map unwished tiers) 0 ≡ Some t
        → t.pinned ≡ base_marks mesh.index.fields
    left_pins t at =
        let was = was_tier tiers 0 t at in
        subst (λ (u : TierState). u.pinned ≡ base_marks mesh.index.fields) was.is
        ((unwished_setup was.before).pinned ∙ (top_at was.before was.at).base
        ∙ ap (λ (index : IndexLists). base_marks index.fields) (sym same))

    -- and the keeper knows an epoch of each patch
    pub left_many : length desk.epochs ≡ patch_count w
    left_many =
        let top = first_there tiers (some_level run mesh.index 0 (seat_of true home 0 desk) tiers floor are) in
        let level = level_at 0 top.0 top.1 in
        let set_up = (level_tier 0 top.0 level.seat level.floor level.level).set_up in
        (top_at top.0 top.1).many ∙ sym (ap (λ (ns : List ℕ). length ns) (unwished_setup top.0).sizes)
        ∙ many_patches w 0 (unwished top.0) set_up

    -- base patches stay where the opening put them
    pub left_bases : (k : ℕ) (t : TierState) → slice_get (map unwished tiers) k ≡ Some t → KeepsBase t
    left_bases = each_left (λ k t. KeepsBase t) (λ k s at.
        unwished_base s (level_at k s at).level.of_setup.bases)
