-- How a machine opens: over a chain that has just opened, with sessions that are closed and a board without views.
use Rattle.std.proofs.Common.{◌≡◌, ℕ, zero, suc, ◌+◌, ◌≤◌, Bool, true, List, [], ◌∷◌, length, map, Option, Some, None, is_some, refl, sym, ap, ap₂, subst, ◌∙◌, arith}
use Rattle.std.specs.Prelude.{slice_get, if◌then◌else◌}
use Rattle.std.proofs.Math.Path.{fun_ext}
use Rattle.std.proofs.lemmas.Option.{same_Some}
use Rattle.file_model.specs.Lists.{IndexLists, SeenBody}
use Rattle.mesh_model.specs.Graph.{outgoing}
use Rattle.mesh_model.specs.Meshes.{MeshLists, IsMesh}
use Rattle.token_words.specs.PlainTokens.{words_seen, epoch_of, IsStart}
use Rattle.token_words.specs.declared.entries.Entry.{Entry}
use Rattle.token_words.specs.declared.plain_words.PlainTokens.{PlainTokens}
use Rattle.tier_model.specs.Places.{is_marked, marked_bytes, load_of}
use Rattle.tier_model.specs.Tiers.{TierState, load, IsTier, IsBodyFor, sizes_of, base_marks}
use Rattle.tier_model.specs.Changes.{fresh}
use Rattle.tier_model.specs.Chains.{bodies_at, opened_top, opened_tiers, opened}
use Rattle.tier_laws.specs.BodyLaws.{marks_of}
use Rattle.tier_laws.specs.OpeningLaws.{load_of_held}
use Rattle.wish_board.specs.Boards.{BoardSeen, empty_board}
use Rattle.accepted_mesh.specs.MeshView.{MeshSeen}
use Rattle.cache_chain.specs.BaseLaws.{base_listed}
use Rattle.cache_chain.specs.ChainStates.{IsFileBody, AreTiersOf}
use Rattle.cache_chain.specs.Opening.{IsOpened}
use Rattle.run_model.specs.Worlds.{World, IsWorld, HoldsBase, AreBaseBodies}
use Rattle.run_model.specs.States.{State, opening}
use Rattle.run_model.specs.Safe.{IsSafe}
use Rattle.run_model.specs.Kept.{TakeWishes}
use Rattle.resumed_model.specs.Resting.{resting}
use Rattle.run_laws.specs.KeptLaws.{opening_kept}
use Rattle.run_laws.specs.OpeningLaws.{base_is_marked, opened_count, opening_safe}
use Rattle.run_model.specs.RunTexts.{IsOpening}
use Rattle.session_seats.specs.Seats.{SeatsSeen, empty_seats}
use Rattle.session_seats.specs.StartLaws.{none_seated}
use Rattle.view_machine.specs.EmptyStates.{board_for, empty_state}
use Rattle.view_machine.specs.Machines.{MachineSeen, world_with, world_of, width_of, state_in, run_state, IsMachine}
use Rattle.body_loads.specs.ToldBodies.{told_bodies}
use Rattle.view_machine.specs.WorldBodies.{world_body}

-- the tiers have just opened, with these budgets and this width
pub record HaveOpened (index : IndexLists) (bytes : Option (List ℕ)) (tiers : List TierState) : Type 0 where
  pub budgets : List ℕ
  pub width : ℕ
  pub opens : IsOpened index bytes budgets width tiers

-- over an accepted mesh, the words of its patches, of which the base patches are there, seats where no session is open,
-- and a board without views
pub record IsEmptyRun (mesh : MeshLists) (words : PlainTokens) (seats : SeatsSeen) (board : BoardSeen) : Type 0 where
  pub accepted : IsMesh mesh
  pub start : IsStart (length mesh.index.fields) (outgoing mesh.index.fields mesh.root) words
  pub closed : seats ≡ empty_seats mesh
  pub blank : board ≡ empty_board mesh

-- the world of a run of tiers with these budgets and this width
abbrev pub world_for : MeshLists → Option (List ℕ) → List ℕ → ℕ → World
world_for mesh bytes budgets width = record { mesh = mesh; bodies = told_bodies mesh.index bytes; budgets = budgets; width = width }

-- a run opens here, over the mesh and its file, in a safe state of a world in which the base fits
pub record OpensOver {S : Type 0} (over : MeshSeen) (number : ℕ) (told : Option (List ℕ)) (m : MachineSeen S) : Type 0 where
  pub world : IsWorld (world_of m)
  pub holds : HoldsBase (world_of m)
  pub safe : IsSafe (world_of m) (run_state m)
  pub opening : IsOpening (world_of m) (run_state m)
  pub closed : m.seats ≡ empty_seats over.lists
  pub blank : m.board ≡ empty_board over.lists
  pub mesh : m.chain.mesh ≡ over
  pub file : m.chain.file ≡ number
  pub bytes : m.bytes ≡ told

-- ---- the top tier

marks_of_bodies : (body : ℕ → SeenBody) (k : ℕ) (marks : List Bool) → marks_of (bodies_at body k marks) ≡ marks
unfolding bodies_at
marks_of_bodies body k [] = refl
marks_of_bodies body k (m ∷ ms) = ap₂ (λ (x : Bool) (xs : List Bool). x ∷ xs) (one m) (marks_of_bodies body (k + 1) ms)
  where
    one : (m : Bool) → is_some (if m then Some (body k) else None) ≡ m
    one m = elim m as (λ b. is_some (if b then Some (body k) else None) ≡ b) [ true ↦ refl | _ ↦ refl ]

body_of_marked : (body : ℕ → SeenBody) (k : ℕ) (marks : List Bool) (p : ℕ) → is_marked marks p ≡ true → slice_get (bodies_at body k marks) p ≡ Some (Some (body (k + p)))
unfolding bodies_at
body_of_marked body k [] p marked = absurd (cc)
body_of_marked body k (m ∷ ms) zero marked = rw marked (ap (λ (q : ℕ). Some (Some (body q))) (omega arith))
body_of_marked body k (m ∷ ms) (suc p) marked = body_of_marked body (k + 1) ms p marked ∙ ap (λ (q : ℕ). Some (Some (body q))) (omega arith)

-- what holds of the top tier says that its budget holds the base
base_fits : (index : IndexLists) (body : ℕ → SeenBody) (budget width : ℕ) → IsTier (opened_top index body budget width) → marked_bytes (sizes_of index) (base_marks index.fields) ≤ budget
unfolding opened_top fresh
base_fits index body budget width tier =
    let marks = base_marks index.fields in
    let now : load (opened_top index body budget width) ≡ marked_bytes (sizes_of index) marks = ap (λ (ms : List Bool). load_of (sizes_of index) (record { held = ms; coming = [] })) (marks_of_bodies body 0 marks) ∙ load_of_held (sizes_of index) marks in
    let fits = tier.fits in
    omega arith

-- and that the bodies of the base patches are theirs
base_bodies : (index : IndexLists) (body : ℕ → SeenBody) (budget width p : ℕ) → IsTier (opened_top index body budget width) → is_marked (base_marks index.fields) p ≡ true → IsBodyFor (sizes_of index) p (body p)
unfolding opened_top fresh
base_bodies index body budget width p tier marked =
    let at = tier.held_bodies p (body (0 + p)) (body_of_marked body 0 (base_marks index.fields) p marked) in
    subst (λ (q : ℕ). IsBodyFor (sizes_of index) p (body q)) (omega arith) at

-- ---- the world

fresh_budgets : (index : IndexLists) (budgets : List ℕ) (width : ℕ) → map (λ (t : TierState). t.budget) (map (λ b. fresh index b width) budgets) ≡ budgets
unfolding fresh
fresh_budgets index [] width = refl
fresh_budgets index (b ∷ bs) width = ap (λ (xs : List ℕ). b ∷ xs) (fresh_budgets index bs width)

opened_budgets : (index : IndexLists) (body : ℕ → SeenBody) (budget : ℕ) (budgets : List ℕ) (width : ℕ) → map (λ (t : TierState). t.budget) (opened_tiers index body (budget ∷ budgets) width) ≡ budget ∷ budgets
unfolding opened_tiers opened_top fresh
opened_budgets index body budget budgets width = ap (λ (xs : List ℕ). budget ∷ xs) (fresh_budgets index budgets width)

opened_width : (index : IndexLists) (body : ℕ → SeenBody) (budget : ℕ) (budgets : List ℕ) (width : ℕ) → width_of (opened_tiers index body (budget ∷ budgets) width) ≡ width
unfolding opened_tiers opened_top fresh
opened_width index body budget budgets width = refl

world_is : (mesh : MeshLists) (bytes : Option (List ℕ)) (tiers : List TierState) (body : ℕ → SeenBody) (budget : ℕ) (budgets : List ℕ) (width : ℕ) → tiers ≡ opened_tiers mesh.index body (budget ∷ budgets) width → world_with mesh bytes tiers ≡ world_for mesh bytes (budget ∷ budgets) width
world_is mesh bytes tiers body budget budgets width is =
    ap (world_with mesh bytes) is
    ∙ ap₂ (world_for mesh bytes) (opened_budgets mesh.index body budget budgets width) (opened_width mesh.index body budget budgets width)

-- the world of tiers that have just opened is that of their budgets and their width
pub opened_world : (mesh : MeshLists) (bytes : Option (List ℕ)) (tiers : List TierState) (budgets : List ℕ) (width : ℕ) → 1 ≤ length budgets → IsOpened mesh.index bytes budgets width tiers → world_with mesh bytes tiers ≡ world_for mesh bytes budgets width
opened_world mesh bytes tiers [] width some_budget opens = absurd (omega arith)
opened_world mesh bytes tiers (budget ∷ budgets) width some_budget opens = world_is mesh bytes tiers opens.body budget budgets width opens.is

-- ---- the machine

-- the run opens here, in a world, and the tiers have taken the board's wishes
record OpensIn (w : World) (a : State) : Type 0 where
  world : IsWorld w
  holds : HoldsBase w
  safe : IsSafe w a
  take : TakeWishes w a
  opening : IsOpening w a

-- the tiers, with these words, closed seats and a blank board, are a machine, and its run opens
pub record OpensMachine (mesh : MeshLists) (bytes : Option (List ℕ)) (tiers : List TierState) (words : List Entry) (seats : SeatsSeen) (board : BoardSeen) : Type 0 where
  pub is : IsMachine mesh bytes tiers words seats board
  pub holds : HoldsBase (world_with mesh bytes tiers)
  pub opening : IsOpening (world_with mesh bytes tiers) (state_in tiers words seats board)

module _ (mesh : MeshLists) (bytes : Option (List ℕ)) (tiers : List TierState) (tokens : PlainTokens) (facts : IsMesh mesh) (start : IsStart (length mesh.index.fields) (outgoing mesh.index.fields mesh.root) tokens) (are : AreTiersOf mesh.index bytes tiers) where
  module _ (body : ℕ → SeenBody) (right : (p : ℕ) → is_marked (base_marks mesh.index.fields) p ≡ true → IsFileBody mesh.index bytes p (body p)) (budget : ℕ) (budgets : List ℕ) (width : ℕ) (is : tiers ≡ opened_tiers mesh.index body (budget ∷ budgets) width) where
    abbrev w : World
    w = world_for mesh bytes (budget ∷ budgets) width

    abbrev a : State
    a = state_in tiers (words_seen tokens) (empty_seats mesh) (empty_board mesh)

    top_tier : IsTier (opened_top mesh.index body budget width)
    unfolding opened_tiers
    top_tier = (are.each 0 (opened_top mesh.index body budget width) (ap (λ (ts : List TierState). slice_get ts 0) is)).tier

    is_world : IsWorld w
    unfolding opened_top fresh
    is_world = record { mesh = facts; some_tier = omega arith; wide = top_tier.wide }

    holds : HoldsBase w
    holds = record { fits = λ b at. subst (λ (n : ℕ). marked_bytes (sizes_of mesh.index) (base_marks mesh.index.fields) ≤ n) (same_Some budget b at) (base_fits mesh.index body budget width top_tier) }

    bodies : AreBaseBodies w body
    bodies = record {
      each = λ p base.
          let marked = sym (base_is_marked mesh facts p) ∙ base in
          world_body w bytes p (body p) refl (base_bodies mesh.index body budget width p top_tier marked) (right p marked);
    }

    state_is : a ≡ opening w body
    unfolding resting opening opened
    state_is =
        empty_state mesh tiers tokens start.unused
        ∙ ap (λ (ts : List TierState). resting ts (epoch_of tokens)) is
        ∙ ap (resting (opened_tiers mesh.index body (budget ∷ budgets) width))
        (fun_ext (λ (p : ℕ). start.epochs p ∙ ap (λ (b : Bool). if b then 1 else 0) (base_listed mesh facts p)))

    opens_in : OpensIn w a
    opens_in = record {
      world = is_world;
      holds = holds;
      safe = subst (IsSafe w) (sym state_is) (opening_safe w is_world holds body bodies);
      take = subst (TakeWishes w) (sym state_is) (opening_kept w body).wishes;
      opening = record { body = body; bodies = bodies; is = state_is };
    }

    opens_with : OpensMachine mesh bytes tiers (words_seen tokens) (empty_seats mesh) (empty_board mesh)
    opens_with =
        let here : OpensIn (world_with mesh bytes tiers) a = subst (λ (v : World). OpensIn v a) (sym (world_is mesh bytes tiers body budget budgets width is)) opens_in in
        record {
          is = record {
            world = here.world;
            safe = here.safe;
            take = here.take;
            on_board = board_for mesh;
            over = refl;
            seated = none_seated mesh tokens start.patches start.unused;
            pins = λ p. start.pins p ∙ base_listed mesh facts p ∙ sym (base_is_marked mesh facts p);
          };
          holds = here.holds;
          opening = here.opening;
        }

  opens_by : (budgets : List ℕ) (width : ℕ) → IsOpened mesh.index bytes budgets width tiers → OpensMachine mesh bytes tiers (words_seen tokens) (empty_seats mesh) (empty_board mesh)
  opens_by [] width opens = absurd (let some = are.some_tier in let none = ap length opens.is ∙ opened_count mesh.index opens.body [] width in omega arith)
  opens_by (budget ∷ budgets) width opens = opens_with opens.body opens.right budget budgets width opens.is

pub opens_machine : (mesh : MeshLists) (bytes : Option (List ℕ)) (tiers : List TierState) (tokens : PlainTokens) (seats : SeatsSeen) (board : BoardSeen) → AreTiersOf mesh.index bytes tiers → HaveOpened mesh.index bytes tiers → IsEmptyRun mesh tokens seats board → OpensMachine mesh bytes tiers (words_seen tokens) seats board
opens_machine mesh bytes tiers tokens seats board are opened begins =
    let here = opens_by mesh bytes tiers tokens begins.accepted begins.start are opened.budgets opened.width opened.opens in
    subst (λ (s : SeatsSeen). OpensMachine mesh bytes tiers (words_seen tokens) s board) (sym begins.closed)
    (subst (OpensMachine mesh bytes tiers (words_seen tokens) (empty_seats mesh)) (sym begins.blank) here)

-- the same of a chain that is made of these parts
pub opens_again : (mesh now : MeshSeen) (bytes bytes_now : Option (List ℕ)) (tiers tiers_now : List TierState) (words : List Entry) (seats : SeatsSeen) (board : BoardSeen) → now ≡ mesh → bytes_now ≡ bytes → tiers_now ≡ tiers → OpensMachine mesh.lists bytes tiers words seats board → OpensMachine now.lists bytes_now tiers_now words seats board
opens_again mesh now bytes bytes_now tiers tiers_now words seats board same_mesh same_bytes same_tiers opens =
    subst (λ (m : MeshSeen). OpensMachine m.lists bytes_now tiers_now words seats board) (sym same_mesh)
    (subst (λ (bs : Option (List ℕ)). OpensMachine mesh.lists bs tiers_now words seats board) (sym same_bytes)
    (subst (λ (ts : List TierState). OpensMachine mesh.lists bytes ts words seats board) (sym same_tiers) opens))

-- the world of a run that opens over tiers with these budgets and this width
pub world_opened : {S : Type 0} (over : MeshSeen) (number : ℕ) (told : Option (List ℕ)) (m : MachineSeen S) (tiers : List TierState) (budgets : List ℕ) (width : ℕ) → OpensOver over number told m → m.chain.tiers ≡ tiers → 1 ≤ length budgets → IsOpened over.lists.index told budgets width tiers
    → world_of m ≡ world_for over.lists told budgets width
world_opened over number told m tiers budgets width opens same some_budget opened =
    ap (λ (s : MeshSeen). world_with s.lists m.bytes m.chain.tiers) opens.mesh
    ∙ ap₂ (world_with over.lists) opens.bytes same
    ∙ opened_world over.lists told tiers budgets width some_budget opened
