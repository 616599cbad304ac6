-- A chain may turn as it starts, as a view is posted, and behind each turn.
use Rattle.std.proofs.Common.{◌≡◌, ◌≢◌, ℕ, ◌<◌, ◌≤◌, List, Option, Some, length, sym, subst, arith}
use Rattle.std.specs.Prelude.{slice_get}
use Rattle.std.proofs.lemmas.Option.{slice_get_within}
use Rattle.mesh_model.specs.Graph.{outgoing}
use Rattle.mesh_model.specs.Meshes.{IsMesh}
use Rattle.accepted_mesh.specs.MeshView.{MeshSeen}
use Rattle.token_words.specs.declared.plain_words.PlainTokens.{PlainTokens}
use Rattle.token_words.specs.PlainTokens.{IsStart}
use Rattle.tier_model.specs.Tiers.{TierState}
use Rattle.tier_model.specs.Turns.{Board}
use Rattle.transfer_step.specs.TurnWords.{board_of}
use Rattle.cache_chain.specs.ChainStates.{ChainSeen}
use Rattle.cache_chain.specs.Opening.{IsOpened}
use Rattle.cache_chain.specs.OpeningFacts.{opened_wishes, starts_tied}
use Rattle.cache_chain.specs.Turning.{AllKeepWishes}
use Rattle.tier_model.specs.Ranks.{Posted}
use Rattle.wish_board.specs.Boards.{BoardSeen, Fits, board_wish, empty_board, with_view}
use Rattle.wish_board.specs.BoardLaws.{fits_empty, fits_with_view, no_wish}
use Rattle.chain_tests.specs.Scenes.{IsReady}

pub ready_at_start : {S : Type 0} (mesh : MeshSeen) (chain : ChainSeen S) (words : PlainTokens) (board : BoardSeen) (bytes : Option (List ℕ)) (budgets : List ℕ) (width : ℕ) → 1 ≤ length budgets → IsMesh mesh.lists → chain.mesh ≡ mesh → board ≡ empty_board mesh.lists
    → IsStart (length mesh.lists.index.fields) (outgoing mesh.lists.index.fields mesh.lists.root) words → IsOpened mesh.lists.index bytes budgets width chain.tiers → IsReady mesh chain words board
ready_at_start mesh chain words board bytes budgets width some_budget facts alike is_empty start opens = record {
  same = alike;
  fits = subst (λ (b : BoardSeen). Fits b mesh.lists.index) (sym is_empty) (fits_empty mesh.lists);
  many = let count = start.patches in omega (arith, count);
  tied = starts_tied mesh.lists bytes budgets width (length mesh.lists.index.fields) chain.tiers words some_budget facts start opens;
  wishes = opened_wishes mesh.lists.index bytes budgets width chain.tiers (board_of (board_wish board) board.version) some_budget (λ first p. subst (λ (b : BoardSeen). board_wish b p ≡ 0) (sym is_empty) (no_wish mesh.lists p)) opens;
}

-- tiers of other versions than the board's keep its wishes
pub others_keep : (board : Board) (tiers : List TierState) (count : ℕ) → length tiers ≤ count → ((k : ℕ) (s : TierState) → k < count → slice_get tiers k ≡ Some s → s.version ≢ board.version) → AllKeepWishes board tiers
others_keep board tiers count all differ = record {
  each = λ k s at. record { wishes = λ same p within. absurd (let within_tiers = slice_get_within tiers k s at in differ k s (omega (arith, all, within_tiers)) at (sym same)) };
}

pub ready_posted : {S : Type 0} (mesh : MeshSeen) (chain : ChainSeen S) (words : PlainTokens) (board new : BoardSeen) (session : ℕ) (view : Option Posted) → new ≡ with_view board session view → AllKeepWishes (board_of (board_wish new) new.version) chain.tiers → IsReady mesh chain words board → IsReady mesh chain words new
ready_posted mesh chain words board new session view is keep ready = record {
  same = ready.same;
  fits = subst (λ (b : BoardSeen). Fits b mesh.lists.index) (sym is) (fits_with_view board mesh.lists.index session view ready.fits);
  many = ready.many;
  tied = ready.tied;
  wishes = keep;
}
