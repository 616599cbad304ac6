-- The tiers behind these have settled, and each turn was logged.
use Rattle.std.proofs.Common.{◌≡◌, ◌≤◌, length}
use Rattle.view_outside.specs.Files.{file_bytes}
use Rattle.transfer_step.specs.TurnWords.{board_of}
use Rattle.cache_chain.specs.ChainStates.{states_of}
use Rattle.cache_chain.specs.WordTurns.{words_of}
use Rattle.cache_chain.specs.TurnRuns.{setting_of, moment_of}
use Rattle.cache_chain.specs.SettleRuns.{MayTurn, LogsHalf}
use Rattle.cache_chain.proofs.tier_settling.settle_tiers.Given as goal

abbrev pub invariant-loop-left : goal.invariant-loop-left
invariant-loop-left g l = record {
  files : g.S.Store.files l.store ≡ g.S.Store.files l.initial.store;
  place : g.K.Keeper.place l.keeper ≡ g.K.Keeper.place l.initial.keeper;
  many : length l.tiers ≡ length l.initial.tiers;
  within : l.left ≤ length l.initial.tiers;
  may : MayTurn (setting_of (board_of (g.W.Wishes.wish_of l.wishes) (g.W.Wishes.version_of l.wishes)) g.K.Keeper.tells_sets g.K.Keeper.tells_misses l.index (file_bytes (g.S.Store.files l.initial.store) l.file)) (moment_of (states_of l.tiers) (words_of (g.K.Keeper.patches l.keeper) (g.K.Keeper.epochs l.keeper) (g.K.Keeper.pinned l.keeper) (g.K.Keeper.session_uses l.keeper) (g.K.Keeper.session_locks l.keeper) (g.K.Keeper.misses l.keeper)) (g.S.Store.faults l.store) (g.S.Store.taken l.store));
  so_far : LogsHalf (setting_of (board_of (g.W.Wishes.wish_of l.wishes) (g.W.Wishes.version_of l.wishes)) g.K.Keeper.tells_sets g.K.Keeper.tells_misses l.index (file_bytes (g.S.Store.files l.initial.store) l.file)) (length l.initial.tiers) l.left (moment_of (states_of l.initial.tiers) (words_of (g.K.Keeper.patches l.initial.keeper) (g.K.Keeper.epochs l.initial.keeper) (g.K.Keeper.pinned l.initial.keeper) (g.K.Keeper.session_uses l.initial.keeper) (g.K.Keeper.session_locks l.initial.keeper) (g.K.Keeper.misses l.initial.keeper)) (g.S.Store.faults l.initial.store) (g.S.Store.taken l.initial.store)) (moment_of (states_of l.tiers) (words_of (g.K.Keeper.patches l.keeper) (g.K.Keeper.epochs l.keeper) (g.K.Keeper.pinned l.keeper) (g.K.Keeper.session_uses l.keeper) (g.K.Keeper.session_locks l.keeper) (g.K.Keeper.misses l.keeper)) (g.S.Store.faults l.store) (g.S.Store.taken l.store)) l.initial.log.items l.log.items;
}

abbrev pub decreases-loop-left : goal.decreases-loop-left
decreases-loop-left g l = l.left
