-- Each tier settles behind those below it.
use Rattle.std.proofs.Common.{◌≡◌, ◌∙◌, ◌-◌, ℕ, suc, List, length, refl, subst, arith}
use Rattle.view_outside.specs.Files.{file_bytes}
use Rattle.transfer_step.specs.TurnWords.{board_of}
use Rattle.cache_chain.specs.ChainStates.{states_of}
use Rattle.cache_chain.specs.WordTurns.{words_of}
use Rattle.cache_chain.specs.TurnRuns.{setting_of, moment_of}
use Rattle.view_outside.specs.Files.{Named}
use Rattle.std.specs.Prelude.{Option}
use Rattle.cache_chain.specs.SettleRuns.{MayTurn, LogsTier, LogsHalf, LogsStop}
use Rattle.cache_chain.proofs.LogLaws.{half_begins, half_more, half_stops, half_ends, at_error}
use Rattle.cache_chain.proofs.tier_settling.settle_tiers.Goals as goal

pub loop-left-init : goal.loop-left-init
loop-left-init g c = record {
  files = refl;
  place = refl;
  many = refl;
  within = omega arith;
  may = c.requires.may;
  so_far = half_begins (setting_of (board_of (g.W.Wishes.wish_of c.args.wishes.now) (g.W.Wishes.version_of c.args.wishes.now)) g.K.Keeper.tells_sets g.K.Keeper.tells_misses c.args.index.now (file_bytes (g.S.Store.files c.args.store.now) c.args.file)) (length c.args.tiers.now) (moment_of (states_of c.args.tiers.now) (words_of (g.K.Keeper.patches c.args.keeper.now) (g.K.Keeper.epochs c.args.keeper.now) (g.K.Keeper.pinned c.args.keeper.now) (g.K.Keeper.session_uses c.args.keeper.now) (g.K.Keeper.session_locks c.args.keeper.now) (g.K.Keeper.misses c.args.keeper.now)) (g.S.Store.faults c.args.store.now) (g.S.Store.taken c.args.store.now)) c.args.log.now.items;
}

pub loop-left-preserved : goal.loop-left-preserved
loop-left-preserved g c =
    let m = (moment_of (states_of c.loop-left.tiers) (words_of (g.K.Keeper.patches c.loop-left.keeper) (g.K.Keeper.epochs c.loop-left.keeper) (g.K.Keeper.pinned c.loop-left.keeper) (g.K.Keeper.session_uses c.loop-left.keeper) (g.K.Keeper.session_locks c.loop-left.keeper) (g.K.Keeper.misses c.loop-left.keeper)) (g.S.Store.faults c.loop-left.store) (g.S.Store.taken c.loop-left.store)) in
    let n = (moment_of (states_of c.settle_tier.new.tiers) (words_of (g.K.Keeper.patches c.settle_tier.new.keeper) (g.K.Keeper.epochs c.settle_tier.new.keeper) (g.K.Keeper.pinned c.settle_tier.new.keeper) (g.K.Keeper.session_uses c.settle_tier.new.keeper) (g.K.Keeper.session_locks c.settle_tier.new.keeper) (g.K.Keeper.misses c.settle_tier.new.keeper)) (g.S.Store.faults c.settle_tier.new.store) (g.S.Store.taken c.settle_tier.new.store)) in
    let one : c.loop-left.left ≡ suc (c.loop-left.left - 1) = omega arith in
    let tier = subst (λ (files : Option (List Named)). LogsTier (setting_of (board_of (g.W.Wishes.wish_of c.args.wishes.now) (g.W.Wishes.version_of c.args.wishes.now)) g.K.Keeper.tells_sets g.K.Keeper.tells_misses c.args.index.now (file_bytes files c.args.file)) (c.loop-left.left - 1) m n c.loop-left.log.items c.settle_tier.new.log.items) c.loop-left.invariant.files c.in_ok-settle_tier.ensures.settled in
    let so_far = subst (λ (left : ℕ). LogsHalf (setting_of (board_of (g.W.Wishes.wish_of c.args.wishes.now) (g.W.Wishes.version_of c.args.wishes.now)) g.K.Keeper.tells_sets g.K.Keeper.tells_misses c.args.index.now (file_bytes (g.S.Store.files c.args.store.now) c.args.file)) (length c.args.tiers.now) left (moment_of (states_of c.args.tiers.now) (words_of (g.K.Keeper.patches c.args.keeper.now) (g.K.Keeper.epochs c.args.keeper.now) (g.K.Keeper.pinned c.args.keeper.now) (g.K.Keeper.session_uses c.args.keeper.now) (g.K.Keeper.session_locks c.args.keeper.now) (g.K.Keeper.misses c.args.keeper.now)) (g.S.Store.faults c.args.store.now) (g.S.Store.taken c.args.store.now)) m c.args.log.now.items c.loop-left.log.items) one c.loop-left.invariant.so_far in
    record {
      files = c.in_ok-settle_tier.ensures.files ∙ c.loop-left.invariant.files;
      place = c.in_ok-settle_tier.ensures.place ∙ c.loop-left.invariant.place;
      many = c.in_ok-settle_tier.ensures.many ∙ c.loop-left.invariant.many;
      within = omega (arith, c.loop-left.invariant.within);
      may = subst (λ (files : Option (List Named)). MayTurn (setting_of (board_of (g.W.Wishes.wish_of c.args.wishes.now) (g.W.Wishes.version_of c.args.wishes.now)) g.K.Keeper.tells_sets g.K.Keeper.tells_misses c.args.index.now (file_bytes files c.args.file)) n) c.loop-left.invariant.files c.in_ok-settle_tier.ensures.may;
      so_far = half_more (setting_of (board_of (g.W.Wishes.wish_of c.args.wishes.now) (g.W.Wishes.version_of c.args.wishes.now)) g.K.Keeper.tells_sets g.K.Keeper.tells_misses c.args.index.now (file_bytes (g.S.Store.files c.args.store.now) c.args.file)) (length c.args.tiers.now) (c.loop-left.left - 1) (moment_of (states_of c.args.tiers.now) (words_of (g.K.Keeper.patches c.args.keeper.now) (g.K.Keeper.epochs c.args.keeper.now) (g.K.Keeper.pinned c.args.keeper.now) (g.K.Keeper.session_uses c.args.keeper.now) (g.K.Keeper.session_locks c.args.keeper.now) (g.K.Keeper.misses c.args.keeper.now)) (g.S.Store.faults c.args.store.now) (g.S.Store.taken c.args.store.now)) m n c.args.log.now.items c.loop-left.log.items c.settle_tier.new.log.items so_far tier;
    }

pub returns-in_err-settle_tier-clause-stopped : goal.returns-in_err-settle_tier-clause-stopped
returns-in_err-settle_tier-clause-stopped g c =
    let m = (moment_of (states_of c.loop-left.tiers) (words_of (g.K.Keeper.patches c.loop-left.keeper) (g.K.Keeper.epochs c.loop-left.keeper) (g.K.Keeper.pinned c.loop-left.keeper) (g.K.Keeper.session_uses c.loop-left.keeper) (g.K.Keeper.session_locks c.loop-left.keeper) (g.K.Keeper.misses c.loop-left.keeper)) (g.S.Store.faults c.loop-left.store) (g.S.Store.taken c.loop-left.store)) in
    let n = (moment_of (states_of c.settle_tier.new.tiers) (words_of (g.K.Keeper.patches c.settle_tier.new.keeper) (g.K.Keeper.epochs c.settle_tier.new.keeper) (g.K.Keeper.pinned c.settle_tier.new.keeper) (g.K.Keeper.session_uses c.settle_tier.new.keeper) (g.K.Keeper.session_locks c.settle_tier.new.keeper) (g.K.Keeper.misses c.settle_tier.new.keeper)) (g.S.Store.faults c.settle_tier.new.store) (g.S.Store.taken c.settle_tier.new.store)) in
    let stopped = subst (λ (files : Option (List Named)). LogsStop (setting_of (board_of (g.W.Wishes.wish_of c.args.wishes.now) (g.W.Wishes.version_of c.args.wishes.now)) g.K.Keeper.tells_sets g.K.Keeper.tells_misses c.args.index.now (file_bytes files c.args.file)) (suc (c.loop-left.left - 1)) m n c.loop-left.log.items c.settle_tier.new.log.items) c.loop-left.invariant.files c.in_err-settle_tier.ensures.stopped in
    let one : suc (c.loop-left.left - 1) ≡ c.loop-left.left = omega arith in
    let here = subst (λ (left : ℕ). LogsStop (setting_of (board_of (g.W.Wishes.wish_of c.args.wishes.now) (g.W.Wishes.version_of c.args.wishes.now)) g.K.Keeper.tells_sets g.K.Keeper.tells_misses c.args.index.now (file_bytes (g.S.Store.files c.args.store.now) c.args.file)) left m n c.loop-left.log.items c.settle_tier.new.log.items) one stopped in
    at_error (LogsStop (setting_of (board_of (g.W.Wishes.wish_of c.args.wishes.now) (g.W.Wishes.version_of c.args.wishes.now)) g.K.Keeper.tells_sets g.K.Keeper.tells_misses c.args.index.now (file_bytes (g.S.Store.files c.args.store.now) c.args.file)) (length c.args.tiers.now) (moment_of (states_of c.args.tiers.now) (words_of (g.K.Keeper.patches c.args.keeper.now) (g.K.Keeper.epochs c.args.keeper.now) (g.K.Keeper.pinned c.args.keeper.now) (g.K.Keeper.session_uses c.args.keeper.now) (g.K.Keeper.session_locks c.args.keeper.now) (g.K.Keeper.misses c.args.keeper.now)) (g.S.Store.faults c.args.store.now) (g.S.Store.taken c.args.store.now)) n c.args.log.now.items c.settle_tier.new.log.items) c.from_residual.result (half_stops (setting_of (board_of (g.W.Wishes.wish_of c.args.wishes.now) (g.W.Wishes.version_of c.args.wishes.now)) g.K.Keeper.tells_sets g.K.Keeper.tells_misses c.args.index.now (file_bytes (g.S.Store.files c.args.store.now) c.args.file)) (length c.args.tiers.now) c.loop-left.left (moment_of (states_of c.args.tiers.now) (words_of (g.K.Keeper.patches c.args.keeper.now) (g.K.Keeper.epochs c.args.keeper.now) (g.K.Keeper.pinned c.args.keeper.now) (g.K.Keeper.session_uses c.args.keeper.now) (g.K.Keeper.session_locks c.args.keeper.now) (g.K.Keeper.misses c.args.keeper.now)) (g.S.Store.faults c.args.store.now) (g.S.Store.taken c.args.store.now)) m n c.args.log.now.items c.loop-left.log.items c.settle_tier.new.log.items c.loop-left.invariant.so_far here)

pub returns-clause-settled : goal.returns-clause-settled
returns-clause-settled g c =
    let none : c.loop-left.left ≡ 0 = omega arith in
    half_ends (setting_of (board_of (g.W.Wishes.wish_of c.args.wishes.now) (g.W.Wishes.version_of c.args.wishes.now)) g.K.Keeper.tells_sets g.K.Keeper.tells_misses c.args.index.now (file_bytes (g.S.Store.files c.args.store.now) c.args.file)) (length c.args.tiers.now) (moment_of (states_of c.args.tiers.now) (words_of (g.K.Keeper.patches c.args.keeper.now) (g.K.Keeper.epochs c.args.keeper.now) (g.K.Keeper.pinned c.args.keeper.now) (g.K.Keeper.session_uses c.args.keeper.now) (g.K.Keeper.session_locks c.args.keeper.now) (g.K.Keeper.misses c.args.keeper.now)) (g.S.Store.faults c.args.store.now) (g.S.Store.taken c.args.store.now)) (moment_of (states_of c.loop-left.tiers) (words_of (g.K.Keeper.patches c.loop-left.keeper) (g.K.Keeper.epochs c.loop-left.keeper) (g.K.Keeper.pinned c.loop-left.keeper) (g.K.Keeper.session_uses c.loop-left.keeper) (g.K.Keeper.session_locks c.loop-left.keeper) (g.K.Keeper.misses c.loop-left.keeper)) (g.S.Store.faults c.loop-left.store) (g.S.Store.taken c.loop-left.store)) c.args.log.now.items c.loop-left.log.items (subst (λ (left : ℕ). LogsHalf (setting_of (board_of (g.W.Wishes.wish_of c.args.wishes.now) (g.W.Wishes.version_of c.args.wishes.now)) g.K.Keeper.tells_sets g.K.Keeper.tells_misses c.args.index.now (file_bytes (g.S.Store.files c.args.store.now) c.args.file)) (length c.args.tiers.now) left (moment_of (states_of c.args.tiers.now) (words_of (g.K.Keeper.patches c.args.keeper.now) (g.K.Keeper.epochs c.args.keeper.now) (g.K.Keeper.pinned c.args.keeper.now) (g.K.Keeper.session_uses c.args.keeper.now) (g.K.Keeper.session_locks c.args.keeper.now) (g.K.Keeper.misses c.args.keeper.now)) (g.S.Store.faults c.args.store.now) (g.S.Store.taken c.args.store.now)) (moment_of (states_of c.loop-left.tiers) (words_of (g.K.Keeper.patches c.loop-left.keeper) (g.K.Keeper.epochs c.loop-left.keeper) (g.K.Keeper.pinned c.loop-left.keeper) (g.K.Keeper.session_uses c.loop-left.keeper) (g.K.Keeper.session_locks c.loop-left.keeper) (g.K.Keeper.misses c.loop-left.keeper)) (g.S.Store.faults c.loop-left.store) (g.S.Store.taken c.loop-left.store)) c.args.log.now.items c.loop-left.log.items) none c.loop-left.invariant.so_far)
