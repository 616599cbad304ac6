-- Each turn goes on from those before it, which are few.
use Rattle.std.proofs.Common.{◌≡◌, ◌≢◌, ◌∙◌, suc, List, refl, subst, arith, rules}
use Rattle.std.proofs.lemmas.List.{length-map}
use Rattle.view_outside.specs.Files.{file_bytes}
use Rattle.transfer_step.specs.TurnWords.{board_of}
use Rattle.cache_chain.specs.ChainStates.{states_of}
use Rattle.cache_chain.specs.WordTurns.{words_of}
use Rattle.cache_chain.specs.TurnRuns.{setting_of, moment_of}
use Rattle.view_outside.specs.Files.{Named}
use Rattle.std.specs.Prelude.{Option}
use Rattle.tier_budget.specs.TierView.{TierSeen}
use Rattle.tier_model.specs.declared.turns.Turn.TheVariants.{Idle}
use Rattle.cache_chain.specs.TurnRuns.{MakesTurn, RefusesTurn}
use Rattle.cache_chain.specs.SettleRuns.{MayTurn, LogsStop}
use Rattle.cache_chain.proofs.LogLaws.{midway_starts, midway_more, midway_ends, midway_stops, midway_few, at_error}
use Rattle.cache_chain.proofs.tier_settling.settle_tier.Goals as goal

pub loop-turn-init : goal.loop-turn-init
loop-turn-init g c =
    let many = length-map c.args.tiers.now (λ (t : TierSeen). t.state) in
    record {
      files = refl;
      place = refl;
      many = refl;
      may = c.requires.may;
      so_far = midway_starts (setting_of (board_of (g.W.Wishes.wish_of c.args.wishes.now) (g.W.Wishes.version_of c.args.wishes.now)) g.K.Keeper.tells_sets g.K.Keeper.tells_misses c.args.index.now (file_bytes (g.S.Store.files c.args.store.now) c.args.file)) c.args.tier (moment_of (states_of c.args.tiers.now) (words_of (g.K.Keeper.patches c.args.keeper.now) (g.K.Keeper.epochs c.args.keeper.now) (g.K.Keeper.pinned c.args.keeper.now) (g.K.Keeper.session_uses c.args.keeper.now) (g.K.Keeper.session_locks c.args.keeper.now) (g.K.Keeper.misses c.args.keeper.now)) (g.S.Store.faults c.args.store.now) (g.S.Store.taken c.args.store.now)) c.args.log.now.items c.requires.may (omega (arith, many, c.requires.tier));
    }

pub returns-in_err-turn-clause-stopped : goal.returns-in_err-turn-clause-stopped
returns-in_err-turn-clause-stopped g c =
    let m = (moment_of (states_of c.loop-turn.tiers) (words_of (g.K.Keeper.patches c.loop-turn.keeper) (g.K.Keeper.epochs c.loop-turn.keeper) (g.K.Keeper.pinned c.loop-turn.keeper) (g.K.Keeper.session_uses c.loop-turn.keeper) (g.K.Keeper.session_locks c.loop-turn.keeper) (g.K.Keeper.misses c.loop-turn.keeper)) (g.S.Store.faults c.loop-turn.store) (g.S.Store.taken c.loop-turn.store)) in
    let n = (moment_of (states_of c.log_turn.new.tiers) (words_of (g.K.Keeper.patches c.log_turn.new.keeper) (g.K.Keeper.epochs c.log_turn.new.keeper) (g.K.Keeper.pinned c.log_turn.new.keeper) (g.K.Keeper.session_uses c.log_turn.new.keeper) (g.K.Keeper.session_locks c.log_turn.new.keeper) (g.K.Keeper.misses c.log_turn.new.keeper)) (g.S.Store.faults c.log_turn.new.store) (g.S.Store.taken c.log_turn.new.store)) in
    let refused = subst (λ (files : Option (List Named)). RefusesTurn (setting_of (board_of (g.W.Wishes.wish_of c.args.wishes.now) (g.W.Wishes.version_of c.args.wishes.now)) g.K.Keeper.tells_sets g.K.Keeper.tells_misses c.args.index.now (file_bytes files c.args.file)) c.args.tier m n) c.loop-turn.invariant.files c.in_err-turn.ensures.refused in
    at_error (LogsStop (setting_of (board_of (g.W.Wishes.wish_of c.args.wishes.now) (g.W.Wishes.version_of c.args.wishes.now)) g.K.Keeper.tells_sets g.K.Keeper.tells_misses c.args.index.now (file_bytes (g.S.Store.files c.args.store.now) c.args.file)) (suc c.args.tier) (moment_of (states_of c.args.tiers.now) (words_of (g.K.Keeper.patches c.args.keeper.now) (g.K.Keeper.epochs c.args.keeper.now) (g.K.Keeper.pinned c.args.keeper.now) (g.K.Keeper.session_uses c.args.keeper.now) (g.K.Keeper.session_locks c.args.keeper.now) (g.K.Keeper.misses c.args.keeper.now)) (g.S.Store.faults c.args.store.now) (g.S.Store.taken c.args.store.now)) n c.args.log.now.items c.log_turn.new.log.items) c.from_residual.result (midway_stops (setting_of (board_of (g.W.Wishes.wish_of c.args.wishes.now) (g.W.Wishes.version_of c.args.wishes.now)) g.K.Keeper.tells_sets g.K.Keeper.tells_misses c.args.index.now (file_bytes (g.S.Store.files c.args.store.now) c.args.file)) c.args.tier c.loop-turn._turn (moment_of (states_of c.args.tiers.now) (words_of (g.K.Keeper.patches c.args.keeper.now) (g.K.Keeper.epochs c.args.keeper.now) (g.K.Keeper.pinned c.args.keeper.now) (g.K.Keeper.session_uses c.args.keeper.now) (g.K.Keeper.session_locks c.args.keeper.now) (g.K.Keeper.misses c.args.keeper.now)) (g.S.Store.faults c.args.store.now) (g.S.Store.taken c.args.store.now)) m n c.args.log.now.items c.loop-turn.log.items c.log_turn.new.log.items c.loop-turn.invariant.so_far refused c.in_err-turn.ensures.log)

pub returns-then-eq-clause-settled : goal.returns-then-eq-clause-settled
returns-then-eq-clause-settled g c =
    let m = (moment_of (states_of c.loop-turn.tiers) (words_of (g.K.Keeper.patches c.loop-turn.keeper) (g.K.Keeper.epochs c.loop-turn.keeper) (g.K.Keeper.pinned c.loop-turn.keeper) (g.K.Keeper.session_uses c.loop-turn.keeper) (g.K.Keeper.session_locks c.loop-turn.keeper) (g.K.Keeper.misses c.loop-turn.keeper)) (g.S.Store.faults c.loop-turn.store) (g.S.Store.taken c.loop-turn.store)) in
    let n = (moment_of (states_of c.log_turn.new.tiers) (words_of (g.K.Keeper.patches c.log_turn.new.keeper) (g.K.Keeper.epochs c.log_turn.new.keeper) (g.K.Keeper.pinned c.log_turn.new.keeper) (g.K.Keeper.session_uses c.log_turn.new.keeper) (g.K.Keeper.session_locks c.log_turn.new.keeper) (g.K.Keeper.misses c.log_turn.new.keeper)) (g.S.Store.faults c.log_turn.new.store) (g.S.Store.taken c.log_turn.new.store)) in
    let idle : c.in_ok-turn.turn ≡ Idle = search rules in
    let made = subst (λ (files : Option (List Named)). MakesTurn (setting_of (board_of (g.W.Wishes.wish_of c.args.wishes.now) (g.W.Wishes.version_of c.args.wishes.now)) g.K.Keeper.tells_sets g.K.Keeper.tells_misses c.args.index.now (file_bytes files c.args.file)) c.args.tier c.in_ok-turn.turn m n) c.loop-turn.invariant.files c.in_ok-turn.ensures.made in
    midway_ends (setting_of (board_of (g.W.Wishes.wish_of c.args.wishes.now) (g.W.Wishes.version_of c.args.wishes.now)) g.K.Keeper.tells_sets g.K.Keeper.tells_misses c.args.index.now (file_bytes (g.S.Store.files c.args.store.now) c.args.file)) c.args.tier c.loop-turn._turn (moment_of (states_of c.args.tiers.now) (words_of (g.K.Keeper.patches c.args.keeper.now) (g.K.Keeper.epochs c.args.keeper.now) (g.K.Keeper.pinned c.args.keeper.now) (g.K.Keeper.session_uses c.args.keeper.now) (g.K.Keeper.session_locks c.args.keeper.now) (g.K.Keeper.misses c.args.keeper.now)) (g.S.Store.faults c.args.store.now) (g.S.Store.taken c.args.store.now)) m n c.in_ok-turn.turn c.args.log.now.items c.loop-turn.log.items c.log_turn.new.log.items c.loop-turn.invariant.so_far made idle c.in_ok-turn.ensures.log

pub loop-turn-preserved : goal.loop-turn-preserved
loop-turn-preserved g c =
    let m = (moment_of (states_of c.loop-turn.tiers) (words_of (g.K.Keeper.patches c.loop-turn.keeper) (g.K.Keeper.epochs c.loop-turn.keeper) (g.K.Keeper.pinned c.loop-turn.keeper) (g.K.Keeper.session_uses c.loop-turn.keeper) (g.K.Keeper.session_locks c.loop-turn.keeper) (g.K.Keeper.misses c.loop-turn.keeper)) (g.S.Store.faults c.loop-turn.store) (g.S.Store.taken c.loop-turn.store)) in
    let n = (moment_of (states_of c.log_turn.new.tiers) (words_of (g.K.Keeper.patches c.log_turn.new.keeper) (g.K.Keeper.epochs c.log_turn.new.keeper) (g.K.Keeper.pinned c.log_turn.new.keeper) (g.K.Keeper.session_uses c.log_turn.new.keeper) (g.K.Keeper.session_locks c.log_turn.new.keeper) (g.K.Keeper.misses c.log_turn.new.keeper)) (g.S.Store.faults c.log_turn.new.store) (g.S.Store.taken c.log_turn.new.store)) in
    let on : c.in_ok-turn.turn ≢ Idle = search rules in
    let made = subst (λ (files : Option (List Named)). MakesTurn (setting_of (board_of (g.W.Wishes.wish_of c.args.wishes.now) (g.W.Wishes.version_of c.args.wishes.now)) g.K.Keeper.tells_sets g.K.Keeper.tells_misses c.args.index.now (file_bytes files c.args.file)) c.args.tier c.in_ok-turn.turn m n) c.loop-turn.invariant.files c.in_ok-turn.ensures.made in
    record {
      files = c.in_ok-turn.ensures.files ∙ c.loop-turn.invariant.files;
      place = c.in_ok-turn.ensures.place ∙ c.loop-turn.invariant.place;
      many = c.in_ok-turn.ensures.many ∙ c.loop-turn.invariant.many;
      may = subst (λ (files : Option (List Named)). MayTurn (setting_of (board_of (g.W.Wishes.wish_of c.args.wishes.now) (g.W.Wishes.version_of c.args.wishes.now)) g.K.Keeper.tells_sets g.K.Keeper.tells_misses c.args.index.now (file_bytes files c.args.file)) n) c.loop-turn.invariant.files c.in_ok-turn.ensures.may;
      so_far = midway_more (setting_of (board_of (g.W.Wishes.wish_of c.args.wishes.now) (g.W.Wishes.version_of c.args.wishes.now)) g.K.Keeper.tells_sets g.K.Keeper.tells_misses c.args.index.now (file_bytes (g.S.Store.files c.args.store.now) c.args.file)) c.args.tier c.loop-turn._turn (moment_of (states_of c.args.tiers.now) (words_of (g.K.Keeper.patches c.args.keeper.now) (g.K.Keeper.epochs c.args.keeper.now) (g.K.Keeper.pinned c.args.keeper.now) (g.K.Keeper.session_uses c.args.keeper.now) (g.K.Keeper.session_locks c.args.keeper.now) (g.K.Keeper.misses c.args.keeper.now)) (g.S.Store.faults c.args.store.now) (g.S.Store.taken c.args.store.now)) m n c.in_ok-turn.turn c.args.log.now.items c.loop-turn.log.items c.log_turn.new.log.items c.loop-turn.invariant.so_far made on c.in_ok-turn.ensures.log;
    }

pub unreachable-requires : goal.unreachable-requires
unreachable-requires g c =
    let few = midway_few (setting_of (board_of (g.W.Wishes.wish_of c.args.wishes.now) (g.W.Wishes.version_of c.args.wishes.now)) g.K.Keeper.tells_sets g.K.Keeper.tells_misses c.args.index.now (file_bytes (g.S.Store.files c.args.store.now) c.args.file)) c.args.tier c.loop-turn._turn (moment_of (states_of c.args.tiers.now) (words_of (g.K.Keeper.patches c.args.keeper.now) (g.K.Keeper.epochs c.args.keeper.now) (g.K.Keeper.pinned c.args.keeper.now) (g.K.Keeper.session_uses c.args.keeper.now) (g.K.Keeper.session_locks c.args.keeper.now) (g.K.Keeper.misses c.args.keeper.now)) (g.S.Store.faults c.args.store.now) (g.S.Store.taken c.args.store.now)) (moment_of (states_of c.loop-turn.tiers) (words_of (g.K.Keeper.patches c.loop-turn.keeper) (g.K.Keeper.epochs c.loop-turn.keeper) (g.K.Keeper.pinned c.loop-turn.keeper) (g.K.Keeper.session_uses c.loop-turn.keeper) (g.K.Keeper.session_locks c.loop-turn.keeper) (g.K.Keeper.misses c.loop-turn.keeper)) (g.S.Store.faults c.loop-turn.store) (g.S.Store.taken c.loop-turn.store)) c.args.log.now.items c.loop-turn.log.items c.loop-turn.invariant.so_far in
    omega (arith, few, c.loop-turn-test.false, c.patch_count.ensures.value)
