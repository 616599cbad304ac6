-- The turn's clauses leave a level over the store.
use Rattle.std.proofs.Common.{true, refl, subst}
use Rattle.std.specs.Prelude.{slice_index}
use Rattle.atomic_table.specs.Seated.{TableId}
use Rattle.file_model.specs.Lists.{IndexLists}
use Rattle.view_outside.specs.Files.{file_bytes}
use Rattle.transfer_step.specs.TurnWords.{told_of}
use Rattle.cache_chain.specs.ChainStates.{IsFileBody, FindsChanged}
use Rattle.cache_chain.specs.WordTurns.{TurnsStore}
use Rattle.level_model.specs.Levels.{RunSeen, SeatSeen, FloorSeen, run_of, seat_of, store_floor}
use Rattle.level_model.specs.LevelTurns.{TurnsRanked, TurnsSeat, KeepsFloor}
use Rattle.tier_levels.proofs.KeptLevels.{keeps_over_store}
use Rattle.tier_levels.proofs.turning.Level+N+T+K+Floor+S.turn_over_store.Goals as goal

pub invariant_of-self : goal.invariant_of-self
invariant_of-self g c =
    let inside = c.self.inside in
    let turn = c.turn.ensures in
    let s = inside.tier.state in
    let t = c.turn.new.tier.state in
    let old = inside.floor in
    let new = c.turn.new.self in
    let has_words = g.K.Member.has_words in
    let run : RunSeen = run_of g.N.Naming.table g.N.Naming.sessions g.N.Naming.setup g.N.Naming.lender in
    let mesh = inside.mesh.now.lists.index in
    let bytes = file_bytes (g.S.Store.files old.store.now) old.file in
    let told = told_of (λ _. true) has_words (slice_index (g.K.Member.desk inside.seat).epochs) in
    let seat : SeatSeen = seat_of has_words (g.K.Member.home inside.seat g.N.Naming.table) (g.K.Member.tier inside.seat) (g.K.Member.desk inside.seat) in
    let later : SeatSeen = seat_of has_words (g.K.Member.home c.turn.new.seat g.N.Naming.table) (g.K.Member.tier c.turn.new.seat) (g.K.Member.desk c.turn.new.seat) in
    let floor : FloorSeen = store_floor (g.S.Store.files old.store.now) old.file (g.S.Store.faults old.store.now) (g.S.Store.taken old.store.now) old.store.ghost_name in
    let after : FloorSeen = store_floor (g.S.Store.files new.store.now) new.file (g.S.Store.faults new.store.now) (g.S.Store.taken new.store.now) new.store.ghost_name in
    let turned = subst (λ (i : IndexLists). TurnsRanked told (IsFileBody i bytes) c.turn.result s t) c.index.ensures.value turn.turns in
    let turns = subst (λ (home : TableId). TurnsSeat c.turn.result t (seat_of has_words (g.K.Member.home inside.seat home) (g.K.Member.tier inside.seat) (g.K.Member.desk inside.seat)) (seat_of has_words (g.K.Member.home c.turn.new.seat home) (g.K.Member.tier c.turn.new.seat) (g.K.Member.desk c.turn.new.seat))) c.requires turn.seat in
    let stays : KeepsFloor floor after = record { has_store = refl; is_still = refl; files = turn.files; file = turn.file; lender = turn.lender } in
    let store = subst (λ (i : IndexLists). TurnsStore (FindsChanged i bytes) s c.turn.result (g.S.Store.faults old.store.now) (g.S.Store.faults new.store.now) (g.S.Store.taken old.store.now) (g.S.Store.taken new.store.now)) c.index.ensures.value turn.store in
    keeps_over_store run g.T.TierNumber.tier mesh c.turn.result s t inside.tier.records c.turn.new.tier.records seat later floor after refl refl turned turn.records turns stays store c.self.invariant
