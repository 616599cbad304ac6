-- The turn's clauses leave a level over the one below, whose bodies are the file's.
use Rattle.std.proofs.Common.{refl, subst, arith}
use Rattle.atomic_table.specs.Seated.{TableId}
use Rattle.view_outside.specs.Faults.{Rose}
use Rattle.cache_chain.specs.AnswerMaps.{result_fault_more}
use Rattle.cache_chain.specs.WordTurns.{NeverFails}
use Rattle.level_model.specs.Levels.{RunSeen, SeatSeen, run_of, seat_of, tier_floor}
use Rattle.level_model.specs.LevelTurns.{TurnsSeat}
use Rattle.tier_levels.proofs.KeptLevels.{keeps_over_tier}
use Rattle.tier_levels.proofs.turning.Level+N+T+K+NoFloor.turn_over_tier.Goals as goal

pub invariant_of-self : goal.invariant_of-self
invariant_of-self g c =
    let inside = c.self.inside in
    let turn = c.ranked_over.ensures in
    let result = c.ranked_over.result in
    let s = inside.tier.state in
    let t = c.ranked_over.new.tier.state in
    let has_words = g.K.Member.has_words in
    let after = c.ranked_over.new.seat in
    let run : RunSeen = run_of g.N.Naming.table g.N.Naming.sessions g.N.Naming.setup g.N.Naming.lender in
    let seat : SeatSeen = seat_of has_words (g.K.Member.home inside.seat g.N.Naming.table) (g.K.Member.tier inside.seat) (g.K.Member.desk inside.seat) in
    let later : SeatSeen = seat_of has_words (g.K.Member.home after g.N.Naming.table) (g.K.Member.tier after) (g.K.Member.desk after) in
    let turns = subst (λ (home : TableId). TurnsSeat result t (seat_of has_words (g.K.Member.home inside.seat home) (g.K.Member.tier inside.seat) (g.K.Member.desk inside.seat)) (seat_of has_words (g.K.Member.home after home) (g.K.Member.tier after) (g.K.Member.desk after))) c.requires turn.seat in
    let never : NeverFails result = record {
      fault = result_fault_more (λ _. Rose 0 0) (λ _. ⊥) (λ p rose. let never : Rose 0 0 = rose in omega arith) result turn.fault;
      changed = turn.changed;
    } in
    keeps_over_tier run g.T.TierNumber.tier inside.mesh.now.lists.index c.below.inside.tier.state result s t inside.tier.records c.ranked_over.new.tier.records seat later tier_floor refl refl turn.turns turn.records turns never c.below.invariant.level.of_setup.bodies c.self.invariant
