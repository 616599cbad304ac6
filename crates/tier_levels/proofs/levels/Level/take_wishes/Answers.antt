-- A level that begins a turn is one.
use Rattle.std.proofs.Common.{sym, subst}
use Rattle.tier_model.specs.Tiers.{TierState}
use Rattle.transfer_step.specs.TurnWords.{board_of}
use Rattle.level_model.specs.Levels.{RunSeen, SeatSeen, FloorSeen, run_of, seat_of, KeepsLevel}
use Rattle.tier_levels.proofs.KeptLevels.{keeps_begun}
use Rattle.tier_levels.proofs.levels.Level.take_wishes.Goals as goal

pub invariant_of-self : goal.invariant_of-self
invariant_of-self g c =
    let inside = c.self.inside in
    let run : RunSeen = run_of g.N.Naming.table g.N.Naming.sessions g.N.Naming.setup g.N.Naming.lender in
    let mesh = inside.mesh.now.lists.index in
    let seat : SeatSeen = seat_of g.K.Member.has_words (g.K.Member.home inside.seat g.N.Naming.table) (g.K.Member.tier inside.seat) (g.K.Member.desk inside.seat) in
    let floor : FloorSeen = g.F.Ground.seen inside.floor in
    let board = board_of (g.W.Wishes.wish_of c.args.wishes.now) (g.W.Wishes.version_of c.args.wishes.now) in
    subst (λ (s : TierState). KeepsLevel run g.T.TierNumber.tier mesh s c.take_wishes.new.tier.records seat floor) (sym c.take_wishes.ensures.state)
    (keeps_begun board run g.T.TierNumber.tier mesh inside.tier.state inside.tier.records c.take_wishes.new.tier.records seat floor c.take_wishes.ensures.records c.self.invariant)
