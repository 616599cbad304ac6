use Rattle.std.proofs.Common.{◌<◌, sym, ap, subst, ◌∙◌}
use Rattle.token_table.specs.Seats.{KeeperSeen, desk_in}
use Rattle.token_table.proofs.Seated.{making_asks}
use Rattle.token_table.proofs.tables.TokenTable.make_session.Goals as goal

pub split_seat-requires : goal.split_seat-requires
split_seat-requires c =
    making_asks _ _ c.keeper.inside.seat.id _ _ _ c.self.invariant
    (ap (λ (s : KeeperSeen). s.table) c.keeper.view_is ∙ (c.requires.table ∙ sym c.self.view_is))
    (desk_in c.keeper.inside.seat.me.0) c.keeper.invariant.knows
    (subst (λ (s : KeeperSeen). s.desk.made < 64) (sym c.keeper.view_is) c.requires.room)
