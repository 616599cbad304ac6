use Rattle.std.proofs.Common.{◌≡◌, ◌<◌, length, get_or, sym, ap, subst, ◌∙◌}
use Rattle.file_model.specs.Tries.{is_odd}
use Rattle.token_table.specs.Seats.{KeeperSeen, desk_in}
use Rattle.token_table.proofs.Seated.{admit_asks, word_there}
use Rattle.token_table.proofs.tables.TokenTable.admit.Goals as goal

pub fetch_add-requires : goal.fetch_add-requires
fetch_add-requires c =
    let here : c.keeper.inside.seat.table_id ≡ c.self.inside.table.shared.table_id =
    ap (λ (s : KeeperSeen). s.table) c.keeper.view_is ∙ (c.requires.table ∙ sym c.self.view_is) in
    admit_asks _ _ c.keeper.inside.seat.id c.args.patch _ _ _ c.self.invariant here
    (word_there _ _ _ _ c.keeper.inside.epochs.items c.args.patch c.keeper.invariant here
    (subst (λ (s : KeeperSeen). c.args.patch < length s.desk.epochs) (sym c.keeper.view_is) c.requires.patch))
    (desk_in c.keeper.inside.seat.me.0) c.keeper.invariant.knows
    (ap (λ (s : KeeperSeen). is_odd (get_or s.desk.epochs c.args.patch 0)) c.keeper.view_is ∙ c.requires.away)
    (subst (λ (s : KeeperSeen). get_or s.desk.epochs c.args.patch 0 < 4294967294) (sym c.keeper.view_is) c.requires.below)
