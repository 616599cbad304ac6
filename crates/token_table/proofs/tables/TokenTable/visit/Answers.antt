use Rattle.std.proofs.Common.{sym, ap, ◌∙◌, Some}
use Rattle.token_table.specs.declared.knowledge.Desk.{Desk}
use Rattle.token_table.specs.Changes.{with_guest}
use Rattle.token_table.specs.Seats.{SessionSeen, KeeperSeen, own_in, desk_in}
use Rattle.token_table.proofs.Seated.{visit_asks, watch_asks, leaving_asks, welcomed}
use Rattle.token_table.proofs.tables.TokenTable.visit.Goals as goal

pub join_seat-requires : goal.join_seat-requires
join_seat-requires c =
    visit_asks _ _ c.keeper.inside.seat.id _ _ _ c.self.invariant
    (ap (λ (s : KeeperSeen). s.table) c.keeper.view_is ∙ (c.requires.table ∙ sym c.self.view_is))
    c.seat.inside.seat.id _ _ (desk_in c.keeper.inside.seat.me.0) (own_in c.seat.inside.seat.me.0)
    (ap (λ (s : SessionSeen). s.table) c.seat.view_is ∙ (c.requires.seat.here ∙ sym c.self.view_is))
    c.keeper.invariant.knows c.keeper.invariant.alone c.seat.invariant

pub load-requires : goal.load-requires
load-requires c =
    let joined = welcomed _ _ _ _ _ c.keeper.invariant.knows c.seat.invariant in
    watch_asks _ _ c.join_seat.new.seat.id 0 _ _ _ c.self.invariant
    (c.join_seat.ensures.0 ∙ (ap (λ (s : KeeperSeen). s.table) c.keeper.view_is ∙ (c.requires.table ∙ sym c.self.view_is)))
    c.self.invariant.some_words (with_guest (Some (own_in c.seat.inside.seat.me.0)) (desk_in c.keeper.inside.seat.me.0))
    (c.join_seat.ensures.2 ∙ joined)

pub split_seat-requires : goal.split_seat-requires
split_seat-requires c =
    let joined = welcomed _ _ _ _ _ c.keeper.invariant.knows c.seat.invariant in
    let desk : Desk = with_guest (Some (own_in c.seat.inside.seat.me.0)) (desk_in c.keeper.inside.seat.me.0) in
    let watched = c.load.ensures.2 desk (ap (λ m. m.0) (c.join_seat.ensures.2 ∙ joined)) in
    leaving_asks _ _ c.load.new.seat.id _ _ _ c.self.invariant
    (c.load.ensures.0 ∙ (c.join_seat.ensures.0 ∙ (ap (λ (s : KeeperSeen). s.table) c.keeper.view_is ∙ (c.requires.table ∙ sym c.self.view_is))))
    (desk_in c.keeper.inside.seat.me.0) (own_in c.seat.inside.seat.me.0) watched.0
