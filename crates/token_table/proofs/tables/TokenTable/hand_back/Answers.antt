use Rattle.std.proofs.Common.{sym, ap, subst, ◌∙◌}
use Rattle.token_table.specs.declared.knowledge.Own.{Own}
use Rattle.token_table.specs.declared.knowledge.Desk.{Desk}
use Rattle.token_words.specs.Tries.{AreTries}
use Rattle.token_table.specs.Known.{has}
use Rattle.token_table.specs.Changes.{with_ended}
use Rattle.token_table.specs.Seats.{SessionSeen, KeeperSeen, own_in, desk_in}
use Rattle.token_table.proofs.Seated.{end_asks, watch_asks, ended, last_ended}
use Rattle.token_table.proofs.tables.TokenTable.hand_back.Goals as goal

pub join_seat-requires : goal.join_seat-requires
join_seat-requires c =
    end_asks _ _ c.keeper.inside.seat.id _ _ _ c.self.invariant
    (ap (λ (s : KeeperSeen). s.table) c.keeper.view_is ∙ (c.requires.table ∙ sym c.self.view_is))
    c.seat.inside.seat.id _ _ (desk_in c.keeper.inside.seat.me.0) (own_in c.seat.inside.seat.me.0)
    (ap (λ (s : SessionSeen). s.table) c.seat.view_is ∙ (c.requires.seat.here ∙ sym c.self.view_is))
    c.keeper.invariant.knows (λ p. ap (λ (s : SessionSeen). has s.own.uses p) c.seat.view_is ∙ c.requires.unused p) c.seat.invariant

pub load-requires : goal.load-requires
load-requires c =
    let joined = ended _ _ _ _ _ c.keeper.invariant.knows c.seat.invariant in
    watch_asks _ _ c.join_seat.new.seat.id 0 _ _ _ c.self.invariant
    (c.join_seat.ensures.0 ∙ (ap (λ (s : KeeperSeen). s.table) c.keeper.view_is ∙ (c.requires.table ∙ sym c.self.view_is)))
    c.self.invariant.some_words (with_ended (own_in c.seat.inside.seat.me.0) (desk_in c.keeper.inside.seat.me.0))
    (c.join_seat.ensures.2 ∙ joined)

pub returns-clause-tries : goal.returns-clause-tries
returns-clause-tries c =
    let joined = ended _ _ _ _ _ c.keeper.invariant.knows c.seat.invariant in
    let own : Own = own_in c.seat.inside.seat.me.0 in
    let desk : Desk = desk_in c.keeper.inside.seat.me.0 in
    let watched = c.load.ensures.2 (with_ended own desk) (ap (λ m. m.0) (c.join_seat.ensures.2 ∙ joined)) in
    let tries : AreTries desk.epochs own.tries = last_ended desk own watched.1 in
    subst (λ (s : SessionSeen). AreTries (desk_in c.load.new.seat.me.0).epochs s.own.tries) c.seat.view_is
    (subst (λ m. AreTries (desk_in m.0).epochs own.tries) (sym watched.0) tries)
