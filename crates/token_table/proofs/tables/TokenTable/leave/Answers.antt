use Rattle.std.proofs.Common.{◌≡◌, ◌<◌, sym, ap, subst, ◌∙◌}
use Rattle.atomic_table.specs.Seated.{TableId}
use Rattle.token_table.specs.declared.knowledge.View.TheVariants.{Session}
use Rattle.token_table.specs.declared.knowledge.Own.{Own}
use Rattle.token_table.specs.Known.{has}
use Rattle.token_table.specs.Changes.{after_leave}
use Rattle.token_table.specs.Seats.{SessionSeen, own_in}
use Rattle.token_table.proofs.Seated.{at_session, seat_after, seat-after_leave, leave_asks}
use Rattle.token_table.proofs.tables.TokenTable.leave.Goals as goal

pub fetch_sub-requires : goal.fetch_sub-requires
fetch_sub-requires c =
    leave_asks _ _ c.seat.inside.seat.id c.args.patch _ _ _ c.self.invariant
    (ap (λ (s : SessionSeen). s.table) c.seat.view_is ∙ (c.requires.seat.here ∙ sym c.self.view_is))
    (subst (λ (t : TableId). c.args.patch < t.words) (sym c.self.view_is) c.requires.patch)
    (own_in c.seat.inside.seat.me.0) c.seat.invariant
    (ap (λ (s : SessionSeen). has s.own.uses c.args.patch) c.seat.view_is ∙ c.requires.tried)

pub invariant_of-seat : goal.invariant_of-seat
invariant_of-seat c =
    at_session _ _ (c.fetch_sub.ensures.2 (own_in c.seat.inside.seat.me.0) (ap (λ m. m.0) c.seat.invariant))

pub returns-clause-seat : goal.returns-clause-seat
returns-clause-seat c =
    let knows : c.seat.inside.seat.me.0 ≡ Session c.args.seat.now.own =
    ap (λ m. m.0) c.seat.invariant ∙ ap (λ (s : SessionSeen). Session s.own) c.seat.view_is in
    let own : Own = after_leave c.args.patch c.args.seat.now.own in
    seat_after _ c.args.self.now _ c.args.seat.now _ own (seat-after_leave c.args.self.now c.args.seat.now c.args.patch c.requires.seat)
    (c.fetch_sub.ensures.0 ∙ ap (λ (s : SessionSeen). s.table) c.seat.view_is) (c.fetch_sub.ensures.2 c.args.seat.now.own knows)
