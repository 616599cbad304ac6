use Rattle.std.proofs.Common.{◌≡◌, ◌/◌, ◌<◌, sym, ap, subst, ◌∙◌}
use Rattle.atomic_table.specs.Seated.{TableId}
use Rattle.token_table.specs.declared.knowledge.View.TheVariants.{Session}
use Rattle.token_table.specs.declared.knowledge.Own.{Own}
use Rattle.token_table.specs.Known.{has}
use Rattle.token_table.specs.Changes.{after_try}
use Rattle.token_table.specs.Seats.{SessionSeen, own_in}
use Rattle.token_table.proofs.Seated.{at_session, seat_after, seat-after_try, try_asks}
use Rattle.token_table.proofs.tables.TokenTable.try_lock.Goals as goal

pub fetch_add-word-requires : goal.fetch_add-word-requires
fetch_add-word-requires c =
    try_asks _ _ c.seat.inside.seat.id c.args.patch _ _ _ c.self.invariant
    (ap (λ (s : SessionSeen). s.table) c.seat.view_is ∙ (c.requires.seat.here ∙ sym c.self.view_is))
    (subst (λ (t : TableId). c.args.patch < t.words) (sym c.self.view_is) c.requires.patch)
    (own_in c.seat.inside.seat.me.0) c.seat.invariant
    (ap (λ (s : SessionSeen). has s.own.uses c.args.patch) c.seat.view_is ∙ c.requires.free)

pub invariant_of-seat : goal.invariant_of-seat
invariant_of-seat c =
    at_session _ _ (c.fetch_add-word.ensures.2 (own_in c.seat.inside.seat.me.0) (ap (λ m. m.0) c.seat.invariant))

pub returns-clause-seat : goal.returns-clause-seat
returns-clause-seat c =
    let knows : c.seat.inside.seat.me.0 ≡ Session c.args.seat.now.own =
    ap (λ m. m.0) c.seat.invariant ∙ ap (λ (s : SessionSeen). Session s.own) c.seat.view_is in
    let own : Own = after_try c.args.patch (c.fetch_add-word.result / 4294967296) c.args.seat.now.own in
    seat_after _ c.args.self.now _ c.args.seat.now _ own (seat-after_try c.args.self.now c.args.seat.now c.args.patch (c.fetch_add-word.result / 4294967296) c.requires.seat)
    (c.fetch_add-word.ensures.0 ∙ ap (λ (s : SessionSeen). s.table) c.seat.view_is) (c.fetch_add-word.ensures.2 c.args.seat.now.own knows)
