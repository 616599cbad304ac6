use Rattle.std.proofs.Common.{◌≡◌, ℕ, true, List, length, subst, Vec, Global}
use Rattle.script_model.specs.declared.orders.Order.{Order}
use Rattle.script_model.specs.declared.orders.Order.TheVariants as orders
use Rattle.script_model.specs.Histories.{History}
use Rattle.script_model.specs.OrderFaults.{allows}
use Rattle.view_machine.specs.AllowedOrders.{opens_session, opens_closed, views_open, frees_open, closes_open, steps_viewed, frames_viewed, turns_tier}
use Rattle.view_machine.specs.LineEnds.{history_of}
use Rattle.view_machine.specs.LineOutputs.{gives_as, open_gives, view_gives, step_gives, frame_gives, free_gives, close_gives, turn_gives, settle_gives, status_gives}
use Rattle.view_machine.proofs.machines.Machine.line_output.Goals as goal

-- the order that stands there is allowed
allowed_as : (tiers : ℕ) (history : History) (order same : Order) → order ≡ same → allows tiers history order ≡ true → allows tiers history same ≡ true
allowed_as tiers history order same is allowed = subst (λ (o : Order). allows tiers history o ≡ true) is allowed

abbrev items : Vec ℕ Global → List ℕ
items v = v.items

pub open-requires-clause-number : goal.open-requires-clause-number
open-requires-clause-number g c =
    let m = c.args.self.now in
    opens_session (length m.chain.tiers) m.seats.sessions c.in-Open.session (allowed_as (length m.chain.tiers) (history_of m) c.args.order.now (orders.Open c.in-Open.session) c.in-Open.is c.requires.allowed)

pub open-requires-clause-closed : goal.open-requires-clause-closed
open-requires-clause-closed g c =
    let m = c.args.self.now in
    opens_closed (length m.chain.tiers) m.seats.sessions c.in-Open.session (allowed_as (length m.chain.tiers) (history_of m) c.args.order.now (orders.Open c.in-Open.session) c.in-Open.is c.requires.allowed)

pub view-requires-clause-open : goal.view-requires-clause-open
view-requires-clause-open g c =
    let m = c.args.self.now in
    views_open (length m.chain.tiers) m.seats.sessions c.in-View.session c.in-View.view (allowed_as (length m.chain.tiers) (history_of m) c.args.order.now (orders.View c.in-View.session c.in-View.view) c.in-View.is c.requires.allowed)

pub step-requires : goal.step-requires
step-requires g c =
    let m = c.args.self.now in
    steps_viewed (length m.chain.tiers) m.seats.sessions c.in-Step.session (allowed_as (length m.chain.tiers) (history_of m) c.args.order.now (orders.Step c.in-Step.session) c.in-Step.is c.requires.allowed)

pub frame-requires-clause-view : goal.frame-requires-clause-view
frame-requires-clause-view g c =
    let m = c.args.self.now in
    frames_viewed (length m.chain.tiers) m.seats.sessions c.in-Frame.session (allowed_as (length m.chain.tiers) (history_of m) c.args.order.now (orders.Frame c.in-Frame.session) c.in-Frame.is c.requires.allowed)

pub free-requires : goal.free-requires
free-requires g c =
    let m = c.args.self.now in
    frees_open (length m.chain.tiers) m.seats.sessions c.in-Free.session (allowed_as (length m.chain.tiers) (history_of m) c.args.order.now (orders.Free c.in-Free.session) c.in-Free.is c.requires.allowed)

pub close-requires-clause-open : goal.close-requires-clause-open
close-requires-clause-open g c =
    let m = c.args.self.now in
    closes_open (length m.chain.tiers) m.seats.sessions c.in-Close.session (allowed_as (length m.chain.tiers) (history_of m) c.args.order.now (orders.Close c.in-Close.session) c.in-Close.is c.requires.allowed)

pub turn-requires : goal.turn-requires
turn-requires g c =
    let m = c.args.self.now in
    turns_tier (length m.chain.tiers) m.seats.sessions c.in-Turn.tier (allowed_as (length m.chain.tiers) (history_of m) c.args.order.now (orders.Turn c.in-Turn.tier) c.in-Turn.is c.requires.allowed)

pub returns-in-Open : goal.returns-in-Open
returns-in-Open g c =
    let m = c.args.self.now in
    let e = c.open.ensures in
    gives_as g.S.Store.files g.S.Store.faults g.S.Store.taken m c.open.new.self c.open.result items c.args.order.now (orders.Open c.in-Open.session) c.in-Open.is
    (open_gives g.S.Store.files g.S.Store.faults g.S.Store.taken m c.open.new.self c.open.result items c.in-Open.session e.line e.none e.told e.place e.board e.chain)

pub returns-in-View : goal.returns-in-View
returns-in-View g c =
    let m = c.args.self.now in
    let e = c.view.ensures in
    gives_as g.S.Store.files g.S.Store.faults g.S.Store.taken m c.view.new.self c.view.result items c.args.order.now (orders.View c.in-View.session c.in-View.view) c.in-View.is
    (view_gives g.S.Store.files g.S.Store.faults g.S.Store.taken m c.view.new.self c.view.result items c.in-View.session c.in-View.view (views_open (length m.chain.tiers) m.seats.sessions c.in-View.session c.in-View.view (allowed_as (length m.chain.tiers) (history_of m) c.args.order.now (orders.View c.in-View.session c.in-View.view) c.in-View.is c.requires.allowed)) e.line e.none e.told e.version e.place e.chain)

pub returns-in-Step : goal.returns-in-Step
returns-in-Step g c =
    let m = c.args.self.now in
    let e = c.step.ensures in
    gives_as g.S.Store.files g.S.Store.faults g.S.Store.taken m c.step.new.self c.step.result items c.args.order.now (orders.Step c.in-Step.session) c.in-Step.is
    (step_gives g.S.Store.files g.S.Store.faults g.S.Store.taken m c.step.new.self c.step.result items c.in-Step.session e.line e.none e.told e.place e.board e.chain)

pub returns-in-Frame : goal.returns-in-Frame
returns-in-Frame g c =
    let m = c.args.self.now in
    let e = c.frame.ensures in
    let seen = frames_viewed (length m.chain.tiers) m.seats.sessions c.in-Frame.session (allowed_as (length m.chain.tiers) (history_of m) c.args.order.now (orders.Frame c.in-Frame.session) c.in-Frame.is c.requires.allowed) in
    gives_as g.S.Store.files g.S.Store.faults g.S.Store.taken m c.frame.new.self c.frame.result items c.args.order.now (orders.Frame c.in-Frame.session) c.in-Frame.is
    (frame_gives g.S.Store.files g.S.Store.faults g.S.Store.taken m c.frame.new.self c.frame.result items c.in-Frame.session (record { session = seen.session; at = seen.at }) e.line e.none e.told e.unprinted e.place e.board e.chain)

pub returns-in-Free : goal.returns-in-Free
returns-in-Free g c =
    let m = c.args.self.now in
    let e = c.free.ensures in
    gives_as g.S.Store.files g.S.Store.faults g.S.Store.taken m c.free.new.self c.free.result items c.args.order.now (orders.Free c.in-Free.session) c.in-Free.is
    (free_gives g.S.Store.files g.S.Store.faults g.S.Store.taken m c.free.new.self c.free.result items c.in-Free.session e.line e.none e.told e.place e.board e.chain)

pub returns-in-Close : goal.returns-in-Close
returns-in-Close g c =
    let m = c.args.self.now in
    let e = c.close.ensures in
    gives_as g.S.Store.files g.S.Store.faults g.S.Store.taken m c.close.new.self c.close.result items c.args.order.now (orders.Close c.in-Close.session) c.in-Close.is
    (close_gives g.S.Store.files g.S.Store.faults g.S.Store.taken m c.close.new.self c.close.result items c.in-Close.session e.line e.none e.told e.version e.place e.chain)

pub returns-in-Turn : goal.returns-in-Turn
returns-in-Turn g c =
    let m = c.args.self.now in
    let e = c.turn.ensures in
    gives_as g.S.Store.files g.S.Store.faults g.S.Store.taken m c.turn.new.self c.turn.result items c.args.order.now (orders.Turn c.in-Turn.tier) c.in-Turn.is
    (turn_gives g.S.Store.files g.S.Store.faults g.S.Store.taken m c.turn.new.self c.turn.result items c.in-Turn.tier e.line e.none e.place e.seats e.board e.files e.later)

pub returns-in-Settle : goal.returns-in-Settle
returns-in-Settle g c =
    let m = c.args.self.now in
    let e = c.settle.ensures in
    gives_as g.S.Store.files g.S.Store.faults g.S.Store.taken m c.settle.new.self c.settle.result items c.args.order.now (orders.Settle) c.in-Settle.is
    (settle_gives g.S.Store.files g.S.Store.faults g.S.Store.taken m c.settle.new.self c.settle.result items e.line e.none e.place e.seats e.board e.files e.later)

pub returns-in-Status : goal.returns-in-Status
returns-in-Status g c =
    let m = c.args.self.now in
    gives_as g.S.Store.files g.S.Store.faults g.S.Store.taken m m c.status.result items c.args.order.now orders.Status c.in-Status.is
    (status_gives g.S.Store.files g.S.Store.faults g.S.Store.taken m c.status.result items c.status.ensures.line)
