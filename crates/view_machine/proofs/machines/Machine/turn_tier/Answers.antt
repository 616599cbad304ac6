use Rattle.script_model.specs.declared.orders.Order.TheVariants as orders
use Rattle.std.proofs.Common.{ℕ, List, [], ◌∷◌, false, refl, Option, IfOk, OnErr, sym, ap, ap₂, subst, ◌∙◌}
use Rattle.mesh_model.specs.Meshes.{MeshLists}
use Rattle.accepted_mesh.specs.MeshView.{MeshSeen}
use Rattle.view_outside.specs.Files.{file_bytes}
use Rattle.token_words.specs.PlainTokens.{patch_count, words_seen}
use Rattle.token_words.specs.declared.entries.Entry.{Entry}
use Rattle.tier_model.specs.Tiers.{TierState}
use Rattle.wish_board.specs.Boards.{BoardSeen}
use Rattle.cache_chain.specs.TurnRuns.{Setting, Moment, MakesTurn}
use Rattle.run_model.specs.Turning.{TurnsTo}
use Rattle.session_seats.specs.Seats.{SeatsSeen}
use Rattle.view_machine.specs.LineCounts.{CountsTurns}
use Rattle.view_machine.specs.Machines.{MachineSeen, world_of, run_state, world_with, state_in, KeepsPlace, IsMachine}
use Rattle.view_machine.specs.MachineLaws.{keeps_wishes, is_tied}
use Rattle.view_machine.specs.OwnStops.{StopsIn}
use Rattle.view_machine.specs.TurnClauses.{setting_in, moment_in, turn_made, if_ok_then, if_err_both, turn_is, turn_counts, turn_stops}
use Rattle.view_machine.specs.TurnKeeps.{stops_either, StaysMachine, turns_keep}
use Rattle.view_machine.proofs.machines.Machine.turn_tier.Goals as goal
use Rattle.view_machine.proofs.machines.Machine.turn_tier.Given as given

pub turn-requires-clause-wishes : goal.turn-requires-clause-wishes
turn-requires-clause-wishes g c =
    let m = c.self.inside in
    keeps_wishes m.chain.mesh.lists (file_bytes (g.S.Store.files m.chain.store) m.chain.file) m.chain.tiers (words_seen m.words) m.seats m.board c.self.invariant

pub turn-requires-clause-tied : goal.turn-requires-clause-tied
turn-requires-clause-tied g c =
    let m = c.self.inside in
    is_tied m.chain.mesh.lists (file_bytes (g.S.Store.files m.chain.store) m.chain.file) m.chain.tiers (words_seen m.words) m.seats m.board c.self.invariant

module _ (g : given.Over) (c : goal.After-turn g) where
  abbrev mesh : MeshLists
  mesh = c.self.inside.chain.mesh.lists

  abbrev bytes : Option (List ℕ)
  bytes = file_bytes (g.S.Store.files c.self.inside.chain.store) c.self.inside.chain.file

  abbrev tiers : List TierState
  tiers = c.self.inside.chain.tiers

  abbrev now : List TierState
  now = c.turn.new.self.tiers

  abbrev words : List Entry
  words = words_seen c.self.inside.words

  abbrev words_now : List Entry
  words_now = words_seen c.turn.new.keeper

  abbrev seats : SeatsSeen
  seats = c.self.inside.seats

  abbrev board : BoardSeen
  board = c.self.inside.board

  abbrev is : IsMachine mesh bytes tiers words seats board
  is = c.self.invariant

  abbrev u : Setting
  u = setting_in mesh bytes board false

  abbrev first : Moment
  first = moment_in tiers (patch_count c.self.inside.words) words [] (g.S.Store.faults c.self.inside.chain.store) (g.S.Store.taken c.self.inside.chain.store)

  abbrev last : Moment
  last = moment_in now (patch_count c.turn.new.keeper) words_now [] (g.S.Store.faults c.turn.new.self.store) (g.S.Store.taken c.turn.new.self.store)

  made : IfOk c.turn.result (λ answer. MakesTurn u c.args.tier answer first last)
  made =
      let e = c.turn.ensures in
      turn_made u c.args.tier first last c.turn.result e.turned e.got e.lost e.fault e.changed e.taken (λ t at. ap g.S.Store.taken (e.upper t at)) e.later e.free e.found e.misses
      (record { pins = e.pins; users = e.use_sets; lockers = e.lock_sets; patches = e.keeper.1 })

  turns : IfOk c.turn.result (λ answer. TurnsTo (world_with mesh bytes tiers) c.args.tier (state_in tiers words seats board) answer (state_in now words_now seats board))
  turns = if_ok_then c.turn.result
      (λ answer one. turn_is mesh bytes tiers words seats board is false (patch_count c.self.inside.words) [] (g.S.Store.faults c.self.inside.chain.store) (g.S.Store.taken c.self.inside.chain.store)
      now (patch_count c.turn.new.keeper) words_now [] (g.S.Store.faults c.turn.new.self.store) (g.S.Store.taken c.turn.new.self.store) c.args.tier answer one)
      made

  counts : IfOk c.turn.result (λ answer. CountsTurns (world_with mesh bytes tiers) ((c.args.tier, answer) ∷ []) (g.S.Store.faults c.self.inside.chain.store) (g.S.Store.faults c.turn.new.self.store) (g.S.Store.taken c.self.inside.chain.store) (g.S.Store.taken c.turn.new.self.store))
  counts = if_ok_then c.turn.result
      (λ answer one. turn_counts mesh bytes tiers words seats board is false (patch_count c.self.inside.words) [] (g.S.Store.faults c.self.inside.chain.store) (g.S.Store.taken c.self.inside.chain.store)
      now (patch_count c.turn.new.keeper) words_now [] (g.S.Store.faults c.turn.new.self.store) (g.S.Store.taken c.turn.new.self.store) c.args.tier answer one)
      made

  stops : OnErr c.turn.result (StopsIn (world_with mesh bytes tiers) (state_in tiers words seats board) (orders.Turn c.args.tier) (state_in now words_now seats board))
  stops = if_err_both c.turn.result
      (λ takes epochs. turn_stops mesh bytes tiers words seats board is false (patch_count c.self.inside.words) [] (g.S.Store.faults c.self.inside.chain.store) (g.S.Store.taken c.self.inside.chain.store)
      now (patch_count c.turn.new.keeper) words_now [] (g.S.Store.faults c.turn.new.self.store) (g.S.Store.taken c.turn.new.self.store) c.args.tier takes epochs (c.turn.ensures.use_sets refl))
      c.turn.ensures.none c.turn.ensures.epochs

  abbrev seen_now : MachineSeen g.row.S.Denot
  seen_now = record { chain = c.turn.new.self; words = words_now; seats = seats; board = board; bytes = file_bytes (g.S.Store.files c.turn.new.self.store) c.turn.new.self.file }

  kept : StaysMachine mesh c.turn.new.self.mesh.lists bytes (file_bytes (g.S.Store.files c.turn.new.self.store) c.turn.new.self.file) tiers now words_now seats board
  kept =
      let e = c.turn.ensures in
      turns_keep mesh c.turn.new.self.mesh.lists bytes (file_bytes (g.S.Store.files c.turn.new.self.store) c.turn.new.self.file) tiers now words words_now seats board is
      (ap (λ (m : MeshSeen). m.lists) e.mesh) (ap₂ file_bytes e.files e.file)
      (stops_either (world_with mesh bytes tiers) c.args.tier (state_in tiers words seats board) (state_in now words_now seats board) c.turn.result turns stops)
      (record { many = sym c.turn.new.keeper.entries.ok.0 ∙ (e.keeper.1 ∙ c.self.inside.words.entries.ok.0); pins = e.pins; use_sets = e.use_sets refl; lock_sets = e.lock_sets refl })

pub invariant_of-self : goal.invariant_of-self
invariant_of-self g c = (kept g c).is

pub returns-clause-turns : goal.returns-clause-turns
returns-clause-turns g c =
    subst (λ (m : MachineSeen g.row.S.Denot). IfOk c.turn.result (λ answer. TurnsTo (world_of m) c.args.tier (run_state m) answer (state_in (now g c) (words_now g c) (seats g c) (board g c)))) c.self.view_is (turns g c)

pub returns-clause-counts : goal.returns-clause-counts
returns-clause-counts g c =
    subst (λ (m : MachineSeen g.row.S.Denot). IfOk c.turn.result (λ answer. CountsTurns (world_of m) ((c.args.tier, answer) ∷ []) (g.S.Store.faults m.chain.store) (g.S.Store.faults c.turn.new.self.store) (g.S.Store.taken m.chain.store) (g.S.Store.taken c.turn.new.self.store))) c.self.view_is (counts g c)

pub returns-clause-none : goal.returns-clause-none
returns-clause-none g c =
    subst (λ (m : MachineSeen g.row.S.Denot). OnErr c.turn.result (StopsIn (world_of m) (run_state m) (orders.Turn c.args.tier) (state_in (now g c) (words_now g c) (seats g c) (board g c)))) c.self.view_is (stops g c)

pub returns-clause-place : goal.returns-clause-place
returns-clause-place g c =
    let e = c.turn.ensures in
    subst (λ (m : MachineSeen g.row.S.Denot). KeepsPlace m (seen_now g c)) c.self.view_is (record { world = (kept g c).world; mesh = e.mesh; file = e.file; bytes = ap₂ file_bytes e.files e.file; lender = e.lender })
