use Rattle.script_model.specs.declared.orders.Order.TheVariants as orders
use Rattle.std.proofs.Common.{ℕ, List, [], false, refl, Option, OnOk, OnErr, sym, ap, ap₂, subst, ◌∙◌}
use Rattle.mesh_model.specs.Meshes.{MeshLists}
use Rattle.accepted_mesh.specs.MeshView.{MeshSeen}
use Rattle.view_outside.specs.Files.{file_bytes}
use Rattle.token_words.specs.PlainTokens.{patch_count, words_seen}
use Rattle.token_words.specs.declared.entries.Entry.{Entry}
use Rattle.tier_model.specs.Tiers.{TierState}
use Rattle.wish_board.specs.Boards.{BoardSeen}
use Rattle.session_seats.specs.Seats.{SeatsSeen}
use Rattle.view_machine.specs.Machines.{MachineSeen, world_of, run_state, world_with, state_in, KeepsPlace, IsMachine}
use Rattle.view_machine.specs.MachineLaws.{keeps_wishes, is_tied}
use Rattle.view_machine.specs.OwnStops.{StopsIn}
use Rattle.view_machine.specs.TurnClauses.{LogsLine, settles_either, if_ok_log, if_err_both, settling_is, settling_counts, settling_stops}
use Rattle.view_machine.specs.TurnKeeps.{StaysMachine, turns_keep}
use Rattle.view_machine.proofs.machines.Machine.settle_tiers.Goals as goal
use Rattle.view_machine.proofs.machines.Machine.settle_tiers.Given as given

pub settle-requires-clause-wishes : goal.settle-requires-clause-wishes
settle-requires-clause-wishes g c =
    let m = c.self.inside in
    keeps_wishes m.chain.mesh.lists (file_bytes (g.S.Store.files m.chain.store) m.chain.file) m.chain.tiers (words_seen m.words) m.seats m.board c.self.invariant

pub settle-requires-clause-tied : goal.settle-requires-clause-tied
settle-requires-clause-tied g c =
    let m = c.self.inside in
    is_tied m.chain.mesh.lists (file_bytes (g.S.Store.files m.chain.store) m.chain.file) m.chain.tiers (words_seen m.words) m.seats m.board c.self.invariant

module _ (g : given.Over) (c : goal.After-settle g) where
  abbrev mesh : MeshLists
  mesh = c.self.inside.chain.mesh.lists

  abbrev bytes : Option (List ℕ)
  bytes = file_bytes (g.S.Store.files c.self.inside.chain.store) c.self.inside.chain.file

  abbrev tiers : List TierState
  tiers = c.self.inside.chain.tiers

  abbrev now : List TierState
  now = c.settle.new.self.tiers

  abbrev words : List Entry
  words = words_seen c.self.inside.words

  abbrev words_now : List Entry
  words_now = words_seen c.settle.new.keeper

  abbrev seats : SeatsSeen
  seats = c.self.inside.seats

  abbrev board : BoardSeen
  board = c.self.inside.board

  abbrev is : IsMachine mesh bytes tiers words seats board
  is = c.self.invariant

  abbrev faults : ℕ
  faults = g.S.Store.faults c.self.inside.chain.store

  abbrev faults_now : ℕ
  faults_now = g.S.Store.faults c.settle.new.self.store

  abbrev taken : ℕ
  taken = g.S.Store.taken c.self.inside.chain.store

  abbrev taken_now : ℕ
  taken_now = g.S.Store.taken c.settle.new.self.store

  settles : OnOk c.settle.result (LogsLine (world_with mesh bytes tiers) (state_in tiers words seats board) c.args.log.now.items c.settle.new.log.items (state_in now words_now seats board) faults faults_now taken taken_now)
  settles = if_ok_log c.settle.result (LogsLine (world_with mesh bytes tiers) (state_in tiers words seats board) c.args.log.now.items c.settle.new.log.items (state_in now words_now seats board) faults faults_now taken taken_now)
      (λ logs. record {
        turns = logs.made;
        log = logs.log;
        settles = settling_is mesh bytes tiers words seats board is false (patch_count c.self.inside.words) [] faults taken now (patch_count c.settle.new.keeper) words_now [] faults_now taken_now c.args.log.now.items c.settle.new.log.items logs;
        counts = settling_counts mesh bytes tiers words seats board is false (patch_count c.self.inside.words) [] faults taken now (patch_count c.settle.new.keeper) words_now [] faults_now taken_now logs.made logs.turns;
      }) c.settle.ensures.settled

  stops : OnErr c.settle.result (StopsIn (world_with mesh bytes tiers) (state_in tiers words seats board) orders.Settle (state_in now words_now seats board))
  stops = if_err_both c.settle.result
      (λ logs again. settling_stops mesh bytes tiers words seats board is false (patch_count c.self.inside.words) [] faults taken now (patch_count c.settle.new.keeper) words_now [] faults_now taken_now c.args.log.now.items c.settle.new.log.items logs)
      c.settle.ensures.stopped c.settle.ensures.stopped

  abbrev seen_now : MachineSeen g.row.S.Denot
  seen_now = record { chain = c.settle.new.self; words = words_now; seats = seats; board = board; bytes = file_bytes (g.S.Store.files c.settle.new.self.store) c.settle.new.self.file }

  kept : StaysMachine mesh c.settle.new.self.mesh.lists bytes (file_bytes (g.S.Store.files c.settle.new.self.store) c.settle.new.self.file) tiers now words_now seats board
  kept =
      let e = c.settle.ensures in
      turns_keep mesh c.settle.new.self.mesh.lists bytes (file_bytes (g.S.Store.files c.settle.new.self.store) c.settle.new.self.file) tiers now words words_now seats board is
      (ap (λ (m : MeshSeen). m.lists) e.mesh) (ap₂ file_bytes e.files e.file)
      (settles_either (world_with mesh bytes tiers) (state_in tiers words seats board) c.args.log.now.items c.settle.new.log.items (state_in now words_now seats board) faults faults_now taken taken_now c.settle.result settles stops)
      (record { many = sym c.settle.new.keeper.entries.ok.0 ∙ (e.keeper.1 ∙ c.self.inside.words.entries.ok.0); pins = e.pins; use_sets = e.use_sets refl; lock_sets = e.lock_sets refl })

pub invariant_of-self : goal.invariant_of-self
invariant_of-self g c = (kept g c).is

pub returns-clause-settles : goal.returns-clause-settles
returns-clause-settles g c =
    subst (λ (m : MachineSeen g.row.S.Denot). OnOk c.settle.result (LogsLine (world_of m) (run_state m) c.args.log.now.items c.settle.new.log.items (state_in (now g c) (words_now g c) (seats g c) (board g c)) (g.S.Store.faults m.chain.store) (g.S.Store.faults c.settle.new.self.store) (g.S.Store.taken m.chain.store) (g.S.Store.taken c.settle.new.self.store))) c.self.view_is (settles g c)

pub returns-clause-none : goal.returns-clause-none
returns-clause-none g c =
    subst (λ (m : MachineSeen g.row.S.Denot). OnErr c.settle.result (StopsIn (world_of m) (run_state m) orders.Settle (state_in (now g c) (words_now g c) (seats g c) (board g c)))) c.self.view_is (stops g c)

pub returns-clause-place : goal.returns-clause-place
returns-clause-place g c =
    let e = c.settle.ensures in
    subst (λ (m : MachineSeen g.row.S.Denot). KeepsPlace m (seen_now g c)) c.self.view_is (record { world = (kept g c).world; mesh = e.mesh; file = e.file; bytes = ap₂ file_bytes e.files e.file; lender = e.lender })
