-- What is owed comes first, then the patch that the node in hand stands at.
use Rattle.std.proofs.Common.{◌≡◌, ◌<◌, ◌∙◌, sym, ap, subst, length, get_or, arith, ℕ, List}
use Rattle.mesh_model.specs.Meshes.{MeshLists}
use Rattle.mesh_model.specs.Graph.{outgoing}
use Rattle.round_model.specs.declared.asks.Ask.TheVariants.{Lock, GiveBack, Done}
use Rattle.round_model.specs.Rounds.{IsWhole}
use Rattle.round_model.specs.Refiners.{Refining, round_state, pending_ask}
use Rattle.cut_refiner.specs.Refiners.{IsAt}
use Rattle.cut_refiner.proofs.RoundLaws.{granted_within, patch_is, node_in, room_for_one}
use Rattle.cut_refiner.proofs.AskLaws.{seen_as, asks_back, asks_lock, asks_done, whole_of}
use Rattle.cut_refiner.proofs.refiners.Refiner.ask.Goals as goal

pub returns-in-Some-clause-asked : goal.returns-in-Some-clause-asked
returns-in-Some-clause-asked c =
    subst (λ (r : Refining). GiveBack c.in-Some.patch ≡ pending_ask r) c.self.view_is
    (sym (asks_back (seen_as c.self.inside.rules c.self.inside.tries.items c.self.inside.locks.owed) c.in-Some.patch (sym c.first_owed.ensures ∙ c.in-Some.is)))

pub outgoing-requires : goal.outgoing-requires
outgoing-requires c =
    let trying = subst (IsAt c.self.inside.rules c.self.inside.tries.items c.self.inside.refinement (length c.self.inside.locks.locked)) c.in-Some-hand.is c.self.invariant.at in
    rw c.mesh.ensures.value (node_in c.self.inside.rules c.self.inside.tries.items c.self.inside.refinement c.in-Some-hand.node (length c.self.inside.locks.locked) trying)

pub bounds-outgoing-count : goal.bounds-outgoing-count
bounds-outgoing-count c =
    let trying = subst (IsAt c.self.inside.rules c.self.inside.tries.items c.self.inside.refinement (length c.self.inside.locks.locked)) c.in-Some-hand.is c.self.invariant.at in
    rw (c.count.ensures, c.outgoing.ensures, c.mesh.ensures.value) (granted_within c.self.inside.rules c.self.inside.tries.items c.self.inside.refinement c.in-Some-hand.node (length c.self.inside.locks.locked) trying)

pub offset_bounds-outgoing-count : goal.offset_bounds-outgoing-count
offset_bounds-outgoing-count c =
    let trying = subst (IsAt c.self.inside.rules c.self.inside.tries.items c.self.inside.refinement (length c.self.inside.locks.locked)) c.in-Some-hand.is c.self.invariant.at in
    let within : length c.self.inside.locks.locked < length c.outgoing.result.now = rw (c.outgoing.ensures, c.mesh.ensures.value) (granted_within c.self.inside.rules c.self.inside.tries.items c.self.inside.refinement c.in-Some-hand.node (length c.self.inside.locks.locked) trying) in
    omega (arith, within, c.count.ensures, c.outgoing.type_inv.1)

pub returns-in-Some-hand-clause-asked : goal.returns-in-Some-hand-clause-asked
returns-in-Some-hand-clause-asked c =
    let rules = c.self.inside.rules in
    let tries = c.self.inside.tries.items in
    let trying = subst (IsAt rules tries c.self.inside.refinement (length c.self.inside.locks.locked)) c.in-Some-hand.is c.self.invariant.at in
    let read = ap (λ k. get_or c.outgoing.result.now k 0) c.count.ensures ∙ ap (λ (ps : List ℕ). get_or ps (length c.self.inside.locks.locked) 0) (c.outgoing.ensures ∙ ap (λ (m : MeshLists). outgoing m.index.fields c.in-Some-hand.node) c.mesh.ensures.value)
    ∙ patch_is rules tries c.self.inside.refinement c.in-Some-hand.node (length c.self.inside.locks.locked) trying in
    subst (λ (r : Refining). Lock (get_or c.outgoing.result.now c.count.result 0) ≡ pending_ask r) c.self.view_is
    (ap (λ (p : ℕ). Lock p) read ∙ sym (asks_lock (seen_as rules tries c.self.inside.locks.owed) c.self.inside.refinement c.in-Some-hand.node (length c.self.inside.locks.locked) (sym c.first_owed.ensures ∙ c.in_default.is) trying))

pub returns-in-None-clause-asked : goal.returns-in-None-clause-asked
returns-in-None-clause-asked c =
    let through = subst (IsAt c.self.inside.rules c.self.inside.tries.items c.self.inside.refinement (length c.self.inside.locks.locked)) c.in-None.is c.self.invariant.at in
    subst (λ (r : Refining). Done ≡ pending_ask r) c.self.view_is
    (sym (asks_done (seen_as c.self.inside.rules c.self.inside.tries.items c.self.inside.locks.owed) c.self.inside.refinement (length c.self.inside.locks.locked) (sym c.first_owed.ensures ∙ c.in_default.is) through))

pub returns-in-None-clause-whole : goal.returns-in-None-clause-whole
returns-in-None-clause-whole c = λ done.
    let through = subst (IsAt c.self.inside.rules c.self.inside.tries.items c.self.inside.refinement (length c.self.inside.locks.locked)) c.in-None.is c.self.invariant.at in
    subst (λ (r : Refining). IsWhole (round_state r)) c.self.view_is (whole_of c.self.inside.rules c.self.inside.tries.items c.self.inside.refinement (length c.self.inside.locks.locked) through)

pub returns-in-Some-hand-clause-room : goal.returns-in-Some-hand-clause-room
returns-in-Some-hand-clause-room c = λ patch asks.
    let rules = c.self.inside.rules in
    let tries = c.self.inside.tries.items in
    let trying = subst (IsAt rules tries c.self.inside.refinement (length c.self.inside.locks.locked)) c.in-Some-hand.is c.self.invariant.at in
    subst (λ (r : Refining). length r.tries < length r.rules.mesh.index.fields) c.self.view_is (room_for_one rules tries c.self.inside.refinement c.in-Some-hand.node (length c.self.inside.locks.locked) trying)
