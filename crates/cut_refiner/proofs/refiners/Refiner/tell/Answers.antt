-- The answer is noted; the node in hand misses, goes on with its next patch, or joins.
use Rattle.std.proofs.Common.{◌≡◌, ◌+◌, ◌<◌, ◌≤◌, ◌++◌, ◌∷◌, [], ◌∙◌, sym, ap, subst, length, get_or, arith, ℕ, List, Some}
use Rattle.std.proofs.lemmas.List.{length_push}
use Rattle.file_model.specs.declared.fields.Try.{Try}
use Rattle.mesh_model.specs.Graph.{outgoing}
use Rattle.mesh_model.specs.Meshes.{MeshLists}
use Rattle.round_laws.specs.Answers.{try_of}
use Rattle.cut_refiner.specs.Refiners.{IsAt, AreFirst}
use Rattle.cut_refiner.proofs.RoundLaws.{granted_within, node_in, room_for_one, granted_next}
use Rattle.cut_refiner.proofs.AskLaws.{seen_as}
use Rattle.cut_refiner.proofs.LockLaws.{first_none, first_more}
use Rattle.cut_refiner.proofs.TellLaws.{not_through, noted, told_refused, told_granted, after_miss, can_join, after_join}
use Rattle.cut_refiner.proofs.refiners.Refiner.tell.Goals as goal

pub unreachable-requires : goal.unreachable-requires
unreachable-requires c =
    let granted = length c.self.inside.locks.locked in
    not_through c.self.inside.rules c.self.inside.tries.items c.self.inside.locks.owed c.self.inside.refinement c.args.self.now c.self.view_is c.requires.0 c.requires.1 granted
    (subst (IsAt c.self.inside.rules c.self.inside.tries.items c.self.inside.refinement granted) c.in-None.is c.self.invariant.at)

pub outgoing-patches-requires : goal.outgoing-patches-requires
outgoing-patches-requires c =
    let granted = length c.self.inside.locks.locked in
    let trying = subst (IsAt c.self.inside.rules c.self.inside.tries.items c.self.inside.refinement granted) c.in-Some.is c.self.invariant.at in
    rw c.mesh.ensures.value (node_in c.self.inside.rules c.self.inside.tries.items c.self.inside.refinement c.in-Some.node granted trying)

pub bounds-patches-count : goal.bounds-patches-count
bounds-patches-count c =
    let granted = length c.self.inside.locks.locked in
    let trying = subst (IsAt c.self.inside.rules c.self.inside.tries.items c.self.inside.refinement granted) c.in-Some.is c.self.invariant.at in
    rw (c.count.ensures, c.outgoing-patches.ensures, c.mesh.ensures.value) (granted_within c.self.inside.rules c.self.inside.tries.items c.self.inside.refinement c.in-Some.node granted trying)

pub offset_bounds-patches-count : goal.offset_bounds-patches-count
offset_bounds-patches-count c =
    let granted = length c.self.inside.locks.locked in
    let trying = subst (IsAt c.self.inside.rules c.self.inside.tries.items c.self.inside.refinement granted) c.in-Some.is c.self.invariant.at in
    let within : granted < length c.outgoing-patches.result.now = rw (c.outgoing-patches.ensures, c.mesh.ensures.value) (granted_within c.self.inside.rules c.self.inside.tries.items c.self.inside.refinement c.in-Some.node granted trying) in
    omega (arith, within, c.count.ensures, c.outgoing-patches.type_inv.1)

pub push_reserved-requires : goal.push_reserved-requires
push_reserved-requires c =
    let granted = length c.self.inside.locks.locked in
    let trying = subst (IsAt c.self.inside.rules c.self.inside.tries.items c.self.inside.refinement granted) c.in-Some.is c.self.invariant.at in
    omega (arith, room_for_one c.self.inside.rules c.self.inside.tries.items c.self.inside.refinement c.in-Some.node granted trying, c.self.invariant.room, c.self.inside.tries.ok.0)

pub add-requires : goal.add-requires
add-requires c =
    let rules = c.self.inside.rules in
    let node = c.in-Some.node in
    let granted = length c.self.inside.locks.locked in
    let trying = subst (IsAt rules c.self.inside.tries.items c.self.inside.refinement granted) c.in-Some.is c.self.invariant.at in
    let room : length (outgoing rules.mesh.index.fields node) ≤ c.self.inside.locks.room = c.self.invariant.for_each node (node_in rules c.self.inside.tries.items c.self.inside.refinement node granted trying) in
    omega (arith, granted_within rules c.self.inside.tries.items c.self.inside.refinement node granted trying, room)

-- ---- the node misses

pub invariant_of-self : goal.invariant_of-self
invariant_of-self c =
    let rules = c.self.inside.rules in
    let tries = c.self.inside.tries.items in
    let node = c.in-Some.node in
    let granted = length c.self.inside.locks.locked in
    let trying = subst (IsAt rules tries c.self.inside.refinement granted) c.in-Some.is c.self.invariant.at in
    let arcs : c.outgoing-patches.result.now ≡ outgoing rules.mesh.index.fields node = c.outgoing-patches.ensures ∙ ap (λ (m : MeshLists). outgoing m.index.fields node) c.mesh.ensures.value in
    let tries_are = noted rules tries c.push_reserved.new.self.items node granted c.count.result c.args.epoch c.outgoing-patches.result.now c.push_reserved.ensures.items arcs c.count.ensures in
    let now = c.owe.new.self.locked in
    record {
      are = c.self.invariant.are;
      at = subst (λ (ts : List Try). IsAt rules ts c.go_on-self-inside.new.refinement (length now) c.go_on-self-inside.result) (sym tries_are)
          (after_miss rules tries c.self.inside.refinement node granted c.args.epoch trying c.go_on-self-inside.new.refinement (length now) c.go_on-self-inside.result (ap length c.owe.ensures.locked) (sym c.is_granted.ensures ∙ c.if-not-is_granted.true) c.go_on-self-inside.ensures.growing c.go_on-self-inside.ensures.next);
      room = omega (arith, c.self.invariant.room, c.push_reserved.ensures.capacity);
      are_lists = c.go_on-self-inside.ensures.lists;
      are_first = first_none rules now c.go_on-self-inside.result c.owe.ensures.locked;
      for_each = λ v is_node. omega (arith, c.self.invariant.for_each v is_node, c.owe.ensures.room);
    }

pub returns-then-not-is_granted : goal.returns-then-not-is_granted
returns-then-not-is_granted c = λ patch asks.
    let rules = c.self.inside.rules in
    let tries = c.self.inside.tries.items in
    let node = c.in-Some.node in
    let granted = length c.self.inside.locks.locked in
    let trying = subst (IsAt rules tries c.self.inside.refinement granted) c.in-Some.is c.self.invariant.at in
    let arcs : c.outgoing-patches.result.now ≡ outgoing rules.mesh.index.fields node = c.outgoing-patches.ensures ∙ ap (λ (m : MeshLists). outgoing m.index.fields node) c.mesh.ensures.value in
    let tries_are = noted rules tries c.push_reserved.new.self.items node granted c.count.result c.args.epoch c.outgoing-patches.result.now c.push_reserved.ensures.items arcs c.count.ensures in
    let owed_is = c.owe.ensures.owed ∙ subst (AreFirst rules c.self.inside.locks.locked) c.in-Some.is c.self.invariant.are_first in
    ap (λ (ts : List Try). seen_as rules ts c.owe.new.self.owed) tries_are
    ∙ ap (seen_as rules (tries ++ try_of (get_or (outgoing rules.mesh.index.fields node) granted 0) c.args.epoch ∷ [])) owed_is
    ∙ told_refused rules tries c.self.inside.locks.owed c.self.inside.refinement c.args.self.now c.self.view_is patch asks node granted trying c.args.epoch (sym c.is_granted.ensures ∙ c.if-not-is_granted.true)

-- ---- its next patch is tried

pub invariant_of-self-then-count-patches : goal.invariant_of-self-then-count-patches
invariant_of-self-then-count-patches c =
    let rules = c.self.inside.rules in
    let tries = c.self.inside.tries.items in
    let node = c.in-Some.node in
    let locked = c.self.inside.locks.locked in
    let granted = length locked in
    let trying = subst (IsAt rules tries c.self.inside.refinement granted) c.in-Some.is c.self.invariant.at in
    let arcs : c.outgoing-patches.result.now ≡ outgoing rules.mesh.index.fields node = c.outgoing-patches.ensures ∙ ap (λ (m : MeshLists). outgoing m.index.fields node) c.mesh.ensures.value in
    let tries_are = noted rules tries c.push_reserved.new.self.items node granted c.count.result c.args.epoch c.outgoing-patches.result.now c.push_reserved.ensures.items arcs c.count.ensures in
    let now = c.add.new.self.locked in
    let read : now ≡ locked ++ get_or (outgoing rules.mesh.index.fields node) granted 0 ∷ [] = c.add.ensures.locked
    ∙ ap (λ k. locked ++ get_or c.outgoing-patches.result.now k 0 ∷ []) c.count.ensures
    ∙ ap (λ (ps : List ℕ). locked ++ get_or ps granted 0 ∷ []) arcs in
    let many : length now ≡ granted + 1 = ap length read ∙ length_push locked (get_or (outgoing rules.mesh.index.fields node) granted 0) in
    let more : granted + 1 < length (outgoing rules.mesh.index.fields node) = omega (arith, ap length arcs, many, c.count-2.ensures, c.if-count-patches.true) in
    let next = granted_next rules tries c.self.inside.refinement node granted trying c.args.epoch (sym c.is_granted.ensures ∙ c.if-not-is_granted.false) more in
    record {
      are = c.self.invariant.are;
      at = subst (λ (ts : List Try). IsAt rules ts c.self.inside.refinement (length now) c.self.inside.hand) (sym tries_are)
          (subst (IsAt rules (tries ++ try_of (get_or (outgoing rules.mesh.index.fields node) granted 0) c.args.epoch ∷ []) c.self.inside.refinement (length now)) (sym c.in-Some.is)
          (subst (λ n. IsAt rules (tries ++ try_of (get_or (outgoing rules.mesh.index.fields node) granted 0) c.args.epoch ∷ []) c.self.inside.refinement n (Some node)) (sym many) next));
      room = omega (arith, c.self.invariant.room, c.push_reserved.ensures.capacity);
      are_lists = c.self.invariant.are_lists;
      are_first = subst (AreFirst rules now) (sym c.in-Some.is)
          (first_more (outgoing rules.mesh.index.fields node) locked now (subst (AreFirst rules locked) c.in-Some.is c.self.invariant.are_first) (granted_within rules tries c.self.inside.refinement node granted trying) read);
      for_each = λ v is_node. omega (arith, c.self.invariant.for_each v is_node, c.add.ensures.room);
    }

pub returns-then-count-patches : goal.returns-then-count-patches
returns-then-count-patches c = λ patch asks.
    let rules = c.self.inside.rules in
    let tries = c.self.inside.tries.items in
    let node = c.in-Some.node in
    let granted = length c.self.inside.locks.locked in
    let trying = subst (IsAt rules tries c.self.inside.refinement granted) c.in-Some.is c.self.invariant.at in
    let arcs : c.outgoing-patches.result.now ≡ outgoing rules.mesh.index.fields node = c.outgoing-patches.ensures ∙ ap (λ (m : MeshLists). outgoing m.index.fields node) c.mesh.ensures.value in
    let tries_are = noted rules tries c.push_reserved.new.self.items node granted c.count.result c.args.epoch c.outgoing-patches.result.now c.push_reserved.ensures.items arcs c.count.ensures in
    ap (λ (ts : List Try). seen_as rules ts c.add.new.self.owed) tries_are
    ∙ ap (seen_as rules (tries ++ try_of (get_or (outgoing rules.mesh.index.fields node) granted 0) c.args.epoch ∷ [])) c.add.ensures.owed
    ∙ told_granted rules tries c.self.inside.locks.owed c.self.inside.refinement c.args.self.now c.self.view_is patch asks node granted trying c.args.epoch (sym c.is_granted.ensures ∙ c.if-not-is_granted.false)

-- ---- the node joins

pub join-requires-clause-can : goal.join-requires-clause-can
join-requires-clause-can c =
    let granted = length c.self.inside.locks.locked in
    let trying = subst (IsAt c.self.inside.rules c.self.inside.tries.items c.self.inside.refinement granted) c.in-Some.is c.self.invariant.at in
    (trying.rest, can_join c.self.inside.rules c.self.inside.tries.items c.self.inside.refinement c.in-Some.node granted c.args.epoch trying c.self.invariant.are)

pub join-requires-clause-size : goal.join-requires-clause-size
join-requires-clause-size c =
    let trying = subst (IsAt c.self.inside.rules c.self.inside.tries.items c.self.inside.refinement (length c.self.inside.locks.locked)) c.in-Some.is c.self.invariant.at in
    trying.size

pub go_on-self-inside-requires-2-clause-going : goal.go_on-self-inside-requires-2-clause-going
go_on-self-inside-requires-2-clause-going c =
    let granted = length c.self.inside.locks.locked in
    let trying = subst (IsAt c.self.inside.rules c.self.inside.tries.items c.self.inside.refinement granted) c.in-Some.is c.self.invariant.at in
    (trying.rest, c.join.ensures.going trying.rest (can_join c.self.inside.rules c.self.inside.tries.items c.self.inside.refinement c.in-Some.node granted c.args.epoch trying c.self.invariant.are))

pub invariant_of-self-2 : goal.invariant_of-self-2
invariant_of-self-2 c =
    let rules = c.self.inside.rules in
    let tries = c.self.inside.tries.items in
    let node = c.in-Some.node in
    let granted = length c.self.inside.locks.locked in
    let trying = subst (IsAt rules tries c.self.inside.refinement granted) c.in-Some.is c.self.invariant.at in
    let arcs : c.outgoing-patches.result.now ≡ outgoing rules.mesh.index.fields node = c.outgoing-patches.ensures ∙ ap (λ (m : MeshLists). outgoing m.index.fields node) c.mesh.ensures.value in
    let tries_are = noted rules tries c.push_reserved.new.self.items node granted c.count.result c.args.epoch c.outgoing-patches.result.now c.push_reserved.ensures.items arcs c.count.ensures in
    let many : length c.add.new.self.locked ≡ granted + 1 = ap length c.add.ensures.locked ∙ length_push c.self.inside.locks.locked (get_or c.outgoing-patches.result.now c.count.result 0) in
    let all : length (outgoing rules.mesh.index.fields node) ≤ granted + 1 = omega (arith, ap length arcs, many, c.count-2.ensures, c.if-count-patches.false) in
    let now = c.keep.new.self.locked in
    record {
      are = c.self.invariant.are;
      at = subst (λ (ts : List Try). IsAt rules ts c.go_on-self-inside-2.new.refinement (length now) c.go_on-self-inside-2.result) (sym tries_are)
          (after_join rules tries c.self.inside.refinement node granted c.args.epoch trying c.self.invariant.are c.join.new.self c.go_on-self-inside-2.new.refinement (length now) c.go_on-self-inside-2.result (ap length c.keep.ensures.locked) (sym c.is_granted.ensures ∙ c.if-not-is_granted.false) all
          c.join.ensures.set c.join.ensures.going c.go_on-self-inside-2.ensures.growing c.go_on-self-inside-2.ensures.next);
      room = omega (arith, c.self.invariant.room, c.push_reserved.ensures.capacity);
      are_lists = c.go_on-self-inside-2.ensures.lists;
      are_first = first_none rules now c.go_on-self-inside-2.result c.keep.ensures.locked;
      for_each = λ v is_node. omega (arith, c.self.invariant.for_each v is_node, c.add.ensures.room, c.keep.ensures.room);
    }

pub returns : goal.returns
returns c = λ patch asks.
    let rules = c.self.inside.rules in
    let tries = c.self.inside.tries.items in
    let node = c.in-Some.node in
    let granted = length c.self.inside.locks.locked in
    let trying = subst (IsAt rules tries c.self.inside.refinement granted) c.in-Some.is c.self.invariant.at in
    let arcs : c.outgoing-patches.result.now ≡ outgoing rules.mesh.index.fields node = c.outgoing-patches.ensures ∙ ap (λ (m : MeshLists). outgoing m.index.fields node) c.mesh.ensures.value in
    let tries_are = noted rules tries c.push_reserved.new.self.items node granted c.count.result c.args.epoch c.outgoing-patches.result.now c.push_reserved.ensures.items arcs c.count.ensures in
    ap (λ (ts : List Try). seen_as rules ts c.keep.new.self.owed) tries_are
    ∙ ap (seen_as rules (tries ++ try_of (get_or (outgoing rules.mesh.index.fields node) granted 0) c.args.epoch ∷ [])) (c.keep.ensures.owed ∙ c.add.ensures.owed)
    ∙ told_granted rules tries c.self.inside.locks.owed c.self.inside.refinement c.args.self.now c.self.view_is patch asks node granted trying c.args.epoch (sym c.is_granted.ensures ∙ c.if-not-is_granted.false)
