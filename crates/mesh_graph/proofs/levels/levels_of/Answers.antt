use Rattle.std.proofs.Common.{◌≡◌, ◌++◌, ◌∷◌, [], Option, Some, None, length, map, arith, ◌∙◌, ap, subst, length-append, ℕ, List, ◌+◌, ◌*◌, ◌<◌, ◌≤◌}
use Rattle.std.specs.Prelude.{All}
use Rattle.file_model.specs.declared.fields.PatchField.{PatchField}
use Rattle.std.specs.List.{slice_get}
use Rattle.std.proofs.lemmas.List.{length-replicate, length-set, length-map, length_push}
use Rattle.std.proofs.lemmas.List.Elements.{All-append}
use Rattle.mesh_model.specs.declared.sides.NodeSide.TheVariants.{Outgoing}
use Rattle.mesh_graph.specs.Sides.{patches_at}
use Rattle.mesh_graph.specs.Levels.{head_of, levels_missing, HasOpenParent, AreWaiting, IsNextLevel}
use Rattle.mesh_graph.proofs.LevelLaws.{levels_none, waiting_all, levels_more, missing_set, waiting_less, waiting_more, ungrounded}
use Rattle.mesh_graph.proofs.ArcLaws.{list_is, list_in_range, list_few, heads_there, heads_in_range, all_range, range_contains_all, all_before, places_kept, empty_list}
use Rattle.mesh_graph.proofs.levels.levels_of.Goals as goal

pub loop-node-init : goal.loop-node-init
loop-node-init c =
    let n = c.node_count-nodes.ensures in
    record {
      as_many = ap length c.in_ok-levels.ensures ∙ length-replicate c.node_count-nodes.result None ∙ c.node_count-nodes.ensures;
      places = omega (arith, c.in_ok-places.ensures.len, c.node_count-nodes.ensures);
      levels = rw c.in_ok-levels.ensures (levels_none c.args.fields.now c.node_count-nodes.result);
      waiting = rw c.in_ok-levels.ensures (waiting_all c.args.fields.now c.node_count-nodes.result c.in_ok-waiting.waiting.items (λ v v_in. rw c.in_ok-waiting.ensures (range_contains_all c.node_count-nodes.result v v_in)));
      nodes = rw (c.in_ok-waiting.ensures, ← c.node_count-nodes.ensures) (all_range c.node_count-nodes.result);
    }

node_in : (n : ℕ) (waiting rest : List ℕ) (v : ℕ) → waiting ≡ rest ++ v ∷ [] → All (λ u. u < n) waiting → v < n
node_in n waiting rest v is all = (all_before n waiting rest v is all).0

pub push_heads-requires : goal.push_heads-requires
push_heads-requires c =
    list_in_range Outgoing c.args.fields.now (length c.args.incoming.now) c.args.outgoing.now c.in-Some.node c.patches_of.result.now c.requires.outgoing
    (node_in (length c.args.incoming.now) c.loop-node.waiting.items c.pop.new.self.items c.in-Some.node c.in-Some.ensures.items c.loop-node.invariant.nodes) c.patches_of.ensures

less : (missing missing' waiting rest heads : ℕ) → missing' + 1 ≡ missing → waiting ≡ rest + 1 → heads ≤ 65536 → 65537 * missing' + (rest + heads) < 65537 * missing + waiting
less missing missing' waiting rest heads is waiting_is few = omega (arith, is, waiting_is, few)

pub loop-node-smaller-in-Continue-branch-4 : goal.loop-node-smaller-in-Continue-branch-4
loop-node-smaller-in-Continue-branch-4 c =
    let next : IsNextLevel c.args.fields.now c.loop-node.levels.items c.in-Some.node c.in-Some-next_level.level = subst (λ (l : List (Option ℕ)). IsNextLevel c.args.fields.now l c.in-Some.node c.in-Some-next_level.level) c.deref.ensures.value c.in-Some-next_level.ensures in
    let v_in : c.in-Some.node < length c.args.incoming.now = node_in (length c.args.incoming.now) c.loop-node.waiting.items c.pop.new.self.items c.in-Some.node c.in-Some.ensures.items c.loop-node.invariant.nodes in
    let few : length c.patches_of.result.now ≤ length c.args.fields.now = list_few Outgoing c.args.fields.now (length c.args.incoming.now) c.args.outgoing.now c.in-Some.node c.patches_of.result.now c.requires.outgoing v_in c.patches_of.ensures in
    let longer : length c.push_heads.new.waiting.items ≡ length c.pop.new.self.items + length c.patches_of.result.now = ap length c.in_ok-push_heads.ensures ∙ length-append c.pop.new.self.items (map (head_of c.args.fields.now) c.patches_of.result.now) ∙ ap (λ n. length c.pop.new.self.items + n) (length-map c.patches_of.result.now (head_of c.args.fields.now)) in
    rw longer
    (less (levels_missing c.loop-node.levels.items) _ (length c.loop-node.waiting.items) (length c.pop.new.self.items) (length c.patches_of.result.now)
    (missing_set c.loop-node.levels.items c.in-Some.node c.in-Some-next_level.level next.empty) (ap length c.in-Some.ensures.items ∙ length_push c.pop.new.self.items c.in-Some.node) (omega (arith, few, c.requires.patches)))

pub loop-node-preserved-in-Continue-branch-4 : goal.loop-node-preserved-in-Continue-branch-4
loop-node-preserved-in-Continue-branch-4 c =
    let next : IsNextLevel c.args.fields.now c.loop-node.levels.items c.in-Some.node c.in-Some-next_level.level = subst (λ (l : List (Option ℕ)). IsNextLevel c.args.fields.now l c.in-Some.node c.in-Some-next_level.level) c.deref.ensures.value c.in-Some-next_level.ensures in
    let before = all_before (length c.args.incoming.now) c.loop-node.waiting.items c.pop.new.self.items c.in-Some.node c.in-Some.ensures.items c.loop-node.invariant.nodes in
    let list : c.patches_of.result.now ≡ patches_at Outgoing c.args.fields.now c.in-Some.node = list_is Outgoing c.args.fields.now (length c.args.incoming.now) c.args.outgoing.now c.in-Some.node c.patches_of.result.now c.requires.outgoing before.0 c.patches_of.ensures in
    let ranges = list_in_range Outgoing c.args.fields.now (length c.args.incoming.now) c.args.outgoing.now c.in-Some.node c.patches_of.result.now c.requires.outgoing before.0 c.patches_of.ensures in
    let more : c.push_heads.new.waiting.items ≡ c.pop.new.self.items ++ map (head_of c.args.fields.now) (patches_at Outgoing c.args.fields.now c.in-Some.node) = c.in_ok-push_heads.ensures ∙ ap (λ (ps : List ℕ). c.pop.new.self.items ++ map (head_of c.args.fields.now) ps) list in
    record {
      as_many = length-set c.loop-node.levels.items c.in-Some.node (Some c.in-Some-next_level.level) ∙ c.loop-node.invariant.as_many;
      places = places_kept c.loop-node.places.len c.loop-node.places.items c.next_level.new.places (omega arith) (omega (arith, ap length c.deref_mut.ensures.value)) ∙ c.loop-node.invariant.places;
      levels = levels_more c.args.fields.now c.loop-node.levels.items c.in-Some.node c.in-Some-next_level.level c.loop-node.invariant.levels next.empty next.is next.room;
      waiting = rw more (waiting_more c.args.fields.now c.loop-node.levels.items c.pop.new.self.items (map (head_of c.args.fields.now) (patches_at Outgoing c.args.fields.now c.in-Some.node)) c.in-Some.node c.in-Some-next_level.level
          (subst (λ (l : List ℕ). AreWaiting c.args.fields.now c.loop-node.levels.items l) c.in-Some.ensures.items c.loop-node.invariant.waiting) (omega (arith, before.0, c.loop-node.invariant.as_many)) (heads_there c.args.fields.now c.in-Some.node));
      nodes = rw c.in_ok-push_heads.ensures (All-append (λ v. v < length c.args.incoming.now) c.pop.new.self.items (map (head_of c.args.fields.now) c.patches_of.result.now) before.1 (heads_in_range c.args.fields.now (length c.args.incoming.now) c.patches_of.result.now c.requires.heads ranges));
    }

pub loop-node-preserved : goal.loop-node-preserved
loop-node-preserved c =
    let before = all_before (length c.args.incoming.now) c.loop-node.waiting.items c.pop.new.self.items c.in-Some.node c.in-Some.ensures.items c.loop-node.invariant.nodes in
    record {
      as_many = c.loop-node.invariant.as_many;
      places = places_kept c.loop-node.places.len c.loop-node.places.items c.next_level.new.places (omega arith) (omega (arith, ap length c.deref_mut.ensures.value)) ∙ c.loop-node.invariant.places;
      levels = c.loop-node.invariant.levels;
      waiting = waiting_less c.args.fields.now c.loop-node.levels.items c.pop.new.self.items c.in-Some.node
          (subst (λ (l : List ℕ). AreWaiting c.args.fields.now c.loop-node.levels.items l) c.in-Some.ensures.items c.loop-node.invariant.waiting)
          (subst (λ (l : List (Option ℕ)). slice_get l c.in-Some.node ≡ Some None → HasOpenParent c.args.fields.now l c.in-Some.node) c.deref.ensures.value c.in_default-next_level.ensures);
      nodes = before.1;
    }

none_waits : (fields : List PatchField) (levels : List (Option ℕ)) (waiting : List ℕ) → waiting ≡ [] → AreWaiting fields levels waiting → AreWaiting fields levels []
none_waits fields levels waiting empty are = subst (λ (l : List ℕ). AreWaiting fields levels l) empty are

pub returns : goal.returns
returns c =
    let none : c.loop-node.waiting.items ≡ [] = empty_list c.loop-node.waiting.items (λ h. c.in_default.ensures.variant.1 (omega arith)) in
    record {
      as_many = c.loop-node.invariant.as_many;
      found = c.loop-node.invariant.levels.found;
      ungrounded = λ v empty. ungrounded c.args.fields.now c.loop-node.levels.items v (none_waits c.args.fields.now c.loop-node.levels.items c.loop-node.waiting.items none c.loop-node.invariant.waiting) empty;
    }
