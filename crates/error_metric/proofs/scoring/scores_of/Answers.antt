use Rattle.std.proofs.Common.{◌++◌, ◌∷◌, [], sym, ap, ◌∙◌, take, ℕ, List, arith}
use Rattle.std.proofs.lemmas.List.{take_more}
use Rattle.std.proofs.lemmas.Option.{slice_get_within, get_or_from_slice_get}
use Rattle.error_metric.proofs.scoring.scores_of.Goals as goal

pub loop-node-preserved : goal.loop-node-preserved
loop-node-preserved g c =
    let scores = g.W.Want.scores c.args.want.now c.args.mesh.now.lists in
    let within = slice_get_within scores c.loop-node.node c.score.result c.score.ensures in
    let here = get_or_from_slice_get scores c.loop-node.node c.score.result 0 c.score.ensures in
    record {
      items = c.push_reserved.ensures.items ∙ ap (λ (xs : List ℕ). xs ++ c.score.result ∷ []) c.loop-node.invariant.items
          ∙ ap (λ (x : ℕ). take c.loop-node.node scores ++ x ∷ []) (sym here)
          ∙ sym (take_more scores c.loop-node.node 0 within);
      few = omega (arith, c.push_reserved.ensures.len, c.loop-node.invariant.few);
      room = omega (arith, c.push_reserved.ensures.capacity, c.loop-node.invariant.room);
    }
