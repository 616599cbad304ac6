-- One node more is looked at.
use Rattle.std.proofs.Common.{◌≡◌, ◌<◌, max, ◌∙◌, sym, ap, length, arith}
use Rattle.std.proofs.lemmas.Option.{same_Some}
use Rattle.accepted_mesh.specs.MeshView.{degree}
use Rattle.accepted_mesh.proofs.DegreeLaws.{most_more, some_more}
use Rattle.accepted_mesh.proofs.meshes.degrees.greatest_degree_of.Goals as goal

pub loop-node-preserved : goal.loop-node-preserved
loop-node-preserved c =
    let fields = c.args.index.now.fields in
    let node = c.loop-node.node in
    let within : node < length c.args.index.now.nodes = omega (arith, c.loop-node-test.true, c.node_count-node-end.ensures.value) in
    let here = ap length (same_Some _ _ (sym c.outgoing.ensures ∙ c.requires.outgoing_is node within)) in
    let is : c.max-greatest.result ≡ max (degree fields node) c.loop-node.greatest = c.max-greatest.ensures ∙ ap (λ n. max n c.loop-node.greatest) here in
    record {
      most = most_more fields node c.loop-node.greatest c.max-greatest.result c.loop-node.invariant.most is;
      some = some_more fields (length c.args.index.now.nodes) node c.loop-node.greatest c.max-greatest.result within c.loop-node.invariant.some is;
    }
