-- The border has the net of the body's triangles.
use Rattle.std.proofs.Common.{List, sym, subst, arith}
use Rattle.std.proofs.lemmas.Result.{on_ok_weaker}
use Rattle.file_model.specs.Lists.{triangles_of}
use Rattle.edge_chain.specs.declared.edges.BorderEdge.{BorderEdge}
use Rattle.edge_chain.specs.Borders.{AreBorder}
use Rattle.body_edges.specs.TriangleCounts.{length-triangles_from}
use Rattle.body_edges.proofs.adding.add_border.Goals as goal

pub returns-clause-nets : goal.returns-clause-nets
returns-clause-nets c =
    let lists = c.args.body.now.lists in
    on_ok_weaker c.add_edges.result
    (λ nets triangles h.
    nets triangles (triangles_of lists) h
    (subst (λ (edges : List BorderEdge). AreBorder edges (triangles_of lists)) (sym c.edges.ensures) c.requires.border.net)
    (omega (arith, length-triangles_from lists.points lists.corners)))
    c.add_edges.ensures.nets
