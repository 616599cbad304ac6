use Rattle.std.proofs.Common.{[], ◌∷◌, SFits, w64, rules}
use Rattle.std.specs.Fmt.{decimal, signed_decimal}
use Rattle.std.proofs.lemmas.Int.{to_z-of_z}
use Rattle.std.proofs.lemmas.Result.{on_ok_weaker, on_err_weaker}
use Rattle.text_model.specs.FrameText.{point_words}
use Rattle.frame_writer.specs.Appending.{Adds-words, Adds-begins, Begins-then}
use Rattle.viewer_program.proofs.faults.add_border.Goals as goal

pub returns-clause-ok : goal.returns-clause-ok
returns-clause-ok c =
    let fits_in : SFits w64 c.args.net_in = search rules in
    let fits_out : SFits w64 c.args.net_out = search rules in
    let nets_added = rw (to_z-of_z w64 c.args.net_in fits_in, to_z-of_z w64 c.args.net_out fits_out) at c.add_nets.ensures.ok in
    on_ok_weaker c.add_nets.result
    (λ nets. Adds-words (decimal 25 ∷ decimal c.args.node ∷ []) _ c.in_ok-add_border_node.ensures.ok
    (Adds-words (point_words c.args.first) _ c.in_ok-add_point.ensures.ok
    (Adds-words (point_words c.args.second) (signed_decimal c.args.net_in ∷ signed_decimal c.args.net_out ∷ []) c.in_ok-add_point-2.ensures.ok nets)))
    nets_added

pub returns-clause-err : goal.returns-clause-err
returns-clause-err c = on_err_weaker c.add_nets.result
    (λ some. Begins-then (Adds-begins c.in_ok-add_border_node.ensures.ok) (Begins-then (Adds-begins c.in_ok-add_point.ensures.ok) (Begins-then (Adds-begins c.in_ok-add_point-2.ensures.ok) some)))
    c.add_nets.ensures.err
