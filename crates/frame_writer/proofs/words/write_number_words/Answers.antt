use Rattle.std.proofs.Common.{◌∷◌, subst}
use Rattle.text_model.specs.Lines.{Adds}
use Rattle.std.specs.Fmt.{decimal}
use Rattle.frame_writer.specs.Appending.{Adds-no_words}
use Rattle.frame_writer.proofs.LineLemmas.{Adds-one_more}
use Rattle.frame_writer.proofs.words.write_number_words.Goals as goal

pub loop-number-init : goal.loop-number-init
loop-number-init c = Adds-no_words c.args.out.now.items

pub loop-number-preserved : goal.loop-number-preserved
loop-number-preserved c =
    let word = subst (λ n. Adds c.loop-number.out.items c.write_spaced.new.out.items (32 ∷ decimal n)) c.from.ensures c.in_ok-write_spaced.ensures.ok in
    Adds-one_more decimal c.args.numbers.now c.loop-number.number-index 0 c.loop-number-test.true c.loop-number.invariant word
