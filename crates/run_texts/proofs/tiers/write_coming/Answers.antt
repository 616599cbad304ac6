use Rattle.std.proofs.Common.{ℕ, List, ◌∷◌, ◌+◌, false, take, sym, subst}
use Rattle.std.specs.Fmt.{decimal}
use Rattle.std.proofs.lemmas.Simd.{map-map}
use Rattle.tier_model.specs.declared.turns.Coming.{Coming}
use Rattle.text_model.specs.Lines.{Adds, spaced}
use Rattle.frame_writer.specs.Appending.{Adds-no_words}
use Rattle.frame_writer.proofs.LineLemmas.{Adds-one_more}
use Rattle.run_texts.proofs.tiers.write_coming.Goals as goal

pub loop-one-init : goal.loop-one-init
loop-one-init c = Adds-no_words c.args.out.now.items

pub loop-one-preserved : goal.loop-one-preserved
loop-one-preserved c =
    let a = c.args.out.now.items in
    let coming = c.args.coming.now in
    let i = c.loop-one.one-index in
    let patch = λ (one : Coming). one.patch in
    let word_of = λ (one : Coming). decimal (patch one) in
    let word = subst (λ (n : ℕ). Adds c.loop-one.out.items c.add_part.new.out.items (32 ∷ decimal n)) c.from.ensures c.in_ok-add_part.ensures.ok in
    let before = subst (λ (words : List (List ℕ)). Adds a c.loop-one.out.items (spaced words)) (map-map decimal patch (take i coming)) c.loop-one.invariant in
    subst (λ (words : List (List ℕ)). Adds a c.add_part.new.out.items (spaced words)) (sym (map-map decimal patch (take (i + 1) coming)))
    (Adds-one_more word_of coming i (record { patch = 0; has_body = false }) c.loop-one-test.true before word)
