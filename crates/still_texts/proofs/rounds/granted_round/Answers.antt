-- Each try is granted by epoch 1, until none is asked for.
use Rattle.std.proofs.Common.{[], ◌∷◌, refl, sym, ◌∙◌, arith, length-append}
use Rattle.round_model.specs.Refiners.{after_answer}
use Rattle.still_texts.proofs.RoundLemmas.{done_from, granted_more}
use Rattle.still_texts.proofs.rounds.granted_round.Goals as goal

pub loop-round-smaller : goal.loop-round-smaller
unfolding after_answer
loop-round-smaller g c =
    let patch = c.in-Lock.field-0 in
    let lock = sym c.ask.ensures.asked ∙ c.in-Lock.is in
    let told_is = c.tell.ensures patch lock in
    let room = c.ask.ensures.room patch c.in-Lock.is in
    let more = length-append c.loop-round.round.tries (record { patch = patch; epoch = 1 } ∷ []) in
    rw told_is (omega (arith, room, more))

pub loop-round-preserved : goal.loop-round-preserved
unfolding after_answer
loop-round-preserved g c =
    let patch = c.in-Lock.field-0 in
    let lock = sym c.ask.ensures.asked ∙ c.in-Lock.is in
    let told_is = c.tell.ensures patch lock in
    rw told_is (record { rules = c.loop-round.invariant.rules; owed = refl; granted = granted_more c.loop-round.round.tries patch c.loop-round.invariant.granted })

pub returns : goal.returns
returns g c =
    let done = done_from c.loop-round.round c.loop-round.invariant.owed (λ patch is. c.in_default.not-Lock patch (c.ask.ensures.asked ∙ is)) in
    record { rules = c.loop-round.invariant.rules; done = done; whole = c.ask.ensures.whole (c.ask.ensures.asked ∙ done); granted = c.loop-round.invariant.granted }
