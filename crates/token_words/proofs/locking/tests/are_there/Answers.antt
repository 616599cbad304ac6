use Rattle.token_words.proofs.Batches.{each_in, regained, unused-unlocked}
use Rattle.token_words.proofs.locking.tests.are_there.Goals as goal

pub returns-clause-uses : goal.returns-clause-uses
returns-clause-uses g c =
    regained _ _ _ _ (each_in _ _ _ c.requires.free) c.lock_up_to_refusal-locked.ensures.uses c.unlock_all.ensures.uses

pub returns-clause-locks : goal.returns-clause-locks
returns-clause-locks g c =
    let uses = g.T.Tokens.uses c.args.tokens.now c.args.pass.now in
    let locks = g.T.Tokens.locks c.args.tokens.now c.args.pass.now in
    regained _ _ _ _
    (λ p is_in. unused-unlocked uses locks
    (λ q. g.met.T.Tokens.locks_are_uses c.args.tokens.now c.args.pass.now q c.requires.pass) p
    (each_in uses _ _ c.requires.free p is_in))
    c.lock_up_to_refusal-locked.ensures.locks c.unlock_all.ensures.locks
