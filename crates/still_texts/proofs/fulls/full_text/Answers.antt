use Rattle.still_texts.proofs.fulls.full_text.Goals as goal

pub returns-clause-told : goal.returns-clause-told
returns-clause-told g c = rw c.limit.ensures at c.round_text.ensures.told
