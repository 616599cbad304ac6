use Rattle.still_texts.proofs.fulls.cull_text.Goals as goal

pub returns-clause-told : goal.returns-clause-told
returns-clause-told g c = rw (c.limit.ensures, c.view.ensures) at c.round_text.ensures.told
