use Rattle.view_script.proofs.AnswerLemmas.{gives_all}
use Rattle.view_script.proofs.scripts.read_script.Goals as goal

pub returns-in-Ok-clause-exact : goal.returns-in-Ok-clause-exact
returns-in-Ok-clause-exact g c =
    gives_all (λ script. script.lines) c.args.mode c.args.tiers _ c.in-Ok.bytes.items _ _ c.in-Ok.ensures.front c.in-Ok.ensures.through c.in-Ok.ensures.few (rw c.as_slice.ensures.value at c.script_of.ensures.value)
