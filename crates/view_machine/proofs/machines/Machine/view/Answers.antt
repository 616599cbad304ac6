use Rattle.std.proofs.Common.{List, ℕ, [], ◌++◌, codes, ap, ◌∙◌}
use Rattle.run_model.specs.Lines.{DidView}
use Rattle.run_model.specs.LineTexts.{session_line}
use Rattle.view_machine.proofs.machines.Machine.view.Goals as goal

pub returns-clause-line : goal.returns-clause-line
returns-clause-line g c = record {
  did = DidView c.args.session;
  does = c.in_ok-set_view.ensures.does;
  is = c.in_ok-add_view.ensures.ok.is ∙ ap (λ (t : List ℕ). t ++ session_line (codes "view") c.args.session []) c.new-text.ensures.items;
}
