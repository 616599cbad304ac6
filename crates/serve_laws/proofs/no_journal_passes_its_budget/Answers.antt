use Rattle.serve_laws.specs.JournalLoads.{journal_within}
use Rattle.serve_laws.proofs.no_journal_passes_its_budget.Goals as goal

pub returns : goal.returns
returns c = journal_within
