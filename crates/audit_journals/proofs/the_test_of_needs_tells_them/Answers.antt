use Rattle.audit_journals.specs.NeedLaws.{needs_from, needs_to}
use Rattle.audit_journals.proofs.the_test_of_needs_tells_them.Goals as goal

pub returns : goal.returns
returns c = λ width pinned a entry. (needs_from width pinned a entry, needs_to width pinned a entry)
