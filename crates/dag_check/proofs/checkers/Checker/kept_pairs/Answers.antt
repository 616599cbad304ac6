-- The pairs of all sums are those of the open nodes.
use Rattle.std.proofs.Common.{List, subst}
use Rattle.file_model.specs.Lists.{BodyLists}
use Rattle.dag_check.specs.Open.{KeepsPairs}
use Rattle.dag_check.specs.NodeSums.{taken_both}
use Rattle.dag_check.specs.AllNodeSums.{all_sums_of}
use Rattle.dag_check.specs.Checkers.{CheckerSeen, Follows}
use Rattle.dag_check.proofs.BodyLaws.{summed_of, low_at_first}
use Rattle.dag_check.proofs.KeptLaws.{keeps}
use Rattle.dag_check.proofs.checkers.Checker.kept_pairs.Goals as goal

pub kept_pairs-requires : goal.kept_pairs-requires
kept_pairs-requires c = summed_of c.self.inside.index (taken_both c.self.inside.next) (all_sums_of c.self.inside.all_sums) c.self.invariant.rules (low_at_first _ c.self.invariant) c.self.invariant.all_sums

pub returns : goal.returns
returns c =
    subst (λ (s : CheckerSeen). (bodies : List BodyLists) → Follows s bodies → KeepsPairs s.index s.next bodies c.kept_pairs.result) c.self.view_is
    (λ bodies h. rw (c.kept_pairs.ensures) (keeps c.self.inside.index c.self.inside.next bodies (all_sums_of c.self.inside.all_sums) c.self.invariant.all_sums h.all_sums))
