use Rattle.patch_file.proofs.IndexReading.{fails_never}
use Rattle.patch_file.proofs.readers.read_fields.Goals as goal

pub returns-clause-store : goal.returns-clause-store
returns-clause-store g c = record {
  kept = c.in_ok-bytes.ensures.store.kept;
  later = c.in_ok-bytes.ensures.store.later;
  cause = fails_never c.index_of.result _ c.index_of.ensures.alone;
}

pub returns-clause-cut : goal.returns-clause-cut
returns-clause-cut g c = fails_never c.index_of.result _ c.index_of.ensures.alone
