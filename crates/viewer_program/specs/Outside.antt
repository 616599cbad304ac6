-- What is seen of the outside of a command, before it and after.
use Rattle.std.specs.Prelude.{ℕ, List, Option}
use Rattle.view_outside.specs.Files.{Named}

-- a store: its files, where it tells them, and its counts of faults and of the bytes that it handed over
pub record StoreSeen : Type 0 where
  pub files : Option (List Named)
  pub faults : ℕ
  pub taken : ℕ

-- a source: what is left of it, where it tells that, and its count of faults
pub record SourceSeen : Type 0 where
  pub rest : Option (List ℕ)
  pub faults : ℕ

-- a sink: what was written to it, where it tells that, and its count of faults
pub record SinkSeen : Type 0 where
  pub written : Option (List ℕ)
  pub faults : ℕ

pub record OutsideSeen : Type 0 where
  pub store : StoreSeen
  pub source : SourceSeen
  pub sink : SinkSeen

abbrev pub sink_seen : Option (List ℕ) → ℕ → SinkSeen
sink_seen written faults = record { written = written; faults = faults }

abbrev pub store_seen : Option (List Named) → ℕ → ℕ → StoreSeen
store_seen files faults taken = record { files = files; faults = faults; taken = taken }

-- a store beside a source and a sink, of which this is told in this order
abbrev pub outside_with : StoreSeen → Option (List ℕ) → ℕ → Option (List ℕ) → ℕ → OutsideSeen
outside_with store rest source_faults written sink_faults = record {
  store = store;
  source = record { rest = rest; faults = source_faults };
  sink = record { written = written; faults = sink_faults };
}

abbrev pub outside_seen : Option (List Named) → ℕ → ℕ → Option (List ℕ) → ℕ → Option (List ℕ) → ℕ → OutsideSeen
outside_seen files faults taken rest source_faults written sink_faults =
    outside_with (store_seen files faults taken) rest source_faults written sink_faults
