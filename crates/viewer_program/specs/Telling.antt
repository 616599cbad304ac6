-- How a status is told to a sink.
use Rattle.std.specs.Prelude.{◌≡◌, ◌⊎◌, ℕ, true, List}
use Rattle.view_outside.specs.Written.{WritesPart}
use Rattle.text_model.specs.declared.statuses.Status.{Status}
use Rattle.text_model.specs.StatusText.{status_text}
use Rattle.view_outside.specs.Faults.{Rose}
use Rattle.view_outside.specs.Streams.{appended}
use Rattle.viewer_program.specs.Numbered.{has_numbers}
use Rattle.viewer_program.specs.Outside.{SinkSeen}

-- the sink failed, and got a proper prefix of the text
pub record GetsPart (text : List ℕ) (before after : SinkSeen) : Type 0 where
  pub part : WritesPart before.written after.written text
  pub failed : Rose before.faults after.faults

-- all of the text was written, or a proper prefix where the sink failed
abbrev pub Gets : List ℕ → SinkSeen → SinkSeen → Type 0
Gets text before after = (after.written ≡ appended before.written text) ⊎ GetsPart text before after

-- there was no memory for the numbers of the status's line, and nothing was written
pub record LacksNumbers (status : Status) (before after : SinkSeen) : Type 0 where
  pub numbers : has_numbers status ≡ true
  pub none : after ≡ before

-- the status's line was written as far as the sink took it, but for want of memory for its numbers
abbrev pub IsTold : Status → SinkSeen → SinkSeen → Type 0
IsTold status before after = Gets (status_text status) before after ⊎ LacksNumbers status before after
