-- The room of a sink in memory.
use Rattle.std.specs.Prelude.{◌≤◌, vec_len, vec_capacity}
use Rattle.view_outside.specs.declared.sinks.memory.MemorySink.TheInside.{Inside}

-- what was written fits the room, for which there is memory, and a write takes at least a byte
pub record HasRoom (sink : Inside) : Type 0 where
  pub fits : vec_len sink.bytes ≤ sink.room
  pub memory : sink.room ≤ vec_capacity sink.bytes
  pub takes : 1 ≤ sink.piece
