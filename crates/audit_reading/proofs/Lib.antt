pub mod FirstLines
pub mod Meeting
pub mod LinesAhead
