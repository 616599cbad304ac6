pub mod Lines
pub mod FrameText
pub mod StatusText
pub mod AcceptedText
pub mod BenchText
pub mod ShownCuts
