pub mod Places
pub mod Faults
pub mod Zeros
pub mod Seen
pub mod Origins
