pub mod Taken
pub mod Fitting
pub mod Origins
pub mod Sizes
