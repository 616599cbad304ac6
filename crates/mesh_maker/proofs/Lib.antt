pub mod Grown
