pub mod Least
pub mod Passing
