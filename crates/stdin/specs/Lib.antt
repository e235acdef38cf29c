pub mod Rounds
pub mod laws
