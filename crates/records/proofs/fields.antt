pub mod Lemmas
pub mod Step
