pub mod Lemmas
pub mod Plain
