pub mod Pairing
pub mod Lemmas
