pub mod Restoring
pub mod Lemmas
