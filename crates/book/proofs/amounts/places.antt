pub mod Lemmas
pub mod Gathering
