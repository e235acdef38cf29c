pub mod Lemmas
pub mod AtEnd
