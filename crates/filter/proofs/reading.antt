pub mod ToFront
pub mod Lemmas
pub mod Output
