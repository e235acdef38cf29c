pub mod laws
mod Lemmas
