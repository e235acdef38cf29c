pub mod Loading
pub mod Lemmas
pub mod Rows
mod Together
