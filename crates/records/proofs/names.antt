pub mod Lemmas
pub mod SpellName
