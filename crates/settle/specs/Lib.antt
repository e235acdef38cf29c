pub mod Settle
pub mod laws
