pub mod Bridge
pub mod laws
