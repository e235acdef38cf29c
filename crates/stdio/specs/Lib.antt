pub mod Printing
pub mod laws
