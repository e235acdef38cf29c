pub mod Bits
pub mod Call
pub mod OffsetOfHour
pub mod laws
