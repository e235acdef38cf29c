pub mod Decimal
pub mod Lines
pub mod Total
pub mod Statement
pub mod Pages
pub mod Refusal
pub mod tables
