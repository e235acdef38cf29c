pub mod Amounts
pub mod Credits
pub mod Names
