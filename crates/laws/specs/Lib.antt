pub mod Text
pub mod Ints
pub mod IntLaws
pub mod Carried
pub mod Exp
pub mod Sums
pub mod SumLaws
pub mod Lists
