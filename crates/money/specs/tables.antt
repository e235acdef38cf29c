pub mod Numbers
pub mod Ready
pub mod Taken
pub mod Blank
