pub mod Demands
pub mod Checks
pub mod Formulas
pub mod Script
pub mod Beside
