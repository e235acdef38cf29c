pub mod Inner
pub mod Cursors
