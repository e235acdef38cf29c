pub mod Heads
pub mod Viewed
pub mod Inner
pub mod Formed
pub mod Defaults
