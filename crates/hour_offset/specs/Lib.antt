pub mod HourOffset
pub mod tables
