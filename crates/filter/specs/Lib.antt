pub mod Output
pub mod Reading
pub mod Program
