pub mod Survey
pub mod LastTaken
