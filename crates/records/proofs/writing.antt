pub mod Putting
pub mod Lemmas
pub mod PutViewed
