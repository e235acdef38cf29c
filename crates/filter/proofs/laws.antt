pub mod Replies
pub mod MoveLaws
pub mod WaitLaws
pub mod OutputLaws
pub mod Examples
pub mod ReplyLaws
