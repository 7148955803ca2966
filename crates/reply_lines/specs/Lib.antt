pub mod Given
pub mod Limits
pub mod Names
pub mod Replies
