pub mod Lists
pub mod Selected
pub mod InOrder
pub mod Meanings
pub mod Ignored
pub mod Traced
pub mod DeepSteps
pub mod RootSteps
