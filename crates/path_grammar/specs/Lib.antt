pub mod Form
pub mod View
pub mod Grammar
pub mod Levels
pub mod Spellings
pub mod Without
pub mod steps
