pub mod PartsLeft
pub mod Row
