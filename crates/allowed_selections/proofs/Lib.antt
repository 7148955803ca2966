pub mod Empty
pub mod Operands
pub mod Excludes
pub mod Allowed
