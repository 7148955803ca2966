pub mod Grammar
pub mod Texts
pub mod Opened
pub mod Limits
pub mod Printed
pub mod steps
