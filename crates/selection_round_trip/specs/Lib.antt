pub mod Printed
pub mod Strings
pub mod Places
pub mod Printable
