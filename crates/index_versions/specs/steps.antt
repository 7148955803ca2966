pub mod Exchange
pub mod Held
pub mod Naming
pub mod Sound
pub mod Found
