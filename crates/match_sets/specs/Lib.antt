pub mod Alike
pub mod Numbers
pub mod United
pub mod Examples
