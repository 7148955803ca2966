pub mod Aiming
pub mod Left
pub mod Numbers
pub mod Parting
