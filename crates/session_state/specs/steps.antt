pub mod Again
pub mod Chosen
pub mod MarkedPlans
pub mod Renewed
pub mod Turns
