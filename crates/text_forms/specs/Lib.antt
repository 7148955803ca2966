pub mod Cases
pub mod Forms
