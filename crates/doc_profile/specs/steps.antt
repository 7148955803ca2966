pub mod View
pub mod Plain
pub mod LaterNames
