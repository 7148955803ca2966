pub mod SelectsJust
