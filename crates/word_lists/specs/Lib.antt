pub mod Adding
pub mod KeySets
pub mod Words
pub mod Stems
pub mod View
