pub mod RunMeaning
pub mod Judgement
pub mod RunPrice
pub mod OpenedParts
pub mod RunCode
pub mod steps
