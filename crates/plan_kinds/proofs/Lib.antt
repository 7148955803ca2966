pub mod JoinedLaw
pub mod FilteredLaw
pub mod PassLaw
pub mod PlacedLaw
pub mod OutsideLaw
pub mod CheapLaw
