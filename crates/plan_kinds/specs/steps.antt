pub mod AskedKeys
pub mod JoinedPhrases
pub mod MergeKinds
pub mod NearPlans
pub mod OutsidePhrases
pub mod PassKinds
pub mod PlacedPhrases
pub mod RisingUnits
