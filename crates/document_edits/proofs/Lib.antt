pub mod PlacesLemmas
pub mod DraftLemmas
pub mod NumberingLemmas
pub mod RenamedLemmas
pub mod TouchedLemmas
