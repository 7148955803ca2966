pub mod Truth
pub mod WalkLemmas
pub mod PlacesLemmas
pub mod CharacterLemmas
pub mod LetterLemmas
