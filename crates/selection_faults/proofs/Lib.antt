pub mod LeastLemmas
pub mod LeastPlacesLemmas
pub mod OptionsLemmas
pub mod WalkLemmas
pub mod FormViews
pub mod KindsLemmas
pub mod TreeViews
