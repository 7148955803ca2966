pub mod NodeViews
pub mod ListLemmas
pub mod SumLemmas
pub mod GroupLemmas
mod ReachedLemmas
pub mod ServedLemmas
pub mod MissingLemmas
pub mod ItemMeaning
pub mod PhraseMeaning
mod PriceMeaning
mod AcceptedLemmas
pub mod SelectionMeaning
mod CompiledLemmas
mod RewrittenPrices
mod OperatorViews
mod JoinLemmas
mod CheapPhrases
mod CheapNodes
mod CheapRewriting
mod WordRows
mod PhraseOperators
mod OperatorLemmas
mod UnitingLemmas
mod WaysLaw
mod TimesLemmas
mod ShowableLemmas
pub mod ShownViews
mod ShownLemmas
mod SkippedShapes
mod CountedPhrases
mod CountedLemmas
