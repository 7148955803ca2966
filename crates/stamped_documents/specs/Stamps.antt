-- Stamps of documents: numbers, one for each document in order, of which none comes again once its document has changed.
use Rattle.std.specs.Prelude.{◌≡◌, ℕ, suc, ◌<◌, if◌then◌else◌, List, [], ◌∷◌, length, map, nat_eq}
use Rattle.std.specs.List.{AllByRecursion, IsDistinct}
use Rattle.std.specs.Str.{bytes_eq}
use Rattle.ft_base.specs.Lists.{is_empty}
use Rattle.path_meaning.specs.Collection.{Named}

-- There is a stamp for each of so many documents, no two are the same, and all are below the next one.
pub record AreStamps (count next : ℕ) (stamps : List ℕ) : Type 0 where
  pub as_many : length stamps ≡ count
  pub below : AllByRecursion (λ s. s < next) stamps
  pub distinct : IsDistinct nat_eq stamps

-- the stamps after a change of the documents for which these lists have an item: each of them has one of the next numbers, by its place
abbrev pub restamped : {A : Type 0} → ℕ → List (List A) → List ℕ → List ℕ
restamped next [] stamps = stamps
restamped next (items ∷ lists) [] = []
restamped next (items ∷ lists) (s ∷ stamps) = (if is_empty items then s else next) ∷ restamped (suc next) lists stamps

-- new stamps for all documents
abbrev pub renewed : ℕ → List ℕ → List ℕ
renewed next stamps = restamped next (map (λ s. s ∷ []) stamps) stamps

-- the stamps without that of the document of a name
abbrev pub without_stamp : List ℕ → List Named → List ℕ → List ℕ
without_stamp name [] stamps = stamps
without_stamp name (d ∷ documents) [] = []
without_stamp name (d ∷ documents) (s ∷ stamps) = if bytes_eq name d.name then stamps else s ∷ without_stamp name documents stamps
