-- More terms among those of an index: how far the terms that were there and the new ones are merged.
use Rattle.std.specs.Prelude.{◌≡◌, ℕ, ◌<◌, ◌≤◌, ◌||◌, true, List, length, take, slice_index}
use Rattle.ft_base.specs.Places.{is_ascending}
use Rattle.shared_list.specs.Blocks.{joined, starts_from}
use Rattle.index_document.specs.Terms.{has}
use Rattle.index_document.specs.Rows.{runs_of}
use Rattle.index_document.specs.declared.entry.Entry.{Entry}

-- of the terms that were there so many are done, and of the new ones these; both are made into one list
pub record IsWidening (all : List Entry) (ids : List ℕ) (number : ℕ) (done made starts : List ℕ) : Type 0 where
  pub within : number ≤ length ids
  pub starts_are : starts ≡ starts_from 0 (runs_of all made)
  pub joined_are : joined (runs_of all made) ≡ joined (runs_of all (take number ids))
  pub rising : is_ascending made ≡ true
  pub members : (t : ℕ) → has t made ≡ (has t (take number ids) || has t done)
  pub below : (t : ℕ) → has t made ≡ true → (k : ℕ) → number ≤ k → k < length ids → t < slice_index ids k

-- all terms that are made are at most this one
abbrev pub AreUpTo : ℕ → List ℕ → Type 0
AreUpTo term made = (t : ℕ) → has t made ≡ true → t ≤ term
