-- What always holds of a dictionary.
use Rattle.std.specs.Prelude.{◌≡◌, ◌≤◌, ◌<◌, ◌^◌, ℕ, true, List, length}
use Rattle.index_meaning.specs.Entries.{Entry, is_sorted, key_count}
use Rattle.index_meaning.specs.Dictionaries.{Term, entries, are_given}

-- the terms are in order, each once; their ids name them; the keys are counted; how many ids were given is a number of 32 bits
pub record IsSound (terms : List Term) (keys : ℕ) (given : List Entry) : Type 0 where
  pub sorted : is_sorted (entries terms) ≡ true
  pub named : are_given given terms ≡ true
  pub counted : keys ≡ key_count (entries terms)
  pub fewer : length terms ≤ length given
  pub fits : length given < 2 ^ 32
