-- Small lists of places, for the examples.
use Rattle.std.specs.Prelude.{ℕ, [], ◌∷◌, true}
use Rattle.ft_base.specs.declared.hit.Hit.{Hit}
use Rattle.place_merges.specs.Places.{Wanted, any_word, one_of}

abbrev pub a : Wanted
a = one_of ((1 ∷ 4 ∷ []) ∷ (6 ∷ []) ∷ [])

abbrev pub b : Wanted
b = one_of ((2 ∷ 3 ∷ 7 ∷ []) ∷ [])

abbrev pub any : Wanted
any = any_word

-- the hit from one word to another
abbrev pub hit : ℕ → ℕ → Hit
hit from to = record { query = 1; from = from; to = to; sent_from = 1; sent_to = 1; para_from = 1; para_to = 1; whole = true }
