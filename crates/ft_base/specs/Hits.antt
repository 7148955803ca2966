-- Lists of hits: their order, and a place in one of them, from which it is read on.
use Rattle.std.specs.Prelude.{ℕ, ◌+◌, Bool, true, ◌&&◌, ◌||◌, ◌==◌, nat_lt, List, [], ◌∷◌, length, drop, take_while, Option, slice_get}
use Rattle.std.specs.List.{list_all}
use Rattle.ft_base.specs.declared.hit.Hit.{Hit}

-- whether a test holds between every two hits at different places of a list
abbrev pub every_two : (Hit → Hit → Bool) → List Hit → Bool
every_two test [] = true
every_two test (hit ∷ rest) = list_all (test hit) rest && every_two test rest

-- whether the first hit comes before the second and is another one: by the first word, then by the last, then by the number
-- of the phrase
abbrev pub comes_before : Hit → Hit → Bool
comes_before a b = nat_lt a.from b.from || ((a.from == b.from) && (nat_lt a.to b.to || ((a.to == b.to) && nat_lt a.query b.query)))

-- whether a list is in this order, and has each hit once
abbrev pub is_sorted : List Hit → Bool
is_sorted hits = every_two comes_before hits

-- a list of hits, and how many of them stand before the place
pub record HitPlace : Type 0 where
  pub hits : List Hit
  pub place : ℕ

abbrev pub hit_place : List Hit → ℕ → HitPlace
hit_place hits place = record { hits = hits; place = place }

-- the hit at the place; there is none at the end
abbrev pub hit_at : HitPlace → Option Hit
hit_at at = slice_get at.hits at.place

-- one hit further on
abbrev pub one_further : HitPlace → HitPlace
one_further at = hit_place at.hits (at.place + 1)

-- how many hits, from the place on, begin before this word before the first that doesn't
abbrev pub hits_passed : ℕ → HitPlace → ℕ
hits_passed from at = length (take_while (λ hit. nat_lt hit.from from) (drop at.place at.hits))

-- the first place from this one on whose hit doesn't begin before the word, or the end
abbrev pub sought : ℕ → HitPlace → HitPlace
sought from at = hit_place at.hits (at.place + hits_passed from at)

abbrev pub at_first : HitPlace → HitPlace
at_first at = hit_place at.hits 0
