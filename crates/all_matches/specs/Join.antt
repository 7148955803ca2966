-- The hit that stands for several (XQuery and XPath Full Text 3.0, section 4.2.7.8: joinIncludes).
use Rattle.std.specs.Prelude.{ℕ, Bool, ◌&&◌, min, max, List, [], ◌∷◌, map, fold, Option, Some, None}
use Rattle.std.specs.List.{list_any, list_all}
use Rattle.ft_base.specs.declared.hit.Hit.{Hit}
use Rattle.all_matches.specs.Positions.{covers, places_from_to}

-- the least and the greatest of a list that isn't empty
abbrev pub least : ℕ → List ℕ → ℕ
least first rest = fold min first rest

abbrev pub greatest : ℕ → List ℕ → ℕ
greatest first rest = fold max first rest

-- whether each hit is whole, and each place from the first to the last is covered by one
abbrev pub are_whole : List Hit → ℕ → ℕ → Bool
are_whole hits first last = list_all (λ hit. hit.whole) hits && list_all (λ place. list_any (λ hit. covers hit place) hits) (places_from_to first last)

-- the hit from the first to the last word of the hits, with the number of the first in the list
abbrev pub join : List Hit → Option Hit
join [] = None
join (first ∷ rest) = Some record {
  query = first.query;
  from = least first.from (map (λ hit. hit.from) rest);
  to = greatest first.to (map (λ hit. hit.to) rest);
  sent_from = least first.sent_from (map (λ hit. hit.sent_from) rest);
  sent_to = greatest first.sent_to (map (λ hit. hit.sent_to) rest);
  para_from = least first.para_from (map (λ hit. hit.para_from) rest);
  para_to = greatest first.para_to (map (λ hit. hit.para_to) rest);
  whole = are_whole (first ∷ rest) (least first.from (map (λ hit. hit.from) rest)) (greatest first.to (map (λ hit. hit.to) rest));
}
