-- And of AllMatches may be taken in any grouping.
use Rattle.std.proofs.Common.{◌≡◌, refl, ap, ◌∙◌, sym, List, [], ◌∷◌, ◌++◌}
use Rattle.std.specs.Prelude.{map, fold}
use Rattle.std.proofs.lemmas.Grind.{flat_map-append}
use Rattle.std.proofs.lemmas.List.{append_assoc, append-nil, map-append}
use Rattle.ft_base.specs.declared.hit.Match.{Match}
use Rattle.all_matches.specs.Boolean.{empty_match, both, ft_or, ft_and}

both_assoc : (a b c : Match) → both (both a b) c ≡ both a (both b c)
both_assoc a b c = λ i. record { includes = append_assoc a.includes b.includes c.includes i; excludes = append_assoc a.excludes b.excludes c.excludes i }

both_empty : (a : Match) → both a empty_match ≡ a
both_empty a = λ i. record { includes = append-nil a.includes i; excludes = append-nil a.excludes i }

row_assoc : (a b : Match) (ms : List Match) → map (both (both a b)) ms ≡ map (both a) (map (both b) ms)
row_assoc a b [] = refl
row_assoc a b (m ∷ ms) = λ i. both_assoc a b m i ∷ row_assoc a b ms i

rows_assoc : (a : Match) (middle right : List Match) → ft_and (map (both a) middle) right ≡ map (both a) (ft_and middle right)
rows_assoc a [] right = refl
rows_assoc a (b ∷ middle) right =
    (λ i. row_assoc a b right i ++ rows_assoc a middle right i)
    ∙ sym (map-append (both a) (map (both b) right) (ft_and middle right))

and_assoc : (left middle right : List Match) → ft_and (ft_and left middle) right ≡ ft_and left (ft_and middle right)
and_assoc [] middle right = refl
and_assoc (a ∷ left) middle right =
    flat_map-append (λ m. map (both m) right) (map (both a) middle) (ft_and left middle)
    ∙ (λ i. rows_assoc a middle right i ++ and_assoc left middle right i)

and_empty : (matches : List Match) → ft_and matches (empty_match ∷ []) ≡ matches
and_empty [] = refl
and_empty (m ∷ rest) = λ i. both_empty m i ∷ and_empty rest i

and_further : (left right : List Match) (operands : List (List Match)) → fold ft_and (ft_and left right) operands ≡ ft_and left (fold ft_and right operands)
and_further left right [] = refl
and_further left right (next ∷ rest) = ap (λ ms. fold ft_and ms rest) (and_assoc left right next) ∙ and_further left (ft_and right next) rest

or_further : (left right : List Match) (operands : List (List Match)) → fold ft_or (ft_or left right) operands ≡ ft_or left (fold ft_or right operands)
or_further left right [] = refl
or_further left right (next ∷ rest) = ap (λ ms. fold ft_or ms rest) (append_assoc left right next) ∙ or_further left (ft_or right next) rest

-- operands after a prefix are the prefix and their own join
pub and_prefix : (prefix : List Match) (operands : List (List Match)) → fold ft_and prefix operands ≡ ft_and prefix (fold ft_and (empty_match ∷ []) operands)
and_prefix prefix operands = ap (λ ms. fold ft_and ms operands) (sym (and_empty prefix)) ∙ and_further prefix (empty_match ∷ []) operands

pub or_prefix : (prefix : List Match) (operands : List (List Match)) → fold ft_or prefix operands ≡ ft_or prefix (fold ft_or [] operands)
or_prefix prefix operands = ap (λ ms. fold ft_or ms operands) (sym (append-nil prefix)) ∙ or_further prefix [] operands
