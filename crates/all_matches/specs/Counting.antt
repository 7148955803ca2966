-- How often the words of a value occur in a text, as numbers of places.
use Rattle.std.specs.Prelude.{ℕ, ◌+◌, ◌*◌, ◌==◌, Bool, true, false, ◌&&◌, if◌then◌else◌, List, [], ◌∷◌, ◌++◌, map, fold, length, sum}
use Rattle.std.specs.List.{list_all, list_any}
use Rattle.ft_base.specs.Lists.{is_empty}
use Rattle.ft_base.specs.declared.token.Token.{Token}
use Rattle.ft_base.specs.declared.options.Options.{Options}
use Rattle.ft_base.specs.declared.words.Words.{Words}
use Rattle.ft_base.specs.declared.words.Mode.{Mode}
use Rattle.ft_base.specs.declared.words.Mode.TheVariants.{Any, AnyWord, All, AllWords, Phrase}
use Rattle.all_matches.specs.Variants.{Item, Lexicon}
use Rattle.all_matches.specs.Hits.{intervals_of}
use Rattle.all_matches.specs.Meaning.{phrases_by, strings_of}

-- whether the first tokens pass the items, each its own
abbrev pub begins_as : {X Y : Type 0} → (X → Y → Bool) → List X → List Y → Bool
begins_as passes [] tokens = true
begins_as passes (item ∷ items) [] = false
begins_as passes (item ∷ items) (token ∷ tokens) = passes item token && begins_as passes items tokens

-- at how many tokens one of some lists of items begins: `a` or `b` at three of `a x b a`
abbrev pub places : {X Y : Type 0} → (X → Y → Bool) → List (List X) → List Y → ℕ
places passes variants [] = 0
places passes variants (token ∷ tokens) =
    (if list_any (λ items. begins_as passes items (token ∷ tokens)) variants then 1 else 0) + places passes variants tokens

-- lists of items, those of one length together under it, with one more
abbrev pub put_variant : {X : Type 0} → List X → List (ℕ × List (List X)) → List (ℕ × List (List X))
put_variant variant [] = (length variant, variant ∷ []) ∷ []
put_variant variant (group ∷ groups) = if length variant == group.0 then (group.0, group.1 ++ variant ∷ []) ∷ groups else group ∷ put_variant variant groups

-- a list without items stands nowhere
abbrev pub with_variant : {X : Type 0} → List (ℕ × List (List X)) → List X → List (ℕ × List (List X))
with_variant groups [] = groups
with_variant groups (item ∷ items) = put_variant (item ∷ items) groups

abbrev pub by_length : {X : Type 0} → List (List X) → List (ℕ × List (List X))
by_length variants = fold with_variant [] variants

abbrev pub product : List ℕ → ℕ
product [] = 1
product (n ∷ rest) = n * product rest

-- of the numbers of hits of a value's phrases: one of them is chosen, or one of each
abbrev pub joined_count : Mode → List ℕ → ℕ
joined_count Any counts = sum counts
joined_count AnyWord counts = sum counts
joined_count All counts = product counts
joined_count AllWords counts = product counts
joined_count Phrase counts = sum counts

-- the number of the hits of a phrase
abbrev pub hit_count : Lexicon → Options → List Token → List Item → ℕ
hit_count lexicon options tokens phrase = length (intervals_of lexicon options phrase tokens)

-- how often a value occurs, from the numbers of hits of its phrases
abbrev pub value_count : Lexicon → Options → Words → List Token → ℕ
value_count lexicon options value tokens =
    if list_all is_empty (strings_of lexicon options value) then 0
    else joined_count value.mode (map (hit_count lexicon options tokens) (phrases_by value.mode (strings_of lexicon options value)))
