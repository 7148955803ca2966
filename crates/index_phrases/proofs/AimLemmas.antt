-- Variants whose cursors were aimed, and cursors that moved.
use Rattle.std.proofs.Common.{◌≡◌, refl, sym, ap, ◌∙◌, Bool, true, false, cond, List, [], ◌∷◌, map, filter, length, Some}
use Rattle.std.specs.Option.{option_map}
use Rattle.std.proofs.lemmas.List.{length-map}
use Rattle.ft_base.specs.Hits.{HitPlace}
use Rattle.place_merges.specs.Places.{Wanted}
use Rattle.place_merges.specs.Sources.{all_lists, lists_of, wanted, wanted_words}
use Rattle.place_merges.specs.declared.item.Item.{Item}
use Rattle.place_merges.specs.declared.item.Item.TheVariants as Merged
use Rattle.place_merges.specs.declared.item.Variant.{Variant}
use Rattle.index_phrases.specs.steps.Aiming.{counted_words, size_of, sizes_of}
use Rattle.index_phrases.specs.declared.word_terms.WordTerms.{WordTerms}

-- what is wanted of those that count
abbrev of_counted : List (Bool × List Wanted) → List (List Wanted)
of_counted all = map (λ (one : Bool × List Wanted). one.1) (filter (λ (one : Bool × List Wanted). one.0) all)

wanted_is : (variants : List (Variant HitPlace)) → wanted_words (λ cursor. cursor) variants ≡ of_counted (map counted_words variants)
wanted_is [] = refl
wanted_is (variant ∷ variants) =
    let rest = wanted_is variants in
    let words = λ (v : Variant HitPlace). map (wanted (λ (cursor : HitPlace). cursor)) v.items.items in
    let counting = filter (λ (v : Variant HitPlace). v.counts) variants in
    let counted = filter (λ (one : Bool × List Wanted). one.0) (map counted_words variants) in
    elim variant.counts as (λ b. map words (cond b (variant ∷ counting) counting)
    ≡ map (λ (one : Bool × List Wanted). one.1) (cond b (counted_words variant ∷ counted) counted)) [
      | true ↦ ap (λ ws. words variant ∷ ws) rest
      | false ↦ rest
    ]

-- where each variant counts, all are wanted
pub all_wanted : (want : WordTerms → Wanted) (variants : List (Variant HitPlace)) (terms : List (List WordTerms))
    → map counted_words variants ≡ map (λ (words : List WordTerms). (true, map want words)) terms → wanted_words (λ cursor. cursor) variants ≡ map (map want) terms
all_wanted want variants terms same = wanted_is variants ∙ ap of_counted same ∙ all terms
  where
    all : (terms : List (List WordTerms)) → of_counted (map (λ (words : List WordTerms). (true, map want words)) terms) ≡ map (map want) terms
    all [] = refl
    all (words ∷ rest) = ap (λ ws. map want words ∷ ws) (all rest)

-- cursors that moved in their lists are as many as before
item_size : (item : Item HitPlace) → size_of item ≡ option_map length (lists_of (λ cursor. cursor) item)
item_size Merged.Any = refl
item_size (Merged.Of cursors) = ap Some (sym (length-map cursors.items (λ (cursor : HitPlace). cursor.hits)))

items_size : (items : List (Item HitPlace)) → map size_of items ≡ map (option_map length) (map (lists_of (λ cursor. cursor)) items)
items_size [] = refl
items_size (item ∷ items) = λ i. item_size item i ∷ items_size items i

all_sizes : (variants : List (Variant HitPlace)) → map sizes_of variants ≡ map (map (option_map length)) (all_lists (λ cursor. cursor) variants)
all_sizes [] = refl
all_sizes (variant ∷ variants) = λ i. items_size variant.items.items i ∷ all_sizes variants i

pub sizes_kept : (before after : List (Variant HitPlace)) → all_lists (λ cursor. cursor) after ≡ all_lists (λ cursor. cursor) before → map sizes_of after ≡ map sizes_of before
sizes_kept before after same = all_sizes after ∙ ap (map (map (option_map length))) same ∙ sym (all_sizes before)
