-- The least places of a selection, as its parts give them.
use Rattle.std.proofs.Common.{◌≡◌, ℕ, Bool, true, false, cond, List, [], ◌∷◌, ◌++◌, Option, Some, None, map, flat_map, option_map, refl, sym, ap, ◌∙◌, ◌+◌, ◌<◌, length, take, get_or, append-nil}
use Rattle.std.proofs.lemmas.List.{map-append, take_more}
use Rattle.std.proofs.lemmas.List.Concat.{flat_map-append}
use Rattle.std.specs.Option.{option_to_list}
use Rattle.ft_base.specs.declared.filter.Filter.{Filter}
use Rattle.counted_shapes.specs.Accepted.{is_counted}
use Rattle.selection_grammar.specs.Form.{form_of}
use Rattle.selection_grammar.specs.declared.parsed.ParsedWords.{ParsedWords}
use Rattle.selection_grammar.specs.declared.parsed.PlacedOption.{PlacedOption}
use Rattle.selection_grammar.specs.Tree.{Tree, words, or_of, and_of, mild_not, not_of, filtered, with_options, trees_of}
use Rattle.selection_faults.specs.Excludes.{within, within_all, nots, times, excludes, nested_nots, inside_filters, not_place, times_place, operand_nots, operand_excludes, filtered_excludes, uncounted_times}
use Rattle.selection_faults.specs.Least.{itself, least_place}
use Rattle.selection_faults.specs.LeastPlaces.{least_in, least_of, least_places, least_places_of, of_words, both, of_mild_not, of_not, of_filtered, of_with, sooner}
use Rattle.selection_faults.specs.Options.{own_second_option, second_option, options_twice}
use Rattle.selection_faults.specs.declared.least_places.LeastPlaces.{LeastPlaces}
use Rattle.selection_faults.proofs.LeastLemmas.{least_append, least_option}

-- places put together
place_append : (xs ys : List ℕ) → least_place (xs ++ ys) ≡ sooner (least_place xs) (least_place ys)
place_append xs ys = least_append itself xs ys

in_append : (places : Tree → List ℕ) (xs ys : List Tree) → least_in places (xs ++ ys) ≡ sooner (least_in places xs) (least_in places ys)
in_append places xs ys = ap least_place (flat_map-append places xs ys) ∙ place_append (flat_map places xs) (flat_map places ys)

beside : {a a′ b b′ : Option ℕ} → a ≡ a′ → b ≡ b′ → sooner a b ≡ sooner a′ b′
beside {a} {a′} {b} {b′} first second = ap (λ x. sooner x b) first ∙ ap (sooner a′) second

-- places of a selection itself, and then those of what stands inside it
before : (own inside : List ℕ) {a b : Option ℕ} → least_place own ≡ a → least_place inside ≡ b → least_place (own ++ inside) ≡ sooner a b
before own inside first rest = place_append own inside ∙ beside first rest

-- six equal fields
abbrev made : Option ℕ → Option ℕ → Option ℕ → Option ℕ → Option ℕ → Option ℕ → LeastPlaces
made nots times nested twice mild filters = record { nots = nots; times = times; nested_nots = nested; options_twice = twice; mild_not_excludes = mild; inside_filters = filters }

six : {n n′ t t′ e e′ o o′ m m′ f f′ : Option ℕ} → n ≡ n′ → t ≡ t′ → e ≡ e′ → o ≡ o′ → m ≡ m′ → f ≡ f′ → made n t e o m f ≡ made n′ t′ e′ o′ m′ f′
six {n} {n′} {t} {t′} {e} {e′} {o} {o′} {m} {m′} {f} {f′} a b c d g h =
    ap (λ x. made x t e o m f) a ∙ ap (λ x. made n′ x e o m f) b ∙ ap (λ x. made n′ t′ x o m f) c
    ∙ ap (λ x. made n′ t′ e′ x m f) d ∙ ap (λ x. made n′ t′ e′ o′ x f) g ∙ ap (made n′ t′ e′ o′ m′) h

pub of_append : (xs ys : List Tree) → least_of (xs ++ ys) ≡ both (least_of xs) (least_of ys)
of_append xs ys = six (in_append not_place xs ys) (in_append times_place xs ys) (in_append operand_nots xs ys) (in_append own_second_option xs ys) (in_append operand_excludes xs ys) (in_append filtered_excludes xs ys)

within_all-trees_of : (trees : List Tree) → within_all (trees_of trees) ≡ flat_map within trees
unfolding within
within_all-trees_of [] = refl
within_all-trees_of (tree ∷ rest) = ap (λ more. within tree ++ more) (within_all-trees_of rest)

alone : (place : Option ℕ) → least_place (option_to_list place ++ []) ≡ place
alone None = refl
alone (Some at) = refl

pub least_words : (w : ParsedWords) → of_words w ≡ least_places (words w)
unfolding within least_places
least_words w = sym (six refl (alone (option_map (λ t. t.at) w.times)) refl (alone (second_option w.options)) refl refl)

pub least_or : (trees : List Tree) → least_places_of trees ≡ least_places (or_of (trees_of trees))
unfolding within least_places least_places_of
least_or trees = ap least_of (sym (within_all-trees_of trees))

pub least_and : (trees : List Tree) → least_places_of trees ≡ least_places (and_of (trees_of trees))
unfolding within least_places least_places_of
least_and trees = ap least_of (sym (within_all-trees_of trees))

pub least_mild_not : (left right : Tree) → of_mild_not (least_places left) (least_places right) ≡ least_places (mild_not left right)
unfolding within least_places
least_mild_not left right = sym (six
    (in_append not_place (within left) (within right))
    (in_append times_place (within left) (within right))
    (in_append operand_nots (within left) (within right))
    (in_append own_second_option (within left) (within right))
    (before (excludes left ++ excludes right) (flat_map operand_excludes (within left ++ within right)) (place_append (excludes left) (excludes right) ∙ beside (place_append (nots left) (times left)) (place_append (nots right) (times right))) (in_append operand_excludes (within left) (within right)))
    (in_append filtered_excludes (within left) (within right)))

pub least_not : (at : ℕ) (operand : Tree) → of_not at (least_places operand) ≡ least_places (not_of at operand)
unfolding within least_places
least_not at operand = sym (six refl refl (place_append (nots operand) (nested_nots operand)) refl refl refl)

least_unless : (counted : Bool) (places : List ℕ) → least_place (cond counted [] places) ≡ cond counted None (least_place places)
least_unless true places = refl
least_unless false places = refl

pub least_filtered : (operand : Tree) (filter : Filter) → of_filtered (is_counted (form_of operand) filter) (least_places operand) ≡ least_places (filtered operand filter)
unfolding within least_places
least_filtered operand filter = sym (six refl refl refl refl refl (before (nested_nots operand ++ uncounted_times operand filter) (inside_filters operand)
    (place_append (nested_nots operand) (uncounted_times operand filter) ∙ beside refl (least_unless (is_counted (form_of operand) filter) (times operand))) refl))

pub least_with : (operand : Tree) (options : List PlacedOption) → of_with (least_places operand) options ≡ least_places (with_options operand options)
unfolding within least_places
least_with operand options = sym (six refl refl refl (before (option_to_list (second_option options)) (options_twice operand) (least_option itself (second_option options)) refl) refl refl)

least_more : (trees : List Tree) (tree : Tree) → both (least_places_of trees) (least_places tree) ≡ least_places_of (trees ++ tree ∷ [])
unfolding least_places least_places_of
least_more trees tree =
    sym (of_append (flat_map within trees) (within tree))
    ∙ ap least_of (sym (flat_map-append within trees (tree ∷ []) ∙ ap (λ more. flat_map within trees ++ more) (append-nil (within tree))))

-- one more of several
pub least_next : {X : Type 0} (made : X → Tree) (xs : List X) (i : ℕ) (x : X) → i < length xs → both (least_places_of (map made (take i xs))) (least_places (made (get_or xs i x))) ≡ least_places_of (map made (take (i + 1) xs))
least_next made xs i x h =
    least_more (map made (take i xs)) (made (get_or xs i x))
    ∙ ap least_places_of (sym (ap (map made) (take_more xs i x h) ∙ map-append made (take i xs) (get_or xs i x ∷ [])))
