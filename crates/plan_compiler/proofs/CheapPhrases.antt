-- A phrase each variant of which is one item, and not any word, is compiled to a single word.
use Rattle.std.proofs.Common.{◌≡◌, refl, sym, ap, ◌∙◌, Bool, true, false, true≢false, not, ◌&&◌, ◌||◌, List, [], ◌∷◌, map, length, get_or, drop, arith}
use Rattle.std.specs.List.{list_all, list_any}
use Rattle.std.proofs.lemmas.Bool.{and_from, and_parts}
use Rattle.ft_base.specs.declared.options.Options.{Options}
use Rattle.all_matches.specs.Variants.{Item, Lexicon, reached_keys, variants, without_stop_word, word}
use Rattle.thesaurus_file.specs.Phrases.{in_order}
use Rattle.plan_compiler.specs.CheapPlans.{is_single}
use Rattle.plan_compiler.specs.CheapSelections.{is_any, is_one_item, is_one_word}
use Rattle.plan_compiler.specs.ItemTests.{asks_nothing}
use Rattle.plan_compiler.specs.Lexicon.{lexicon}
use Rattle.plan_compiler.specs.NamedLists.{NamedLists}
use Rattle.plan_compiler.specs.ReadingMeaning.{Reads}
use Rattle.plan_compiler.specs.WordsMeaning.{phrases_for, reads_any}
use Rattle.plan_compiler.specs.declared.item_matching.ItemTest.{ItemTest}
use Rattle.plan_compiler.specs.declared.reading.Reading.{Reading}
use Rattle.plan_compiler.proofs.PhraseMeaning.{once_alike, read_phrases, same_item}

-- all pass a test where none fails it
all_pass : {X : Type 0} (test : X → Bool) (xs : List X) → list_all test xs ≡ not (list_any (λ x. not (test x)) xs)
all_pass test [] = refl
all_pass test (x ∷ xs) =
    elim (test x) as (λ b. (b && list_all test xs) ≡ not (not b || list_any (λ y. not (test y)) xs)) [
      | true ↦ all_pass test xs
      | false ↦ refl
    ]

-- what one phrase is
pub one_word_parts : (lexicon : Lexicon) (options : Options) (phrases : List (List Item)) → is_one_word lexicon options phrases ≡ true
    → (length phrases ≡ 1) × (list_all (λ items. list_all is_one_item (variants lexicon options items)) phrases ≡ true)
one_word_parts lexicon options [] h = absurd (true≢false (sym h))
one_word_parts lexicon options (phrase ∷ []) h = (refl, ap (λ b. b && true) h)
one_word_parts lexicon options (phrase ∷ other ∷ rest) h = absurd (true≢false (sym h))

module _ (lists : NamedLists) (options : Options) (reading : Reading) (reads : Reads reading lists options) where
  abbrev bare : Item → Item
  bare = without_stop_word (lexicon lists) options

  single_tests : (tests : List ItemTest) (items : List Item) → map asks_nothing tests ≡ map (reads_any reading) items → is_one_item (map bare items) ≡ true → is_single tests ≡ true
  single_tests tests [] is h = absurd (true≢false (sym h))
  single_tests [] (item ∷ []) is h = let many = ap length is in absurd (omega (arith, many))
  single_tests (test ∷ []) (item ∷ []) is h =
      let asks : asks_nothing test ≡ is_any (bare item) = ap (λ bs. get_or bs 0 false) is ∙ ap is_any (same_item lists options reading reads item) in
      λ i. (ap not asks ∙ h) i && true
  single_tests (test ∷ other ∷ tests) (item ∷ []) is h = let many = ap length is in absurd (omega (arith, many))
  single_tests tests (item ∷ other ∷ items) is h = absurd (true≢false (sym h))

  single_variants : (variants : List (List ItemTest)) (phrases : List (List Item)) → map (map asks_nothing) variants ≡ map (map (reads_any reading)) phrases
      → list_all is_one_item (map (map bare) phrases) ≡ true → list_all is_single variants ≡ true
  single_variants [] phrases is h = refl
  single_variants (tests ∷ variants) [] is h = let many = ap length is in absurd (omega (arith, many))
  single_variants (tests ∷ variants) (items ∷ phrases) is h =
      let parts = and_parts (is_one_item (map bare items)) (list_all is_one_item (map (map bare) phrases)) h in
      and_from (is_single tests) (list_all is_single variants) (single_tests tests items (ap (λ bs. get_or bs 0 []) is) parts.0)
      (single_variants variants phrases (ap (drop 1) is) parts.1)

  pub phrase_single : (tests : List (List ItemTest)) (items : List Item) → map (map asks_nothing) tests ≡ map (map (reads_any reading)) (phrases_for reading items)
      → list_all is_one_item (variants (lexicon lists) options items) ≡ true → list_all is_single tests ≡ true
  phrase_single tests [] is h = single_variants tests [] is refl
  phrase_single tests (item ∷ items) is h =
      let keys = reached_keys (lexicon lists) options.thesaurus (item ∷ items) in
      let once = (item ∷ items) ∷ map (map word) (in_order keys) in
      let all = (item ∷ items) ∷ map (map word) keys in
      single_variants tests once (is ∙ ap (map (map (reads_any reading))) (read_phrases lists options reading reads item items))
      (all_pass is_one_item (map (map bare) once)
      ∙ ap not (once_alike lists options (item ∷ items) keys (λ own. not (is_one_item own)))
      ∙ sym (all_pass is_one_item (map (map bare) all))
      ∙ h)
