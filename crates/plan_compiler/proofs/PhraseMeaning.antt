-- The compiled words of a selection say how often the words occur.
use Rattle.std.proofs.Common.{◌≡◌, refl, sym, ap, ◌∙◌, ℕ, ◌+◌, ◌*◌, Bool, true, false, not, ◌&&◌, ◌||◌, List, [], ◌∷◌, ◌++◌, map, sum, cond, length}
use Rattle.std.specs.Prelude.{flat_map, filter, if◌then◌else◌, bytes_eq}
use Rattle.std.specs.List.{list_all, list_any}
use Rattle.std.proofs.Math.Nat.{zero-mul}
use Rattle.std.proofs.lemmas.Bool.{cond-true, cond-false, and_parts}
use Rattle.std.proofs.lemmas.List.Sums.{sum_by-cons}
use Rattle.ft_base.specs.Lists.{is_not_empty, is_empty}
use Rattle.ft_base.specs.declared.options.Options.{Options}
use Rattle.ft_base.specs.declared.token.Token.{Token}
use Rattle.ft_base.specs.declared.words.Words.{Words}
use Rattle.ft_base.specs.declared.words.Mode.{Mode}
use Rattle.ft_base.specs.declared.words.Mode.TheVariants.{Any, AnyWord, All, AllWords, Phrase}
use Rattle.text_forms.specs.Forms.{key_of}
use Rattle.all_matches.specs.Variants.{Item, any_word, word, pattern, without_stop_word, reached_keys}
use Rattle.all_matches.specs.Hits.{passes_item, Interval, intervals}
use Rattle.all_matches.specs.Meaning.{singly, phrases_by}
use Rattle.all_matches.specs.Counting.{begins_as, places, product, by_length, joined_count, hit_count, value_count}
use Rattle.all_matches.proofs.ListTests.{list_any-map}
use Rattle.all_matches.proofs.VariantPlaces.{hits_by_places, places_alike}
use Rattle.match_options.specs.Items.{items_of}
use Rattle.match_options.specs.TokenTest.{is_on, case_of, has_case}
use Rattle.match_options.specs.WordForms.{forms_of}
use Rattle.match_options.specs.WordTests.{choice_of, is_by_key, item_passes, forms_as}
use Rattle.thesaurus_file.specs.Phrases.{in_order}
use Rattle.thesaurus_file.proofs.OrderLemmas.{any_in_order}
use Rattle.word_lists.specs.Stems.{stem_in}
use Rattle.plan_compiler.specs.CompiledWords.{IsCompiled}
use Rattle.plan_compiler.specs.ItemTests.{passes}
use Rattle.plan_compiler.specs.Lexicon.{lexicon}
use Rattle.plan_compiler.specs.NamedLists.{NamedLists}
use Rattle.plan_compiler.specs.ReadingMeaning.{Reads}
use Rattle.plan_compiler.specs.Served.{are_served}
use Rattle.plan_compiler.specs.Stops.{is_stop_key}
use Rattle.plan_compiler.specs.TextWords.{stem_as, word_as, words_of_tokens}
use Rattle.plan_compiler.specs.WordsMeaning.{phrase_count, joined, words_count, read_item, stem_test, bare_test, item_test, phrases_for, grouped_tests, tests_of, plan_tests, asks_all}
use Rattle.plan_compiler.specs.declared.item_matching.ItemTest.{ItemTest}
use Rattle.plan_compiler.specs.declared.looks.Looks.{Looks}
use Rattle.plan_compiler.specs.declared.phrase_plan.PhrasePlan.{PhrasePlan}
use Rattle.plan_compiler.specs.declared.reading.Reading.{Reading}
use Rattle.plan_compiler.specs.declared.text_word.TextWord.{TextWord}
use Rattle.plan_compiler.specs.declared.words_plan.WordsPlan.{WordsPlan}
use Rattle.plan_compiler.proofs.GroupLemmas.{map_group, by_length-map}
use Rattle.plan_compiler.proofs.ItemMeaning.{by_forms, case_by_forms, stops_mean}

-- ---- tests in the place of items

-- a test, asked
abbrev pub asked : (TextWord → Bool) → TextWord → Bool
asked test w = test w

pub begins_tests : (tests : List ItemTest) (words : List TextWord) → begins_as passes tests words ≡ begins_as asked (map passes tests) words
begins_tests [] words = refl
begins_tests (test ∷ tests) [] = refl
begins_tests (test ∷ tests) (w ∷ words) = ap (λ b. passes test w && b) (begins_tests tests words)

some_tests : (group : List (List ItemTest)) (words : List TextWord) → list_any (λ tests. begins_as passes tests words) group ≡ list_any (λ tests. begins_as asked tests words) (tests_of group)
some_tests [] words = refl
some_tests (tests ∷ group) words = λ i. begins_tests tests words i || some_tests group words i

places_tests : (group : List (List ItemTest)) (words : List TextWord) → places passes group words ≡ places asked (tests_of group) words
places_tests group [] = refl
places_tests group (w ∷ words) = λ i. cond (some_tests group (w ∷ words) i) 1 0 + places_tests group words i

groups_places : (groups : List (List (List ItemTest))) (words : List TextWord) → map (λ group. places passes group words) groups ≡ map (λ group. places asked group words) (map tests_of groups)
groups_places [] words = refl
groups_places (group ∷ groups) words = λ i. places_tests group words i ∷ groups_places groups words i

-- what tests count
abbrev tests_count : List (List (List (TextWord → Bool))) → List TextWord → ℕ
tests_count groups words = sum (map (λ group. places asked group words) groups)

plans_count : (plans : List PhrasePlan) (words : List TextWord) → map (λ plan. phrase_count plan words) plans ≡ map (λ groups. tests_count groups words) (map plan_tests plans)
plans_count [] words = refl
plans_count (plan ∷ plans) words = λ i. sum (groups_places plan.groups words i) ∷ plans_count plans words i

none_found : (intervals : List Interval) → length (filter (λ (interval : Interval). false) intervals) ≡ 0
none_found [] = refl
none_found (interval ∷ rest) = none_found rest

not_empty-map : {X Y : Type 0} (f : X → Y) (xs : List X) → is_not_empty (map f xs) ≡ is_not_empty xs
not_empty-map f [] = refl
not_empty-map f (x ∷ xs) = refl

-- ---- counts joined

pub flat_empty : (strings : List (List Item)) → list_all is_empty strings ≡ true → flat_map (λ items. items) strings ≡ []
flat_empty [] h = refl
flat_empty ([] ∷ strings) h = flat_empty strings h
flat_empty ((item ∷ items) ∷ strings) h = cc

pub flat_some : (strings : List (List Item)) → list_all is_empty strings ≡ false → (item : Item) × (items : List Item) × (flat_map (λ items. items) strings ≡ item ∷ items)
flat_some [] h = cc
flat_some ([] ∷ strings) h = flat_some strings h
flat_some ((item ∷ items) ∷ strings) h = (item, items ++ flat_map (λ more. more) strings, refl)

module _ (h : List Item → ℕ) (none : h [] ≡ 0) where
  sum_empty : (strings : List (List Item)) → list_all is_empty strings ≡ true → sum (map h strings) ≡ 0
  sum_empty [] e = refl
  sum_empty ([] ∷ strings) e = sum_by-cons (λ n. n) (h []) (map h strings) ∙ (λ i. none i + sum_empty strings e i)
  sum_empty ((item ∷ items) ∷ strings) e = cc

  -- the joined counts, where some string has a word and where none has one
  joined_none : (mode : Mode) (strings : List (List Item)) → list_all is_empty strings ≡ true → joined (asks_all mode && is_not_empty (phrases_by mode strings)) (map h (phrases_by mode strings)) ≡ 0
  joined_none Any strings e = sum_empty strings e
  joined_none AnyWord strings e = ap (λ items. sum (map h (singly items))) (flat_empty strings e)
  joined_none All [] e = refl
  joined_none All ([] ∷ strings) e = ap (λ n. n * product (map h strings)) none ∙ zero-mul (product (map h strings))
  joined_none All ((item ∷ items) ∷ strings) e = cc
  joined_none AllWords strings e = ap (λ items. joined (is_not_empty (singly items)) (map h (singly items))) (flat_empty strings e)
  joined_none Phrase strings e = ap (λ items. sum (h items ∷ [])) (flat_empty strings e) ∙ ap (λ n. sum (n ∷ [])) none

  joined_some : (mode : Mode) (strings : List (List Item)) → list_all is_empty strings ≡ false → joined (asks_all mode && is_not_empty (phrases_by mode strings)) (map h (phrases_by mode strings)) ≡ joined_count mode (map h (phrases_by mode strings))
  joined_some Any strings e = refl
  joined_some AnyWord strings e = refl
  joined_some All [] e = cc
  joined_some All (string ∷ strings) e = refl
  joined_some AllWords strings e =
      let some = flat_some strings e in
      ap (λ items. joined (is_not_empty (singly items)) (map h (singly items))) some.2 ∙ ap (λ items. product (map h (singly items))) (sym some.2)
  joined_some Phrase strings e = refl

  joined_alike : (mode : Mode) (strings : List (List Item)) → joined (asks_all mode && is_not_empty (phrases_by mode strings)) (map h (phrases_by mode strings)) ≡ cond (list_all is_empty strings) 0 (joined_count mode (map h (phrases_by mode strings)))
  joined_alike mode strings = by_test (list_all is_empty strings) refl
    where
      by_test : (b : Bool) → list_all is_empty strings ≡ b → joined (asks_all mode && is_not_empty (phrases_by mode strings)) (map h (phrases_by mode strings)) ≡ cond (list_all is_empty strings) 0 (joined_count mode (map h (phrases_by mode strings)))
      by_test true e = joined_none mode strings e ∙ sym (cond-true _ _ _ e)
      by_test false e = joined_some mode strings e ∙ sym (cond-false _ _ _ e)

-- ---- phrases as they are read

module _ (lists : NamedLists) (options : Options) where
  -- a stop word stands for any word
  pub same_item : (reading : Reading) → Reads reading lists options → (item : Item) → read_item reading item ≡ without_stop_word (lexicon lists) options item
  same_item reading reads any_word = refl
  same_item reading reads (word w) = ap (λ b. if b then any_word else word w) (ap (λ stops. is_stop_key stops (key_of w)) reads.stops ∙ stops_mean lists options.stop_words (key_of w))
  same_item reading reads (pattern p) = refl

  -- each phrase that thesauri reach is read once
  pub read_phrases : (reading : Reading) → Reads reading lists options → (first : Item) (rest : List Item)
      → phrases_for reading (first ∷ rest) ≡ (first ∷ rest) ∷ map (map word) (in_order (reached_keys (lexicon lists) options.thesaurus (first ∷ rest)))
  read_phrases reading reads first rest =
      λ i. (first ∷ rest) ∷ map (map word) (in_order (reached_keys (lexicon (reads.named i)) (reads.thesaurus i) (first ∷ rest)))

  -- a phrase that is reached more than once stands no oftener
  pub once_alike : (phrase : List Item) (keys : List (List (List ℕ))) (test : List Item → Bool)
      → list_any test (map (map (without_stop_word (lexicon lists) options)) (phrase ∷ map (map word) (in_order keys))) ≡ list_any test (map (map (without_stop_word (lexicon lists) options)) (phrase ∷ map (map word) keys))
  once_alike phrase keys test =
      ap (λ some. test (map (without_stop_word (lexicon lists) options) phrase) || some)
      (some_reached (in_order keys) ∙ any_in_order (λ reached. test (map (without_stop_word (lexicon lists) options) (map word reached))) keys ∙ sym (some_reached keys))
    where
      some_reached : (all : List (List (List ℕ))) → list_any test (map (map (without_stop_word (lexicon lists) options)) (map (map word) all)) ≡ list_any (λ reached. test (map (without_stop_word (lexicon lists) options) (map word reached))) all
      some_reached all =
          list_any-map test (map (without_stop_word (lexicon lists) options)) (map (map word) all)
          ∙ list_any-map (λ items. test (map (without_stop_word (lexicon lists) options) items)) (map word) all

-- ---- the words of a text, and how often the words of a query occur among them

module _ (looks : Looks) (lists : NamedLists) (options : Options) (reading : Reading) (reads : Reads reading lists options) (served : are_served looks options ≡ true) where
  abbrev parts : ((looks.all_forms || is_by_key (choice_of options)) ≡ true) × ((looks.stems || not (is_on options.stemming)) ≡ true)
  parts = and_parts (looks.all_forms || is_by_key (choice_of options)) (looks.stems || not (is_on options.stemming)) served

  abbrev bare : Item → Item
  bare = without_stop_word (lexicon lists) options

  -- a word by its stem
  stem_passes : (stems asked : Bool) (query w : List ℕ) → (stems || not asked) ≡ true → asked ≡ true → (stem : List ℕ) → stem ≡ stem_in lists.stems (key_of query)
      → (bytes_eq stem (stem_as stems lists.stems (key_of w)) && has_case (case_of options.case) (forms_as looks.all_forms w)) ≡ (bytes_eq (stem_in lists.stems (key_of query)) (stem_in lists.stems (key_of w)) && has_case (case_of options.case) (forms_of w))
  stem_passes true asked query w h on stem is = λ i. bytes_eq (is i) (stem_in lists.stems (key_of w)) && case_by_forms looks.all_forms (choice_of options) w parts.0 i
  stem_passes false true query w h on stem is = cc
  stem_passes false false query w h on stem is = cc

  word_passes_by : (stemming : Bool) → is_on options.stemming ≡ stemming → (query : List ℕ) (token : Token)
      → (if stemming then stem_test lists.stems (case_of options.case) query (word_as looks lists.stems token.word) else item_passes (choice_of options) (word query) (forms_as looks.all_forms token.word))
      ≡ (if stemming then (bytes_eq (stem_in lists.stems (key_of query)) (stem_in lists.stems (key_of token.word)) && has_case (case_of options.case) (forms_of token.word)) else item_passes (choice_of options) (word query) (forms_of token.word))
  word_passes_by true on query token = stem_passes looks.stems (is_on options.stemming) query token.word parts.1 on (stem_in lists.stems (key_of query)) refl
  word_passes_by false on query token = by_forms looks.all_forms (choice_of options) (word query) token.word parts.0

  bare_passes : (item : Item) (token : Token) → bare_test reading item (word_as looks lists.stems token.word) ≡ passes_item (lexicon lists) options item token
  unfolding bare_test
  bare_passes any_word token = refl
  bare_passes (word query) token =
      (λ i. if reads.stemming i then stem_test (reads.named i).stems (reads.choice i).case query (word_as looks lists.stems token.word) else item_passes (reads.choice i) (word query) (forms_as looks.all_forms token.word))
      ∙ word_passes_by (is_on options.stemming) refl query token
  bare_passes (pattern p) token =
      ap (λ choice. item_passes choice (pattern p) (forms_as looks.all_forms token.word)) reads.choice
      ∙ by_forms looks.all_forms (choice_of options) (pattern p) token.word parts.0

  pub word_passes : (item : Item) (token : Token) → item_test reading item (word_as looks lists.stems token.word) ≡ passes_item (lexicon lists) options (bare item) token
  word_passes item token = ap (λ x. bare_test reading x (word_as looks lists.stems token.word)) (same_item lists options reading reads item) ∙ bare_passes (bare item) token

  abbrev text : List Token → List TextWord
  text tokens = words_of_tokens looks lists.stems tokens

  pub phrase_begins : (phrase : List Item) (tokens : List Token) → begins_as asked (map (item_test reading) phrase) (text tokens) ≡ begins_as (passes_item (lexicon lists) options) (map bare phrase) tokens
  phrase_begins [] tokens = refl
  phrase_begins (item ∷ phrase) [] = refl
  phrase_begins (item ∷ phrase) (token ∷ tokens) = λ i. word_passes item token i && phrase_begins phrase tokens i

  some_begins : (group : List (List Item)) (tokens : List Token)
      → list_any (λ tests. begins_as asked tests (text tokens)) (map (map (item_test reading)) group) ≡ list_any (λ items. begins_as (passes_item (lexicon lists) options) items tokens) (map (map bare) group)
  some_begins [] tokens = refl
  some_begins (phrase ∷ group) tokens = λ i. phrase_begins phrase tokens i || some_begins group tokens i

  group_stands : (group : List (List Item)) (tokens : List Token) → places asked (map (map (item_test reading)) group) (text tokens) ≡ places (passes_item (lexicon lists) options) (map (map bare) group) tokens
  group_stands group [] = refl
  group_stands group (token ∷ tokens) = λ i. cond (some_begins group (token ∷ tokens) i) 1 0 + group_stands group tokens i

  groups_stand : (groups : List (ℕ × List (List Item))) (tokens : List Token)
      → map (λ tests. places asked tests (text tokens)) (map (λ group. group.1) (map (map_group (item_test reading)) groups))
      ≡ map (λ group. places (passes_item (lexicon lists) options) group.1 tokens) (map (map_group bare) groups)
  groups_stand [] tokens = refl
  groups_stand (group ∷ groups) tokens = λ i. group_stands group.1 tokens i ∷ groups_stand groups tokens i

  no_hit : (tokens : List Token) → hit_count (lexicon lists) options tokens [] ≡ 0
  no_hit tokens = none_found (intervals (length tokens))

  phrase_hits : (phrase : List Item) (tokens : List Token) → tests_count (grouped_tests reading phrase) (text tokens) ≡ hit_count (lexicon lists) options tokens phrase
  phrase_hits [] tokens = sym (no_hit tokens)
  phrase_hits (item ∷ phrase) tokens =
      let keys = reached_keys (lexicon lists) options.thesaurus (item ∷ phrase) in
      let once = (item ∷ phrase) ∷ map (map word) (in_order keys) in
      let all = (item ∷ phrase) ∷ map (map word) keys in
      let same : phrases_for reading (item ∷ phrase) ≡ once = read_phrases lists options reading reads item phrase in
      ap (λ ps. tests_count (map (λ group. group.1) (by_length (map (map (item_test reading)) ps))) (text tokens)) same
      ∙ ap (λ groups. tests_count (map (λ group. group.1) groups) (text tokens)) (by_length-map (item_test reading) once)
      ∙ ap sum (groups_stand (by_length once) tokens)
      ∙ ap (λ groups. sum (map (λ group. places (passes_item (lexicon lists) options) group.1 tokens) groups)) (sym (by_length-map bare once))
      ∙ places_alike (lexicon lists) options (map (map bare) once) (map (map bare) all) (once_alike lists options (item ∷ phrase) keys) tokens
      ∙ sym (hits_by_places (lexicon lists) options (item ∷ phrase) tokens)

  phrases_hits : (phrases : List (List Item)) (tokens : List Token)
      → map (λ groups. tests_count groups (text tokens)) (map (grouped_tests reading) phrases) ≡ map (hit_count (lexicon lists) options tokens) phrases
  phrases_hits [] tokens = refl
  phrases_hits (phrase ∷ rest) tokens = λ i. phrase_hits phrase tokens i ∷ phrases_hits rest tokens i

pub compiled_count : (looks : Looks) (lists : NamedLists) (options : Options) (plan : WordsPlan) (value : Words) (tokens : List Token) → IsCompiled plan lists options value → are_served looks options ≡ true
    → words_count plan (words_of_tokens looks lists.stems tokens) ≡ value_count (lexicon lists) options value tokens
compiled_count looks lists options plan value tokens compiled served =
    let reading = compiled.reading in
    let words = words_of_tokens looks lists.stems tokens in
    let strings : Bool → List (List Item) = λ wildcards. map (items_of wildcards) value.values in
    let some = sym (not_empty-map plan_tests plan.phrases) ∙ ap is_not_empty compiled.phrases ∙ not_empty-map (grouped_tests reading) (phrases_by value.mode (strings reading.wildcards)) in
    (λ i. joined ((compiled.all ∙ ap (λ b. asks_all value.mode && b) some) i) ((plans_count plan.phrases words ∙ ap (map (λ groups. tests_count groups words)) compiled.phrases) i))
    ∙ (λ i. joined (asks_all value.mode && is_not_empty (phrases_by value.mode (strings reading.wildcards))) (phrases_hits looks lists options reading compiled.reads served (phrases_by value.mode (strings reading.wildcards)) tokens i))
    ∙ joined_alike (hit_count (lexicon lists) options tokens) (no_hit looks lists options reading compiled.reads served tokens) value.mode (strings reading.wildcards)
    ∙ ap (λ wildcards. cond (list_all is_empty (strings wildcards)) 0 (joined_count value.mode (map (hit_count (lexicon lists) options tokens) (phrases_by value.mode (strings wildcards))))) compiled.reads.wildcards
