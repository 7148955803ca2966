-- The hits of a compiled phrase are those of the phrase as it is read, and its tests have together at most its price.
use Rattle.std.proofs.Common.{◌≡◌, refl, sym, ap, subst, ◌∙◌, ℕ, ◌+◌, ◌==◌, Bool, true, false, not, cond, ◌&&◌, ◌||◌, Some, None, List, [], ◌∷◌, ◌++◌, map, length, arith}
use Rattle.std.proofs.Math.Dec.{eqb-suc-suc, eqb-suc-zero, eqb-zero-suc}
use Rattle.std.proofs.lemmas.Bool.{and_parts}
use Rattle.std.proofs.lemmas.List.{length-map, map-append}
use Rattle.std.proofs.lemmas.List.Folds.{list_all-append}
use Rattle.std.proofs.lemmas.List.Sums.{sum_by_push}
use Rattle.std.specs.Prelude.{flat_map, filter, if◌then◌else◌, is_some}
use Rattle.std.specs.List.{list_all, list_any, sum_by}
use Rattle.ft_base.specs.Lists.{is_empty}
use Rattle.ft_base.specs.declared.options.Options.{Options}
use Rattle.ft_base.specs.declared.token.Token.{Token}
use Rattle.ft_base.specs.declared.words.Words.{Words}
use Rattle.ft_base.specs.declared.words.Mode.{Mode}
use Rattle.ft_base.specs.declared.words.Mode.TheVariants.{Any, AnyWord, All, AllWords, Phrase}
use Rattle.ft_base.proofs.Truth.{and_swap}
use Rattle.all_matches.specs.Counting.{begins_as}
use Rattle.all_matches.specs.Hits.{Interval, hit_on, hits, intervals, passes_item, stands_as, tokens_in}
use Rattle.all_matches.specs.Meaning.{phrases_by, singly, strings_of}
use Rattle.all_matches.specs.Operators.{operator_by, phrase_operators}
use Rattle.all_matches.specs.Variants.{Item, Lexicon, variants, without_stop_word, word, reached_keys}
use Rattle.all_matches.specs.Ways.{Operator, phrase}
use Rattle.match_options.specs.Items.{item, items_of}
use Rattle.match_options.specs.declared.item.QueryItem.{QueryItem}
use Rattle.thesaurus_file.specs.Phrases.{in_order}
use Rattle.plan_compiler.specs.CheapPlans.{word_number}
use Rattle.plan_compiler.specs.CheapSelections.{is_one_item, is_single_value}
use Rattle.plan_compiler.specs.CompiledOperators.{PhraseCompilesTo, PhrasesCompileTo, ValueCompilesTo}
use Rattle.plan_compiler.specs.CompiledSelection.{compiled_price}
use Rattle.plan_compiler.specs.ItemTests.{asks_nothing, passes}
use Rattle.plan_compiler.specs.Lexicon.{lexicon}
use Rattle.plan_compiler.specs.NamedLists.{NamedLists}
use Rattle.plan_compiler.specs.NodeCosts.{operator_cost}
use Rattle.plan_compiler.specs.Operators.{LookedText, hits_by_tests, joined_of, looked_text, operator_at, stand_on}
use Rattle.plan_compiler.specs.Price.{phrase_price}
use Rattle.plan_compiler.specs.ReadingMeaning.{Reads}
use Rattle.plan_compiler.specs.Served.{are_served}
use Rattle.plan_compiler.specs.TextWords.{word_as, words_of_tokens}
use Rattle.plan_compiler.specs.WordsMeaning.{item_test, phrases_for, reads_any}
use Rattle.plan_compiler.specs.declared.item_matching.ItemTest.{ItemTest}
use Rattle.plan_compiler.specs.declared.joining.Join.{Join}
use Rattle.plan_compiler.specs.declared.looks.Looks.{Looks}
use Rattle.plan_compiler.specs.declared.operator_plan.OperatorPlan.{OperatorPlan}
use Rattle.plan_compiler.specs.declared.operator_plan.OperatorPlan as O
use Rattle.plan_compiler.specs.declared.reading.Reading.{Reading}
use Rattle.plan_compiler.specs.steps.Joins.{AreWordsFrom}
use Rattle.plan_compiler.specs.declared.text_word.TextWord.{TextWord}
use Rattle.plan_compiler.proofs.OperatorViews.{at_Phrase, cost_Phrase}
use Rattle.plan_compiler.proofs.CheapPhrases.{one_word_parts, phrase_single}
use Rattle.plan_compiler.proofs.PhraseMeaning.{asked, begins_tests, flat_empty, flat_some, once_alike, phrase_begins, read_phrases}
use Rattle.plan_compiler.proofs.PriceMeaning.{variants_cost}
use Rattle.plan_compiler.proofs.WordRows.{Alone, length_after, row_alone, row_push}

-- ---- tests in the place of items, one for each word

-- items stand on tokens where these are as many and begin with them
as_many_begin : (lexicon : Lexicon) (options : Options) (items : List Item) (tokens : List Token)
    → ((length items == length tokens) && begins_as (passes_item lexicon options) items tokens) ≡ stands_as lexicon options items tokens
as_many_begin lexicon options [] [] = refl
as_many_begin lexicon options [] (token ∷ tokens) = ap (λ b. b && true) (eqb-zero-suc (length tokens))
as_many_begin lexicon options (item ∷ items) [] = ap (λ b. b && false) (eqb-suc-zero (length items))
as_many_begin lexicon options (item ∷ items) (token ∷ tokens) =
    ap (λ b. b && (passes_item lexicon options item token && begins_as (passes_item lexicon options) items tokens)) (eqb-suc-suc (length items) (length tokens))
    ∙ and_swap (length items == length tokens) (passes_item lexicon options item token) (begins_as (passes_item lexicon options) items tokens)
    ∙ ap (λ b. passes_item lexicon options item token && b) (as_many_begin lexicon options items tokens)

abbrev stand : List (TextWord → Bool) → List TextWord → Bool
stand tests words = (length tests == length words) && begins_as asked tests words

some_asked : (variants : List (List ItemTest)) (words : List TextWord)
    → list_any (λ tests. stand_on tests words) variants ≡ list_any (λ tests. stand tests words) (map (map passes) variants)
some_asked [] words = refl
some_asked (tests ∷ variants) words = λ i. ((sym (length-map tests passes) i == length words) && begins_tests tests words i) || some_asked variants words i

module _ (looks : Looks) (lists : NamedLists) (options : Options) (reading : Reading) (reads : Reads reading lists options) (served : are_served looks options ≡ true) where
  abbrev bare : Item → Item
  bare = without_stop_word (lexicon lists) options

  abbrev words_at : List Token → List TextWord
  words_at tokens = words_of_tokens looks lists.stems tokens

  items_stand : (items : List Item) (tokens : List Token) → stand (map (item_test reading) items) (words_at tokens) ≡ stands_as (lexicon lists) options (map bare items) tokens
  items_stand items tokens =
      let tests_many : length (map (item_test reading) items) ≡ length (map bare items) = length-map items (item_test reading) ∙ sym (length-map items bare) in
      let words_many : length (words_at tokens) ≡ length tokens = length-map tokens (λ (token : Token). word_as looks lists.stems token.word) in
      (λ i. (tests_many i == words_many i) && phrase_begins looks lists options reading reads served items tokens i)
      ∙ as_many_begin (lexicon lists) options (map bare items) tokens

  some_stands : (phrases : List (List Item)) (tokens : List Token)
      → list_any (λ tests. stand tests (words_at tokens)) (map (map (item_test reading)) phrases) ≡ list_any (λ items. stands_as (lexicon lists) options items tokens) (map (map bare) phrases)
  some_stands [] tokens = refl
  some_stands (items ∷ phrases) tokens = λ i. items_stand items tokens i || some_stands phrases tokens i

  phrases_stand : (items : List Item) (tokens : List Token)
      → list_any (λ tests. stand tests (words_at tokens)) (map (map (item_test reading)) (phrases_for reading items))
      ≡ list_any (λ variant. stands_as (lexicon lists) options variant tokens) (variants (lexicon lists) options items)
  phrases_stand [] tokens = refl
  phrases_stand (item ∷ items) tokens =
      some_stands (phrases_for reading (item ∷ items)) tokens
      ∙ ap (λ ps. list_any (λ v. stands_as (lexicon lists) options v tokens) (map (map bare) ps)) (read_phrases lists options reading reads item items)
      ∙ once_alike lists options (item ∷ items) (reached_keys (lexicon lists) options.thesaurus (item ∷ items)) (λ v. stands_as (lexicon lists) options v tokens)

  pub phrase_same : (tests : List (List ItemTest)) (items : List Item) → map (map passes) tests ≡ map (map (item_test reading)) (phrases_for reading items)
      → (number : ℕ) (tokens : List Token) → hits_by_tests (looked_text looks lists.stems tokens) number tests ≡ hits (lexicon lists) options number items tokens
  phrase_same tests items is number tokens =
      λ i. map (hit_on tokens number) (filter (λ interval. same interval i) (intervals (length tokens)))
    where
      same : (interval : Interval) → list_any (λ test. stand_on test (words_at (tokens_in tokens interval))) tests
          ≡ list_any (λ variant. stands_as (lexicon lists) options variant (tokens_in tokens interval)) (variants (lexicon lists) options items)
      same interval =
          some_asked tests (words_at (tokens_in tokens interval))
          ∙ ap (λ ts. list_any (λ test. stand test (words_at (tokens_in tokens interval))) ts) is
          ∙ phrases_stand items (tokens_in tokens interval)

-- ---- phrases, one more

phrases_more : (lists : NamedLists) (options : Options) (tokens : List Token) (first : ℕ) (phrases : List (List Item)) (items : List Item)
    → phrase_operators (lexicon lists) options tokens first (phrases ++ items ∷ [])
    ≡ phrase_operators (lexicon lists) options tokens first phrases ++ phrase (hits (lexicon lists) options (first + length phrases) items tokens) ∷ []
phrases_more lists options tokens first [] items = let at : first ≡ first + 0 = omega arith in ap (λ n. phrase (hits (lexicon lists) options n items tokens) ∷ []) at
phrases_more lists options tokens first (one ∷ phrases) items =
    let at : (first + 1) + length phrases ≡ first + length (one ∷ phrases) = omega arith in
    ap (λ ops. phrase (hits (lexicon lists) options first one tokens) ∷ ops)
    (phrases_more lists options tokens (first + 1) phrases items
    ∙ ap (λ n. phrase_operators (lexicon lists) options tokens (first + 1) phrases ++ phrase (hits (lexicon lists) options n items tokens) ∷ []) at)

pub phrases_compiled_more : (reading : Reading) (first middle next : ℕ) (before after : List OperatorPlan) (plan : OperatorPlan) (phrases : List (List Item)) (items : List Item) → after ≡ before ++ plan ∷ []
    → PhrasesCompileTo reading first middle before phrases → PhraseCompilesTo reading middle next plan items → PhrasesCompileTo reading first next after (phrases ++ items ∷ [])
phrases_compiled_more reading first middle next before after plan phrases items pushed all one = record {
  same = λ lists options reads looks tokens served.
      let f : OperatorPlan → Operator = operator_at (looked_text looks lists.stems tokens) in
      ap (map f) pushed
      ∙ map-append f before (plan ∷ [])
      ∙ (λ i. all.same lists options reads looks tokens served i ++ (one.same lists options reads looks tokens served ∙ ap (λ n. phrase (hits (lexicon lists) options n items tokens)) all.numbered) i ∷ [])
      ∙ sym (phrases_more lists options tokens first phrases items);
  numbered =
      let past = length_after phrases items in
      let more = one.numbered in
      let many = all.numbered in
      omega (arith, past, more, many);
  price = λ lists options reads looks terms text served.
      let cost : OperatorPlan → ℕ = operator_cost (compiled_price looks lists.stems terms text) in
      let made = ap (sum_by cost) pushed ∙ sum_by_push cost before plan in
      let whole = sum_by_push (phrase_price (lexicon lists) options terms text) phrases items in
      omega (arith, made, whole, all.price lists options reads looks terms text served, one.price lists options reads looks terms text served);
  words = λ lists options reads h.
      let each : List Item → Bool = λ own. list_all is_one_item (variants (lexicon lists) options own) in
      let parts = and_parts (list_all each phrases) (list_all each (items ∷ [])) (sym (list_all-append each phrases (items ∷ [])) ∙ h) in
      subst (AreWordsFrom first next) (sym pushed)
      (row_push first middle next before plan (all.words lists options reads parts.0) (one.word lists options reads (and_parts (each items) true parts.1).0) one.numbered);
}

-- ---- values

no_item : (strings : List (List Item)) → list_all is_empty (singly (flat_map (λ string. string) strings)) ≡ list_all is_empty strings
no_item strings = by_test (list_all is_empty strings) refl
  where
    by_test : (b : Bool) → list_all is_empty strings ≡ b → list_all is_empty (singly (flat_map (λ string. string) strings)) ≡ list_all is_empty strings
    by_test true e = ap (λ items. list_all is_empty (singly items)) (flat_empty strings e) ∙ sym e
    by_test false e = ap (λ items. list_all is_empty (singly items)) (flat_some strings e).2 ∙ sym e

no_phrase : (strings : List (List Item)) → list_all is_empty (flat_map (λ string. string) strings ∷ []) ≡ list_all is_empty strings
no_phrase strings = by_test (list_all is_empty strings) refl
  where
    by_test : (b : Bool) → list_all is_empty strings ≡ b → list_all is_empty (flat_map (λ string. string) strings ∷ []) ≡ list_all is_empty strings
    by_test true e = ap (λ (items : List Item). list_all is_empty (items ∷ [])) (flat_empty strings e) ∙ sym e
    by_test false e = ap (λ (items : List Item). list_all is_empty (items ∷ [])) (flat_some strings e).2 ∙ sym e

-- a value has no word where none of its phrases has one
pub none_empty : (mode : Mode) (strings : List (List Item)) → list_all is_empty (phrases_by mode strings) ≡ list_all is_empty strings
none_empty Any strings = refl
none_empty AnyWord strings = no_item strings
none_empty All strings = refl
none_empty AllWords strings = no_item strings
none_empty Phrase strings = no_phrase strings

module _ (lists : NamedLists) (options : Options) (reading : Reading) (reads : Reads reading lists options) (value : Words) where
  abbrev pub read_strings : List (List Item)
  read_strings = map (items_of reading.wildcards) value.values

  pub strings_same : read_strings ≡ strings_of (lexicon lists) options value
  strings_same = ap (λ (wildcards : Bool). map (items_of wildcards) value.values) reads.wildcards

  module _ (first next : ℕ) (plans : List OperatorPlan) (all : PhrasesCompileTo reading first next plans (phrases_by value.mode read_strings)) where
    value_numbered : next ≡ first + length (phrases_by value.mode (strings_of (lexicon lists) options value))
    value_numbered = all.numbered ∙ ap (λ strings. first + length (phrases_by value.mode strings)) strings_same

    -- a single word is one phrase
    value_alone : is_single_value (lexicon lists) options value ≡ true → Alone first plans × (next ≡ first + 1)
    value_alone h =
        let strings = strings_of (lexicon lists) options value in
        let each : List Item → Bool = λ own. list_all is_one_item (variants (lexicon lists) options own) in
        let one = one_word_parts (lexicon lists) options (phrases_by value.mode strings) (and_parts (not (is_some value.times)) _ h).1 in
        let past : next ≡ first + 1 = value_numbered ∙ ap (λ n. first + n) one.0 in
        (row_alone first next plans (all.words lists options reads (ap (λ (own : List (List Item)). list_all each (phrases_by value.mode own)) strings_same ∙ one.1)) past, past)

    pub empty_value : (plan : OperatorPlan) → list_all is_empty (phrases_by value.mode read_strings) ≡ true → ((text : LookedText) → operator_at text plan ≡ phrase [])
        → ((cost : ItemTest → ℕ) → operator_cost cost plan ≡ 0) → word_number plan ≡ Some first → ValueCompilesTo lists options first next plan value
    empty_value plan empty none nothing number = record {
      same = λ looks tokens served.
          let is : list_all is_empty (strings_of (lexicon lists) options value) ≡ true = ap (λ strings. list_all is_empty strings) (sym strings_same) ∙ sym (none_empty value.mode read_strings) ∙ empty in
          none (looked_text looks lists.stems tokens)
          ∙ sym (ap (λ (b : Bool). if b then phrase [] else operator_by value.mode (phrase_operators (lexicon lists) options tokens first (phrases_by value.mode (strings_of (lexicon lists) options value)))) is);
      numbered = value_numbered;
      price = λ looks terms text served. omega (arith, nothing (compiled_price looks lists.stems terms text));
      word = λ h. (number, (value_alone h).1);
    }

    pub joined_value : (join : Join) (plan : OperatorPlan) → list_all is_empty (phrases_by value.mode read_strings) ≡ false
        → ((operands : List Operator) → joined_of join operands ≡ operator_by value.mode operands) → ((text : LookedText) → operator_at text plan ≡ joined_of join (map (operator_at text) plans))
        → ((cost : ItemTest → ℕ) → operator_cost cost plan ≡ sum_by (operator_cost cost) plans) → ((one : OperatorPlan) → plans ≡ one ∷ [] → plan ≡ one)
        → ValueCompilesTo lists options first next plan value
    joined_value join plan some by joined sum only = record {
      same = λ looks tokens served.
          let text = looked_text looks lists.stems tokens in
          let is : list_all is_empty (strings_of (lexicon lists) options value) ≡ false = ap (λ strings. list_all is_empty strings) (sym strings_same) ∙ sym (none_empty value.mode read_strings) ∙ some in
          joined text
          ∙ by (map (operator_at text) plans)
          ∙ ap (operator_by value.mode) (all.same lists options reads looks tokens served ∙ ap (λ strings. phrase_operators (lexicon lists) options tokens first (phrases_by value.mode strings)) strings_same)
          ∙ sym (ap (λ (b : Bool). if b then phrase [] else operator_by value.mode (phrase_operators (lexicon lists) options tokens first (phrases_by value.mode (strings_of (lexicon lists) options value)))) is);
      numbered = value_numbered;
      price = λ looks terms text served.
          let most = all.price lists options reads looks terms text served in
          let whole = ap (λ strings. sum_by (phrase_price (lexicon lists) options terms text) (phrases_by value.mode strings)) strings_same in
          omega (arith, sum (compiled_price looks lists.stems terms text), most, whole);
      word = λ h.
          let own = value_alone h in
          let alone = own.0 in
          (ap word_number (only alone.one alone.is) ∙ alone.word, own.1);
    }

-- ---- a phrase

pub phrase_to : (reading : Reading) (number next : ℕ) (tests : List (List ItemTest)) (items : List Item) → map (map passes) tests ≡ map (map (item_test reading)) (phrases_for reading items)
    → map (map asks_nothing) tests ≡ map (map (reads_any reading)) (phrases_for reading items)
    → next ≡ number + 1 → PhraseCompilesTo reading number next (O.Phrase (record { number = number; variants = tests })) items
phrase_to reading number next tests items is asks following = record {
  same = λ lists options reads looks tokens served.
      at_Phrase (looked_text looks lists.stems tokens) (record { number = number; variants = tests })
      ∙ ap phrase (phrase_same looks lists options reading reads served tests items is number tokens);
  numbered = following;
  price = λ lists options reads looks terms text served.
      let own = cost_Phrase (compiled_price looks lists.stems terms text) (record { number = number; variants = tests }) in
      let most = variants_cost looks lists terms text options reading reads served tests items is in
      omega (arith, own, most);
  word = λ lists options reads h. ap (λ b. cond b (Some number) None) (phrase_single lists options reading reads tests items asks h);
}

-- a phrase has as many items as were read
item_empty : (items : List QueryItem) → is_empty (map item items) ≡ is_empty items
item_empty [] = refl
item_empty (one ∷ items) = refl

pub items_empty : (phrases : List (List QueryItem)) → list_all is_empty (map (map item) phrases) ≡ list_all is_empty phrases
items_empty [] = refl
items_empty (items ∷ phrases) = λ i. item_empty items i && items_empty phrases i
