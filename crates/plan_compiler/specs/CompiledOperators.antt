-- Selections compiled to operators, under the options that stand round them, and what their tests cost.
use Rattle.std.specs.Prelude.{◌≡◌, ◌≤◌, ℕ, ◌+◌, Bool, true, false, ◌&&◌, List, map, length, is_some, Some}
use Rattle.std.specs.List.{list_all, sum_by}
use Rattle.ft_base.specs.Selection.{Form, words, or_of, and_of, mild_not, not_of, filtered, with_options}
use Rattle.ft_base.specs.declared.options.Options.{Options}
use Rattle.ft_base.specs.declared.token.Token.{Token}
use Rattle.ft_base.specs.declared.words.Words.{Words}
use Rattle.ft_syntax.specs.View.{form, forms_of}
use Rattle.ft_syntax.specs.declared.selection.Selection.{Selection}
use Rattle.all_matches.specs.Hits.{hits}
use Rattle.all_matches.specs.Meaning.{phrases_by, phrase_count, phrase_counts, strings_of}
use Rattle.all_matches.specs.Operators.{operator_of, operators_of, phrase_operators, value_operator}
use Rattle.all_matches.specs.Variants.{Item, Lexicon, variants}
use Rattle.all_matches.specs.Ways.{phrase}
use Rattle.index_meaning.specs.Entries.{Entry}
use Rattle.plan_compiler.specs.CheapPlans.{is_cheap_operator, last_word, word_number}
use Rattle.plan_compiler.specs.CheapSelections.{are_single_words, is_cheap_filter, is_one_item, is_single_value, is_single_word, joins_words}
use Rattle.plan_compiler.specs.CompiledSelection.{compiled_price}
use Rattle.plan_compiler.specs.Lexicon.{lexicon}
use Rattle.plan_compiler.specs.NamedLists.{NamedLists}
use Rattle.plan_compiler.specs.NodeCosts.{operator_cost}
use Rattle.plan_compiler.specs.Operators.{looked_text, operator_at}
use Rattle.plan_compiler.specs.Price.{phrase_price, price_under, prices_under, value_price}
use Rattle.plan_compiler.specs.ReadingMeaning.{Reads}
use Rattle.plan_compiler.specs.Served.{all_served, are_served, is_served}
use Rattle.plan_compiler.specs.declared.looks.Looks.{Looks}
use Rattle.plan_compiler.specs.declared.operator_plan.OperatorPlan.{OperatorPlan}
use Rattle.plan_compiler.specs.declared.reading.Reading.{Reading}
use Rattle.plan_compiler.specs.steps.Joins.{AreWordsFrom}

-- whether a selection is one with a filter or `not in`
abbrev pub is_positional : Form → Bool
is_positional (words value) = false
is_positional (or_of forms) = false
is_positional (and_of forms) = false
is_positional (mild_not left right) = true
is_positional (not_of form) = false
is_positional (filtered form kind) = true
is_positional (with_options form inner) = false

-- whether a selection is `ordered` or a window in words over single words, under the options that stand round it
abbrev pub has_cheap_filter : Lexicon → Options → Form → Bool
has_cheap_filter lexicon options (words value) = false
has_cheap_filter lexicon options (or_of forms) = false
has_cheap_filter lexicon options (and_of forms) = false
has_cheap_filter lexicon options (mild_not left right) = false
has_cheap_filter lexicon options (not_of form) = false
has_cheap_filter lexicon options (filtered form kind) = is_cheap_filter kind && joins_words lexicon options form
has_cheap_filter lexicon options (with_options form inner) = false

module _ (lists : NamedLists) (options : Options) where
  -- A single word is compiled to one, single words that are joined to nothing else, and a cheap filter over such to one.
  pub record KeepsWords (first next : ℕ) (plan : OperatorPlan) (selection : Form) : Type 0 where
    pub single : is_single_word (lexicon lists) options selection ≡ true → (word_number plan ≡ Some first) × (next ≡ first + 1)
    pub joined : joins_words (lexicon lists) options selection ≡ true → is_some (last_word plan) ≡ true
    pub cheap : has_cheap_filter (lexicon lists) options selection ≡ true → is_cheap_operator plan ≡ true

  -- Over each text it is what the selection is there, and its tests have together at most the price of the selection. Its phrases have the
  -- numbers from the first one on; after them comes the next one
  pub record CompilesTo (first next : ℕ) (plan : OperatorPlan) (selection : Form) : Type 0 where
    pub same : (looks : Looks) (tokens : List Token) → are_served looks options ≡ true → is_served looks selection ≡ true
        → operator_at (looked_text looks lists.stems tokens) plan ≡ operator_of (lexicon lists) options first tokens selection
    pub numbered : next ≡ first + phrase_count (lexicon lists) options selection
    pub price : (looks : Looks) (terms : List Entry) (text : List (List ℕ)) → are_served looks options ≡ true → is_served looks selection ≡ true
        → operator_cost (compiled_price looks lists.stems terms text) plan ≤ price_under (lexicon lists) options terms text selection
    pub words : KeepsWords first next plan selection

  -- the same of lists of both
  pub record EachCompilesTo (first next : ℕ) (plans : List OperatorPlan) (parts : List Selection) : Type 0 where
    pub same : (looks : Looks) (tokens : List Token) → are_served looks options ≡ true → all_served looks (forms_of (map form parts)) ≡ true
        → map (operator_at (looked_text looks lists.stems tokens)) plans ≡ operators_of (lexicon lists) options first tokens (forms_of (map form parts))
    pub numbered : next ≡ first + phrase_counts (lexicon lists) options (forms_of (map form parts))
    pub price : (looks : Looks) (terms : List Entry) (text : List (List ℕ)) → are_served looks options ≡ true
        → all_served looks (forms_of (map form parts)) ≡ true
        → sum_by (operator_cost (compiled_price looks lists.stems terms text)) plans
        ≤ prices_under (lexicon lists) options terms text (forms_of (map form parts))
    pub many : length plans ≡ length parts
    pub words : are_single_words (lexicon lists) options (forms_of (map form parts)) ≡ true → AreWordsFrom first next plans

  -- the same of a value, under the options that hold for it
  pub record ValueCompilesTo (first next : ℕ) (plan : OperatorPlan) (value : Words) : Type 0 where
    pub same : (looks : Looks) (tokens : List Token) → are_served looks options ≡ true
        → operator_at (looked_text looks lists.stems tokens) plan ≡ value_operator (lexicon lists) options first value tokens
    pub numbered : next ≡ first + length (phrases_by value.mode (strings_of (lexicon lists) options value))
    pub price : (looks : Looks) (terms : List Entry) (text : List (List ℕ)) → are_served looks options ≡ true
        → operator_cost (compiled_price looks lists.stems terms text) plan ≤ value_price (lexicon lists) options terms text value
    pub word : is_single_value (lexicon lists) options value ≡ true → (word_number plan ≡ Some first) × (next ≡ first + 1)

module _ (reading : Reading) where
  -- the same of a phrase, as it is read
  pub record PhraseCompilesTo (first next : ℕ) (plan : OperatorPlan) (items : List Item) : Type 0 where
    pub same : (lists : NamedLists) (options : Options) → Reads reading lists options → (looks : Looks) (tokens : List Token) → are_served looks options ≡ true
        → operator_at (looked_text looks lists.stems tokens) plan ≡ phrase (hits (lexicon lists) options first items tokens)
    pub numbered : next ≡ first + 1
    pub price : (lists : NamedLists) (options : Options) → Reads reading lists options → (looks : Looks) (terms : List Entry) (text : List (List ℕ))
        → are_served looks options ≡ true
        → operator_cost (compiled_price looks lists.stems terms text) plan ≤ phrase_price (lexicon lists) options terms text items
    pub word : (lists : NamedLists) (options : Options) → Reads reading lists options
        → list_all is_one_item (variants (lexicon lists) options items) ≡ true → word_number plan ≡ Some first

  -- and of phrases
  pub record PhrasesCompileTo (first next : ℕ) (plans : List OperatorPlan) (phrases : List (List Item)) : Type 0 where
    pub same : (lists : NamedLists) (options : Options) → Reads reading lists options → (looks : Looks) (tokens : List Token) → are_served looks options ≡ true
        → map (operator_at (looked_text looks lists.stems tokens)) plans ≡ phrase_operators (lexicon lists) options tokens first phrases
    pub numbered : next ≡ first + length phrases
    pub price : (lists : NamedLists) (options : Options) → Reads reading lists options → (looks : Looks) (terms : List Entry) (text : List (List ℕ))
        → are_served looks options ≡ true
        → sum_by (operator_cost (compiled_price looks lists.stems terms text)) plans ≤ sum_by (phrase_price (lexicon lists) options terms text) phrases
    pub words : (lists : NamedLists) (options : Options) → Reads reading lists options
        → list_all (λ items. list_all is_one_item (variants (lexicon lists) options items)) phrases ≡ true → AreWordsFrom first next plans
