-- Counted shapes compiled under the options that stand round them, and what their tests cost.
use Rattle.std.specs.Prelude.{◌≡◌, ◌≤◌, ℕ, ◌+◌, true, List, map, ◌++◌}
use Rattle.std.specs.List.{sum_by}
use Rattle.ft_base.specs.Selection.{Form}
use Rattle.ft_base.specs.declared.options.Options.{Options}
use Rattle.ft_base.specs.declared.token.Token.{Token}
use Rattle.ft_base.specs.declared.words.Words.{Words}
use Rattle.ft_syntax.specs.View.{form, forms_of}
use Rattle.ft_syntax.specs.declared.selection.Selection.{Selection}
use Rattle.counted_shapes.specs.Shapes.{bare_hits, items_of, items_of_each, value_hits}
use Rattle.index_meaning.specs.Entries.{Entry}
use Rattle.plan_compiler.specs.CompiledSelection.{compiled_price}
use Rattle.plan_compiler.specs.CountedPlans.{counted_at, hits_of_phrases, items_cost, phrases_cost}
use Rattle.plan_compiler.specs.Lexicon.{lexicon}
use Rattle.plan_compiler.specs.NamedLists.{NamedLists}
use Rattle.plan_compiler.specs.Operators.{looked_text}
use Rattle.plan_compiler.specs.Price.{price_under, prices_under, value_price}
use Rattle.plan_compiler.specs.Served.{all_served, are_served, is_served}
use Rattle.plan_compiler.specs.declared.counted_plan.CountedWords.{CountedWords}
use Rattle.plan_compiler.specs.declared.looks.Looks.{Looks}
use Rattle.plan_compiler.specs.declared.operator_plan.PhraseTests.{PhraseTests}

module _ (lists : NamedLists) (options : Options) where
  -- phrases whose hits are those of a value, under the options that hold for it
  pub record ValueCounts (phrases : List PhraseTests) (value : Words) : Type 0 where
    pub same : (looks : Looks) (tokens : List Token) → are_served looks options ≡ true
        → hits_of_phrases (looked_text looks lists.stems tokens) phrases ≡ value_hits (lexicon lists) options value tokens
    pub price : (looks : Looks) (terms : List Entry) (text : List (List ℕ)) → are_served looks options ≡ true
        → phrases_cost (compiled_price looks lists.stems terms text) phrases ≤ value_price (lexicon lists) options terms text value

  -- phrases whose hits are those of words without `occurs`, with options round them or not
  pub record BareCounts (phrases : List PhraseTests) (selection : Form) : Type 0 where
    pub same : (looks : Looks) (tokens : List Token) → are_served looks options ≡ true → is_served looks selection ≡ true
        → hits_of_phrases (looked_text looks lists.stems tokens) phrases ≡ bare_hits (lexicon lists) options tokens selection
    pub price : (looks : Looks) (terms : List Entry) (text : List (List ℕ)) → are_served looks options ≡ true → is_served looks selection ≡ true
        → phrases_cost (compiled_price looks lists.stems terms text) phrases ≤ price_under (lexicon lists) options terms text selection

  -- items with those of a selection after them
  pub record ItemsCompileTo (before after : List CountedWords) (selection : Form) : Type 0 where
    pub same : (looks : Looks) (tokens : List Token) → are_served looks options ≡ true → is_served looks selection ≡ true
        → map (counted_at (looked_text looks lists.stems tokens)) after
        ≡ map (counted_at (looked_text looks lists.stems tokens)) before ++ items_of (lexicon lists) options tokens selection
    pub price : (looks : Looks) (terms : List Entry) (text : List (List ℕ)) → are_served looks options ≡ true → is_served looks selection ≡ true
        → items_cost (compiled_price looks lists.stems terms text) after
        ≤ items_cost (compiled_price looks lists.stems terms text) before + price_under (lexicon lists) options terms text selection

  -- and with those of several
  pub record EachItemCompilesTo (before after : List CountedWords) (parts : List Selection) : Type 0 where
    pub same : (looks : Looks) (tokens : List Token) → are_served looks options ≡ true → all_served looks (forms_of (map form parts)) ≡ true
        → map (counted_at (looked_text looks lists.stems tokens)) after
        ≡ map (counted_at (looked_text looks lists.stems tokens)) before ++ items_of_each (lexicon lists) options tokens (forms_of (map form parts))
    pub price : (looks : Looks) (terms : List Entry) (text : List (List ℕ)) → are_served looks options ≡ true
        → all_served looks (forms_of (map form parts)) ≡ true
        → items_cost (compiled_price looks lists.stems terms text) after
        ≤ items_cost (compiled_price looks lists.stems terms text) before + prices_under (lexicon lists) options terms text (forms_of (map form parts))
