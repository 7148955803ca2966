-- Selections compiled under the options that stand round them.
use Rattle.std.specs.Prelude.{◌≡◌, ◌≤◌, ℕ, Bool, true, List, map}
use Rattle.std.specs.List.{list_all, sum_by}
use Rattle.ft_base.specs.Selection.{Form}
use Rattle.ft_base.specs.declared.options.Options.{Options}
use Rattle.ft_base.specs.declared.token.Token.{Token}
use Rattle.ft_syntax.specs.View.{form}
use Rattle.ft_syntax.specs.declared.selection.Selection.{Selection}
use Rattle.all_matches.specs.Meaning.{sat_under}
use Rattle.index_meaning.specs.Entries.{Entry}
use Rattle.word_lists.specs.Stems.{Stem}
use Rattle.plan_compiler.specs.CheapPlans.{is_cheap_node}
use Rattle.plan_compiler.specs.CheapSelections.{is_cheap_under}
use Rattle.plan_compiler.specs.ItemTests.{passes}
use Rattle.plan_compiler.specs.Lexicon.{lexicon}
use Rattle.plan_compiler.specs.NamedLists.{NamedLists}
use Rattle.plan_compiler.specs.NodeCosts.{node_cost}
use Rattle.plan_compiler.specs.NodeMeaning.{truth}
use Rattle.plan_compiler.specs.Operators.{looked_text}
use Rattle.plan_compiler.specs.Price.{price_under, test_price}
use Rattle.plan_compiler.specs.TextWords.{word_as}
use Rattle.plan_compiler.specs.declared.item_matching.ItemTest.{ItemTest}
use Rattle.plan_compiler.specs.declared.looks.Looks.{Looks}
use Rattle.plan_compiler.specs.declared.node.Node.{Node}

-- the price of a compiled test, by what is looked at of words
abbrev pub compiled_price : Looks → List Stem → List Entry → List (List ℕ) → ItemTest → ℕ
compiled_price looks stems terms text test = test_price (λ word. passes test (word_as looks stems word)) terms text

module _ (looks : Looks) (lists : NamedLists) (options : Options) where
  -- a node that says of every text whether the text satisfies the selection, whose tests have together at most its price, and which is cheap
  -- where the selection is
  pub record Compiles (node : Node) (selection : Form) : Type 0 where
    pub says : (tokens : List Token) → truth node (looked_text looks lists.stems tokens) ≡ sat_under (lexicon lists) options selection tokens
    pub price : (terms : List Entry) → (text : List (List ℕ))
        → node_cost (compiled_price looks lists.stems terms text) node ≤ price_under (lexicon lists) options terms text selection
    pub cheap : (counts : Bool) → is_cheap_under counts (lexicon lists) options selection ≡ true → is_cheap_node counts node ≡ true

  -- the same of lists of both
  pub record CompileAll (nodes : List Node) (parts : List Selection) : Type 0 where
    pub says : (tokens : List Token)
        → map (λ node. truth node (looked_text looks lists.stems tokens)) nodes
        ≡ map (λ part. sat_under (lexicon lists) options (form part) tokens) parts
    pub price : (terms : List Entry) → (text : List (List ℕ))
        → sum_by (node_cost (compiled_price looks lists.stems terms text)) nodes
        ≤ sum_by (λ part. price_under (lexicon lists) options terms text (form part)) parts
    pub cheap : (counts : Bool) → list_all (λ part. is_cheap_under counts (lexicon lists) options (form part)) parts ≡ true
        → list_all (is_cheap_node counts) nodes ≡ true
