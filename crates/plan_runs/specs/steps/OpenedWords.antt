-- Compiled words opened over a version: terms in the place of tests.
use Rattle.std.specs.Prelude.{◌≡◌, ◌≤◌, ℕ, Bool, true, false, List, map}
use Rattle.std.specs.List.{All, list_all, list_any, sum_by}
use Rattle.ft_base.specs.declared.span.Span.{Span}
use Rattle.ft_base.specs.declared.token.Token.{Token}
use Rattle.index_meaning.specs.Documents.{Numbered}
use Rattle.word_lists.specs.Stems.{Stem}
use Rattle.plan_compiler.specs.Operators.{looked_text}
use Rattle.plan_runs.specs.steps.AskedSpans.{AskedSpan, IsAsked, tokens_in}
use Rattle.plan_runs.specs.steps.LeftTokens.{AreLeft}
use Rattle.plan_runs.specs.steps.OpenedItems.{opened_item, opened_variant}
use Rattle.plan_compiler.specs.CheapPlans.{is_cheap_node}
use Rattle.plan_compiler.specs.NodeCosts.{node_cost}
use Rattle.plan_compiler.specs.NodeMeaning.{truth}
use Rattle.plan_runs.specs.steps.CheapShapes.{is_cheap_shape}
use Rattle.plan_runs.specs.steps.RunCosts.{IsFair, run_cost}
use Rattle.index_phrases.specs.steps.Aiming.{wanted_size}
use Rattle.plan_runs.specs.steps.RunShapes.{GroupShape, WordsShape, Shape}
use Rattle.plan_runs.specs.steps.RunSkips.{skip}
use Rattle.plan_runs.specs.steps.RunTruth.{IsSound, run_truth}
use Rattle.plan_runs.specs.steps.Skips.{ends_before}
use Rattle.plan_compiler.specs.declared.item_matching.ItemTest.{ItemTest}
use Rattle.plan_compiler.specs.declared.looks.Looks.{Looks}
use Rattle.plan_compiler.specs.declared.node.Node.{Node}
use Rattle.plan_compiler.specs.declared.phrase_plan.PhrasePlan.{PhrasePlan}
use Rattle.index_phrases.specs.declared.word_terms.WordTerms.{WordTerms}
use Rattle.plan_compiler.specs.declared.words_plan.WordsPlan.{WordsPlan}

module _ (looks : Looks) (stems : List Stem) (version : List Numbered) where
  abbrev pub opened_group : List (List ItemTest) → GroupShape
  opened_group variants = record {
    terms = map (opened_variant looks stems version) variants;
    sizes = map (map wanted_size) (map (opened_variant looks stems version) variants);
  }

  abbrev pub opened_phrase : PhrasePlan → List GroupShape
  opened_phrase plan = map opened_group plan.groups

  abbrev pub opened_words : WordsPlan → WordsShape
  opened_words plan = record { phrases = map opened_phrase plan.phrases; all = plan.all; times = plan.times }

  -- a tree that says of spans of documents what the compiled selection says of their tokens, that says of which spans no words satisfy the
  -- selection, costs no more where no word costs more than its test, and is cheap where the selection is
  pub record IsOpened (run : Shape) (node : Node) : Type 0 where
    pub sound : IsSound version run
    pub says : (asked : AskedSpan) → IsAsked version asked → run_truth version run asked ≡ truth node (looked_text looks stems (tokens_in version asked))
    pub none : (part : Span) (asked : AskedSpan) (tokens : List Token) → AreLeft version part asked tokens
        → ends_before asked.span.to (skip asked.doc part run) ≡ true → truth node (looked_text looks stems tokens) ≡ false
    pub cost : (word_cost : WordTerms → ℕ) → (test_cost : ItemTest → ℕ) → IsFair word_cost
        → ((test : ItemTest) → word_cost (opened_item looks stems version test) ≤ test_cost test) → run_cost word_cost 1 run ≤ node_cost test_cost node
    pub cheap : (counts : Bool) → is_cheap_node counts node ≡ true → is_cheap_shape counts run ≡ true

  -- the same of lists of both
  pub record AreOpened (runs : List Shape) (nodes : List Node) : Type 0 where
    pub sound : All (IsSound version) runs
    pub says : (asked : AskedSpan) → IsAsked version asked
        → map (λ run. run_truth version run asked) runs ≡ map (λ node. truth node (looked_text looks stems (tokens_in version asked))) nodes
    pub none_of_any : (part : Span) (asked : AskedSpan) (tokens : List Token) → AreLeft version part asked tokens
        → list_all (λ run. ends_before asked.span.to (skip asked.doc part run)) runs ≡ true
        → list_any (λ node. truth node (looked_text looks stems tokens)) nodes ≡ false
    pub none_of_all : (part : Span) (asked : AskedSpan) (tokens : List Token) → AreLeft version part asked tokens
        → list_any (λ run. ends_before asked.span.to (skip asked.doc part run)) runs ≡ true
        → list_all (λ node. truth node (looked_text looks stems tokens)) nodes ≡ false
    pub cost : (word_cost : WordTerms → ℕ) → (test_cost : ItemTest → ℕ) → IsFair word_cost
        → ((test : ItemTest) → word_cost (opened_item looks stems version test) ≤ test_cost test)
        → sum_by (run_cost word_cost 1) runs ≤ sum_by (node_cost test_cost) nodes
    pub cheap : (counts : Bool) → list_all (is_cheap_node counts) nodes ≡ true → list_all (is_cheap_shape counts) runs ≡ true
