-- What each kind of compiled selection says, and what its tests cost.
use Rattle.std.proofs.Common.{◌≡◌, refl, ap, ◌∙◌, ℕ, Bool, true, sum, List, [], ◌∷◌, map, Box, Global, rules, not, ◌&&◌, ◌||◌}
use Rattle.std.specs.List.{list_any, list_all, sum_by}
use Rattle.std.proofs.lemmas.List.Folds.{list_all-map}
use Rattle.std.proofs.lemmas.List.Sums.{sum-map}
use Rattle.plan_compiler.specs.CheapPlans.{is_cheap_node, is_cheap_operator}
use Rattle.plan_compiler.specs.CountedPlans.{counted_cost, counted_truth}
use Rattle.plan_compiler.specs.NodeCosts.{node_cost, operator_cost, words_cost}
use Rattle.plan_compiler.specs.NodeMeaning.{layer, truth}
use Rattle.plan_compiler.specs.Operators.{LookedText, operator_at, satisfied_over}
use Rattle.plan_compiler.specs.TextWords.{words_of_tokens}
use Rattle.plan_compiler.specs.WordsMeaning.{words_truth}
use Rattle.plan_compiler.specs.declared.counted_plan.CountedPlan.{CountedPlan}
use Rattle.plan_compiler.specs.declared.item_matching.ItemTest.{ItemTest}
use Rattle.plan_compiler.specs.declared.operator_plan.WaysPlan.{WaysPlan}
use Rattle.plan_compiler.specs.declared.words_plan.WordsPlan.{WordsPlan}
use Rattle.plan_compiler.specs.declared.node.Node.TheOpen.{Node-F}
use Rattle.plan_compiler.specs.declared.node.Node.{Node, Words, Or, And, Not, Ways, Counted, the_lemmas}

pub truth-Words : (plan : WordsPlan) (text : LookedText) → truth (Words plan) text ≡ words_truth plan (words_of_tokens text.looks text.stems text.tokens)
unfolding truth
truth-Words plan text = search (rules, the_lemmas)

truth-parts : (parts : List Node) → truth (Or parts) ≡ layer (Node-F.Or (map truth parts))
unfolding truth
truth-parts parts = search (rules, the_lemmas)

truth-all_parts : (parts : List Node) → truth (And parts) ≡ layer (Node-F.And (map truth parts))
unfolding truth
truth-all_parts parts = search (rules, the_lemmas)

any_of_truths : (parts : List Node) (text : LookedText) → list_any (λ part. part text) (map truth parts) ≡ list_any (λ part. truth part text) parts
any_of_truths [] text = refl
any_of_truths (part ∷ rest) text = ap (λ b. truth part text || b) (any_of_truths rest text)

all_of_truths : (parts : List Node) (text : LookedText) → list_all (λ part. part text) (map truth parts) ≡ list_all (λ part. truth part text) parts
all_of_truths [] text = refl
all_of_truths (part ∷ rest) text = ap (λ b. truth part text && b) (all_of_truths rest text)

pub truth-Or : (parts : List Node) (text : LookedText) → truth (Or parts) text ≡ list_any (λ part. truth part text) parts
truth-Or parts text = ap (λ f. f text) (truth-parts parts) ∙ any_of_truths parts text

pub truth-And : (parts : List Node) (text : LookedText) → truth (And parts) text ≡ list_all (λ part. truth part text) parts
truth-And parts text = ap (λ f. f text) (truth-all_parts parts) ∙ all_of_truths parts text

pub truth-Not : (part : Box Node Global) (text : LookedText) → truth (Not part) text ≡ not (truth part.value text)
unfolding truth
truth-Not part text = search (rules, the_lemmas)

pub truth-Ways : (plan : WaysPlan) (text : LookedText) → truth (Ways plan) text ≡ satisfied_over text.tokens (operator_at text plan.operator)
unfolding truth
truth-Ways plan text = search (rules, the_lemmas)

pub truth-Counted : (plan : CountedPlan) (text : LookedText) → truth (Counted plan) text ≡ counted_truth plan text
unfolding truth
truth-Counted plan text = search (rules, the_lemmas)

-- ---- what its tests cost

module _ (cost : ItemTest → ℕ) where
  pub cost-Words : (plan : WordsPlan) → node_cost cost (Words plan) ≡ words_cost cost plan
  unfolding node_cost
  cost-Words plan = search (rules, the_lemmas)

  cost-parts : (parts : List Node) → node_cost cost (Or parts) ≡ sum (map (node_cost cost) parts)
  unfolding node_cost
  cost-parts parts = search (rules, the_lemmas)

  cost-all_parts : (parts : List Node) → node_cost cost (And parts) ≡ sum (map (node_cost cost) parts)
  unfolding node_cost
  cost-all_parts parts = search (rules, the_lemmas)

  pub cost-Or : (parts : List Node) → node_cost cost (Or parts) ≡ sum_by (node_cost cost) parts
  cost-Or parts = cost-parts parts ∙ sum-map (node_cost cost) parts

  pub cost-And : (parts : List Node) → node_cost cost (And parts) ≡ sum_by (node_cost cost) parts
  cost-And parts = cost-all_parts parts ∙ sum-map (node_cost cost) parts

  pub cost-Not : (part : Box Node Global) → node_cost cost (Not part) ≡ node_cost cost part.value
  unfolding node_cost
  cost-Not part = search (rules, the_lemmas)

  pub cost-Ways : (plan : WaysPlan) → node_cost cost (Ways plan) ≡ operator_cost cost plan.operator
  unfolding node_cost
  cost-Ways plan = search (rules, the_lemmas)

  pub cost-Counted : (plan : CountedPlan) → node_cost cost (Counted plan) ≡ counted_cost cost plan
  unfolding node_cost
  cost-Counted plan = search (rules, the_lemmas)

-- ---- whether they are cheap

module _ (counts : Bool) where
  pub cheap-Words : (plan : WordsPlan) → is_cheap_node counts (Words plan) ≡ true
  unfolding is_cheap_node
  cheap-Words plan = search (rules, the_lemmas)

  cheap-parts : (parts : List Node) → is_cheap_node counts (Or parts) ≡ list_all (λ part. part) (map (is_cheap_node counts) parts)
  unfolding is_cheap_node
  cheap-parts parts = search (rules, the_lemmas)

  cheap-all_parts : (parts : List Node) → is_cheap_node counts (And parts) ≡ list_all (λ part. part) (map (is_cheap_node counts) parts)
  unfolding is_cheap_node
  cheap-all_parts parts = search (rules, the_lemmas)

  pub cheap-Or : (parts : List Node) → is_cheap_node counts (Or parts) ≡ list_all (is_cheap_node counts) parts
  cheap-Or parts = cheap-parts parts ∙ list_all-map (λ part. part) (is_cheap_node counts) parts

  pub cheap-And : (parts : List Node) → is_cheap_node counts (And parts) ≡ list_all (is_cheap_node counts) parts
  cheap-And parts = cheap-all_parts parts ∙ list_all-map (λ part. part) (is_cheap_node counts) parts

  pub cheap-Not : (part : Box Node Global) → is_cheap_node counts (Not part) ≡ is_cheap_node counts part.value
  unfolding is_cheap_node
  cheap-Not part = search (rules, the_lemmas)

  pub cheap-Ways : (plan : WaysPlan) → is_cheap_node counts (Ways plan) ≡ is_cheap_operator plan.operator
  unfolding is_cheap_node
  cheap-Ways plan = search (rules, the_lemmas)

  pub cheap-Counted : (plan : CountedPlan) → is_cheap_node counts (Counted plan) ≡ counts
  unfolding is_cheap_node
  cheap-Counted plan = search (rules, the_lemmas)
