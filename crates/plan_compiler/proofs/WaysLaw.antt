-- Compiled selections with filters or `not in`: none of their negated parts stands where it may not, and they say whether a text satisfies the selection.
use Rattle.std.proofs.Common.{◌≡◌, refl, ap, sym, subst, ◌∙◌, ℕ, ◌+◌, true, ◌&&◌, List, [], arith}
use Rattle.std.proofs.lemmas.Bool.{and_parts}
use Rattle.ft_base.specs.Selection.{Form}
use Rattle.ft_base.specs.declared.options.Options.{Options}
use Rattle.all_matches.specs.Allowed.{has_plain_nots, may_be_filtered, without_times}
use Rattle.all_matches.specs.Boolean.{satisfied}
use Rattle.ft_base.specs.declared.token.Token.{Token}
use Rattle.all_matches.specs.Meaning.{phrase_count, sat_under}
use Rattle.all_matches.specs.Ways.{Operator, is_plain, without_negation}
use Rattle.all_matches.proofs.OperatorMatches.{operator-matches}
use Rattle.all_matches.proofs.PlainOperators.{plain}
use Rattle.match_sets.specs.United.{IsNumbered}
use Rattle.match_sets.proofs.NumberedOperators.{operator_numbered}
use Rattle.plan_compiler.specs.CompiledOperators.{CompilesTo, is_positional}
use Rattle.plan_compiler.specs.CompiledSelection.{Compiles, compiled_price}
use Rattle.plan_compiler.specs.Lexicon.{lexicon}
use Rattle.plan_compiler.specs.NamedLists.{NamedLists}
use Rattle.plan_compiler.specs.Operators.{LookedText, looked_text, operator_at, satisfied_over}
use Rattle.plan_compiler.specs.Served.{are_served, everything, is_served}
use Rattle.plan_compiler.specs.steps.Uniting.{IsUnited}
use Rattle.plan_compiler.specs.declared.looks.Looks.{Looks}
use Rattle.plan_compiler.specs.declared.node.Node as N
use Rattle.plan_compiler.specs.declared.operator_plan.OperatorPlan.{OperatorPlan, Phrase, Choice', Both', MildNot', Negated', Filtered'}
use Rattle.plan_compiler.specs.declared.operator_plan.WaysPlan.{WaysPlan}
use Rattle.plan_compiler.proofs.CheapNodes.{positional_cheap}
use Rattle.plan_compiler.proofs.NodeViews.{cheap-Ways, cost-Ways, truth-Ways}
use Rattle.plan_compiler.proofs.ServedLemmas.{everything_serves}
use Rattle.plan_compiler.proofs.UnitingLemmas.{united_cheap, united_cost, united_satisfied}

-- ---- where negated operands stand doesn't depend on the text

module _ (text other : LookedText) where
  without_same : (plan : OperatorPlan) → without_negation (operator_at text plan) ≡ without_negation (operator_at other plan)
  unfolding operator_at
  without_same (Phrase found) = refl
  without_same (Choice' p left right) = λ i. without_same left i && without_same right i
  without_same (Both' p left right) = λ i. without_same left i && without_same right i
  without_same (MildNot' p left right) = λ i. without_same left i && without_same right i
  without_same (Negated' p operand) = refl
  without_same (Filtered' p operand kind) = without_same operand

  plain_same : (plan : OperatorPlan) → is_plain (operator_at text plan) ≡ is_plain (operator_at other plan)
  unfolding operator_at
  plain_same (Phrase found) = refl
  plain_same (Choice' p left right) = λ i. plain_same left i && plain_same right i
  plain_same (Both' p left right) = λ i. plain_same left i && plain_same right i
  plain_same (MildNot' p left right) = λ i. without_same left i && without_same right i
  plain_same (Negated' p operand) = without_same operand
  plain_same (Filtered' p operand kind) = plain_same operand

module _ (lists : NamedLists) (options : Options) (first next : ℕ) (operator : OperatorPlan) (selection : Form) (compiled : CompilesTo lists options first next operator selection) where
  -- negated operands stand in the operator as in the selection
  pub nots_plain : has_plain_nots selection ≡ true → (text : LookedText) → is_plain (operator_at text operator) ≡ true
  nots_plain nots text =
      plain_same text (looked_text everything lists.stems []) operator
      ∙ ap is_plain (compiled.same everything [] refl (everything_serves selection))
      ∙ plain (lexicon lists) options first [] selection nots

  pub ways_plain : may_be_filtered selection ≡ true → (text : LookedText) → is_plain (operator_at text operator) ≡ true
  ways_plain allowed text = nots_plain (and_parts (without_times selection) (has_plain_nots selection) allowed).1 text

-- what is compiled, with its choices of phrases united
module _ (looks : Looks) (lists : NamedLists) (options : Options) (next : ℕ) (operator : OperatorPlan) (plan : WaysPlan) (selection : Form) (compiled : CompilesTo lists options 1 next operator selection) (united : IsUnited operator plan.operator) (positional : is_positional selection ≡ true) (allowed : may_be_filtered selection ≡ true) (outer : are_served looks options ≡ true) (inner : is_served looks selection ≡ true) where
  same_truth : (tokens : List Token) → satisfied_over tokens (operator_at (looked_text looks lists.stems tokens) plan.operator) ≡ satisfied_over tokens (operator_at (looked_text looks lists.stems tokens) operator)
  same_truth tokens =
      let text = looked_text looks lists.stems tokens in
      let last = 1 + phrase_count (lexicon lists) options selection in
      united_satisfied text operator plan.operator united 1 last
      (subst (λ (o : Operator). IsNumbered 1 last o) (sym (compiled.same looks tokens outer inner)) (operator_numbered (lexicon lists) options 1 tokens selection))
      (ways_plain lists options 1 next operator selection compiled allowed text)

  pub ways_compile : Compiles looks lists options (N.Ways plan) selection
  unfolding sat_under
  ways_compile = record {
    says = λ tokens.
        let parts = and_parts (without_times selection) (has_plain_nots selection) allowed in
        truth-Ways plan (looked_text looks lists.stems tokens)
        ∙ same_truth tokens
        ∙ ap (satisfied_over tokens) (compiled.same looks tokens outer inner)
        ∙ ap satisfied (operator-matches (lexicon lists) options 1 tokens selection parts.0);
    price = λ terms text.
        let cost = cost-Ways (compiled_price looks lists.stems terms text) plan in
        let same = united_cost (compiled_price looks lists.stems terms text) operator plan.operator united in
        let most = compiled.price looks terms text outer inner in
        omega (arith, cost, same, most);
    cheap = λ counts h.
        let parts = and_parts (without_times selection) (has_plain_nots selection) allowed in
        cheap-Ways counts plan
        ∙ united_cheap operator plan.operator united (compiled.words.cheap (positional_cheap counts (lexicon lists) options selection positional parts.0 h));
  }
