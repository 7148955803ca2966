-- One operand more is joined.
use Rattle.std.proofs.Common.{◌∙◌, ◌+◌, ap, sym, map, [], ◌∷◌, Some, None}
use Rattle.std.proofs.lemmas.List.{map-append}
use Rattle.std.proofs.lemmas.List.Sums.{sum_by_push}
use Rattle.plan_compiler.specs.NodeCosts.{operator_cost}
use Rattle.plan_compiler.specs.Operators.{operator_at}
use Rattle.plan_compiler.specs.steps.Joins.{joined_after, joined_from}
use Rattle.plan_compiler.proofs.JoinLemmas.{joined_more}
use Rattle.plan_compiler.proofs.WordRows.{ends_more, only_one, some_after}
use Rattle.plan_compiler.proofs.joining.join_some.Goals as goal

pub loop-next-preserved : goal.loop-next-preserved
loop-next-preserved c = record {
  same = λ text.
      ap Some (c.in_ok-plan_after.ensures.same text)
      ∙ ap (λ o. Some (joined_after c.args.join o (operator_at text c.in-Some.next))) (c.loop-next.invariant.same text)
      ∙ sym (joined_more c.args.join None (map (operator_at text) c.loop-next.yielded) (operator_at text c.in-Some.next))
      ∙ ap (joined_from c.args.join None) (sym (map-append (operator_at text) c.loop-next.yielded (c.in-Some.next ∷ [])));
  cost = λ cost.
      c.in_ok-plan_after.ensures.cost cost
      ∙ ap (λ n. n + operator_cost cost c.in-Some.next) (c.loop-next.invariant.cost cost)
      ∙ sym (sum_by_push (operator_cost cost) c.loop-next.yielded c.in-Some.next);
  none = λ empty. absurd (some_after c.loop-next.yielded c.in-Some.next empty);
  alone = λ one is.
      let only = only_one c.loop-next.yielded c.in-Some.next one is in
      ap Some (c.in_ok-plan_after.ensures.alone (c.loop-next.invariant.none only.0) ∙ only.1);
  words = λ first next both row.
      ends_more c.args.join first next c.loop-next.before c.loop-next.yielded c.in-Some.next c.in_ok-plan_after.field-0 both c.loop-next.invariant.words c.in_ok-plan_after.ensures.last row;
}
