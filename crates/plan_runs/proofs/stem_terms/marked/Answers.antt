-- One number more: unmarked ones are those of terms whose words don't pass.
use Rattle.std.proofs.Common.{◌∙◌, ◌++◌, ◌<◌, ap, sym, cond, length, ℕ, false, List, [], ◌∷◌, arith}
use Rattle.std.proofs.lemmas.List.{get_or_default}
use Rattle.index_versions.specs.Versions.{term_at}
use Rattle.plan_runs.specs.steps.OpenedItems.{word_test}
use Rattle.plan_runs.proofs.ChoosingLemmas.{first_more}
use Rattle.plan_runs.proofs.MarkLemmas.{unmarked_more}
use Rattle.plan_runs.proofs.stem_terms.marked.Goals as goal
use Rattle.plan_runs.proofs.stem_terms.marked.Goals.{then-index+in_ok-push_passing, else-index}

pub loop-number-preserved : goal.loop-number-preserved
loop-number-preserved c =
    let opening = c.args.opening.now in
    let version = opening.version.now in
    let test = word_test opening.looks opening.lists.now.stems c.args.test.now in
    let marks = c.args.marks.now.items in
    let number = c.loop-number.number in
    elim c.if-index.branch [
      | then-index+in_ok-push_passing w ↦
          w.numbers-is
          ∙ w.in_ok-push_passing.ensures
          ∙ ap (λ (numbers : List ℕ). numbers ++ cond (test (term_at number version).word) (number ∷ []) []) c.loop-number.invariant
          ∙ sym (first_more (λ n. test (term_at n version).word) number)
      | else-index w ↦
          let below : number < length marks = omega (arith, c.loop-number-test.true, c.len-number-end.ensures) in
          let unmarked = get_or_default marks number false c.index.result.now below ∙ sym c.index.ensures ∙ w.if-index.false in
          w.numbers-is ∙ c.loop-number.invariant ∙ sym (unmarked_more version test marks number c.requires.all (omega (arith, below, c.requires.size)) unmarked)
    ]
