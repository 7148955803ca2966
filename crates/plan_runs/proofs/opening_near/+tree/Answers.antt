-- Each kind is opened by its operands.
use Rattle.std.proofs.Common.{◌≡◌, ◌++◌, rules}
use Rattle.std.proofs.lemmas.Bool.{and_parts}
use Rattle.std.proofs.lemmas.Result.{IfOk-weaker}
use Rattle.all_matches.specs.Ways.{either, together, through_filter}
use Rattle.ft_operators.specs.Standing.{one_aims, two_aims}
use Rattle.index_phrases.specs.Cursors.{state_of}
use Rattle.index_phrases.specs.declared.phrase_cursor.PhraseCursor.{PhraseCursor}
use Rattle.phrase_merges.specs.Near.{is_field}
use Rattle.phrase_merges.specs.NearTrees.{lists_aims, near_aims, near_lists}
use Rattle.phrase_merges.specs.declared.near_tree.NearTree.{NearTree}
use Rattle.plan_compiler.specs.declared.operator_plan.OperatorPlan.{the_lemmas}
use Rattle.plan_kinds.specs.steps.NearPlans.{is_near}
use Rattle.plan_runs.specs.steps.NearRuns.{near_opened, variant_lists}
use Rattle.plan_runs.specs.steps.Passes.{phrase_variants}
use Rattle.plan_runs.proofs.NearViews.{aims-Both, aims-Choice, aims-Filtered, aims-Phrase, lists-Both, lists-Choice, lists-Filtered, lists-Phrase, near_both, near_choice, near_operand, no_mild_not, no_negated}
use Rattle.plan_runs.proofs.opening_near.+tree.Goals as goal

pub open_tree-open_sides-requires : goal.open_tree-open_sides-requires
open_tree-open_sides-requires t c = (search (rules, the_lemmas), near_choice c.args.plan.now c.requires c.in-Choice.sides c.deref.result.now c.deref.ensures c.in-Choice.is)

pub open_tree-open_sides-requires-in-Both : goal.open_tree-open_sides-requires-in-Both
open_tree-open_sides-requires-in-Both t c = (search (rules, the_lemmas), near_both c.args.plan.now c.requires c.in-Both.sides c.deref-in-Both.result.now c.deref-in-Both.ensures c.in-Both.is)

pub open_tree-unreachable-requires : goal.open_tree-unreachable-requires
open_tree-unreachable-requires t c = no_mild_not c.args.plan.now c.requires c.in-MildNot._sides c.in-MildNot.is

pub open_tree-unreachable-requires-in-Negated : goal.open_tree-unreachable-requires-in-Negated
open_tree-unreachable-requires-in-Negated t c = no_negated c.args.plan.now c.requires c.in-Negated._plan c.in-Negated.is

pub open_tree-open_tree-requires : goal.open_tree-open_tree-requires
open_tree-open_tree-requires t c =
    let lent = c.deref-in-Filtered.result.now in
    (search (rules, the_lemmas), (and_parts (is_field lent.kind) (is_near lent.operand) (near_operand c.args.plan.now c.requires c.in-Filtered.plan lent c.deref-in-Filtered.ensures c.in-Filtered.is)).1)

pub open_tree-within-requires : goal.open_tree-within-requires
open_tree-within-requires t c =
    let lent = c.deref-in-Filtered-2.result.now in
    (and_parts (is_field lent.kind) (is_near lent.operand) (near_operand c.args.plan.now c.requires c.in-Filtered.plan lent c.deref-in-Filtered-2.ensures c.in-Filtered.is)).0

pub open_tree-returns-in-Phrase-clause-aims : goal.open_tree-returns-in-Phrase-clause-aims
open_tree-returns-in-Phrase-clause-aims t c =
    let opening = c.args.opening.now in
    let looks = opening.looks in
    let stems = opening.lists.now.stems in
    let version = opening.version.now in
    IfOk-weaker c.open_phrase.result (λ (tree : NearTree PhraseCursor). near_aims state_of tree ≡ lists_aims (phrase_variants looks stems version c.in-Phrase.phrase))
    (λ (tree : NearTree PhraseCursor). near_aims state_of tree ≡ near_opened looks stems version c.args.plan.now)
    (λ tree one. aims-Phrase looks stems version c.args.plan.now tree c.in-Phrase.phrase c.in-Phrase.is one)
    c.open_phrase.ensures.aims

pub open_tree-returns-in-Phrase-clause-lists : goal.open_tree-returns-in-Phrase-clause-lists
open_tree-returns-in-Phrase-clause-lists t c =
    let opening = c.args.opening.now in
    let looks = opening.looks in
    let stems = opening.lists.now.stems in
    let version = opening.version.now in
    IfOk-weaker c.open_phrase.result (λ (tree : NearTree PhraseCursor). near_lists state_of tree ≡ phrase_variants looks stems version c.in-Phrase.phrase)
    (λ (tree : NearTree PhraseCursor). near_lists state_of tree ≡ variant_lists looks stems version c.args.plan.now)
    (λ tree one. lists-Phrase looks stems version c.args.plan.now tree c.in-Phrase.phrase c.in-Phrase.is one)
    c.open_phrase.ensures.lists

pub open_tree-returns-in_ok-left-in-Choice-clause-aims : goal.open_tree-returns-in_ok-left-in-Choice-clause-aims
open_tree-returns-in_ok-left-in-Choice-clause-aims t c =
    let opening = c.args.opening.now in
    let looks = opening.looks in
    let stems = opening.lists.now.stems in
    let version = opening.version.now in
    IfOk-weaker c.either.result (λ (tree : NearTree PhraseCursor). near_aims state_of tree ≡ two_aims either (near_aims state_of c.in_ok-left-in-Choice.left) (near_aims state_of c.in_ok-left-in-Choice.right))
    (λ (tree : NearTree PhraseCursor). near_aims state_of tree ≡ near_opened looks stems version c.args.plan.now)
    (λ tree made.
    aims-Choice looks stems version c.args.plan.now tree c.in-Choice.sides c.deref.result.now c.deref.ensures c.in_ok-left-in-Choice.left c.in_ok-left-in-Choice.right
    c.in_ok-left-in-Choice.ensures.left c.in_ok-left-in-Choice.ensures.right c.in-Choice.is made)
    c.either.ensures.aims

pub open_tree-returns-in_ok-left-in-Choice-clause-lists : goal.open_tree-returns-in_ok-left-in-Choice-clause-lists
open_tree-returns-in_ok-left-in-Choice-clause-lists t c =
    let opening = c.args.opening.now in
    let looks = opening.looks in
    let stems = opening.lists.now.stems in
    let version = opening.version.now in
    IfOk-weaker c.either.result (λ (tree : NearTree PhraseCursor). near_lists state_of tree ≡ near_lists state_of c.in_ok-left-in-Choice.left ++ near_lists state_of c.in_ok-left-in-Choice.right)
    (λ (tree : NearTree PhraseCursor). near_lists state_of tree ≡ variant_lists looks stems version c.args.plan.now)
    (λ tree made.
    lists-Choice looks stems version c.args.plan.now tree c.in-Choice.sides c.deref.result.now c.deref.ensures c.in_ok-left-in-Choice.left c.in_ok-left-in-Choice.right
    c.in_ok-left-in-Choice.ensures.left_lists c.in_ok-left-in-Choice.ensures.right_lists c.in-Choice.is made)
    c.either.ensures.lists

pub open_tree-returns-in_ok-left-in-Both-clause-aims : goal.open_tree-returns-in_ok-left-in-Both-clause-aims
open_tree-returns-in_ok-left-in-Both-clause-aims t c =
    let opening = c.args.opening.now in
    let looks = opening.looks in
    let stems = opening.lists.now.stems in
    let version = opening.version.now in
    IfOk-weaker c.both.result (λ (tree : NearTree PhraseCursor). near_aims state_of tree ≡ two_aims together (near_aims state_of c.in_ok-left-in-Both.left) (near_aims state_of c.in_ok-left-in-Both.right))
    (λ (tree : NearTree PhraseCursor). near_aims state_of tree ≡ near_opened looks stems version c.args.plan.now)
    (λ tree made.
    aims-Both looks stems version c.args.plan.now tree c.in-Both.sides c.deref-in-Both.result.now c.deref-in-Both.ensures c.in_ok-left-in-Both.left c.in_ok-left-in-Both.right
    c.in_ok-left-in-Both.ensures.left c.in_ok-left-in-Both.ensures.right c.in-Both.is made)
    c.both.ensures.aims

pub open_tree-returns-in_ok-left-in-Both-clause-lists : goal.open_tree-returns-in_ok-left-in-Both-clause-lists
open_tree-returns-in_ok-left-in-Both-clause-lists t c =
    let opening = c.args.opening.now in
    let looks = opening.looks in
    let stems = opening.lists.now.stems in
    let version = opening.version.now in
    IfOk-weaker c.both.result (λ (tree : NearTree PhraseCursor). near_lists state_of tree ≡ near_lists state_of c.in_ok-left-in-Both.left ++ near_lists state_of c.in_ok-left-in-Both.right)
    (λ (tree : NearTree PhraseCursor). near_lists state_of tree ≡ variant_lists looks stems version c.args.plan.now)
    (λ tree made.
    lists-Both looks stems version c.args.plan.now tree c.in-Both.sides c.deref-in-Both.result.now c.deref-in-Both.ensures c.in_ok-left-in-Both.left c.in_ok-left-in-Both.right
    c.in_ok-left-in-Both.ensures.left_lists c.in_ok-left-in-Both.ensures.right_lists c.in-Both.is made)
    c.both.ensures.lists

pub open_tree-returns-in_ok-operand-in-Filtered-clause-aims : goal.open_tree-returns-in_ok-operand-in-Filtered-clause-aims
open_tree-returns-in_ok-operand-in-Filtered-clause-aims t c =
    let opening = c.args.opening.now in
    let looks = opening.looks in
    let stems = opening.lists.now.stems in
    let version = opening.version.now in
    IfOk-weaker c.within.result
    (λ (tree : NearTree PhraseCursor). near_aims state_of tree ≡ one_aims (λ operator. through_filter operator c.deref-in-Filtered-2.result.now.kind) (near_aims state_of c.in_ok-operand-in-Filtered.operand))
    (λ (tree : NearTree PhraseCursor). near_aims state_of tree ≡ near_opened looks stems version c.args.plan.now)
    (λ tree made.
    aims-Filtered looks stems version c.args.plan.now tree c.in-Filtered.plan c.deref-in-Filtered.result.now c.deref-in-Filtered-2.result.now
    c.deref-in-Filtered.ensures c.deref-in-Filtered-2.ensures c.in_ok-operand-in-Filtered.operand c.in-Filtered.is c.in_ok-operand-in-Filtered.ensures.aims made)
    c.within.ensures.aims

pub open_tree-returns-in_ok-operand-in-Filtered-clause-lists : goal.open_tree-returns-in_ok-operand-in-Filtered-clause-lists
open_tree-returns-in_ok-operand-in-Filtered-clause-lists t c =
    let opening = c.args.opening.now in
    let looks = opening.looks in
    let stems = opening.lists.now.stems in
    let version = opening.version.now in
    IfOk-weaker c.within.result
    (λ (tree : NearTree PhraseCursor). near_lists state_of tree ≡ near_lists state_of c.in_ok-operand-in-Filtered.operand)
    (λ (tree : NearTree PhraseCursor). near_lists state_of tree ≡ variant_lists looks stems version c.args.plan.now)
    (λ tree made.
    lists-Filtered looks stems version c.args.plan.now tree c.in-Filtered.plan c.deref-in-Filtered.result.now c.deref-in-Filtered-2.result.now
    c.deref-in-Filtered.ensures c.deref-in-Filtered-2.ensures c.in_ok-operand-in-Filtered.operand c.in-Filtered.is c.in_ok-operand-in-Filtered.ensures.lists made)
    c.within.ensures.lists
