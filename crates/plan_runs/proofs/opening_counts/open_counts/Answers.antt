-- The words and their cursors are those of the plan.
use Rattle.std.proofs.Common.{◌∙◌, List, ap, map}
use Rattle.plan_compiler.specs.declared.counted_plan.CountedWords.{CountedWords}
use Rattle.plan_runs.specs.steps.Counts.{TermCounts, group_sizes, opened_count}
use Rattle.plan_runs.proofs.opening_counts.open_counts.Goals as goal

pub returns-in-Ok : goal.returns-in-Ok
returns-in-Ok c =
    let opening = c.args.opening.now in
    let words = c.in_ok-words.ensures ∙ ap (λ (items : List CountedWords). map (opened_count opening.looks opening.lists.now.stems opening.version.now) items) c.as_slice.ensures in
    let bounds = c.in-Ok.ensures.bounds ∙ ap (λ (found : List TermCounts). map (λ (item : TermCounts). (item.least, item.most)) found) words in
    let fronts = c.in-Ok.ensures.fronts ∙ ap (λ (found : List TermCounts). map (λ (item : TermCounts). group_sizes item.groups) found) words in
    let backs = c.in-Ok.ensures.backs ∙ ap (λ (found : List TermCounts). map (λ (item : TermCounts). group_sizes item.groups) found) words in
    λ i. record { field = c.args.plan.now.field; words = words i; bounds = bounds i; fronts = fronts i; backs = backs i }
