-- What each kind of opened selection shows.
use Rattle.std.proofs.Common.{◌≡◌, refl, ap, ◌∙◌, List, [], ◌∷◌, map, rules, Global}
use Rattle.std.specs.declared.vec.Vec.{Vec}
use Rattle.plan_runs.specs.steps.OpenedOperators.{aims_of}
use Rattle.match_marks.specs.steps.ShownRuns.{Choosing, Showing, choice_of, choosing, each_of, first_of, in_window, least_of, nothing_shown, part_layer, showing, shown_layer}
use Rattle.match_marks.specs.steps.WindowRuns.{all_aims}
use Rattle.match_marks.specs.declared.shown.FirstRun.{FirstRun}
use Rattle.match_marks.specs.declared.shown.LeastRun.{LeastRun}
use Rattle.match_marks.specs.declared.shown.Shown.{Shown, First, Or, And, Nothing, Least, Window, the_lemmas}
use Rattle.match_marks.specs.declared.shown.ShownRun.{ShownRun, fold-ShownRun}
use Rattle.match_marks.specs.declared.shown.WindowRun.{WindowRun}

pub showing-First : (run : FirstRun) → showing (First run) ≡ first_of run.most (aims_of run.tuples)
unfolding showing
showing-First run = search (rules, the_lemmas)

pub showing-Nothing : showing Nothing ≡ nothing_shown
unfolding showing
showing-Nothing = search (rules, the_lemmas)

pub showing-Least : (run : LeastRun) → showing (Least run) ≡ least_of (aims_of run.tuples)
unfolding showing
showing-Least run = search (rules, the_lemmas)

pub showing-Window : (run : WindowRun) → showing (Window run) ≡ in_window run.size (all_aims run.phrases.items)
unfolding showing
showing-Window run = search (rules, the_lemmas)

pub showing-And : (parts : Vec Shown Global) → showing (And parts) ≡ each_of (map showing parts.items)
unfolding showing
showing-And parts = search (rules, the_lemmas)

folded_run : ShownRun → Choosing
folded_run = fold-ShownRun Showing Choosing shown_layer part_layer

run-folded : (run : ShownRun) → folded_run run ≡ choosing run
unfolding showing folded_run
run-folded run = search (rules, the_lemmas)

showing-runs : (parts : Vec ShownRun Global) → showing (Or parts) ≡ choice_of (map folded_run parts.items)
unfolding showing folded_run
showing-runs parts = search (rules, the_lemmas)

runs-folded : (runs : List ShownRun) → map folded_run runs ≡ map choosing runs
runs-folded [] = refl
runs-folded (run ∷ rest) = λ i. run-folded run i ∷ runs-folded rest i

pub showing-Or : (parts : Vec ShownRun Global) → showing (Or parts) ≡ choice_of (map choosing parts.items)
showing-Or parts = showing-runs parts ∙ ap choice_of (runs-folded parts.items)
