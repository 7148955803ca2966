-- The least places of the parts, and what the walk over the strings shows, give the first of all faults.
use Rattle.std.proofs.Common.{None, ap, ◌∙◌}
use Rattle.selection_grammar.specs.View.{tree}
use Rattle.selection_faults.specs.Kinds.{fault_at}
use Rattle.selection_faults.specs.LeastPlaces.{least_places}
use Rattle.selection_faults.specs.Strings.{strings_of, phrases_past}
use Rattle.selection_faults.specs.steps.Walk.{start, after_all}
use Rattle.selection_faults.specs.declared.least_places.LeastPlaces.{LeastPlaces}
use Rattle.selection_faults.specs.declared.strings.StringWalk.{StringWalk}
use Rattle.selection_faults.proofs.KindsLemmas.{fault_of_tree}
use Rattle.selection_faults.proofs.WalkLemmas.{past_walked, bad_walked}
use Rattle.selection_faults.proofs.faults.first_fault.Goals as goal

pub returns : goal.returns
unfolding least_places
returns c =
    let t = tree c.args.parsed.now in
    let strings = strings_of t in
    let places = c.least_places.result in
    let least = least_places t in
    c.fault.ensures
    ∙ ap (λ (walk : StringWalk). fault_at walk.past_at places.options_twice walk.bad_at places.mild_not_excludes places.inside_filters) (c.in_ok-pass.ensures ∙ ap (λ walk. after_all walk strings) c.no_strings-strings.ensures)
    ∙ ap (λ (p : LeastPlaces). fault_at (after_all start strings).past_at p.options_twice (after_all start strings).bad_at p.mild_not_excludes p.inside_filters) c.least_places.ensures
    ∙ ap (λ past. fault_at past least.options_twice (after_all start strings).bad_at least.mild_not_excludes least.inside_filters) (past_walked 0 None strings)
    ∙ ap (λ bad. fault_at (phrases_past 0 strings) least.options_twice bad least.mild_not_excludes least.inside_filters) (bad_walked start strings)
    ∙ fault_of_tree t
