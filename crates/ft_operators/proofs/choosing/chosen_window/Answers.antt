-- The window of a number is that of the choice of this number.
use Rattle.std.proofs.Common.{◌∙◌, ◌<◌, sym, ap, subst, length, get_or, arith, Some, None}
use Rattle.all_matches.specs.Filters.{choices}
use Rattle.all_matches.specs.Join.{join}
use Rattle.ft_operators.specs.Course.{asked_for}
use Rattle.ft_operators.proofs.TellingLemmas.{nth_window}
use Rattle.all_matches.specs.Positions.{end_in}
use Rattle.ft_operators.proofs.WindowLemmas.{lead_few, window_below, window_got}
use Rattle.ft_operators.proofs.choosing.chosen_window.Goals as goal

pub window_number-number-requires : goal.window_number-number-requires
window_number-number-requires c =
    lead_few c.args.windows c.in-Window.size c.in-Window.unit c.args.hits.now c.in-Some.joined c.args.lead (sym c.in-Some.is ∙ c.join.ensures.joined ∙ ap join c.of.ensures.hits)
    (subst (λ kind. c.args.lead < length (asked_for c.args.windows (choices kind c.args.hits.now))) c.in-Window.is c.requires)

pub window_of-requires : goal.window_of-requires
window_of-requires c =
    let below =
    window_below c.args.windows c.in-Window.size c.in-Window.unit c.args.hits.now c.in-Some.joined c.args.lead (sym c.in-Some.is ∙ c.join.ensures.joined ∙ ap join c.of.ensures.hits)
    (subst (λ kind. c.args.lead < length (asked_for c.args.windows (choices kind c.args.hits.now))) c.in-Window.is c.requires) in
    omega (arith, below, c.window_number-number.ensures)

pub returns-in-Some : goal.returns-in-Some
returns-in-Some c =
    let is = sym c.in-Some.is ∙ c.join.ensures.joined ∙ ap join c.of.ensures.hits in
    let below = subst (λ kind. c.args.lead < length (asked_for c.args.windows (choices kind c.args.hits.now))) c.in-Window.is c.requires in
    ap Some (c.window_of.ensures ∙ ap (nth_window c.in-Window.size (end_in c.in-Window.unit c.in-Some.joined)) c.window_number-number.ensures)
    ∙ window_got c.args.windows c.in-Window.size c.in-Window.unit c.args.hits.now c.in-Some.joined c.args.lead is below
    ∙ ap (λ kind. get_or (asked_for c.args.windows (choices kind c.args.hits.now)) c.args.lead None) (sym c.in-Window.is)
