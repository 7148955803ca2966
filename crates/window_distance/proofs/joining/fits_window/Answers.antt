-- Whether the joined hit is whole doesn't matter to a window.
use Rattle.std.proofs.Common.{◌∙◌, sym, ap}
use Rattle.all_matches.specs.Window.{fits_window}
use Rattle.window_distance.proofs.JoinLemmas.{fits-is}
use Rattle.window_distance.proofs.joining.fits_window.Goals as goal

pub returns-in-None : goal.returns-in-None
returns-in-None c = ap (fits_window c.args.size c.args.unit) (sym c.in-None.is ∙ c.wide.ensures) ∙ fits-is c.args.size c.args.unit c.args.hits.now

pub returns-in-Some : goal.returns-in-Some
returns-in-Some c = c.fits.ensures ∙ ap (fits_window c.args.size c.args.unit) (sym c.in-Some.is ∙ c.wide.ensures) ∙ fits-is c.args.size c.args.unit c.args.hits.now
