-- What the hits make one after the other, with their cover, is the joined hit.
use Rattle.std.proofs.Common.{◌∙◌, sym, ap, Some}
use Rattle.all_matches.specs.Join.{join}
use Rattle.window_distance.proofs.JoinLemmas.{joined-none, joined-some}
use Rattle.window_distance.proofs.joining.join.Goals as goal

pub returns-in-None : goal.returns-in-None
returns-in-None c = record { joined = joined-none c.hits-hits.result.now (sym c.in-None.is ∙ c.wide.ensures) ∙ ap join c.hits-hits.ensures.hits }

pub returns-in-Some : goal.returns-in-Some
returns-in-Some c = record {
  joined = ap Some c.with_cover.ensures ∙ joined-some c.hits-hits.result.now c.in-Some.joined (sym c.in-Some.is ∙ c.wide.ensures) ∙ ap join c.hits-hits.ensures.hits;
}
