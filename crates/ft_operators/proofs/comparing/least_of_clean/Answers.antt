-- Each way is looked at once; what is kept of those that were passed over and the ways that are left have the least of all.
use Rattle.std.proofs.Common.{refl, ap, sym, ◌∙◌, rules, Bool, List}
use Rattle.std.specs.Prelude.{None}
use Rattle.all_matches.specs.Chain.{Link, kept_by}
use Rattle.all_matches.specs.Ways.{clean_under}
use Rattle.ft_operators.specs.Chains.{links_of}
use Rattle.ft_operators.specs.Course.{ways_on}
use Rattle.ft_operators.specs.steps.Cleaning.{tells}
use Rattle.ft_operators.specs.steps.Comparing.{least_after, lesser_now, so_far}
use Rattle.ft_operators.specs.steps.Nodes.{standing}
use Rattle.ft_operators.specs.steps.Ordering.{rise}
use Rattle.ft_operators.proofs.ComparingLemmas.{comparing_ends, first_kept}
use Rattle.ft_operators.proofs.OrderedWays.{ways-rise}
use Rattle.ft_operators.proofs.comparing.least_of_clean.Goals as goal

pub loop-there-init : goal.loop-there-init
loop-there-init g c =
    let stand = c.first-there.ensures.stand in
    let test = clean_under (kept_by (links_of c.args.chain.now)) in
    record {
      walk = search rules;
      there_now = search rules;
      passed = λ told. ap (λ s. least_after test None s.rest) stand;
      none = λ e. c.clear.ensures.items;
      waits = λ e. refl;
      rising = λ e. ap (λ s. rise s.rest) stand ∙ ways-rise c.args.course (standing g.P.PhraseHits.state c.args.course c.args.node.now).operator (c.requires.order e);
    }

-- where the ways come in order nothing was kept before, and the first clean way has the least
pub returns-then-in_order-clause-least : goal.returns-then-in_order-clause-least
returns-then-in_order-clause-least g c told =
    let now = standing g.P.PhraseHits.state c.args.course c.loop-there.node in
    let old = standing g.P.PhraseHits.state c.args.course c.args.node.now in
    let test = clean_under (kept_by (links_of c.args.chain.now)) in
    let hits = c.keep_if_clean.new.least.items in
    let kept = c.loop-there.least.items in
    let walk = c.loop-there.invariant.walk in
    let none = c.loop-there.invariant.waits c.if-in_order.true in
    let known = ap (λ f. tells c.args.course f.operator) walk.same ∙ told in
    first_kept test (ways_on c.args.course old.operator) now.rest hits (c.loop-there.invariant.rising c.if-in_order.true)
    (sym (ap (λ (any : Bool). least_after test (so_far any kept) now.rest) none) ∙ c.loop-there.invariant.passed told)
    (sym (ap (λ (any : Bool). so_far any hits) c.if-any.true)
    ∙ c.in_ok-any.ensures.least.now known
    ∙ ap (λ (any : Bool). lesser_now (clean_under (kept_by (links_of c.loop-there.chain))) (so_far any kept) now.rest) none
    ∙ ap (λ (links : List Link). lesser_now (clean_under (kept_by links)) None now.rest) walk.kept.links)

pub returns-clause-least : goal.returns-clause-least
returns-clause-least g c told = comparing_ends c.args.course _ _ _ _ _ _ _ _ _ _ _ _ c.loop-there.invariant c.loop-there-test.false told
