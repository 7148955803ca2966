-- The joined hit leaves so many windows, and so many of them are asked for.
use Rattle.std.proofs.Common.{◌≡◌, ◌∙◌, ◌+◌, ◌-◌, sym, ap, arith}
use Rattle.all_matches.specs.Join.{join}
use Rattle.all_matches.specs.Positions.{start_in, end_in}
use Rattle.ft_operators.proofs.WindowLemmas.{count_among, count_asked}
use Rattle.ft_operators.proofs.choosing.window_count.Goals as goal

pub returns-in-Each : goal.returns-in-Each
returns-in-Each c =
    let joined = c.in-Some.joined in
    let all : c.saturating_sub-all.result ≡ (start_in c.args.unit joined + c.args.size) - end_in c.args.unit joined =
    omega (arith, c.saturating_sub-all.ensures, c.from.ensures, c.start_in.ensures, c.from-in-Some.ensures, c.from-in-Some-2.ensures, c.end_in.ensures) in
    all ∙ ap (λ w. count_among w c.args.size (end_in c.args.unit joined) ((start_in c.args.unit joined + c.args.size) - end_in c.args.unit joined)) (sym c.in-Each.is)
    ∙ count_asked c.args.windows c.args.size c.args.unit c.args.hits.now joined (sym c.in-Some.is ∙ c.join.ensures.joined ∙ ap join c.of.ensures.hits)

pub returns-in-Telling : goal.returns-in-Telling
returns-in-Telling c =
    let joined = c.in-Some.joined in
    let all : c.saturating_sub-all.result ≡ (start_in c.args.unit joined + c.args.size) - end_in c.args.unit joined =
    omega (arith, c.saturating_sub-all.ensures, c.from.ensures, c.start_in.ensures, c.from-in-Some.ensures, c.from-in-Some-2.ensures, c.end_in.ensures) in
    (λ i. all i - c.passed_over.ensures i)
    ∙ ap (λ w. count_among w c.args.size (end_in c.args.unit joined) ((start_in c.args.unit joined + c.args.size) - end_in c.args.unit joined)) (sym c.in-Telling.is)
    ∙ count_asked c.args.windows c.args.size c.args.unit c.args.hits.now joined (sym c.in-Some.is ∙ c.join.ensures.joined ∙ ap join c.of.ensures.hits)
