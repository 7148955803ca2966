-- Its hits from the first on.
use Rattle.std.proofs.Common.{◌∙◌, ap, arith, sym}
use Rattle.std.specs.Option.{is_some}
use Rattle.ft_operators.specs.Phrases.{at_first_in}
use Rattle.ft_operators.specs.steps.Forms.{phrase_of}
use Rattle.ft_operators.proofs.PhraseLemmas.{some_hit, phrase_prefix}
use Rattle.ft_operators.proofs.walking.first_of_phrase.Goals as goal

pub returns : goal.returns
returns g c course room same = record {
  stand = ap phrase_of (c.first_in.ensures.moved ∙ ap (λ bounds. at_first_in bounds (g.P.PhraseHits.state c.args.phrase.now)) (sym same))
      ∙ phrase_prefix course (g.P.PhraseHits.state c.args.phrase.now);
  there = c.is_some.ensures ∙ ap is_some c.here.ensures.hit ∙ some_hit ((g.P.PhraseHits.state c.first_in.new.self).rest);
  kept_room = omega arith;
  grown = c.first_in.ensures.grown;
}
