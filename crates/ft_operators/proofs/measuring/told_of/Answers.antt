-- Unit by unit.
use Rattle.ft_operators.specs.steps.Nodes.{frame_of}
use Rattle.ft_operators.proofs.MeasureLemmas.{told_each}
use Rattle.ft_operators.proofs.measuring.told_of.Goals as goal

pub returns : goal.returns
returns g c =
    let at = frame_of g.P.PhraseHits.state in
    told_each (at c.args.node.now) (at c.extents_inside-words.new.node) (at c.told_in-sentences.new.node) (at c.told_in-paragraphs.new.node) c.args.steps.now c.extents_inside-words.new.steps c.told_in-sentences.new.steps
    c.told_in-paragraphs.new.steps c.extents_inside-words.result c.told_in-sentences.result c.told_in-paragraphs.result c.extents_inside-words.ensures c.told_in-sentences.ensures c.told_in-paragraphs.ensures
