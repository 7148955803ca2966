-- What was put into the box is what the node has inside.
use Rattle.std.proofs.Common.{◌∙◌, ap}
use Rattle.ft_operators.specs.steps.Forms.{both_shape}
use Rattle.ft_operators.specs.steps.Nodes.{both_pair_frame, shape_of}
use Rattle.ft_operators.proofs.FrameLemmas.{frame_Both, shape_Both}
use Rattle.ft_operators.proofs.building.both_node.Goals as goal

pub returns-in-Ok : goal.returns-in-Ok
returns-in-Ok g c = record {
  framed = frame_Both g.P.PhraseHits.state c.in-Ok.pair ∙ ap (both_pair_frame g.P.PhraseHits.state) c.in-Ok.ensures.ok;
  shaped = shape_Both g.P.PhraseHits.state c.in-Ok.pair ∙ ap (λ x. both_shape (shape_of x.left) (shape_of x.right)) c.in-Ok.ensures.ok;
}
