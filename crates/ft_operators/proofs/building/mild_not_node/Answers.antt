-- What was put into the box is what the node has inside.
use Rattle.std.proofs.Common.{◌∙◌, ap}
use Rattle.ft_operators.specs.steps.Forms.{apart_shape}
use Rattle.ft_operators.specs.steps.Nodes.{apart_pair_frame, shape_of}
use Rattle.ft_operators.proofs.FrameLemmas.{frame_MildNot, shape_MildNot}
use Rattle.ft_operators.proofs.building.mild_not_node.Goals as goal

pub returns-in-Ok : goal.returns-in-Ok
returns-in-Ok g c = record {
  framed = frame_MildNot g.P.PhraseHits.state c.in-Ok.pair ∙ ap (apart_pair_frame g.P.PhraseHits.state) c.in-Ok.ensures.ok;
  shaped = shape_MildNot g.P.PhraseHits.state c.in-Ok.pair ∙ ap (λ x. apart_shape (shape_of x.left) (shape_of x.right)) c.in-Ok.ensures.ok;
}
