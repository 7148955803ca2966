-- What was put into the box is what the node has inside.
use Rattle.std.proofs.Common.{◌∙◌, ap}
use Rattle.ft_operators.specs.steps.Forms.{negated_shape}
use Rattle.ft_operators.specs.steps.Nodes.{negation_frame, shape_of}
use Rattle.ft_operators.proofs.FrameLemmas.{frame_Negated, shape_Negated}
use Rattle.ft_operators.proofs.building.negated_node.Goals as goal

pub returns-in-Ok : goal.returns-in-Ok
returns-in-Ok g c = record {
  framed = frame_Negated g.P.PhraseHits.state c.in-Ok.negation ∙ ap (negation_frame g.P.PhraseHits.state) c.in-Ok.ensures.ok;
  shaped = shape_Negated g.P.PhraseHits.state c.in-Ok.negation ∙ ap (λ x. negated_shape (shape_of x.operand)) c.in-Ok.ensures.ok;
}
