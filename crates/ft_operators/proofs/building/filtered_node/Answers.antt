-- What was put into the box is what the node has inside.
use Rattle.std.proofs.Common.{◌∙◌, ap}
use Rattle.ft_operators.specs.steps.Forms.{filtered_shape}
use Rattle.ft_operators.specs.steps.Nodes.{sieve_frame, shape_of}
use Rattle.ft_operators.proofs.FrameLemmas.{frame_Filtered, shape_Filtered}
use Rattle.ft_operators.proofs.building.filtered_node.Goals as goal

pub returns-in-Ok : goal.returns-in-Ok
returns-in-Ok g c = record {
  framed = frame_Filtered g.P.PhraseHits.state c.in-Ok.sieve ∙ ap (sieve_frame g.P.PhraseHits.state) c.in-Ok.ensures.ok;
  shaped = shape_Filtered g.P.PhraseHits.state c.in-Ok.sieve ∙ ap (λ x. filtered_shape (shape_of x.operand)) c.in-Ok.ensures.ok;
}
