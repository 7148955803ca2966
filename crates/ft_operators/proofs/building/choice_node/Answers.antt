-- What was put into the box is what the node has inside.
use Rattle.std.proofs.Common.{◌∙◌, ap}
use Rattle.ft_operators.specs.steps.Forms.{choice_shape}
use Rattle.ft_operators.specs.steps.Nodes.{fork_frame, shape_of}
use Rattle.ft_operators.proofs.FrameLemmas.{frame_Choice, shape_Choice}
use Rattle.ft_operators.proofs.building.choice_node.Goals as goal

pub returns-in-Ok : goal.returns-in-Ok
returns-in-Ok g c = record {
  framed = frame_Choice g.P.PhraseHits.state c.in-Ok.fork ∙ ap (fork_frame g.P.PhraseHits.state) c.in-Ok.ensures.ok;
  shaped = shape_Choice g.P.PhraseHits.state c.in-Ok.fork ∙ ap (λ x. choice_shape (shape_of x.left) (shape_of x.right)) c.in-Ok.ensures.ok;
}
