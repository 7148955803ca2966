-- What stands to the left leads on as it does where the last path is an ignored one.
use Rattle.std.proofs.Common.{[], map, option_map, subst, ap, ◌∙◌}
use Rattle.path_grammar.specs.View.{condition}
use Rattle.path_grammar.specs.steps.Machine as m
use Rattle.path_subset.specs.steps.State.{Leads, frames_of, ignoring_of, steps_of}
use Rattle.path_subset.proofs.Turns.{left_next}
use Rattle.path_subset.proofs.stepping.whole_steps.Goals as goal

pub returns : goal.returns
returns c = subst (λ r. Leads r c.after_condition.result)
    (ap (λ j. m.joint_next (frames_of c.args.frames.items) j (condition c.in_ok-whole.whole) [] c.args.symbol.now) c.to_left.ensures
    ∙ ap (λ w. m.joint_next (frames_of c.args.frames.items) (m.to_left (map condition c.args.joint.ors.items) (map condition c.args.joint.ands.items)) w [] c.args.symbol.now) c.in_ok-whole.ensures
    ∙ left_next (frames_of c.args.frames.items) (map condition c.args.joint.ors.items) (map condition c.args.joint.ands.items) (option_map ignoring_of c.args.joint.ignoring)
    (m.steps_condition (option_map ignoring_of c.args.joint.ignoring) (steps_of c.args.before.items)) c.args.symbol.now) c.after_condition.ensures
