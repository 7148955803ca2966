-- The slot of the text.
use Rattle.std.proofs.Common.{None, set, sym, ap, ◌∙◌}
use Rattle.ordered_tree.specs.declared.slot.Held.TheVariants.{Text}
use Rattle.ordered_tree.proofs.PlacingLemmas.{placed-text}
use Rattle.ordered_tree.proofs.placing.place_text.Goals as goal

pub returns-clause-slots : goal.returns-clause-slots
returns-clause-slots c =
    ap (λ w. set c.args.slots.now.items c.args.node.0 (record { held = Text c.args.text; around = c.args.around; first_child = None; last_child = None; words = w })) c.word_count-words.ensures
    ∙ sym (placed-text c.args.around c.args.node c.args.text c.args.slots.now.items)
