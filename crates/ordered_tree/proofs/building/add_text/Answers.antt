-- The new slot is that of the text where it stands, and what was read has the text's leaf and words.
use Rattle.std.proofs.Common.{◌≡◌, sym, ap, ◌∙◌, ◌+◌, ◌++◌, ◌∷◌, [], None, length, rules, arith}
use Rattle.text_words.specs.Words.{words}
use Rattle.ordered_tree.specs.Numbering.{next_sibling}
use Rattle.ordered_tree.specs.declared.slot.Held.TheVariants.{Text}
use Rattle.ordered_tree.proofs.BuildingLemmas.{stands-text}
use Rattle.ordered_tree.proofs.GatheringLemmas.{Gathers-text}
use Rattle.ordered_tree.proofs.building.add_text.Goals as goal

pub returns-clause-slots : goal.returns-clause-slots
returns-clause-slots c =
    let before = c.args.slots.now.items in
    let next = next_sibling c.args.is_last (length before + 1) in
    let pushed : c.push_text.new.slots.items ≡ before ++ record { held = Text c.args.content; around = record c.args.around { next = next }; first_child = None; last_child = None; words = length (words c.args.content) } ∷ [] = search rules in
    pushed ∙ ap (λ l. before ++ l) (sym (stands-text c.args.content (record c.args.around { next = next }) (length before)))

pub returns-clause-gathers : goal.returns-clause-gathers
returns-clause-gathers c =
    let old = c.args.read.now in
    let new = c.pass_text.new.self in
    let here = c.len-here.result in
    Gathers-text old.abbreviations.now old new c.args.content (length c.args.slots.now.items) here (omega arith)
    c.in_ok-text.ensures.gathers
