-- Before a text, and after an element, anything may stand.
use Rattle.std.proofs.Common.{◌≡◌, ◌+◌, ◌-◌, ◌<◌, length, take, ap, ◌∙◌, arith}
use Rattle.plain_tree.specs.Document.{are_joined}
use Rattle.plain_tree.specs.Edits.{append}
use Rattle.plain_tree.proofs.RangesJoined.{prefix_of_text, after_an_element}
use Rattle.plain_tree.proofs.TreesJoined.{row}
use Rattle.plain_tree.proofs.replacing.before_text.Goals as goal

pub returns-in-Text-clause-apart : goal.returns-in-Text-clause-apart
returns-in-Text-clause-apart c =
    let here : c.args.number - 1 < length c.args.row.now = omega (arith, c.if-number-eq0.false, c.requires.within) in
    prefix_of_text c.args.row.now c.requires.joined (c.args.number - 1) c.index-row-number.result here c.index-row-number.is c.in-Text.text c.in-Text.is

pub returns-in-Elem-clause-apart : goal.returns-in-Elem-clause-apart
returns-in-Elem-clause-apart c =
    let here : c.args.number - 1 < length c.args.row.now = omega (arith, c.if-number-eq0.false, c.requires.within) in
    let same : c.args.number ≡ c.args.number - 1 + 1 = omega (arith, c.if-number-eq0.false) in
    λ ns h.
    ap (λ k. are_joined (append (row (take k c.args.row.now)) ns)) same
    ∙ after_an_element c.args.row.now c.requires.joined (c.args.number - 1) c.index-row-number.result here c.index-row-number.is c.in-Elem.name c.in-Elem.attrs c.in-Elem.kids c.in-Elem.is ns h
