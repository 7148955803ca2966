-- No text stands after a text, and an element is none.
use Rattle.std.proofs.Common.{◌<◌, length, arith}
use Rattle.std.proofs.lemmas.Bool.Decides.{nat_tests}
use Rattle.plain_tree.proofs.RangesJoined.{after_a_text, prefix_of_element}
use Rattle.plain_tree.proofs.replacing.after_text.Goals as goal

pub returns-in-Text-clause-apart : goal.returns-in-Text-clause-apart
returns-in-Text-clause-apart c =
    let here : c.args.number < length c.args.row.now = grind (arith, nat_tests) in
    after_a_text c.args.row.now c.requires.joined c.args.number c.index-row-number.result here c.index-row-number.is c.in-Text.text c.in-Text.is

pub returns-in-Elem-clause-apart : goal.returns-in-Elem-clause-apart
returns-in-Elem-clause-apart c =
    let here : c.args.number < length c.args.row.now = grind (arith, nat_tests) in
    prefix_of_element c.args.row.now c.requires.joined c.args.number c.index-row-number.result here c.index-row-number.is c.in-Elem.name c.in-Elem.attrs c.in-Elem.kids c.in-Elem.is
