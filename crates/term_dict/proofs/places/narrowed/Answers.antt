-- The term in the middle tells in which half the place is.
use Rattle.std.proofs.Common.{◌+◌, ◌-◌, ◌/◌, ◌<◌, length, sym, ◌∙◌, arith}
use Rattle.index_meaning.specs.Dictionaries.{entries}
use Rattle.term_dict.proofs.ReadLemmas.{window_after, window_prefix}
use Rattle.term_dict.proofs.places.narrowed.Goals as goal

pub returns-then-stands_before-clause-window : goal.returns-then-stands_before-clause-window
returns-then-stands_before-clause-window c =
    let es = entries c.args.terms.now.terms in
    let middle = c.args.low + (c.args.high - c.args.low) / 2 in
    let within : middle < length es = omega (arith, c.requires.some, c.requires.window.within) in
    window_after c.args.place c.args.sought.now es middle c.args.low c.args.high c.entry_in.result c.requires.sorted within c.entry_in.ensures
    (sym c.stands_before.ensures ∙ c.if-stands_before.true) c.requires.window

pub returns-clause-window : goal.returns-clause-window
returns-clause-window c =
    let es = entries c.args.terms.now.terms in
    let middle = c.args.low + (c.args.high - c.args.low) / 2 in
    let within : middle < length es = omega (arith, c.requires.some, c.requires.window.within) in
    window_prefix c.args.place c.args.sought.now es middle c.args.low c.args.high c.entry_in.result c.requires.sorted within c.entry_in.ensures
    (sym c.stands_before.ensures ∙ c.if-stands_before.false) c.requires.window
