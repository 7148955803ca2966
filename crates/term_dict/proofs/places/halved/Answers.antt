-- The first term of the middle block tells in which half the place is.
use Rattle.std.proofs.Common.{◌<◌, length, sym, ◌∙◌, arith}
use Rattle.std.proofs.lemmas.List.{length-map}
use Rattle.index_meaning.specs.Dictionaries.{Term, entries}
use Rattle.term_dict.proofs.ReadLemmas.{first_there, window_after, window_prefix}
use Rattle.term_dict.proofs.places.halved.Goals as goal

pub entry_in-requires-clause-there : goal.entry_in-requires-clause-there
entry_in-requires-clause-there c =
    let some : 0 < length c.in-Some.items.now = omega arith in
    first_there c.args.terms.now.terms c.in-Some.items.now c.in-Some.start c.in-Some.ensures some

pub returns-then-stands_before-clause-window : goal.returns-then-stands_before-clause-window
returns-then-stands_before-clause-window c =
    let terms = c.args.terms.now.terms in
    let some : 0 < length c.in-Some.items.now = omega arith in
    let there = first_there terms c.in-Some.items.now c.in-Some.start c.in-Some.ensures some in
    let within : c.in-Some.start < length (entries terms) = omega (arith, there, length-map terms (λ (t : Term). t.entry)) in
    let window = window_after c.args.place c.args.sought.now (entries terms) c.in-Some.start c.args.window.low c.args.window.high c.entry_in.result c.requires.sorted within
    c.entry_in.ensures (sym c.stands_before.ensures ∙ c.if-stands_before.true) c.requires.window in
    record {
      within = window.within;
      from = omega (arith, window.from);
      to = window.to;
    }

pub returns-clause-window : goal.returns-clause-window
returns-clause-window c =
    let terms = c.args.terms.now.terms in
    let some : 0 < length c.in-Some.items.now = omega arith in
    let there = first_there terms c.in-Some.items.now c.in-Some.start c.in-Some.ensures some in
    let within : c.in-Some.start < length (entries terms) = omega (arith, there, length-map terms (λ (t : Term). t.entry)) in
    window_prefix c.args.place c.args.sought.now (entries terms) c.in-Some.start c.args.window.low c.args.window.high c.entry_in.result c.requires.sorted within
    c.entry_in.ensures (sym c.stands_before.ensures ∙ c.if-stands_before.false) c.requires.window
