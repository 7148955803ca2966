-- An id of the block is that of a term, whose entry is the one at its place.
use Rattle.std.proofs.Common.{◌≡◌, ◌+◌, get_or, IfSome, subst, ap, sym, ◌∙◌, arith}
use Rattle.index_meaning.specs.Dictionaries.{Dictionary, entries, ids}
use Rattle.shared_list.specs.Blocks.{IsRun}
use Rattle.term_dict.proofs.TermsOfLemmas.{run-entry}
use Rattle.term_dict.proofs.terms.Terms.entry_in.Goals as goal

pub get-requires : goal.get-requires
get-requires c =
    let inside = c.self.inside in
    let items = c.in-Some.items.now in
    let offset = c.in-Some-checked_sub.offset in
    let run : IsRun (ids c.args.self.now.terms) c.in-Some.start items =
    subst (λ b. IfSome b (λ block. IsRun (ids c.args.self.now.terms) block.0 block.1.now)) c.in-Some.is c.requires.block in
    let place : c.in-Some.start + offset ≡ c.args.number = omega (arith, c.in-Some-checked_sub.ensures) in
    (run-entry inside.given inside.ids items c.in-Some.start offset c.args.number c.self.invariant
    (subst (λ (d : Dictionary). IsRun (ids d.terms) c.in-Some.start items) (sym c.self.view_is) run) (omega (arith, c.if-offset-items.true)) place).0

pub returns-then-offset-items : goal.returns-then-offset-items
returns-then-offset-items c =
    let inside = c.self.inside in
    let items = c.in-Some.items.now in
    let offset = c.in-Some-checked_sub.offset in
    let e = c.get.result in
    let run : IsRun (ids c.args.self.now.terms) c.in-Some.start items =
    subst (λ b. IfSome b (λ block. IsRun (ids c.args.self.now.terms) block.0 block.1.now)) c.in-Some.is c.requires.block in
    let place : c.in-Some.start + offset ≡ c.args.number = omega (arith, c.in-Some-checked_sub.ensures) in
    c.get.ensures
    ∙ (run-entry inside.given inside.ids items c.in-Some.start offset c.args.number c.self.invariant
    (subst (λ (d : Dictionary). IsRun (ids d.terms) c.in-Some.start items) (sym c.self.view_is) run) (omega (arith, c.if-offset-items.true)) place).1 e
    ∙ ap (λ (d : Dictionary). get_or (entries d.terms) c.args.number e) c.self.view_is
