-- The path is answered by the documents of the mark that is found, or there is none.
use Rattle.std.proofs.Common.{refl, sym, ap, subst, ◌≡◌, ◌∙◌, ◌≤◌, ◌+◌, ℕ}
use Rattle.std.specs.Prelude.{IfOk, Some, None}
use Rattle.std.specs.Map.{lookup}
use Rattle.std.specs.Option.{option_copied}
use Rattle.std.specs.Str.{bytes_eq}
use Rattle.path_subset.specs.Answer.{path_read}
use Rattle.session_state.specs.Held.{Held}
use Rattle.session_state.specs.Marks.{mark_named}
use Rattle.session_state.specs.PathPrices.{is_cheap_path, price_at}
use Rattle.session_state.specs.Step.{shown_at}
use Rattle.session_state.proofs.EditLemmas.{replied, with_prepared_in}
use Rattle.session_state.proofs.MarkLemmas.{none-marked}
use Rattle.plan_compiler.specs.NamedLists.{NamedLists}
use Rattle.session_state.specs.Standings.{AreCurrent}
use Rattle.session_state.proofs.StandingLemmas.{kept-lists}
use Rattle.session_state.proofs.StateLemmas.{held_as, none-at, price-at-mark, shown-at-mark}
use Rattle.session_state.proofs.session.Session.show_at.Goals as goal

pub returns-in-Some-clause-answer : goal.returns-in-Some-clause-answer
returns-in-Some-clause-answer g c =
    let inside = c.self.inside in
    let was = held_as inside.stamped inside.prepared inside.marks inside.watches in
    let name = c.args.name.now in
    let path = c.args.path.now in
    let q = c.answer_path.new.prepared in
    let mark = c.in-Some.collection.now in
    let found : lookup (bytes_eq name) inside.marks ≡ Some mark = sym c.get.ensures ∙ ap option_copied c.in-Some.is in
    subst (λ (h : Held). IfOk c.answer_path.result (λ reply. replied (with_prepared_in was.state q) reply ≡ shown_at g.J.Judge.says h.state name path (mark_named name h.state.marks))) c.self.view_is
    (shown-at-mark g.J.Judge.says was inside.marks refl refl name path mark found c.answer_path.result q c.answer_path.ensures.reply c.answer_path.ensures.kept)

pub returns-in-Some-clause-price : goal.returns-in-Some-clause-price
returns-in-Some-clause-price g c cheap =
    let inside = c.self.inside in
    let was = held_as inside.stamped inside.prepared inside.marks inside.watches in
    let name = c.args.name.now in
    let path = c.args.path.now in
    let mark = c.in-Some.collection.now in
    let found : lookup (bytes_eq name) inside.marks ≡ Some mark = sym c.get.ensures ∙ ap option_copied c.in-Some.is in
    let own = ap (λ (h : Held). is_cheap_path h.state.lists (path_read path)) c.self.view_is ∙ cheap in
    subst (λ (h : Held). c.answer_path.new.moves ≤ c.args.moves.now + price_at g.J.Judge.says h name path (mark_named name h.state.marks)) c.self.view_is
    (subst (λ (n : ℕ). c.answer_path.new.moves ≤ c.args.moves.now + n) (price-at-mark g.J.Judge.says was inside.marks refl refl name path mark found) (c.answer_path.ensures.price own))

pub returns-in-None-clause-answer : goal.returns-in-None-clause-answer
returns-in-None-clause-answer g c =
    let inside = c.self.inside in
    let was = held_as inside.stamped inside.prepared inside.marks inside.watches in
    let name = c.args.name.now in
    let path = c.args.path.now in
    let none : lookup (bytes_eq name) inside.marks ≡ None = sym c.get.ensures ∙ ap option_copied c.in-None.is in
    subst (λ (h : Held). IfOk c.no_such_name.result (λ reply. replied h.state reply ≡ shown_at g.J.Judge.says h.state name path (mark_named name h.state.marks))) c.self.view_is
    (none-at g.J.Judge.says was.state name path (none-marked name inside.marks none) c.no_such_name.result c.no_such_name.ensures)

pub invariant_of-self : goal.invariant_of-self
invariant_of-self g c =
    let inside = c.self.inside in
    subst (λ (l : NamedLists). AreCurrent g.J.Judge.says inside.stamped l inside.watches)
    (sym (kept-lists c.args.path.now inside.prepared c.answer_path.new.prepared c.answer_path.result c.answer_path.ensures.kept c.answer_path.ensures.err)) c.self.invariant
