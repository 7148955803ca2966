-- The path is answered by the documents and the lists, and its plans are kept.
use Rattle.std.proofs.Common.{refl, sym, ap, subst, ◌≡◌, ◌∙◌, ◌≤◌, ◌+◌, ℕ}
use Rattle.std.specs.Prelude.{IfOk}
use Rattle.document_store.specs.Indexed.{Indexed}
use Rattle.path_subset.specs.Answer.{path_read}
use Rattle.session_state.specs.Held.{Held}
use Rattle.session_state.specs.PathPrices.{is_cheap_path, read_price}
use Rattle.session_state.specs.StateView.{held_of}
use Rattle.session_state.specs.Step.{shown}
use Rattle.session_state.proofs.EditLemmas.{replied, with_prepared_in}
use Rattle.plan_compiler.specs.NamedLists.{NamedLists}
use Rattle.session_state.specs.Standings.{AreCurrent}
use Rattle.session_state.proofs.StandingLemmas.{kept-lists}
use Rattle.session_state.proofs.StateLemmas.{held_as, same-price, shown-along}
use Rattle.session_state.proofs.session.Session.show.Goals as goal

pub returns-clause-answer : goal.returns-clause-answer
returns-clause-answer g c =
    let inside = c.self.inside in
    let was = held_as inside.stamped inside.prepared inside.marks inside.watches in
    let q = c.answer_path.new.prepared in
    subst (λ (h : Held). IfOk c.answer_path.result (λ reply. replied (with_prepared_in was.state q) reply ≡ shown g.J.Judge.says c.args.shown h.state c.args.path.now)) c.self.view_is
    (shown-along g.J.Judge.says c.args.shown c.collection.result.now was.state was.state c.args.path.now (ap (λ (i : Indexed). i.documents) c.collection.ensures)
    (ap (λ (i : Indexed). i.abbreviations) c.collection.ensures) refl c.answer_path.result q c.answer_path.ensures.reply c.answer_path.ensures.kept)

pub returns-clause-price : goal.returns-clause-price
returns-clause-price g c cheap =
    let inside = c.self.inside in
    let was = held_as inside.stamped inside.prepared inside.marks inside.watches in
    let read = path_read c.args.path.now in
    let own = ap (λ (h : Held). is_cheap_path h.state.lists read) c.self.view_is ∙ cheap in
    subst (λ (h : Held). c.answer_path.new.moves ≤ c.args.moves.now + read_price g.J.Judge.says h read) c.self.view_is
    (subst (λ (n : ℕ). c.answer_path.new.moves ≤ c.args.moves.now + n)
    (same-price g.J.Judge.says (held_of c.collection.result.now inside.prepared.lists) was read (ap (λ (i : Indexed). i.documents) c.collection.ensures)
    (ap (λ (i : Indexed). i.abbreviations) c.collection.ensures) refl (ap (λ (i : Indexed). i.version) c.collection.ensures)) (c.answer_path.ensures.price own))

pub invariant_of-self : goal.invariant_of-self
invariant_of-self g c =
    let inside = c.self.inside in
    subst (λ (l : NamedLists). AreCurrent g.J.Judge.says inside.stamped l inside.watches)
    (sym (kept-lists c.args.path.now inside.prepared c.answer_path.new.prepared c.answer_path.result c.answer_path.ensures.kept c.answer_path.ensures.err)) c.self.invariant
