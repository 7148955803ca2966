-- The watch that is found is asked again and keeps what it answers now, or its path is refused; or there is none.
use Rattle.std.proofs.Common.{◌≡◌, ◌∙◌, ◌≤◌, ◌+◌, refl, sym, ap, subst, ℕ}
use Rattle.std.specs.Prelude.{IfOk, Some, None}
use Rattle.std.specs.Map.{lookup}
use Rattle.std.specs.Option.{option_copied}
use Rattle.std.specs.Str.{bytes_eq}
use Rattle.path_subset.specs.Answer.{path_read}
use Rattle.reply_lines.specs.declared.reply.Reply.TheVariants.{Refused}
use Rattle.session_state.specs.Held.{Held}
use Rattle.session_state.specs.KeptWatches.{standings_of, watches_of}
use Rattle.session_state.specs.PathPrices.{is_cheap_watch, price_of_changes}
use Rattle.session_state.specs.Standings.{standings_changed, IsCurrent}
use Rattle.session_state.specs.Watches.{changed, watch_named, with_watches}
use Rattle.session_state.specs.steps.Again.{held_with, AreAnswers, IsAgain}
use Rattle.session_state.proofs.EditLemmas.{replied}
use Rattle.session_state.proofs.StandingLemmas.{accepted-when, set-current}
use Rattle.session_state.proofs.StateLemmas.{held_as}
use Rattle.session_state.proofs.WatchLemmas.{each-found, none-watched}
use Rattle.session_state.proofs.WatchingLemmas.{again-current, as-held, changed-refused, changed-standings, changes-cheap, changes-price, none-changed, put-told, unknown-held}
use Rattle.session_state.proofs.session.Session.changes.Goals as goal

pub returns-in_default-clause-answer : goal.returns-in_default-clause-answer
returns-in_default-clause-answer g c =
    let says = g.J.Judge.says in
    let inside = c.self.inside in
    let was = held_as inside.stamped inside.prepared inside.marks inside.watches in
    let name = c.args.name.now in
    let none : lookup (bytes_eq name) inside.watches ≡ None = sym c.get.ensures ∙ ap option_copied c.in_default.is in
    subst (λ (h : Held). IfOk c.no_such_name.result (λ reply. replied h.state reply ≡ changed says h.state name)) c.self.view_is
    (none-changed says was.state name (none-watched name inside.watches none) c.no_such_name.result c.no_such_name.ensures)

pub answer_again-requires : goal.answer_again-requires
answer_again-requires g c =
    let says = g.J.Judge.says in
    let inside = c.self.inside in
    let was = held_as inside.stamped inside.prepared inside.marks inside.watches in
    let name = c.args.name.now in
    let old = c.in-Some.watch.now in
    let is : lookup (bytes_eq name) inside.watches ≡ Some old = sym c.get.ensures ∙ ap option_copied c.in-Some.is in
    record { known = (each-found (IsCurrent says inside.stamped inside.prepared.lists) name inside.watches old c.self.invariant is).known }

pub invariant_of-self : goal.invariant_of-self
invariant_of-self g c =
    let says = g.J.Judge.says in
    let inside = c.self.inside in
    let was = held_as inside.stamped inside.prepared inside.marks inside.watches in
    let name = c.args.name.now in
    let old = c.in-Some.watch.now in
    let is : lookup (bytes_eq name) inside.watches ≡ Some old = sym c.get.ensures ∙ ap option_copied c.in-Some.is in
    let new = c.in-Ok-Answers.watch in
    let lines = c.in-Ok-Answers.changes in
    let answers : AreAnswers says (held_with inside.stamped inside.prepared.lists) old new lines =
    subst (IsAgain says (held_with inside.stamped inside.prepared.lists) old) c.in-Ok-Answers.field-0-is c.in-Ok-Answers.ensures.again in
    set-current says inside.stamped inside.prepared.lists name new inside.watches c.put_changed.new.watches c.put_changed.result c.put_changed.ensures.put c.put_changed.ensures.err c.self.invariant
    (again-current says inside.stamped inside.prepared.lists old new lines answers c.stamps-stamps.ensures.kept)

pub returns-in-Ok-Answers-clause-answer : goal.returns-in-Ok-Answers-clause-answer
returns-in-Ok-Answers-clause-answer g c =
    let says = g.J.Judge.says in
    let inside = c.self.inside in
    let was = held_as inside.stamped inside.prepared inside.marks inside.watches in
    let name = c.args.name.now in
    let old = c.in-Some.watch.now in
    let is : lookup (bytes_eq name) inside.watches ≡ Some old = sym c.get.ensures ∙ ap option_copied c.in-Some.is in
    let new = c.in-Ok-Answers.watch in
    let lines = c.in-Ok-Answers.changes in
    let answers : AreAnswers says (held_with inside.stamped inside.prepared.lists) old new lines =
    subst (IsAgain says (held_with inside.stamped inside.prepared.lists) old) c.in-Ok-Answers.field-0-is c.in-Ok-Answers.ensures.again in
    let many = c.stamps-stamps.ensures.kept.as_many in
    let after = c.put_changed.new.watches in
    subst (λ (h : Held). IfOk c.put_changed.result (λ reply. replied (with_watches (watches_of after) was.state) reply ≡ changed says h.state name)) c.self.view_is
    (put-told says was inside.watches refl refl many name old is new lines (as-held says inside.stamped inside.prepared inside.marks inside.watches old new lines answers)
    c.put_changed.result after c.put_changed.ensures.reply c.put_changed.ensures.put)

pub returns-in-Ok-Answers-clause-standings : goal.returns-in-Ok-Answers-clause-standings
returns-in-Ok-Answers-clause-standings g c =
    let says = g.J.Judge.says in
    let inside = c.self.inside in
    let was = held_as inside.stamped inside.prepared inside.marks inside.watches in
    let name = c.args.name.now in
    let old = c.in-Some.watch.now in
    let is : lookup (bytes_eq name) inside.watches ≡ Some old = sym c.get.ensures ∙ ap option_copied c.in-Some.is in
    let new = c.in-Ok-Answers.watch in
    let lines = c.in-Ok-Answers.changes in
    let answers : AreAnswers says (held_with inside.stamped inside.prepared.lists) old new lines =
    subst (IsAgain says (held_with inside.stamped inside.prepared.lists) old) c.in-Ok-Answers.field-0-is c.in-Ok-Answers.ensures.again in
    let many = c.stamps-stamps.ensures.kept.as_many in
    let now = changed-standings says was inside.watches refl refl many name old is new lines (as-held says inside.stamped inside.prepared inside.marks inside.watches old new lines answers) in
    accepted-when c.put_changed.result
    (λ put. ap standings_of put ∙ (now ∙ ap (λ (h : Held). standings_changed says h name (watch_named name h.state.watches)) c.self.view_is)) c.put_changed.ensures.put

pub returns-in-Ok-Answers-clause-price : goal.returns-in-Ok-Answers-clause-price
returns-in-Ok-Answers-clause-price g c cheap =
    let says = g.J.Judge.says in
    let inside = c.self.inside in
    let was = held_as inside.stamped inside.prepared inside.marks inside.watches in
    let name = c.args.name.now in
    let old = c.in-Some.watch.now in
    let is : lookup (bytes_eq name) inside.watches ≡ Some old = sym c.get.ensures ∙ ap option_copied c.in-Some.is in
    let many = c.stamps-stamps.ensures.kept.as_many in
    let own = sym (changes-cheap says was inside.watches refl refl many name old is) ∙ (ap (λ (h : Held). is_cheap_watch h.state.lists (watch_named name h.state.watches)) c.self.view_is ∙ cheap) in
    subst (λ (h : Held). c.answer_again.new.moves ≤ c.args.moves.now + price_of_changes says h name (watch_named name h.state.watches)) c.self.view_is
    (subst (λ (n : ℕ). c.answer_again.new.moves ≤ c.args.moves.now + n)
    (unknown-held says inside.stamped inside.prepared inside.marks inside.watches old.standing (path_read old.path) ∙ changes-price says was inside.watches refl refl many name old is) (c.answer_again.ensures.price own))

pub returns-in-Ok-Refused-clause-answer : goal.returns-in-Ok-Refused-clause-answer
returns-in-Ok-Refused-clause-answer g c =
    let says = g.J.Judge.says in
    let inside = c.self.inside in
    let was = held_as inside.stamped inside.prepared inside.marks inside.watches in
    let name = c.args.name.now in
    let old = c.in-Some.watch.now in
    let is : lookup (bytes_eq name) inside.watches ≡ Some old = sym c.get.ensures ∙ ap option_copied c.in-Some.is in
    let many = c.stamps-stamps.ensures.kept.as_many in
    let why = subst (IsAgain says (held_with inside.stamped inside.prepared.lists) old) c.in-Ok-Refused.field-0-is c.in-Ok-Refused.ensures.again in
    subst (λ (h : Held). replied h.state (Refused c.in-Ok-Refused.why) ≡ changed says h.state name) c.self.view_is
    (changed-refused says was inside.watches refl refl many name old is c.in-Ok-Refused.why why)

pub returns-in-Ok-Refused-clause-price : goal.returns-in-Ok-Refused-clause-price
returns-in-Ok-Refused-clause-price g c cheap =
    let says = g.J.Judge.says in
    let inside = c.self.inside in
    let was = held_as inside.stamped inside.prepared inside.marks inside.watches in
    let name = c.args.name.now in
    let old = c.in-Some.watch.now in
    let is : lookup (bytes_eq name) inside.watches ≡ Some old = sym c.get.ensures ∙ ap option_copied c.in-Some.is in
    let many = c.stamps-stamps.ensures.kept.as_many in
    let own = sym (changes-cheap says was inside.watches refl refl many name old is) ∙ (ap (λ (h : Held). is_cheap_watch h.state.lists (watch_named name h.state.watches)) c.self.view_is ∙ cheap) in
    subst (λ (h : Held). c.answer_again.new.moves ≤ c.args.moves.now + price_of_changes says h name (watch_named name h.state.watches)) c.self.view_is
    (subst (λ (n : ℕ). c.answer_again.new.moves ≤ c.args.moves.now + n)
    (unknown-held says inside.stamped inside.prepared inside.marks inside.watches old.standing (path_read old.path) ∙ changes-price says was inside.watches refl refl many name old is) (c.answer_again.ensures.price own))

pub returns-in-Err-clause-price : goal.returns-in-Err-clause-price
returns-in-Err-clause-price g c cheap =
    let says = g.J.Judge.says in
    let inside = c.self.inside in
    let was = held_as inside.stamped inside.prepared inside.marks inside.watches in
    let name = c.args.name.now in
    let old = c.in-Some.watch.now in
    let is : lookup (bytes_eq name) inside.watches ≡ Some old = sym c.get.ensures ∙ ap option_copied c.in-Some.is in
    let many = c.stamps-stamps.ensures.kept.as_many in
    let own = sym (changes-cheap says was inside.watches refl refl many name old is) ∙ (ap (λ (h : Held). is_cheap_watch h.state.lists (watch_named name h.state.watches)) c.self.view_is ∙ cheap) in
    subst (λ (h : Held). c.answer_again.new.moves ≤ c.args.moves.now + price_of_changes says h name (watch_named name h.state.watches)) c.self.view_is
    (subst (λ (n : ℕ). c.answer_again.new.moves ≤ c.args.moves.now + n)
    (unknown-held says inside.stamped inside.prepared inside.marks inside.watches old.standing (path_read old.path) ∙ changes-price says was inside.watches refl refl many name old is) (c.answer_again.ensures.price own))
