-- What the tree says is what the selection says of the tokens of the span, and so what is ruled out; the moves are within their price.
use Rattle.std.proofs.Common.{◌≡◌, ◌≤◌, ◌+◌, ◌∙◌, ℕ, true, List, sym, ap, subst, arith}
use Rattle.all_matches.specs.Meaning.{sat}
use Rattle.index_meaning.specs.Documents.{Numbered, document_at, has_document, token_count}
use Rattle.index_phrases.specs.Tokens.{span_tokens}
use Rattle.plan_compiler.specs.CheapSelections.{is_cheap, is_cheap_or_counted}
use Rattle.plan_compiler.specs.Lexicon.{lexicon}
use Rattle.plan_compiler.specs.PlanMeaning.{plan_form, plan_lists}
use Rattle.plan_runs.specs.RunPrice.{price_at}
use Rattle.plan_runs.specs.RunMeaning.{RunMeaning, run_of}
use Rattle.plan_runs.specs.steps.AskedSpans.{AskedSpan, IsAsked}
use Rattle.plan_runs.specs.steps.CheapShapes.{is_cheap_shape}
use Rattle.plan_runs.specs.steps.OpenedWords.{IsOpened}
use Rattle.plan_runs.specs.steps.RuledOut.{HasNone, part_from, place_of}
use Rattle.plan_runs.specs.steps.RunCosts.{moves_for, run_cost, term_count}
use Rattle.plan_runs.specs.steps.RunShapes.{shape}
use Rattle.plan_runs.specs.steps.RunSkips.{skip}
use Rattle.plan_runs.specs.declared.asked_place.AskedPlace.{AskedPlace}
use Rattle.plan_runs.proofs.RuledOutLaw.{none_skipped, own_words}
use Rattle.plan_runs.proofs.RunLaw.{counted_law, price_law, run_law}
use Rattle.plan_runs.proofs.run.Run.test.Goals as goal

pub returns-then-holds-clause-says : goal.returns-then-holds-clause-says
returns-then-holds-clause-says g c =
    let inside = c.self.inside in
    let doc = c.args.doc.0 in
    let own = run_of (plan_form inside.plan.now) (plan_lists inside.plan.now) inside.version.now in
    let there : has_document doc own.version ≡ true = ap (λ (run : RunMeaning). has_document doc run.version) c.self.view_is ∙ c.requires.there in
    let known : HasNone own doc inside.ruled_out.from inside.ruled_out.to =
    subst (λ d. HasNone own d inside.ruled_out.from inside.ruled_out.to) (c.holds.ensures.doc c.if-holds.true) c.self.invariant.1 in
    sym
    (ap (λ (run : RunMeaning). sat (lexicon run.lists) run.form (span_tokens c.args.span (document_at doc run.version))) (sym c.self.view_is)
    ∙ known there c.args.span
    (subst (λ (run : RunMeaning). (1 ≤ c.args.span.from) × (c.args.span.from ≤ c.args.span.to) × (c.args.span.to ≤ token_count (document_at doc run.version) + 1)) (sym c.self.view_is) c.requires.inside)
    (c.holds.ensures.after c.if-holds.true) (c.holds.ensures.ends_before c.if-holds.true)
    (span_tokens c.args.span (document_at doc own.version)) (own_words (span_tokens c.args.span (document_at doc own.version))))

pub returns-then-node_holds-clause-says : goal.returns-then-node_holds-clause-says
returns-then-node_holds-clause-says g c =
    let inside = c.self.inside in
    let same = ap (λ (run : RunMeaning). run.version) c.self.view_is in
    let place : AskedSpan = record { doc = c.args.doc.0; span = c.args.span } in
    let asked : IsAsked c.args.self.now.version place =
    record { there = c.requires.there; inside = record { first = c.requires.inside.0; order = c.requires.inside.1; last = c.requires.inside.2 } } in
    sym c.if-node_holds.true
    ∙ c.node_holds.ensures.says
    ∙ run_law inside.version.now place inside.plan.now (shape inside.root) (subst (λ (version : List Numbered). IsAsked version place) (sym same) asked) c.self.invariant.0
    ∙ ap (λ (run : RunMeaning). sat (lexicon run.lists) run.form (span_tokens c.args.span (document_at c.args.doc.0 run.version))) c.self.view_is

pub returns-then-pauses-clause-says : goal.returns-then-pauses-clause-says
returns-then-pauses-clause-says g c =
    let inside = c.self.inside in
    let same = ap (λ (run : RunMeaning). run.version) c.self.view_is in
    let place : AskedSpan = record { doc = c.args.doc.0; span = c.args.span } in
    let asked : IsAsked c.args.self.now.version place =
    record { there = c.requires.there; inside = record { first = c.requires.inside.0; order = c.requires.inside.1; last = c.requires.inside.2 } } in
    sym c.if-node_holds.false
    ∙ c.node_holds.ensures.says
    ∙ run_law inside.version.now place inside.plan.now (shape inside.root) (subst (λ (version : List Numbered). IsAsked version place) (sym same) asked) c.self.invariant.0
    ∙ ap (λ (run : RunMeaning). sat (lexicon run.lists) run.form (span_tokens c.args.span (document_at c.args.doc.0 run.version))) c.self.view_is

pub returns-clause-says : goal.returns-clause-says
returns-clause-says g c =
    let inside = c.self.inside in
    let same = ap (λ (run : RunMeaning). run.version) c.self.view_is in
    let place : AskedSpan = record { doc = c.args.doc.0; span = c.args.span } in
    let asked : IsAsked c.args.self.now.version place =
    record { there = c.requires.there; inside = record { first = c.requires.inside.0; order = c.requires.inside.1; last = c.requires.inside.2 } } in
    sym c.if-node_holds.false
    ∙ c.node_holds.ensures.says
    ∙ run_law inside.version.now place inside.plan.now (shape inside.root) (subst (λ (version : List Numbered). IsAsked version place) (sym same) asked) c.self.invariant.0
    ∙ ap (λ (run : RunMeaning). sat (lexicon run.lists) run.form (span_tokens c.args.span (document_at c.args.doc.0 run.version))) c.self.view_is

pub returns-then-node_holds-clause-price : goal.returns-then-node_holds-clause-price
returns-then-node_holds-clause-price g c cheap =
    let inside = c.self.inside in
    let version = ap (λ (run : RunMeaning). run.version) c.self.view_is in
    let asked : IsAsked inside.version.now (record { doc = c.args.doc.0; span = c.args.span }) =
    subst (λ (v : List Numbered). IsAsked v (record { doc = c.args.doc.0; span = c.args.span })) (sym version)
    (record { there = c.requires.there; inside = record { first = c.requires.inside.0; order = c.requires.inside.1; last = c.requires.inside.2 } }) in
    let place : AskedPlace =
    record { version = inside.version; doc = c.args.doc; span = c.args.span; there = asked.there; first = asked.inside.first; order = asked.inside.order; last = asked.inside.last } in
    let own : is_cheap (lexicon (plan_lists inside.plan.now)) (plan_form inside.plan.now) ≡ true = ap (λ (run : RunMeaning). is_cheap (lexicon run.lists) run.form) c.self.view_is ∙ cheap in
    let moved : is_cheap_shape true (shape inside.root) ≡ true → c.node_holds.new.moves ≤ c.args.moves.now + run_cost (moves_for place) 2 (shape inside.root) + run_cost term_count 1 (shape inside.root) =
    λ h. omega (arith, c.node_holds.ensures.price h) in
    let most = price_law inside.plan.now (shape inside.root) place c.self.invariant.0 c.args.moves.now c.node_holds.new.moves moved own in
    let same = ap (λ (run : RunMeaning). price_at run c.args.doc.0 c.args.span) c.self.view_is in
    omega (arith, most, same)

pub returns-then-node_holds-clause-counted : goal.returns-then-node_holds-clause-counted
returns-then-node_holds-clause-counted g c cheap =
    let inside = c.self.inside in
    let version = ap (λ (run : RunMeaning). run.version) c.self.view_is in
    let asked : IsAsked inside.version.now (record { doc = c.args.doc.0; span = c.args.span }) =
    subst (λ (v : List Numbered). IsAsked v (record { doc = c.args.doc.0; span = c.args.span })) (sym version)
    (record { there = c.requires.there; inside = record { first = c.requires.inside.0; order = c.requires.inside.1; last = c.requires.inside.2 } }) in
    let place : AskedPlace =
    record { version = inside.version; doc = c.args.doc; span = c.args.span; there = asked.there; first = asked.inside.first; order = asked.inside.order; last = asked.inside.last } in
    let own : is_cheap_or_counted (lexicon (plan_lists inside.plan.now)) (plan_form inside.plan.now) ≡ true = ap (λ (run : RunMeaning). is_cheap_or_counted (lexicon run.lists) run.form) c.self.view_is ∙ cheap in
    let moved : is_cheap_shape true (shape inside.root) ≡ true → c.node_holds.new.moves ≤ c.args.moves.now + run_cost (moves_for place) 2 (shape inside.root) + run_cost term_count 1 (shape inside.root) =
    λ h. omega (arith, c.node_holds.ensures.price h) in
    let most = counted_law inside.plan.now (shape inside.root) place c.self.invariant.0 c.args.moves.now c.node_holds.new.moves moved own in
    let same = ap (λ (run : RunMeaning). price_at run c.args.doc.0 c.args.span) c.self.view_is in
    omega (arith, most, same)

pub returns-then-pauses-clause-price : goal.returns-then-pauses-clause-price
returns-then-pauses-clause-price g c cheap =
    let inside = c.self.inside in
    let version = ap (λ (run : RunMeaning). run.version) c.self.view_is in
    let asked : IsAsked inside.version.now (record { doc = c.args.doc.0; span = c.args.span }) =
    subst (λ (v : List Numbered). IsAsked v (record { doc = c.args.doc.0; span = c.args.span })) (sym version)
    (record { there = c.requires.there; inside = record { first = c.requires.inside.0; order = c.requires.inside.1; last = c.requires.inside.2 } }) in
    let place : AskedPlace =
    record { version = inside.version; doc = c.args.doc; span = c.args.span; there = asked.there; first = asked.inside.first; order = asked.inside.order; last = asked.inside.last } in
    let own : is_cheap (lexicon (plan_lists inside.plan.now)) (plan_form inside.plan.now) ≡ true = ap (λ (run : RunMeaning). is_cheap (lexicon run.lists) run.form) c.self.view_is ∙ cheap in
    let moved : is_cheap_shape true (shape inside.root) ≡ true → c.node_holds.new.moves ≤ c.args.moves.now + run_cost (moves_for place) 2 (shape inside.root) + run_cost term_count 1 (shape inside.root) =
    λ h. omega (arith, c.node_holds.ensures.price h) in
    let most = price_law inside.plan.now (shape inside.root) place c.self.invariant.0 c.args.moves.now c.node_holds.new.moves moved own in
    let same = ap (λ (run : RunMeaning). price_at run c.args.doc.0 c.args.span) c.self.view_is in
    omega (arith, most, same)

pub returns-then-pauses-clause-counted : goal.returns-then-pauses-clause-counted
returns-then-pauses-clause-counted g c cheap =
    let inside = c.self.inside in
    let version = ap (λ (run : RunMeaning). run.version) c.self.view_is in
    let asked : IsAsked inside.version.now (record { doc = c.args.doc.0; span = c.args.span }) =
    subst (λ (v : List Numbered). IsAsked v (record { doc = c.args.doc.0; span = c.args.span })) (sym version)
    (record { there = c.requires.there; inside = record { first = c.requires.inside.0; order = c.requires.inside.1; last = c.requires.inside.2 } }) in
    let place : AskedPlace =
    record { version = inside.version; doc = c.args.doc; span = c.args.span; there = asked.there; first = asked.inside.first; order = asked.inside.order; last = asked.inside.last } in
    let own : is_cheap_or_counted (lexicon (plan_lists inside.plan.now)) (plan_form inside.plan.now) ≡ true = ap (λ (run : RunMeaning). is_cheap_or_counted (lexicon run.lists) run.form) c.self.view_is ∙ cheap in
    let moved : is_cheap_shape true (shape inside.root) ≡ true → c.node_holds.new.moves ≤ c.args.moves.now + run_cost (moves_for place) 2 (shape inside.root) + run_cost term_count 1 (shape inside.root) =
    λ h. omega (arith, c.node_holds.ensures.price h) in
    let most = counted_law inside.plan.now (shape inside.root) place c.self.invariant.0 c.args.moves.now c.node_holds.new.moves moved own in
    let same = ap (λ (run : RunMeaning). price_at run c.args.doc.0 c.args.span) c.self.view_is in
    omega (arith, most, same)

pub returns-clause-price : goal.returns-clause-price
returns-clause-price g c cheap =
    let inside = c.self.inside in
    let version = ap (λ (run : RunMeaning). run.version) c.self.view_is in
    let asked : IsAsked inside.version.now (record { doc = c.args.doc.0; span = c.args.span }) =
    subst (λ (v : List Numbered). IsAsked v (record { doc = c.args.doc.0; span = c.args.span })) (sym version)
    (record { there = c.requires.there; inside = record { first = c.requires.inside.0; order = c.requires.inside.1; last = c.requires.inside.2 } }) in
    let place : AskedPlace =
    record { version = inside.version; doc = c.args.doc; span = c.args.span; there = asked.there; first = asked.inside.first; order = asked.inside.order; last = asked.inside.last } in
    let own : is_cheap (lexicon (plan_lists inside.plan.now)) (plan_form inside.plan.now) ≡ true = ap (λ (run : RunMeaning). is_cheap (lexicon run.lists) run.form) c.self.view_is ∙ cheap in
    let moved : is_cheap_shape true (shape inside.root) ≡ true → c.skip_from-to.new.moves ≤ c.args.moves.now + run_cost (moves_for place) 2 (shape inside.root) + run_cost term_count 1 (shape inside.root) =
    λ h.
    let looked = c.skip_from-to.ensures.price (ap (is_cheap_shape true) c.node_holds.ensures.same ∙ h) in
    let terms = ap (run_cost term_count 1) c.node_holds.ensures.same in
    omega (arith, c.node_holds.ensures.price h, looked, terms) in
    let most = price_law inside.plan.now (shape inside.root) place c.self.invariant.0 c.args.moves.now c.skip_from-to.new.moves moved own in
    let same = ap (λ (run : RunMeaning). price_at run c.args.doc.0 c.args.span) c.self.view_is in
    omega (arith, most, same)

pub returns-clause-counted : goal.returns-clause-counted
returns-clause-counted g c cheap =
    let inside = c.self.inside in
    let version = ap (λ (run : RunMeaning). run.version) c.self.view_is in
    let asked : IsAsked inside.version.now (record { doc = c.args.doc.0; span = c.args.span }) =
    subst (λ (v : List Numbered). IsAsked v (record { doc = c.args.doc.0; span = c.args.span })) (sym version)
    (record { there = c.requires.there; inside = record { first = c.requires.inside.0; order = c.requires.inside.1; last = c.requires.inside.2 } }) in
    let place : AskedPlace =
    record { version = inside.version; doc = c.args.doc; span = c.args.span; there = asked.there; first = asked.inside.first; order = asked.inside.order; last = asked.inside.last } in
    let own : is_cheap_or_counted (lexicon (plan_lists inside.plan.now)) (plan_form inside.plan.now) ≡ true = ap (λ (run : RunMeaning). is_cheap_or_counted (lexicon run.lists) run.form) c.self.view_is ∙ cheap in
    let moved : is_cheap_shape true (shape inside.root) ≡ true → c.skip_from-to.new.moves ≤ c.args.moves.now + run_cost (moves_for place) 2 (shape inside.root) + run_cost term_count 1 (shape inside.root) =
    λ h.
    let looked = c.skip_from-to.ensures.price (ap (is_cheap_shape true) c.node_holds.ensures.same ∙ h) in
    let terms = ap (run_cost term_count 1) c.node_holds.ensures.same in
    omega (arith, c.node_holds.ensures.price h, looked, terms) in
    let most = counted_law inside.plan.now (shape inside.root) place c.self.invariant.0 c.args.moves.now c.skip_from-to.new.moves moved own in
    let same = ap (λ (run : RunMeaning). price_at run c.args.doc.0 c.args.span) c.self.view_is in
    omega (arith, most, same)

-- what is known after a test that looked how far the words are
pub invariant_of-self-2 : goal.invariant_of-self-2
invariant_of-self-2 g c =
    let plan = c.self.inside.plan.now in
    let version = c.self.inside.version.now in
    let doc = c.args.doc.0 in
    let run = shape c.node_holds.new.node in
    let known = c.answered-self-inside.result in
    let opened : IsOpened plan.looks plan.lists.stems version run plan.root = subst (λ s. IsOpened plan.looks plan.lists.stems version s plan.root) (sym c.node_holds.ensures.same) c.self.invariant.0 in
    let to-is = c.answered-self-inside.ensures.to in
    let from-is = ap (λ (from : ℕ). place_of (skip doc (part_from from) run)) c.answered-self-inside.ensures.from in
    let place = c.skip_from-to.ensures.says in
    let bound = c.skip_from-to.type_inv in
    let small : known.to ≤ 4294967295 = omega (arith, bound, to-is) in
    let least : known.to ≤ place_of (skip doc (part_from known.from) run) = omega (arith, to-is, place, from-is) in (
      opened,
      subst (λ d. HasNone (run_of (plan_form plan) (plan_lists plan) version) d known.from known.to) (sym c.answered-self-inside.ensures.doc)
          (none_skipped plan run version opened doc known.from known.to small least),
    )

-- a test after which it isn't asked leaves what is known
pub invariant_of-self-then-pauses : goal.invariant_of-self-then-pauses
invariant_of-self-then-pauses g c =
    let plan = c.self.inside.plan.now in
    let version = c.self.inside.version.now in
    let own = run_of (plan_form plan) (plan_lists plan) version in
    let old = c.self.inside.ruled_out in
    let new = c.pauses.new.self in (
      subst (λ s. IsOpened plan.looks plan.lists.stems version s plan.root) (sym c.node_holds.ensures.same) c.self.invariant.0,
      subst (λ doc. HasNone own doc new.from new.to) (sym c.pauses.ensures.doc)
          (subst (λ from. HasNone own old.doc.0 from new.to) (sym c.pauses.ensures.from)
          (subst (λ to. HasNone own old.doc.0 old.from to) (sym c.pauses.ensures.to) c.self.invariant.1)),
    )
