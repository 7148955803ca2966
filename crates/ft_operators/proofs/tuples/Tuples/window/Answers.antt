-- The window of the filter that stands outermost is that of the number of the choice, round the includes that are held.
use Rattle.std.proofs.Common.{◌∙◌, ◌<◌, refl, ap, sym, subst, cond, length, get_or, [], None}
use Rattle.all_matches.specs.Filters.{choices}
use Rattle.ft_operators.specs.Course.{every}
use Rattle.ft_operators.specs.Chains.{outer_window}
use Rattle.ft_operators.specs.Walk.{tuple_of}
use Rattle.ft_operators.specs.steps.Nodes.{standing}
use Rattle.ft_operators.proofs.AnswerLemmas.{window_below, window_same}
use Rattle.ft_operators.proofs.FrameLemmas.{framed_Phrase, framed_Choice, framed_Both, framed_MildNot, framed_Negated, framed_Filtered}
use Rattle.ft_operators.proofs.NodeLemmas.{inside_Filtered}
use Rattle.ft_operators.proofs.tuples.Tuples.window.Goals as goal

pub sieve_window-requires : goal.sieve_window-requires
sieve_window-requires g c =
    let state = g.P.PhraseHits.state in
    let tuples = c.args.self.now in
    let sieve = c.deref.result.now in
    let inside = inside_Filtered state (every tuples.item) tuples.node c.in-Filtered.sieve sieve c.in-Filtered.is c.deref.ensures in
    let holds = c.if-not-self.false in
    subst (λ hits. sieve.lead < length (choices sieve.kind hits)) (sym c.deref-in-Filtered.ensures.value)
    (window_below sieve.kind tuples.item sieve.lead ((standing state (every tuples.item) sieve.operand).rest) tuples.there tuples.held.items holds
    (c.requires ∙ ap (λ s. tuple_of (cond tuples.there s.rest [])) inside))

pub returns-in-Filtered : goal.returns-in-Filtered
returns-in-Filtered g c =
    let state = g.P.PhraseHits.state in
    let tuples = c.args.self.now in
    let sieve = c.deref.result.now in
    let inside = inside_Filtered state (every tuples.item) tuples.node c.in-Filtered.sieve sieve c.in-Filtered.is c.deref.ensures in
    let framed = framed_Filtered state tuples.node c.in-Filtered.sieve sieve c.in-Filtered.is c.deref.ensures in
    let holds = c.if-not-self.false in
    c.sieve_window.ensures
    ∙ ap (λ hits. get_or (choices sieve.kind hits) sieve.lead None) c.deref-in-Filtered.ensures.value
    ∙ window_same sieve.kind tuples.item sieve.lead ((standing state (every tuples.item) sieve.operand).rest) tuples.there tuples.held.items holds
    (c.requires ∙ ap (λ s. tuple_of (cond tuples.there s.rest [])) inside)
    ∙ (λ i. outer_window (sym framed i).operator (cond tuples.there (sym inside i).rest []))

pub returns-in-Phrase : goal.returns-in-Phrase
returns-in-Phrase g c =
    let tuples = c.args.self.now in
    let state = g.P.PhraseHits.state in
    ap (λ f. outer_window f.operator (cond tuples.there (standing state (every tuples.item) tuples.node).rest [])) (sym (framed_Phrase state tuples.node c.in-Phrase.field-0 c.in-Phrase.is))

pub returns-in-Choice : goal.returns-in-Choice
returns-in-Choice g c =
    let tuples = c.args.self.now in
    let state = g.P.PhraseHits.state in
    ap (λ f. outer_window f.operator (cond tuples.there (standing state (every tuples.item) tuples.node).rest []))
    (sym (framed_Choice state tuples.node c.in-Choice.field-0 c.in-Choice.field-0.value c.in-Choice.is refl))

pub returns-in-Both : goal.returns-in-Both
returns-in-Both g c =
    let tuples = c.args.self.now in
    let state = g.P.PhraseHits.state in
    ap (λ f. outer_window f.operator (cond tuples.there (standing state (every tuples.item) tuples.node).rest []))
    (sym (framed_Both state tuples.node c.in-Both.field-0 c.in-Both.field-0.value c.in-Both.is refl))

pub returns-in-MildNot : goal.returns-in-MildNot
returns-in-MildNot g c =
    let tuples = c.args.self.now in
    let state = g.P.PhraseHits.state in
    ap (λ f. outer_window f.operator (cond tuples.there (standing state (every tuples.item) tuples.node).rest []))
    (sym (framed_MildNot state tuples.node c.in-MildNot.field-0 c.in-MildNot.field-0.value c.in-MildNot.is refl))

pub returns-in-Negated : goal.returns-in-Negated
returns-in-Negated g c =
    let tuples = c.args.self.now in
    let state = g.P.PhraseHits.state in
    ap (λ f. outer_window f.operator (cond tuples.there (standing state (every tuples.item) tuples.node).rest []))
    (sym (framed_Negated state tuples.node c.in-Negated.field-0 c.in-Negated.field-0.value c.in-Negated.is refl))
