-- One phrase more was compiled.
use Rattle.std.proofs.Common.{◌≡◌, ◌∙◌, ◌+◌, ◌++◌, ap, sym, subst, map, take, [], ◌∷◌}
use Rattle.std.proofs.lemmas.List.{map-append, map_more}
use Rattle.match_options.specs.Items.{item}
use Rattle.plan_compiler.specs.CompiledOperators.{PhraseCompilesTo, PhrasesCompileTo}
use Rattle.plan_compiler.specs.declared.operator_plan.OperatorPlan as O
use Rattle.plan_compiler.proofs.PhraseOperators.{phrases_compiled_more}
use Rattle.plan_compiler.proofs.compiling_counts.numbered_phrases.Goals as goal

pub loop-phrase-preserved : goal.loop-phrase-preserved
loop-phrase-preserved c =
    let reading = c.args.reading.now in
    let all = c.args.phrases.now in
    let i = c.loop-phrase.phrase-index in
    let items = map item c.phrase-item.result in
    let taken : map (map item) (take (i + 1) all) ≡ map (map item) (take i all) ++ items ∷ [] =
    map_more (map item) all i c.phrase-item.result c.loop-phrase-test.true ∙ ap (λ p. map (map item) (take i all) ++ map item p ∷ []) (sym c.phrase-item.is) in
    subst (PhrasesCompileTo reading c.args.next.now c.numbered_phrase.new.next (map O.Phrase c.push.new.self)) (sym taken)
    (phrases_compiled_more reading c.args.next.now c.loop-phrase.next c.numbered_phrase.new.next (map O.Phrase c.loop-phrase.found) (map O.Phrase c.push.new.self) (O.Phrase c.in_ok-numbered_phrase.field-0)
    (map (map item) (take i all)) items (ap (map O.Phrase) c.in_ok-push.ensures.ok ∙ map-append O.Phrase c.loop-phrase.found (c.in_ok-numbered_phrase.field-0 ∷ [])) c.loop-phrase.invariant
    (subst (λ p. PhraseCompilesTo reading c.loop-phrase.next c.numbered_phrase.new.next (O.Phrase c.in_ok-numbered_phrase.field-0) (map item p)) c.as_slice.ensures c.in_ok-numbered_phrase.ensures))
