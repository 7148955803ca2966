-- The first word that doesn't stand there, or none.
use Rattle.std.proofs.Common.{◌∙◌, List, get_or, sym, subst, ap, arith}
use Rattle.std.proofs.lemmas.List.Elements.{All-get_or}
use Rattle.index_phrases.specs.Phrases.{wanted_at}
use Rattle.index_phrases.specs.declared.word_terms.WordTerms.{WordTerms}
use Rattle.index_phrases.specs.steps.Aiming.{AreThere}
use Rattle.index_phrases.proofs.PartLemmas.{set_kept}
use Rattle.plan_runs.proofs.EdgeLemmas.{stands_more, stands_not, stands_whole}
use Rattle.plan_runs.proofs.edge_holding.words_stand.Goals as goal

pub word_stands-requires-clause-there : goal.word_stands-requires-clause-there
word_stands-requires-clause-there g c =
    let words = c.args.words.now.items in
    let number = c.loop-number.number in
    let word = c.index_mut.result.now in
    let test = c.loop-number-test.true in
    let end = c.len-number-end.ensures in
    let is = c.index_mut.ensures.value ∙ ap (λ (own : List WordTerms). get_or own number word) c.loop-number.invariant.same in
    subst (AreThere c.args.place.now.version.now) (sym is) (All-get_or (AreThere c.args.place.now.version.now) words number word (omega arith) c.requires.there)

pub returns-then-not-word_stands-clause-says : goal.returns-then-not-word_stands-clause-says
returns-then-not-word_stands-clause-says g c =
    let place = c.args.place.now in
    let words = c.args.words.now.items in
    let number = c.loop-number.number in
    let word = c.index_mut.result.now in
    let test = c.loop-number-test.true in
    let end = c.len-number-end.ensures in
    let is = c.index_mut.ensures.value ∙ ap (λ (own : List WordTerms). get_or own number word) c.loop-number.invariant.same in
    stands_not (wanted_at place.version.now place.doc.0 place.span) words c.args.part.from number word (omega arith) is
    c.loop-number.invariant.says (sym c.word_stands.ensures.says ∙ c.if-not-word_stands.true)

pub loop-number-preserved : goal.loop-number-preserved
loop-number-preserved g c =
    let place = c.args.place.now in
    let words = c.args.words.now.items in
    let number = c.loop-number.number in
    let word = c.index_mut.result.now in
    let test = c.loop-number-test.true in
    let end = c.len-number-end.ensures in
    let is = c.index_mut.ensures.value ∙ ap (λ (own : List WordTerms). get_or own number word) c.loop-number.invariant.same in
    record {
      same = set_kept c.loop-number.words.items words number word c.word_stands.new.word c.loop-number.invariant.same c.index_mut.ensures.value c.word_stands.ensures.same;
      says = stands_more (wanted_at place.version.now place.doc.0 place.span) words c.args.part.from number word (omega arith) is
          c.loop-number.invariant.says (sym c.word_stands.ensures.says ∙ c.if-not-word_stands.false);
      grown = omega (arith, c.loop-number.invariant.grown, c.word_stands.ensures.grown);
    }

pub returns-clause-says : goal.returns-clause-says
returns-clause-says g c =
    let place = c.args.place.now in
    let words = c.args.words.now.items in
    let test = c.loop-number-test.false in
    let end = c.len-number-end.ensures in
    stands_whole (wanted_at place.version.now place.doc.0 place.span) words c.args.part.from c.loop-number.number (omega arith) c.loop-number.invariant.says
