-- The first variant that stands there, or none.
use Rattle.std.proofs.Common.{◌<◌, ◌∙◌, List, length, map, refl, sym, arith}
use Rattle.std.specs.List.{All}
use Rattle.index_phrases.specs.Phrases.{wanted_at}
use Rattle.index_phrases.specs.declared.word_terms.WordTerms.{WordTerms}
use Rattle.index_phrases.specs.steps.Aiming.{AreThere, variant_words}
use Rattle.index_phrases.proofs.PartLemmas.{as_many, holds_at, part_at, parts_kept}
use Rattle.spot_merges.specs.Edges as edges
use Rattle.plan_runs.proofs.EdgeLemmas.{any_here, any_later, any_nowhere}
use Rattle.plan_runs.proofs.edge_holding.stands_at_edge.Goals as goal

pub variant_stands-requires : goal.variant_stands-requires
variant_stands-requires g c =
    let views = map variant_words c.args.variants.now.items in
    let old = as_many variant_words c.args.variants.now.items views refl in
    let now = as_many variant_words c.loop-number.variants.items views c.loop-number.invariant.same in
    let test = c.loop-number-test.true in
    let end = c.len-number-end.ensures in
    let within : c.loop-number.number < length c.loop-number.variants.items = omega arith in
    holds_at variant_words (All (AreThere c.args.place.now.version.now)) c.loop-number.variants.items views c.loop-number.number c.index_mut.result.now
    c.requires c.loop-number.invariant.same within c.index_mut.ensures.value

pub returns-then-variant_stands-clause-says : goal.returns-then-variant_stands-clause-says
returns-then-variant_stands-clause-says g c =
    let place = c.args.place.now in
    let views = map variant_words c.args.variants.now.items in
    let old = as_many variant_words c.args.variants.now.items views refl in
    let test = c.loop-number-test.true in
    let end = c.len-number-end.ensures in
    let words = c.index_mut.result.now in
    any_here (λ (own : List WordTerms). edges.stands_at_edge c.args.edge place.span (map (wanted_at place.version.now place.doc.0 place.span) own)) views c.loop-number.number words.items (omega arith)
    (part_at variant_words c.loop-number.variants.items views c.loop-number.number words c.loop-number.invariant.same c.index_mut.ensures.value)
    c.loop-number.invariant.says (sym c.variant_stands.ensures.says ∙ c.if-variant_stands.true)

pub returns-then-variant_stands-clause-same : goal.returns-then-variant_stands-clause-same
returns-then-variant_stands-clause-same g c =
    parts_kept variant_words c.loop-number.variants.items (map variant_words c.args.variants.now.items) c.loop-number.number c.index_mut.result.now c.variant_stands.new.words
    c.loop-number.invariant.same c.index_mut.ensures.value c.variant_stands.ensures.same

pub loop-number-preserved : goal.loop-number-preserved
loop-number-preserved g c =
    let place = c.args.place.now in
    let views = map variant_words c.args.variants.now.items in
    let old = as_many variant_words c.args.variants.now.items views refl in
    let test = c.loop-number-test.true in
    let end = c.len-number-end.ensures in
    let words = c.index_mut.result.now in
    record {
      same = parts_kept variant_words c.loop-number.variants.items views c.loop-number.number words c.variant_stands.new.words
          c.loop-number.invariant.same c.index_mut.ensures.value c.variant_stands.ensures.same;
      says = any_later (λ (own : List WordTerms). edges.stands_at_edge c.args.edge place.span (map (wanted_at place.version.now place.doc.0 place.span) own)) views c.loop-number.number words.items (omega arith)
          (part_at variant_words c.loop-number.variants.items views c.loop-number.number words c.loop-number.invariant.same c.index_mut.ensures.value)
          c.loop-number.invariant.says (sym c.variant_stands.ensures.says ∙ c.if-variant_stands.false);
      grown = omega (arith, c.loop-number.invariant.grown, c.variant_stands.ensures.grown);
    }

pub returns-clause-says : goal.returns-clause-says
returns-clause-says g c =
    let place = c.args.place.now in
    let views = map variant_words c.args.variants.now.items in
    let old = as_many variant_words c.args.variants.now.items views refl in
    let test = c.loop-number-test.false in
    let end = c.len-number-end.ensures in
    any_nowhere (λ (own : List WordTerms). edges.stands_at_edge c.args.edge place.span (map (wanted_at place.version.now place.doc.0 place.span) own)) views c.loop-number.number (omega arith)
    c.loop-number.invariant.says
