-- First the one order, then the other.
use Rattle.std.proofs.Common.{◌≡◌, ap, sym, ◌∙◌, arith, map, length, get_or, take, drop}
use Rattle.std.proofs.lemmas.List.{length-map}
use Rattle.phrase_merges.specs.Rows.{aims_of, all_aims, hits_left, hits_there}
use Rattle.phrase_merges.proofs.ApartLemmas.{aims_kept, first_order, not_two, pair_is, second_order}
use Rattle.phrase_merges.proofs.apart.stand_between.Goals as goal

pub returns-then-len-ne2-clause-between : goal.returns-then-len-ne2-clause-between
returns-then-len-ne2-clause-between g c =
    let state = g.P.PhraseHits.state in
    let lists = map (hits_there c.args.doc.0 c.args.span) (all_aims state c.args.phrases.now.items) in
    let many : length lists ≡ length c.args.phrases.now.items = length-map (all_aims state c.args.phrases.now.items) (hits_there c.args.doc.0 c.args.span)
    ∙ length-map c.args.phrases.now.items (λ phrase. aims_of state phrase.items) in
    sym (not_two c.args.low c.args.high c.args.unit lists (λ two. omega (arith, many, two, c.if-len-ne2.true, c.len.ensures)))

pub returns-then-stands_after-clause-between : goal.returns-then-stands_after-clause-between
returns-then-stands_after-clause-between g c =
    let state = g.P.PhraseHits.state in
    let lists = map (hits_there c.args.doc.0 c.args.span) (all_aims state c.args.phrases.now.items) in
    let two : length lists ≡ 2 = length-map (all_aims state c.args.phrases.now.items) (hits_there c.args.doc.0 c.args.span)
    ∙ length-map c.args.phrases.now.items (λ phrase. aims_of state phrase.items) ∙ omega (arith, c.if-len-ne2.false, c.len.ensures) in
    let pair = pair_is state c.aim_all.new.phrases.items _ _ c.index-first-0.result c.index-second-0.result lists c.aim_all.ensures.hits two
    (c.split_at_mut-first.ensures.front ∙ ap (take 1) c.deref_mut.ensures.value) (c.split_at_mut-first.ensures.back ∙ ap (drop 1) c.deref_mut.ensures.value) in
    sym (first_order c.args.low c.args.high c.args.unit lists (hits_left state (get_or c.split_at_mut-first.result.0.now 0 c.index-first-0.result).items) (hits_left state (get_or c.split_at_mut-first.result.1.now 0 c.index-second-0.result).items) pair
    (sym c.stands_after.ensures.after ∙ c.if-stands_after.true))

pub returns-clause-between : goal.returns-clause-between
returns-clause-between g c =
    let state = g.P.PhraseHits.state in
    let lists = map (hits_there c.args.doc.0 c.args.span) (all_aims state c.args.phrases.now.items) in
    let two : length lists ≡ 2 = length-map (all_aims state c.args.phrases.now.items) (hits_there c.args.doc.0 c.args.span)
    ∙ length-map c.args.phrases.now.items (λ phrase. aims_of state phrase.items) ∙ omega (arith, c.if-len-ne2.false, c.len.ensures) in
    let pair = pair_is state c.aim_all.new.phrases.items _ _ c.index-first-0.result c.index-second-0.result lists c.aim_all.ensures.hits two
    (c.split_at_mut-first.ensures.front ∙ ap (take 1) c.deref_mut.ensures.value) (c.split_at_mut-first.ensures.back ∙ ap (drop 1) c.deref_mut.ensures.value) in
    let kept = aims_kept state c.aim_all.new.phrases.len c.aim_all.new.phrases.items c.split_at_mut-first.result.0.now c.split_at_mut-first.result.1.now c.index-first-0.result c.index-second-0.result
    c.stands_after.new.first c.stands_after.new.second lists c.aim_all.ensures.hits two (omega (arith, c.aim_all.new.phrases.ok.0))
    (c.split_at_mut-first.ensures.front ∙ ap (take 1) c.deref_mut.ensures.value) (c.split_at_mut-first.ensures.back ∙ ap (drop 1) c.deref_mut.ensures.value)
    c.stands_after.ensures.first_aims c.stands_after.ensures.second_aims in
    let again = pair_is state c.aim_all-2.new.phrases.items _ _ c.index-first-0-2.result c.index-second-0-2.result lists (c.aim_all-2.ensures.hits ∙ ap (map (hits_there c.args.doc.0 c.args.span)) (kept ∙ c.aim_all.ensures.aims)) two
    (c.split_at_mut-first-2.ensures.front ∙ ap (take 1) c.deref_mut-2.ensures.value) (c.split_at_mut-first-2.ensures.back ∙ ap (drop 1) c.deref_mut-2.ensures.value) in
    c.stands_after-2.ensures.after
    ∙ sym (second_order c.args.low c.args.high c.args.unit lists (hits_left state (get_or c.split_at_mut-first.result.0.now 0 c.index-first-0.result).items) (hits_left state (get_or c.split_at_mut-first.result.1.now 0 c.index-second-0.result).items)
    (hits_left state (get_or c.split_at_mut-first-2.result.0.now 0 c.index-first-0-2.result).items) (hits_left state (get_or c.split_at_mut-first-2.result.1.now 0 c.index-second-0-2.result).items) pair again (sym c.stands_after.ensures.after ∙ c.if-stands_after.false))
