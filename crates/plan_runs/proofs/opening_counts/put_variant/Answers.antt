-- The variant is put into the group of its length, or after all groups.
use Rattle.std.proofs.Common.{◌≡◌, ◌<◌, ◌≤◌, ◌∙◌, ℕ, suc, ◌+◌, List, [], ◌∷◌, ◌++◌, drop, map, take, length, OnOk, ap, sym, subst, arith}
use Rattle.std.proofs.lemmas.Bool.{eq-eqb, ne_eqb}
use Rattle.std.proofs.lemmas.List.{map_push}
use Rattle.all_matches.specs.Counting.{put_variant}
use Rattle.index_phrases.specs.declared.word_terms.WordTerms.{WordTerms}
use Rattle.index_phrases.specs.steps.Aiming.{variant_words}
use Rattle.plan_runs.specs.declared.run_counts.TermGroup.{TermGroup}
use Rattle.plan_runs.specs.steps.Counts.{TermGroups}
use Rattle.plan_runs.specs.steps.RunShapes.{term_groups}
use Rattle.plan_runs.proofs.PutVariants.{put_here, put_last, put_past, put_some}
use Rattle.plan_runs.proofs.opening_counts.put_variant.Goals as goal

pub returns-then-index-words : goal.returns-then-index-words
returns-then-index-words c =
    let variant = c.args.variant.items in
    let groups = c.loop-number.groups.items in
    let words : c.len-words.result ≡ length variant = omega (arith, c.len-words.ensures) in
    let many = c.len-number-end.ensures in
    let long = ap length c.loop-number.invariant.same in
    let found = c.index_mut.result.now in
    let within : c.loop-number.number < length groups = omega (arith, c.loop-number-test.true, many, long) in
    let some : 0 < length variant = omega (arith, c.if-words-eq0.false, words) in
    let after : TermGroup = record { words = found.words; variants = c.push.new.self } in
    let one = ap (λ (variants : List (List WordTerms)). (found.words, variants)) (ap (map variant_words) c.in_ok-push.ensures.items ∙ map_push variant_words found.variants.items c.args.variant) in
    sym
    (put_some (term_groups c.args.groups.now.items) variant some
    ∙ ap (λ (all : List TermGroup). put_variant variant (term_groups all)) (sym c.loop-number.invariant.same)
    ∙ c.loop-number.invariant.later
    ∙ put_here variant groups c.loop-number.number c.index.result.now found after within c.index.ensures c.index_mut.ensures.value
    (eq-eqb (length variant) c.index.result.now.words (omega (arith, c.if-index-words.true, words))) one)

pub loop-number-preserved : goal.loop-number-preserved
loop-number-preserved c =
    let variant = c.args.variant.items in
    let groups = c.loop-number.groups.items in
    let words : c.len-words.result ≡ length variant = omega (arith, c.len-words.ensures) in
    let many = c.len-number-end.ensures in
    let long = ap length c.loop-number.invariant.same in
    let within : c.loop-number.number < length groups = omega (arith, c.loop-number-test.true, many, long) in
    let next : suc c.loop-number.number ≡ c.loop-number.number + 1 = omega arith in
    let other = ne_eqb (length variant) c.index.result.now.words (λ is. c.if-index-words.false (sym is ∙ sym words)) in
    record {
      same = c.loop-number.invariant.same;
      later = c.loop-number.invariant.later ∙ put_past variant groups c.loop-number.number c.index.result.now within c.index.ensures other
          ∙ ap (λ (n : ℕ). take n (term_groups groups) ++ put_variant variant (drop n (term_groups groups))) next;
    }

pub returns-in-Ok : goal.returns-in-Ok
returns-in-Ok c =
    let variant = c.args.variant.items in
    let groups = c.loop-number.groups.items in
    let words : c.len-words.result ≡ length variant = omega (arith, c.len-words.ensures) in
    let many = c.len-number-end.ensures in
    let long = ap length c.loop-number.invariant.same in
    let past : length groups ≤ c.loop-number.number = omega (arith, c.loop-number-test.false, many, long) in
    let some : 0 < length variant = omega (arith, c.if-words-eq0.false, words) in
    let number : c.in-Ok.words ≡ length variant = c.in-Ok.ensures.1 ∙ words in
    subst (λ (made : TermGroups). OnOk c.push_group.result (term_groups c.push_group.new.groups.items ≡ made))
    (ap (λ (n : ℕ). term_groups groups ++ (n, variant ∷ []) ∷ []) number
    ∙ sym (put_last variant groups c.loop-number.number past)
    ∙ sym c.loop-number.invariant.later
    ∙ ap (λ (all : List TermGroup). put_variant variant (term_groups all)) c.loop-number.invariant.same
    ∙ sym (put_some (term_groups c.args.groups.now.items) variant some))
    c.push_group.ensures
