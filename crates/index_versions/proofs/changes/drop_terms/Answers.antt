-- Each id that leaves is there, and the others stay.
use Rattle.std.proofs.Common.{◌≡◌, ◌+◌, ℕ, ◌&&◌, ◌==◌, ◌∷◌, List, not, drop, get_or, ap, sym, ◌∙◌, arith}
use Rattle.std.proofs.lemmas.List.{drop_more}
use Rattle.index_document.specs.Terms.{are_distinct, has}
use Rattle.index_meaning.specs.Dictionaries.{ids}
use Rattle.index_versions.proofs.ChangeLemmas.{leaves}
use Rattle.index_versions.proofs.changes.drop_terms.Goals as goal

pub loop-id-preserved : goal.loop-id-preserved
loop-id-preserved c =
    let gone = c.args.fallen.now.items in
    let at = c.loop-id.id-index in
    let x = get_or gone at 0 in
    let rest = drop (at + 1) gone in
    let inv = c.loop-id.invariant in
    let before = ids c.loop-id.dictionary.terms in
    let split : drop at gone ≡ x ∷ rest = drop_more gone at 0 (omega (arith, c.loop-id-test.true)) in
    let step = leaves x rest before (ids c.drop_term.new.dictionary.terms)
    (ap are_distinct (sym split) ∙ inv.distinct)
    (λ id member. inv.there id (ap (has id) split ∙ member))
    (λ id. c.in_ok-drop_term.ensures.left id ∙ ap (λ (xs : List ℕ). not (get_or xs at 0 == id) && has id before) c.deref-id-items.ensures.value) in
    record {
      distinct = step.distinct;
      there = step.there;
      left = λ id. step.left id ∙ ap (λ (xs : List ℕ). not (has id xs) && has id before) (sym split) ∙ inv.left id;
      given = c.in_ok-drop_term.ensures.given ∙ inv.given;
    }
