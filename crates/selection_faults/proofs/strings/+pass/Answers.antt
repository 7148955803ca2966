-- Each kind of selection has the strings of its parts, one after the other; in the list one more part was passed.
use Rattle.std.proofs.Common.{◌≡◌, ◌∷◌, [], ◌++◌, Bool, List, OnOk, map, take, subst, refl, sym, ap, ◌∙◌, arith, append-nil}
use Rattle.std.proofs.lemmas.List.{map-append}
use Rattle.selection_grammar.proofs.Views.{tree_words, tree_or, tree_and, tree_mild, tree_not, tree_filtered, tree_with}
use Rattle.selection_grammar.specs.Tree.{trees_of}
use Rattle.selection_grammar.specs.View.{tree}
use Rattle.selection_grammar.specs.declared.parsed.Parsed.{Parsed}
use Rattle.selection_faults.specs.Strings.{Written, strings_inside, strings_inside_all, strings_of_words, wildcards_inside}
use Rattle.selection_faults.specs.steps.Walk.{after_all}
use Rattle.selection_faults.proofs.WalkLemmas.{after_append, strings_append, walk_next}
use Rattle.selection_faults.proofs.strings.+pass.Goals as goal

pub pass-returns-in-Words : goal.pass-returns-in-Words
unfolding strings_inside
pass-returns-in-Words t c =
    let around = c.args.wildcards in
    let shown : strings_of_words around c.in-Words.words ≡ strings_inside around (tree c.args.parsed.now) = ap (strings_inside around) (sym (tree_words c.in-Words.words) ∙ ap tree (sym c.in-Words.is)) in
    subst (λ (strings : List Written). OnOk c.pass_words.result (c.pass_words.new.walk ≡ after_all c.args.walk.now strings)) shown c.pass_words.ensures

pub pass-returns-in-Or : goal.pass-returns-in-Or
unfolding strings_inside
pass-returns-in-Or t c =
    let around = c.args.wildcards in
    let shown : strings_inside_all around (trees_of (map tree c.in-Or.parts)) ≡ strings_inside around (tree c.args.parsed.now) = ap (strings_inside around) (sym (tree_or c.in-Or.parts) ∙ ap tree (sym c.in-Or.is)) in
    subst (λ (strings : List Written). OnOk c.pass_parts.result (c.pass_parts.new.walk ≡ after_all c.args.walk.now strings)) shown c.pass_parts.ensures

pub pass-returns-in-And : goal.pass-returns-in-And
unfolding strings_inside
pass-returns-in-And t c =
    let around = c.args.wildcards in
    let shown : strings_inside_all around (trees_of (map tree c.in-And.parts)) ≡ strings_inside around (tree c.args.parsed.now) = ap (strings_inside around) (sym (tree_and c.in-And.parts) ∙ ap tree (sym c.in-And.is)) in
    subst (λ (strings : List Written). OnOk c.pass_parts-in-And.result (c.pass_parts-in-And.new.walk ≡ after_all c.args.walk.now strings)) shown c.pass_parts-in-And.ensures

pub pass-returns-in_ok-pass-in-MildNot : goal.pass-returns-in_ok-pass-in-MildNot
unfolding strings_inside
pass-returns-in_ok-pass-in-MildNot t c =
    let around = c.args.wildcards in
    let left = c.in-MildNot.left in
    let right = c.in-MildNot.right in
    let shown : after_all c.pass.new.walk (strings_inside around (tree c.deref-in-MildNot.result.now)) ≡ after_all c.args.walk.now (strings_inside around (tree c.args.parsed.now)) =
    ap (λ (x : Parsed). after_all c.pass.new.walk (strings_inside around (tree x))) c.deref-in-MildNot.ensures
    ∙ ap (λ walk. after_all walk (strings_inside around (tree right.value))) (c.in_ok-pass-in-MildNot.ensures ∙ ap (λ (x : Parsed). after_all c.args.walk.now (strings_inside around (tree x))) c.deref.ensures)
    ∙ sym (after_append c.args.walk.now (strings_inside around (tree left.value)) (strings_inside around (tree right.value)))
    ∙ ap (λ x. after_all c.args.walk.now (strings_inside around x)) (sym (tree_mild left right) ∙ ap tree (sym c.in-MildNot.is)) in
    subst (λ known. OnOk c.pass-in-MildNot.result (c.pass-in-MildNot.new.walk ≡ known)) shown c.pass-in-MildNot.ensures

pub pass-returns-in-Not : goal.pass-returns-in-Not
unfolding strings_inside
pass-returns-in-Not t c =
    let around = c.args.wildcards in
    let operand = c.in-Not.operand in
    let shown : strings_inside around (tree c.deref-in-Not.result.now) ≡ strings_inside around (tree c.args.parsed.now) =
    ap (λ (x : Parsed). strings_inside around (tree x)) c.deref-in-Not.ensures ∙ ap (strings_inside around) (sym (tree_not c.in-Not.field-0 operand) ∙ ap tree (sym c.in-Not.is)) in
    subst (λ (strings : List Written). OnOk c.pass-in-Not.result (c.pass-in-Not.new.walk ≡ after_all c.args.walk.now strings)) shown c.pass-in-Not.ensures

pub pass-returns-in-Filtered : goal.pass-returns-in-Filtered
unfolding strings_inside
pass-returns-in-Filtered t c =
    let around = c.args.wildcards in
    let operand = c.in-Filtered.operand in
    let shown : strings_inside around (tree c.deref-in-Filtered.result.now) ≡ strings_inside around (tree c.args.parsed.now) =
    ap (λ (x : Parsed). strings_inside around (tree x)) c.deref-in-Filtered.ensures ∙ ap (strings_inside around) (sym (tree_filtered operand c.in-Filtered.field-1) ∙ ap tree (sym c.in-Filtered.is)) in
    subst (λ (strings : List Written). OnOk c.pass-in-Filtered.result (c.pass-in-Filtered.new.walk ≡ after_all c.args.walk.now strings)) shown c.pass-in-Filtered.ensures

pub pass-returns-in-With : goal.pass-returns-in-With
unfolding strings_inside
pass-returns-in-With t c =
    let around = c.args.wildcards in
    let operand = c.in-With.operand in
    let options = c.in-With.options in
    let shown : strings_inside c.wildcards_inside-inside.result (tree c.deref-in-With.result.now) ≡ strings_inside around (tree c.args.parsed.now) =
    ap (λ on. strings_inside on (tree c.deref-in-With.result.now)) (c.wildcards_inside-inside.ensures ∙ ap (wildcards_inside around) c.as_slice.ensures)
    ∙ ap (λ (x : Parsed). strings_inside (wildcards_inside around options) (tree x)) c.deref-in-With.ensures
    ∙ ap (strings_inside around) (sym (tree_with operand options) ∙ ap tree (sym c.in-With.is)) in
    subst (λ (strings : List Written). OnOk c.pass-in-With.result (c.pass-in-With.new.walk ≡ after_all c.args.walk.now strings)) shown c.pass-in-With.ensures

pub pass_parts-loop-part-init : goal.pass_parts-loop-part-init
unfolding after_all strings_inside
pass_parts-loop-part-init t c = refl

one_more : (around : Bool) (xs : List Parsed) (x : Parsed) → strings_inside_all around (trees_of (map tree (xs ++ x ∷ []))) ≡ strings_inside_all around (trees_of (map tree xs)) ++ strings_inside around (tree x)
unfolding strings_inside
one_more around xs x =
    ap (λ trees. strings_inside_all around (trees_of trees)) (map-append tree xs (x ∷ []))
    ∙ strings_append around (map tree xs) (tree x ∷ [])
    ∙ ap (λ more. strings_inside_all around (trees_of (map tree xs)) ++ more) (append-nil (strings_inside around (tree x)))

pub pass_parts-loop-part-preserved : goal.pass_parts-loop-part-preserved
pass_parts-loop-part-preserved t c =
    let around = c.args.wildcards in
    let i = c.loop-part.part-index in
    let items = c.as_slice-part-items.result.now in
    let part = c.part-item.result in
    c.in_ok-pass.ensures
    ∙ ap (λ walk. after_all walk (strings_inside around (tree part))) c.loop-part.invariant
    ∙ ap (λ (x : Parsed). after_all (after_all c.args.walk.now (strings_inside_all around (trees_of (map tree (take i items))))) (strings_inside around (tree x))) c.part-item.is
    ∙ walk_next c.args.walk.now (λ x. strings_inside around (tree x)) (λ xs. strings_inside_all around (trees_of (map tree xs))) (one_more around) items i part (omega arith)
