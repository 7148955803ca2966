-- By the numbers of the references, and by the texts.
use Rattle.std.proofs.Common.{◌≡◌, ◌≤◌, ◌∷◌, [], sym, ap, arith}
use Rattle.std.proofs.lemmas.Bool.{true≢false}
use Rattle.ft_base.specs.declared.ids.NodeRef.{NodeRef}
use Rattle.tree_edits.specs.Examples.{a, c, ref}
use Rattle.tree_edits.proofs.EditLemmas.{root_distinct}
use Rattle.tree_edits.proofs.ExampleLemmas.{letters_fit}
use Rattle.tree_edits.proofs.examples.fitting_documents.Goals as goal

pub returns-clause-fits : goal.returns-clause-fits
returns-clause-fits c = letters_fit

pub returns-clause-other_root : goal.returns-clause-other_root
returns-clause-other_root c = λ fits.
    let no : 1 ≡ 0 = ap (λ (r : NodeRef). r.0) fits.rooted in
    omega (arith, no)

pub returns-clause-two_texts : goal.returns-clause-two_texts
returns-clause-two_texts c = λ fits. true≢false (sym fits.document)

pub returns-clause-one_reference_twice : goal.returns-clause-one_reference_twice
returns-clause-one_reference_twice given = λ fits.
    let no : 2 ≤ 1 = root_distinct (a 0 (c 2 ∷ c 2 ∷ [])) fits.apart (ref 2) in
    omega (arith, no)
