-- The key of a term is that of its word.
use Rattle.std.proofs.Common.{◌≡◌, ◌∙◌, Bool, List, Option, ap, subst, sym, ℕ}
use Rattle.std.specs.Option.{IfSome}
use Rattle.text_forms.specs.Forms.{key_of}
use Rattle.index_meaning.specs.Entries.{Entry}
use Rattle.index_versions.specs.Versions.{term_at}
use Rattle.plan_compiler.specs.ItemTests.{passes}
use Rattle.plan_compiler.specs.TextWords.{word_as}
use Rattle.plan_runs.proofs.TermLaws.{term_keyed}
use Rattle.plan_runs.proofs.choosing.passes.Goals as goal

pub returns-in-Some : goal.returns-in-Some
returns-in-Some c =
    let opening = c.args.opening.now in
    let version = opening.version.now in
    let told = subst (λ (found : Option Bool). IfSome found (λ passed. (word : List ℕ) → key_of word ≡ c.term-term.result.key.now
    → passed ≡ passes c.args.test.now (word_as opening.looks opening.lists.now.stems word))) c.in-Some.is c.in_ok-passed.ensures in
    told (term_at c.args.number version).word (sym (term_keyed version c.args.number c.requires) ∙ sym (ap (λ (e : Entry). e.key) c.term-term.ensures))
