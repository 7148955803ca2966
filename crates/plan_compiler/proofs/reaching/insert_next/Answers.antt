-- A choice that was followed before, and another one.
use Rattle.std.proofs.Common.{◌≡◌, ◌∙◌, List, OnOk, sym, ap, subst}
use Rattle.std.specs.Prelude.{fold}
use Rattle.std.specs.BTreeSet.{insert_key}
use Rattle.ft_base.specs.declared.options.ThesaurusUse.{ThesaurusUse}
use Rattle.plan_compiler.specs.Lexicon.{lexicon}
use Rattle.plan_compiler.proofs.ReachedLemmas.{again, another}
use Rattle.thesaurus_file.specs.Phrases.{Phrase, phrase_cmp}
use Rattle.plan_compiler.proofs.reaching.insert_next.Goals as goal

pub returns-then-is_among : goal.returns-then-is_among
returns-then-is_among c =
    let reach : ThesaurusUse → List Phrase = λ choice. (lexicon c.args.lists.now).reached choice c.args.keys.now in
    c.requires ∙ sym (again reach c.args.before.now c.args.choice.now (c.is_among.ensures c.if-is_among.true))

pub returns : goal.returns
returns c =
    let reach : ThesaurusUse → List Phrase = λ choice. (lexicon c.args.lists.now).reached choice c.args.keys.now in
    subst (λ (keys : List Phrase). OnOk c.insert_by_use.result (c.insert_by_use.new.reached.keys ≡ keys))
    (ap (λ keys. fold (insert_key phrase_cmp) keys (reach c.args.choice.now)) c.requires ∙ sym (another reach c.args.before.now c.args.choice.now))
    c.insert_by_use.ensures
