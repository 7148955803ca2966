-- Words have the hits of their phrases, and nothing else is words.
use Rattle.std.proofs.Common.{◌∙◌, ap, sym, subst, List}
use Rattle.std.proofs.lemmas.Result.{IfOk-weaker}
use Rattle.ft_base.specs.Selection.{Form, words, with_options}
use Rattle.ft_base.specs.declared.options.Options.{Options}
use Rattle.ft_syntax.specs.View.{form}
use Rattle.ft_syntax.specs.declared.selection.Selection.{Selection}
use Rattle.plan_compiler.specs.ChosenOptions.{options_of}
use Rattle.plan_compiler.specs.CompiledCounts.{BareCounts, ValueCounts}
use Rattle.plan_compiler.specs.Lexicon.{lexicon}
use Rattle.plan_compiler.specs.declared.operator_plan.PhraseTests.{PhraseTests}
use Rattle.plan_compiler.proofs.CountedLemmas.{bare_none, bare_with, bare_words}
use Rattle.plan_compiler.proofs.ServedLemmas.{form-With, form-Words}
use Rattle.plan_compiler.proofs.SkippedShapes.{no_hits-And, no_hits-Filtered, no_hits-MildNot, no_hits-Not, no_hits-Or}
use Rattle.plan_compiler.proofs.compiling_counts.+bare.Goals as goal

pub returns-in-Words : goal.returns-in-Words
returns-in-Words t c =
    let lists = c.args.lists.now in
    let options = options_of c.args.chosen.now in
    let value = c.in-Words.words in
    IfOk-weaker c.value_phrases.result (λ (found : List PhraseTests). ValueCounts lists (options_of c.inside.result) found value)
    (λ (found : List PhraseTests). BareCounts lists options found (form c.args.selection.now))
    (λ found counts.
    subst (λ (f : Form). BareCounts lists options found f) (sym (ap form c.in-Words.is ∙ form-Words value))
    (bare_words lists options found value (subst (λ (o : Options). ValueCounts lists o found value) c.inside.ensures counts)))
    c.value_phrases.ensures

pub returns-in-With : goal.returns-in-With
returns-in-With t c =
    let lists = c.args.lists.now in
    let options = options_of c.args.chosen.now in
    let operand = c.in-With.operand in
    let inner = c.in-With.options in
    IfOk-weaker c.bare_phrases.result (λ (found : List PhraseTests). BareCounts lists (options_of c.inside-in-With.result) found (form c.deref.result.now))
    (λ (found : List PhraseTests). BareCounts lists options found (form c.args.selection.now))
    (λ found counts.
    subst (λ (f : Form). BareCounts lists options found f) (sym (ap form c.in-With.is ∙ form-With operand inner))
    (bare_with lists options found (form operand.value) inner
    (subst (λ (o : Options). BareCounts lists o found (form operand.value)) c.inside-in-With.ensures
    (subst (λ (s : Selection). BareCounts lists (options_of c.inside-in-With.result) found (form s)) c.deref.ensures counts))))
    c.bare_phrases.ensures

pub returns-in-Or : goal.returns-in-Or
returns-in-Or t c =
    bare_none c.args.lists.now (options_of c.args.chosen.now) c.new.result (form c.args.selection.now) c.new.ensures
    (λ tokens. no_hits-Or (lexicon c.args.lists.now) (options_of c.args.chosen.now) c.args.selection.now tokens c.in-Or._parts c.in-Or.is)

pub returns-in-And : goal.returns-in-And
returns-in-And t c =
    bare_none c.args.lists.now (options_of c.args.chosen.now) c.new-in-And.result (form c.args.selection.now) c.new-in-And.ensures
    (λ tokens. no_hits-And (lexicon c.args.lists.now) (options_of c.args.chosen.now) c.args.selection.now tokens c.in-And._parts c.in-And.is)

pub returns-in-MildNot : goal.returns-in-MildNot
returns-in-MildNot t c =
    bare_none c.args.lists.now (options_of c.args.chosen.now) c.new-in-MildNot.result (form c.args.selection.now) c.new-in-MildNot.ensures
    (λ tokens. no_hits-MildNot (lexicon c.args.lists.now) (options_of c.args.chosen.now) c.args.selection.now tokens c.in-MildNot._left c.in-MildNot._right c.in-MildNot.is)

pub returns-in-Not : goal.returns-in-Not
returns-in-Not t c =
    bare_none c.args.lists.now (options_of c.args.chosen.now) c.new-in-Not.result (form c.args.selection.now) c.new-in-Not.ensures
    (λ tokens. no_hits-Not (lexicon c.args.lists.now) (options_of c.args.chosen.now) c.args.selection.now tokens c.in-Not._operand c.in-Not.is)

pub returns-in-Filtered : goal.returns-in-Filtered
returns-in-Filtered t c =
    bare_none c.args.lists.now (options_of c.args.chosen.now) c.new-in-Filtered.result (form c.args.selection.now) c.new-in-Filtered.ensures
    (λ tokens. no_hits-Filtered (lexicon c.args.lists.now) (options_of c.args.chosen.now) c.args.selection.now tokens c.in-Filtered._operand c.in-Filtered._filter c.in-Filtered.is)
