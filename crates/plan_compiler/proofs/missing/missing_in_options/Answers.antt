-- The thesaurus option is asked first.
use Rattle.std.proofs.Common.{◌∙◌, sym, ap}
use Rattle.std.specs.Option.{option_copied, option_or}
use Rattle.plan_compiler.specs.Missing.{missing_among, stop_names, thesaurus_names}
use Rattle.plan_compiler.proofs.MissingLemmas.{missing_append}
use Rattle.plan_compiler.proofs.missing.missing_in_options.Goals as goal

pub returns-in-Some : goal.returns-in-Some
returns-in-Some c =
    ap (λ o. option_or o (missing_among c.args.lists.now (stop_names c.args.options.now.stop_words))) (sym (ap option_copied c.in-Some.is) ∙ c.missing_thesaurus.ensures)
    ∙ sym (missing_append c.args.lists.now (thesaurus_names c.args.options.now.thesaurus) (stop_names c.args.options.now.stop_words))

pub returns-in-None : goal.returns-in-None
returns-in-None c =
    c.missing_stop_list.ensures
    ∙ ap (λ o. option_or o (missing_among c.args.lists.now (stop_names c.args.options.now.stop_words))) (sym (ap option_copied c.in-None.is) ∙ c.missing_thesaurus.ensures)
    ∙ sym (missing_append c.args.lists.now (thesaurus_names c.args.options.now.thesaurus) (stop_names c.args.options.now.stop_words))
