-- The words with their texts, range and options.
use Rattle.std.proofs.Common.{ap, ◌∙◌, option_map}
use Rattle.ft_base.specs.Selection.{words}
use Rattle.selection_grammar.specs.Form.{form_of}
use Rattle.selection_grammar.specs.Grammar.{texts_of}
use Rattle.selection_faults.proofs.selection.words_of.Goals as goal

pub returns : goal.returns
unfolding form_of
returns c =
    let w = c.args.words in
    ap (λ texts. words (record { values = texts; mode = w.mode; times = c.range_of.result; options = c.options_of.result })) c.in_ok-texts_of.ensures
    ∙ ap (λ range. words (record { values = texts_of w.strings; mode = w.mode; times = range; options = c.options_of.result })) c.range_of.ensures
    ∙ ap (λ options. words (record { values = texts_of w.strings; mode = w.mode; times = option_map (λ t. t.range) w.times; options = options })) c.options_of.ensures
