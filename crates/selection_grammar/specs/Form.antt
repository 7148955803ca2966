-- The selection that a tree stands for: the tree without its places.
use Rattle.std.specs.Prelude.{ℕ, Bool, List, [], ◌∷◌, map, Option, Some, None, option_map}
use Rattle.ft_base.specs.declared.options.Options.{Options}
use Rattle.ft_base.specs.Selection as form
use Rattle.ft_base.specs.Selection.{no_options, Form, Forms}
use Rattle.selection_grammar.specs.declared.parsed.MatchOption.{MatchOption}
use Rattle.selection_grammar.specs.declared.parsed.MatchOption.TheVariants as O
use Rattle.selection_grammar.specs.declared.parsed.PlacedOption.{PlacedOption}
use Rattle.selection_grammar.specs.declared.parsed.PlacedTimes.{PlacedTimes}
use Rattle.selection_grammar.specs.Grammar.{texts_of}
use Rattle.selection_grammar.specs.Tree as tree
use Rattle.selection_grammar.specs.Tree.{Tree, Trees}

abbrev pub with_option : Options → MatchOption → Options
with_option options (O.Case case) = record options { case = Some case }
with_option options (O.Diacritics sensitive) = record options { diacritics_sensitive = Some sensitive }
with_option options (O.Stemming on) = record options { stemming = Some on }
with_option options (O.Thesaurus choice) = record options { thesaurus = Some choice }
with_option options (O.StopWords choice) = record options { stop_words = Some choice }
with_option options (O.Language name) = record options { language = Some name }
with_option options (O.Wildcards on) = record options { wildcards = Some on }

-- options one after the other
abbrev pub options_from : Options → List PlacedOption → Options
options_from options [] = options
options_from options (o ∷ rest) = options_from (with_option options o.option) rest

abbrev pub options_of : List PlacedOption → Options
options_of options = options_from no_options options

unfoldable mutual
  pub form_of : Tree → Form
  form_of (tree.words w) =
      form.words (record { values = texts_of w.strings; mode = w.mode; times = option_map (λ t. t.range) w.times; options = options_of w.options })
  form_of (tree.or_of trees) = form.or_of (forms_of trees)
  form_of (tree.and_of trees) = form.and_of (forms_of trees)
  form_of (tree.mild_not left right) = form.mild_not (form_of left) (form_of right)
  form_of (tree.not_of at operand) = form.not_of (form_of operand)
  form_of (tree.filtered operand filter) = form.filtered (form_of operand) filter
  form_of (tree.with_options operand options) = form.with_options (form_of operand) (options_of options)

  pub forms_of : Trees → Forms
  forms_of tree.none = form.none
  forms_of (tree.more t rest) = form.more (form_of t) (forms_of rest)
