-- Selections as plain data, without the pointers that the type `Selection` holds.
use Rattle.std.specs.Prelude.{None}
use Rattle.ft_base.specs.declared.words.Words.{Words}
use Rattle.ft_base.specs.declared.options.Options.{Options}
use Rattle.ft_base.specs.declared.filter.Filter.{Filter}

-- no option at all
abbrev pub no_options : Options
no_options = record { case = None; diacritics_sensitive = None; stemming = None; thesaurus = None; stop_words = None; language = None; wildcards = None }

mutual
  -- a selection (XQuery and XPath Full Text 3.0, section 3)
  pub data Form : Type 0 where
    -- words, with their mode, their range of times and their options
    words : Words → Form
    -- `ftor`, `ftand`
    or_of : Forms → Form
    and_of : Forms → Form
    -- `not in`
    mild_not : Form → Form → Form
    -- `ftnot`
    not_of : Form → Form
    -- a selection with a positional filter
    filtered : Form → Filter → Form
    -- a selection in parentheses with options
    with_options : Form → Options → Form

  -- a list of selections
  pub data Forms : Type 0 where
    none : Forms
    more : Form → Forms → Forms
