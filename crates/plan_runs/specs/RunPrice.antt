-- The price of a test over the documents of a version.
use Rattle.std.specs.Prelude.{ℕ, List}
use Rattle.ft_base.specs.declared.span.Span.{Span}
use Rattle.ft_base.specs.Selection.{no_options, Form}
use Rattle.all_matches.specs.Variants.{Lexicon}
use Rattle.index_meaning.specs.Documents.{Numbered, document_at}
use Rattle.index_phrases.specs.Phrases.{words_at}
use Rattle.index_versions.specs.Versions.{terms_of}
use Rattle.plan_compiler.specs.Lexicon.{lexicon}
use Rattle.plan_compiler.specs.Price.{price_under}
use Rattle.plan_runs.specs.RunMeaning.{RunMeaning}

-- of a selection over the documents of a version, at these words of one of them
abbrev pub price : Lexicon → Form → List Numbered → List (List ℕ) → ℕ
price lexicon form version text = price_under lexicon no_options (terms_of version) text form

-- of a run at the span of the document of that number
abbrev pub price_at : RunMeaning → ℕ → Span → ℕ
price_at run doc span = price (lexicon run.lists) run.form run.version (words_at span (document_at doc run.version))
