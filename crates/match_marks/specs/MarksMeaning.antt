-- What is marked of a text.
use Rattle.std.specs.Prelude.{if◌then◌else◌, List, Option, Some, None}
use Rattle.ft_base.specs.declared.span.Span.{Span}
use Rattle.ft_base.specs.declared.token.Token.{Token}
use Rattle.ft_base.specs.Selection.{no_options, Form}
use Rattle.all_matches.specs.Meaning.{sat}
use Rattle.best_hits.specs.Best.{best, spans_of}
use Rattle.plan_compiler.specs.Lexicon.{lexicon}
use Rattle.plan_compiler.specs.NamedLists.{NamedLists}

-- the places of the best hits of a selection under lists
abbrev pub best_places : NamedLists → Form → List Token → List Span
best_places lists form tokens = spans_of (best (lexicon lists) no_options 1 tokens form)

-- where the tokens satisfy the selection, the places of its best hits
abbrev pub marks : NamedLists → Form → List Token → Option (List Span)
marks lists form tokens = if sat (lexicon lists) form tokens then Some (best_places lists form tokens) else None
