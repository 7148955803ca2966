-- Selections compiled to show their best hits, under the options that stand round them.
use Rattle.std.specs.Prelude.{◌≡◌, Bool, List, map}
use Rattle.ft_base.specs.Selection.{Form}
use Rattle.ft_base.specs.declared.options.Options.{Options}
use Rattle.ft_base.specs.declared.span.Span.{Span}
use Rattle.ft_base.specs.declared.token.Token.{Token}
use Rattle.ft_syntax.specs.View.{form}
use Rattle.ft_syntax.specs.declared.selection.Selection.{Selection}
use Rattle.all_matches.specs.Meaning.{sat_under}
use Rattle.all_matches.specs.Variants.{Lexicon}
use Rattle.best_hits.specs.Best.{best, spans_of}
use Rattle.plan_compiler.specs.Lexicon.{lexicon}
use Rattle.plan_compiler.specs.NamedLists.{NamedLists}
use Rattle.plan_compiler.specs.Operators.{looked_text}
use Rattle.plan_compiler.specs.ShownMeaning.{shown_part, shown_spans}
use Rattle.plan_compiler.specs.declared.looks.Looks.{Looks}
use Rattle.plan_compiler.specs.declared.shown_plan.ShownNode.{ShownNode}
use Rattle.plan_compiler.specs.declared.shown_plan.ShownPart.{ShownPart}

-- the places of the best hits of a selection in a text. They don't depend on the numbers of its phrases
abbrev pub best_spans : Lexicon → Options → List Token → Form → List Span
best_spans lexicon options tokens selection = spans_of (best lexicon options 1 tokens selection)

-- whether the text satisfies it, and these places
abbrev pub best_part : Lexicon → Options → List Token → Form → Bool × List Span
best_part lexicon options tokens selection = (sat_under lexicon options selection tokens, best_spans lexicon options tokens selection)

module _ (looks : Looks) (lists : NamedLists) (options : Options) where
  -- what shows of every text the places of the selection's best hits
  pub record Shows (node : ShownNode) (selection : Form) : Type 0 where
    pub shown : (tokens : List Token) → shown_spans (looked_text looks lists.stems tokens) node ≡ best_spans (lexicon lists) options tokens selection

  -- what shows these of every text, and says whether the text satisfies the selection
  pub record ShowsPart (part : ShownPart) (selection : Form) : Type 0 where
    pub shown : (tokens : List Token) → shown_part (looked_text looks lists.stems tokens) part ≡ best_part (lexicon lists) options tokens selection

  -- the same of lists of both
  pub record ShowAll (nodes : List ShownNode) (parts : List Selection) : Type 0 where
    pub shown : (tokens : List Token)
        → map (shown_spans (looked_text looks lists.stems tokens)) nodes ≡ map (λ part. best_spans (lexicon lists) options tokens (form part)) parts

  pub record ShowParts (shown_parts : List ShownPart) (parts : List Selection) : Type 0 where
    pub shown : (tokens : List Token)
        → map (shown_part (looked_text looks lists.stems tokens)) shown_parts ≡ map (λ part. best_part (lexicon lists) options tokens (form part)) parts
