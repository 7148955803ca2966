-- What may be said of whether tokens satisfy a selection.
use Rattle.std.specs.Prelude.{Bool, List, map}
use Rattle.std.specs.List.{All, Contains}
use Rattle.all_matches.specs.Meaning.{sat}
use Rattle.ft_base.specs.Selection.{Form}
use Rattle.ft_base.specs.declared.token.Token.{Token}
use Rattle.plan_compiler.specs.Lexicon.{lexicon}
use Rattle.plan_compiler.specs.NamedLists.{NamedLists}

-- whether tokens satisfy a selection under lists
abbrev pub Judgement : Type 0
Judgement = Form → NamedLists → List Token → Bool

-- by the standard's definitions (section 4.3, FTContainsExpr): some Match of the selection's AllMatches has no exclude
abbrev pub by_definition : Judgement
by_definition form lists tokens = sat (lexicon lists) form tokens

-- tokens whose words all stand among those of others
abbrev pub HaveWordsOf : List Token → List Token → Type 0
HaveWordsOf tokens others = All (λ token. Contains (map (λ other. other.word) others) token.word) tokens
