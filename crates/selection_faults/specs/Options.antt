-- Where two options of one group stand on one selection (XQuery and XPath Full Text 3.0, section 3.4, [err:FTST0019]).
use Rattle.std.specs.Prelude.{ℕ, Bool, true, false, if◌then◌else◌, List, [], ◌∷◌, ◌++◌, flat_map, Option, Some, None}
use Rattle.std.specs.List.{list_any}
use Rattle.std.specs.Option.{option_to_list}
use Rattle.selection_grammar.specs.declared.parsed.MatchOption.{MatchOption}
use Rattle.selection_grammar.specs.declared.parsed.MatchOption.TheVariants as O
use Rattle.selection_grammar.specs.declared.parsed.PlacedOption.{PlacedOption}
use Rattle.selection_grammar.specs.Tree.{Tree, words, with_options}
use Rattle.selection_faults.specs.Excludes.{within}

-- two options of one group: `using stemming` and `using no stemming` are, and so are `lowercase` and `case sensitive`
abbrev pub same_group : MatchOption → MatchOption → Bool
same_group (O.Case a) (O.Case b) = true
same_group (O.Diacritics a) (O.Diacritics b) = true
same_group (O.Stemming a) (O.Stemming b) = true
same_group (O.Thesaurus a) (O.Thesaurus b) = true
same_group (O.StopWords a) (O.StopWords b) = true
same_group (O.Language a) (O.Language b) = true
same_group (O.Wildcards a) (O.Wildcards b) = true
same_group a b = false

-- an option has one of its group among others
abbrev pub is_second : List PlacedOption → PlacedOption → Bool
is_second before o = list_any (λ other. same_group other.option o.option) before

-- the `using` of the first option that has one of its group before it
abbrev pub second_after : List PlacedOption → List PlacedOption → Option ℕ
second_after before [] = None
second_after before (o ∷ rest) = if is_second before o then Some o.at else second_after (before ++ o ∷ []) rest

abbrev pub second_option : List PlacedOption → Option ℕ
second_option options = second_after [] options

-- of the options of this selection
abbrev pub own_second_option : Tree → List ℕ
own_second_option (words w) = option_to_list (second_option w.options)
own_second_option (with_options operand options) = option_to_list (second_option options)
own_second_option other = []

-- each in a selection
abbrev pub options_twice : Tree → List ℕ
options_twice tree = flat_map own_second_option (within tree)
