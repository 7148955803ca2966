-- No two options of one group on one selection, by its parts.
use Rattle.std.proofs.Common.{◌≡◌, ℕ, false, List, [], ◌∷◌, ◌++◌, None, refl, ◌∙◌, ap}
use Rattle.std.specs.Prelude.{flat_map}
use Rattle.std.specs.Option.{option_to_list}
use Rattle.ft_base.specs.declared.filter.Filter.{Filter}
use Rattle.selection_grammar.specs.declared.parsed.ParsedWords.{ParsedWords}
use Rattle.selection_grammar.specs.declared.parsed.PlacedOption.{PlacedOption}
use Rattle.selection_grammar.specs.Tree as tree
use Rattle.selection_grammar.specs.Tree.{Tree, trees_of}
use Rattle.selection_faults.specs.Excludes.{within, within_all}
use Rattle.selection_faults.specs.Options.{own_second_option, options_twice, second_option}
use Rattle.selection_round_trip.proofs.Marks.{has_some, either, some_append, some_in}

abbrev pub Once : Tree → Type 0
Once t = has_some (options_twice t) ≡ false

own_once : (options : List PlacedOption) (inside : List ℕ) → second_option options ≡ None → has_some inside ≡ false → has_some (option_to_list (second_option options) ++ inside) ≡ false
own_once options inside e f = some_append (option_to_list (second_option options)) inside ∙ either (ap (λ o. has_some (option_to_list o)) e) f

pub once_words : (w : ParsedWords) → second_option w.options ≡ None → Once (tree.words w)
unfolding within
once_words w e = own_once w.options [] e refl

pub once_mild : (left right : Tree) → Once left → Once right → Once (tree.mild_not left right)
unfolding within
once_mild left right e f = some_in own_second_option (within left) (within right) ∙ either e f

pub once_not : (at : ℕ) (t : Tree) → Once t → Once (tree.not_of at t)
unfolding within
once_not at t e = e

pub once_filtered : (t : Tree) (filter : Filter) → Once t → Once (tree.filtered t filter)
unfolding within
once_filtered t filter e = e

pub once_with : (t : Tree) (options : List PlacedOption) → Once t → second_option options ≡ None → Once (tree.with_options t options)
unfolding within
once_with t options e f = own_once options (options_twice t) f e

abbrev pub AllOnce : List Tree → Type 0
AllOnce [] = Unit {0}
AllOnce (t ∷ rest) = Once t × AllOnce rest

all_once : (trees : List Tree) → AllOnce trees → has_some (flat_map own_second_option (within_all (trees_of trees))) ≡ false
unfolding within
all_once [] h = refl
all_once (t ∷ rest) h = some_in own_second_option (within t) (within_all (trees_of rest)) ∙ either h.0 (all_once rest h.1)

pub once_or : (trees : List Tree) → AllOnce trees → Once (tree.or_of (trees_of trees))
unfolding within
once_or trees h = all_once trees h

pub once_and : (trees : List Tree) → AllOnce trees → Once (tree.and_of (trees_of trees))
unfolding within
once_and trees h = all_once trees h
