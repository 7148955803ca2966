-- What is wrong with a selection whose symbols spell one. The least place counts, and at one place the kind that stands first here.
use Rattle.std.specs.Prelude.{ℕ, List, ◌++◌, map, Option, option_map}
use Rattle.std.specs.Option.{option_to_list}
use Rattle.ft_base.specs.declared.fault.QueryFault.{QueryFault}
use Rattle.ft_base.specs.declared.fault.QueryFault.TheVariants as F
use Rattle.selection_grammar.specs.Tree.{Tree}
use Rattle.selection_faults.specs.Excludes.{mild_not_excludes, inside_filters}
use Rattle.selection_faults.specs.Least.{least}
use Rattle.selection_faults.specs.Options.{options_twice}
use Rattle.selection_faults.specs.Strings.{strings_of, phrases_past, bad_wildcards}
use Rattle.selection_faults.specs.declared.placed_fault.PlacedFault.{PlacedFault}

-- a fault with its place
abbrev pub placed : (ℕ → QueryFault) → ℕ → PlacedFault
placed kind at = record { at = at; fault = kind at }

abbrev pub faults_at : (ℕ → QueryFault) → List ℕ → List PlacedFault
faults_at kind places = map (placed kind) places

-- all faults of a selection, one kind after the other
abbrev pub faults : Tree → List PlacedFault
faults tree =
    faults_at F.Phrases (option_to_list (phrases_past 0 (strings_of tree)))
    ++ faults_at F.OptionTwice (options_twice tree)
    ++ faults_at F.BadWildcard (bad_wildcards (strings_of tree))
    ++ faults_at F.MildNotExclude (mild_not_excludes tree)
    ++ faults_at F.InsideFilter (inside_filters tree)

-- the fault of a selection
unfoldable pub fault_of : Tree → Option QueryFault
fault_of tree = option_map (λ f. f.fault) (least (λ f. f.at) (faults tree))
