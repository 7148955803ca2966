-- The first fault, by the least place of each kind.
use Rattle.std.specs.Prelude.{ℕ, Option, option_map}
use Rattle.ft_base.specs.declared.fault.QueryFault.{QueryFault}
use Rattle.ft_base.specs.declared.fault.QueryFault.TheVariants as F
use Rattle.selection_faults.specs.Faults.{placed}
use Rattle.selection_faults.specs.Least.{earlier}
use Rattle.selection_faults.specs.declared.placed_fault.PlacedFault.{PlacedFault}

abbrev pub sooner : Option PlacedFault → Option PlacedFault → Option PlacedFault
sooner first second = earlier (λ f. f.at) first second

abbrev pub phrases : Option ℕ → Option PlacedFault
phrases at = option_map (placed F.Phrases) at

abbrev pub option_twice : Option ℕ → Option PlacedFault
option_twice at = option_map (placed F.OptionTwice) at

abbrev pub bad_wildcard : Option ℕ → Option PlacedFault
bad_wildcard at = option_map (placed F.BadWildcard) at

abbrev pub mild_not_exclude : Option ℕ → Option PlacedFault
mild_not_exclude at = option_map (placed F.MildNotExclude) at

abbrev pub inside_filter : Option ℕ → Option PlacedFault
inside_filter at = option_map (placed F.InsideFilter) at

abbrev pub fault_at : Option ℕ → Option ℕ → Option ℕ → Option ℕ → Option ℕ → Option QueryFault
fault_at phrases_at twice_at wildcard_at mild_at filter_at =
    option_map (λ f. f.fault) (sooner (phrases phrases_at)
    (sooner (option_twice twice_at) (sooner (bad_wildcard wildcard_at) (sooner (mild_not_exclude mild_at) (inside_filter filter_at)))))
