-- The first of all faults, by the least place of each kind.
use Rattle.std.proofs.Common.{◌≡◌, ℕ, List, [], ◌∷◌, ◌++◌, Option, Some, None, option_map, refl, sym, ap, ◌∙◌, cond, Bool, true, false, leb, append_assoc}
use Rattle.std.specs.Option.{option_to_list}
use Rattle.ft_base.specs.declared.fault.QueryFault.{QueryFault}
use Rattle.ft_base.specs.declared.fault.QueryFault.TheVariants as F
use Rattle.selection_grammar.specs.Tree.{Tree}
use Rattle.selection_faults.specs.Excludes.{mild_not_excludes, inside_filters}
use Rattle.selection_faults.specs.Faults.{placed, faults_at, fault_of}
use Rattle.selection_faults.specs.Kinds.{sooner, phrases, option_twice, bad_wildcard, mild_not_exclude, inside_filter, fault_at}
use Rattle.selection_faults.specs.Least.{earlier, least, itself, least_place}
use Rattle.selection_faults.specs.Options.{options_twice}
use Rattle.selection_faults.specs.Strings.{strings_of, phrases_past, bad_wildcards}
use Rattle.selection_faults.specs.declared.placed_fault.PlacedFault.{PlacedFault}
use Rattle.selection_faults.proofs.LeastLemmas.{least_append, least_option}

placed_cond : (kind : ℕ → QueryFault) (first : Bool) (a b : ℕ) → option_map (placed kind) (cond first (Some a) (Some b)) ≡ cond first (Some (placed kind a)) (Some (placed kind b))
placed_cond kind true a b = refl
placed_cond kind false a b = refl

placed_earlier : (kind : ℕ → QueryFault) (a b : Option ℕ) → option_map (placed kind) (earlier itself a b) ≡ sooner (option_map (placed kind) a) (option_map (placed kind) b)
placed_earlier kind None b = refl
placed_earlier kind (Some a) None = refl
placed_earlier kind (Some a) (Some b) = placed_cond kind (leb a b) a b

-- the first fault of one kind
least_placed : (kind : ℕ → QueryFault) (places : List ℕ) → least (λ f. f.at) (faults_at kind places) ≡ option_map (placed kind) (least_place places)
least_placed kind [] = refl
least_placed kind (at ∷ rest) = ap (sooner (Some (placed kind at))) (least_placed kind rest) ∙ sym (placed_earlier kind (Some at) (least_place rest))

-- the faults of one kind, and then the others
next_kind : (kind : ℕ → QueryFault) (places : List ℕ) (others : List PlacedFault) {others_least : Option PlacedFault} → least (λ f. f.at) others ≡ others_least
    → least (λ f. f.at) (faults_at kind places ++ others) ≡ sooner (option_map (placed kind) (least_place places)) others_least
next_kind kind places others shown =
    least_append (λ f. f.at) (faults_at kind places) others
    ∙ ap (λ first. sooner first (least (λ f. f.at) others)) (least_placed kind places)
    ∙ ap (sooner (option_map (placed kind) (least_place places))) shown

regroup : (a b c d e : List PlacedFault) → a ++ b ++ c ++ d ++ e ≡ a ++ (b ++ (c ++ (d ++ e)))
regroup a b c d e = simp append_assoc

pub fault_of_tree : (tree : Tree) → fault_at (phrases_past 0 (strings_of tree)) (least_place (options_twice tree)) (least_place (bad_wildcards (strings_of tree))) (least_place (mild_not_excludes tree)) (least_place (inside_filters tree)) ≡ fault_of tree
unfolding fault_of
fault_of_tree tree =
    let past = phrases_past 0 (strings_of tree) in
    let filters = faults_at F.InsideFilter (inside_filters tree) in
    let milds = faults_at F.MildNotExclude (mild_not_excludes tree) ++ filters in
    let wildcards = faults_at F.BadWildcard (bad_wildcards (strings_of tree)) ++ milds in
    let options = faults_at F.OptionTwice (options_twice tree) ++ wildcards in
    let first : least (λ f. f.at) filters ≡ inside_filter (least_place (inside_filters tree)) = least_placed F.InsideFilter (inside_filters tree) in
    let second = next_kind F.MildNotExclude (mild_not_excludes tree) filters first in
    let third = next_kind F.BadWildcard (bad_wildcards (strings_of tree)) milds second in
    let fourth = next_kind F.OptionTwice (options_twice tree) wildcards third in
    let fifth = next_kind F.Phrases (option_to_list past) options fourth in
    sym (ap (option_map (λ (f : PlacedFault). f.fault)) (ap (least (λ f. f.at)) (regroup (faults_at F.Phrases (option_to_list past)) (faults_at F.OptionTwice (options_twice tree)) (faults_at F.BadWildcard (bad_wildcards (strings_of tree))) (faults_at F.MildNotExclude (mild_not_excludes tree)) filters) ∙ fifth ∙ ap (λ at. sooner (phrases at) (sooner (option_twice (least_place (options_twice tree))) (sooner (bad_wildcard (least_place (bad_wildcards (strings_of tree)))) (sooner (mild_not_exclude (least_place (mild_not_excludes tree))) (inside_filter (least_place (inside_filters tree))))))) (least_option itself past)))
