-- Stop words as keys.
use Rattle.std.specs.Prelude.{ℕ, Bool, false, not, ◌&&◌, ◌||◌, if◌then◌else◌, List, [], map, flat_map, fold, Option, Some, None, bytes_eq, string_bytes}
use Rattle.std.specs.List.{list_any}
use Rattle.ft_base.specs.declared.options.StopChoice.{StopChoice}
use Rattle.ft_base.specs.declared.options.StopChoice.TheVariants as Stop
use Rattle.ft_base.specs.declared.options.StopTerm.{StopTerm}
use Rattle.ft_base.specs.declared.options.StopSource.{StopSource}
use Rattle.ft_base.specs.declared.options.StopSource.TheVariants.{At, Written}
use Rattle.text_forms.specs.Forms.{key_of}
use Rattle.all_matches.specs.Variants.{Item, any_word, word, pattern}
use Rattle.match_options.specs.Items.{items_of}
use Rattle.word_lists.specs.KeySets.{with_key}
use Rattle.plan_compiler.specs.NamedLists.{NamedLists, list_named}
use Rattle.plan_compiler.specs.declared.stops.StopSet.{StopSet}
use Rattle.plan_compiler.specs.declared.stops.StopSet.TheVariants.{Listed, Collected}
use Rattle.plan_compiler.specs.declared.stops.StopKeys.{StopKeys}

-- the keys of a term, and whether they are taken out
pub record Term : Type 0 where
  pub except : Bool
  pub keys : List (List ℕ)

abbrev pub listed_keys : Option (List (List ℕ)) → List (List ℕ)
listed_keys None = []
listed_keys (Some keys) = keys

-- the keys of a set
abbrev pub keys_of_set : StopSet → List (List ℕ)
keys_of_set (Listed None) = []
keys_of_set (Listed (Some list)) = list.now
keys_of_set (Collected keys) = map string_bytes keys.keys

abbrev pub term_of : StopKeys → Term
term_of stop = record { except = stop.except; keys = keys_of_set stop.keys }

-- the key of a word; a pattern has none
abbrev pub item_key : Item → List ℕ
item_key any_word = []
item_key (word w) = key_of w
item_key (pattern p) = []

abbrev pub string_keys : List ℕ → List (List ℕ)
string_keys text = map item_key (items_of false text)

abbrev pub source_keys : NamedLists → StopSource → List (List ℕ)
source_keys lists (At name) = listed_keys (list_named name lists.stops)
source_keys lists (Written texts) = fold with_key [] (flat_map string_keys texts)

abbrev pub term_keys : NamedLists → StopTerm → Term
term_keys lists term = record { except = term.except; keys = source_keys lists term.source }

abbrev pub stops_of : NamedLists → Option StopChoice → List Term
stops_of lists None = []
stops_of lists (Some Stop.No) = []
stops_of lists (Some (Stop.Sets terms)) = map (term_keys lists) terms

abbrev pub has_key : List (List ℕ) → List ℕ → Bool
has_key keys key = list_any (bytes_eq key) keys

abbrev pub after_keys : List ℕ → Bool → Term → Bool
after_keys key held term = if term.except then held && not (has_key term.keys key) else held || has_key term.keys key

-- whether a key is a stop word, the terms being taken from left to right
abbrev pub is_stop_key : List Term → List ℕ → Bool
is_stop_key terms key = fold (after_keys key) false terms
