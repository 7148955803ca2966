-- Lists by their names: stop lists, thesauri, and one dictionary of stems (XQuery and XPath Full Text 3.0, sections 3.4.3, 3.4.4 and 3.4.7).
use Rattle.std.specs.Prelude.{ℕ, if◌then◌else◌, List, [], ◌∷◌, Option, Some, None, bytes_eq}
use Rattle.thesaurus_file.specs.Links.{Links}
use Rattle.word_lists.specs.Stems.{Stem}

pub record NamedLists : Type 0 where
  -- the keys of each stop list, under its name
  pub stops : List (List ℕ × List (List ℕ))
  -- the links of each thesaurus, under its name
  pub thesauri : List (List ℕ × Links)
  -- a dictionary has no name
  pub stems : List Stem

-- no list, and no stem
abbrev pub no_lists : NamedLists
no_lists = record { stops = []; thesauri = []; stems = [] }

-- the list of a name, if there is one
abbrev pub list_named : {L : Type 0} → List ℕ → List (List ℕ × L) → Option L
list_named name [] = None
list_named name (first ∷ rest) = if bytes_eq name first.0 then Some first.1 else list_named name rest

-- a list put under a name: in the place of the one that has it, or after the others
abbrev pub with_list : {L : Type 0} → List ℕ → L → List (List ℕ × L) → List (List ℕ × L)
with_list name list [] = (name, list) ∷ []
with_list name list (first ∷ rest) = if bytes_eq name first.0 then (first.0, list) ∷ rest else first ∷ with_list name list rest

abbrev pub with_stop_list : List ℕ → List (List ℕ) → NamedLists → NamedLists
with_stop_list name keys lists = record { stops = with_list name keys lists.stops; thesauri = lists.thesauri; stems = lists.stems }

abbrev pub with_thesaurus : List ℕ → Links → NamedLists → NamedLists
with_thesaurus name links lists = record { stops = lists.stops; thesauri = with_list name links lists.thesauri; stems = lists.stems }

abbrev pub with_stems : List Stem → NamedLists → NamedLists
with_stems stems lists = record { stops = lists.stops; thesauri = lists.thesauri; stems = stems }
