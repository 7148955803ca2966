-- One step of a walk over the levels, by the phrases that are seen and those of the last level.
use Rattle.std.specs.Prelude.{ℕ, Bool, not, List, map, filter, flat_map, Option}
use Rattle.std.specs.List.{list_any}
use Rattle.thesaurus_file.specs.Links.{Links, is_wanted, links_from}
use Rattle.thesaurus_file.specs.Phrases.{Phrase, in_order, phrase_eq}
use Rattle.thesaurus_file.specs.declared.link.Link.{Link}

-- a phrase that isn't among those that are seen
abbrev pub is_unseen : List Phrase → Phrase → Bool
is_unseen seen phrase = not (list_any (phrase_eq phrase) seen)

-- where the wanted ones of some links lead, but for what is seen
abbrev pub unseen_ends : Option (List ℕ) → List Phrase → List Link → List Phrase
unseen_ends relation seen links = filter (is_unseen seen) (map (λ link. link.to) (filter (is_wanted relation) links))

-- the level after a level
abbrev pub level_after : Links → Option (List ℕ) → List Phrase → List Phrase → List Phrase
level_after thesaurus relation seen level = in_order (flat_map (λ phrase. unseen_ends relation seen (links_from thesaurus phrase)) level)
