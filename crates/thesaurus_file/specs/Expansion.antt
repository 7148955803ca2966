-- The phrases that a thesaurus reaches from a phrase (XQuery and XPath Full Text 3.0, section 3.4.3), by levels: the level of a
-- phrase is the least number of lines that lead to it.
use Rattle.std.specs.Prelude.{ℕ, zero, suc, Bool, false, not, ◌||◌, if◌then◌else◌, List, [], ◌∷◌, map, filter, flat_map, length, Option}
use Rattle.std.specs.List.{list_any, range_with_len}
use Rattle.thesaurus_file.specs.Levels.{in_range}
use Rattle.thesaurus_file.specs.Links.{Links, is_wanted, links_from}
use Rattle.thesaurus_file.specs.Phrases.{Phrase, in_order, phrase_eq}
use Rattle.thesaurus_file.specs.declared.levels.Levels.{Levels}

module _ (thesaurus : Links) (relation : Option (List ℕ)) where
  -- the phrases to which one line leads
  abbrev pub next : Phrase → List Phrase
  next phrase = map (λ link. link.to) (filter (is_wanted relation) (links_from thesaurus phrase))

  -- the phrases to which chains of that many lines lead
  unfoldable pub ends : ℕ → Phrase → List Phrase
  ends zero start = start ∷ []
  ends (suc n) start = flat_map next (ends n start)

  -- whether a chain of fewer lines leads to a phrase
  unfoldable pub is_nearer : ℕ → Phrase → Phrase → Bool
  is_nearer zero start phrase = false
  is_nearer (suc n) start phrase = is_nearer n start phrase || list_any (phrase_eq phrase) (ends n start)

  -- the phrases to which that many lines lead, and no fewer
  unfoldable pub level : ℕ → Phrase → List Phrase
  level n start = in_order (filter (λ phrase. not (is_nearer n start phrase)) (ends n start))

  -- a level, where it is asked for
  abbrev pub asked_level : Levels → Phrase → ℕ → List Phrase
  asked_level levels start n = if in_range levels n then level n start else []

-- The phrases other than the phrase itself that are reached, by level and then in their order. No level is higher than the number
-- of phrases that lines begin with.
unfoldable pub reached : Links → Option (List ℕ) → Levels → Phrase → List Phrase
reached thesaurus relation levels start = flat_map (asked_level thesaurus relation levels start) (range_with_len 1 (length thesaurus))

-- the phrase itself, and those that are reached
abbrev pub expanded : Links → Option (List ℕ) → Levels → Phrase → List Phrase
expanded thesaurus relation levels start = start ∷ reached thesaurus relation levels start
