-- Phrases that are aimed at spans of documents, and a place in the list of hits that they have there.
use Rattle.std.specs.Prelude.{ℕ, Bool, List, [], ◌∷◌, drop, filter, Option, Some, None}
use Rattle.ft_base.specs.declared.hit.Hit.{Hit}
use Rattle.ft_base.specs.declared.span.Span.{Span}
use Rattle.ft_operators.specs.Bounds.{lies_in}
use Rattle.ft_operators.specs.declared.bounds.Bounds.{Bounds}

-- at which spans of which documents a phrase may be aimed, and the hits that it has there
pub record PhraseAims : Type 0 where
  pub may : ℕ → Span → Bool
  pub hits : ℕ → Span → List Hit

-- a phrase, the hits where it is aimed, and what is left of them from the place on
pub record PhraseState : Type 0 where
  pub aims : PhraseAims
  pub hits : List Hit
  pub rest : List Hit

-- the first hit of a list
abbrev pub first_hit : List Hit → Option Hit
first_hit [] = None
first_hit (hit ∷ rest) = Some hit

-- at the first hit
abbrev pub at_first : PhraseState → PhraseState
at_first state = record { aims = state.aims; hits = state.hits; rest = state.hits }

-- at the first hit in the bounds, and no other is left
abbrev pub at_first_in : Bounds → PhraseState → PhraseState
at_first_in bounds state = record { aims = state.aims; hits = state.hits; rest = filter (lies_in bounds) state.hits }

-- one hit further on; the end is followed by itself
abbrev pub one_further : PhraseState → PhraseState
one_further state = record { aims = state.aims; hits = state.hits; rest = drop 1 state.rest }

-- at the first hit of a span of a document
abbrev pub aimed_at : ℕ → Span → PhraseState → PhraseState
aimed_at doc span state = record { aims = state.aims; hits = state.aims.hits doc span; rest = state.aims.hits doc span }
