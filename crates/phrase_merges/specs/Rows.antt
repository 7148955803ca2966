-- Phrases, each with some lists of its hits and a place in each of them.
use Rattle.std.specs.Prelude.{ℕ, Bool, ◌&&◌, nat_le, List, map, flat_map}
use Rattle.std.specs.List.{list_all}
use Rattle.std.specs.declared.vec.Vec.{Vec}
use Rattle.std.specs.declared.alloc.Global.{Global}
use Rattle.ft_base.specs.Hits.{every_two}
use Rattle.ft_base.specs.declared.hit.Hit.{Hit}
use Rattle.ft_base.specs.declared.span.Span.{Span}
use Rattle.ft_base.specs.declared.unit.TextUnit.{TextUnit}
use Rattle.ft_base.specs.declared.unit.TextUnit.TheVariants.{Paragraphs, Sentences, Words}
use Rattle.all_matches.specs.Positions.{start_in, end_in}
use Rattle.ft_operators.specs.Phrases.{PhraseAims, PhraseState}

-- the hits that some lists have from their places on
abbrev pub hits_left : {P : Type 0} → (P → PhraseState) → List P → List Hit
hits_left state sources = flat_map (λ source. (state source).rest) sources

-- those of each phrase
abbrev pub all_hits : {P : Type 0} → (P → PhraseState) → List (Vec P Global) → List (List Hit)
all_hits state phrases = map (λ phrase. hits_left state phrase.items) phrases

-- where the lists may be aimed and which hits they have there, which moves never change
abbrev pub aims_of : {P : Type 0} → (P → PhraseState) → List P → List PhraseAims
aims_of state sources = map (λ source. (state source).aims) sources

abbrev pub all_aims : {P : Type 0} → (P → PhraseState) → List (Vec P Global) → List (List PhraseAims)
all_aims state phrases = map (λ phrase. aims_of state phrase.items) phrases

-- whether the second hit neither begins nor ends before the first, in words, sentences or paragraphs
abbrev pub goes_on_in : TextUnit → Hit → Hit → Bool
goes_on_in unit a b = nat_le (start_in unit a) (start_in unit b) && nat_le (end_in unit a) (end_in unit b)

abbrev pub goes_on : Hit → Hit → Bool
goes_on a b = goes_on_in Words a b && (goes_on_in Sentences a b && goes_on_in Paragraphs a b)

-- whether no hit of a list begins or ends before an earlier one: so it is where all have as many words
abbrev pub is_rising : List Hit → Bool
is_rising hits = every_two goes_on hits

-- whether all lists are so, from their places on
abbrev pub are_rising : {P : Type 0} → (P → PhraseState) → List P → Bool
are_rising state sources = list_all (λ source. is_rising (state source).rest) sources

abbrev pub all_rising : {P : Type 0} → (P → PhraseState) → List (Vec P Global) → Bool
all_rising state phrases = list_all (λ phrase. are_rising state phrase.items) phrases

-- whether all lists may be aimed at a span of a document, the hits that those of a phrase have there together, and whether each rises
abbrev pub all_may : ℕ → Span → List (List PhraseAims) → Bool
all_may doc span phrases = list_all (list_all (λ aims. aims.may doc span)) phrases

abbrev pub hits_there : ℕ → Span → List PhraseAims → List Hit
hits_there doc span lists = flat_map (λ aims. aims.hits doc span) lists

abbrev pub rise_there : ℕ → Span → List (List PhraseAims) → Bool
rise_there doc span phrases = list_all (list_all (λ aims. is_rising (aims.hits doc span))) phrases
