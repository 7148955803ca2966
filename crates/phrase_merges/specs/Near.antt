-- Windows and scopes over phrases that are joined by `ftor` and `ftand`, at any depth: of a Match only the joined hit counts there.
use Rattle.std.specs.Prelude.{◌≡◌, ◌≤◌, ℕ, Bool, true, false, ◌&&◌, ◌==◌, nat_le, List, [], ◌∷◌, ◌++◌, filter, flat_map, Some, option_to_list}
use Rattle.std.specs.List.{list_all, list_any}
use Rattle.ft_base.specs.declared.filter.Filter.{Filter}
use Rattle.ft_base.specs.declared.filter.Filter.TheVariants as F
use Rattle.ft_base.specs.declared.hit.Hit.{Hit}
use Rattle.ft_base.specs.declared.unit.TextUnit.TheVariants.{Paragraphs, Sentences}
use Rattle.all_matches.specs.Join.{join}
use Rattle.all_matches.specs.Ways.{Operator, phrase, either, together, apart, negated, through_filter}
use Rattle.all_matches.specs.Window.{fits_window}

-- whether a filter is a window or a scope: `same sentence` or `same paragraph`
abbrev pub is_field : Filter → Bool
is_field F.Ordered = false
is_field (F.Window size unit) = true
is_field (F.Distance range unit) = false
is_field F.SameSentence = true
is_field F.SameParagraph = true
is_field F.DifferentSentence = false
is_field F.DifferentParagraph = false
is_field F.AtStart = false
is_field F.AtEnd = false
is_field F.EntireContent = false

-- whether a hit fits into a window or lies in one sentence or paragraph
abbrev pub fits_field : Filter → Hit → Bool
fits_field F.Ordered hit = false
fits_field (F.Window size unit) hit = fits_window size unit (Some hit)
fits_field (F.Distance range unit) hit = false
fits_field F.SameSentence hit = fits_window 1 Sentences (Some hit)
fits_field F.SameParagraph hit = fits_window 1 Paragraphs (Some hit)
fits_field F.DifferentSentence hit = false
fits_field F.DifferentParagraph hit = false
fits_field F.AtStart hit = false
fits_field F.AtEnd hit = false
fits_field F.EntireContent hit = false

-- whether an operator is made of phrases by `ftor`, `ftand`, windows and scopes alone
unfoldable pub is_near : Operator → Bool
is_near (phrase found) = true
is_near (either left right) = is_near left && is_near right
is_near (together left right) = is_near left && is_near right
is_near (apart left right) = false
is_near (negated operand) = false
is_near (through_filter operand kind) = is_field kind && is_near operand

-- the hits of all phrases of such an operator
unfoldable pub phrase_hits_of : Operator → List Hit
phrase_hits_of (phrase found) = found
phrase_hits_of (either left right) = phrase_hits_of left ++ phrase_hits_of right
phrase_hits_of (together left right) = phrase_hits_of left ++ phrase_hits_of right
phrase_hits_of (apart left right) = []
phrase_hits_of (negated operand) = []
phrase_hits_of (through_filter operand kind) = phrase_hits_of operand

-- the joined hits of its Matches: of "a" and "b" in `a x b` the one from 1 to 3, which a window of three words keeps
unfoldable pub hulls_of : Operator → List Hit
hulls_of (phrase found) = found
hulls_of (either left right) = hulls_of left ++ hulls_of right
hulls_of (together left right) = flat_map (λ a. flat_map (λ b. option_to_list (join (a ∷ b ∷ []))) (hulls_of right)) (hulls_of left)
hulls_of (apart left right) = []
hulls_of (negated operand) = []
hulls_of (through_filter operand kind) = filter (fits_field kind) (hulls_of operand)

-- the numbers of the sentences and paragraphs in which the words of a text are
pub record Units : Type 0 where
  pub sentence : ℕ → ℕ
  pub paragraph : ℕ → ℕ

-- whether a hit ends no earlier than it begins, in the sentences and paragraphs that its first and its last word have
abbrev pub is_told : Units → Hit → Bool
is_told units hit =
    nat_le hit.from hit.to
    && (((hit.sent_from == units.sentence hit.from) && (hit.sent_to == units.sentence hit.to))
    && ((hit.para_from == units.paragraph hit.from) && (hit.para_to == units.paragraph hit.to)))

-- sentences and paragraphs whose numbers never fall from word to word
pub record DoRise (units : Units) : Type 0 where
  pub sentences : (a b : ℕ) → a ≤ b → units.sentence a ≤ units.sentence b
  pub paragraphs : (a b : ℕ) → a ≤ b → units.paragraph a ≤ units.paragraph b

-- hits that are told in the sentences and paragraphs of one text
pub record AreTold (hits : List Hit) : Type 0 where
  pub units : Units
  pub rise : DoRise units
  pub told : list_all (is_told units) hits ≡ true

-- hits that are the same as sets, in whatever order and however often
abbrev pub HaveAlike : List Hit → List Hit → Type 0
HaveAlike found others = (test : Hit → Bool) → list_any test found ≡ list_any test others

-- operators that differ only in the order and the repeats of the hits of their phrases
pub data AreAlike : Operator → Operator → Type 0 where
  alike_phrases : (found others : List Hit) → HaveAlike found others → AreAlike (phrase found) (phrase others)
  alike_either : (a b c d : Operator) → AreAlike a c → AreAlike b d → AreAlike (either a b) (either c d)
  alike_together : (a b c d : Operator) → AreAlike a c → AreAlike b d → AreAlike (together a b) (together c d)
  alike_filtered : (kind : Filter) (a b : Operator) → AreAlike a b → AreAlike (through_filter a kind) (through_filter b kind)
