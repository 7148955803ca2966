-- The parts of selections that hold no other parts, as symbols whose spellings are the printed ones.
use Rattle.std.proofs.Common.{◌≡◌, ℕ, true, List, [], ◌∷◌, ◌++◌, Option, Some, None, refl, sym, ◌∙◌, ap, subst, append_assoc}
use Rattle.std.proofs.lemmas.List.{append-nil}
use Rattle.std.specs.Prelude.{codes, flat_map}
use Rattle.ft_base.specs.declared.filter.Filter.{Filter}
use Rattle.ft_base.specs.declared.filter.Filter.TheVariants as F
use Rattle.ft_base.specs.declared.range.Range.{Range}
use Rattle.ft_base.specs.declared.range.Range.TheVariants.{Exactly, AtLeast, AtMost, FromTo}
use Rattle.ft_base.specs.declared.unit.TextUnit.{TextUnit}
use Rattle.ft_base.specs.declared.unit.TextUnit.TheVariants.{Words, Sentences, Paragraphs}
use Rattle.ft_base.specs.declared.words.Mode.{Mode}
use Rattle.ft_base.specs.declared.words.Mode.TheVariants as M
use Rattle.ft_syntax.specs.OptionSymbols.{string_symbol, strings_symbols, value_symbols, mode_symbols, range_symbols, times_symbols, unit_symbol, filter_symbols, levels_symbols}
use Rattle.selection_grammar.specs.declared.symbol.Symbol.TheVariants as S
use Rattle.selection_grammar.specs.declared.symbol.Placed.{Placed}
use Rattle.selection_grammar.specs.declared.parsed.PlacedString.{PlacedString}
use Rattle.selection_grammar.specs.declared.parsed.PlacedTimes.{PlacedTimes}
use Rattle.selection_grammar.specs.Grammar as g
use Rattle.selection_grammar.specs.Grammar.{Spot, at, name, string, Strings, Value, Moded, Timed, texts_of}
use Rattle.selection_grammar.specs.Keywords.{filters, times, levels}
use Rattle.selection_grammar.specs.Shapes.{run, whole, Spelled}
use Rattle.selection_round_trip.specs.Printable.{is_keyword}
use Rattle.selection_round_trip.specs.Printed.{spelling, spellings}
use Rattle.selection_round_trip.proofs.Fits.{FitRange, FitTimes, FitFilter, FitTexts}
use Rattle.selection_round_trip.proofs.Good.{Good, good_nil, good_word, good_number, good_text, good_comma, good_braces}

-- any place serves
abbrev pub o : Spot
o = (0, 0)

-- symbols of a kind, with the spellings that they should have, within the limits where the value fits
pub record Printed {A : Type 0} (Kind : List Placed → A → Type 0) (Fits : ℕ → Type 0) (a : A) (written : List (List ℕ)) : Type 0 where
  pub placed : List Placed
  pub spells : Kind placed a
  pub is : spellings placed ≡ written
  pub good : (d : ℕ) → Fits d → Good d placed

pub spellings_append : (u v : List Placed) → spellings (u ++ v) ≡ spellings u ++ spellings v
spellings_append [] v = refl
spellings_append (p ∷ u) v = ap (λ w. spelling p.symbol ∷ w) (spellings_append u v)

pub joined : (u v : List Placed) (s t : List (List ℕ)) → spellings u ≡ s → spellings v ≡ t → spellings (u ++ v) ≡ s ++ t
joined u v s t e f = spellings_append u v ∙ ap (λ w. w ++ spellings v) e ∙ ap (λ w. s ++ w) f

pub moved : {A : Type 0} (Kind : List Placed → A → Type 0) (u v : List Placed) (a b : A) → Kind u a → u ≡ v → a ≡ b → Kind v b
moved Kind u v a b x e f = subst (λ c. Kind v c) f (subst (λ w. Kind w a) e x)

-- ranges
abbrev pub range_placed : Range → List Placed
range_placed (Exactly n) = name o (codes "exactly") ∷ at o (S.Number n) ∷ []
range_placed (AtLeast n) = name o (codes "at") ∷ name o (codes "least") ∷ at o (S.Number n) ∷ []
range_placed (AtMost n) = name o (codes "at") ∷ name o (codes "most") ∷ at o (S.Number n) ∷ []
range_placed (FromTo low high) = name o (codes "from") ∷ at o (S.Number low) ∷ name o (codes "to") ∷ at o (S.Number high) ∷ []

range_written : (r : Range) → spellings (range_placed r) ≡ range_symbols r
range_written (Exactly n) = refl
range_written (AtLeast n) = refl
range_written (AtMost n) = refl
range_written (FromTo low high) = refl

range_good : (r : Range) (u : List Placed) (d : ℕ) → FitRange r → Good d u → Good d (range_placed r ++ u)
range_good (Exactly n) u d h k = good_word o (codes "exactly") _ d refl (good_number o n u d h k)
range_good (AtLeast n) u d h k = good_word o (codes "at") _ d refl (good_word o (codes "least") _ d refl (good_number o n u d h k))
range_good (AtMost n) u d h k = good_word o (codes "at") _ d refl (good_word o (codes "most") _ d refl (good_number o n u d h k))
range_good (FromTo low high) u d h k = good_word o (codes "from") _ d refl (good_number o low _ d h.0 (good_word o (codes "to") _ d refl (good_number o high u d h.1 k)))

range_then : (r : Range) (key : List ℕ) (d : ℕ) → is_keyword key ≡ true → FitRange r → Good d (range_placed r ++ name o key ∷ [])
range_then r key d e h = range_good r (name o key ∷ []) d h (good_word o key [] d e (good_nil d))

times_spelled : (r : Range) → Spelled times (name o (codes "occurs") ∷ range_placed r ++ name o (codes "times") ∷ []) (record { at = 0; range = r })
times_spelled (Exactly n) = record { runs = refl }
times_spelled (AtLeast n) = record { runs = refl }
times_spelled (AtMost n) = record { runs = refl }
times_spelled (FromTo low high) = record { runs = refl }

abbrev pub placed_times : Option Range → Option PlacedTimes
placed_times None = None
placed_times (Some r) = Some (record { at = 0; range = r })

pub times_printed : (t : Option Range) → Printed Timed (λ d. FitTimes t) (placed_times t) (times_symbols t)
times_printed None = record { placed = []; spells = Timed.always; is = refl; good = λ d h. good_nil d }
times_printed (Some r) = record {
  placed = name o (codes "occurs") ∷ range_placed r ++ name o (codes "times") ∷ [];
  spells = Timed.some (times_spelled r);
  is = ap (λ w. codes "occurs" ∷ w) (joined (range_placed r) (name o (codes "times") ∷ []) (range_symbols r) (codes "times" ∷ []) (range_written r) refl);
  good = λ d h. good_word o (codes "occurs") _ d refl (range_then r (codes "times") d refl h);
}

levels_spelled : (r : Range) → Spelled levels (range_placed r ++ name o (codes "levels") ∷ []) r
levels_spelled (Exactly n) = record { runs = refl }
levels_spelled (AtLeast n) = record { runs = refl }
levels_spelled (AtMost n) = record { runs = refl }
levels_spelled (FromTo low high) = record { runs = refl }

pub levels_printed : (r : Range) → Printed (Spelled levels) (λ d. FitRange r) r (levels_symbols (Some r))
levels_printed r = record {
  placed = range_placed r ++ name o (codes "levels") ∷ [];
  spells = levels_spelled r;
  is = joined (range_placed r) (name o (codes "levels") ∷ []) (range_symbols r) (codes "levels" ∷ []) (range_written r) refl;
  good = λ d h. range_then r (codes "levels") d refl h;
}

-- filters
abbrev unit_placed : TextUnit → Placed
unit_placed Words = name o (codes "words")
unit_placed Sentences = name o (codes "sentences")
unit_placed Paragraphs = name o (codes "paragraphs")

unit_written : (u : TextUnit) → spelling (unit_placed u).symbol ≡ unit_symbol u
unit_written Words = refl
unit_written Sentences = refl
unit_written Paragraphs = refl

unit_good : (u : TextUnit) (d : ℕ) → Good d (unit_placed u ∷ [])
unit_good Words d = good_word o (codes "words") [] d refl (good_nil d)
unit_good Sentences d = good_word o (codes "sentences") [] d refl (good_nil d)
unit_good Paragraphs d = good_word o (codes "paragraphs") [] d refl (good_nil d)

distance_spelled : (r : Range) (u : TextUnit) → Spelled filters (name o (codes "distance") ∷ range_placed r ++ unit_placed u ∷ []) (F.Distance r u)
distance_spelled (Exactly n) Words = record { runs = refl }
distance_spelled (Exactly n) Sentences = record { runs = refl }
distance_spelled (Exactly n) Paragraphs = record { runs = refl }
distance_spelled (AtLeast n) Words = record { runs = refl }
distance_spelled (AtLeast n) Sentences = record { runs = refl }
distance_spelled (AtLeast n) Paragraphs = record { runs = refl }
distance_spelled (AtMost n) Words = record { runs = refl }
distance_spelled (AtMost n) Sentences = record { runs = refl }
distance_spelled (AtMost n) Paragraphs = record { runs = refl }
distance_spelled (FromTo low high) Words = record { runs = refl }
distance_spelled (FromTo low high) Sentences = record { runs = refl }
distance_spelled (FromTo low high) Paragraphs = record { runs = refl }

window_spelled : (n : ℕ) (u : TextUnit) → Spelled filters (name o (codes "window") ∷ at o (S.Number n) ∷ unit_placed u ∷ []) (F.Window n u)
window_spelled n Words = record { runs = refl }
window_spelled n Sentences = record { runs = refl }
window_spelled n Paragraphs = record { runs = refl }

two_words : (f : Filter) (first second : List ℕ) → run (Some filters) (name o first ∷ name o second ∷ []) ≡ Some (whole f) → is_keyword first ≡ true → is_keyword second ≡ true → Printed (Spelled filters) (λ d. FitFilter f) f (first ∷ second ∷ [])
two_words f first second e a b = record { placed = name o first ∷ name o second ∷ []; spells = record { runs = e }; is = refl; good = λ d h. good_word o first _ d a (good_word o second [] d b (good_nil d)) }

pub filter_printed : (f : Filter) → Printed (Spelled filters) (λ d. FitFilter f) f (filter_symbols f)
filter_printed F.Ordered = record { placed = name o (codes "ordered") ∷ []; spells = record { runs = refl }; is = refl; good = λ d h. good_word o (codes "ordered") [] d refl (good_nil d) }
filter_printed (F.Window n u) = record {
  placed = name o (codes "window") ∷ at o (S.Number n) ∷ unit_placed u ∷ [];
  spells = window_spelled n u;
  is = ap (λ w. codes "window" ∷ spelling (S.Number n) ∷ w ∷ []) (unit_written u);
  good = λ d h. good_word o (codes "window") _ d refl (good_number o n _ d h (unit_good u d));
}
filter_printed (F.Distance r u) = record {
  placed = name o (codes "distance") ∷ range_placed r ++ unit_placed u ∷ [];
  spells = distance_spelled r u;
  is = ap (λ w. codes "distance" ∷ w) (joined (range_placed r) (unit_placed u ∷ []) (range_symbols r) (unit_symbol u ∷ []) (range_written r) (ap (λ w. w ∷ []) (unit_written u)));
  good = λ d h. good_word o (codes "distance") _ d refl (range_good r (unit_placed u ∷ []) d h (unit_good u d));
}
filter_printed F.SameSentence = two_words F.SameSentence (codes "same") (codes "sentence") refl refl refl
filter_printed F.SameParagraph = two_words F.SameParagraph (codes "same") (codes "paragraph") refl refl refl
filter_printed F.DifferentSentence = two_words F.DifferentSentence (codes "different") (codes "sentence") refl refl refl
filter_printed F.DifferentParagraph = two_words F.DifferentParagraph (codes "different") (codes "paragraph") refl refl refl
filter_printed F.AtStart = two_words F.AtStart (codes "at") (codes "start") refl refl refl
filter_printed F.AtEnd = two_words F.AtEnd (codes "at") (codes "end") refl refl refl
filter_printed F.EntireContent = two_words F.EntireContent (codes "entire") (codes "content") refl refl refl

pub mode_printed : (m : Mode) → Printed Moded (λ d. Unit {0}) m (mode_symbols m)
mode_printed M.Any = record { placed = []; spells = Moded.unwritten; is = refl; good = λ d h. good_nil d }
mode_printed M.AnyWord = record { placed = name o (codes "any") ∷ name o (codes "word") ∷ []; spells = Moded.any_word o o; is = refl; good = λ d h. good_word o (codes "any") _ d refl (good_word o (codes "word") [] d refl (good_nil d)) }
mode_printed M.All = record { placed = name o (codes "all") ∷ []; spells = Moded.all o; is = refl; good = λ d h. good_word o (codes "all") [] d refl (good_nil d) }
mode_printed M.AllWords = record { placed = name o (codes "all") ∷ name o (codes "words") ∷ []; spells = Moded.all_words o o; is = refl; good = λ d h. good_word o (codes "all") _ d refl (good_word o (codes "words") [] d refl (good_nil d)) }
mode_printed M.Phrase = record { placed = name o (codes "phrase") ∷ []; spells = Moded.phrase o; is = refl; good = λ d h. good_word o (codes "phrase") [] d refl (good_nil d) }

-- strings
abbrev pub placed_strings : List (List ℕ) → List PlacedString
placed_strings [] = []
placed_strings (s ∷ rest) = g.placed o s ∷ placed_strings rest

pub texts_same : (texts : List (List ℕ)) → texts_of (placed_strings texts) ≡ texts
texts_same [] = refl
texts_same (s ∷ rest) = ap (λ w. s ∷ w) (texts_same rest)

abbrev further_strings : List (List ℕ) → List Placed
further_strings [] = []
further_strings (s ∷ rest) = at o S.Comma ∷ string o s ∷ further_strings rest

further_written : (texts : List (List ℕ)) → spellings (further_strings texts) ≡ flat_map (λ y. codes "," ∷ string_symbol y ∷ []) texts
further_written [] = refl
further_written (s ∷ rest) = ap (λ w. codes "," ∷ string_symbol s ∷ w) (further_written rest)

strings_on : (u : List Placed) (xs : List PlacedString) → Strings u xs → (texts : List (List ℕ)) → Strings (u ++ further_strings texts) (xs ++ placed_strings texts)
strings_on u xs a [] = moved Strings u (u ++ []) xs (xs ++ []) a (sym (append-nil u)) (sym (append-nil xs))
strings_on u xs a (s ∷ rest) = moved Strings _ _ _ _ (strings_on (u ++ at o S.Comma ∷ string o s ∷ []) (xs ++ g.placed o s ∷ []) (Strings.further a o o s) rest)
    (append_assoc u (at o S.Comma ∷ string o s ∷ []) (further_strings rest)) (append_assoc xs (g.placed o s ∷ []) (placed_strings rest))

further_good : (texts : List (List ℕ)) (d : ℕ) → FitTexts texts → Good d (further_strings texts)
further_good [] d h = good_nil d
further_good (s ∷ rest) d h = good_comma o _ d (good_text o s _ d h.0 (further_good rest d h.1))

pub strings_printed : (s : List ℕ) (rest : List (List ℕ)) → Printed Strings (λ d. FitTexts (s ∷ rest)) (placed_strings (s ∷ rest)) (strings_symbols (s ∷ rest))
strings_printed s rest = record {
  placed = string o s ∷ further_strings rest;
  spells = strings_on (string o s ∷ []) (g.placed o s ∷ []) (Strings.first o s) rest;
  is = ap (λ w. string_symbol s ∷ w) (further_written rest);
  good = λ d h. good_text o s _ d h.0 (further_good rest d h.1);
}

pub in_marks : (a b : Placed) (u : List Placed) (s : List (List ℕ)) → spellings u ≡ s → spellings (a ∷ u ++ b ∷ []) ≡ spelling a.symbol ∷ s ++ spelling b.symbol ∷ []
in_marks a b u s e = ap (λ w. spelling a.symbol ∷ w) (joined u (b ∷ []) s (spelling b.symbol ∷ []) e refl)

pub value_printed : (s : List ℕ) (rest : List (List ℕ)) → Printed Value (λ d. FitTexts (s ∷ rest)) (placed_strings (s ∷ rest)) (value_symbols (s ∷ rest))
value_printed s [] = record { placed = string o s ∷ []; spells = Value.one o s; is = refl; good = λ d h. good_text o s [] d h.0 (good_nil d) }
value_printed s (t ∷ rest) = let inside = strings_printed s (t ∷ rest) in record {
  placed = at o S.OpenBrace ∷ inside.placed ++ at o S.CloseBrace ∷ [];
  spells = Value.several o inside.spells o;
  is = in_marks (at o S.OpenBrace) (at o S.CloseBrace) inside.placed (strings_symbols (s ∷ t ∷ rest)) inside.is;
  good = λ d h. good_braces o o inside.placed d (inside.good d h);
}
