-- The options of a selection, as symbols whose spellings are the printed ones.
use Rattle.std.proofs.Common.{◌≡◌, ◌+◌, ℕ, Bool, true, false, arith, List, [], ◌∷◌, ◌++◌, Option, Some, None, refl, sym, ◌∙◌, ap, subst, append_assoc}
use Rattle.std.proofs.lemmas.List.{append-nil}
use Rattle.std.specs.Prelude.{codes, flat_map}
use Rattle.ft_base.specs.Selection.{no_options}
use Rattle.ft_base.specs.declared.range.Range.{Range}
use Rattle.ft_base.specs.declared.options.Case.{Case}
use Rattle.ft_base.specs.declared.options.Case.TheVariants.{Insensitive, Sensitive, Lower, Upper}
use Rattle.ft_base.specs.declared.options.Options.{Options}
use Rattle.ft_base.specs.declared.options.StopChoice.{StopChoice}
use Rattle.ft_base.specs.declared.options.StopChoice.TheVariants as Stop
use Rattle.ft_base.specs.declared.options.StopTerm.{StopTerm}
use Rattle.ft_base.specs.declared.options.StopSource.{StopSource}
use Rattle.ft_base.specs.declared.options.StopSource.TheVariants.{At, Written}
use Rattle.ft_base.specs.declared.options.ThesaurusChoice.{ThesaurusChoice}
use Rattle.ft_base.specs.declared.options.ThesaurusChoice.TheVariants as Thesaurus
use Rattle.ft_base.specs.declared.options.ThesaurusUse.{ThesaurusUse}
use Rattle.ft_syntax.specs.OptionSymbols.{string_symbol, case_symbols, diacritics_symbols, switch_symbols, use_symbols, uses_symbols, thesaurus_symbols, source_symbols, further_term_symbols, terms_symbols, stop_symbols, language_symbols, options_symbols}
use Rattle.selection_grammar.specs.Form.{options_of, with_option}
use Rattle.selection_grammar.specs.declared.symbol.Symbol.TheVariants as S
use Rattle.selection_grammar.specs.declared.symbol.Placed.{Placed}
use Rattle.selection_grammar.specs.declared.parsed.MatchOption.{MatchOption}
use Rattle.selection_grammar.specs.declared.parsed.MatchOption.TheVariants as O
use Rattle.selection_grammar.specs.declared.parsed.PlacedOption.{PlacedOption}
use Rattle.selection_grammar.specs.Grammar as g
use Rattle.selection_grammar.specs.Grammar.{Spot, at, name, string, joint, Strings, Named, Thesauri, Source, Terms, Given}
use Rattle.selection_grammar.specs.Keywords.{plain_option, given}
use Rattle.selection_grammar.specs.Shapes.{run, whole}
use Rattle.selection_faults.proofs.OptionsLemmas.{options_more}
use Rattle.selection_faults.specs.Options.{second_option}
use Rattle.selection_round_trip.specs.Printable.{IsEncoded, is_keyword}
use Rattle.selection_round_trip.specs.Printed.{spellings}
use Rattle.selection_round_trip.proofs.Fits.{FitName, FitUse, FitUses, FitThesaurus, FitSource, FitTerms, FitStop, FitOptions, FitOption}
use Rattle.selection_round_trip.proofs.Good.{Good, good_nil, good_append, good_word, good_text, good_comma, good_closed}
use Rattle.selection_round_trip.proofs.Groups.{place, AllBefore, one_before, further_before, second_more}
use Rattle.selection_round_trip.proofs.Parts.{o, Printed, joined, moved, in_marks, levels_printed, strings_printed, texts_same}

-- what of an option the grammar can spell
abbrev pub SourceSound : StopSource → Type 0
SourceSound (At list) = Unit {0}
SourceSound (Written []) = ⊥
SourceSound (Written (text ∷ rest)) = Unit {0}

abbrev pub TermsSound : List StopTerm → Type 0
TermsSound [] = Unit {0}
TermsSound (term ∷ rest) = SourceSound term.source × TermsSound rest

abbrev pub StopSound : Option StopChoice → Type 0
StopSound None = Unit {0}
StopSound (Some Stop.No) = Unit {0}
StopSound (Some (Stop.Sets [])) = ⊥
StopSound (Some (Stop.Sets (first ∷ rest))) = (first.except ≡ false) × TermsSound (first ∷ rest)

abbrev pub ThesaurusSound : Option ThesaurusChoice → Type 0
ThesaurusSound None = Unit {0}
ThesaurusSound (Some Thesaurus.No) = Unit {0}
ThesaurusSound (Some (Thesaurus.Uses [])) = ⊥
ThesaurusSound (Some (Thesaurus.Uses (choice ∷ rest))) = Unit {0}

abbrev pub Sound : Options → Type 0
Sound options = ThesaurusSound options.thesaurus × StopSound options.stop_words

-- thesauri
abbrev relationship_placed : Option (List ℕ) → List Placed
relationship_placed None = []
relationship_placed (Some name') = name o (codes "relationship") ∷ string o name' ∷ []

relationship_good : (r : Option (List ℕ)) (u : List Placed) (d : ℕ) → FitName r → Good d u → Good d (relationship_placed r ++ u)
relationship_good None u d h k = k
relationship_good (Some name') u d h k = good_word o (codes "relationship") _ d refl (good_text o name' u d h k)

named_good : (s : List ℕ) (r : Option (List ℕ)) (u : List Placed) (d : ℕ) → IsEncoded s → FitName r → Good d u → Good d (name o (codes "at") ∷ string o s ∷ relationship_placed r ++ u)
named_good s r u d h k l = good_word o (codes "at") _ d refl (good_text o s _ d h (relationship_good r u d k l))

named : (s : List ℕ) (r : Option (List ℕ)) → Named (name o (codes "at") ∷ string o s ∷ relationship_placed r) s r
named s None = Named.plain o o s
named s (Some r) = Named.related o o o o s r

use_of : (s : List ℕ) (r : Option (List ℕ)) (l : Option Range) → Printed g.Thesaurus (λ d. FitUse (record { name = s; relationship = r; levels = l })) (record { name = s; relationship = r; levels = l }) (use_symbols (record { name = s; relationship = r; levels = l }))
use_of s None None = record { placed = _; spells = g.Thesaurus.all_levels (named s None); is = refl; good = λ d h. named_good s None [] d h.0 tt (good_nil d) }
use_of s (Some r) None = record { placed = _; spells = g.Thesaurus.all_levels (named s (Some r)); is = refl; good = λ d h. named_good s (Some r) [] d h.0 h.1 (good_nil d) }
use_of s None (Some l) = let x = levels_printed l in record {
  placed = (name o (codes "at") ∷ string o s ∷ []) ++ x.placed;
  spells = g.Thesaurus.some_levels (named s None) x.spells;
  is = ap (λ w. codes "at" ∷ string_symbol s ∷ w) x.is;
  good = λ d h. named_good s None x.placed d h.0 tt (x.good d h.2);
}
use_of s (Some r) (Some l) = let x = levels_printed l in record {
  placed = (name o (codes "at") ∷ string o s ∷ relationship_placed (Some r)) ++ x.placed;
  spells = g.Thesaurus.some_levels (named s (Some r)) x.spells;
  is = ap (λ w. codes "at" ∷ string_symbol s ∷ codes "relationship" ∷ string_symbol r ∷ w) x.is;
  good = λ d h. named_good s (Some r) x.placed d h.0 h.1 (x.good d h.2);
}

abbrev use_printed : (choice : ThesaurusUse) → Printed g.Thesaurus (λ d. FitUse choice) choice (use_symbols choice)
use_printed choice = use_of choice.name choice.relationship choice.levels

abbrev further_uses : List ThesaurusUse → List Placed
further_uses [] = []
further_uses (choice ∷ rest) = (at o S.Comma ∷ (use_printed choice).placed) ++ further_uses rest

further_uses_written : (uses : List ThesaurusUse) → spellings (further_uses uses) ≡ flat_map (λ choice. codes "," ∷ use_symbols choice) uses
further_uses_written [] = refl
further_uses_written (choice ∷ rest) = joined (at o S.Comma ∷ (use_printed choice).placed) (further_uses rest) (codes "," ∷ use_symbols choice) _ (ap (λ w. codes "," ∷ w) (use_printed choice).is) (further_uses_written rest)

further_uses_good : (uses : List ThesaurusUse) (d : ℕ) → FitUses uses → Good d (further_uses uses)
further_uses_good [] d h = good_nil d
further_uses_good (choice ∷ rest) d h = good_comma o _ d (good_append (use_printed choice).placed (further_uses rest) d ((use_printed choice).good d h.0) (further_uses_good rest d h.1))

uses_on : (u : List Placed) (xs : List ThesaurusUse) → Thesauri u xs → (uses : List ThesaurusUse) → Thesauri (u ++ further_uses uses) (xs ++ uses)
uses_on u xs a [] = moved Thesauri u (u ++ []) xs (xs ++ []) a (sym (append-nil u)) (sym (append-nil xs))
uses_on u xs a (choice ∷ rest) = moved Thesauri _ _ _ _ (uses_on (u ++ at o S.Comma ∷ (use_printed choice).placed) (xs ++ choice ∷ []) (Thesauri.further a o (use_printed choice).spells) rest)
    (append_assoc u (at o S.Comma ∷ (use_printed choice).placed) (further_uses rest)) (append_assoc xs (choice ∷ []) rest)

uses_printed : (first : ThesaurusUse) (rest : List ThesaurusUse) → Printed Given (FitThesaurus (Some (Thesaurus.Uses (first ∷ rest)))) (given 0 (O.Thesaurus (Thesaurus.Uses (first ∷ rest)))) (codes "using" ∷ codes "thesaurus" ∷ uses_symbols (first ∷ rest))
uses_printed first [] = let x = use_printed first in record {
  placed = name o (codes "using") ∷ name o (codes "thesaurus") ∷ x.placed;
  spells = Given.thesaurus o o x.spells;
  is = ap (λ w. codes "using" ∷ codes "thesaurus" ∷ w) x.is;
  good = λ d h. good_word o (codes "using") _ d refl (good_word o (codes "thesaurus") _ d refl (x.good d h));
}
uses_printed first (next ∷ rest) = let x = use_printed first in record {
  placed = name o (codes "using") ∷ name o (codes "thesaurus") ∷ at o S.OpenParenthesis ∷ (x.placed ++ further_uses (next ∷ rest)) ++ at o S.CloseParenthesis ∷ [];
  spells = Given.thesauri o o o (uses_on x.placed (first ∷ []) (Thesauri.first x.spells) (next ∷ rest)) o;
  is = ap (λ w. codes "using" ∷ codes "thesaurus" ∷ w) (in_marks (at o S.OpenParenthesis) (at o S.CloseParenthesis) (x.placed ++ further_uses (next ∷ rest)) _ (joined x.placed (further_uses (next ∷ rest)) _ _ x.is (further_uses_written (next ∷ rest))));
  good = λ d h. good_word o (codes "using") _ d refl (good_word o (codes "thesaurus") _ d refl
      (good_closed o o (x.placed ++ further_uses (next ∷ rest)) d h.0 (good_append x.placed (further_uses (next ∷ rest)) (d + 1) (x.good (d + 1) h.1.0) (further_uses_good (next ∷ rest) (d + 1) h.1.1))));
}

-- stop words
source_printed : (source : StopSource) → SourceSound source → Printed Source (FitSource source) source (source_symbols source)
source_printed (At list) h = record { placed = name o (codes "at") ∷ string o list ∷ []; spells = Source.list o o list; is = refl; good = λ d h. good_word o (codes "at") _ d refl (good_text o list [] d h (good_nil d)) }
source_printed (Written []) h = absurd h
source_printed (Written (text ∷ rest)) h = let x = strings_printed text rest in record {
  placed = at o S.OpenParenthesis ∷ x.placed ++ at o S.CloseParenthesis ∷ [];
  spells = subst (λ t. Source (at o S.OpenParenthesis ∷ x.placed ++ at o S.CloseParenthesis ∷ []) (Written t)) (texts_same (text ∷ rest)) (Source.written o x.spells o);
  is = in_marks (at o S.OpenParenthesis) (at o S.CloseParenthesis) x.placed _ x.is;
  good = λ d h. good_closed o o x.placed d h.0 (x.good (d + 1) h.1);
}

record TermsOn (u : List Placed) (xs terms : List StopTerm) (s : List (List ℕ)) : Type 0 where
  placed : List Placed
  spells : Terms (u ++ placed) (xs ++ terms)
  is : spellings placed ≡ s
  good : (d : ℕ) → FitTerms terms d → Good d placed

joint_keyword : (except : Bool) → is_keyword (joint except) ≡ true
joint_keyword true = refl
joint_keyword false = refl

terms_on : (u : List Placed) (xs : List StopTerm) → Terms u xs → (terms : List StopTerm) → TermsSound terms → TermsOn u xs terms (flat_map further_term_symbols terms)
terms_on u xs a [] h = record { placed = []; spells = moved Terms u (u ++ []) xs (xs ++ []) a (sym (append-nil u)) (sym (append-nil xs)); is = refl; good = λ d h. good_nil d }
terms_on u xs a (term ∷ rest) h =
    let x = source_printed term.source h.0 in
    let y = terms_on (u ++ name o (joint term.except) ∷ x.placed) (xs ++ term ∷ []) (Terms.further a o term.except x.spells) rest h.1 in
    record {
      placed = (name o (joint term.except) ∷ x.placed) ++ y.placed;
      spells = moved Terms _ _ _ _ y.spells (append_assoc u (name o (joint term.except) ∷ x.placed) y.placed) (append_assoc xs (term ∷ []) rest);
      is = joined (name o (joint term.except) ∷ x.placed) y.placed (further_term_symbols term) _ (ap (λ w. joint term.except ∷ w) x.is) y.is;
      good = λ d h. good_word o (joint term.except) _ d (joint_keyword term.except) (good_append x.placed y.placed d (x.good d h.0) (y.good d h.1));
    }

abbrev term_of : StopSource → Bool → StopTerm
term_of source except = record { except = except; source = source }

terms_printed : (first : StopTerm) (rest : List StopTerm) → first.except ≡ false → TermsSound (first ∷ rest) → Printed Given (FitStop (Some (Stop.Sets (first ∷ rest)))) (given 0 (O.StopWords (Stop.Sets (first ∷ rest)))) (codes "using" ∷ codes "stop" ∷ codes "words" ∷ terms_symbols (first ∷ rest))
terms_printed first rest e h =
    let x = source_printed first.source h.0 in
    let same : term_of first.source false ≡ first = ap (term_of first.source) (sym e) in
    let y = terms_on x.placed (first ∷ []) (subst (λ t. Terms x.placed (t ∷ [])) same (Terms.first x.spells)) rest h.1 in
    record {
      placed = name o (codes "using") ∷ name o (codes "stop") ∷ name o (codes "words") ∷ x.placed ++ y.placed;
      spells = Given.stop_words o o o y.spells;
      is = ap (λ w. codes "using" ∷ codes "stop" ∷ codes "words" ∷ w) (joined x.placed y.placed _ _ x.is y.is);
      good = λ d h. good_word o (codes "using") _ d refl (good_word o (codes "stop") _ d refl (good_word o (codes "words") _ d refl (good_append x.placed y.placed d (x.good d h.0) (y.good d h.1))));
    }

-- options one after the other
pub record Done (options : Options) (written : List (List ℕ)) (place_after : ℕ) : Type 0 where
  pub placed : List Placed
  pub all : List PlacedOption
  pub spells : g.Options placed all
  pub written_so : spellings placed ≡ written
  pub is : options_of all ≡ options
  pub before : AllBefore place_after all
  pub once : second_option all ≡ None
  pub good : (d : ℕ) → FitOptions options d → Good d placed

same_done : (x : Options) (s : List (List ℕ)) (n : ℕ) → Done x s n → Done x (s ++ []) (n + 1)
same_done x s n d = subst (λ w. Done x w (n + 1)) (sym (append-nil s)) (record { placed = d.placed; all = d.all; spells = d.spells; written_so = d.written_so; is = d.is; before = further_before n d.all d.before; once = d.once; good = d.good })

-- that options fit says so of those before the last
abbrev Splits : Options → MatchOption → Type 0
Splits x m = (n : ℕ) → FitOptions (with_option x m) n → FitOptions x n × FitOption m n

one_more : (x : Options) (s : List (List ℕ)) (m : MatchOption) → Done x s (place m) → (t : List (List ℕ)) → Printed Given (FitOption m) (given 0 m) t → Splits x m → Done (with_option x m) (s ++ t) (place m + 1)
one_more x s m d t a split = record {
  placed = d.placed ++ a.placed;
  all = d.all ++ given 0 m ∷ [];
  spells = g.Options.further d.spells a.spells;
  written_so = joined d.placed a.placed s t d.written_so a.is;
  is = options_more d.all (given 0 m) ∙ ap (λ z. with_option z m) d.is;
  before = one_before (place m + 1) d.all (given 0 m) (further_before (place m) d.all d.before) (omega arith);
  once = second_more d.all (given 0 m) d.once d.before;
  good = λ n h. good_append d.placed a.placed n (d.good n (split n h).0) (a.good n (split n h).1);
}

plain : (m : MatchOption) (u : List Placed) → run (Some (plain_option 0)) u ≡ Some (whole (given 0 m)) → ((d : ℕ) → FitOption m d → Good d u) → Printed Given (FitOption m) (given 0 m) (codes "using" ∷ spellings u)
plain m u e g = record { placed = name o (codes "using") ∷ u; spells = Given.plain o (record { runs = e }); is = refl; good = λ d h. good_word o (codes "using") u d refl (g d h) }

abbrev word : List ℕ → Placed
word key = name o key

-- options of keywords alone
one_good : (key : List ℕ) (d : ℕ) → is_keyword key ≡ true → Good d (word key ∷ [])
one_good key d e = good_word o key [] d e (good_nil d)

two_good : (first second : List ℕ) (d : ℕ) → is_keyword first ≡ true → is_keyword second ≡ true → Good d (word first ∷ word second ∷ [])
two_good first second d e k = good_word o first _ d e (one_good second d k)

thesaurus_splits : (x : Options) (c : ThesaurusChoice) → x.thesaurus ≡ None → Splits x (O.Thesaurus c)
thesaurus_splits x c e n h = ((subst (λ (t : Option ThesaurusChoice). FitThesaurus t n) (sym e) tt, h.1, h.2), h.0)

stop_splits : (x : Options) (c : StopChoice) → x.stop_words ≡ None → Splits x (O.StopWords c)
stop_splits x c e n h = ((h.0, subst (λ (t : Option StopChoice). FitStop t n) (sym e) tt, h.2), h.1)

language_splits : (x : Options) (l : List ℕ) → x.language ≡ None → Splits x (O.Language l)
language_splits x l e n h = ((h.0, h.1, subst FitName (sym e) tt), h.2)

with_case : (x : Options) (s : List (List ℕ)) → Done x s 0 → x.case ≡ None → (c : Option Case) → Done (record x { case = c }) (s ++ case_symbols c) 1
with_case x s d e None = subst (λ (k : Option Case). Done (record x { case = k }) (s ++ []) 1) e (same_done x s 0 d)
with_case x s d e (Some Insensitive) = one_more x s (O.Case Insensitive) d _ (plain (O.Case Insensitive) (word (codes "case") ∷ word (codes "insensitive") ∷ []) refl (λ n h. two_good (codes "case") (codes "insensitive") n refl refl)) (λ n h. (h, tt))
with_case x s d e (Some Sensitive) = one_more x s (O.Case Sensitive) d _ (plain (O.Case Sensitive) (word (codes "case") ∷ word (codes "sensitive") ∷ []) refl (λ n h. two_good (codes "case") (codes "sensitive") n refl refl)) (λ n h. (h, tt))
with_case x s d e (Some Lower) = one_more x s (O.Case Lower) d _ (plain (O.Case Lower) (word (codes "lowercase") ∷ []) refl (λ n h. one_good (codes "lowercase") n refl)) (λ n h. (h, tt))
with_case x s d e (Some Upper) = one_more x s (O.Case Upper) d _ (plain (O.Case Upper) (word (codes "uppercase") ∷ []) refl (λ n h. one_good (codes "uppercase") n refl)) (λ n h. (h, tt))

with_diacritics : (x : Options) (s : List (List ℕ)) → Done x s 1 → x.diacritics_sensitive ≡ None → (c : Option Bool) → Done (record x { diacritics_sensitive = c }) (s ++ diacritics_symbols c) 2
with_diacritics x s d e None = subst (λ (k : Option Bool). Done (record x { diacritics_sensitive = k }) (s ++ []) 2) e (same_done x s 1 d)
with_diacritics x s d e (Some true) = one_more x s (O.Diacritics true) d _ (plain (O.Diacritics true) (word (codes "diacritics") ∷ word (codes "sensitive") ∷ []) refl (λ n h. two_good (codes "diacritics") (codes "sensitive") n refl refl)) (λ n h. (h, tt))
with_diacritics x s d e (Some false) = one_more x s (O.Diacritics false) d _ (plain (O.Diacritics false) (word (codes "diacritics") ∷ word (codes "insensitive") ∷ []) refl (λ n h. two_good (codes "diacritics") (codes "insensitive") n refl refl)) (λ n h. (h, tt))

with_stemming : (x : Options) (s : List (List ℕ)) → Done x s 2 → x.stemming ≡ None → (c : Option Bool) → Done (record x { stemming = c }) (s ++ switch_symbols (codes "stemming") c) 3
with_stemming x s d e None = subst (λ (k : Option Bool). Done (record x { stemming = k }) (s ++ []) 3) e (same_done x s 2 d)
with_stemming x s d e (Some true) = one_more x s (O.Stemming true) d _ (plain (O.Stemming true) (word (codes "stemming") ∷ []) refl (λ n h. one_good (codes "stemming") n refl)) (λ n h. (h, tt))
with_stemming x s d e (Some false) = one_more x s (O.Stemming false) d _ (plain (O.Stemming false) (word (codes "no") ∷ word (codes "stemming") ∷ []) refl (λ n h. two_good (codes "no") (codes "stemming") n refl refl)) (λ n h. (h, tt))

with_wildcards : (x : Options) (s : List (List ℕ)) → Done x s 6 → x.wildcards ≡ None → (c : Option Bool) → Done (record x { wildcards = c }) (s ++ switch_symbols (codes "wildcards") c) 7
with_wildcards x s d e None = subst (λ (k : Option Bool). Done (record x { wildcards = k }) (s ++ []) 7) e (same_done x s 6 d)
with_wildcards x s d e (Some true) = one_more x s (O.Wildcards true) d _ (plain (O.Wildcards true) (word (codes "wildcards") ∷ []) refl (λ n h. one_good (codes "wildcards") n refl)) (λ n h. (h, tt))
with_wildcards x s d e (Some false) = one_more x s (O.Wildcards false) d _ (plain (O.Wildcards false) (word (codes "no") ∷ word (codes "wildcards") ∷ []) refl (λ n h. two_good (codes "no") (codes "wildcards") n refl refl)) (λ n h. (h, tt))

with_language : (x : Options) (s : List (List ℕ)) → Done x s 5 → x.language ≡ None → (c : Option (List ℕ)) → Done (record x { language = c }) (s ++ language_symbols c) 6
with_language x s d e None = subst (λ (k : Option (List ℕ)). Done (record x { language = k }) (s ++ []) 6) e (same_done x s 5 d)
with_language x s d e (Some l) = one_more x s (O.Language l) d _ (plain (O.Language l) (word (codes "language") ∷ string o l ∷ []) refl (λ n h. good_word o (codes "language") _ n refl (good_text o l [] n h (good_nil n)))) (language_splits x l e)

with_thesaurus : (x : Options) (s : List (List ℕ)) → Done x s 3 → x.thesaurus ≡ None → (c : Option ThesaurusChoice) → ThesaurusSound c → Done (record x { thesaurus = c }) (s ++ thesaurus_symbols c) 4
with_thesaurus x s d e None h = subst (λ (k : Option ThesaurusChoice). Done (record x { thesaurus = k }) (s ++ []) 4) e (same_done x s 3 d)
with_thesaurus x s d e (Some Thesaurus.No) h = one_more x s (O.Thesaurus Thesaurus.No) d _ (plain (O.Thesaurus Thesaurus.No) (word (codes "no") ∷ word (codes "thesaurus") ∷ []) refl (λ n h. two_good (codes "no") (codes "thesaurus") n refl refl)) (thesaurus_splits x Thesaurus.No e)
with_thesaurus x s d e (Some (Thesaurus.Uses [])) h = absurd h
with_thesaurus x s d e (Some (Thesaurus.Uses (first ∷ rest))) h = one_more x s (O.Thesaurus (Thesaurus.Uses (first ∷ rest))) d _ (uses_printed first rest) (thesaurus_splits x (Thesaurus.Uses (first ∷ rest)) e)

with_stop_words : (x : Options) (s : List (List ℕ)) → Done x s 4 → x.stop_words ≡ None → (c : Option StopChoice) → StopSound c → Done (record x { stop_words = c }) (s ++ stop_symbols c) 5
with_stop_words x s d e None h = subst (λ (k : Option StopChoice). Done (record x { stop_words = k }) (s ++ []) 5) e (same_done x s 4 d)
with_stop_words x s d e (Some Stop.No) h = one_more x s (O.StopWords Stop.No) d _ (plain (O.StopWords Stop.No) (word (codes "no") ∷ word (codes "stop") ∷ word (codes "words") ∷ []) refl (λ n h. good_word o (codes "no") _ n refl (two_good (codes "stop") (codes "words") n refl refl))) (stop_splits x Stop.No e)
with_stop_words x s d e (Some (Stop.Sets [])) h = absurd h
with_stop_words x s d e (Some (Stop.Sets (first ∷ rest))) h = one_more x s (O.StopWords (Stop.Sets (first ∷ rest))) d _ (terms_printed first rest h.0 h.1) (stop_splits x (Stop.Sets (first ∷ rest)) e)

pub options_printed : (x : Options) → Sound x → Done x (options_symbols x) 7
options_printed x h =
    let start : Done no_options [] 0 = record { placed = []; all = []; spells = g.Options.none; written_so = refl; is = refl; before = tt; once = refl; good = λ n h. good_nil n } in
    let a = with_case _ _ start refl x.case in
    let b = with_diacritics _ _ a refl x.diacritics_sensitive in
    let c = with_stemming _ _ b refl x.stemming in
    let d = with_thesaurus _ _ c refl x.thesaurus h.0 in
    let e = with_stop_words _ _ d refl x.stop_words h.1 in
    let f = with_language _ _ e refl x.language in
    with_wildcards _ _ f refl x.wildcards
