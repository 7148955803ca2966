-- The parts of a selection that was read fit.
use Rattle.std.proofs.Common.{ℕ, List, [], ◌∷◌, ◌++◌, Option, Some, option_map, sym, subst}
use Rattle.std.specs.Prelude.{codes}
use Rattle.ft_base.specs.declared.filter.Filter.{Filter}
use Rattle.ft_base.specs.declared.filter.Filter.TheVariants as F
use Rattle.ft_base.specs.declared.range.Range.{Range}
use Rattle.ft_base.specs.declared.words.Mode.{Mode}
use Rattle.ft_base.specs.declared.options.StopTerm.{StopTerm}
use Rattle.ft_base.specs.declared.options.StopSource.{StopSource}
use Rattle.ft_base.specs.declared.options.ThesaurusChoice.TheVariants as Thesaurus
use Rattle.ft_base.specs.declared.options.ThesaurusUse.{ThesaurusUse}
use Rattle.selection_grammar.specs.Form.{options_of}
use Rattle.selection_grammar.specs.declared.symbol.Placed.{Placed}
use Rattle.selection_grammar.specs.declared.symbol.Symbol.TheVariants as S
use Rattle.selection_grammar.specs.declared.parsed.PlacedOption.{PlacedOption}
use Rattle.selection_grammar.specs.declared.parsed.PlacedString.{PlacedString}
use Rattle.selection_grammar.specs.declared.parsed.PlacedTimes.{PlacedTimes}
use Rattle.selection_grammar.specs.Grammar as g
use Rattle.selection_grammar.specs.Grammar.{at, name, string, joint, Strings, Value, Moded, Timed, Named, Thesauri, Source, Terms, Given, Negation, texts_of}
use Rattle.selection_grammar.specs.Keywords.{key, unit, range, filters, times, levels, plain_option}
use Rattle.selection_grammar.specs.Shapes as s
use Rattle.selection_grammar.specs.Shapes.{Shape, and_then}
use Rattle.selection_faults.proofs.OptionsLemmas.{options_more}
use Rattle.selection_round_trip.specs.Printable.{IsEncoded}
use Rattle.selection_round_trip.proofs.Fits.{FitRange, FitTimes, FitFilter, FitTexts, FitName, FitUse, FitUses, FitThesaurus, FitSource, FitTerms, FitOptions, FitOption, Room, fit_with}
use Rattle.selection_round_trip.proofs.Known.{Kept, Ends, kept_both, kept_name, kept_comma, kept_string, kept_nothing, kept_braces, kept_closed, kept_as, kept_spelled}

-- shapes
ends_then : {A B : Type 0} (P : A → Type 0) (Q : B → Type 0) (f : A → Shape B) → ((a : A) → P a → Ends Q (f a)) → (x : Shape A) → Ends P x → Ends Q (and_then x f)
ends_then P Q f h (s.whole a) k = h a k
ends_then P Q f h s.nothing k = tt
ends_then P Q f h (s.word key to rest) k = ((λ p. ends_then P Q f h (to p) (k.0 p)), ends_then P Q f h rest k.1)
ends_then P Q f h (s.number to rest) k = ((λ n e. ends_then P Q f h (to n) (k.0 n e)), ends_then P Q f h rest k.1)
ends_then P Q f h (s.text to rest) k = ((λ p t e. ends_then P Q f h (to p t) (k.0 p t e)), ends_then P Q f h rest k.1)
ends_then P Q f h (s.mark m to rest) k = absurd k

range_ends : Ends FitRange range
range_ends = (
  (λ p. ((λ n e. e), tt)),
  (
    (λ p. ((λ low e. ((λ q. ((λ high k. (e, k)), tt)), tt)), tt)),
    ((λ p. ((λ q. ((λ n e. e), tt)), ((λ q. ((λ n e. e), tt)), tt))), tt),
  ),
)

abbrev FitPlaced : PlacedTimes → Type 0
FitPlaced t = FitRange t.range

times_ends : Ends FitPlaced times
times_ends = ((λ p. ends_then FitRange FitPlaced (λ r. key (codes "times") (s.whole (record { at = p; range = r }))) (λ a k. ((λ q. k), tt)) range range_ends), tt)

levels_ends : Ends FitRange levels
levels_ends = ends_then FitRange FitRange (λ (r : Range). key (codes "levels") (s.whole r)) (λ a k. ((λ q. k), tt)) range range_ends

filters_ends : Ends FitFilter filters
filters_ends = (
  (λ p. tt),
  (
    (λ p. ((λ n e. ((λ q. e), ((λ q. e), ((λ q. e), tt)))), tt)),
    (
      (λ p. ends_then FitRange FitFilter (λ (r : Range). and_then unit (λ u. s.whole (F.Distance r u))) (λ a k. ((λ q. k), ((λ q. k), ((λ q. k), tt)))) range range_ends),
      (
        (λ p. ((λ q. tt), ((λ q. tt), tt))),
        (
          (λ p. ((λ q. tt), ((λ q. tt), tt))),
          (
            (λ p. ((λ q. tt), tt)),
            ((λ p. ((λ q. tt), ((λ q. tt), tt))), tt),
          ),
        ),
      ),
    ),
  ),
)

abbrev FitGiven : PlacedOption → Type 0
FitGiven o = (d : ℕ) → FitOption o.option d

option_ends : (at : ℕ) → Ends FitGiven (plain_option at)
option_ends at = (
  (λ p. ((λ q d. tt), ((λ q d. tt), tt))),
  (
    (λ p d. tt),
    (
      (λ p d. tt),
      (
        (λ p. ((λ q d. tt), ((λ q d. tt), tt))),
        (
          (λ p d. tt),
          (
            (λ p d. tt),
            (
              (λ p. ((λ q t e d. e), tt)),
              ((λ p. ((λ q d. tt), ((λ q d. tt), ((λ q d. tt), ((λ q. ((λ r d. tt), tt)), tt))))), tt),
            ),
          ),
        ),
      ),
    ),
  ),
)

pub filter_kept : (f : Filter) (u : List Placed) → s.Spelled filters u f → Kept (λ d. FitFilter f) u
filter_kept f u a = kept_spelled FitFilter filters u f filters_ends a

-- values
texts_fit : (xs : List PlacedString) (x : PlacedString) → FitTexts (texts_of xs) → IsEncoded x.text → FitTexts (texts_of (xs ++ x ∷ []))
texts_fit [] x h k = (k, tt)
texts_fit (y ∷ ys) x h k = (h.0, texts_fit ys x h.1 k)

strings_kept : {u : List Placed} {xs : List PlacedString} → Strings u xs → Kept (λ d. FitTexts (texts_of xs)) u
strings_kept (Strings.first p t) = kept_string p t [] kept_nothing
strings_kept (Strings.further {u = u} {xs = xs} a p q t) =
    kept_as (u ++ at p S.Comma ∷ string q t ∷ []) (λ d h. texts_fit xs (g.placed q t) h.0 h.1.0) (kept_both u (at p S.Comma ∷ string q t ∷ []) (strings_kept a) (kept_comma p (string q t ∷ []) (kept_string q t [] kept_nothing)))

pub value_kept : {u : List Placed} {xs : List PlacedString} → Value u xs → Kept (λ d. FitTexts (texts_of xs)) u
value_kept (Value.one p t) = kept_string p t [] kept_nothing
value_kept (Value.several {u = u} p a q) = kept_braces p q u (strings_kept a)

pub moded_kept : {u : List Placed} {m : Mode} → Moded u m → Kept (λ d. Unit {0}) u
moded_kept Moded.unwritten = kept_nothing
moded_kept (Moded.any p) = kept_name p (codes "any") [] kept_nothing
moded_kept (Moded.any_word p q) = kept_name p (codes "any") (name q (codes "word") ∷ []) (kept_name q (codes "word") [] kept_nothing)
moded_kept (Moded.all p) = kept_name p (codes "all") [] kept_nothing
moded_kept (Moded.all_words p q) = kept_name p (codes "all") (name q (codes "words") ∷ []) (kept_name q (codes "words") [] kept_nothing)
moded_kept (Moded.phrase p) = kept_name p (codes "phrase") [] kept_nothing

pub timed_kept : {u : List Placed} {t : Option PlacedTimes} → Timed u t → Kept (λ d. FitTimes (option_map (λ (x : PlacedTimes). x.range) t)) u
timed_kept Timed.always = kept_nothing
timed_kept (Timed.some {u = u} {t = t} a) = kept_spelled FitPlaced times u t times_ends a

pub negation_kept : {u : List Placed} {n : Option ℕ} → Negation u n → Kept (λ d. Unit {0}) u
negation_kept Negation.none = kept_nothing
negation_kept (Negation.some p) = kept_name p (codes "ftnot") [] kept_nothing

-- options
named_kept : {u : List Placed} {t : List ℕ} {r : Option (List ℕ)} → Named u t r → Kept (λ d. IsEncoded t × FitName r) u
named_kept (Named.plain p q t) = kept_name p (codes "at") (string q t ∷ []) (kept_string q t [] kept_nothing)
named_kept (Named.related p q r v t relationship) =
    let last : List Placed = string v relationship ∷ [] in
    let further : List Placed = name r (codes "relationship") ∷ last in
    kept_as (name p (codes "at") ∷ string q t ∷ further) (λ d h. (h.0, h.1.0))
    (kept_name p (codes "at") (string q t ∷ further) (kept_string q t further (kept_name r (codes "relationship") last (kept_string v relationship [] kept_nothing))))

thesaurus_kept : {u : List Placed} {x : ThesaurusUse} → g.Thesaurus u x → Kept (λ d. FitUse x) u
thesaurus_kept (g.Thesaurus.all_levels {u = u} a) = kept_as u (λ d h. (h.0, h.1, tt)) (named_kept a)
thesaurus_kept (g.Thesaurus.some_levels {u = u} {v = v} {range = r} a b) = kept_as (u ++ v) (λ d h. (h.0.0, h.0.1, h.1)) (kept_both u v (named_kept a) (kept_spelled FitRange levels v r levels_ends b))

uses_fit : (xs : List ThesaurusUse) (x : ThesaurusUse) → FitUses xs → FitUse x → FitUses (xs ++ x ∷ [])
uses_fit [] x h k = (k, tt)
uses_fit (y ∷ ys) x h k = (h.0, uses_fit ys x h.1 k)

thesauri_kept : {u : List Placed} {xs : List ThesaurusUse} → Thesauri u xs → Kept (λ d. FitUses xs) u
thesauri_kept (Thesauri.first {u = u} a) = kept_as u (λ d h. (h, tt)) (thesaurus_kept a)
thesauri_kept (Thesauri.further {u = u} {v = v} {xs = xs} {x = x} a p b) = kept_as (u ++ at p S.Comma ∷ v) (λ d h. uses_fit xs x h.0 h.1) (kept_both u (at p S.Comma ∷ v) (thesauri_kept a) (kept_comma p v (thesaurus_kept b)))

source_kept : {u : List Placed} {x : StopSource} → Source u x → Kept (FitSource x) u
source_kept (Source.list p q t) = kept_as (name p (codes "at") ∷ string q t ∷ []) (λ d h. h.0) (kept_name p (codes "at") (string q t ∷ []) (kept_string q t [] kept_nothing))
source_kept (Source.written {u = u} p a q) = kept_closed p q u (strings_kept a)

terms_fit : (xs : List StopTerm) (x : StopTerm) (d : ℕ) → FitTerms xs d → FitSource x.source d → FitTerms (xs ++ x ∷ []) d
terms_fit [] x d h k = (k, tt)
terms_fit (y ∷ ys) x d h k = (h.0, terms_fit ys x d h.1 k)

terms_kept : {u : List Placed} {xs : List StopTerm} → Terms u xs → Kept (FitTerms xs) u
terms_kept (Terms.first {u = u} a) = kept_as u (λ d h. (h, tt)) (source_kept a)
terms_kept (Terms.further {u = u} {v = v} {xs = xs} {x = x} a p except b) =
    kept_as (u ++ name p (joint except) ∷ v) (λ d h. terms_fit xs (record { except = except; source = x }) d h.0 h.1) (kept_both u (name p (joint except) ∷ v) (terms_kept a) (kept_name p (joint except) v (source_kept b)))

several_fit : (xs : List ThesaurusUse) (d : ℕ) → Room d → FitUses xs → FitThesaurus (Some (Thesaurus.Uses xs)) d
several_fit [] d h k = tt
several_fit (x ∷ []) d h k = k.0
several_fit (x ∷ y ∷ rest) d h k = (h, k)

given_kept : {u : List Placed} {o : PlacedOption} → Given u o → Kept (FitOption o.option) u
given_kept (Given.plain {u = u} {o = o} p a) = kept_name p (codes "using") u (kept_as u (λ d h. h d) (kept_spelled FitGiven (plain_option p.0) u o (option_ends p.0) a))
given_kept (Given.thesaurus {u = u} p q a) = kept_name p (codes "using") (name q (codes "thesaurus") ∷ u) (kept_name q (codes "thesaurus") u (thesaurus_kept a))
given_kept (Given.thesauri {u = u} {xs = xs} p q r a t) =
    let inside : List Placed = at r S.OpenParenthesis ∷ u ++ at t S.CloseParenthesis ∷ [] in
    kept_name p (codes "using") (name q (codes "thesaurus") ∷ inside) (kept_name q (codes "thesaurus") inside (kept_as inside (λ d h. several_fit xs d h.0 h.1) (kept_closed r t u (thesauri_kept a))))
given_kept (Given.stop_words {u = u} p q r a) =
    kept_name p (codes "using") (name q (codes "stop") ∷ name r (codes "words") ∷ u) (kept_name q (codes "stop") (name r (codes "words") ∷ u) (kept_name r (codes "words") u (terms_kept a)))

pub options_kept : {u : List Placed} {os : List PlacedOption} → g.Options u os → Kept (FitOptions (options_of os)) u
options_kept g.Options.none = kept_as [] (λ d h. (tt, tt, tt)) kept_nothing
options_kept (g.Options.further {u = u} {v = v} {os = os} {o = o} a b) =
    kept_as (u ++ v) (λ d h. subst (λ z. FitOptions z d) (sym (options_more os o)) (fit_with (options_of os) o.option d h.0 h.1)) (kept_both u v (options_kept a) (given_kept b))
