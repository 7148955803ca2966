-- What the values in a form have to be, and how many parentheses may be open around it, for its printed form to stay within the limits.
use Rattle.std.proofs.Common.{◌≡◌, ◌≤◌, ◌+◌, ℕ, Bool, true, false, List, [], ◌∷◌, Option, Some, None, refl, sym, ◌∙◌, arith}
use Rattle.std.proofs.lemmas.Bool.{leb-false, lt-leb, ltb-true, lt-ltb}
use Rattle.std.specs.Prelude.{nat_le, nat_lt}
use Rattle.ft_base.specs.Limits.{max_number, max_open}
use Rattle.ft_base.specs.declared.filter.Filter.{Filter}
use Rattle.ft_base.specs.declared.filter.Filter.TheVariants as F
use Rattle.ft_base.specs.declared.range.Range.{Range}
use Rattle.ft_base.specs.declared.range.Range.TheVariants.{Exactly, AtLeast, AtMost, FromTo}
use Rattle.ft_base.specs.declared.options.Options.{Options}
use Rattle.ft_base.specs.declared.options.StopChoice.{StopChoice}
use Rattle.ft_base.specs.declared.options.StopChoice.TheVariants as Stop
use Rattle.ft_base.specs.declared.options.StopTerm.{StopTerm}
use Rattle.ft_base.specs.declared.options.StopSource.{StopSource}
use Rattle.ft_base.specs.declared.options.StopSource.TheVariants.{At, Written}
use Rattle.ft_base.specs.declared.options.ThesaurusChoice.{ThesaurusChoice}
use Rattle.ft_base.specs.declared.options.ThesaurusChoice.TheVariants as Thesaurus
use Rattle.ft_base.specs.declared.options.ThesaurusUse.{ThesaurusUse}
use Rattle.ft_base.specs.Selection as form
use Rattle.ft_base.specs.Selection.{Form, Forms}
use Rattle.ft_syntax.specs.Symbols.{level}
use Rattle.selection_grammar.specs.Form.{with_option}
use Rattle.selection_grammar.specs.declared.parsed.MatchOption.{MatchOption}
use Rattle.selection_grammar.specs.declared.parsed.MatchOption.TheVariants as O
use Rattle.selection_round_trip.specs.Printable.{IsEncoded}

-- one more parenthesis may open where so many are open
abbrev pub Room : ℕ → Type 0
Room d = nat_le max_open d ≡ false

abbrev pub FitRange : Range → Type 0
FitRange (Exactly n) = n ≤ max_number
FitRange (AtLeast n) = n ≤ max_number
FitRange (AtMost n) = n ≤ max_number
FitRange (FromTo low high) = (low ≤ max_number) × (high ≤ max_number)

abbrev pub FitTimes : Option Range → Type 0
FitTimes None = Unit {0}
FitTimes (Some range) = FitRange range

abbrev pub FitFilter : Filter → Type 0
FitFilter (F.Window n kind) = n ≤ max_number
FitFilter (F.Distance range kind) = FitRange range
FitFilter other = Unit {0}

abbrev pub FitTexts : List (List ℕ) → Type 0
FitTexts [] = Unit {0}
FitTexts (text ∷ rest) = IsEncoded text × FitTexts rest

abbrev pub FitName : Option (List ℕ) → Type 0
FitName None = Unit {0}
FitName (Some name) = IsEncoded name

abbrev pub FitUse : ThesaurusUse → Type 0
FitUse choice = IsEncoded choice.name × FitName choice.relationship × FitTimes choice.levels

abbrev pub FitUses : List ThesaurusUse → Type 0
FitUses [] = Unit {0}
FitUses (choice ∷ rest) = FitUse choice × FitUses rest

-- several thesauri stand in parentheses
abbrev pub FitThesaurus : Option ThesaurusChoice → ℕ → Type 0
FitThesaurus None d = Unit {0}
FitThesaurus (Some Thesaurus.No) d = Unit {0}
FitThesaurus (Some (Thesaurus.Uses [])) d = Unit {0}
FitThesaurus (Some (Thesaurus.Uses (choice ∷ []))) d = FitUse choice
FitThesaurus (Some (Thesaurus.Uses (choice ∷ next ∷ rest))) d = Room d × FitUses (choice ∷ next ∷ rest)

abbrev pub FitSource : StopSource → ℕ → Type 0
FitSource (At list) d = IsEncoded list
FitSource (Written texts) d = Room d × FitTexts texts

abbrev pub FitTerms : List StopTerm → ℕ → Type 0
FitTerms [] d = Unit {0}
FitTerms (term ∷ rest) d = FitSource term.source d × FitTerms rest d

abbrev pub FitStop : Option StopChoice → ℕ → Type 0
FitStop None d = Unit {0}
FitStop (Some Stop.No) d = Unit {0}
FitStop (Some (Stop.Sets terms)) d = FitTerms terms d

abbrev pub FitOptions : Options → ℕ → Type 0
FitOptions options d = FitThesaurus options.thesaurus d × FitStop options.stop_words d × FitName options.language

abbrev pub FitOption : MatchOption → ℕ → Type 0
FitOption (O.Case case) d = Unit {0}
FitOption (O.Diacritics sensitive) d = Unit {0}
FitOption (O.Stemming on) d = Unit {0}
FitOption (O.Thesaurus choice) d = FitThesaurus (Some choice) d
FitOption (O.StopWords choice) d = FitStop (Some choice) d
FitOption (O.Language name) d = IsEncoded name
FitOption (O.Wildcards on) d = Unit {0}

abbrev pub If : Bool → Type 0 → Type 0 → Type 0
If true P Q = P
If false P Q = Q

unfoldable mutual
  pub Fit : Form → ℕ → Type 0
  Fit (form.words value) d = FitTexts value.values × FitTimes value.times × FitOptions value.options d
  Fit (form.or_of forms) d = FitAll forms 2 d
  Fit (form.and_of forms) d = FitAll forms 3 d
  Fit (form.mild_not left right) d = If (nat_lt (level left) 3) (Room d × Fit left (d + 1)) (Fit left d) × If (nat_lt (level right) 4) (Room d × Fit right (d + 1)) (Fit right d)
  Fit (form.not_of x) d = If (nat_lt (level x) 5) (Room d × Fit x (d + 1)) (Fit x d)
  Fit (form.filtered x filter) d = Fit x d × FitFilter filter
  Fit (form.with_options x options) d = Room d × Fit x (d + 1) × FitOptions options d

  pub FitAll : Forms → ℕ → ℕ → Type 0
  FitAll form.none wanted d = Unit {0}
  FitAll (form.more x rest) wanted d = If (nat_lt (level x) wanted) (Room d × Fit x (d + 1)) (Fit x d) × FitAll rest wanted d

-- in a place that wants a level
abbrev pub FitAt : ℕ → Form → ℕ → Type 0
FitAt wanted x d = If (nat_lt (level x) wanted) (Room d × Fit x (d + 1)) (Fit x d)

-- where fewer parentheses are open
room_lower : (d : ℕ) → Room (d + 1) → Room d
room_lower d h = lt-leb max_open d (omega (arith, leb-false max_open (d + 1) h))

thesaurus_lower : (c : Option ThesaurusChoice) (d : ℕ) → FitThesaurus c (d + 1) → FitThesaurus c d
thesaurus_lower None d h = h
thesaurus_lower (Some Thesaurus.No) d h = h
thesaurus_lower (Some (Thesaurus.Uses [])) d h = h
thesaurus_lower (Some (Thesaurus.Uses (choice ∷ []))) d h = h
thesaurus_lower (Some (Thesaurus.Uses (choice ∷ next ∷ rest))) d h = (room_lower d h.0, h.1)

source_lower : (s : StopSource) (d : ℕ) → FitSource s (d + 1) → FitSource s d
source_lower (At list) d h = h
source_lower (Written texts) d h = (room_lower d h.0, h.1)

terms_lower : (terms : List StopTerm) (d : ℕ) → FitTerms terms (d + 1) → FitTerms terms d
terms_lower [] d h = h
terms_lower (term ∷ rest) d h = (source_lower term.source d h.0, terms_lower rest d h.1)

stop_lower : (c : Option StopChoice) (d : ℕ) → FitStop c (d + 1) → FitStop c d
stop_lower None d h = h
stop_lower (Some Stop.No) d h = h
stop_lower (Some (Stop.Sets terms)) d h = terms_lower terms d h

options_lower : (options : Options) (d : ℕ) → FitOptions options (d + 1) → FitOptions options d
options_lower options d h = (thesaurus_lower options.thesaurus d h.0, stop_lower options.stop_words d h.1, h.2)

if_lower : (b : Bool) {P Q R S : Type 0} → (P → R) → (Q → S) → If b P Q → If b R S
if_lower true f g h = f h
if_lower false f g h = g h

mutual
  unfolding Fit

  fit_lower : (x : Form) (d : ℕ) → Fit x (d + 1) → Fit x d
  fit_lower (form.words value) d h = (h.0, h.1, options_lower value.options d h.2)
  fit_lower (form.or_of forms) d h = all_lower forms 2 d h
  fit_lower (form.and_of forms) d h = all_lower forms 3 d h
  fit_lower (form.mild_not left right) d h = (if_lower (nat_lt (level left) 3) (λ k. (room_lower d k.0, fit_lower left (d + 1) k.1)) (λ k. fit_lower left d k) h.0, if_lower (nat_lt (level right) 4) (λ k. (room_lower d k.0, fit_lower right (d + 1) k.1)) (λ k. fit_lower right d k) h.1)
  fit_lower (form.not_of x) d h = if_lower (nat_lt (level x) 5) (λ k. (room_lower d k.0, fit_lower x (d + 1) k.1)) (λ k. fit_lower x d k) h
  fit_lower (form.filtered x filter) d h = (fit_lower x d h.0, h.1)
  fit_lower (form.with_options x options) d h = (room_lower d h.0, fit_lower x (d + 1) h.1, options_lower options d h.2)

  all_lower : (forms : Forms) (wanted d : ℕ) → FitAll forms wanted (d + 1) → FitAll forms wanted d
  all_lower form.none wanted d h = h
  all_lower (form.more x rest) wanted d h = (if_lower (nat_lt (level x) wanted) (λ k. (room_lower d k.0, fit_lower x (d + 1) k.1)) (λ k. fit_lower x d k) h.0, all_lower rest wanted d h.1)

-- what fits in parentheses fits in any place, and what fits where more is wanted fits where less is
pub fit_closed : (x : Form) (wanted d : ℕ) → Room d → Fit x (d + 1) → FitAt wanted x d
fit_closed x wanted d h k = go (nat_lt (level x) wanted)
  where
    go : (b : Bool) → If b (Room d × Fit x (d + 1)) (Fit x d)
    go true = (h, k)
    go false = fit_lower x d k

pub fit_plain : (x : Form) (wanted d : ℕ) → FitAt wanted x d → Fit x d
fit_plain x wanted d h = go (nat_lt (level x) wanted) h
  where
    go : (b : Bool) → If b (Room d × Fit x (d + 1)) (Fit x d) → Fit x d
    go true k = fit_lower x d k.1
    go false k = k

pub fit_weaker : (x : Form) (wanted less d : ℕ) → less ≤ wanted → FitAt wanted x d → FitAt less x d
fit_weaker x wanted less d h k = go (nat_lt (level x) wanted) (nat_lt (level x) less) refl refl k
  where
    go : (a b : Bool) → nat_lt (level x) wanted ≡ a → nat_lt (level x) less ≡ b → If a (Room d × Fit x (d + 1)) (Fit x d) → If b (Room d × Fit x (d + 1)) (Fit x d)
    go true true e f l = l
    go true false e f l = fit_lower x d l.1
    go false false e f l = l
    go false true e f l = let two : true ≡ false = sym (lt-ltb (level x) wanted (omega (arith, h, ltb-true (level x) less f))) ∙ e in cc

-- options one after the other
pub fit_with : (options : Options) (m : MatchOption) (d : ℕ) → FitOptions options d → FitOption m d → FitOptions (with_option options m) d
fit_with options (O.Case case) d h k = h
fit_with options (O.Diacritics sensitive) d h k = h
fit_with options (O.Stemming on) d h k = h
fit_with options (O.Thesaurus choice) d h k = (k, h.1, h.2)
fit_with options (O.StopWords choice) d h k = (h.0, k, h.2)
fit_with options (O.Language name) d h k = (h.0, h.1, k)
fit_with options (O.Wildcards on) d h k = h
