-- The options that are spelled are such as the grammar can spell, and where some are spelled, the selection has some.
use Rattle.std.proofs.Common.{◌≡◌, ℕ, Bool, true, false, cond, List, [], ◌∷◌, ◌++◌, Option, Some, None, refl, sym, ◌∙◌, ap, subst}
use Rattle.ft_base.specs.Selection.{no_options}
use Rattle.ft_base.specs.declared.options.Options.{Options}
use Rattle.ft_base.specs.declared.options.StopChoice.TheVariants as Stop
use Rattle.ft_base.specs.declared.options.StopTerm.{StopTerm}
use Rattle.ft_base.specs.declared.options.StopSource.{StopSource}
use Rattle.ft_base.specs.declared.options.ThesaurusChoice.TheVariants as Thesaurus
use Rattle.ft_base.specs.declared.options.ThesaurusUse.{ThesaurusUse}
use Rattle.selection_grammar.specs.Form.{options_of, with_option}
use Rattle.selection_grammar.specs.declared.symbol.Placed.{Placed}
use Rattle.selection_grammar.specs.declared.parsed.MatchOption.{MatchOption}
use Rattle.selection_grammar.specs.declared.parsed.MatchOption.TheVariants as O
use Rattle.selection_grammar.specs.declared.parsed.PlacedOption.{PlacedOption}
use Rattle.selection_grammar.specs.declared.parsed.PlacedString.{PlacedString}
use Rattle.selection_grammar.specs.Grammar as g
use Rattle.selection_grammar.specs.Grammar.{Strings, Value, Thesauri, Source, Terms, Given, texts_of}
use Rattle.selection_grammar.specs.Keywords.{plain_option}
use Rattle.selection_grammar.specs.Shapes.{Shape, whole, nothing, word, number, text, mark, is_word, is_mark, number_of, text_of, number_leads, text_leads, step, run, Spelled}
use Rattle.selection_faults.proofs.OptionsLemmas.{options_more}
use Rattle.selection_round_trip.proofs.Choices.{SourceSound, TermsSound, StopSound, ThesaurusSound, Sound}

-- every end of a shape
abbrev pub Every : {A : Type 0} → (A → Type 0) → Shape A → Type 0
Every P (whole a) = P a
Every P nothing = Unit {0}
Every P (word key to rest) = ((p : ℕ) → Every P (to p)) × Every P rest
Every P (number to rest) = ((n : ℕ) → Every P (to n)) × Every P rest
Every P (text to rest) = ((p : ℕ) (s : List ℕ) → Every P (to p s)) × Every P rest
Every P (mark m to rest) = Every P to × Every P rest

by_test : {A : Type 0} (P : A → Type 0) (b : Bool) (to r : Shape A) (y : Option (Shape A)) → Every P to → (y ≡ Some r → Every P r) → cond b (Some to) y ≡ Some r → Every P r
by_test P true to r y h past e = let same : to ≡ r = cc in subst (Every P) same h
by_test P false to r y h past e = past e

by_number : {A : Type 0} (P : A → Type 0) (n : Option ℕ) (to : ℕ → Shape A) (r : Shape A) (y : Option (Shape A)) → ((n : ℕ) → Every P (to n)) → (y ≡ Some r → Every P r) → number_leads to y n ≡ Some r → Every P r
by_number P None to r y h past e = past e
by_number P (Some n) to r y h past e = let same : to n ≡ r = cc in subst (Every P) same (h n)

by_text : {A : Type 0} (P : A → Type 0) (n : Option (List ℕ)) (to : List ℕ → Shape A) (r : Shape A) (y : Option (Shape A)) → ((n : List ℕ) → Every P (to n)) → (y ≡ Some r → Every P r) → text_leads to y n ≡ Some r → Every P r
by_text P None to r y h past e = past e
by_text P (Some n) to r y h past e = let same : to n ≡ r = cc in subst (Every P) same (h n)

step_every : {A : Type 0} (P : A → Type 0) (t r : Shape A) (p : Placed) → Every P t → step t p ≡ Some r → Every P r
step_every P (whole a) r p h e = cc
step_every P nothing r p h e = cc
step_every P (word key to rest) r p h e = by_test P (is_word key p.symbol) (to p.from) r (step rest p) (h.0 p.from) (λ k. step_every P rest r p h.1 k) e
step_every P (number to rest) r p h e = by_number P (number_of p.symbol) to r (step rest p) h.0 (λ k. step_every P rest r p h.1 k) e
step_every P (text to rest) r p h e = by_text P (text_of p.symbol) (to p.from) r (step rest p) (h.0 p.from) (λ k. step_every P rest r p h.1 k) e
step_every P (mark m to rest) r p h e = by_test P (is_mark m p.symbol) to r (step rest p) h.0 (λ k. step_every P rest r p h.1 k) e

run_every : {A : Type 0} (P : A → Type 0) (u : List Placed) (t : Option (Shape A)) (a : A) → ((s : Shape A) → t ≡ Some s → Every P s) → run t u ≡ Some (whole a) → P a
run_every P [] None a h e = cc
run_every P [] (Some s) a h e = let same : s ≡ whole a = cc in subst (Every P) same (h s refl)
run_every P (p ∷ u) None a h e = cc
run_every P (p ∷ u) (Some s) a h e = run_every P u (step s p) a (λ r k. step_every P s r p (h s refl) k) e

pub spelled_every : {A : Type 0} (P : A → Type 0) (t : Shape A) (u : List Placed) (a : A) → Every P t → Spelled t u a → P a
spelled_every P t u a h x = run_every P u (Some t) a (λ s e. let same : t ≡ s = cc in subst (Every P) same h) x.runs

-- an option
abbrev pub OptionSound : MatchOption → Type 0
OptionSound (O.Case case) = Unit {0}
OptionSound (O.Diacritics sensitive) = Unit {0}
OptionSound (O.Stemming on) = Unit {0}
OptionSound (O.Thesaurus choice) = ThesaurusSound (Some choice)
OptionSound (O.StopWords choice) = StopSound (Some choice)
OptionSound (O.Language name) = Unit {0}
OptionSound (O.Wildcards on) = Unit {0}

abbrev GivenSound : PlacedOption → Type 0
GivenSound option = OptionSound option.option

plain_every : (at : ℕ) → Every GivenSound (plain_option at)
plain_every at = ((λ p. ((λ p. tt), ((λ p. tt), tt))), ((λ p. tt), ((λ p. tt), ((λ p. ((λ p. tt), ((λ p. tt), tt))), ((λ p. tt), ((λ p. tt), ((λ p. ((λ p s. tt), tt)), ((λ p. ((λ p. tt), ((λ p. tt), ((λ p. tt), ((λ p. ((λ p. tt), tt)), tt))))), tt))))))))

-- lists in options
abbrev pub NotEmpty : {A : Type 0} → List A → Type 0
NotEmpty [] = ⊥
NotEmpty (x ∷ rest) = Unit {0}

pub not_empty : {A : Type 0} (xs : List A) (x : A) → NotEmpty (xs ++ x ∷ [])
not_empty [] x = tt
not_empty (y ∷ ys) x = tt

pub strings_some : {u : List Placed} {xs : List PlacedString} → Strings u xs → NotEmpty xs
strings_some (Strings.first p s) = tt
strings_some (Strings.further {xs = xs} a p q s) = not_empty xs (g.placed q s)

pub value_some : {u : List Placed} {xs : List PlacedString} → Value u xs → NotEmpty xs
value_some (Value.one p s) = tt
value_some (Value.several p a q) = strings_some a

uses_some : {u : List Placed} {xs : List ThesaurusUse} → Thesauri u xs → NotEmpty xs
uses_some (Thesauri.first a) = tt
uses_some (Thesauri.further {xs = xs} {x = x} a p b) = not_empty xs x

uses_sound : (xs : List ThesaurusUse) → NotEmpty xs → ThesaurusSound (Some (Thesaurus.Uses xs))
uses_sound [] h = h
uses_sound (x ∷ rest) h = tt

written_sound : (xs : List PlacedString) → NotEmpty xs → SourceSound (StopSource.Written (texts_of xs))
written_sound [] h = h
written_sound (x ∷ rest) h = tt

source_sound : {u : List Placed} {x : StopSource} → Source u x → SourceSound x
source_sound (Source.list p q s) = tt
source_sound (Source.written {xs = xs} p a q) = written_sound xs (strings_some a)

terms_append : (xs : List StopTerm) (x : StopTerm) → TermsSound xs → SourceSound x.source → TermsSound (xs ++ x ∷ [])
terms_append [] x h k = (k, tt)
terms_append (y ∷ ys) x h k = (h.0, terms_append ys x h.1 k)

stop_append : (xs : List StopTerm) (x : StopTerm) → StopSound (Some (Stop.Sets xs)) → SourceSound x.source → StopSound (Some (Stop.Sets (xs ++ x ∷ [])))
stop_append [] x h k = absurd h
stop_append (y ∷ ys) x h k = (h.0, terms_append (y ∷ ys) x h.1 k)

terms_sound : {u : List Placed} {xs : List StopTerm} → Terms u xs → StopSound (Some (Stop.Sets xs))
terms_sound (Terms.first a) = (refl, (source_sound a, tt))
terms_sound (Terms.further {xs = xs} {x = x} a p except b) = stop_append xs (record { except = except; source = x }) (terms_sound a) (source_sound b)

given_sound : {u : List Placed} {x : PlacedOption} → Given u x → OptionSound x.option
given_sound (Given.plain {u = u} {o = x} p a) = spelled_every GivenSound (plain_option p.0) u x (plain_every p.0) a
given_sound (Given.thesaurus p q a) = tt
given_sound (Given.thesauri {xs = xs} p q r a t) = uses_sound xs (uses_some a)
given_sound (Given.stop_words p q r a) = terms_sound a

with_sound : (options : Options) (x : MatchOption) → Sound options → OptionSound x → Sound (with_option options x)
with_sound options (O.Case case) h k = h
with_sound options (O.Diacritics sensitive) h k = h
with_sound options (O.Stemming on) h k = h
with_sound options (O.Thesaurus choice) h k = (k, h.1)
with_sound options (O.StopWords choice) h k = (h.0, k)
with_sound options (O.Language name) h k = h
with_sound options (O.Wildcards on) h k = h

pub options_sound : {u : List Placed} {xs : List PlacedOption} → g.Options u xs → Sound (options_of xs)
options_sound g.Options.none = (tt, tt)
options_sound (g.Options.further {os = xs} {o = x} a b) = subst Sound (sym (options_more xs x)) (with_sound (options_of xs) x.option (options_sound a) (given_sound b))

-- options that are given
some_option : (options : Options) (x : MatchOption) → with_option options x ≡ no_options → ⊥
some_option options (O.Case case) e = let two : Some case ≡ None = ap (λ (z : Options). z.case) e in cc
some_option options (O.Diacritics sensitive) e = let two : Some sensitive ≡ None = ap (λ (z : Options). z.diacritics_sensitive) e in cc
some_option options (O.Stemming on) e = let two : Some on ≡ None = ap (λ (z : Options). z.stemming) e in cc
some_option options (O.Thesaurus choice) e = let two : Some choice ≡ None = ap (λ (z : Options). z.thesaurus) e in cc
some_option options (O.StopWords choice) e = let two : Some choice ≡ None = ap (λ (z : Options). z.stop_words) e in cc
some_option options (O.Language name) e = let two : Some name ≡ None = ap (λ (z : Options). z.language) e in cc
some_option options (O.Wildcards on) e = let two : Some on ≡ None = ap (λ (z : Options). z.wildcards) e in cc

pub some_given : {u : List Placed} {xs : List PlacedOption} → g.Options u xs → (x : PlacedOption) (rest : List PlacedOption) → xs ≡ x ∷ rest → options_of xs ≡ no_options → ⊥
some_given g.Options.none x rest e k = cc
some_given (g.Options.further {os = xs} {o = y} a b) x rest e k = some_option (options_of xs) y.option (sym (options_more xs y) ∙ k)
