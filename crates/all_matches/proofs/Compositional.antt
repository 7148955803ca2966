-- Selections outside filters and mild not, as truth values and counts.
use Rattle.std.proofs.Common.{◌≡◌, refl, ap, ◌∙◌, ℕ, suc, ◌+◌, List, [], ◌∷◌, Bool, true, false, not, ◌&&◌, ◌||◌, length, arith, sym}
use Rattle.std.specs.Prelude.{map, filter, fold, cond, nat_lt, Option, Some, None}
use Rattle.std.specs.List.{list_any, list_all}
use Rattle.std.proofs.lemmas.Bool.{and_parts}
use Rattle.std.proofs.lemmas.Bool.Decides.{nat_tests}
use Rattle.std.proofs.lemmas.List.Folds.{list_all-append}
use Rattle.std.proofs.Math.Bool.{or-false, or_assoc, and-true, and_assoc}
use Rattle.ft_base.specs.Lists.{is_empty}
use Rattle.ft_base.specs.declared.token.Token.{Token}
use Rattle.ft_base.specs.declared.hit.Hit.{Hit}
use Rattle.ft_base.specs.declared.hit.Match.{Match}
use Rattle.ft_base.specs.declared.options.Options.{Options}
use Rattle.ft_base.specs.declared.range.Range.{Range}
use Rattle.ft_base.specs.declared.words.Words.{Words}
use Rattle.ft_base.specs.declared.words.Mode.{Mode}
use Rattle.ft_base.specs.declared.words.Mode.TheVariants.{Any, AnyWord, All, AllWords, Phrase}
use Rattle.ft_base.specs.Selection.{Form, Forms, words, or_of, and_of, not_of, with_options, none, more}
use Rattle.all_matches.specs.Variants.{Item, Lexicon}
use Rattle.all_matches.specs.Hits.{match_of_hit, hits}
use Rattle.all_matches.specs.Boolean.{empty_match, both, ft_or, ft_and, ft_or_of, ft_and_of, is_clean, satisfied}
use Rattle.all_matches.specs.Times.{occurring, number_in_range}
use Rattle.all_matches.specs.Meaning.{inside, phrases_by, strings_of, each_phrase, joined_by, value_matches, phrase_count, all_matches, each_form, sat_under}
use Rattle.all_matches.specs.Compositional.{some_form, each_form_passes, enough, occurrences}
use Rattle.all_matches.proofs.BooleanLaws.{satisfied-or, satisfied-and, satisfied-not, satisfied-times, is_clean-both}
use Rattle.all_matches.proofs.Numbering.{satisfied_by-any_number}

-- Or and And of a list of operands
or_fold : (acc : List Match) (operands : List (List Match)) → satisfied (fold ft_or acc operands) ≡ (satisfied acc || list_any satisfied operands)
or_fold acc [] = sym (or-false (satisfied acc))
or_fold acc (a ∷ rest) = or_fold (ft_or acc a) rest ∙ ap (λ b. b || list_any satisfied rest) (satisfied-or acc a) ∙ or_assoc (satisfied acc) (satisfied a) (list_any satisfied rest)

pub satisfied-or_of : (operands : List (List Match)) → satisfied (ft_or_of operands) ≡ list_any satisfied operands
satisfied-or_of operands = or_fold [] operands

and_fold : (acc : List Match) (operands : List (List Match)) → satisfied (fold ft_and acc operands) ≡ (satisfied acc && list_all satisfied operands)
and_fold acc [] = sym (and-true (satisfied acc))
and_fold acc (a ∷ rest) = and_fold (ft_and acc a) rest ∙ ap (λ b. b && list_all satisfied rest) (satisfied-and acc a) ∙ and_assoc (satisfied acc) (satisfied a) (list_all satisfied rest)

pub satisfied-and_of : (operands : List (List Match)) → satisfied (ft_and_of operands) ≡ list_all satisfied operands
satisfied-and_of operands = and_fold (empty_match ∷ []) operands

-- operands stand at other numbers than alone
some_operand : (lexicon : Lexicon) (options : Options) (first : ℕ) (tokens : List Token) (forms : Forms) → list_any satisfied (each_form lexicon options (first + 1) tokens forms) ≡ some_form (λ form. sat_under lexicon options form tokens) forms
unfolding all_matches sat_under
some_operand lexicon options first tokens none = refl
some_operand lexicon options first tokens (more form rest) =
    λ i. satisfied_by-any_number lexicon options first 1 tokens form i
    || (ap (λ n. list_any satisfied (each_form lexicon options n tokens rest)) (next_number first (phrase_count lexicon options form)) ∙ some_operand lexicon options (first + phrase_count lexicon options form) tokens rest) i
  where
    next_number : (m n : ℕ) → (m + 1) + n ≡ (m + n) + 1
    next_number m n = omega arith

each_operand : (lexicon : Lexicon) (options : Options) (first : ℕ) (tokens : List Token) (forms : Forms) → list_all satisfied (each_form lexicon options (first + 1) tokens forms) ≡ each_form_passes (λ form. sat_under lexicon options form tokens) forms
unfolding all_matches sat_under
each_operand lexicon options first tokens none = refl
each_operand lexicon options first tokens (more form rest) =
    λ i. satisfied_by-any_number lexicon options first 1 tokens form i
    && (ap (λ n. list_all satisfied (each_form lexicon options n tokens rest)) (next_number first (phrase_count lexicon options form)) ∙ each_operand lexicon options (first + phrase_count lexicon options form) tokens rest) i
  where
    next_number : (m n : ℕ) → (m + 1) + n ≡ (m + n) + 1
    next_number m n = omega arith

pub sat-or_of : (lexicon : Lexicon) (options : Options) (forms : Forms) (tokens : List Token) → sat_under lexicon options (or_of forms) tokens ≡ some_form (λ form. sat_under lexicon options form tokens) forms
unfolding all_matches sat_under
sat-or_of lexicon options forms tokens = satisfied-or_of (each_form lexicon options 1 tokens forms) ∙ some_operand lexicon options 0 tokens forms

pub sat-and_of : (lexicon : Lexicon) (options : Options) (forms : Forms) (tokens : List Token) → sat_under lexicon options (and_of forms) tokens ≡ each_form_passes (λ form. sat_under lexicon options form tokens) forms
unfolding all_matches sat_under
sat-and_of lexicon options forms tokens = satisfied-and_of (each_form lexicon options 1 tokens forms) ∙ each_operand lexicon options 0 tokens forms

pub sat-not_of : (lexicon : Lexicon) (options : Options) (form : Form) (tokens : List Token) → sat_under lexicon options (not_of form) tokens ≡ not (sat_under lexicon options form tokens)
unfolding all_matches sat_under
sat-not_of lexicon options form tokens = satisfied-not (all_matches lexicon options 1 tokens form)

pub sat-with_options : (lexicon : Lexicon) (options inner : Options) (form : Form) (tokens : List Token) → sat_under lexicon options (with_options form inner) tokens ≡ sat_under lexicon (inside inner options) form tokens
unfolding all_matches sat_under
sat-with_options lexicon options inner form tokens = refl

-- words have no excludes
clean_phrase : (found : List Hit) → list_all is_clean (map match_of_hit found) ≡ true
clean_phrase [] = refl
clean_phrase (hit ∷ rest) = clean_phrase rest

clean_phrases : (lexicon : Lexicon) (options : Options) (first : ℕ) (phrases : List (List Item)) (tokens : List Token) → list_all (λ ms. list_all is_clean ms) (each_phrase lexicon options first phrases tokens) ≡ true
clean_phrases lexicon options first [] tokens = refl
clean_phrases lexicon options first (phrase ∷ rest) tokens = λ i. clean_phrase (hits lexicon options first phrase tokens) i && clean_phrases lexicon options (first + 1) rest tokens i

clean_row : (a : Match) (ms : List Match) → is_clean a ≡ true → list_all is_clean ms ≡ true → list_all is_clean (map (both a) ms) ≡ true
clean_row a [] ca cs = refl
clean_row a (m ∷ rest) ca cs =
    let parts = and_parts (is_clean m) (list_all is_clean rest) cs in
    λ i. (is_clean-both a m ∙ ap (λ b. b && is_clean m) ca ∙ parts.0) i && clean_row a rest ca parts.1 i

clean_and : (left right : List Match) → list_all is_clean left ≡ true → list_all is_clean right ≡ true → list_all is_clean (ft_and left right) ≡ true
clean_and [] right cl cr = refl
clean_and (a ∷ rest) right cl cr =
    let parts = and_parts (is_clean a) (list_all is_clean rest) cl in
    list_all-append is_clean (map (both a) right) (ft_and rest right) ∙ (λ i. clean_row a right parts.0 cr i && clean_and rest right parts.1 cr i)

clean_or_of : (acc : List Match) (operands : List (List Match)) → list_all is_clean acc ≡ true → list_all (λ ms. list_all is_clean ms) operands ≡ true → list_all is_clean (fold ft_or acc operands) ≡ true
clean_or_of acc [] ca co = ca
clean_or_of acc (a ∷ rest) ca co =
    let parts = and_parts (list_all is_clean a) (list_all (λ ms. list_all is_clean ms) rest) co in
    clean_or_of (ft_or acc a) rest (list_all-append is_clean acc a ∙ (λ i. ca i && parts.0 i)) parts.1

clean_and_of : (acc : List Match) (operands : List (List Match)) → list_all is_clean acc ≡ true → list_all (λ ms. list_all is_clean ms) operands ≡ true → list_all is_clean (fold ft_and acc operands) ≡ true
clean_and_of acc [] ca co = ca
clean_and_of acc (a ∷ rest) ca co =
    let parts = and_parts (list_all is_clean a) (list_all (λ ms. list_all is_clean ms) rest) co in
    clean_and_of (ft_and acc a) rest (clean_and acc a ca parts.0) parts.1

clean_joined : (mode : Mode) (operands : List (List Match)) → list_all (λ ms. list_all is_clean ms) operands ≡ true → list_all is_clean (joined_by mode operands) ≡ true
clean_joined Any operands c = clean_or_of [] operands refl c
clean_joined AnyWord operands c = clean_or_of [] operands refl c
clean_joined All operands c = clean_and_of (empty_match ∷ []) operands refl c
clean_joined AllWords operands c = clean_and_of (empty_match ∷ []) operands refl c
clean_joined Phrase operands c = clean_or_of [] operands refl c

clean_cond : (b : Bool) (ms : List Match) → list_all is_clean ms ≡ true → list_all is_clean (cond b [] ms) ≡ true
clean_cond true ms c = refl
clean_cond false ms c = c

clean_value : (lexicon : Lexicon) (options : Options) (first : ℕ) (value : Words) (tokens : List Token) → list_all is_clean (value_matches lexicon options first value tokens) ≡ true
clean_value lexicon options first value tokens =
    clean_cond (list_all is_empty (strings_of lexicon options value)) _
    (clean_joined value.mode _ (clean_phrases lexicon options first (phrases_by value.mode (strings_of lexicon options value)) tokens))

filter_all : (ms : List Match) → list_all is_clean ms ≡ true → filter is_clean ms ≡ ms
filter_all [] c = refl
filter_all (m ∷ rest) c =
    let parts = and_parts (is_clean m) (list_all is_clean rest) c in
    λ i. cond (parts.0 i) (m ∷ filter_all rest parts.1 i) (filter_all rest parts.1 i)

satisfied_clean : (ms : List Match) → list_all is_clean ms ≡ true → satisfied ms ≡ nat_lt 0 (length ms)
satisfied_clean [] c = refl
satisfied_clean (m ∷ rest) c =
    let parts = and_parts (is_clean m) (list_all is_clean rest) c in
    ap (λ b. b || satisfied rest) parts.0 ∙ some_length (length rest)
  where
    some_length : (n : ℕ) → true ≡ nat_lt 0 (suc n)
    some_length n = grind (arith, nat_tests)

enough_clean : (times : Option Range) (ms : List Match) → list_all is_clean ms ≡ true → satisfied (occurring times ms) ≡ enough times (length ms)
enough_clean None ms c = satisfied_clean ms c
enough_clean (Some range) ms c = satisfied-times range ms ∙ ap (λ ns. number_in_range range (length ns)) (filter_all ms c)

pub sat-words : (lexicon : Lexicon) (options : Options) (value : Words) (tokens : List Token) → sat_under lexicon options (words value) tokens ≡ enough value.times (occurrences lexicon (inside value.options options) value tokens)
unfolding all_matches sat_under
sat-words lexicon options value tokens =
    enough_clean value.times (value_matches lexicon (inside value.options options) 1 value tokens) (clean_value lexicon (inside value.options options) 1 value tokens)
