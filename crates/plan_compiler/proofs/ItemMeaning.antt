-- What a word of a query asks of a word of a text, and which words are stop words.
use Rattle.std.proofs.Common.{◌≡◌, refl, sym, ap, ◌∙◌, ℕ, Bool, true, false, cond, not, ◌&&◌, ◌||◌, List, [], ◌∷◌, ◌++◌, map, Option, Some, None}
use Rattle.std.specs.Prelude.{flat_map, fold, bytes_eq, if◌then◌else◌}
use Rattle.std.specs.List.{list_any}
use Rattle.std.proofs.lemmas.List.Folds.{list_any-append}
use Rattle.std.proofs.lemmas.Slice.Eq.{bytes_eq-Decides}
use Rattle.std.proofs.Math.Bool.{or-true, or-false, or_assoc}
use Rattle.ft_base.specs.declared.options.Case.{Case}
use Rattle.ft_base.specs.declared.options.Case.TheVariants.{Insensitive, Sensitive, Lower, Upper}
use Rattle.ft_base.specs.declared.options.StopChoice.{StopChoice}
use Rattle.ft_base.specs.declared.options.StopChoice.TheVariants as Stop
use Rattle.ft_base.specs.declared.options.StopTerm.{StopTerm}
use Rattle.ft_base.specs.declared.options.StopSource.{StopSource}
use Rattle.ft_base.specs.declared.options.StopSource.TheVariants.{At, Written}
use Rattle.ft_base.proofs.Truth.{bytes_eq_turned}
use Rattle.text_forms.specs.Forms.{key_of}
use Rattle.text_words.specs.Words.{words}
use Rattle.all_matches.specs.Variants.{Item, any_word, word, pattern, source_holds, after_term, is_stop_word}
use Rattle.all_matches.proofs.ListTests.{list_any-map, list_any-flat_map, list_any-alike}
use Rattle.match_options.specs.TokenTest.{has_case}
use Rattle.match_options.specs.WordForms.{forms_of}
use Rattle.match_options.specs.Wildcards.{pattern_in}
use Rattle.match_options.specs.WordTests.{is_by_key, item_passes, pattern_passes, forms_as}
use Rattle.match_options.specs.declared.atom.Atom.{Atom}
use Rattle.match_options.specs.declared.form_choice.FormChoice.{FormChoice}
use Rattle.word_lists.specs.KeySets.{with_key}
use Rattle.plan_compiler.specs.Lexicon.{holds_key, lexicon}
use Rattle.plan_compiler.specs.NamedLists.{NamedLists, list_named}
use Rattle.plan_compiler.specs.Stops.{item_key, string_keys, source_keys, term_keys, listed_keys, stops_of, has_key, after_keys, is_stop_key}

-- ---- by all forms, or by keys alone

pattern_by_key : (atoms : Option (List Atom)) (w : List ℕ)
    → pattern_passes (record { case = Insensitive; diacritics_sensitive = false }) atoms (forms_as false w) ≡ pattern_passes (record { case = Insensitive; diacritics_sensitive = false }) atoms (forms_of w)
pattern_by_key None w = refl
pattern_by_key (Some atoms) w = refl

by_key : (case : Case) (marks : Bool) (item : Item) (w : List ℕ) → is_by_key (record { case = case; diacritics_sensitive = marks }) ≡ true
    → item_passes (record { case = case; diacritics_sensitive = marks }) item (forms_as false w) ≡ item_passes (record { case = case; diacritics_sensitive = marks }) item (forms_of w)
unfolding item_passes
by_key Insensitive false any_word w h = refl
by_key Insensitive false (word q) w h = refl
by_key Insensitive false (pattern p) w h = pattern_by_key (pattern_in Insensitive false p) w
by_key Insensitive true item w h = cc
by_key Sensitive marks item w h = cc
by_key Lower marks item w h = cc
by_key Upper marks item w h = cc

pub by_forms : (all : Bool) (choice : FormChoice) (item : Item) (w : List ℕ) → (all || is_by_key choice) ≡ true → item_passes choice item (forms_as all w) ≡ item_passes choice item (forms_of w)
by_forms true choice item w h = refl
by_forms false choice item w h = by_key choice.case choice.diacritics_sensitive item w h

case_by_key : (case : Case) (marks : Bool) (w : List ℕ) → is_by_key (record { case = case; diacritics_sensitive = marks }) ≡ true → has_case case (forms_as false w) ≡ has_case case (forms_of w)
case_by_key Insensitive marks w h = refl
case_by_key Sensitive marks w h = cc
case_by_key Lower marks w h = cc
case_by_key Upper marks w h = cc

pub case_by_forms : (all : Bool) (choice : FormChoice) (w : List ℕ) → (all || is_by_key choice) ≡ true → has_case choice.case (forms_as all w) ≡ has_case choice.case (forms_of w)
case_by_forms true choice w h = refl
case_by_forms false choice w h = case_by_key choice.case choice.diacritics_sensitive w h

-- ---- sets of keys

-- one key more
put_key : (q : List ℕ) (keys : List (List ℕ)) (key : List ℕ) → has_key (with_key keys key) q ≡ (has_key keys q || bytes_eq q key)
put_key q keys key = by_test (list_any (bytes_eq key) keys) refl
  where
    there : list_any (bytes_eq key) keys ≡ true → (t : Bool) → bytes_eq q key ≡ t → has_key keys q ≡ (has_key keys q || t)
    there e true f = ap (λ k. list_any (bytes_eq k) keys) ((bytes_eq-Decides q key).0 f) ∙ e ∙ sym (or-true (has_key keys q))
    there e false f = sym (or-false (has_key keys q))

    by_test : (b : Bool) → list_any (bytes_eq key) keys ≡ b → has_key (cond b keys (keys ++ key ∷ [])) q ≡ (has_key keys q || bytes_eq q key)
    by_test true e = there e (bytes_eq q key) refl
    by_test false e = list_any-append (bytes_eq q) keys (key ∷ []) ∙ ap (λ b. has_key keys q || b) (or-false (bytes_eq q key))

put_keys : (q : List ℕ) (keys more : List (List ℕ)) → has_key (fold with_key keys more) q ≡ (has_key keys q || has_key more q)
put_keys q keys [] = sym (or-false (has_key keys q))
put_keys q keys (key ∷ more) = put_keys q (with_key keys key) more ∙ ap (λ b. b || has_key more q) (put_key q keys key) ∙ or_assoc (has_key keys q) (bytes_eq q key) (has_key more q)

-- ---- stop words

map-map : (ws : List (List ℕ)) → map item_key (map word ws) ≡ map key_of ws
map-map [] = refl
map-map (w ∷ ws) = ap (λ keys. key_of w ∷ keys) (map-map ws)

text_has : (text key : List ℕ) → has_key (string_keys text) key ≡ list_any (λ w. bytes_eq (key_of w) key) (words text)
text_has text key =
    ap (λ keys. has_key keys key) (map-map (words text)) ∙ list_any-map (bytes_eq key) key_of (words text)
    ∙ list_any-alike (λ w. bytes_eq key (key_of w)) (λ w. bytes_eq (key_of w) key) (words text) (λ w. bytes_eq_turned key (key_of w))

texts_have : (texts : List (List ℕ)) (key : List ℕ) → has_key (fold with_key [] (flat_map string_keys texts)) key ≡ list_any (λ text. list_any (λ w. bytes_eq (key_of w) key) (words text)) texts
texts_have texts key =
    put_keys key [] (flat_map string_keys texts)
    ∙ list_any-flat_map (bytes_eq key) string_keys texts
    ∙ list_any-alike (λ text. has_key (string_keys text) key) (λ text. list_any (λ w. bytes_eq (key_of w) key) (words text)) texts (λ text. text_has text key)

list_has : (keys : Option (List (List ℕ))) (key : List ℕ) → has_key (listed_keys keys) key ≡ holds_key keys key
list_has None key = refl
list_has (Some keys) key = refl

module _ (lists : NamedLists) where
  source_has : (source : StopSource) (key : List ℕ) → has_key (source_keys lists source) key ≡ source_holds (lexicon lists) source key
  source_has (At name) key = list_has (list_named name lists.stops) key
  source_has (Written texts) key = texts_have texts key

  terms_mean : (terms : List StopTerm) (key : List ℕ) (held : Bool) → fold (after_keys key) held (map (term_keys lists) terms) ≡ fold (after_term (lexicon lists) key) held terms
  terms_mean [] key held = refl
  terms_mean (term ∷ terms) key held =
      ap (λ b. fold (after_keys key) (if term.except then held && not b else held || b) (map (term_keys lists) terms)) (source_has term.source key)
      ∙ terms_mean terms key (after_term (lexicon lists) key held term)

  pub stops_mean : (choice : Option StopChoice) (key : List ℕ) → is_stop_key (stops_of lists choice) key ≡ is_stop_word (lexicon lists) choice key
  stops_mean None key = refl
  stops_mean (Some Stop.No) key = refl
  stops_mean (Some (Stop.Sets terms)) key = terms_mean terms key false
