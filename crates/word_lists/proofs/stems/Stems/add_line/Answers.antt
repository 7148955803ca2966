-- A key that is there is refused, and another pair goes to the end.
use Rattle.std.proofs.Common.{rules, ◌≡◌, ◌∙◌, sym, ap, ℕ, true, false, List, ◌∷◌, ◌++◌, [], map, refl}
use Rattle.std.specs.Prelude.{Some, None, is_some, string_bytes}
use Rattle.std.specs.Option.{option_and_then}
use Rattle.std.specs.String.{string_eq}
use Rattle.std.specs.HashMap.{get}
use Rattle.std.proofs.lemmas.List.{map_push}
use Rattle.ft_base.proofs.Truth.{none_from_test}
use Rattle.indexmap.proofs.CallerLemmas.{insert_entry-new}
use Rattle.text_forms.specs.Forms.{key_of}
use Rattle.word_lists.specs.Words.{only_two, words_of_line}
use Rattle.word_lists.specs.Stems.{Stem, has_stem, with_stem, with_stem_line}
use Rattle.word_lists.specs.View.{bytes_of_both}
use Rattle.word_lists.proofs.StemLemmas.{found_in, stem_added, stem_held, stem_refused}
use Rattle.word_lists.proofs.stems.Stems.add_line.Goals as goal

-- the line has these two words
with_two : (stems : List Stem) (line word stem key stem_key : List ℕ) → only_two (words_of_line line) ≡ Some (word, stem) → key ≡ key_of word → stem_key ≡ key_of stem
    → with_stem_line stems line ≡ with_stem stems (key, stem_key)
with_two stems line word stem key stem_key two k s =
    ap (option_and_then (λ (two : List ℕ × List ℕ). with_stem stems (key_of two.0, key_of two.1))) two
    ∙ ap (λ t. with_stem stems (t, key_of stem)) (sym k)
    ∙ ap (λ t. with_stem stems (key, t)) (sym s)

pub returns-then-contains_key : goal.returns-then-contains_key
returns-then-contains_key c =
    let two : only_two (words_of_line c.args.line.now) ≡ Some (c.in-Some.word.now, c.in-Some.stem.now) = search rules in
    let key = string_bytes c.in_ok-word-2.word in
    let looked : is_some (found_in key c.self.inside.stems.entries) ≡ c.contains_key.result = ap (λ k. is_some (found_in k c.self.inside.stems.entries)) (sym c.as_str.ensures.value) ∙ sym c.contains_key.ensures in
    let held : has_stem key c.args.self.now ≡ true = ap (has_stem key) (sym c.self.view_is) ∙ stem_held key c.self.inside.stems.entries ∙ looked ∙ c.if-contains_key.true in
    with_two c.args.self.now c.args.line.now c.in-Some.word.now c.in-Some.stem.now key (key_of c.in-Some.stem.now) two c.in_ok-word-2.ensures refl
    ∙ stem_refused c.args.self.now (key, key_of c.in-Some.stem.now) held

pub returns : goal.returns
returns c =
    let two : only_two (words_of_line c.args.line.now) ≡ Some (c.in-Some.word.now, c.in-Some.stem.now) = search rules in
    let key = string_bytes c.in_ok-word-2.word in
    let stem = string_bytes c.in_ok-stem.stem in
    let looked : is_some (found_in key c.self.inside.stems.entries) ≡ c.contains_key.result = ap (λ k. is_some (found_in k c.self.inside.stems.entries)) (sym c.as_str.ensures.value) ∙ sym c.contains_key.ensures in
    let fresh : has_stem key c.args.self.now ≡ false = ap (has_stem key) (sym c.self.view_is) ∙ stem_held key c.self.inside.stems.entries ∙ looked ∙ c.if-contains_key.false in
    let absent : get string_eq c.self.inside.stems c.in_ok-word-2.word ≡ None = none_from_test _ (looked ∙ c.if-contains_key.false) in
    with_two c.args.self.now c.args.line.now c.in-Some.word.now c.in-Some.stem.now key stem two c.in_ok-word-2.ensures c.in_ok-stem.ensures
    ∙ stem_added c.args.self.now (key, stem) fresh
    ∙ ap Some (ap (λ s. s ++ (key, stem) ∷ []) (sym c.self.view_is)
    ∙ sym (map_push bytes_of_both c.self.inside.stems.entries (c.in_ok-word-2.word, c.in_ok-stem.stem))
    ∙ sym (ap (map bytes_of_both) (c.in_ok-insert.ensures.entries ∙ insert_entry-new string_eq c.self.inside.stems c.in_ok-word-2.word c.in_ok-stem.stem absent)))
