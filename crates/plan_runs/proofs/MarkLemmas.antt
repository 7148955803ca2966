-- Terms that are marked by their keys: they are enough where the words that pass have one stem.
use Rattle.std.proofs.Common.{◌≡◌, refl, sym, ap, ◌∙◌, ℕ, ◌<◌, ◌+◌, Bool, true, false, cond, List, [], ◌∷◌, ◌++◌, append-nil, length, Bor, Some, None, arith}
use Rattle.std.specs.Prelude.{bytes_eq}
use Rattle.std.specs.List.{range_with_len}
use Rattle.std.proofs.lemmas.Bool.{and_parts, false_from_ne_true, true≢false}
use Rattle.std.proofs.lemmas.Option.{same_Some, none-some}
use Rattle.std.proofs.lemmas.Slice.Eq.{bytes_eq-Decides}
use Rattle.ft_base.proofs.Truth.{bytes_eq_turned}
use Rattle.ft_base.specs.declared.span.Span.{Span}
use Rattle.text_forms.specs.Forms.{key_of}
use Rattle.index_meaning.specs.Documents.{Numbered}
use Rattle.index_meaning.specs.Entries.{Entry, found}
use Rattle.index_versions.specs.Versions.{term_at, terms_of}
use Rattle.match_options.specs.TokenTest.{has_case}
use Rattle.match_options.specs.WordTests.{forms_as}
use Rattle.word_lists.specs.Stems.{AreKeysOf, Stem, is_one_of, stem_in}
use Rattle.plan_compiler.specs.ItemTests.{passes}
use Rattle.plan_compiler.specs.TextWords.{stem_as}
use Rattle.plan_compiler.specs.declared.item_matching.ItemTest.{ItemTest}
use Rattle.plan_compiler.specs.declared.item_matching.ItemTest.TheVariants as Test
use Rattle.plan_compiler.specs.declared.looks.Looks.{Looks}
use Rattle.plan_runs.specs.steps.ChosenTerms.{passing}
use Rattle.plan_runs.specs.steps.MarkedTerms.{MarksAll, MarksBetween, asked_stem, is_marked}
use Rattle.plan_runs.specs.steps.OpenedItems.{word_test}
use Rattle.plan_runs.proofs.ChoosingLemmas.{first_more}
use Rattle.plan_runs.proofs.TermLaws.{number_found, term_keyed}

-- ---- the stem of words that pass

pub stem_asked : (looks : Looks) (stems : List Stem) (test : ItemTest) (stem : List ℕ) → asked_stem looks test ≡ Some stem → (word : List ℕ) → word_test looks stems test word ≡ true
    → bytes_eq (stem_in stems (key_of word)) stem ≡ true
unfolding passes
stem_asked looks stems Test.Any stem e word h = absurd (none-some stem e)
stem_asked looks stems (Test.ByForms test) stem e word h = absurd (none-some stem e)
stem_asked looks stems (Test.ByStem asked case) stem e word h = go looks.stems refl
  where
    go : (looked : Bool) → looks.stems ≡ looked → bytes_eq (stem_in stems (key_of word)) stem ≡ true
    go false is = absurd (none-some stem (sym (ap (λ b. cond b (Some asked) None) is) ∙ e))
    go true is =
        let same = same_Some asked stem (sym (ap (λ b. cond b (Some asked) None) is) ∙ e) in
        let has : bytes_eq asked (stem_as looks.stems stems (key_of word)) ≡ true =
        (and_parts (bytes_eq asked (stem_as looks.stems stems (key_of word))) (has_case case (forms_as looks.all_forms word)) h).0 in
        bytes_eq_turned (stem_in stems (key_of word)) stem
        ∙ ap (λ s. bytes_eq s (stem_in stems (key_of word))) (sym same)
        ∙ ap (λ b. bytes_eq asked (stem_as b stems (key_of word))) (sym is)
        ∙ has

-- where the terms of all keys with the stem are marked, those of words that pass are
pub marks_enough : (version : List Numbered) (stems : List Stem) (stem : List ℕ) (keys : List (Bor (List ℕ))) (marks : List Bool) (test : List ℕ → Bool)
    → ((word : List ℕ) → test word ≡ true → bytes_eq (stem_in stems (key_of word)) stem ≡ true) → AreKeysOf stems stem keys
    → MarksAll (λ (term : Entry). is_one_of keys term.key) version marks → MarksAll (λ (term : Entry). test term.word) version marks
marks_enough version stems stem keys marks test one of all = λ number within passes.
    let term = term_at number version in
    all number within (of term.key ∙ ap (λ key. bytes_eq (stem_in stems key) stem) (term_keyed version number within) ∙ one term.word passes)

-- ---- the terms of a key

pub key_marked : (version : List Numbered) (key : List ℕ) (numbers : Span) (marks : List Bool) → found key (terms_of version) ≡ Some numbers → MarksBetween numbers.from numbers.to marks
    → MarksAll (λ (term : Entry). bytes_eq term.key key) version marks
key_marked version key numbers marks is all = λ number below same.
    let there = number_found version key number below ((bytes_eq-Decides (term_at number version).key key).0 same) in
    let span = same_Some numbers there.0 (sym is ∙ there.1) in
    all number
    (omega (arith, there.2, ap (λ (s : Span). s.from) span))
    (omega (arith, there.3, ap (λ (s : Span). s.to) span))

pub no_term : (version : List Numbered) (key : List ℕ) (marks : List Bool) → found key (terms_of version) ≡ None → MarksAll (λ (term : Entry). bytes_eq term.key key) version marks
no_term version key marks none = λ number below same.
    let there = number_found version key number below ((bytes_eq-Decides (term_at number version).key key).0 same) in
    absurd (none-some there.0 (sym none ∙ there.1))

-- ---- unmarked terms don't pass

pub unmarked_more : (version : List Numbered) (test : List ℕ → Bool) (marks : List Bool) (number : ℕ) → MarksAll (λ (term : Entry). test term.word) version marks
    → number < length (terms_of version) → is_marked marks number ≡ false → passing test version (range_with_len 0 (number + 1)) ≡ passing test version (range_with_len 0 number)
unmarked_more version test marks number all within unmarked =
    let fails : test (term_at number version).word ≡ false =
    false_from_ne_true (test (term_at number version).word) (λ passes. true≢false (sym (all number within passes) ∙ unmarked)) in
    first_more (λ n. test (term_at n version).word) number
    ∙ ap (λ b. passing test version (range_with_len 0 number) ++ cond b (number ∷ []) []) fails
    ∙ append-nil (passing test version (range_with_len 0 number))
