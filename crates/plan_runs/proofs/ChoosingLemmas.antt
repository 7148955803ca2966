-- The terms whose words pass a test: number by number, and by the key that the words have.
use Rattle.std.proofs.Common.{◌≡◌, refl, sym, ap, ◌∙◌, ℕ, ◌+◌, ◌-◌, ◌≤◌, ◌==◌, Bool, true, false, ◌&&◌, cond, length, List, [], ◌∷◌, ◌++◌, Some, None, arith}
use Rattle.std.specs.Prelude.{bytes_eq}
use Rattle.std.specs.List.{filter, range_with_len}
use Rattle.std.proofs.lemmas.Bool.{and_parts}
use Rattle.std.proofs.lemmas.List.{map-id}
use Rattle.std.proofs.lemmas.List.Elements.{filter-append}
use Rattle.std.proofs.lemmas.List.FromFn.{map-range_with_len_more}
use Rattle.std.proofs.lemmas.Option.{same_Some, none-some}
use Rattle.std.proofs.lemmas.Slice.Eq.{bytes_eq-Decides}
use Rattle.text_forms.specs.Forms.{key_of}
use Rattle.ft_base.specs.declared.span.Span.{Span}
use Rattle.index_meaning.specs.Entries.{Entry, entry, found, same_keys, smaller_keys, span}
use Rattle.term_dict.specs.declared.places.Place.TheVariants.{AfterKey}
use Rattle.term_dict.proofs.RankLemmas.{rank_within, upto_key}
use Rattle.match_options.specs.TokenTest.{has_case, same_form}
use Rattle.match_options.specs.WordTests as tests
use Rattle.match_options.specs.declared.word_forms.Forms.{Forms}
use Rattle.match_options.specs.declared.word_matching.WordTest.{WordTest}
use Rattle.match_options.specs.declared.word_matching.WordTest.TheVariants as The
use Rattle.word_lists.specs.Stems.{Stem}
use Rattle.plan_kinds.specs.steps.AskedKeys.{asked_key, key_of_forms}
use Rattle.plan_compiler.specs.ItemTests.{passes}
use Rattle.plan_runs.specs.steps.OpenedItems.{word_test}
use Rattle.plan_compiler.specs.declared.item_matching.ItemTest.{ItemTest}
use Rattle.plan_compiler.specs.declared.item_matching.ItemTest.TheVariants as Test
use Rattle.plan_compiler.specs.declared.looks.Looks.{Looks}

-- one number more
range_more : (from n : ℕ) → range_with_len from (n + 1) ≡ range_with_len from n ++ (from + n) ∷ []
range_more from n = sym (map-id (range_with_len from (n + 1))) ∙ map-range_with_len_more (λ m. m) from n (from + n) refl ∙ ap (λ ns. ns ++ (from + n) ∷ []) (map-id (range_with_len from n))

pub number_more : (p : ℕ → Bool) (from number : ℕ) → from ≤ number
    → filter p (range_with_len from (number + 1 - from)) ≡ filter p (range_with_len from (number - from)) ++ cond (p number) (number ∷ []) []
number_more p from number h =
    let count : number + 1 - from ≡ number - from + 1 = omega arith in
    let last : from + (number - from) ≡ number = omega arith in
    ap (λ n. filter p (range_with_len from n)) count
    ∙ ap (filter p) (range_more from (number - from))
    ∙ filter-append p (range_with_len from (number - from)) ((from + (number - from)) ∷ [])
    ∙ ap (λ m. filter p (range_with_len from (number - from)) ++ cond (p m) (m ∷ []) []) last

-- of the first numbers
pub first_more : (p : ℕ → Bool) (number : ℕ) → filter p (range_with_len 0 (number + 1)) ≡ filter p (range_with_len 0 number) ++ cond (p number) (number ∷ []) []
first_more p number =
    let more : number + 1 ≡ number + 1 - 0 = omega arith in
    let all : number - 0 ≡ number = omega arith in
    ap (λ n. filter p (range_with_len 0 n)) more
    ∙ number_more p 0 number (omega arith)
    ∙ ap (λ n. filter p (range_with_len 0 n) ++ cond (p number) (number ∷ []) []) all

-- ---- the key of words that pass

looked_at_key : (all : Bool) (word : List ℕ) → (tests.forms_as all word).key ≡ key_of word
looked_at_key true word = refl
looked_at_key false word = refl

form_key : (test : WordTest) (key : List ℕ) (forms : Forms) → key_of_forms test ≡ Some key → tests.passes test forms ≡ true → forms.key ≡ key
unfolding tests.passes
form_key The.Any key forms e h = absurd (none-some key e)
form_key (The.Same choice query) key forms e h =
    let both = (and_parts (bytes_eq query.key forms.key && same_form choice.case choice.diacritics_sensitive query forms) (has_case choice.case forms) h).0 in
    let first = (and_parts (bytes_eq query.key forms.key) (same_form choice.case choice.diacritics_sensitive query forms) both).0 in
    sym ((bytes_eq-Decides query.key forms.key).0 first) ∙ same_Some query.key key e
form_key (The.Covered choice wild) key forms e h = absurd (none-some key e)
form_key The.Never key forms e h = absurd (none-some key e)

pub asked : (looks : Looks) (stems : List Stem) (test : ItemTest) (key : List ℕ) → asked_key test ≡ Some key → (word : List ℕ) → word_test looks stems test word ≡ true → key_of word ≡ key
unfolding passes
asked looks stems Test.Any key e word h = absurd (none-some key e)
asked looks stems (Test.ByForms test) key e word h = sym (looked_at_key looks.all_forms word) ∙ form_key test key (tests.forms_as looks.all_forms word) e h
asked looks stems (Test.ByStem stem case) key e word h = absurd (none-some key e)

-- ---- the numbers of a key are those of terms

pub found_within : (key : List ℕ) (es : List Entry) (s : Span) → found key es ≡ Some s → (s.from ≤ s.to) × (s.to ≤ length es)
found_within key es s is =
    elim (same_keys key es == 0) as (λ b. cond b None (Some (span (smaller_keys key es) (smaller_keys key es + same_keys key es))) ≡ Some s → (s.from ≤ s.to) × (s.to ≤ length es)) [
      | true ↦ λ h. absurd (none-some s h)
      | false ↦ λ h.
          let e = same_Some (span (smaller_keys key es) (smaller_keys key es + same_keys key es)) s h in
          let from = ap (λ (t : Span). t.from) e in
          let to = ap (λ (t : Span). t.to) e in
          let all = upto_key (entry key []) es in
          let within = rank_within AfterKey (entry key []) es in
          (omega arith, omega arith)
    ] is
