-- Hits that are told in the sentences and paragraphs of one text, their positions, and the hits that are joined of them.
use Rattle.std.proofs.Common.{◌≡◌, refl, sym, ap, ◌∙◌, ℕ, ◌+◌, ◌≤◌, min, max, Bool, true, false, cond, ◌&&◌, eqb, List, [], ◌∷◌, filter, Option, Some, None, option_map, arith, inl, inr}
use Rattle.std.specs.Prelude.{nat_le, nat_lt, option_to_list}
use Rattle.std.specs.List.{list_all}
use Rattle.std.proofs.lemmas.Bool.{and_from, and_parts, cases_lt, eq-eqb, eqb-true, le-leb, leb-true, lt-leb}
use Rattle.std.proofs.lemmas.Bool.Decides.{nat_tests}
use Rattle.std.proofs.lemmas.List.Folds.{list_all-append}
use Rattle.ft_base.specs.declared.hit.Hit.{Hit}
use Rattle.ft_base.specs.declared.unit.TextUnit.{TextUnit}
use Rattle.ft_base.specs.declared.unit.TextUnit.TheVariants.{Paragraphs, Sentences, Words}
use Rattle.all_matches.specs.Join.{join}
use Rattle.all_matches.specs.Positions.{end_in, start_in}
use Rattle.all_matches.specs.Ways.{Operator, phrase, either, together, apart, negated, through_filter}
use Rattle.phrase_merges.specs.Near.{DoRise, Units, fits_field, hulls_of, is_told, phrase_hits_of}
use Rattle.phrase_merges.specs.NearTrees.{filter_of}
use Rattle.phrase_merges.specs.Rows.{goes_on, is_rising}
use Rattle.phrase_merges.specs.declared.edge.Edge.TheVariants.{End}
use Rattle.phrase_merges.specs.declared.field.Field.{Field}
use Rattle.phrase_merges.specs.declared.field.Field.TheVariants.{Window, SameSentence, SameParagraph}
use Rattle.phrase_merges.specs.declared.position.Position.{Position}
use Rattle.phrase_merges.specs.steps.Passing.{earlier, end_of, greater, later, latest_before, number_in, position_in, size_of, start_of, start_within, unit_of}
use Rattle.phrase_merges.proofs.AheadLemmas.{goes_at}
use Rattle.phrase_merges.proofs.ChoiceLemmas.{all_with}
use Rattle.phrase_merges.proofs.HullLemmas.{all_made}
use Rattle.phrase_merges.proofs.StartLemmas.{joined_with, keep, smaller}

-- ---- lists of which a part is kept

pub greater_none : (a : Option ℕ) → a ≡ greater a None
greater_none None = refl
greater_none (Some a) = refl

pub all_kept : {A : Type 0} (p q : A → Bool) (xs : List A) → list_all p xs ≡ true → list_all p (filter q xs) ≡ true
all_kept p q [] h = refl
all_kept p q (x ∷ xs) h = by (all_kept p q xs parts.1) (q x)
  where
    parts : (p x ≡ true) × (list_all p xs ≡ true)
    parts = and_parts (p x) (list_all p xs) h

    by : list_all p (filter q xs) ≡ true → (kept : Bool) → list_all p (cond kept (x ∷ filter q xs) (filter q xs)) ≡ true
    by rest true = λ i. parts.0 i && rest i
    by rest false = rest

pub rising_kept : (q : Hit → Bool) (hits : List Hit) → is_rising hits ≡ true → is_rising (filter q hits) ≡ true
rising_kept q [] h = refl
rising_kept q (hit ∷ hits) h = by (all_kept (goes_on hit) q hits parts.0) (rising_kept q hits parts.1) (q hit)
  where
    parts : (list_all (goes_on hit) hits ≡ true) × (is_rising hits ≡ true)
    parts = and_parts (list_all (goes_on hit) hits) (is_rising hits) h

    by : list_all (goes_on hit) (filter q hits) ≡ true → is_rising (filter q hits) ≡ true → (kept : Bool) → is_rising (cond kept (hit ∷ filter q hits) (filter q hits)) ≡ true
    by first rest true = λ i. first i && rest i
    by first rest false = rest

-- of a rising list, what is behind a hit that is left is left
pub all_left : (place : ℕ) (hit : Hit) (hits : List Hit) → is_rising (hit ∷ hits) ≡ true → place ≤ hit.to → list_all (λ other. nat_le place other.to) (hit ∷ hits) ≡ true
all_left place hit hits h le =
    and_from (nat_le place hit.to) (list_all (λ other. nat_le place other.to) hits) (le-leb place hit.to le)
    (all_with (goes_on hit) (λ other. nat_le place other.to) hits (λ other on. let after = goes_at End Words hit other on in le-leb place other.to (omega (arith, le, after)))
    (and_parts (list_all (goes_on hit) hits) (is_rising hits) h).0)

pub none_before : (place : ℕ) (hits : List Hit) → list_all (λ hit. nat_le place hit.to) hits ≡ true → latest_before place hits ≡ None
none_before place [] h = refl
none_before place (hit ∷ hits) h =
    let parts = and_parts (nat_le place hit.to) (list_all (λ other. nat_le place other.to) hits) h in
    let later_end = leb-true place hit.to parts.0 in
    ap (λ t. cond t (greater (Some hit.from) (latest_before place hits)) (latest_before place hits)) (le-ltb place hit.to later_end)
    ∙ none_before place hits parts.1
  where
    le-ltb : (a b : ℕ) → a ≤ b → nat_lt b a ≡ false
    le-ltb a b le = grind (arith, nat_tests, le)

-- ---- positions of words

module _ (units : Units) where
  abbrev pub at : Option ℕ → Option Position
  at number = option_map (position_in units) number

  pub later_at : (a b : Option ℕ) → later (at a) (at b) ≡ at (greater a b)
  later_at None b = refl
  later_at (Some a) None = refl
  later_at (Some a) (Some b) =
      elim (cases_lt a b) [
        | inl less ↦
            let is : max a b ≡ b = omega (arith, less) in
            ap (λ t. cond t (at (Some a)) (at (Some b))) (lt-leb b a less) ∙ ap (λ n. at (Some n)) (sym is)
        | inr le ↦
            let is : max a b ≡ a = omega (arith, le) in
            ap (λ t. cond t (at (Some a)) (at (Some b))) (le-leb b a le) ∙ ap (λ n. at (Some n)) (sym is)
      ]

  pub earlier_at : (a b : Option ℕ) → earlier (at a) (at b) ≡ at (smaller a b)
  earlier_at None b = refl
  earlier_at (Some a) None = refl
  earlier_at (Some a) (Some b) =
      elim (cases_lt b a) [
        | inl less ↦
            let is : min a b ≡ b = omega (arith, less) in
            ap (λ t. cond t (at (Some a)) (at (Some b))) (lt-leb a b less) ∙ ap (λ n. at (Some n)) (sym is)
        | inr le ↦
            let is : min a b ≡ a = omega (arith, le) in
            ap (λ t. cond t (at (Some a)) (at (Some b))) (le-leb a b le) ∙ ap (λ n. at (Some n)) (sym is)
      ]

  -- ---- windows and scopes

  -- the number of the unit in which a word is
  abbrev pub number_of : TextUnit → ℕ → ℕ
  number_of unit word = number_in unit (position_in units word)

  -- whether what begins and ends at these words lies in a field
  abbrev pub room_in : Field → ℕ → ℕ → Bool
  room_in field end start = nat_lt (number_of (unit_of field) end) (number_of (unit_of field) start + size_of field)

  pub start_within_at : (field : Field) (end : ℕ) (start : Option ℕ) → start_within field (position_in units end) (at start) ≡ at (keep (room_in field end) start)
  start_within_at field end None = refl
  start_within_at field end (Some start) = by (room_in field end start)
    where
      by : (room : Bool) → cond room (at (Some start)) None ≡ at (cond room (Some start) None)
      by true = refl
      by false = refl

  module _ (hit : Hit) (told : is_told units hit ≡ true) where
    abbrev sentences : Bool
    sentences = eqb hit.sent_from (units.sentence hit.from) && eqb hit.sent_to (units.sentence hit.to)

    abbrev paragraphs : Bool
    paragraphs = eqb hit.para_from (units.paragraph hit.from) && eqb hit.para_to (units.paragraph hit.to)

    pub told_from : hit.from ≤ hit.to
    told_from = leb-true hit.from hit.to (and_parts (nat_le hit.from hit.to) (sentences && paragraphs) told).0

    told_sentences : (hit.sent_from ≡ units.sentence hit.from) × (hit.sent_to ≡ units.sentence hit.to)
    told_sentences =
        let both = (and_parts sentences paragraphs (and_parts (nat_le hit.from hit.to) (sentences && paragraphs) told).1).0 in
        let parts = and_parts (eqb hit.sent_from (units.sentence hit.from)) (eqb hit.sent_to (units.sentence hit.to)) both in
        (eqb-true hit.sent_from (units.sentence hit.from) parts.0, eqb-true hit.sent_to (units.sentence hit.to) parts.1)

    told_paragraphs : (hit.para_from ≡ units.paragraph hit.from) × (hit.para_to ≡ units.paragraph hit.to)
    told_paragraphs =
        let both = (and_parts sentences paragraphs (and_parts (nat_le hit.from hit.to) (sentences && paragraphs) told).1).1 in
        let parts = and_parts (eqb hit.para_from (units.paragraph hit.from)) (eqb hit.para_to (units.paragraph hit.to)) both in
        (eqb-true hit.para_from (units.paragraph hit.from) parts.0, eqb-true hit.para_to (units.paragraph hit.to) parts.1)

    pub start_told : start_of hit ≡ position_in units hit.from
    start_told = λ i. record { word = hit.from; sentence = told_sentences.0 i; paragraph = told_paragraphs.0 i }

    pub end_told : end_of hit ≡ position_in units hit.to
    end_told = λ i. record { word = hit.to; sentence = told_sentences.1 i; paragraph = told_paragraphs.1 i }

    pub start_in_told : (unit : TextUnit) → start_in unit hit ≡ number_of unit hit.from
    start_in_told Words = refl
    start_in_told Sentences = told_sentences.0
    start_in_told Paragraphs = told_paragraphs.0

    pub end_in_told : (unit : TextUnit) → end_in unit hit ≡ number_of unit hit.to
    end_in_told Words = refl
    end_in_told Sentences = told_sentences.1
    end_in_told Paragraphs = told_paragraphs.1

    pub fits_told : (field : Field) → fits_field (filter_of field) hit ≡ room_in field hit.to hit.from
    fits_told (Window size unit) = λ i. nat_lt (end_in_told unit i) (start_in_told unit i + size)
    fits_told SameSentence = λ i. nat_lt (end_in_told Sentences i) (start_in_told Sentences i + 1)
    fits_told SameParagraph = λ i. nat_lt (end_in_told Paragraphs i) (start_in_told Paragraphs i + 1)

  -- ---- joined hits are told as well

  pub number_rises : DoRise units → (unit : TextUnit) (a b : ℕ) → a ≤ b → number_of unit a ≤ number_of unit b
  number_rises rise Words a b le = le
  number_rises rise Sentences a b le = rise.sentences a b le
  number_rises rise Paragraphs a b le = rise.paragraphs a b le

least_number : (f : ℕ → ℕ) → ((a b : ℕ) → a ≤ b → f a ≤ f b) → (a b : ℕ) → min (f a) (f b) ≡ f (min a b)
least_number f rises a b =
    elim (cases_lt a b) [
      | inl less ↦
          let is : min a b ≡ a = omega (arith, less) in
          let order = rises a b (omega (arith, less)) in
          let first : min (f a) (f b) ≡ f a = omega (arith, order) in
          first ∙ ap f (sym is)
      | inr le ↦
          let is : min a b ≡ b = omega (arith, le) in
          let order = rises b a le in
          let second : min (f a) (f b) ≡ f b = omega (arith, order) in
          second ∙ ap f (sym is)
    ]

greatest_number : (f : ℕ → ℕ) → ((a b : ℕ) → a ≤ b → f a ≤ f b) → (a b : ℕ) → max (f a) (f b) ≡ f (max a b)
greatest_number f rises a b =
    elim (cases_lt a b) [
      | inl less ↦
          let is : max a b ≡ b = omega (arith, less) in
          let order = rises a b (omega (arith, less)) in
          let second : max (f a) (f b) ≡ f b = omega (arith, order) in
          second ∙ ap f (sym is)
      | inr le ↦
          let is : max a b ≡ a = omega (arith, le) in
          let order = rises b a le in
          let first : max (f a) (f b) ≡ f a = omega (arith, order) in
          first ∙ ap f (sym is)
    ]

-- a test that joined hits pass where both do
abbrev pub Joins : (Hit → Bool) → Type 0
Joins p = (a b : Hit) → p a ≡ true → p b ≡ true → list_all p (option_to_list (join (a ∷ b ∷ []))) ≡ true

pub hulls_all : (p : Hit → Bool) → Joins p → (operator : Operator) → list_all p (phrase_hits_of operator) ≡ true → list_all p (hulls_of operator) ≡ true
unfolding phrase_hits_of hulls_of
hulls_all p joins (phrase found) h = h
hulls_all p joins (either left right) h =
    let parts = and_parts (list_all p (phrase_hits_of left)) (list_all p (phrase_hits_of right)) (sym (list_all-append p (phrase_hits_of left) (phrase_hits_of right)) ∙ h) in
    list_all-append p (hulls_of left) (hulls_of right) ∙ (λ i. hulls_all p joins left parts.0 i && hulls_all p joins right parts.1 i)
hulls_all p joins (together left right) h =
    let parts = and_parts (list_all p (phrase_hits_of left)) (list_all p (phrase_hits_of right)) (sym (list_all-append p (phrase_hits_of left) (phrase_hits_of right)) ∙ h) in
    let rights = hulls_all p joins right parts.1 in
    all_made p p (joined_with (hulls_of right)) (hulls_of left)
    (λ a ha. all_made p p (λ b. option_to_list (join (a ∷ b ∷ []))) (hulls_of right) (λ b hb. joins a b ha hb) rights) (hulls_all p joins left parts.0)
hulls_all p joins (apart left right) h = refl
hulls_all p joins (negated operand) h = refl
hulls_all p joins (through_filter operand kind) h = all_kept p (fits_field kind) (hulls_of operand) (hulls_all p joins operand h)

pub told_joins : (units : Units) → DoRise units → Joins (is_told units)
told_joins units rise a b ha hb =
    let a_from = told_from units a ha in
    let b_from = told_from units b hb in
    let a_sentences = told_sentences units a ha in
    let b_sentences = told_sentences units b hb in
    let a_paragraphs = told_paragraphs units a ha in
    let b_paragraphs = told_paragraphs units b hb in
    let from : nat_le (min a.from b.from) (max a.to b.to) ≡ true = le-leb (min a.from b.from) (max a.to b.to) (omega (arith, a_from, b_from)) in
    let sent_from = (λ i. min (a_sentences.0 i) (b_sentences.0 i)) ∙ least_number units.sentence rise.sentences a.from b.from in
    let sent_to = (λ i. max (a_sentences.1 i) (b_sentences.1 i)) ∙ greatest_number units.sentence rise.sentences a.to b.to in
    let para_from = (λ i. min (a_paragraphs.0 i) (b_paragraphs.0 i)) ∙ least_number units.paragraph rise.paragraphs a.from b.from in
    let para_to = (λ i. max (a_paragraphs.1 i) (b_paragraphs.1 i)) ∙ greatest_number units.paragraph rise.paragraphs a.to b.to in
    let s_from = eq-eqb _ _ sent_from in
    let s_to = eq-eqb _ _ sent_to in
    let p_from = eq-eqb _ _ para_from in
    let p_to = eq-eqb _ _ para_to in
    λ i. (from i && ((s_from i && s_to i) && (p_from i && p_to i))) && true
