-- A pass through the ends of a tree, from the first to the last.
use Rattle.std.proofs.Common.{◌≡◌, refl, sym, ap, subst, ◌∙◌, ℕ, suc, ◌-◌, ◌<◌, max, Bool, true, false, cond, ◌&&◌, List, [], ◌∷◌, ◌++◌, map, Option, Some, None, option_map, arith}
use Rattle.std.specs.Prelude.{nat_le, nat_lt}
use Rattle.std.specs.List.{list_all}
use Rattle.std.specs.Option.{is_some}
use Rattle.std.proofs.lemmas.Bool.{and_from, and_parts, le-leb, lt-ltb, ltb-true, true≢false}
use Rattle.std.proofs.lemmas.Grind.{flat_map-append}
use Rattle.std.proofs.lemmas.List.Folds.{flat_map-map, list_all-append, list_all-map}
use Rattle.std.proofs.lemmas.Option.{none-some}
use Rattle.ft_base.specs.Lists.{is_not_empty}
use Rattle.ft_base.specs.declared.hit.Hit.{Hit}
use Rattle.ft_base.specs.declared.span.Span.{Span}
use Rattle.ft_base.specs.declared.unit.TextUnit.TheVariants.{Paragraphs, Sentences, Words}
use Rattle.all_matches.specs.Boolean.{satisfied}
use Rattle.all_matches.specs.Ways.{either, matches_of, phrase, through_filter, together}
use Rattle.ft_operators.specs.Phrases.{PhraseAims, PhraseState, aimed_at}
use Rattle.ft_operators.specs.Standing.{one_aims, two_aims}
use Rattle.phrase_merges.specs.Choices.{ends_after}
use Rattle.phrase_merges.specs.Near.{AreTold, DoRise, Units, hulls_of, is_field, is_near, is_told, phrase_hits_of}
use Rattle.phrase_merges.specs.NearTrees.{Passage, lists_at, either_at, both_at, within_at, aims_at, all_lists, filter_of, lists_aims}
use Rattle.phrase_merges.specs.Rows.{hits_there, is_rising}
use Rattle.phrase_merges.specs.declared.edge.Edge.TheVariants.{End}
use Rattle.phrase_merges.specs.declared.field.Field.{Field}
use Rattle.phrase_merges.specs.declared.field.Field.TheVariants.{Window, SameSentence, SameParagraph}
use Rattle.phrase_merges.specs.declared.passed.Passed.{Passed}
use Rattle.phrase_merges.specs.declared.position.Position.{Position}
use Rattle.phrase_merges.specs.steps.Passing.{IsAimed, IsMoved, aimed, before, behind, greater, latest_before, list_before, next_at, operator_at, position_in, start_at, start_before, states_at}
use Rattle.phrase_merges.proofs.AheadLemmas.{from_zero}
use Rattle.phrase_merges.proofs.BeforeLemmas.{all_rise, hits_at, step_is, tells_before}
use Rattle.phrase_merges.proofs.ChoiceLemmas.{all_sure, all_with}
use Rattle.phrase_merges.proofs.HullLemmas.{ends_well, near_is}
use Rattle.phrase_merges.proofs.NextLemmas.{AreAhead, next_is}
use Rattle.phrase_merges.proofs.PassageLemmas.{map_map}
use Rattle.phrase_merges.proofs.ToldLemmas.{Joins, end_in_told, hulls_all, none_before, start_in_told, told_from}

-- ---- what stays, whatever the place

pub aims_before : (units : Units) (place : ℕ) (passage : Passage) → aims_at (before units place passage) ≡ aims_at passage
unfolding aims_at before
aims_before units place (lists_at states start) = ap lists_aims (map_map (λ (s : PhraseState). s.aims) (list_before place) states)
aims_before units place (either_at left right) = λ i. two_aims either (aims_before units place left i) (aims_before units place right i)
aims_before units place (both_at left right) = λ i. two_aims together (aims_before units place left i) (aims_before units place right i)
aims_before units place (within_at operand field start) = λ i. one_aims (λ operator. through_filter operator (filter_of field)) (aims_before units place operand i)

pub lists_before : (units : Units) (place : ℕ) (passage : Passage) → all_lists (before units place passage) ≡ all_lists passage
unfolding all_lists before
lists_before units place (lists_at states start) = map_map (λ (s : PhraseState). s.aims) (list_before place) states
lists_before units place (either_at left right) = λ i. lists_before units place left i ++ lists_before units place right i
lists_before units place (both_at left right) = λ i. lists_before units place left i ++ lists_before units place right i
lists_before units place (within_at operand field start) = lists_before units place operand

pub aims_aimed : (doc : ℕ) (span : Span) (passage : Passage) → aims_at (aimed doc span passage) ≡ aims_at passage
unfolding aims_at aimed
aims_aimed doc span (lists_at states start) = ap lists_aims (map_map (λ (s : PhraseState). s.aims) (aimed_at doc span) states)
aims_aimed doc span (either_at left right) = λ i. two_aims either (aims_aimed doc span left i) (aims_aimed doc span right i)
aims_aimed doc span (both_at left right) = λ i. two_aims together (aims_aimed doc span left i) (aims_aimed doc span right i)
aims_aimed doc span (within_at operand field start) = λ i. one_aims (λ operator. through_filter operator (filter_of field)) (aims_aimed doc span operand i)

pub lists_aimed : (doc : ℕ) (span : Span) (passage : Passage) → all_lists (aimed doc span passage) ≡ all_lists passage
unfolding all_lists aimed
lists_aimed doc span (lists_at states start) = map_map (λ (s : PhraseState). s.aims) (aimed_at doc span) states
lists_aimed doc span (either_at left right) = λ i. lists_aimed doc span left i ++ lists_aimed doc span right i
lists_aimed doc span (both_at left right) = λ i. lists_aimed doc span left i ++ lists_aimed doc span right i
lists_aimed doc span (within_at operand field start) = lists_aimed doc span operand

-- ---- where the pass begins

pub operator_aimed : (doc : ℕ) (span : Span) (passage : Passage) → operator_at (aimed doc span passage) ≡ (aims_at passage).operators doc span
unfolding operator_at aimed aims_at
operator_aimed doc span (lists_at states start) =
    ap phrase (flat_map-map (λ (s : PhraseState). s.hits) (aimed_at doc span) states ∙ sym (flat_map-map (λ (aims : PhraseAims). aims.hits doc span) (λ s. s.aims) states))
operator_aimed doc span (either_at left right) = λ i. either (operator_aimed doc span left i) (operator_aimed doc span right i)
operator_aimed doc span (both_at left right) = λ i. together (operator_aimed doc span left i) (operator_aimed doc span right i)
operator_aimed doc span (within_at operand field start) = λ i. through_filter (operator_aimed doc span operand i) (filter_of field)

pub hits_aimed : (doc : ℕ) (span : Span) (passage : Passage) → hits_there doc span (all_lists passage) ≡ hits_at (aimed doc span passage)
unfolding operator_at aimed all_lists phrase_hits_of
hits_aimed doc span (lists_at states start) =
    flat_map-map (λ (aims : PhraseAims). aims.hits doc span) (λ s. s.aims) states ∙ sym (flat_map-map (λ (s : PhraseState). s.hits) (aimed_at doc span) states)
hits_aimed doc span (either_at left right) =
    flat_map-append (λ (aims : PhraseAims). aims.hits doc span) (all_lists left) (all_lists right) ∙ (λ i. hits_aimed doc span left i ++ hits_aimed doc span right i)
hits_aimed doc span (both_at left right) =
    flat_map-append (λ (aims : PhraseAims). aims.hits doc span) (all_lists left) (all_lists right) ∙ (λ i. hits_aimed doc span left i ++ hits_aimed doc span right i)
hits_aimed doc span (within_at operand field start) = hits_aimed doc span operand

abbrev rise_at : ℕ → Span → List PhraseAims → Bool
rise_at doc span lists = list_all (λ aims. is_rising (aims.hits doc span)) lists

pub rising_aimed : (doc : ℕ) (span : Span) (passage : Passage) → rise_at doc span (all_lists passage) ≡ all_rise (states_at (aimed doc span passage))
unfolding states_at aimed all_lists
rising_aimed doc span (lists_at states start) =
    list_all-map (λ (aims : PhraseAims). is_rising (aims.hits doc span)) (λ s. s.aims) states ∙ sym (list_all-map (λ (s : PhraseState). is_rising s.hits) (aimed_at doc span) states)
rising_aimed doc span (either_at left right) =
    list_all-append (λ (aims : PhraseAims). is_rising (aims.hits doc span)) (all_lists left) (all_lists right)
    ∙ (λ i. rising_aimed doc span left i && rising_aimed doc span right i)
    ∙ sym (list_all-append (λ (s : PhraseState). is_rising s.hits) (states_at (aimed doc span left)) (states_at (aimed doc span right)))
rising_aimed doc span (both_at left right) =
    list_all-append (λ (aims : PhraseAims). is_rising (aims.hits doc span)) (all_lists left) (all_lists right)
    ∙ (λ i. rising_aimed doc span left i && rising_aimed doc span right i)
    ∙ sym (list_all-append (λ (s : PhraseState). is_rising s.hits) (states_at (aimed doc span left)) (states_at (aimed doc span right)))
rising_aimed doc span (within_at operand field start) = rising_aimed doc span operand

none_yet : (hits : List Hit) → None ≡ latest_before 0 hits
none_yet hits = sym (none_before 0 hits (all_sure (λ hit. nat_le 0 hit.to) hits (λ hit. le-leb 0 hit.to (omega arith))))

-- nothing ends before the first place
lists_yet : (doc : ℕ) (span : Span) (states : List PhraseState) → map (aimed_at doc span) states ≡ map (list_before 0) (map (aimed_at doc span) states)
lists_yet doc span [] = refl
lists_yet doc span (s ∷ states) =
    λ i. record { aims = s.aims; hits = s.aims.hits doc span; rest = sym (from_zero End Words (s.aims.hits doc span)) i } ∷ lists_yet doc span states i

pub before_all : (units : Units) (doc : ℕ) (span : Span) (passage : Passage) → aimed doc span passage ≡ before units 0 (aimed doc span passage)
unfolding before aimed
before_all units doc span (lists_at states start) =
    λ i. lists_at (lists_yet doc span states i) (option_map (position_in units) (none_yet (hulls_of (operator_at (lists_at (map (aimed_at doc span) states) None))) i))
before_all units doc span (either_at left right) = λ i. either_at (before_all units doc span left i) (before_all units doc span right i)
before_all units doc span (both_at left right) = λ i. both_at (before_all units doc span left i) (before_all units doc span right i)
before_all units doc span (within_at operand field start) =
    λ i. within_at (before_all units doc span operand i) field (option_map (position_in units) (none_yet (hulls_of (operator_at (within_at (aimed doc span operand) field None))) i))

-- ---- the pass

-- a tree that passed all that ends before some place, with what it tells there
pub record Ahead (whole now : Passage) (start next : Option Position) : Type 0 where
  pub units : Units
  pub rise : DoRise units
  pub told : list_all (is_told units) (hits_at whole) ≡ true
  pub rises : all_rise (states_at whole) ≡ true
  pub place : ℕ
  pub stands : now ≡ before units place whole
  pub tells : start ≡ start_before units place (operator_at whole)
  pub ahead : AreAhead units place (hits_at whole) next

pub pass_starts : (doc : ℕ) (span : Span) (passage now : Passage) (next : Option Position) → AreTold (hits_there doc span (all_lists passage))
    → rise_at doc span (all_lists passage) ≡ true → IsAimed (aimed doc span passage) now next → Ahead (aimed doc span passage) now None next
pass_starts doc span passage now next told rises a =
    let whole = aimed doc span passage in
    let each : list_all (is_told told.units) (hits_at whole) ≡ true = ap (list_all (is_told told.units)) (sym (hits_aimed doc span passage)) ∙ told.told in
    let up : all_rise (states_at whole) ≡ true = sym (rising_aimed doc span passage) ∙ rises in
    let stands = a.stands ∙ before_all told.units doc span passage in
    record {
      units = told.units;
      rise = told.rise;
      told = each;
      rises = up;
      place = 0;
      stands = stands;
      tells = ap (option_map (position_in told.units)) (none_yet (hulls_of (operator_at whole)));
      ahead = subst (AreAhead told.units 0 (hits_at whole)) (sym (a.first ∙ ap next_at stands)) (next_is told.units 0 whole up each);
    }

module _ (whole now after : Passage) (start : Option Position) (end : Position) (passed : Passed) (so_far : Ahead whole now start (Some end)) (moved : IsMoved (behind end now) after passed) where
  behind_end : after ≡ before so_far.units (suc end.word) whole
  behind_end =
      moved.stands
      ∙ (λ i. behind (so_far.ahead.told i) (so_far.stands i))
      ∙ step_is so_far.units so_far.rise so_far.place end.word whole so_far.ahead.from so_far.rises so_far.told so_far.ahead.ends

  next_ahead : AreAhead so_far.units (suc end.word) (hits_at whole) passed.next
  next_ahead =
      subst (AreAhead so_far.units (suc end.word) (hits_at whole)) (sym (ap (λ (p : Passed). p.next) moved.tells ∙ ap next_at behind_end))
      (next_is so_far.units (suc end.word) whole so_far.rises so_far.told)

  pub pass_goes_on : Ahead whole after passed.start passed.next
  pass_goes_on = record {
    units = so_far.units;
    rise = so_far.rise;
    told = so_far.told;
    rises = so_far.rises;
    place = suc end.word;
    stands = behind_end;
    tells = ap (λ (p : Passed). p.start) moved.tells ∙ ap start_at behind_end ∙ tells_before so_far.units (suc end.word) whole;
    ahead = next_ahead;
  }

  pub pass_moves : (later : Position) → passed.next ≡ Some later → end.word < later.word
  pass_moves later is =
      let next = subst (AreAhead so_far.units (suc end.word) (hits_at whole)) is next_ahead in
      let from = next.from in
      omega (arith, from)

-- where it tells a start something is left
some_left : (place : ℕ) (hits : List Hit) (start : ℕ) → latest_before place hits ≡ Some start → is_not_empty hits ≡ true
some_left place [] start h = absurd (none-some start h)
some_left place (hit ∷ hits) start h = refl

none_left : (place : ℕ) (hits : List Hit) → latest_before place hits ≡ None → list_all (λ hit. nat_lt hit.to place) hits ≡ true → is_not_empty hits ≡ false
none_left place [] h all = refl
none_left place (hit ∷ hits) h all = absurd (never (latest_before place hits) (ap (λ t. cond t (greater (Some hit.from) (latest_before place hits)) (latest_before place hits))
    (sym (and_parts (nat_lt hit.to place) (list_all (λ other. nat_lt other.to place) hits) all).0) ∙ h))
  where
    never : (rest : Option ℕ) → greater (Some hit.from) rest ≡ None → ⊥
    never None e = none-some hit.from (sym e)
    never (Some a) e = none-some (max hit.from a) (sym e)

start_there : (units : Units) (number : Option ℕ) (start : Position) → Some start ≡ option_map (position_in units) number → is_some number ≡ true
start_there units None start h = absurd (none-some start (sym h))
start_there units (Some a) start h = refl

start_missing : (units : Units) (number : Option ℕ) → None ≡ option_map (position_in units) number → number ≡ None
start_missing units None h = refl
start_missing units (Some a) h = absurd (none-some (position_in units a) h)

pub pass_finds : (whole now : Passage) (start next : Option Position) → Ahead whole now start next → is_some start ≡ true → is_not_empty (hulls_of (operator_at whole)) ≡ true
pass_finds whole now start next a some = by (latest_before a.place (hulls_of (operator_at whole))) refl a.tells
  where
    by : (number : Option ℕ) → latest_before a.place (hulls_of (operator_at whole)) ≡ number → start ≡ option_map (position_in a.units) number → is_not_empty (hulls_of (operator_at whole)) ≡ true
    by None e h = cc
    by (Some n) e h = some_left a.place (hulls_of (operator_at whole)) n e

-- a hit that ends before a place, and another, are joined to one that does
before_joins : (place : ℕ) → Joins (λ hit. nat_lt hit.to place)
before_joins place a b ha hb =
    let first = ltb-true a.to place ha in
    let second = ltb-true b.to place hb in
    let both = lt-ltb (max a.to b.to) place (omega (arith, first, second)) in
    λ i. both i && true

pub pass_fails : (whole now : Passage) → Ahead whole now None None → is_not_empty (hulls_of (operator_at whole)) ≡ false
pass_fails whole now a =
    none_left a.place (hulls_of (operator_at whole)) (start_missing a.units (latest_before a.place (hulls_of (operator_at whole))) a.tells)
    (hulls_all (λ hit. nat_lt hit.to a.place) (before_joins a.place) (operator_at whole) a.ahead)

-- ---- what the answer says

field_filter : (field : Field) → is_field (filter_of field) ≡ true
field_filter (Window size unit) = refl
field_filter SameSentence = refl
field_filter SameParagraph = refl

near_tree : (passage : Passage) → is_near (operator_at passage) ≡ true
unfolding is_near operator_at
near_tree (lists_at states start) = refl
near_tree (either_at left right) = λ i. near_tree left i && near_tree right i
near_tree (both_at left right) = λ i. near_tree left i && near_tree right i
near_tree (within_at operand field start) = λ i. field_filter field i && near_tree operand i

told_well : (units : Units) → DoRise units → (hit : Hit) → is_told units hit ≡ true → ends_well hit ≡ true
told_well units rise hit h =
    let from = told_from units hit h in
    let sentences = start_in_told units hit h Sentences in
    let sentences_end = end_in_told units hit h Sentences in
    let paragraphs = start_in_told units hit h Paragraphs in
    let paragraphs_end = end_in_told units hit h Paragraphs in
    let up = rise.sentences hit.from hit.to from in
    let up_paragraphs = rise.paragraphs hit.from hit.to from in
    and_from (ends_after Sentences hit) (ends_after Paragraphs hit) (le-leb hit.sent_from hit.sent_to (omega (arith, sentences, sentences_end, up)))
    (le-leb hit.para_from hit.para_to (omega (arith, paragraphs, paragraphs_end, up_paragraphs)))

pub pass_says : (item : Span) (doc : ℕ) (span : Span) (passage now : Passage) (start next : Option Position) → Ahead (aimed doc span passage) now start next
    → is_not_empty (hulls_of (operator_at (aimed doc span passage))) ≡ satisfied (matches_of item ((aims_at passage).operators doc span))
pass_says item doc span passage now start next a =
    sym (near_is item (operator_at (aimed doc span passage)) (near_tree (aimed doc span passage))
    (all_with (is_told a.units) ends_well (hits_at (aimed doc span passage)) (told_well a.units a.rise) a.told))
    ∙ ap (λ operator. satisfied (matches_of item operator)) (operator_aimed doc span passage)

pub pass_keeps : (doc : ℕ) (span : Span) (passage now : Passage) (start next : Option Position) → Ahead (aimed doc span passage) now start next
    → (aims_at now ≡ aims_at passage) × (all_lists now ≡ all_lists passage)
pass_keeps doc span passage now start next a = (
  ap aims_at a.stands ∙ aims_before a.units a.place (aimed doc span passage) ∙ aims_aimed doc span passage,
  ap all_lists a.stands ∙ lists_before a.units a.place (aimed doc span passage) ∙ lists_aimed doc span passage,
)

-- how many ends may be left
abbrev pub ends_left : Option Position → ℕ
ends_left None = 0
ends_left (Some end) = 4294967296 - end.word

pub fewer_ends : (end : Position) (next : Option Position) → end.word < 4294967296 → ((later : Position) → next ≡ Some later → end.word < later.word) → ends_left next < ends_left (Some end)
fewer_ends end None h farther = omega (arith, h)
fewer_ends end (Some later) h farther = let more = farther later refl in omega (arith, h, more)

pub no_start : (start : Option Position) → is_some start ≡ false → start ≡ None
no_start None h = refl
no_start (Some start) h = absurd (true≢false h)
