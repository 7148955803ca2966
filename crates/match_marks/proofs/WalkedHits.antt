-- Walks through the hits of phrases, gone on to the first hit from a word on.
use Rattle.std.proofs.Common.{◌≡◌, refl, sym, ap, subst, ◌∙◌, ℕ, zero, suc, ◌+◌, ◌<◌, ◌≤◌, Bool, true, false, true≢false, ◌&&◌, cond, List, [], ◌∷◌, map, flat_map, drop, get_or, length, arith, inl, inr}
use Rattle.std.specs.Prelude.{nat_lt}
use Rattle.std.specs.List.{list_all}
use Rattle.std.proofs.lemmas.Bool.{and_from, and_parts}
use Rattle.std.proofs.lemmas.Bool.Decides.{nat_tests}
use Rattle.ft_base.specs.Lists.{is_not_empty}
use Rattle.ft_base.specs.declared.hit.Hit.{Hit}
use Rattle.ft_base.specs.declared.span.Span.{Span}
use Rattle.all_matches.specs.Ways.{Operator, phrase, either, together, apart, negated, through_filter, one_hit, way_includes, ways_of}
use Rattle.ft_operators.specs.Standing.{Aims}
use Rattle.ft_operators.specs.Starts.{hits_of}
use Rattle.ft_operators.specs.Tuples.{walk_of}
use Rattle.ft_operators.specs.Walk.{Walk, aimed_walk, at_next_way, own_span, walk_at}
use Rattle.ft_operators.specs.declared.tuples.Tuples.{Tuples}
use Rattle.index_phrases.specs.Cursors.{state_of}
use Rattle.index_phrases.specs.declared.phrase_cursor.PhraseCursor.{PhraseCursor}
use Rattle.match_marks.specs.steps.WindowRuns.{AreAtHits, all_aims, at_hits, at_own_hits, begins_before, hits_from, hits_left, hits_there, is_phrase, is_rising, lists_left, phrase_may, sought, started, walks_of}
use Rattle.plan_runs.specs.steps.OpenedOperators.{aims_of}
use Rattle.match_marks.proofs.HeldChoices.{all_still_rising}

pub included : (hits : List Hit) → flat_map way_includes (map one_hit hits) ≡ hits
included [] = refl
included (hit ∷ hits) = ap (λ own. hit ∷ own) (included hits)

own_there : (hits : List Hit) (walk : Walk) → at_own_hits (at_hits hits walk) ≡ at_hits hits walk
own_there hits walk = ap (λ own. at_hits own walk) (included hits)

-- ---- one walk

-- a step from a hit that begins before the word
pub record StepsOn (from : ℕ) (walk next : Walk) : Type 0 where
  pub there : is_not_empty walk.rest ≡ true
  pub hits : at_own_hits next ≡ next
  pub same : sought from next ≡ sought from walk
  pub fewer : length (hits_left next) < length (hits_left walk)

steps_from : (from : ℕ) (hits : List Hit) (walk : Walk) → begins_before from hits ≡ true → StepsOn from (at_hits hits walk) (at_next_way (at_hits hits walk))
steps_from from [] walk before = absurd (true≢false (sym before))
steps_from from (hit ∷ rest) walk before =
    let left : hits_left (at_hits rest walk) ≡ rest = included rest in
    let whole : hits_left (at_hits (hit ∷ rest) walk) ≡ hit ∷ rest = included (hit ∷ rest) in
    record {
      there = refl;
      hits = own_there rest walk;
      same = ap (λ own. at_hits (hits_from from own) walk) left ∙ (λ i. at_hits (cond (sym before i) (hits_from from rest) (hit ∷ rest)) walk) ∙ ap (λ own. at_hits (hits_from from own) walk) (sym whole);
      fewer = let a = ap (λ own. length own) left in let b = ap (λ own. length own) whole in omega (arith, a, b);
    }

pub steps_on : (from : ℕ) (walk next : Walk) → at_own_hits walk ≡ walk → begins_before from (hits_left walk) ≡ true → next ≡ at_next_way walk → StepsOn from walk next
steps_on from walk next own before is =
    subst (StepsOn from walk) (ap at_next_way own ∙ sym is) (subst (λ (w : Walk). StepsOn from w (at_next_way (at_own_hits walk))) own (steps_from from (hits_left walk) walk before))

stays_from : (from : ℕ) (hits : List Hit) → begins_before from hits ≡ false → hits_from from hits ≡ hits
stays_from from [] fails = refl
stays_from from (hit ∷ rest) fails = ap (λ b. cond b (hits_from from rest) (hit ∷ rest)) fails

pub stays_there : (from : ℕ) (walk : Walk) → at_own_hits walk ≡ walk → begins_before from (hits_left walk) ≡ false → walk ≡ sought from walk
stays_there from walk own fails = sym own ∙ ap (λ hits. at_hits hits walk) (sym (stays_from from (hits_left walk) fails))

-- what is left of a walk that was gone on
pub left_sought : (from : ℕ) (walk : Walk) → hits_left (sought from walk) ≡ hits_from from (hits_left walk)
left_sought from walk = included (hits_from from (hits_left walk))

-- ---- several

pub all_own : (from : ℕ) (walks : List Walk) → map at_own_hits (map (sought from) walks) ≡ map (sought from) walks
all_own from [] = refl
all_own from (walk ∷ walks) = λ i. own_there (hits_from from (hits_left walk)) walk i ∷ all_own from walks i

pub all_left : (from : ℕ) (walks : List Walk) → map hits_left (map (sought from) walks) ≡ map (hits_from from) (map hits_left walks)
all_left from [] = refl
all_left from (walk ∷ walks) = λ i. left_sought from walk i ∷ all_left from walks i

same_aims_of : (from : ℕ) (walks : List Walk) → map (λ (walk : Walk). walk.aims) (map (sought from) walks) ≡ map (λ (walk : Walk). walk.aims) walks
same_aims_of from [] = refl
same_aims_of from (walk ∷ walks) = ap (λ rest. walk.aims ∷ rest) (same_aims_of from walks)

pub aims_by_walks : (phrases : List (Tuples PhraseCursor)) → all_aims phrases ≡ map (λ (walk : Walk). walk.aims) (walks_of phrases)
aims_by_walks [] = refl
aims_by_walks (tuples ∷ phrases) = ap (λ rest. aims_of tuples ∷ rest) (aims_by_walks phrases)

-- phrases that are gone on
module _ (from : ℕ) (old now : List (Tuples PhraseCursor)) (is : walks_of now ≡ map (sought from) (walks_of old)) where
  pub sought_lists : lists_left now ≡ map (hits_from from) (lists_left old)
  sought_lists = ap (map hits_left) is ∙ all_left from (walks_of old)

  pub sought_aims : all_aims now ≡ all_aims old
  sought_aims = aims_by_walks now ∙ ap (map (λ (walk : Walk). walk.aims)) is ∙ same_aims_of from (walks_of old) ∙ sym (aims_by_walks old)

  pub sought_at_hits : AreAtHits old → AreAtHits now
  sought_at_hits at = record {
    hits = ap (map at_own_hits) is ∙ all_own from (walks_of old) ∙ sym is;
    rising = ap (list_all is_rising) sought_lists ∙ all_still_rising from (lists_left old) at.rising;
  }

-- gone on to the first word they stand where they stood
pub from_first : (lists : List (List Hit)) → map (hits_from 0) lists ≡ lists
from_first [] = refl
from_first (hits ∷ lists) = λ i. one hits i ∷ from_first lists i
  where
    one : (own : List Hit) → hits_from 0 own ≡ own
    one [] = refl
    one (hit ∷ rest) = let later : nat_lt hit.from 0 ≡ false = grind (arith, nat_tests) in ap (λ b. cond b (hits_from 0 rest) (hit ∷ rest)) later

-- ---- aimed

by_phrase : (item : Span) (operator : Operator) → is_phrase operator ≡ true → ways_of item operator ≡ map one_hit (hits_of operator)
unfolding ways_of
by_phrase item (phrase found) h = refl
by_phrase item (either left right) h = absurd (true≢false (sym h))
by_phrase item (together left right) h = absurd (true≢false (sym h))
by_phrase item (apart left right) h = absurd (true≢false (sym h))
by_phrase item (negated operand) h = absurd (true≢false (sym h))
by_phrase item (through_filter operand kind) h = absurd (true≢false (sym h))

module _ (doc : ℕ) (span : Span) where
  -- where it may be gone through
  record Starts (walk : Walk) : Type 0 where
    hits : at_own_hits (started doc span walk) ≡ started doc span walk
    left : hits_left (started doc span walk) ≡ hits_there doc span walk.aims
    rising : is_rising (hits_there doc span walk.aims) ≡ true

  one_starts : (walk : Walk) → phrase_may doc span walk.aims ≡ true → Starts walk
  one_starts walk may =
      let whole = and_parts (walk.aims.may doc span) (is_phrase (walk.aims.operators doc span) && is_rising (hits_of (walk.aims.operators doc span))) may in
      let parts = and_parts (is_phrase (walk.aims.operators doc span)) (is_rising (hits_of (walk.aims.operators doc span))) whole.1 in
      let hits = hits_there doc span walk.aims in
      let aimed = aimed_walk doc span walk in
      let is : started doc span walk ≡ at_hits hits aimed = ap (λ ways. walk_at ways aimed) (by_phrase (own_span span) (walk.aims.operators doc span) parts.0) in
      record {
        hits = ap at_own_hits is ∙ own_there hits aimed ∙ sym is;
        left = ap hits_left is ∙ included hits;
        rising = parts.1;
      }

  pub record AllStart (walks : List Walk) : Type 0 where
    pub hits : map at_own_hits (map (started doc span) walks) ≡ map (started doc span) walks
    pub left : map hits_left (map (started doc span) walks) ≡ map (λ (walk : Walk). hits_there doc span walk.aims) walks
    pub rising : list_all is_rising (map (λ (walk : Walk). hits_there doc span walk.aims) walks) ≡ true
    pub aims : map (λ (walk : Walk). walk.aims) (map (started doc span) walks) ≡ map (λ (walk : Walk). walk.aims) walks

  all_start : (walks : List Walk) → list_all (phrase_may doc span) (map (λ (walk : Walk). walk.aims) walks) ≡ true → AllStart walks
  all_start [] may = record { hits = refl; left = refl; rising = refl; aims = refl }
  all_start (walk ∷ walks) may =
      let parts = and_parts (phrase_may doc span walk.aims) (list_all (phrase_may doc span) (map (λ (own : Walk). own.aims) walks)) may in
      let one = one_starts walk parts.0 in
      let rest = all_start walks parts.1 in
      record {
        hits = λ i. one.hits i ∷ rest.hits i;
        left = λ i. one.left i ∷ rest.left i;
        rising = and_from (is_rising (hits_there doc span walk.aims)) (list_all is_rising (map (λ (own : Walk). hits_there doc span own.aims) walks)) one.rising rest.rising;
        aims = ap (λ aims. walk.aims ∷ aims) rest.aims;
      }

  there_by_walks : (phrases : List (Tuples PhraseCursor)) → map (λ (walk : Walk). hits_there doc span walk.aims) (walks_of phrases) ≡ map (hits_there doc span) (all_aims phrases)
  there_by_walks [] = refl
  there_by_walks (tuples ∷ phrases) = ap (λ rest. hits_there doc span (aims_of tuples) ∷ rest) (there_by_walks phrases)

  -- phrases that are aimed
  module _ (old now : List (Tuples PhraseCursor)) (may : list_all (phrase_may doc span) (all_aims old) ≡ true) (is : walks_of now ≡ map (started doc span) (walks_of old)) where
    starts : AllStart (walks_of old)
    starts = all_start (walks_of old) (ap (list_all (phrase_may doc span)) (sym (aims_by_walks old)) ∙ may)

    pub started_lists : lists_left now ≡ map (hits_there doc span) (all_aims old)
    started_lists = ap (map hits_left) is ∙ starts.left ∙ there_by_walks old

    pub started_at_hits : AreAtHits now
    started_at_hits = record {
      hits = ap (map at_own_hits) is ∙ starts.hits ∙ sym is;
      rising = ap (list_all is_rising) (ap (map hits_left) is ∙ starts.left) ∙ starts.rising;
    }

    pub started_aims : all_aims now ≡ all_aims old
    started_aims = aims_by_walks now ∙ ap (map (λ (walk : Walk). walk.aims)) is ∙ starts.aims ∙ sym (aims_by_walks old)

  -- each may be aimed
  pub one_may : (walk : Walk) → phrase_may doc span walk.aims ≡ true → walk.aims.may doc span ≡ true
  one_may walk may = (and_parts (walk.aims.may doc span) (is_phrase (walk.aims.operators doc span) && is_rising (hits_of (walk.aims.operators doc span))) may).0

  pub may_at : (old : List (Tuples PhraseCursor)) (number : ℕ) (walk : Walk) → number < length old → walk ≡ get_or (walks_of old) number walk → list_all (phrase_may doc span) (all_aims old) ≡ true
      → walk.aims.may doc span ≡ true
  may_at [] number walk h is all = absurd (omega (arith, h))
  may_at (tuples ∷ old) zero walk h is all =
      let parts = and_parts (phrase_may doc span (aims_of tuples)) (list_all (phrase_may doc span) (all_aims old)) all in
      ap (λ (own : Walk). own.aims.may doc span) is ∙ one_may (walk_of state_of tuples) parts.0
  may_at (tuples ∷ old) (suc number) walk h is all =
      let parts = and_parts (phrase_may doc span (aims_of tuples)) (list_all (phrase_may doc span) (all_aims old)) all in
      may_at old number walk (omega (arith, h)) is parts.1

-- one of several that are at their hits
pub own_at : (walks : List Walk) (number : ℕ) (walk : Walk) → number < length walks → walk ≡ get_or walks number walk → map at_own_hits walks ≡ walks → at_own_hits walk ≡ walk
own_at [] number walk h is same = absurd (omega (arith, h))
own_at (first ∷ walks) zero walk h is same = ap at_own_hits is ∙ ap (λ (list : List Walk). get_or list 0 first) same ∙ sym is
own_at (first ∷ walks) (suc number) walk h is same = own_at walks number walk (omega (arith, h)) is (ap (drop 1) same)
