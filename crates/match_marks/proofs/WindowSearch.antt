-- Going through the hits of phrases until a window holds the first of each.
use Rattle.std.proofs.Common.{◌≡◌, refl, sym, ap, subst, ◌∙◌, ℕ, suc, ◌+◌, ◌-◌, ◌<◌, ◌≤◌, true, false, List, [], ◌∷◌, ◌++◌, map, fold, take, length, get_or, set, arith, Option, Some, None}
use Rattle.std.specs.Prelude.{nat_lt}
use Rattle.std.proofs.Math.ListN.{get_or-map}
use Rattle.std.proofs.lemmas.Bool.{ltb-false}
use Rattle.std.proofs.lemmas.List.{length-map, take_all, take_more}
use Rattle.std.proofs.lemmas.List.Sums.{fold-append}
use Rattle.ft_base.specs.declared.hit.Hit.{Hit}
use Rattle.best_hits.specs.Best.{spans_of}
use Rattle.best_hits.specs.Least.{least}
use Rattle.ft_operators.specs.Phrases.{first_hit}
use Rattle.ft_operators.specs.Tuples.{walk_of}
use Rattle.ft_operators.specs.Walk.{Walk}
use Rattle.ft_operators.specs.declared.tuples.Tuples.{Tuples}
use Rattle.index_phrases.specs.Cursors.{state_of}
use Rattle.index_phrases.specs.declared.phrase_cursor.PhraseCursor.{PhraseCursor}
use Rattle.phrase_merges.proofs.ListLoops.{Changing, changing_at, changing_count, changing_ends, changing_on}
use Rattle.match_marks.specs.declared.window.FirstHits.{FirstHits}
use Rattle.match_marks.specs.declared.window.Joined.{Joined}
use Rattle.match_marks.specs.steps.WindowRuns.{AreAtHits, all_aims, held_choices, hits_from, hits_left, joined_alone, joined_firsts, least_held, lists_left, none_yet, places_of, sought, walks_of, with_first, with_hit}
use Rattle.match_marks.proofs.HeldChoices.{count_left, fewer_left, held_found, held_none, held_on}
use Rattle.match_marks.proofs.WalkedHits.{from_first, sought_aims, sought_at_hits, sought_lists}

-- ---- the first hits of the phrases that were gone on

pub record Gathering (from : ℕ) (old now : List (Tuples PhraseCursor)) (number : ℕ) (firsts : FirstHits) (start end : ℕ) : Type 0 where
  pub changed : Changing (sought from) (walk_of state_of) old now number start end
  pub firsts_are : firsts ≡ fold with_first none_yet (take number (map (hits_from from) (lists_left old)))

module _ (from : ℕ) (old now : List (Tuples PhraseCursor)) (number : ℕ) (firsts : FirstHits) (start middle : ℕ) (so_far : Gathering from old now number firsts start middle) where
  pub gathering_count : length now ≡ length old
  gathering_count = changing_count (sought from) (walk_of state_of) old now number start middle so_far.changed

  -- the phrase at hand is as it was
  pub gathering_at : (x : Tuples PhraseCursor) → x ≡ get_or now number x → walk_of state_of x ≡ get_or (walks_of old) number (walk_of state_of x)
  gathering_at x read = changing_at (sought from) (walk_of state_of) old now number start middle x so_far.changed read

  list_at : (x : Tuples PhraseCursor) → x ≡ get_or now number x
      → hits_from from (hits_left (walk_of state_of x)) ≡ get_or (map (hits_from from) (lists_left old)) number (hits_from from (hits_left (walk_of state_of x)))
  list_at x read =
      let walk = walk_of state_of x in
      ap (λ (own : Walk). hits_from from (hits_left own)) (gathering_at x read)
      ∙ ap (hits_from from) (sym (get_or-map hits_left (walks_of old) number walk))
      ∙ sym (get_or-map (hits_from from) (lists_left old) number (hits_left walk))

  pub gathering_on : (end : ℕ) (x y : Tuples PhraseCursor) (hit : Option Hit) (next : FirstHits) → number < length now → x ≡ get_or now number x → walk_of state_of y ≡ sought from (walk_of state_of x)
      → hit ≡ first_hit (hits_from from (hits_left (walk_of state_of x))) → next ≡ with_hit firsts hit → middle ≤ end → Gathering from old (set now number y) (number + 1) next start end
  gathering_on end x y hit next h read is first put more =
      let lists = map (hits_from from) (lists_left old) in
      let own = hits_from from (hits_left (walk_of state_of x)) in
      let within : number < length lists = omega (arith, h, gathering_count, length-map (lists_left old) (hits_from from), length-map (walks_of old) hits_left, length-map old (walk_of state_of)) in
      record {
        changed = changing_on (sought from) (walk_of state_of) old now number start middle end x y so_far.changed h read is more;
        firsts_are =
            put
            ∙ (λ i. with_hit (so_far.firsts_are i) (first i))
            ∙ ap (with_first (fold with_first none_yet (take number lists))) (list_at x read)
            ∙ sym (ap (fold with_first none_yet) (take_more lists number own within) ∙ fold-append with_first none_yet (take number lists) (get_or lists number own ∷ []));
      }

  module _ (h : length now ≤ number) where
    pub gathered_walks : walks_of now ≡ map (sought from) (walks_of old)
    gathered_walks = changing_ends (sought from) (walk_of state_of) old now number start middle so_far.changed h

    pub gathered_firsts : firsts ≡ fold with_first none_yet (map (hits_from from) (lists_left old))
    gathered_firsts =
        let long : length (map (hits_from from) (lists_left old)) ≤ number =
        omega (arith, h, gathering_count, length-map (lists_left old) (hits_from from), length-map (walks_of old) hits_left, length-map old (walk_of state_of)) in
        so_far.firsts_are ∙ ap (fold with_first none_yet) (take_all number (map (hits_from from) (lists_left old)) long)

pub gathering_starts : (from : ℕ) (old : List (Tuples PhraseCursor)) (start : ℕ) → Gathering from old old 0 none_yet start start
gathering_starts from old start = record { changed = record { stands = refl; grown = omega arith }; firsts_are = refl }

-- ---- until a window holds them

-- the hits that are left have the same choices that the window holds
pub record Searching (size : ℕ) (old now : List (Tuples PhraseCursor)) (joined : Option Joined) (start end : ℕ) : Type 0 where
  pub hits : AreAtHits now
  pub joins : joined ≡ joined_firsts (lists_left now)
  pub held : held_choices size (lists_left now) ≡ held_choices size (lists_left old)
  pub aims : all_aims now ≡ all_aims old
  pub grown : start ≤ end

pub search_starts : (size : ℕ) (old now : List (Tuples PhraseCursor)) (joined : Option Joined) (start end : ℕ) → AreAtHits old → walks_of now ≡ map (sought 0) (walks_of old)
    → joined ≡ joined_firsts (map (hits_from 0) (lists_left old)) → start ≤ end → Searching size old now joined start end
search_starts size old now joined start end at is joins more =
    let lists = sought_lists 0 old now is in
    record {
      hits = sought_at_hits 0 old now is at;
      joins = joins ∙ ap joined_firsts (sym lists);
      held = ap (held_choices size) (lists ∙ from_first (lists_left old));
      aims = sought_aims 0 old now is;
      grown = more;
    }

abbrev least_of_held : List (List Hit) → List Hit
least_of_held choices = least (map joined_alone choices)

module _ (size : ℕ) (old now : List (Tuples PhraseCursor)) (joined : Option Joined) (start middle : ℕ) (so_far : Searching size old now joined start middle) where
  same_least : least_held size (lists_left now) ≡ least_held size (lists_left old)
  same_least = ap least_of_held so_far.held

  pub search_found : (found : Joined) → joined ≡ Some found → nat_lt found.to (found.from + size) ≡ true → places_of joined ≡ spans_of (least_held size (lists_left old))
  search_found found is within =
      ap places_of is ∙ held_found size (lists_left now) found so_far.hits.rising (sym so_far.joins ∙ is) within ∙ ap spans_of same_least

  pub search_fails : joined ≡ None → places_of None ≡ spans_of (least_held size (lists_left old))
  search_fails is =
      sym (ap (λ choices. spans_of (least_of_held choices)) (held_none size (lists_left now) (sym so_far.joins ∙ is))) ∙ ap spans_of same_least

  module _ (found : Joined) (is : joined ≡ Some found) (outside : nat_lt found.to (found.from + size) ≡ false) (from : ℕ) (next : from ≡ found.to - size + 1)
      (after : List (Tuples PhraseCursor)) (walks : walks_of after ≡ map (sought from) (walks_of now)) where
    pub search_on : (other : Option Joined) (end : ℕ) → other ≡ joined_firsts (map (hits_from from) (lists_left now)) → middle ≤ end → Searching size old after other start end
    search_on other end joins more =
        let lists = sought_lists from now after walks in
        let late = ltb-false found.to (found.from + size) outside in
        record {
          hits = sought_at_hits from now after walks so_far.hits;
          joins = joins ∙ ap joined_firsts (sym lists);
          held = ap (held_choices size) lists ∙ held_on size from (lists_left now) found so_far.hits.rising (sym so_far.joins ∙ is) (omega (arith, late, next)) ∙ so_far.held;
          aims = sought_aims from now after walks ∙ so_far.aims;
          grown = omega (arith, so_far.grown, more);
        }

    pub search_fewer : count_left (lists_left after) < count_left (lists_left now)
    search_fewer =
        let late = ltb-false found.to (found.from + size) outside in
        subst (λ lists. count_left lists < count_left (lists_left now)) (sym (sought_lists from now after walks))
        (fewer_left from (lists_left now) found (sym so_far.joins ∙ is) (omega (arith, late, next)))
