-- Terms that are merged into those of an index, and terms that go.
use Rattle.std.proofs.Common.{◌≡◌, ◌≢◌, ℕ, ◌+◌, ◌<◌, ◌≤◌, suc, zero, Bool, true, false, cond, nat_lt, ◌&&◌, ◌||◌, ◌==◌, List, [], ◌∷◌, ◌++◌, length, get_or, take, map, filter, refl, ap, sym, ◌∙◌, arith, append-nil, length-append, inl, inr, true≢false}
use Rattle.std.proofs.Math.Bool.{and-false, or-false}
use Rattle.std.proofs.lemmas.Bool.{and_parts, or_cases, or_left, or_right, eqb-true, cases_eq, cases_lt, lt-ltb, le-ltb, false_from_ne_true}
use Rattle.std.proofs.lemmas.List.{take_more, take_all, map_push, length-map}
use Rattle.ft_base.specs.Places.{is_ascending}
use Rattle.postings.specs.declared.row.Row.{Row}
use Rattle.shared_list.specs.Blocks.{joined, start_of, starts_from}
use Rattle.shared_list.proofs.StartLemmas.{push-starts, start-read, same-length}
use Rattle.index_document.specs.declared.entry.Entry.{Entry}
use Rattle.index_document.specs.Terms.{has}
use Rattle.index_document.specs.Rows.{IsIndexed, has_rows, of_term, row_of, rows_of, runs_of}
use Rattle.index_document.specs.steps.Widening.{AreUpTo, IsWidening}
use Rattle.index_document.proofs.TermLemmas.{has-append, has-head, has-other, find-at, ascending-at, ascending-cons, first-below}
use Rattle.ft_base.proofs.PlacesLemmas.{rest-ascending}
use Rattle.ft_base.proofs.Truth.{or_swap_last}
use Rattle.index_document.proofs.EntryLemmas.{no-rows}
use Rattle.index_document.proofs.RunLemmas.{joined-push, done-run, start-is}
use Rattle.index_document.proofs.PutLemmas.{all_rows}

has-single : (t x : ℕ) → has t (x ∷ []) ≡ (x == t)
has-single t x = or-false (x == t)

-- an ascending list with a greater term after it
pub ascending-push : (xs : List ℕ) (x : ℕ) → is_ascending xs ≡ true → ((t : ℕ) → has t xs ≡ true → t < x) → is_ascending (xs ++ x ∷ []) ≡ true
ascending-push [] x up below = refl
ascending-push (y ∷ xs) x up below =
    ascending-cons y (xs ++ x ∷ []) (λ t there. elim (or_cases (has t xs) (has t (x ∷ [])) (sym (has-append t xs (x ∷ [])) ∙ there)) [
      | inl old ↦ first-below y xs up t old
      | inr new ↦ omega (arith, eqb-true x t (sym (has-single t x) ∙ new), below y (has-head y y xs refl))
    ]) (ascending-push xs x (rest-ascending y xs up) (λ t there. below t (or_right (y == t) (has t xs) there)))

pub widening-start : (all : List Entry) (ids : List ℕ) → IsWidening all ids 0 [] [] []
widening-start all ids = record {
  within = omega arith;
  starts_are = refl;
  joined_are = refl;
  rising = refl;
  members = λ t. refl;
  below = λ t there. absurd (true≢false (sym there));
}

or_group : (a b c : Bool) → ((a || b) || c) ≡ (a || (b || c))
or_group true b c = refl
or_group false b c = refl

same-place : (n k : ℕ) → n ≤ k → k ≤ n → n ≡ k
same-place n k le ge = omega arith

has-prefix : (xs : List ℕ) (n k : ℕ) → k < n → k < length xs → has (get_or xs k 0) (take n xs) ≡ true
has-prefix [] n k before there = absurd (omega arith)
has-prefix (x ∷ xs) zero k before there = absurd (omega arith)
has-prefix (x ∷ xs) (suc n) zero before there = has-head x x (take n xs) refl
has-prefix (x ∷ xs) (suc n) (suc k) before there = or_right (x == get_or xs k 0) (has (get_or xs k 0) (take n xs)) (has-prefix xs n k (omega (arith, before)) (omega (arith, there)))

module _ (all : List Entry) (ids : List ℕ) where
  -- the next of the terms that were there
  pub widening-old : (starts : List ℕ) (number : ℕ) (done made made_starts : List ℕ) (id start : ℕ) → IsWidening all ids number done made made_starts → is_ascending ids ≡ true →
      starts ≡ starts_from 0 (runs_of all ids) → number < length ids → id ≡ get_or ids number 0 → start ≡ get_or starts number start →
      IsWidening all ids (number + 1) done (made ++ id ∷ []) (made_starts ++ start ∷ [])
  widening-old starts number done made made_starts id start state up are there id_is read =
      let runs = runs_of all ids in
      let more : take (number + 1) ids ≡ take number ids ++ id ∷ [] = take_more ids number 0 there ∙ ap (λ x. take number ids ++ x ∷ []) (sym id_is) in
      let start_is : start ≡ length (joined (runs_of all made)) =
      start-read runs starts number start are (omega (arith, there, same-length runs starts are, length-map ids (all_rows all))) read ∙ start-is (all_rows all) ids number ∙ ap length (sym state.joined_are) in
      record {
        within = omega (arith, there);
        starts_are = push-starts (runs_of all made) made_starts start (rows_of id all) state.starts_are start_is ∙ ap (λ rs. starts_from 0 rs) (sym (map_push (all_rows all) made id));
        joined_are = ap joined (map_push (all_rows all) made id) ∙ joined-push (runs_of all made) (rows_of id all) ∙ ap (λ rows. rows ++ rows_of id all) state.joined_are
            ∙ sym (ap (λ ts. joined (runs_of all ts)) more ∙ ap joined (map_push (all_rows all) (take number ids) id) ∙ joined-push (runs_of all (take number ids)) (rows_of id all));
        rising = ascending-push made id state.rising (λ t inside. omega (arith, state.below t inside number (omega arith) there, id_is));
        members = λ t. has-append t made (id ∷ []) ∙ ap (λ b. b || has t (id ∷ [])) (state.members t) ∙ or_swap_last (has t (take number ids)) (has t done) (has t (id ∷ []))
            ∙ ap (λ b. b || has t done) (sym (ap (has t) more ∙ has-append t (take number ids) (id ∷ [])));
        below = λ t inside k from to. elim (or_cases (has t made) (has t (id ∷ [])) (sym (has-append t made (id ∷ [])) ∙ inside)) [
          | inl old ↦ state.below t old k (omega (arith, from)) to
          | inr new ↦ omega (arith, eqb-true id t (sym (has-single t id) ∙ new), id_is, ascending-at ids number k up (omega (arith, from)) to)
        ];
      }

  pub up_to-old : (term : ℕ) (made : List ℕ) (id : ℕ) → AreUpTo term made → id ≤ term → AreUpTo term (made ++ id ∷ [])
  up_to-old term made id most le = λ t inside. elim (or_cases (has t made) (has t (id ∷ [])) (sym (has-append t made (id ∷ [])) ∙ inside)) [
    | inl old ↦ most t old
    | inr new ↦ omega (arith, eqb-true id t (sym (has-single t id) ∙ new), le)
  ]

  -- a new term that is there already
  pub widening-same : (number : ℕ) (done made made_starts : List ℕ) (term : ℕ) → IsWidening all ids number done made made_starts → has term made ≡ true →
      IsWidening all ids number (done ++ term ∷ []) made made_starts
  widening-same number done made made_starts term state there = record {
    within = state.within;
    starts_are = state.starts_are;
    joined_are = state.joined_are;
    rising = state.rising;
    members = λ t. elim (cases_eq term t) [
      | inl is ↦ sym (ap (λ z. has z made) is) ∙ there ∙ sym (or_right (has t (take number ids)) (has t (done ++ term ∷ [])) (has-append t done (term ∷ []) ∙ or_right (has t done) (has t (term ∷ [])) (has-head term t [] is)))
      | inr other ↦ state.members t ∙ ap (λ b. has t (take number ids) || b) (sym (has-append t done (term ∷ []) ∙ ap (λ b. has t done || b) (has-other term t [] other) ∙ or-false (has t done)))
    ];
    below = state.below;
  }

  -- a new term that is greater than those that are made, and less than those that are left, isn't one of those that were there
  absent-term : (number : ℕ) (done made made_starts : List ℕ) (term : ℕ) → IsWidening all ids number done made made_starts → is_ascending ids ≡ true →
      ((t : ℕ) → has t made ≡ true → t < term) → (number < length ids → term < get_or ids number 0) → has term ids ≡ false
  absent-term number done made made_starts term state up greater next = false_from_ne_true (has term ids) (λ there.
      let found = find-at ids term there in
      elim (cases_lt found.0 number) [
        | inl prefix ↦
            let inside : has term (take number ids) ≡ true = ap (λ z. has z (take number ids)) (sym found.2) ∙ has-prefix ids number found.0 prefix found.1 in
            omega (arith, greater term (state.members term ∙ or_left (has term (take number ids)) (has term done) inside))
        | inr suffix ↦ elim (cases_lt number found.0) [
          | inl further ↦ omega (arith, found.2, next (omega (arith, found.1, suffix)), ascending-at ids number found.0 up further found.1)
          | inr here ↦ omega (arith, found.2, next (omega (arith, found.1, suffix)), ap (λ i. get_or ids i 0) (same-place number found.0 suffix here))
        ]
      ])

  -- a new term that isn't there
  pub widening-new : (number : ℕ) (done made made_starts : List ℕ) (term start : ℕ) → IsWidening all ids number done made made_starts → is_ascending ids ≡ true →
      ((t : ℕ) → has t made ≡ true → t < term) → (number < length ids → term < get_or ids number 0) → ((t : ℕ) → has t ids ≡ has_rows all t) →
      start ≡ start_of (runs_of all ids) number →
      IsWidening all ids number (done ++ term ∷ []) (made ++ term ∷ []) (made_starts ++ start ∷ [])
  widening-new number done made made_starts term start state up greater next members start_is =
      let absent = absent-term number done made made_starts term state up greater next in
      let none : rows_of term all ≡ [] = ap (map row_of) (no-rows term all (sym (members term) ∙ absent)) in
      record {
        within = state.within;
        starts_are = push-starts (runs_of all made) made_starts start (rows_of term all) state.starts_are (start_is ∙ start-is (all_rows all) ids number ∙ ap length (sym state.joined_are))
            ∙ ap (λ rs. starts_from 0 rs) (sym (map_push (all_rows all) made term));
        joined_are = ap joined (map_push (all_rows all) made term) ∙ joined-push (runs_of all made) (rows_of term all) ∙ ap (λ rows. joined (runs_of all made) ++ rows) none
            ∙ append-nil (joined (runs_of all made)) ∙ state.joined_are;
        rising = ascending-push made term state.rising greater;
        members = λ t. has-append t made (term ∷ []) ∙ ap (λ b. b || has t (term ∷ [])) (state.members t) ∙ or_group (has t (take number ids)) (has t done) (has t (term ∷ []))
            ∙ ap (λ b. has t (take number ids) || b) (sym (has-append t done (term ∷ [])));
        below = λ t inside k from to. elim (or_cases (has t made) (has t (term ∷ [])) (sym (has-append t made (term ∷ [])) ∙ inside)) [
          | inl old ↦ state.below t old k from to
          | inr new ↦ elim (cases_lt number k) [
            | inl further ↦ omega (arith, eqb-true term t (sym (has-single t term) ∙ new), next (omega (arith, from, to)), ascending-at ids number k up further to)
            | inr here ↦ omega (arith, eqb-true term t (sym (has-single t term) ∙ new), next (omega (arith, from, to)), ap (λ i. get_or ids i 0) (same-place number k from here))
          ]
        ];
      }

-- the index of all terms, once all are merged
pub widening-indexed : (all : List Entry) (ids : List ℕ) (number : ℕ) (done made made_starts : List ℕ) (rows : List Row) → IsWidening all ids number done made made_starts →
    rows ≡ joined (runs_of all ids) → length ids ≤ number → IsIndexed all made made_starts rows
widening-indexed all ids number done made made_starts rows state are end = record {
  rows_are = are ∙ sym (state.joined_are ∙ ap (λ ts. joined (runs_of all ts)) (take_all number ids end));
  starts_are = state.starts_are;
}

pub widening-members : (all : List Entry) (ids : List ℕ) (number : ℕ) (done made made_starts : List ℕ) → IsWidening all ids number done made made_starts → length ids ≤ number →
    (t : ℕ) → has t made ≡ (has t ids || has t done)
widening-members all ids number done made made_starts state end t = state.members t ∙ ap (λ ts. has t ts || has t done) (take_all number ids end)

same-test : (first end count : ℕ) → end ≡ first + count → nat_lt first end ≡ nat_lt 0 count
same-test first end zero is = le-ltb first end (omega (arith, is)) ∙ sym (le-ltb 0 0 (omega arith))
same-test first end (suc count) is = lt-ltb first end (omega (arith, is)) ∙ sym (lt-ltb 0 (suc count) (omega arith))

-- terms without rows go: so many are looked at
pub record IsNarrowing (all : List Entry) (ids : List ℕ) (number : ℕ) (made starts : List ℕ) : Type 0 where
  pub ids_are : made ≡ filter (has_rows all) (take number ids)
  pub starts_are : starts ≡ starts_from 0 (runs_of all made)
  pub joined_are : joined (runs_of all made) ≡ joined (runs_of all (take number ids))

pub narrowing-start : (all : List Entry) (ids : List ℕ) → IsNarrowing all ids 0 [] []
narrowing-start all ids = record { ids_are = refl; starts_are = refl; joined_are = refl }

filter-push : (p : ℕ → Bool) (xs : List ℕ) (x : ℕ) → filter p (xs ++ x ∷ []) ≡ filter p xs ++ cond (p x) (x ∷ []) []
filter-push p [] x = refl
filter-push p (y ∷ xs) x = both (p y) (filter-push p xs x)
  where
    both : (b : Bool) → filter p (xs ++ x ∷ []) ≡ filter p xs ++ cond (p x) (x ∷ []) [] →
        cond b (y ∷ filter p (xs ++ x ∷ [])) (filter p (xs ++ x ∷ [])) ≡ cond b (y ∷ filter p xs) (filter p xs) ++ cond (p x) (x ∷ []) []
    both true is = ap (λ ys. y ∷ ys) is
    both false is = is

narrowing-one : (all : List Entry) (ids : List ℕ) (number id first : ℕ) (made made_starts : List ℕ) → IsNarrowing all ids number made made_starts → (b : Bool) → b ≡ has_rows all id →
    made ++ cond b (id ∷ []) [] ≡ filter (has_rows all) (take (number + 1) ids) → first ≡ length (joined (runs_of all (take number ids))) →
    joined (runs_of all (take (number + 1) ids)) ≡ joined (runs_of all (take number ids)) ++ rows_of id all →
    IsNarrowing all ids (number + 1) (made ++ cond b (id ∷ []) []) (made_starts ++ cond b (first ∷ []) [])
narrowing-one all ids number id first made made_starts state true some ids_are first_is run = record {
  ids_are = ids_are;
  starts_are = push-starts (runs_of all made) made_starts first (rows_of id all) state.starts_are (first_is ∙ ap length (sym state.joined_are))
      ∙ ap (λ rs. starts_from 0 rs) (sym (map_push (all_rows all) made id));
  joined_are = ap joined (map_push (all_rows all) made id) ∙ joined-push (runs_of all made) (rows_of id all) ∙ ap (λ rows. rows ++ rows_of id all) state.joined_are ∙ sym run;
}
narrowing-one all ids number id first made made_starts state false none ids_are first_is run = record {
  ids_are = ids_are;
  starts_are = append-nil made_starts ∙ state.starts_are ∙ ap (λ ts. starts_from 0 (runs_of all ts)) (sym (append-nil made));
  joined_are = ap (λ ts. joined (runs_of all ts)) (append-nil made) ∙ state.joined_are
      ∙ sym (run ∙ ap (λ es. joined (runs_of all (take number ids)) ++ map row_of es) (no-rows id all (sym none)) ∙ append-nil (joined (runs_of all (take number ids))));
}

pub narrowing-more : (all : List Entry) (ids starts : List ℕ) (number id first end : ℕ) (stays : Bool) (made made_starts : List ℕ) → IsNarrowing all ids number made made_starts →
    starts ≡ starts_from 0 (runs_of all ids) → number < length ids → id ≡ get_or ids number 0 → first ≡ get_or starts number first → end ≡ start_of (runs_of all ids) (number + 1) →
    stays ≡ nat_lt first end →
    IsNarrowing all ids (number + 1) (made ++ cond stays (id ∷ []) []) (made_starts ++ cond stays (first ∷ []) [])
narrowing-more all ids starts number id first end stays made made_starts state are there id_is read end_is test =
    let runs = runs_of all ids in
    let old = all_rows all in
    let before = joined (runs_of all (take number ids)) in
    let first_is : first ≡ length before = start-read runs starts number first are (omega (arith, there, length-map ids old)) read ∙ start-is old ids number in
    let run : joined (runs_of all (take (number + 1) ids)) ≡ before ++ rows_of id all = done-run old old ids number there ∙ ap (λ t. before ++ old t) (sym id_is) in
    let end_at : end ≡ length before + length (rows_of id all) = end_is ∙ start-is old ids (number + 1) ∙ ap length run ∙ length-append before (rows_of id all) in
    let count : length (rows_of id all) ≡ length (of_term id all) = length-map (of_term id all) row_of in
    let test_is : stays ≡ has_rows all id = test ∙ same-test first end (length (of_term id all)) (omega (arith, first_is, end_at, count)) in
    let more : take (number + 1) ids ≡ take number ids ++ id ∷ [] = take_more ids number 0 there ∙ ap (λ x. take number ids ++ x ∷ []) (sym id_is) in
    let ids_are : made ++ cond stays (id ∷ []) [] ≡ filter (has_rows all) (take (number + 1) ids) =
    ap (λ xs. xs ++ cond stays (id ∷ []) []) state.ids_are ∙ ap (λ b. filter (has_rows all) (take number ids) ++ cond b (id ∷ []) []) test_is
    ∙ sym (ap (filter (has_rows all)) more ∙ filter-push (has_rows all) (take number ids) id) in
    narrowing-one all ids number id first made made_starts state stays test_is ids_are first_is run

pub narrowing-indexed : (all : List Entry) (ids : List ℕ) (number : ℕ) (made made_starts : List ℕ) (rows : List Row) → IsNarrowing all ids number made made_starts →
    rows ≡ joined (runs_of all ids) → length ids ≤ number → IsIndexed all made made_starts rows
narrowing-indexed all ids number made made_starts rows state are end = record {
  rows_are = are ∙ sym (state.joined_are ∙ ap (λ ts. joined (runs_of all ts)) (take_all number ids end));
  starts_are = state.starts_are;
}

pub narrowing-ids : (all : List Entry) (ids : List ℕ) (number : ℕ) (made made_starts : List ℕ) → IsNarrowing all ids number made made_starts → length ids ≤ number →
    made ≡ filter (has_rows all) ids
narrowing-ids all ids number made made_starts state end = state.ids_are ∙ ap (filter (has_rows all)) (take_all number ids end)

-- a term is one of those that pass a test where it is one of them and passes
filter-head : (b c : Bool) (x t : ℕ) (ids rest : List ℕ) → x ≡ t → b ≡ c → has t rest ≡ (has t ids && c) → has t (cond b (x ∷ rest) rest) ≡ (has t (x ∷ ids) && c)
filter-head true true x t ids rest same is rest_is = has-head x t rest same ∙ sym (ap (λ a. a && true) (has-head x t ids same))
filter-head true false x t ids rest same is rest_is = absurd (true≢false is)
filter-head false true x t ids rest same is rest_is = absurd (true≢false (sym is))
filter-head false false x t ids rest same is rest_is = rest_is ∙ and-false (has t ids) ∙ sym (and-false (has t (x ∷ ids)))

filter-tail : (b : Bool) (x t : ℕ) (rest : List ℕ) → (x ≡ t → ⊥) → has t (cond b (x ∷ rest) rest) ≡ has t rest
filter-tail true x t rest other = has-other x t rest other
filter-tail false x t rest other = refl

pub has-filter : (p : ℕ → Bool) (ids : List ℕ) (t : ℕ) → has t (filter p ids) ≡ (has t ids && p t)
has-filter p [] t = refl
has-filter p (x ∷ ids) t = elim (cases_eq x t) [
  | inl same ↦ filter-head (p x) (p t) x t ids (filter p ids) same (ap p same) (has-filter p ids t)
  | inr other ↦ filter-tail (p x) x t (filter p ids) other ∙ has-filter p ids t ∙ ap (λ b. b && p t) (sym (has-other x t ids other))
]

pub ascending-filter : (p : ℕ → Bool) (ids : List ℕ) → is_ascending ids ≡ true → is_ascending (filter p ids) ≡ true
ascending-filter p [] up = refl
ascending-filter p (x ∷ ids) up =
    let rest = ascending-filter p ids (rest-ascending x ids up) in
    stays (p x) x (filter p ids) rest (ascending-cons x (filter p ids) (λ t inside. first-below x ids up t (and_parts (has t ids) (p t) (sym (has-filter p ids t) ∙ inside)).0) rest)
  where
    stays : (b : Bool) (x : ℕ) (rest : List ℕ) → is_ascending rest ≡ true → is_ascending (x ∷ rest) ≡ true → is_ascending (cond b (x ∷ rest) rest) ≡ true
    stays true x rest without kept = kept
    stays false x rest without kept = without
