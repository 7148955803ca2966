-- The next place at which hits stand, and the distances of those there and after it.
use Rattle.std.proofs.Common.{◌≡◌, refl, ap, sym, ◌∙◌, suc, ◌<◌, ◌≤◌, Bool, true, false, not, ◌&&◌, ◌||◌, cond, List, [], ◌∷◌, ◌++◌, length, subst, arith}
use Rattle.std.specs.Prelude.{filter, fold, Option, Some, None, unwrap_or}
use Rattle.std.specs.List.{list_all, list_any}
use Rattle.std.proofs.Math.Bool.{and_assoc}
use Rattle.std.proofs.lemmas.Bool.{and_parts, and_from, or_right, not-true, not_from_true, true≢false, false≢true}
use Rattle.ft_base.specs.declared.hit.Hit.{Hit}
use Rattle.ft_base.specs.declared.range.Range.{Range}
use Rattle.ft_base.specs.declared.unit.TextUnit.{TextUnit}
use Rattle.all_matches.specs.Positions.{start_in, end_in}
use Rattle.all_matches.specs.Distance.{gap_in_range, stands_before, in_order, neighbours_in_range}
use Rattle.window_distance.specs.steps.Sorting.{is_after, stands_with, nearer, first_of, first_after, follows, all_follow, last_of}
use Rattle.window_distance.proofs.OrderLemmas.{before_itself, before_further, before_turned, kept_pass, parted}

module _ {X : Type 0} (p : X → Bool) where
  -- what passes a test passes another one
  pub filter_within : (q : X → Bool) → ((x : X) → p x ≡ true → q x ≡ true) → (xs : List X) → filter p (filter q xs) ≡ filter p xs
  filter_within q from [] = refl
  filter_within q from (x ∷ xs) = one (q x) refl (p x) refl (filter_within q from xs)
    where
      one : (b : Bool) → q x ≡ b → (c : Bool) → p x ≡ c → filter p (filter q xs) ≡ filter p xs
          → filter p (cond b (x ∷ filter q xs) (filter q xs)) ≡ cond (p x) (x ∷ filter p xs) (filter p xs)
      one true e c f same = λ i. cond (p x) (x ∷ same i) (same i)
      one false e true f same = absurd (true≢false (sym (from x f) ∙ e))
      one false e false f same = same ∙ sym (ap (λ a. cond a (x ∷ filter p xs) (filter p xs)) f)

  no_longer : (xs : List X) → length (filter p xs) ≤ length xs
  no_longer [] = omega arith
  no_longer (x ∷ xs) = one (p x) (no_longer xs)
    where
      one : (b : Bool) → length (filter p xs) ≤ length xs → length (cond b (x ∷ filter p xs) (filter p xs)) ≤ suc (length xs)
      one true h = omega arith
      one false h = omega arith

  -- a test that some element fails leaves fewer
  fewer : (xs : List X) → list_any (λ x. not (p x)) xs ≡ true → length (filter p xs) < length xs
  fewer [] h = absurd (false≢true h)
  fewer (x ∷ xs) h = one (p x) h (fewer xs) (no_longer xs)
    where
      one : (b : Bool) → (not b || list_any (λ x. not (p x)) xs) ≡ true → (list_any (λ x. not (p x)) xs ≡ true → length (filter p xs) < length xs)
          → length (filter p xs) ≤ length xs → length (cond b (x ∷ filter p xs) (filter p xs)) < suc (length xs)
      one true e less most = let rest = less e in omega arith
      one false e less most = omega arith

-- the first of some hits is one of them, and stands before each
first_passes : (p : Hit → Bool) (hit : Hit) (rest : List Hit) → list_all p (hit ∷ rest) ≡ true → p (fold nearer hit rest) ≡ true
first_passes p hit [] h = (and_parts (p hit) true h).0
first_passes p hit (x ∷ rest) h =
    let first = and_parts (p hit) (p x && list_all p rest) h in
    let second = and_parts (p x) (list_all p rest) first.1 in
    first_passes p (nearer hit x) rest (and_from (p (nearer hit x)) (list_all p rest) (one (stands_before hit x) first.0 second.0) second.1)
  where
    one : (b : Bool) → p hit ≡ true → p x ≡ true → p (cond b hit x) ≡ true
    one true f g = f
    one false f g = g

first_is_one : (p : Hit → Bool) (hit : Hit) (rest : List Hit) → p (fold nearer hit rest) ≡ true → list_any p (hit ∷ rest) ≡ true
first_is_one p hit [] h = ap (λ b. b || false) h
first_is_one p hit (x ∷ rest) h = one (stands_before hit x) (first_is_one p (nearer hit x) rest h)
  where
    skip : (a b c : Bool) → (a || c) ≡ true → (a || (b || c)) ≡ true
    skip true b c e = refl
    skip false true c e = refl
    skip false false c e = e

    one : (b : Bool) → (p (cond b hit x) || list_any p rest) ≡ true → (p hit || (p x || list_any p rest)) ≡ true
    one true e = skip (p hit) (p x) (list_any p rest) e
    one false e = or_right (p hit) (p x || list_any p rest) e

first_before : (hit : Hit) (rest : List Hit) → list_all (stands_before (fold nearer hit rest)) (hit ∷ rest) ≡ true
first_before hit [] = ap (λ b. b && true) (before_itself hit)
first_before hit (x ∷ rest) =
    let best = fold nearer (nearer hit x) rest in
    let parts = and_parts (stands_before best (nearer hit x)) (list_all (stands_before best) rest) (first_before (nearer hit x) rest) in
    let both = one best (stands_before hit x) refl parts.0 in
    and_from (stands_before best hit) (stands_before best x && list_all (stands_before best) rest) both.0 (and_from (stands_before best x) (list_all (stands_before best) rest) both.1 parts.1)
  where
    one : (best : Hit) (b : Bool) → stands_before hit x ≡ b → stands_before best (cond b hit x) ≡ true → (stands_before best hit ≡ true) × (stands_before best x ≡ true)
    one best true e h = (h, before_further best hit x h e)
    one best false e h = (before_further best x hit h (before_turned hit x e), h)

-- the hits after a place, where the first of them is known
pub record Found (place : Option Hit) (hits : List Hit) (next : Hit) : Type 0 where
  pub parts : in_order (filter (is_after place) hits) ≡ filter (stands_with next) hits ++ in_order (filter (is_after (Some next)) hits)
  pub fewer : length (filter (is_after (Some next)) hits) < length (filter (is_after place) hits)

further : (place : Option Hit) (next hit : Hit) → is_after place next ≡ true → stands_before next hit ≡ true → is_after place hit ≡ true
further None next hit h k = refl
further (Some place) next hit h k = one (stands_before hit place) refl
  where
    one : (b : Bool) → stands_before hit place ≡ b → not b ≡ true
    one true e = absurd (true≢false (sym h ∙ not_from_true (stands_before next place) (before_further next hit place k e)))
    one false e = refl

pub found : (place : Option Hit) (hits : List Hit) (next : Hit) → Some next ≡ first_after place hits → Found place hits next
found place hits next e = one (filter (is_after place) hits) refl e
  where
    one : (past : List Hit) → filter (is_after place) hits ≡ past → Some next ≡ first_of past → Found place hits next
    one [] f e = cc
    one (hit ∷ rest) f e =
        let is : next ≡ fold nearer hit rest = ap (λ o. unwrap_or o next) e in
        let pass : list_all (is_after place) (hit ∷ rest) ≡ true = subst (λ xs. list_all (is_after place) xs ≡ true) f (kept_pass (is_after place) (is_after place) (λ x h. h) hits) in
        let here : is_after place next ≡ true = subst (λ n. is_after place n ≡ true) (sym is) (first_passes (is_after place) hit rest pass) in
        let before : list_all (stands_before next) (filter (is_after place) hits) ≡ true =
        ap (list_all (stands_before next)) f ∙ subst (λ n. list_all (stands_before n) (hit ∷ rest) ≡ true) (sym is) (first_before hit rest) in
        let itself : not (is_after (Some next) next) ≡ true = ap (λ b. not (not b)) (before_itself next) in
        let there : list_any (λ x. not (is_after (Some next) x)) (filter (is_after place) hits) ≡ true =
        ap (list_any (λ x. not (is_after (Some next) x))) f
        ∙ first_is_one (λ x. not (is_after (Some next) x)) hit rest (subst (λ n. not (is_after (Some next) n) ≡ true) is itself) in
        let at_place : filter (stands_with next) (filter (is_after place) hits) ≡ filter (stands_with next) hits =
        filter_within (stands_with next) (is_after place) (λ x h. further place next x here (and_parts (stands_before next x) (stands_before x next) h).0) hits in
        let after_it : filter (is_after (Some next)) (filter (is_after place) hits) ≡ filter (is_after (Some next)) hits =
        filter_within (is_after (Some next)) (is_after place) (λ x h. further place next x here (before_turned x next (not-true (stands_before x next) h))) hits in
        record {
          parts = parted next (filter (is_after place) hits) before ∙ (λ i. at_place i ++ in_order (after_it i));
          fewer = subst (λ n. n < length (filter (is_after place) hits)) (ap length after_it) (fewer (is_after (Some next)) (filter (is_after place) hits) there);
        }

all_of : (hits : List Hit) → filter (is_after None) hits ≡ hits
all_of [] = refl
all_of (hit ∷ rest) = ap (λ hits. hit ∷ hits) (all_of rest)

module _ (range : Range) (kind : TextUnit) where
  follow-append : (last : Option Hit) (hits others : List Hit)
      → all_follow range kind last (hits ++ others) ≡ (all_follow range kind last hits && all_follow range kind (last_of last hits) others)
  follow-append last [] others = refl
  follow-append last (hit ∷ rest) others =
      ap (λ b. follows range kind last hit && b) (follow-append (Some hit) rest others)
      ∙ sym (and_assoc (follows range kind last hit) (all_follow range kind (Some hit) rest) (all_follow range kind (last_of (Some hit) rest) others))

  neighbours_follow : (hits : List Hit) → all_follow range kind None hits ≡ neighbours_in_range range kind hits
  neighbours_follow [] = refl
  neighbours_follow (a ∷ []) = refl
  neighbours_follow (a ∷ b ∷ rest) = ap (λ c. gap_in_range range (end_in kind a) (start_in kind b) && c) (neighbours_follow (b ∷ rest))

  -- the walk from place to place
  pub walk_starts : (hits : List Hit) → all_follow range kind None (in_order (filter (is_after None) hits)) ≡ neighbours_in_range range kind (in_order hits)
  walk_starts hits = ap (λ hits. all_follow range kind None (in_order hits)) (all_of hits) ∙ neighbours_follow (in_order hits)

  module _ (place last : Option Hit) (hits : List Hit) (kept : all_follow range kind last (in_order (filter (is_after place) hits)) ≡ neighbours_in_range range kind (in_order hits)) where
    turned : (next : Hit) → Some next ≡ first_after place hits
        → (all_follow range kind last (filter (stands_with next) hits) && all_follow range kind (last_of last (filter (stands_with next) hits)) (in_order (filter (is_after (Some next)) hits)))
        ≡ neighbours_in_range range kind (in_order hits)
    turned next e =
        sym (follow-append last (filter (stands_with next) hits) (in_order (filter (is_after (Some next)) hits)))
        ∙ sym (ap (all_follow range kind last) (found place hits next e).parts)
        ∙ kept

    pub walk_stops : (next : Hit) → Some next ≡ first_after place hits → false ≡ all_follow range kind last (filter (stands_with next) hits) → false ≡ neighbours_in_range range kind (in_order hits)
    walk_stops next e none = ap (λ b. b && all_follow range kind (last_of last (filter (stands_with next) hits)) (in_order (filter (is_after (Some next)) hits))) none ∙ turned next e

    pub walk_goes_on : (next : Hit) (after : Option Hit) → Some next ≡ first_after place hits → true ≡ all_follow range kind last (filter (stands_with next) hits)
        → after ≡ last_of last (filter (stands_with next) hits)
        → all_follow range kind after (in_order (filter (is_after (Some next)) hits)) ≡ neighbours_in_range range kind (in_order hits)
    walk_goes_on next after e all is =
        (λ i. all i && all_follow range kind (is i) (in_order (filter (is_after (Some next)) hits))) ∙ turned next e
