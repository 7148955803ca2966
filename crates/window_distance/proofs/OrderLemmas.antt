-- Which of two hits stands first, and hits put in this order: those at the first place, then the others.
use Rattle.std.proofs.Common.{◌≡◌, refl, ap, sym, ◌∙◌, Bool, true, false, not, ◌&&◌, cond, List, [], ◌∷◌, ◌++◌, arith}
use Rattle.std.specs.Prelude.{filter, Some}
use Rattle.std.specs.List.{list_all}
use Rattle.std.proofs.Math.Bool.{and_assoc, and_comm}
use Rattle.std.proofs.lemmas.Bool.{and_parts, and_from, not-true, true≢false}
use Rattle.std.proofs.lemmas.Bool.Decides.{nat_tests}
use Rattle.ft_base.specs.declared.hit.Hit.{Hit}
use Rattle.all_matches.specs.Distance.{stands_before, put_in_order, in_order}
use Rattle.window_distance.specs.steps.Sorting.{is_after, stands_with}

pub before_itself : (a : Hit) → stands_before a a ≡ true
before_itself a = grind (arith, nat_tests)

pub before_further : (a b c : Hit) → stands_before a b ≡ true → stands_before b c ≡ true → stands_before a c ≡ true
before_further a b c h k = grind (arith, nat_tests)

pub before_turned : (a b : Hit) → stands_before a b ≡ false → stands_before b a ≡ true
before_turned a b h = grind (arith, nat_tests)

-- a test that follows from another one
pub all_follow_from : {X : Type 0} (p q : X → Bool) → ((x : X) → p x ≡ true → q x ≡ true) → (xs : List X) → list_all p xs ≡ true → list_all q xs ≡ true
all_follow_from p q from [] h = refl
all_follow_from p q from (x ∷ xs) h =
    let parts = and_parts (p x) (list_all p xs) h in
    and_from (q x) (list_all q xs) (from x parts.0) (all_follow_from p q from xs parts.1)

pub kept_pass : {X : Type 0} (p q : X → Bool) → ((x : X) → p x ≡ true → q x ≡ true) → (xs : List X) → list_all q (filter p xs) ≡ true
kept_pass p q from [] = refl
kept_pass p q from (x ∷ xs) = one (p x) refl (kept_pass p q from xs)
  where
    one : (b : Bool) → p x ≡ b → list_all q (filter p xs) ≡ true → list_all q (cond b (x ∷ filter p xs) (filter p xs)) ≡ true
    one true e rest = and_from (q x) (list_all q (filter p xs)) (from x e) rest
    one false e rest = rest

-- a hit is put before those that don't stand before it, and after those that do
all-put : (p : Hit → Bool) (hit : Hit) (hits : List Hit) → list_all p (put_in_order hit hits) ≡ (p hit && list_all p hits)
all-put p hit [] = refl
all-put p hit (first ∷ rest) = one (stands_before hit first) (all-put p hit rest)
  where
    one : (b : Bool) → list_all p (put_in_order hit rest) ≡ (p hit && list_all p rest)
        → list_all p (cond b (hit ∷ first ∷ rest) (first ∷ put_in_order hit rest)) ≡ (p hit && (p first && list_all p rest))
    one true after = refl
    one false after = ap (λ c. p first && c) after
        ∙ sym (and_assoc (p first) (p hit) (list_all p rest)) ∙ ap (λ c. c && list_all p rest) (and_comm (p first) (p hit)) ∙ and_assoc (p hit) (p first) (list_all p rest)

all-in_order : (p : Hit → Bool) (hits : List Hit) → list_all p (in_order hits) ≡ list_all p hits
all-in_order p [] = refl
all-in_order p (hit ∷ rest) = all-put p hit (in_order rest) ∙ ap (λ b. p hit && b) (all-in_order p rest)

put_first : (hit : Hit) (hits : List Hit) → list_all (stands_before hit) hits ≡ true → put_in_order hit hits ≡ hit ∷ hits
put_first hit [] h = refl
put_first hit (first ∷ rest) h =
    let parts = and_parts (stands_before hit first) (list_all (stands_before hit) rest) h in
    ap (λ b. cond b (hit ∷ first ∷ rest) (first ∷ put_in_order hit rest)) parts.0

put_after : (hit : Hit) (hits others : List Hit) → list_all (λ other. not (stands_before hit other)) hits ≡ true → put_in_order hit (hits ++ others) ≡ hits ++ put_in_order hit others
put_after hit [] others h = refl
put_after hit (first ∷ rest) others h =
    let parts = and_parts (not (stands_before hit first)) (list_all (λ other. not (stands_before hit other)) rest) h in
    ap (λ b. cond b (hit ∷ first ∷ (rest ++ others)) (first ∷ put_in_order hit (rest ++ others))) (not-true (stands_before hit first) parts.0)
    ∙ ap (λ hits. first ∷ hits) (put_after hit rest others parts.1)

-- of hits that don't stand before a place, first those at the place stand in order
pub parted : (place : Hit) (hits : List Hit) → list_all (stands_before place) hits ≡ true → in_order hits ≡ filter (stands_with place) hits ++ in_order (filter (is_after (Some place)) hits)
parted place [] h = refl
parted place (hit ∷ rest) h =
    let parts = and_parts (stands_before place hit) (list_all (stands_before place) rest) h in
    one (stands_before hit place) refl parts.1 (parted place rest parts.1)
    ∙ ap (λ b. cond (b && stands_before hit place) (hit ∷ filter (stands_with place) rest) (filter (stands_with place) rest)
    ++ in_order (cond (not (stands_before hit place)) (hit ∷ filter (is_after (Some place)) rest) (filter (is_after (Some place)) rest))) (sym parts.0)
  where
    one : (b : Bool) → stands_before hit place ≡ b → list_all (stands_before place) rest ≡ true
        → in_order rest ≡ filter (stands_with place) rest ++ in_order (filter (is_after (Some place)) rest)
        → put_in_order hit (in_order rest) ≡ cond b (hit ∷ filter (stands_with place) rest) (filter (stands_with place) rest)
        ++ in_order (cond (not b) (hit ∷ filter (is_after (Some place)) rest) (filter (is_after (Some place)) rest))
    one true e all same =
        put_first hit (in_order rest) (all-in_order (stands_before hit) rest ∙ all_follow_from (stands_before place) (stands_before hit) (λ other k. before_further hit place other e k) rest all)
        ∙ ap (λ hits. hit ∷ hits) same
    one false e all same =
        ap (put_in_order hit) same
        ∙ put_after hit (filter (stands_with place) rest) (in_order (filter (is_after (Some place)) rest))
        (kept_pass (stands_with place) (λ other. not (stands_before hit other)) (λ other k. after other (stands_before hit other) refl k) rest)
      where
        after : (other : Hit) (b : Bool) → stands_before hit other ≡ b → stands_with place other ≡ true → not b ≡ true
        after other true f k = absurd (true≢false (sym (before_further hit other place f (and_parts (stands_before place other) (stands_before other place) k).1) ∙ e))
        after other false f k = refl
