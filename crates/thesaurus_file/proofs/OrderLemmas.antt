-- Phrases that are put in order: what is among them, and that lists with the same phrases give the same order.
use Rattle.std.proofs.Common.{◌≡◌, ◌∙◌, sym, ap, subst, refl, Bool, true, false, ◌||◌, List, [], ◌∷◌, map, Option, Some, None, is_some, true≢false, T}
use Rattle.std.specs.declared.cmp.Ordering.{Ordering}
use Rattle.std.specs.declared.cmp.Ordering.TheVariants.{Less, Equal, Greater}
use Rattle.std.specs.Ordering.{is_lt, match_ordering}
use Rattle.std.specs.Cmp.{IsTotalOrder, Equal-is}
use Rattle.std.specs.Cmp.Lexicographic.{lists_total, nat_list_cmp_total}
use Rattle.std.specs.List.{AllByRecursion, list_any, fold}
use Rattle.std.specs.List.Sorted.{IsStrictlySortedBy}
use Rattle.std.specs.BTreeSet.{insert_key}
use Rattle.std.specs.FinMap.{slice_cmp-IsAntisymmetric, nat_cmp-IsAntisymmetric}
use Rattle.std.specs.FinMap.Entries.{below_all, by_order, put, find, is_sorted, is_some-find, is_sorted-put, same_entries}
use Rattle.std.proofs.Math.Bool.{or-false, or_self_left, or_assoc, or_comm}
use Rattle.std.proofs.Math.Facts.{and_yes}
use Rattle.thesaurus_file.specs.Phrases.{Phrase, in_order, phrase_cmp, phrase_eq}

pub phrase_total : IsTotalOrder phrase_cmp
phrase_total = lists_total nat_list_cmp_total

pub same_phrase : (x y : Phrase) → phrase_cmp x y ≡ Equal → x ≡ y
same_phrase = slice_cmp-IsAntisymmetric (slice_cmp-IsAntisymmetric nat_cmp-IsAntisymmetric)

pub same_from_eq : (x y : Phrase) → phrase_eq x y ≡ true → x ≡ y
same_from_eq x y h = same_phrase x y ((Equal-is (phrase_cmp x y)).0 h)

-- ---- what is among them

pub any_insert_key : (t : Phrase → Bool) (k : Phrase) (ks : List Phrase) → list_any t (insert_key phrase_cmp ks k) ≡ (t k || list_any t ks)
any_insert_key t k [] = refl
any_insert_key t k (x ∷ xs) =
    elim (phrase_cmp k x) as (λ r. phrase_cmp k x ≡ r → list_any t (match_ordering r (k ∷ x ∷ xs) (x ∷ xs) (x ∷ insert_key phrase_cmp xs k)) ≡ (t k || (t x || list_any t xs))) [
      | Less ↦ λ p. refl
      | Equal ↦ λ p. sym (or_self_left (t x) (list_any t xs)) ∙ ap (λ y. t y || (t x || list_any t xs)) (sym (same_phrase k x p))
      | Greater ↦ λ p. ap (λ b. t x || b) (any_insert_key t k xs) ∙ sym (or_assoc (t x) (t k) (list_any t xs)) ∙ ap (λ b. b || list_any t xs) (or_comm (t x) (t k)) ∙ or_assoc (t k) (t x) (list_any t xs)
    ] refl

pub any_fold : (t : Phrase → Bool) (ks seen : List Phrase) → list_any t (fold (insert_key phrase_cmp) seen ks) ≡ (list_any t ks || list_any t seen)
any_fold t [] seen = refl
any_fold t (k ∷ ks) seen =
    any_fold t ks (insert_key phrase_cmp seen k)
    ∙ ap (λ b. list_any t ks || b) (any_insert_key t k seen)
    ∙ sym (or_assoc (list_any t ks) (t k) (list_any t seen)) ∙ ap (λ b. b || list_any t seen) (or_comm (list_any t ks) (t k))

pub any_in_order : (t : Phrase → Bool) (ks : List Phrase) → list_any t (in_order ks) ≡ list_any t ks
any_in_order t ks = any_fold t ks [] ∙ or-false (list_any t ks)

-- ---- the order

abbrev marked : List Phrase → List (Phrase × Unit {0})
marked ks = map (λ k. (k, tt)) ks

put_marked : (k : Phrase) (ks : List Phrase) → put phrase_cmp k tt (marked ks) ≡ marked (insert_key phrase_cmp ks k)
put_marked k [] = refl
put_marked k (x ∷ xs) =
    elim (phrase_cmp k x) as (λ r. by_order r ((k, tt) ∷ (x, tt) ∷ marked xs) ((x, tt) ∷ marked xs) ((x, tt) ∷ put phrase_cmp k tt (marked xs))
    ≡ marked (match_ordering r (k ∷ x ∷ xs) (x ∷ xs) (x ∷ insert_key phrase_cmp xs k)))
    [ Less ↦ refl | Equal ↦ refl | Greater ↦ ap (λ l. (x, tt) ∷ l) (put_marked k xs) ]

sorted_fold : (ks done : List Phrase) → T (is_sorted phrase_cmp (marked done)) → T (is_sorted phrase_cmp (marked (fold (insert_key phrase_cmp) done ks)))
sorted_fold [] done s = s
sorted_fold (k ∷ ks) done s =
    sorted_fold ks (insert_key phrase_cmp done k) (subst (λ l. T (is_sorted phrase_cmp l)) (put_marked k done) (is_sorted-put phrase_cmp phrase_total k tt (marked done) s))

unmarked : (ks : List Phrase) → map (λ (e : Phrase × Unit {0}). e.0) (marked ks) ≡ ks
unmarked [] = refl
unmarked (k ∷ ks) = ap (λ l. k ∷ l) (unmarked ks)

found : (q : Phrase) (ks : List Phrase) → is_some (find phrase_cmp q (marked ks)) ≡ list_any (phrase_eq q) ks
found q ks = is_some-find phrase_cmp q (marked ks) ∙ ap (list_any (phrase_eq q)) (unmarked ks)

same_mark : (a b : Option (Unit {0})) → is_some a ≡ is_some b → a ≡ b
same_mark None None e = refl
same_mark None (Some u) e = absurd (true≢false (sym e))
same_mark (Some u) None e = absurd (true≢false e)
same_mark (Some u) (Some v) e = refl

-- lists with the same phrases give the same order
pub in_order_same : (xs ys : List Phrase) → ((q : Phrase) → list_any (phrase_eq q) xs ≡ list_any (phrase_eq q) ys) → in_order xs ≡ in_order ys
in_order_same xs ys same =
    sym (unmarked (in_order xs))
    ∙ ap (map (λ (e : Phrase × Unit {0}). e.0)) (same_entries phrase_cmp phrase_total same_phrase (marked (in_order xs)) (marked (in_order ys)) (sorted_fold xs [] tt) (sorted_fold ys [] tt)
    (λ q. same_mark _ _ (found q (in_order xs) ∙ any_in_order (phrase_eq q) xs ∙ same q ∙ sym (any_in_order (phrase_eq q) ys) ∙ sym (found q (in_order ys)))))
    ∙ unmarked (in_order ys)

-- ---- each once, and each before the next

is_less : (r : Ordering) → T (is_lt r) → r ≡ Less
is_less Less h = refl
is_less Equal h = absurd h
is_less Greater h = absurd h

before_all : (k : Phrase) (ks : List Phrase) → T (below_all phrase_cmp k (marked ks)) → AllByRecursion (λ y. phrase_cmp k y ≡ Less) ks
before_all k [] h = tt
before_all k (x ∷ xs) h = let both = and_yes (is_lt (phrase_cmp k x)) (below_all phrase_cmp k (marked xs)) h in (is_less (phrase_cmp k x) both.0, before_all k xs both.1)

sorted_marks : (ks : List Phrase) → T (is_sorted phrase_cmp (marked ks)) → IsStrictlySortedBy phrase_cmp ks
unfolding IsStrictlySortedBy
sorted_marks [] h = tt
sorted_marks (k ∷ ks) h = let both = and_yes (below_all phrase_cmp k (marked ks)) (is_sorted phrase_cmp (marked ks)) h in (before_all k ks both.0, sorted_marks ks both.1)

pub sorted_in_order : (ks : List Phrase) → IsStrictlySortedBy phrase_cmp (in_order ks)
sorted_in_order ks = sorted_marks (in_order ks) (sorted_fold ks [] tt)
