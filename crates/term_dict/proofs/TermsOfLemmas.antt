-- The terms of ids: where an id comes in or goes out, and which entry one of them has.
use Rattle.std.proofs.Common.{◌≡◌, ℕ, ◌+◌, ◌<◌, ◌≤◌, suc, zero, true, nat_lt, ◌&&◌, List, [], ◌∷◌, ◌++◌, length, get_or, refl, ap, ◌∙◌, arith}
use Rattle.std.specs.Prelude.{insert, remove}
use Rattle.std.proofs.lemmas.Bool.{and_parts, lt-ltb, ltb-true}
use Rattle.std.proofs.lemmas.List.{get_or_append_left, get_or_default, length-map}
use Rattle.index_meaning.specs.Entries.{Entry, entry}
use Rattle.index_meaning.specs.Dictionaries.{term, entries, ids, dictionary}
use Rattle.shared_list.specs.Blocks.{IsRun}
use Rattle.term_dict.specs.Given.{are_below, term_of, terms_of}
use Rattle.term_dict.proofs.GivenLemmas.{last-is}

pub length-terms : (given : List Entry) (ns : List ℕ) → length (terms_of given ns) ≡ length ns
length-terms given ns = length-map ns (term_of given)

pub ids-of : (given : List Entry) (ns : List ℕ) → ids (terms_of given ns) ≡ ns
ids-of given [] = refl
ids-of given (n ∷ ns) = ap (λ ms. n ∷ ms) (ids-of given ns)

-- ---- ids of entries that came in

pub below-at : (count : ℕ) (ns : List ℕ) (k d : ℕ) → are_below count ns ≡ true → k < length ns → get_or ns k d < count
below-at count [] k d h within = absurd (omega (arith, within))
below-at count (n ∷ ns) zero d h within = ltb-true n count (and_parts (nat_lt n count) (are_below count ns) h).0
below-at count (n ∷ ns) (suc k) d h within = below-at count ns k d (and_parts (nat_lt n count) (are_below count ns) h).1 (omega (arith, within))

below-more : (count more : ℕ) (ns : List ℕ) → count ≤ more → are_below count ns ≡ true → are_below more ns ≡ true
below-more count more [] upto h = refl
below-more count more (n ∷ ns) upto h =
    let parts = and_parts (nat_lt n count) (are_below count ns) h in
    let first : nat_lt n more ≡ true = lt-ltb n more (omega (arith, upto, ltb-true n count parts.0)) in
    λ i. first i && below-more count more ns upto parts.1 i

below-insert : (count : ℕ) (ns : List ℕ) (k n : ℕ) → n < count → are_below count ns ≡ true → are_below count (insert ns k n) ≡ true
below-insert count [] zero n under h = λ i. lt-ltb n count under i && true
below-insert count [] (suc k) n under h = λ i. lt-ltb n count under i && true
below-insert count (m ∷ ns) zero n under h = λ i. lt-ltb n count under i && h i
below-insert count (m ∷ ns) (suc k) n under h =
    let parts = and_parts (nat_lt m count) (are_below count ns) h in λ i. parts.0 i && below-insert count ns k n under parts.1 i

pub below-put : (count more : ℕ) (ns ms : List ℕ) (k n : ℕ) → n < more → count ≤ more → ms ≡ insert ns k n → are_below count ns ≡ true → are_below more ms ≡ true
below-put count more ns ms k n under upto is h = ap (are_below more) is ∙ below-insert more ns k n under (below-more count more ns upto h)

pub below-remove : (count : ℕ) (ns : List ℕ) (k : ℕ) → are_below count ns ≡ true → are_below count (remove ns k) ≡ true
below-remove count [] zero h = refl
below-remove count [] (suc k) h = refl
below-remove count (m ∷ ns) zero h = (and_parts (nat_lt m count) (are_below count ns) h).1
below-remove count (m ∷ ns) (suc k) h =
    let parts = and_parts (nat_lt m count) (are_below count ns) h in λ i. parts.0 i && below-remove count ns k parts.1 i

-- ---- the entry of one of them

pub entry-of : (given : List Entry) (ns : List ℕ) (k n : ℕ) (d : Entry) → are_below (length given) ns ≡ true → k < length ns → n ≡ get_or ns k n →
    get_or given n d ≡ get_or (entries (terms_of given ns)) k d
entry-of given [] k n d h within is = absurd (omega (arith, within))
entry-of given (m ∷ ns) zero n d h within is =
    let under : m < length given = ltb-true m (length given) (and_parts (nat_lt m (length given)) (are_below (length given) ns) h).0 in
    ap (λ i. get_or given i d) is ∙ get_or_default given m d (entry [] []) under
entry-of given (m ∷ ns) (suc k) n d h within is =
    entry-of given ns k n d (and_parts (nat_lt m (length given)) (are_below (length given) ns) h).1 (omega (arith, within)) is

-- the same of an id that was read in a block
pub run-entry : (given : List Entry) (ns items : List ℕ) (start offset k : ℕ) → are_below (length given) ns ≡ true → IsRun (ids (terms_of given ns)) start items →
    offset < length items → start + offset ≡ k →
    (get_or items offset 0 < length given) × ((d : Entry) → get_or given (get_or items offset 0) d ≡ get_or (entries (terms_of given ns)) k d)
run-entry given ns items start offset k h run inside place =
    let n = get_or items offset 0 in
    let within : k < length ns = omega (arith, run.within, inside, place, ap length (ids-of given ns)) in
    let is : n ≡ get_or ns k 0 =
    run.same offset 0 inside ∙ ap (λ (ms : List ℕ). get_or ms (start + offset) 0) (ids-of given ns) ∙ ap (λ j. get_or ns j 0) place in (
      omega (arith, is, below-at (length given) ns k 0 h within),
      λ d. entry-of given ns k n d h within (is ∙ get_or_default ns k 0 n within),
    )

-- ---- a term comes in, and one goes out

terms-insert : (given : List Entry) (ns : List ℕ) (k n : ℕ) → terms_of given (insert ns k n) ≡ insert (terms_of given ns) k (term_of given n)
terms-insert given [] zero n = refl
terms-insert given [] (suc k) n = refl
terms-insert given (m ∷ ns) zero n = refl
terms-insert given (m ∷ ns) (suc k) n = ap (λ ts. term_of given m ∷ ts) (terms-insert given ns k n)

terms-more : (given : List Entry) (e : Entry) (ns : List ℕ) → are_below (length given) ns ≡ true → terms_of (given ++ e ∷ []) ns ≡ terms_of given ns
terms-more given e [] h = refl
terms-more given e (n ∷ ns) h =
    let parts = and_parts (nat_lt n (length given)) (are_below (length given) ns) h in
    let first = get_or_append_left given (e ∷ []) (entry [] []) n (ltb-true n (length given) parts.0) in
    λ i. term (first i) n ∷ terms-more given e ns parts.1 i

pub terms-put : (given after : List Entry) (e : Entry) (ns ms : List ℕ) (k n : ℕ) → are_below (length given) ns ≡ true → ms ≡ insert ns k n → n ≡ length given → after ≡ given ++ e ∷ [] →
    dictionary (terms_of after ms) after ≡ dictionary (insert (terms_of given ns) k (term e (length given))) (given ++ e ∷ [])
terms-put given after e ns ms k n h is_ms is_n is_after =
    let more = given ++ e ∷ [] in
    let last : term_of more (length given) ≡ term e (length given) = ap (λ f. term f (length given)) (last-is given e (entry [] [])) in
    let all : terms_of more (insert ns k (length given)) ≡ insert (terms_of given ns) k (term e (length given)) =
    terms-insert more ns k (length given) ∙ (λ i. insert (terms-more given e ns h i) k (last i)) in
    (λ i. dictionary (terms_of (is_after i) (is_ms i)) (is_after i)) ∙ ap (λ m. dictionary (terms_of more (insert ns k m)) more) is_n ∙ ap (λ ts. dictionary ts more) all

pub terms-take : (given : List Entry) (ns : List ℕ) (k : ℕ) → terms_of given (remove ns k) ≡ remove (terms_of given ns) k
terms-take given [] zero = refl
terms-take given [] (suc k) = refl
terms-take given (m ∷ ns) zero = refl
terms-take given (m ∷ ns) (suc k) = ap (λ ts. term_of given m ∷ ts) (terms-take given ns k)
