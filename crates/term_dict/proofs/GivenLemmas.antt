-- Entries in blocks that are full but for the last one, and lists of keys and words as entries.
use Rattle.std.proofs.Common.{◌≡◌, ℕ, ◌+◌, ◌-◌, ◌*◌, ◌/◌, ◌%◌, ◌<◌, ◌≤◌, suc, zero, List, [], ◌∷◌, ◌++◌, length, get_or, refl, ap, sym, ◌∙◌, arith, length-append}
use Rattle.index_meaning.specs.Entries.{Entry, entry}
use Rattle.shared_list.specs.Blocks.{joined, start_of, IsBlockOf}
use Rattle.shared_list.proofs.JoinedLemmas.{start-next, take-place, item-at}
use Rattle.term_dict.specs.Given.{paired, IsFilled}

-- ---- keys and words

pub length-paired : (keys words : List (List ℕ)) → length keys ≡ length words → length (paired keys words) ≡ length words
length-paired [] [] same = refl
length-paired [] (w ∷ words) same = absurd (omega (arith, same))
length-paired (k ∷ keys) [] same = refl
length-paired (k ∷ keys) (w ∷ words) same = ap suc (length-paired keys words (omega (arith, same)))

pub paired-at : (keys words : List (List ℕ)) (n : ℕ) (key word : List ℕ) (e : Entry) → length keys ≡ length words → n < length words →
    get_or (paired keys words) n e ≡ entry (get_or keys n key) (get_or words n word)
paired-at [] [] n key word e same within = absurd (omega (arith, within))
paired-at [] (w ∷ words) n key word e same within = absurd (omega (arith, same))
paired-at (k ∷ keys) [] n key word e same within = absurd (omega (arith, within))
paired-at (k ∷ keys) (w ∷ words) zero key word e same within = refl
paired-at (k ∷ keys) (w ∷ words) (suc n) key word e same within = paired-at keys words n key word e (omega (arith, same)) (omega (arith, within))

pub paired-more : (keys words : List (List ℕ)) (key word : List ℕ) → length keys ≡ length words →
    paired (keys ++ key ∷ []) (words ++ word ∷ []) ≡ paired keys words ++ entry key word ∷ []
paired-more [] [] key word same = refl
paired-more [] (w ∷ words) key word same = absurd (omega (arith, same))
paired-more (k ∷ keys) [] key word same = absurd (omega (arith, same))
paired-more (k ∷ keys) (w ∷ words) key word same = ap (λ es. entry k w ∷ es) (paired-more keys words key word (omega (arith, same)))

-- ---- full blocks

joined-few : (blocks : List (List Entry)) → ((k : ℕ) → k < length blocks → length (get_or blocks k []) ≤ 256) → length (joined blocks) ≤ length blocks * 256
joined-few [] few = omega arith
joined-few (b ∷ rest) few =
    let first : length b ≤ 256 = few 0 (omega arith) in
    omega (arith, first, length-append b (joined rest), joined-few rest (λ k h. few (suc k) (omega (arith, h))))

start-full : (blocks : List (List Entry)) (k : ℕ) → IsFilled blocks → k < length blocks → start_of blocks k ≡ k * 256
start-full blocks zero filled within = refl
start-full blocks (suc k) filled within =
    let next : k + 1 ≡ suc k = omega arith in
    let full : length (get_or blocks k []) ≡ 256 = filled.full k (omega (arith, within)) in
    let start : start_of blocks (suc k) ≡ start_of blocks k + length (get_or blocks k []) =
    sym (ap (start_of blocks) next) ∙ start-next blocks k (omega (arith, within)) in
    omega (arith, start, full, start-full blocks k filled (omega (arith, within)))

pub block-there : (blocks : List (List Entry)) (n : ℕ) → IsFilled blocks → n < length (joined blocks) → n / 256 < length blocks
block-there blocks n filled within = omega (arith, within, joined-few blocks filled.few)

pub is-block : (blocks : List (List Entry)) (n : ℕ) → IsFilled blocks → n < length (joined blocks) → IsBlockOf blocks n (n / 256)
is-block blocks n filled within =
    let there = block-there blocks n filled within in
    record {
      there = there;
      from = omega (arith, start-full blocks (n / 256) filled there);
      to = λ more. omega (arith, start-full blocks (n / 256 + 1) filled more);
    }

offset-is : (blocks : List (List Entry)) (n : ℕ) → IsFilled blocks → n < length (joined blocks) → n - start_of blocks (n / 256) ≡ n % 256
offset-is blocks n filled within = omega (arith, start-full blocks (n / 256) filled (block-there blocks n filled within))

pub offset-within : (blocks : List (List Entry)) (n : ℕ) → IsFilled blocks → n < length (joined blocks) → n % 256 < length (get_or blocks (n / 256) [])
offset-within blocks n filled within =
    omega (arith, offset-is blocks n filled within, take-place blocks n (n / 256) (is-block blocks n filled within) within)

pub entry-at : (blocks : List (List Entry)) (n : ℕ) (e : Entry) → IsFilled blocks → n < length (joined blocks) →
    get_or (get_or blocks (n / 256) []) (n % 256) e ≡ get_or (joined blocks) n e
entry-at blocks n e filled within =
    sym (ap (λ k. get_or (get_or blocks (n / 256) []) k e) (offset-is blocks n filled within))
    ∙ item-at blocks n (n / 256) e (is-block blocks n filled within) within

-- ---- the item that came last

pub last-is : {X : Type 0} (prefix : List X) (x d : X) → get_or (prefix ++ x ∷ []) (length prefix) d ≡ x
last-is [] x d = refl
last-is (y ∷ prefix) x d = last-is prefix x d
