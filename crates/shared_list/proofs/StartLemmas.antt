-- Where the blocks of a list start, where one block changes.
use Rattle.std.proofs.Common.{◌≡◌, ℕ, ◌+◌, ◌<◌, ◌≤◌, suc, zero, List, [], ◌∷◌, ◌++◌, length, take, set, get_or, refl, ap, sym, subst, ◌∙◌, arith, length-append, length-set, inl, inr}
use Rattle.std.specs.Prelude.{insert, remove}
use Rattle.std.proofs.lemmas.Bool.{cases_lt}
use Rattle.std.proofs.lemmas.Grind.{same_number_lists}
use Rattle.std.proofs.lemmas.List.{take-set-le, get_or_read}
use Rattle.shared_list.specs.Blocks.{joined, start_of, starts_from, IsBlockOf, IsRaised}
use Rattle.shared_list.proofs.JoinedLemmas.{halved, set-insert}

pub starts-length : {T : Type 0} (n : ℕ) (blocks : List (List T)) → length (starts_from n blocks) ≡ length blocks
starts-length n [] = refl
starts-length n (b ∷ rest) = ap suc (starts-length (n + length b) rest)

pub starts-at : {T : Type 0} (n : ℕ) (blocks : List (List T)) (k : ℕ) → k < length blocks → get_or (starts_from n blocks) k 0 ≡ n + start_of blocks k
starts-at n [] k there = absurd (omega arith)
starts-at n (b ∷ rest) zero there = omega arith
starts-at n (b ∷ rest) (suc k) there = omega (arith, starts-at (n + length b) rest k (omega arith), length-append b (joined (take k rest)))

-- one block more
pub starts-push : {T : Type 0} (n : ℕ) (blocks : List (List T)) (new : List T) → starts_from n (blocks ++ new ∷ []) ≡ starts_from n blocks ++ (n + length (joined blocks)) ∷ []
starts-push n [] new = let e : n ≡ n + 0 = omega arith in ap (λ m. m ∷ []) e
starts-push n (b ∷ rest) new =
    let e : n + length b + length (joined rest) ≡ n + length (joined (b ∷ rest)) = omega (arith, length-append b (joined rest)) in
    ap (λ ys. n ∷ ys) (starts-push (n + length b) rest new ∙ ap (λ m. starts_from (n + length b) rest ++ m ∷ []) e)

-- a block of the same length moves no start
pub starts-same : {T : Type 0} (n : ℕ) (blocks : List (List T)) (k : ℕ) (new : List T) → k < length blocks → length new ≡ length (get_or blocks k []) →
    starts_from n (set blocks k new) ≡ starts_from n blocks
starts-same n [] k new there same = absurd (omega arith)
starts-same n (b ∷ rest) zero new there same = ap (λ m. n ∷ starts_from (n + m) rest) same
starts-same n (b ∷ rest) (suc k) new there same = ap (λ ys. n ∷ ys) (starts-same (n + length b) rest k new (omega arith) same)

pub starts-forget : {T : Type 0} (n : ℕ) (blocks : List (List T)) (k : ℕ) → k < length blocks → get_or blocks k [] ≡ [] →
    starts_from n (remove blocks k) ≡ remove (starts_from n blocks) k
starts-forget n [] k there empty = absurd (omega arith)
starts-forget n (b ∷ rest) zero there empty = let e : n ≡ n + length b = omega (arith, ap length empty) in ap (λ m. starts_from m rest) e
starts-forget n (b ∷ rest) (suc k) there empty = ap (λ ys. n ∷ ys) (starts-forget (n + length b) rest k (omega arith) empty)

pub starts-halved : {T : Type 0} (n : ℕ) (blocks : List (List T)) (k : ℕ) (prefix back : List T) → k < length blocks → prefix ++ back ≡ get_or blocks k [] →
    starts_from n (halved blocks k prefix back) ≡ insert (starts_from n blocks) (suc k) (n + start_of blocks k + length prefix)
starts-halved n [] k prefix back there halves = absurd (omega arith)
starts-halved n (b ∷ rest) zero prefix back there halves =
    let e : n + length prefix ≡ n + 0 + length prefix = omega arith in
    let e₂ : n + length prefix + length back ≡ n + length b = omega (arith, length-append prefix back, ap length halves) in
    ap (λ m. n ∷ ((n + length prefix) ∷ starts_from m rest)) e₂ ∙ ap (λ m. n ∷ (m ∷ starts_from (n + length b) rest)) e
starts-halved n (b ∷ rest) (suc k) prefix back there halves =
    let e : n + length b + start_of rest k + length prefix ≡ n + start_of (b ∷ rest) (suc k) + length prefix = omega (arith, length-append b (joined (take k rest))) in
    ap (λ ys. n ∷ ys) (starts-halved (n + length b) rest k prefix back (omega arith) halves ∙ ap (λ m. insert (starts_from (n + length b) rest) (suc k) m) e)

-- how much longer the prefix gets by a longer block
length-set_block : {T : Type 0} (blocks : List (List T)) (j k : ℕ) (new : List T) → k < j → k < length blocks →
    length (joined (take j (set blocks k new))) + length (get_or blocks k []) ≡ length (joined (take j blocks)) + length new
length-set_block [] j k new beyond there = absurd (omega arith)
length-set_block (b ∷ rest) zero k new beyond there = absurd (omega arith)
length-set_block (b ∷ rest) (suc j) zero new beyond there = omega (arith, length-append b (joined (take j rest)), length-append new (joined (take j rest)))
length-set_block (b ∷ rest) (suc j) (suc k) new beyond there =
    omega (arith, length-set_block rest j k new (omega arith) (omega arith), length-append b (joined (take j rest)), length-append b (joined (take j (set rest k new))))

-- as many blocks, of which those up to one start alike, and those after it one place further on
starts-moved : {T : Type 0} (low high : List (List T)) (k : ℕ) → k < length low → length low ≡ length high → ((j : ℕ) → j ≤ k → start_of low j ≡ start_of high j) → ((j : ℕ) → k < j → start_of high j ≡ start_of low j + 1) →
    IsRaised (k + 1) (starts_from 0 low) (starts_from 0 high)
starts-moved low high k there same prefix further =
    let below = starts-length 0 low in
    let above = starts-length 0 high in
    record {
      same_length = omega arith;
      unmoved = λ j before. omega (arith, starts-at 0 low j (omega arith), starts-at 0 high j (omega arith), prefix j (omega arith));
      beyond = λ j back within. omega (arith, starts-at 0 low j (omega arith), starts-at 0 high j (omega arith), further j (omega arith));
    }

-- a block that got one item longer moves the starts after it
pub starts-shifted : {T : Type 0} (blocks : List (List T)) (k : ℕ) (new : List T) → k < length blocks → length new ≡ length (get_or blocks k []) + 1 →
    IsRaised (k + 1) (starts_from 0 blocks) (starts_from 0 (set blocks k new))
starts-shifted blocks k new there longer =
    starts-moved blocks (set blocks k new) k there (sym (length-set blocks k new)) (λ j prefix. sym (ap (λ bs. length (joined bs)) (take-set-le j blocks k new prefix)))
    (λ j beyond. omega (arith, length-set_block blocks j k new beyond there, longer))

-- a block that got one item shorter
pub starts-lowered : {T : Type 0} (blocks : List (List T)) (k : ℕ) (new : List T) → k < length blocks → length (get_or blocks k []) ≡ length new + 1 →
    IsRaised (k + 1) (starts_from 0 (set blocks k new)) (starts_from 0 blocks)
starts-lowered blocks k new there shorter =
    starts-moved (set blocks k new) blocks k (omega (arith, there, length-set blocks k new)) (length-set blocks k new) (λ j prefix. ap (λ bs. length (joined bs)) (take-set-le j blocks k new prefix))
    (λ j beyond. omega (arith, length-set_block blocks j k new beyond there, shorter))

-- no block starts after the end of the list
pub starts-within : {T : Type 0} (n : ℕ) (blocks : List (List T)) (k : ℕ) → k < length blocks → get_or (starts_from n blocks) k 0 ≤ n + length (joined blocks)
starts-within n [] k there = absurd (omega arith)
starts-within n (b ∷ rest) zero there = omega arith
starts-within n (b ∷ rest) (suc k) there = omega (arith, starts-within (n + length b) rest k (omega arith), length-append b (joined rest))

-- what starts after a block with items starts after the first place
pub starts-beyond : {T : Type 0} (n : ℕ) (blocks : List (List T)) (k j : ℕ) → j < length blocks → k < j → 0 < length (get_or blocks k []) → n < get_or (starts_from n blocks) j 0
starts-beyond n [] k j there beyond some = absurd (omega arith)
starts-beyond n (b ∷ rest) k zero there beyond some = absurd (omega arith)
starts-beyond n (b ∷ rest) zero (suc j) there beyond some = omega (arith, starts-at (n + length b) rest j (omega arith))
starts-beyond n (b ∷ rest) (suc k) (suc j) there beyond some = omega (arith, starts-beyond (n + length b) rest k j (omega arith) (omega arith) some)

-- what is raised, and what it was raised from, is only one list
pub shifted-high : (from : ℕ) (low high other : List ℕ) → IsRaised from low high → IsRaised from low other → high ≡ other
shifted-high from low high other a b = same_number_lists high other (omega (arith, a.same_length, b.same_length)) (λ k within. elim (cases_lt k from) [
  | inl prefix ↦ a.unmoved k prefix ∙ sym (b.unmoved k prefix)
  | inr back ↦ a.beyond k back (omega (arith, a.same_length)) ∙ sym (b.beyond k back (omega (arith, a.same_length)))
])

pub shifted-low : (from : ℕ) (low other high : List ℕ) → IsRaised from low high → IsRaised from other high → low ≡ other
shifted-low from low other high a b = same_number_lists low other (omega (arith, a.same_length, b.same_length)) (λ k within. elim (cases_lt k from) [
  | inl prefix ↦ sym (a.unmoved k prefix) ∙ b.unmoved k prefix
  | inr back ↦ omega (arith, a.beyond k back within, b.beyond k back (omega (arith, a.same_length, b.same_length)))
])

-- the starts after an item came into a block, and after one went out of it
module _ {T : Type 0} (blocks : List (List T)) (k : ℕ) (new : List T) (starts after : List ℕ) (are : starts ≡ starts_from 0 blocks) (there : k < length blocks) where
  pub put-starts : length new ≡ length (get_or blocks k []) + 1 → IsRaised (k + 1) starts after → after ≡ starts_from 0 (set blocks k new)
  put-starts longer shifted =
      shifted-high (k + 1) (starts_from 0 blocks) after (starts_from 0 (set blocks k new)) (subst (λ (xs : List ℕ). IsRaised (k + 1) xs after) are shifted) (starts-shifted blocks k new there longer)

  pub take-starts : length (get_or blocks k []) ≡ length new + 1 → IsRaised (k + 1) after starts → after ≡ starts_from 0 (set blocks k new)
  take-starts shorter shifted =
      shifted-low (k + 1) after (starts_from 0 (set blocks k new)) (starts_from 0 blocks) (subst (λ (xs : List ℕ). IsRaised (k + 1) after xs) are shifted) (starts-lowered blocks k new there shorter)

-- how many starts there are
pub same-length : {T : Type 0} (blocks : List (List T)) (starts : List ℕ) → starts ≡ starts_from 0 blocks → length starts ≡ length blocks
same-length blocks starts are = ap length are ∙ starts-length 0 blocks

start-at : {T : Type 0} (blocks : List (List T)) (starts : List ℕ) (k : ℕ) → starts ≡ starts_from 0 blocks → k < length blocks → get_or starts k 0 ≡ start_of blocks k
start-at blocks starts k are there = omega (arith, ap (λ xs. get_or xs k 0) are, starts-at 0 blocks k there)

-- what a start says that was read
pub start-read : {T : Type 0} (blocks : List (List T)) (starts : List ℕ) (k x : ℕ) → starts ≡ starts_from 0 blocks → k < length blocks → x ≡ get_or starts k x → x ≡ start_of blocks k
start-read blocks starts k x are there read =
    get_or_read starts k x (omega (arith, same-length blocks starts are)) read 0 ∙ start-at blocks starts k are there

-- the first block starts at 0
pub first-start : {T : Type 0} (blocks : List (List T)) (starts : List ℕ) → starts ≡ starts_from 0 blocks → get_or starts 0 0 ≡ 0
first-start [] starts are = ap (λ xs. get_or xs 0 0) are
first-start (b ∷ rest) starts are = ap (λ xs. get_or xs 0 0) are

pub block-of : {T : Type 0} (blocks : List (List T)) (starts : List ℕ) (at k : ℕ) → starts ≡ starts_from 0 blocks → k < length starts → get_or starts k 0 ≤ at →
    (k + 1 < length starts → at < get_or starts (k + 1) 0) → IsBlockOf blocks at k
block-of blocks starts at k are there from to =
    let size = same-length blocks starts are in
    record {
      there = omega arith;
      from = omega (arith, start-at blocks starts k are (omega arith));
      to = λ more. omega (arith, start-at blocks starts (k + 1) are more, to (omega arith));
    }

-- the starts where a block is put after the last one
pub push-starts : {T : Type 0} (blocks : List (List T)) (starts : List ℕ) (start : ℕ) (new : List T) → starts ≡ starts_from 0 blocks → start ≡ length (joined blocks) →
    starts ++ start ∷ [] ≡ starts_from 0 (blocks ++ new ∷ [])
push-starts blocks starts start new are is =
    let e : start ≡ 0 + length (joined blocks) = omega arith in
    ap (λ xs. xs ++ start ∷ []) are ∙ ap (λ n. starts_from 0 blocks ++ n ∷ []) e ∙ sym (starts-push 0 blocks new)

-- the starts after a block went out that had no items
pub forget-starts : {T : Type 0} (blocks : List (List T)) (starts : List ℕ) (k : ℕ) → starts ≡ starts_from 0 blocks → k < length blocks → get_or blocks k [] ≡ [] →
    remove starts k ≡ starts_from 0 (remove blocks k)
forget-starts blocks starts k are there empty = ap (λ xs. remove xs k) are ∙ sym (starts-forget 0 blocks k there empty)

-- the starts after two blocks came in the place of one
pub split-starts : {T : Type 0} (blocks : List (List T)) (starts : List ℕ) (k middle : ℕ) (prefix back : List T) → starts ≡ starts_from 0 blocks → k < length blocks →
    prefix ++ back ≡ get_or blocks k [] → middle ≡ start_of blocks k + length prefix →
    insert starts (k + 1) middle ≡ starts_from 0 (set (insert blocks (k + 1) back) k prefix)
split-starts blocks starts k middle prefix back are there halves is =
    let next : k + 1 ≡ suc k = omega arith in
    let e : middle ≡ 0 + start_of blocks k + length prefix = omega arith in
    ap (λ xs. insert xs (k + 1) middle) are
    ∙ ap (λ i. insert (starts_from 0 blocks) i middle) next
    ∙ ap (λ m. insert (starts_from 0 blocks) (suc k) m) e
    ∙ sym (starts-halved 0 blocks k prefix back there halves)
    ∙ ap (λ bs. starts_from 0 bs) (sym (set-insert blocks k prefix back there))
    ∙ ap (λ i. starts_from 0 (set (insert blocks i back) k prefix)) (sym next)

pub remove-insert : (xs : List ℕ) (i x : ℕ) → i ≤ length xs → remove (insert xs i x) i ≡ xs
remove-insert [] zero x within = refl
remove-insert [] (suc i) x within = absurd (omega arith)
remove-insert (y ∷ xs) zero x within = refl
remove-insert (y ∷ xs) (suc i) x within = ap (λ ys. y ∷ ys) (remove-insert xs i x (omega arith))
