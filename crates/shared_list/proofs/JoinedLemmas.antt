-- The items of a list that is cut into blocks, where one block changes.
use Rattle.std.proofs.Common.{◌≡◌, ℕ, ◌+◌, ◌-◌, ◌<◌, ◌≤◌, suc, zero, List, [], ◌∷◌, ◌++◌, length, take, drop, set, get_or, refl, ap, sym, ◌∙◌, arith, append_assoc, length-append, ◌⊎◌, inl, inr}
use Rattle.std.specs.Prelude.{insert, remove}
use Rattle.std.proofs.lemmas.Bool.{cases_lt}
use Rattle.std.proofs.lemmas.List.{set-append_left, set-append_right, take_all, take_more}
use Rattle.std.proofs.lemmas.List.Concat.{flat_map-append, get_or-flat_map}
use Rattle.std.proofs.lemmas.List.Edits.{insert-append_left, insert-append_right, remove-append_left, remove-append_right}
use Rattle.shared_list.specs.Blocks.{joined, start_of, IsBlockOf, IsRun}

-- all items are those before a block, its own, and those after it
pub joined-cut : {T : Type 0} (blocks : List (List T)) (k : ℕ) → k < length blocks →
    joined blocks ≡ joined (take k blocks) ++ (get_or blocks k [] ++ joined (drop (suc k) blocks))
joined-cut [] k there = absurd (omega arith)
joined-cut (b ∷ rest) zero there = refl
joined-cut (b ∷ rest) (suc k) there =
    ap (λ ys. b ++ ys) (joined-cut rest k (omega arith)) ∙ sym (append_assoc b (joined (take k rest)) (get_or rest k [] ++ joined (drop (suc k) rest)))

-- the same with another block in its place
pub joined-set : {T : Type 0} (blocks : List (List T)) (k : ℕ) (new : List T) → k < length blocks →
    joined (set blocks k new) ≡ joined (take k blocks) ++ (new ++ joined (drop (suc k) blocks))
joined-set [] k new there = absurd (omega arith)
joined-set (b ∷ rest) zero new there = refl
joined-set (b ∷ rest) (suc k) new there =
    ap (λ ys. b ++ ys) (joined-set rest k new (omega arith)) ∙ sym (append_assoc b (joined (take k rest)) (new ++ joined (drop (suc k) rest)))

-- an item put into a block is put into the list at the block's start and the place in the block
pub joined-put : {T : Type 0} (blocks : List (List T)) (k at : ℕ) (x : T) → k < length blocks → at ≤ length (get_or blocks k []) →
    joined (set blocks k (insert (get_or blocks k []) at x)) ≡ insert (joined blocks) (start_of blocks k + at) x
joined-put blocks k at x there within =
    let b = get_or blocks k [] in
    let prefix = joined (take k blocks) in
    let back = joined (drop (suc k) blocks) in
    let n : length prefix + at - length prefix ≡ at = omega arith in
    joined-set blocks k (insert b at x) there
    ∙ ap (λ ys. prefix ++ ys) (sym (insert-append_left b back at x within))
    ∙ ap (λ i. prefix ++ insert (b ++ back) i x) (sym n)
    ∙ sym (insert-append_right prefix (b ++ back) (length prefix) (length prefix + at) x refl (omega arith))
    ∙ ap (λ ys. insert ys (start_of blocks k + at) x) (sym (joined-cut blocks k there))

-- an item taken out of a block is taken out of the list
pub joined-take : {T : Type 0} (blocks : List (List T)) (k at : ℕ) → k < length blocks → at < length (get_or blocks k []) →
    joined (set blocks k (remove (get_or blocks k []) at)) ≡ remove (joined blocks) (start_of blocks k + at)
joined-take blocks k at there within =
    let b = get_or blocks k [] in
    let prefix = joined (take k blocks) in
    let back = joined (drop (suc k) blocks) in
    let n : length prefix + at - length prefix ≡ at = omega arith in
    joined-set blocks k (remove b at) there
    ∙ ap (λ ys. prefix ++ ys) (sym (remove-append_left b back at within))
    ∙ ap (λ i. prefix ++ remove (b ++ back) i) (sym n)
    ∙ sym (remove-append_right prefix (b ++ back) (length prefix) (length prefix + at) refl (omega arith))
    ∙ ap (λ ys. remove ys (start_of blocks k + at)) (sym (joined-cut blocks k there))

-- an item that comes in the place of another of a block comes there in the list
pub joined-replace : {T : Type 0} (blocks : List (List T)) (k at : ℕ) (x : T) → k < length blocks → at < length (get_or blocks k []) →
    joined (set blocks k (set (get_or blocks k []) at x)) ≡ set (joined blocks) (start_of blocks k + at) x
joined-replace blocks k at x there within =
    let b = get_or blocks k [] in
    let prefix = joined (take k blocks) in
    let back = joined (drop (suc k) blocks) in
    let n : length prefix + at - length prefix ≡ at = omega arith in
    joined-set blocks k (set b at x) there
    ∙ ap (λ ys. prefix ++ ys) (sym (set-append_left b back at x within))
    ∙ ap (λ i. prefix ++ set (b ++ back) i x) (sym n)
    ∙ sym (set-append_right prefix (b ++ back) (length prefix) (length prefix + at) x refl (omega arith))
    ∙ ap (λ ys. set ys (start_of blocks k + at) x) (sym (joined-cut blocks k there))

-- an item of a block is the item of the list at the block's start and the place in the block
pub joined-item : {T : Type 0} (blocks : List (List T)) (k at : ℕ) (d : T) → k < length blocks → at < length (get_or blocks k []) →
    get_or (joined blocks) (start_of blocks k + at) d ≡ get_or (get_or blocks k []) at d
joined-item {T = T} blocks k at d there within = get_or-flat_map (λ (b : List T). b) blocks k at [] d there within

-- a block without items doesn't count
pub joined-forget : {T : Type 0} (blocks : List (List T)) (k : ℕ) → k < length blocks → get_or blocks k [] ≡ [] →
    joined (remove blocks k) ≡ joined blocks
joined-forget [] k there empty = absurd (omega arith)
joined-forget (b ∷ rest) zero there empty = ap (λ ys. ys ++ joined rest) (sym empty)
joined-forget (b ∷ rest) (suc k) there empty = ap (λ ys. b ++ ys) (joined-forget rest k (omega arith) empty)

-- the next block starts after this one
pub start-next : {T : Type 0} (blocks : List (List T)) (k : ℕ) → k < length blocks →
    start_of blocks (k + 1) ≡ start_of blocks k + length (get_or blocks k [])
start-next {T = T} blocks k there =
    let block = get_or blocks k [] in
    let prefix = joined (take k blocks) in
    let sum : length (prefix ++ joined (block ∷ [])) ≡ length prefix + length block =
    omega (arith, length-append prefix (joined (block ∷ [])), length-append block (joined {T = T} [])) in
    ap (λ bs. length (joined bs)) (take_more blocks k [] there) ∙ ap length (flat_map-append (λ (b : List T). b) (take k blocks) (block ∷ [])) ∙ sum

-- a place before the start of the next block is before the end of this one, or this one is the last
block-end : {T : Type 0} (blocks : List (List T)) (k at : ℕ) → k < length blocks → (k + 1 < length blocks → at < start_of blocks (k + 1)) →
    (at < start_of blocks k + length (get_or blocks k [])) ⊎ (length (joined blocks) ≡ start_of blocks k + length (get_or blocks k []))
block-end blocks k at there next = elim (cases_lt (k + 1) (length blocks)) [
  | inl more ↦ inl (omega (arith, start-next blocks k there, next more))
  | inr last ↦ inr (sym (ap (λ bs. length (joined bs)) (take_all (k + 1) blocks last)) ∙ start-next blocks k there)
]

-- the blocks with two blocks in the place of one
abbrev pub halved : {T : Type 0} → List (List T) → ℕ → List T → List T → List (List T)
halved [] k prefix back = []
halved (b ∷ rest) zero prefix back = prefix ∷ back ∷ rest
halved (b ∷ rest) (suc k) prefix back = b ∷ halved rest k prefix back

pub set-insert : {T : Type 0} (blocks : List (List T)) (k : ℕ) (prefix back : List T) → k < length blocks →
    set (insert blocks (suc k) back) k prefix ≡ halved blocks k prefix back
set-insert [] k prefix back there = absurd (omega arith)
set-insert (b ∷ rest) zero prefix back there = refl
set-insert (b ∷ rest) (suc k) prefix back there = ap (λ bs. b ∷ bs) (set-insert rest k prefix back (omega arith))

pub joined-halved : {T : Type 0} (blocks : List (List T)) (k : ℕ) (prefix back : List T) → k < length blocks → prefix ++ back ≡ get_or blocks k [] →
    joined (halved blocks k prefix back) ≡ joined blocks
joined-halved [] k prefix back there halves = absurd (omega arith)
joined-halved (b ∷ rest) zero prefix back there halves = sym (append_assoc prefix back (joined rest)) ∙ ap (λ ys. ys ++ joined rest) halves
joined-halved (b ∷ rest) (suc k) prefix back there halves = ap (λ ys. b ++ ys) (joined-halved rest k prefix back (omega arith) halves)

pub put-place : {T : Type 0} (blocks : List (List T)) (at k : ℕ) → IsBlockOf blocks at k → at ≤ length (joined blocks) → at - start_of blocks k ≤ length (get_or blocks k [])
put-place blocks at k is within = elim (block-end blocks k at is.there is.to) [
  | inl inside ↦ omega (arith, inside, is.from)
  | inr last ↦ omega (arith, last, within, is.from)
]

pub take-place : {T : Type 0} (blocks : List (List T)) (at k : ℕ) → IsBlockOf blocks at k → at < length (joined blocks) → at - start_of blocks k < length (get_or blocks k [])
take-place blocks at k is within = elim (block-end blocks k at is.there is.to) [
  | inl inside ↦ omega (arith, inside, is.from)
  | inr last ↦ omega (arith, last, within, is.from)
]

pub put-at : {T : Type 0} (blocks : List (List T)) (at k : ℕ) (x : T) → IsBlockOf blocks at k → at ≤ length (joined blocks) →
    joined (set blocks k (insert (get_or blocks k []) (at - start_of blocks k) x)) ≡ insert (joined blocks) at x
put-at blocks at k x is within =
    let e : start_of blocks k + (at - start_of blocks k) ≡ at = omega (arith, is.from) in
    joined-put blocks k (at - start_of blocks k) x is.there (put-place blocks at k is within) ∙ ap (λ i. insert (joined blocks) i x) e

pub take-at : {T : Type 0} (blocks : List (List T)) (at k : ℕ) → IsBlockOf blocks at k → at < length (joined blocks) →
    joined (set blocks k (remove (get_or blocks k []) (at - start_of blocks k))) ≡ remove (joined blocks) at
take-at blocks at k is within =
    let e : start_of blocks k + (at - start_of blocks k) ≡ at = omega (arith, is.from) in
    joined-take blocks k (at - start_of blocks k) is.there (take-place blocks at k is within) ∙ ap (λ i. remove (joined blocks) i) e

pub replace-at : {T : Type 0} (blocks : List (List T)) (at k : ℕ) (x : T) → IsBlockOf blocks at k → at < length (joined blocks) →
    joined (set blocks k (set (get_or blocks k []) (at - start_of blocks k) x)) ≡ set (joined blocks) at x
replace-at blocks at k x is within =
    let e : start_of blocks k + (at - start_of blocks k) ≡ at = omega (arith, is.from) in
    joined-replace blocks k (at - start_of blocks k) x is.there (take-place blocks at k is within) ∙ ap (λ i. set (joined blocks) i x) e

pub item-at : {T : Type 0} (blocks : List (List T)) (at k : ℕ) (d : T) → IsBlockOf blocks at k → at < length (joined blocks) →
    get_or (get_or blocks k []) (at - start_of blocks k) d ≡ get_or (joined blocks) at d
item-at blocks at k d is within =
    let e : start_of blocks k + (at - start_of blocks k) ≡ at = omega (arith, is.from) in
    sym (joined-item blocks k (at - start_of blocks k) d is.there (take-place blocks at k is within)) ∙ ap (λ i. get_or (joined blocks) i d) e

-- two blocks in the place of one hold the same items
pub joined-split : {T : Type 0} (blocks : List (List T)) (k : ℕ) (prefix back : List T) → k < length blocks → prefix ++ back ≡ get_or blocks k [] →
    joined (set (insert blocks (k + 1) back) k prefix) ≡ joined blocks
joined-split blocks k prefix back there halves =
    let next : k + 1 ≡ suc k = omega arith in
    ap (λ i. joined (set (insert blocks i back) k prefix)) next
    ∙ ap (λ bs. joined bs) (set-insert blocks k prefix back there)
    ∙ joined-halved blocks k prefix back there halves

-- a block's items stand in the list from its start on
start-upto : {T : Type 0} (blocks : List (List T)) (k : ℕ) → start_of blocks k ≤ length (joined blocks)
start-upto [] zero = omega arith
start-upto [] (suc k) = omega arith
start-upto (b ∷ rest) zero = omega arith
start-upto (b ∷ rest) (suc k) = omega (arith, start-upto rest k, length-append b (joined (take k rest)), length-append b (joined rest))

pub block-run : {T : Type 0} (blocks : List (List T)) (k : ℕ) → k < length blocks → IsRun (joined blocks) (start_of blocks k) (get_or blocks k [])
block-run blocks k there =
    record {
      within = omega (arith, start-next blocks k there, start-upto blocks (k + 1));
      same = λ at d within. sym (joined-item blocks k at d there within);
    }
