-- The place of an item is that of its block and that in the block.
use Rattle.std.proofs.Common.{◌≡◌, ℕ, ◌+◌, ◌*◌, ◌-◌, ◌/◌, ◌%◌, ◌<◌, ◌≤◌, suc, zero, List, [], ◌∷◌, ◌++◌, length, set, get_or, refl, ap, sym, ◌∙◌, arith, append_assoc, append-nil, length-set}
use Rattle.std.proofs.lemmas.List.{take_all}
use Rattle.shared_list.specs.Blocks.{joined, start_of, IsBlockOf}
use Rattle.shared_list.proofs.JoinedLemmas.{start-next, take-place, replace-at, item-at}
use Rattle.shared_vector.specs.Full.{IsFilled}

-- each block starts after full ones
start-filled : {T : Type 0} (blocks : List (List T)) → IsFilled blocks → (k : ℕ) → k < length blocks → start_of blocks k ≡ k * 64
start-filled blocks filled zero there = refl
start-filled blocks filled (suc k) there =
    let e : suc k ≡ k + 1 = omega arith in
    omega (arith, ap (λ i. start_of blocks i) e, start-next blocks k (omega arith), start-filled blocks filled k (omega arith), filled.full k (omega arith))

-- no more items than so many full blocks have
upto-filled : {T : Type 0} (blocks : List (List T)) → IsFilled blocks → (k : ℕ) → k ≤ length blocks → start_of blocks k ≤ k * 64
upto-filled blocks filled zero there = omega arith
upto-filled blocks filled (suc k) there =
    let e : suc k ≡ k + 1 = omega arith in
    omega (arith, ap (λ i. start_of blocks i) e, start-next blocks k (omega arith), upto-filled blocks filled k (omega arith), filled.within k (omega arith))

all-filled : {T : Type 0} (blocks : List (List T)) → IsFilled blocks → length (joined blocks) ≤ length blocks * 64
all-filled blocks filled = omega (arith, upto-filled blocks filled (length blocks) (omega arith), ap (λ bs. length (joined bs)) (take_all (length blocks) blocks (omega arith)))

block-filled : {T : Type 0} (blocks : List (List T)) → IsFilled blocks → (at : ℕ) → at < length (joined blocks) → IsBlockOf blocks at (at / 64)
block-filled blocks filled at within =
    let there : at / 64 < length blocks = omega (arith, all-filled blocks filled, within) in
    record {
      there = there;
      from = omega (arith, start-filled blocks filled (at / 64) there);
      to = λ more. omega (arith, start-filled blocks filled (at / 64 + 1) more);
    }

offset-filled : {T : Type 0} (blocks : List (List T)) → IsFilled blocks → (at : ℕ) → at < length (joined blocks) → at - start_of blocks (at / 64) ≡ at % 64
offset-filled blocks filled at within = omega (arith, start-filled blocks filled (at / 64) (block-filled blocks filled at within).there)

-- the block of a place is there, and the place in it too
pub number-filled : {T : Type 0} (blocks : List (List T)) → IsFilled blocks → (at : ℕ) → at < length (joined blocks) → at / 64 < length blocks
number-filled blocks filled at within = (block-filled blocks filled at within).there

pub place-filled : {T : Type 0} (blocks : List (List T)) → IsFilled blocks → (at : ℕ) → at < length (joined blocks) → at % 64 < length (get_or blocks (at / 64) [])
place-filled blocks filled at within =
    omega (arith, offset-filled blocks filled at within, take-place blocks at (at / 64) (block-filled blocks filled at within) within)

pub item-filled : {T : Type 0} (blocks : List (List T)) → IsFilled blocks → (at : ℕ) (d : T) → at < length (joined blocks) →
    get_or (get_or blocks (at / 64) []) (at % 64) d ≡ get_or (joined blocks) at d
item-filled blocks filled at d within =
    ap (λ i. get_or (get_or blocks (at / 64) []) i d) (sym (offset-filled blocks filled at within))
    ∙ item-at blocks at (at / 64) d (block-filled blocks filled at within) within

pub put-filled : {T : Type 0} (blocks : List (List T)) → IsFilled blocks → (at : ℕ) (x : T) → at < length (joined blocks) →
    joined (set blocks (at / 64) (set (get_or blocks (at / 64) []) (at % 64) x)) ≡ set (joined blocks) at x
put-filled blocks filled at x within =
    ap (λ i. joined (set blocks (at / 64) (set (get_or blocks (at / 64) []) i x))) (sym (offset-filled blocks filled at within))
    ∙ replace-at blocks at (at / 64) x (block-filled blocks filled at within) within

-- another block of the same length
same-lengths : {T : Type 0} (blocks : List (List T)) (k : ℕ) (new : List T) (j : ℕ) → length new ≡ length (get_or blocks k []) →
    length (get_or (set blocks k new) j []) ≡ length (get_or blocks j [])
same-lengths [] k new j same = refl
same-lengths (b ∷ rest) zero new zero same = same
same-lengths (b ∷ rest) zero new (suc j) same = refl
same-lengths (b ∷ rest) (suc k) new zero same = refl
same-lengths (b ∷ rest) (suc k) new (suc j) same = same-lengths rest k new j same

pub set-filled : {T : Type 0} (blocks : List (List T)) → IsFilled blocks → (k : ℕ) (new : List T) → length new ≡ length (get_or blocks k []) →
    IsFilled (set blocks k new)
set-filled blocks filled k new same =
    record {
      full = λ j more. same-lengths blocks k new j same ∙ filled.full j (omega (arith, more, length-set blocks k new));
      within = λ j there. omega (arith, same-lengths blocks k new j same, filled.within j (omega (arith, there, length-set blocks k new)));
    }

-- an item more in the last block
pub push-last : {T : Type 0} (blocks : List (List T)) (k : ℕ) (x : T) → k + 1 ≡ length blocks →
    joined (set blocks k (get_or blocks k [] ++ x ∷ [])) ≡ joined blocks ++ x ∷ []
push-last [] k x last = absurd (omega (arith, last))
push-last (b ∷ []) zero x last = append-nil (b ++ x ∷ []) ∙ ap (λ ys. ys ++ x ∷ []) (sym (append-nil b))
push-last (b ∷ c ∷ rest) zero x last = absurd (omega (arith, last))
push-last (b ∷ rest) (suc k) x last = ap (λ ys. b ++ ys) (push-last rest k x (omega (arith, last))) ∙ sym (append_assoc b (joined rest) (x ∷ []))
