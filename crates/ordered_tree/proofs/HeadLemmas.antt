-- What heads tell of nodes: a short name is all in its mark, and no element has the mark of a text.
use Rattle.std.proofs.Common.{◌≡◌, ◌≤◌, ◌<◌, ℕ, zero, suc, true, List, [], ◌∷◌, length, take, get_or, refl, sym, ap, ap₂, ◌∙◌, arith}
use Rattle.std.specs.Prelude.{nat_eq, not}
use Rattle.std.proofs.lemmas.Bool.Decides.{nat_tests}
use Rattle.std.proofs.lemmas.Slice.Eq.{bytes_eq-Decides}
use Rattle.ordered_tree.specs.Numbered.{Numbered, element_at, text_at, is_element, has_name}
use Rattle.ordered_tree.specs.Slots.{held}
use Rattle.ordered_tree.specs.steps.Heads.{mark_of, mark_of_held}

-- lists as long as each other, and no longer than a number, that have the same at each place before it
same-to : (k : ℕ) (a b : List ℕ) → length a ≡ length b → length a ≤ k → ((i : ℕ) → i < k → get_or a i 0 ≡ get_or b i 0) → a ≡ b
same-to k [] [] long few alike = refl
same-to k [] (y ∷ b) long few alike = absurd (omega (arith, long))
same-to k (x ∷ a) [] long few alike = absurd (omega (arith, long))
same-to zero (x ∷ a) (y ∷ b) long few alike = absurd (omega (arith, few))
same-to (suc k) (x ∷ a) (y ∷ b) long few alike =
    ap₂ (λ z zs. z ∷ zs) (alike 0 (omega arith)) (same-to k a b (omega (arith, long)) (omega (arith, few)) (λ i less. alike (suc i) (omega (arith, less))))

marked-byte : (name : List ℕ) (i : ℕ) → i < 7 → get_or (mark_of name) i 0 ≡ get_or name i 0
unfolding mark_of
marked-byte name zero less = refl
marked-byte name (suc zero) less = refl
marked-byte name (suc (suc zero)) less = refl
marked-byte name (suc (suc (suc zero))) less = refl
marked-byte name (suc (suc (suc (suc zero)))) less = refl
marked-byte name (suc (suc (suc (suc (suc zero))))) less = refl
marked-byte name (suc (suc (suc (suc (suc (suc zero)))))) less = refl
marked-byte name (suc (suc (suc (suc (suc (suc (suc i))))))) less = absurd (omega (arith, less))

marked-length : (a b : List ℕ) → length b ≤ 7 → mark_of a ≡ mark_of b → length a ≡ length b
unfolding mark_of
marked-length a b short same = omega (arith, short, ap (λ m. get_or m 7 0) same)

short-is : (a b : List ℕ) → length b ≤ 7 → mark_of a ≡ mark_of b → a ≡ b
short-is a b short same =
    let long = marked-length a b short same in
    same-to 7 a b long (omega (arith, long, short)) (λ i less. sym (marked-byte a i less) ∙ (ap (λ m. get_or m i 0) same ∙ marked-byte b i less))

pub element-marked : (n : Numbered) → not (nat_eq (get_or (mark_of_held (held n)) 7 0) 0) ≡ is_element n
unfolding mark_of
element-marked (element_at r name attrs kids) = grind (arith, nat_tests)
element-marked (text_at r bytes) = refl

pub name-marked : (n : Numbered) (name : List ℕ) → length name ≤ 7 → mark_of_held (held n) ≡ mark_of name → has_name name n ≡ true
unfolding mark_of
name-marked (element_at r own attrs kids) name short same = (bytes_eq-Decides name own).1 (sym (short-is own name short same))
name-marked (text_at r bytes) name short same = absurd (omega (arith, ap (λ m. get_or m 7 0) same))

marked-name : (name : List ℕ) → length name ≤ 7 → take (length name) (mark_of name) ≡ name
unfolding mark_of
marked-name [] short = refl
marked-name (a ∷ []) short = refl
marked-name (a ∷ b ∷ []) short = refl
marked-name (a ∷ b ∷ c ∷ []) short = refl
marked-name (a ∷ b ∷ c ∷ d ∷ []) short = refl
marked-name (a ∷ b ∷ c ∷ d ∷ e ∷ []) short = refl
marked-name (a ∷ b ∷ c ∷ d ∷ e ∷ f ∷ []) short = refl
marked-name (a ∷ b ∷ c ∷ d ∷ e ∷ f ∷ g ∷ []) short = refl
marked-name (a ∷ b ∷ c ∷ d ∷ e ∷ f ∷ g ∷ h ∷ name) short = absurd (omega (arith, short))

-- the first bytes of a mark are a name that is all in it
pub marked : (mark name : List ℕ) (count : ℕ) → mark ≡ mark_of name → get_or mark 7 0 ≡ suc count → count ≤ 7 → take count mark ≡ name
unfolding mark_of
marked mark name count same last few =
    let long : count ≡ length name = omega (arith, few, last, ap (λ m. get_or m 7 0) same) in
    ap₂ take long same ∙ marked-name name (omega (arith, few, long))
