-- Selections with the same numbers are equal.
use Rattle.std.proofs.Common.{◌≡◌, refl, ap, sym, ◌∙◌, ℕ, List, [], ◌∷◌, ◌++◌, true, arith}
use Rattle.std.proofs.lemmas.List.{append_assoc}
use Rattle.std.proofs.lemmas.Slice.Eq.{bytes_eq-Decides}
use Rattle.ft_base.specs.Selection.{Form}
use Rattle.ft_rewriter.specs.Code.{Code, empty, node, numbers, form_code, same_form}
use Rattle.ft_rewriter.proofs.ReadBack.{form_in, form_back}

head : List ℕ → ℕ
head [] = 0
head (n ∷ rest) = n

tail : List ℕ → List ℕ
tail [] = []
tail (n ∷ rest) = rest

-- what the numbers of a code are followed by is told from them
read_once : (a b : Code) (suffix further : List ℕ) → numbers a ++ suffix ≡ numbers b ++ further → (a ≡ b) × (suffix ≡ further)
unfolding head tail
read_once empty empty suffix further e = (refl, ap tail e)
read_once empty (node n left right) suffix further e = absurd (omega (arith, ap head e))
read_once (node n left right) empty suffix further e = absurd (omega (arith, ap head e))
read_once (node m left right) (node n left' right') suffix further e =
    let rest : numbers left ++ (numbers right ++ suffix) ≡ numbers left' ++ (numbers right' ++ further) =
    sym (append_assoc (numbers left) (numbers right) suffix) ∙ ap (λ l. tail (tail l)) e ∙ append_assoc (numbers left') (numbers right') further in
    let first = read_once left left' (numbers right ++ suffix) (numbers right' ++ further) rest in
    let second = read_once right right' suffix further first.1 in
    let number : m ≡ n = ap (λ l. head (tail l)) e in
    (λ i. node (number i) (first.0 i) (second.0 i), second.1)

same_code : (a b : Code) → numbers a ≡ numbers b → a ≡ b
same_code a b e = (read_once a b [] [] (ap (λ l. l ++ []) e)).0

pub equal_forms : (a b : Form) → same_form a b ≡ true → a ≡ b
equal_forms a b e =
    sym (form_back a) ∙ ap form_in (same_code (form_code a) (form_code b) ((bytes_eq-Decides (numbers (form_code a)) (numbers (form_code b))).0 e)) ∙ form_back b
