-- Where some symbols end, and an item of a list of parts.
use Rattle.std.proofs.Common.{◌≡◌, ◌-◌, ℕ, zero, suc, List, [], ◌∷◌, length, map, slice_get, slice_index_or, Some, refl, sym, ◌∙◌, ap, arith}
use Rattle.std.proofs.Math.ListN.{get_or-map}
use Rattle.selection_grammar.specs.declared.symbol.Placed.{Placed}
use Rattle.path_grammar.specs.Grammar.{ends_at}

ends_got : (symbols : List Placed) (n : ℕ) (p : Placed) → length symbols ≡ suc n → slice_get symbols n ≡ Some p → p.to ≡ ends_at symbols
ends_got [] n p h e = cc
ends_got (q ∷ []) zero p h e = let same : p ≡ q = cc in ap (λ z. z.to) same
ends_got (q ∷ []) (suc n) p h e = absurd (omega (arith, h))
ends_got (q ∷ r ∷ rest) zero p h e = absurd (omega (arith, h))
ends_got (q ∷ r ∷ rest) (suc n) p h e = ends_got (r ∷ rest) n p (omega (arith, h)) e

pub ends_last : (symbols : List Placed) (p : Placed) → Some p ≡ slice_get symbols (length symbols - 1) → p.to ≡ ends_at symbols
ends_last [] p e = cc
ends_last (q ∷ rest) p e = ends_got (q ∷ rest) (length rest) p refl (ap (slice_get (q ∷ rest)) (omega arith) ∙ sym e)

pub picked : {A B : Type 0} (f : A → B) (xs : List A) (n : ℕ) (x : A) → x ≡ slice_index_or xs n x → f x ≡ slice_index_or (map f xs) n (f x)
picked f xs n x h = ap f h ∙ sym (get_or-map f xs n x)
