-- Shapes: what holds of every path through one, and how paths go through shapes that are put together.
use Rattle.std.proofs.Common.{◌≡◌, ℕ, Bool, true, false, cond, List, [], ◌∷◌, ◌++◌, Option, Some, None, refl, sym, ◌∙◌, ap, subst}
use Rattle.selection_grammar.specs.declared.symbol.Symbol.{Symbol}
use Rattle.selection_grammar.specs.declared.symbol.Symbol.TheVariants as S
use Rattle.selection_grammar.specs.declared.symbol.Placed.{Placed}
use Rattle.selection_grammar.specs.Shapes as s
use Rattle.selection_grammar.specs.Shapes.{Shape, whole, nothing, word, number, text, mark, Mark, is_word, number_of, text_of, is_mark, step, run, Spelled, or_else, and_then}
use Rattle.selection_grammar.specs.Grammar.{Spot, at, name, string}
use Rattle.selection_grammar.proofs.Words.{word_is, number_is, text_is, mark_is, symbol_of, is_mark_self}

pub run-append : {A : Type 0} → (o : Option (Shape A)) (u v : List Placed) → run o (u ++ v) ≡ run (run o u) v
run-append None u v = refl
run-append (Some t) [] v = refl
run-append (Some t) (p ∷ u) v = run-append (step t p) u v

-- what holds of every path: of its symbols and of where it ends
abbrev pub Paths : {A : Type 0} → Shape A → (List Placed → A → Type 0) → Type 0
Paths (whole a) P = P [] a
Paths nothing P = Unit {0}
Paths (word key to rest) P = ((p : Spot) → Paths (to p.0) (λ u a. P (name p key ∷ u) a)) × Paths rest P
Paths (number to rest) P = ((p : Spot) (n : ℕ) → Paths (to n) (λ u a. P (at p (S.Number n) ∷ u) a)) × Paths rest P
Paths (text to rest) P = ((p : Spot) (s : List ℕ) → Paths (to p.0 s) (λ u a. P (string p s ∷ u) a)) × Paths rest P
Paths (mark m to rest) P = ((p : Spot) → Paths to (λ u a. P (at p (symbol_of m) ∷ u) a)) × Paths rest P

by_test : {A B : Type 0} (x y : Option (Shape A)) (u : List Placed) (a : A) (b : Bool) → (b ≡ true → run x u ≡ Some (whole a) → B) → (b ≡ false → run y u ≡ Some (whole a) → B) → run (cond b x y) u ≡ Some (whole a) → B
by_test x y u a true there past e = there refl e
by_test x y u a false there past e = past refl e

by_number : {A B : Type 0} (to : ℕ → Shape A) (y : Option (Shape A)) (u : List Placed) (a : A) (o : Option ℕ) → ((n : ℕ) → o ≡ Some n → run (Some (to n)) u ≡ Some (whole a) → B) → (o ≡ None → run y u ≡ Some (whole a) → B) → run (s.number_leads to y o) u ≡ Some (whole a) → B
by_number to y u a (Some n) there past e = there n refl e
by_number to y u a None there past e = past refl e

by_text : {A B : Type 0} (to : List ℕ → Shape A) (y : Option (Shape A)) (u : List Placed) (a : A) (o : Option (List ℕ)) → ((n : List ℕ) → o ≡ Some n → run (Some (to n)) u ≡ Some (whole a) → B) → (o ≡ None → run y u ≡ Some (whole a) → B) → run (s.text_leads to y o) u ≡ Some (whole a) → B
by_text to y u a (Some n) there past e = there n refl e
by_text to y u a None there past e = past refl e

-- a placed symbol is the symbol at its place
placed_is : (p : Placed) (symbol : Symbol) → p.symbol ≡ symbol → at (p.from, p.to) symbol ≡ p
placed_is p symbol e = ap (λ z. at (p.from, p.to) z) (sym e)

pub along : {A : Type 0} (t : Shape A) (P : List Placed → A → Type 0) → Paths t P → (u : List Placed) (a : A) → run (Some t) u ≡ Some (whole a) → P u a
along (whole b) P h [] a e = let same : b ≡ a = cc in subst (λ z. P [] z) same h
along (whole b) P h (p ∷ u) a e = cc
along nothing P h [] a e = cc
along nothing P h (p ∷ u) a e = cc
along (word key to rest) P h [] a e = cc
along (word key to rest) P h (p ∷ u) a e = by_test _ _ u a (is_word key p.symbol)
    (λ k r. subst (λ q. P (q ∷ u) a) (placed_is p (S.Name key) (word_is key p.symbol k)) (along (to p.from) (λ v b. P (name (p.from, p.to) key ∷ v) b) (h.0 (p.from, p.to)) u a r))
    (λ k r. along rest P h.1 (p ∷ u) a r) e
along (number to rest) P h [] a e = cc
along (number to rest) P h (p ∷ u) a e = by_number to (step rest p) u a (number_of p.symbol)
    (λ n k r. subst (λ q. P (q ∷ u) a) (placed_is p (S.Number n) (number_is p.symbol n k)) (along (to n) (λ v b. P (at (p.from, p.to) (S.Number n) ∷ v) b) (h.0 (p.from, p.to) n) u a r))
    (λ k r. along rest P h.1 (p ∷ u) a r) e
along (text to rest) P h [] a e = cc
along (text to rest) P h (p ∷ u) a e = by_text (to p.from) (step rest p) u a (text_of p.symbol)
    (λ n k r. subst (λ q. P (q ∷ u) a) (placed_is p (S.Text n) (text_is p.symbol n k)) (along (to p.from n) (λ v b. P (string (p.from, p.to) n ∷ v) b) (h.0 (p.from, p.to) n) u a r))
    (λ k r. along rest P h.1 (p ∷ u) a r) e
along (mark m to rest) P h [] a e = cc
along (mark m to rest) P h (p ∷ u) a e = by_test _ _ u a (is_mark m p.symbol)
    (λ k r. subst (λ q. P (q ∷ u) a) (placed_is p (symbol_of m) (mark_is m p.symbol k)) (along to (λ v b. P (at (p.from, p.to) (symbol_of m) ∷ v) b) (h.0 (p.from, p.to)) u a r))
    (λ k r. along rest P h.1 (p ∷ u) a r) e

-- paths through shapes that are put together
pub paths_or_else : {A : Type 0} (t r : Shape A) (P : List Placed → A → Type 0) → Paths t P → Paths r P → Paths (or_else t r) P
paths_or_else (whole a) r P h k = h
paths_or_else nothing r P h k = k
paths_or_else (word key to rest) r P h k = (h.0, paths_or_else rest r P h.1 k)
paths_or_else (number to rest) r P h k = (h.0, paths_or_else rest r P h.1 k)
paths_or_else (text to rest) r P h k = (h.0, paths_or_else rest r P h.1 k)
paths_or_else (mark m to rest) r P h k = (h.0, paths_or_else rest r P h.1 k)

pub paths_then : {A B : Type 0} (t : Shape A) (k : A → Shape B) (P : List Placed → B → Type 0) → Paths t (λ u a. Paths (k a) (λ v b. P (u ++ v) b)) → Paths (and_then t k) P
paths_then (whole a) k P h = h
paths_then nothing k P h = tt
paths_then (word key to rest) k P h = ((λ p. paths_then (to p.0) k (λ u b. P (name p key ∷ u) b) (h.0 p)), paths_then rest k P h.1)
paths_then (number to rest) k P h = ((λ p n. paths_then (to n) k (λ u b. P (at p (S.Number n) ∷ u) b) (h.0 p n)), paths_then rest k P h.1)
paths_then (text to rest) k P h = ((λ p n. paths_then (to p.0 n) k (λ u b. P (string p n ∷ u) b) (h.0 p n)), paths_then rest k P h.1)
paths_then (mark m to rest) k P h = ((λ p. paths_then to k (λ u b. P (at p (symbol_of m) ∷ u) b) (h.0 p)), paths_then rest k P h.1)

-- what holds of more holds of these
pub paths_map : {A : Type 0} (t : Shape A) (P Q : List Placed → A → Type 0) → ((u : List Placed) (a : A) → P u a → Q u a) → Paths t P → Paths t Q
paths_map (whole a) P Q f h = f [] a h
paths_map nothing P Q f h = tt
paths_map (word key to rest) P Q f h = ((λ p. paths_map (to p.0) (λ u a. P (name p key ∷ u) a) (λ u a. Q (name p key ∷ u) a) (λ u a. f (name p key ∷ u) a) (h.0 p)), paths_map rest P Q f h.1)
paths_map (number to rest) P Q f h = ((λ p n. paths_map (to n) (λ u a. P (at p (S.Number n) ∷ u) a) (λ u a. Q (at p (S.Number n) ∷ u) a) (λ u a. f (at p (S.Number n) ∷ u) a) (h.0 p n)), paths_map rest P Q f h.1)
paths_map (text to rest) P Q f h = ((λ p n. paths_map (to p.0 n) (λ u a. P (string p n ∷ u) a) (λ u a. Q (string p n ∷ u) a) (λ u a. f (string p n ∷ u) a) (h.0 p n)), paths_map rest P Q f h.1)
paths_map (mark m to rest) P Q f h = ((λ p. paths_map to (λ u a. P (at p (symbol_of m) ∷ u) a) (λ u a. Q (at p (symbol_of m) ∷ u) a) (λ u a. f (at p (symbol_of m) ∷ u) a) (h.0 p)), paths_map rest P Q f h.1)
