-- The elements at or below one of a document are those of the document's that have its place for a prefix.
use Rattle.std.proofs.Common.{◌≡◌, ◌+◌, ◌<◌, ◌≤◌, ◌==◌, ◌⊎◌, inl, inr, ℕ, zero, suc, Bool, true, false, ◌&&◌, List, [], ◌∷◌, ◌++◌, filter, get_or, cond, refl, sym, ap, ◌∙◌, arith, append_assoc, append-nil}
use Rattle.std.specs.List.{All, Contains}
use Rattle.std.proofs.lemmas.Bool.{eq-eqb, ne_eqb}
use Rattle.std.proofs.lemmas.List.Elements.{All-tail, All-head, Contains-append_cases, filter-append}
use Rattle.plain_tree.specs.Document.{Node, element, text, Nodes, no_nodes, node_then}
use Rattle.path_meaning.specs.Elements.{Element, placed, elements_from, elements_below}
use Rattle.path_meaning.proofs.InOrder.{from, under}
use Rattle.path_nodes.specs.steps.Regions.{at_or_below}
use Rattle.path_nodes.specs.steps.Within.{is_prefix}

-- a common prefix doesn't count
pub after : (prefix p q : List ℕ) → is_prefix (prefix ++ p) (prefix ++ q) ≡ is_prefix p q
after [] p q = refl
after (n ∷ prefix) p q = ap (λ b. b && is_prefix (prefix ++ p) (prefix ++ q)) (eq-eqb n n refl) ∙ after prefix p q

pub prefix-of : (p r : List ℕ) → is_prefix p (p ++ r) ≡ true
prefix-of p r = ap (λ l. is_prefix l (p ++ r)) (sym (append-nil p)) ∙ after p [] r

pub prefix-itself : (p : List ℕ) → is_prefix p p ≡ true
prefix-itself p = ap (is_prefix p) (sym (append-nil p)) ∙ prefix-of p []

-- ---- filters of lists of which all or none pass

filter-step : (p : Element → Bool) (x : Element) (xs : List Element) (b : Bool) → p x ≡ b → filter p (x ∷ xs) ≡ cond b (x ∷ filter p xs) (filter p xs)
filter-step p x xs b h = ap (λ c. cond c (x ∷ filter p xs) (filter p xs)) h

pub filter-all : (p : Element → Bool) (xs : List Element) → All (λ x. p x ≡ true) xs → filter p xs ≡ xs
filter-all p [] h = refl
filter-all p (x ∷ xs) h = filter-step p x xs true (All-head (λ x. p x ≡ true) x xs h) ∙ ap (λ l. x ∷ l) (filter-all p xs (All-tail (λ x. p x ≡ true) x xs h))

pub filter-none : (p : Element → Bool) (xs : List Element) → All (λ x. p x ≡ false) xs → filter p xs ≡ []
filter-none p [] h = refl
filter-none p (x ∷ xs) h = filter-step p x xs false (All-head (λ x. p x ≡ false) x xs h) ∙ filter-none p xs (All-tail (λ x. p x ≡ false) x xs h)

-- ---- the region of an element

abbrev in-region : Element → Element → Bool
in-region e x = is_prefix e.place x.place

-- an element's place is no prefix of the place above it
longer : (above : List ℕ) (k : ℕ) (r : List ℕ) → is_prefix (above ++ k ∷ r) above ≡ false
longer above k r = ap (is_prefix (above ++ k ∷ r)) (sym (append-nil above)) ∙ after above (k ∷ r) []

-- what stands below one child isn't at or below another
other-child : (above : List ℕ) (k m : ℕ) (r s : List ℕ) → (k == m) ≡ false → is_prefix (above ++ k ∷ r) (above ++ m ∷ s) ≡ false
other-child above k m r s h = after above (k ∷ r) (m ∷ s) ∙ ap (λ b. b && is_prefix r s) h

all-prefix : (e : Element) → All (λ x. in-region e x ≡ true) (at_or_below e)
all-prefix e k d within = let b = from e.place e.node k d within in ap (is_prefix e.place) b.1 ∙ prefix-of e.place b.0

region-cases : (above : List ℕ) (number : ℕ) (node : Node) (rest : Nodes) (e : Element)
    → (Contains (elements_from (above ++ number ∷ []) node) e → filter (in-region e) (elements_from (above ++ number ∷ []) node) ≡ at_or_below e)
    → (Contains (elements_below above (number + 1) rest) e → filter (in-region e) (elements_below above (number + 1) rest) ≡ at_or_below e)
    → Contains (elements_from (above ++ number ∷ []) node) e ⊎ Contains (elements_below above (number + 1) rest) e
    → filter (in-region e) (elements_from (above ++ number ∷ []) node) ++ filter (in-region e) (elements_below above (number + 1) rest) ≡ at_or_below e
region-cases above number node rest e first further (inl there) =
    let b = from (above ++ number ∷ []) node there.0 e there.1 in
    let at : e.place ≡ above ++ number ∷ b.0 = ap (λ x. x.place) (sym there.2) ∙ b.1 ∙ append_assoc above (number ∷ []) b.0 in
    ap (λ l. filter (in-region e) (elements_from (above ++ number ∷ []) node) ++ l)
    (filter-none (in-region e) (elements_below above (number + 1) rest)
    (λ k d within. let o = under above (number + 1) rest k d within in
    let less : number < o.0 = (let h : number + 1 ≤ o.0 = o.2 in omega (arith, h)) in
    ap (λ p. is_prefix p (get_or (elements_below above (number + 1) rest) k d).place) at ∙ ap (is_prefix (above ++ number ∷ b.0)) o.3 ∙ other-child above number o.0 b.0 o.1 (ne_eqb number o.0 (λ e. omega (arith, e, less)))))
    ∙ append-nil (filter (in-region e) (elements_from (above ++ number ∷ []) node))
    ∙ first there
region-cases above number node rest e first further (inr there) =
    let b = under above (number + 1) rest there.0 e there.1 in
    let at : e.place ≡ above ++ b.0 ∷ b.1 = ap (λ x. x.place) (sym there.2) ∙ b.3 in
    let less : number < b.0 = (let h : number + 1 ≤ b.0 = b.2 in omega (arith, h)) in
    ap (λ l. l ++ filter (in-region e) (elements_below above (number + 1) rest))
    (filter-none (in-region e) (elements_from (above ++ number ∷ []) node)
    (λ k d within. let o = from (above ++ number ∷ []) node k d within in
    ap (λ p. is_prefix p (get_or (elements_from (above ++ number ∷ []) node) k d).place) at
    ∙ ap (is_prefix (above ++ b.0 ∷ b.1)) (o.1 ∙ append_assoc above (number ∷ []) o.0)
    ∙ other-child above b.0 number b.1 o.0 (ne_eqb b.0 number (λ e. omega (arith, e, less)))))
    ∙ further there

mutual
  pub region : (place : List ℕ) (node : Node) (e : Element) → Contains (elements_from place node) e → filter (in-region e) (elements_from place node) ≡ at_or_below e
  region place (text bytes) e (k, more, is) = absurd (omega (arith, more))
  region place (element name attributes kids) e (zero, more, is) =
      ap (λ x. filter (in-region x) (elements_from place (element name attributes kids))) (sym is)
      ∙ filter-all (in-region (placed place (element name attributes kids))) (elements_from place (element name attributes kids)) (all-prefix (placed place (element name attributes kids)))
      ∙ ap at_or_below is
  region place (element name attributes kids) e (suc k, more, is) =
      let there : Contains (elements_below place 1 kids) e = (k, (omega (arith, more)), is) in
      let b = under place 1 kids k e there.1 in
      let at : e.place ≡ place ++ b.0 ∷ b.1 = ap (λ x. x.place) (sym is) ∙ b.3 in
      filter-step (in-region e) (placed place (element name attributes kids)) (elements_below place 1 kids) false (ap (λ p. is_prefix p place) at ∙ longer place b.0 b.1)
      ∙ region-below place 1 kids e there

  region-below : (above : List ℕ) (number : ℕ) (nodes : Nodes) (e : Element) → Contains (elements_below above number nodes) e → filter (in-region e) (elements_below above number nodes) ≡ at_or_below e
  region-below above number no_nodes e (k, more, is) = absurd (omega (arith, more))
  region-below above number (node_then node rest) e there =
      let first = elements_from (above ++ number ∷ []) node in
      let others = elements_below above (number + 1) rest in
      filter-append (in-region e) first others
      ∙ region-cases above number node rest e (region (above ++ number ∷ []) node e) (region-below above (number + 1) rest e) (Contains-append_cases first others e there)
