-- The places that two elements of one document have in common are told by where their words stand in the document.
use Rattle.std.proofs.Common.{◌≡◌, ◌∙◌, ◌⊎◌, inl, inr, sym, ap, refl, ℕ, zero, suc, ◌+◌, ◌<◌, ◌≤◌, ◌==◌, true, false, List, [], ◌∷◌, Some, arith}
use Rattle.std.specs.Prelude.{nat_le, nat_lt}
use Rattle.std.proofs.lemmas.Bool.{and_from, and_left, and_right, cond-false, cond-true, eq-eqb, ne_eqb, le-leb, le-ltb, lt-leb, lt-ltb}
use Rattle.std.proofs.lemmas.Bool.Decides.{leb_tells}
use Rattle.std.proofs.lemmas.Option.{none-some, same_Some}
use Rattle.ft_base.specs.declared.span.Span.{Span}
use Rattle.index_cursors.specs.SpanHits.{is_inside}
use Rattle.ordered_tree.specs.Counts.{word_count, word_counts}
use Rattle.path_meaning.specs.Elements.{node_at, child_at}
use Rattle.plain_tree.specs.Document.{Node, element, text, Nodes, no_nodes, node_then}
use Rattle.session_state.specs.IgnoredText.{words_before, child_words_before, places_after, common_places}

at-most : (a b : ℕ) → (a ≤ b) ⊎ (b < a)
at-most a b = by (leb_tells a b)
  where
    by : ((nat_le a b ≡ true) × (a ≤ b)) ⊎ ((nat_le a b ≡ false) × (b < a)) → (a ≤ b) ⊎ (b < a)
    by (inl t) = inl t.1
    by (inr t) = inr t.1

-- ---- when a place is in a span

inside : (s : Span) (p : ℕ) → s.from ≤ p → p < s.to → is_inside s p ≡ true
inside s p from to = and_from (nat_le s.from p) (nat_lt p s.to) (le-leb s.from p from) (lt-ltb p s.to to)

early : (s : Span) (p : ℕ) → p < s.from → is_inside s p ≡ false
early s p h = and_left (nat_le s.from p) (nat_lt p s.to) (lt-leb s.from p h)

late : (s : Span) (p : ℕ) → s.to ≤ p → is_inside s p ≡ false
late s p h = and_right (nat_le s.from p) (nat_lt p s.to) (le-ltb p s.to h)

-- whether it is, is told by two comparisons
pub same-inside : (s t : Span) (p q : ℕ) → (s.from ≤ p → t.from ≤ q) → (p < s.from → q < t.from) → (p < s.to → q < t.to) → (s.to ≤ p → t.to ≤ q)
    → is_inside s p ≡ is_inside t q
same-inside s t p q from before to after = by (at-most s.from p) (at-most s.to p)
  where
    by : (s.from ≤ p) ⊎ (p < s.from) → (s.to ≤ p) ⊎ (p < s.to) → is_inside s p ≡ is_inside t q
    by (inl a) (inl b) = late s p b ∙ sym (late t q (after b))
    by (inl a) (inr b) = inside s p a b ∙ sym (inside t q (from a) (to b))
    by (inr a) b = early s p a ∙ sym (early t q (before a))

nowhere : (p : ℕ) → is_inside (places_after 0 0) p ≡ false
nowhere zero = early (places_after 0 0) zero (omega arith)
nowhere (suc p) = late (places_after 0 0) (suc p) (omega arith)

moved : (c before count p : ℕ) → is_inside (places_after before count) p ≡ is_inside (places_after (c + before) count) (c + p)
moved c before count p =
    same-inside (places_after before count) (places_after (c + before) count) p (c + p)
    (λ h. omega (arith, h)) (λ h. omega (arith, h)) (λ h. omega (arith, h)) (λ h. omega (arith, h))

-- ---- the words of what stands at a place

mutual
  -- those of a node at or below another one are among its words
  below : (n : Node) (p : List ℕ) (x : Node) → node_at n p ≡ Some x → words_before n p + word_count x ≤ word_count n
  below (element name attributes kids) [] x h =
      let same = ap word_count (same_Some (element name attributes kids) x h) in omega (arith, same)
  below (element name attributes kids) (zero ∷ rest) x h = absurd (none-some x h)
  below (element name attributes kids) (suc k ∷ rest) x h = child-below kids k rest x h
  below (text bytes) [] x h = let same = ap word_count (same_Some (text bytes) x h) in omega (arith, same)
  below (text bytes) (k ∷ rest) x h = absurd (none-some x h)

  child-below : (ns : Nodes) (k : ℕ) (p : List ℕ) (x : Node) → child_at ns k p ≡ Some x → child_words_before ns k p + word_count x ≤ word_counts ns
  child-below no_nodes k p x h = absurd (none-some x h)
  child-below (node_then n ns) zero p x h = let first = below n p x h in omega (arith, first)
  child-below (node_then n ns) (suc k) p x h = let rest = child-below ns k p x h in omega (arith, rest)

-- those at or below a child stand before those at or below a later one
child-earlier : (ns : Nodes) (i j : ℕ) (p q : List ℕ) (x y : Node) → i < j → child_at ns i p ≡ Some x → child_at ns j q ≡ Some y
    → child_words_before ns i p + word_count x ≤ child_words_before ns j q
child-earlier no_nodes i j p q x y less a b = absurd (none-some x a)
child-earlier (node_then n ns) i zero p q x y less a b = absurd (omega (arith, less))
child-earlier (node_then n ns) zero (suc j) p q x y less a b = let first = below n p x a in omega (arith, first)
child-earlier (node_then n ns) (suc i) (suc j) p q x y less a b = let rest = child-earlier ns i j p q x y (omega (arith, less)) a b in omega (arith, rest)

-- ---- what two nodes have in common

-- A place of the node at `p` is one that it has in common with the node at `q` where it is the place of a word of that one in the document.
abbrev Common : List ℕ → Node → List ℕ → Node → ℕ → ℕ → ℕ → Type 0
Common p x q y before own place = is_inside (common_places p x q y) place ≡ is_inside (places_after before (word_count y)) (own + place)

is-self : (n : Node) (x : Node) → node_at n [] ≡ Some x → n ≡ x
is-self (element name attributes kids) x h = same_Some (element name attributes kids) x h
is-self (text bytes) x h = same_Some (text bytes) x h

none-before : (n : Node) → words_before n [] ≡ 0
none-before (element name attributes kids) = refl
none-before (text bytes) = refl

at-or-below : (n x : Node) (q : List ℕ) (y : Node) (place : ℕ) → n ≡ x → Common [] x q y (words_before n q) (words_before n []) place
at-or-below n x q y place same =
    let there : place ≡ words_before n [] + place = omega (arith, none-before n) in
    (λ i. is_inside (places_after (words_before (sym same i) q) (word_count y)) (there i))

above : (n : Node) (k : ℕ) (p : List ℕ) (x y : Node) (place : ℕ) → node_at n (k ∷ p) ≡ Some x → n ≡ y → 1 ≤ place → place ≤ word_count x
    → Common (k ∷ p) x [] y (words_before n []) (words_before n (k ∷ p)) place
above n k p x y place there same least most =
    let few = below n (k ∷ p) x there in
    let whole = ap word_count same in
    let none = none-before n in
    inside (places_after 0 (word_count x)) place (omega (arith, least)) (omega (arith, most))
    ∙ sym (inside (places_after (words_before n []) (word_count y)) (words_before n (k ∷ p) + place)
    (omega (arith, least, none)) (omega (arith, most, few, whole, none)))

mutual
  common : (n : Node) (p : List ℕ) (x : Node) (q : List ℕ) (y : Node) (place : ℕ) → node_at n p ≡ Some x → node_at n q ≡ Some y → 1 ≤ place → place ≤ word_count x
      → Common p x q y (words_before n q) (words_before n p) place
  common n [] x q y place a b least most = at-or-below n x q y place (is-self n x a)
  common n (k ∷ p) x [] y place a b least most = above n k p x y place a (is-self n y b) least most
  common (text bytes) (k ∷ p) x (j ∷ q) y place a b least most = absurd (none-some x a)
  common (element name attributes kids) (zero ∷ p) x (j ∷ q) y place a b least most = absurd (none-some x a)
  common (element name attributes kids) (suc k ∷ p) x (zero ∷ q) y place a b least most = absurd (none-some y b)
  common (element name attributes kids) (suc k ∷ p) x (suc j ∷ q) y place a b least most =
      by (λ same. child-common kids k p x q y place a (ap (λ m. child_at kids m q) same ∙ b) least most) (at-most j k) (at-most k j)
    where
      by : (k ≡ j → Common p x q y (child_words_before kids k q) (child_words_before kids k p) place) → (j ≤ k) ⊎ (k < j) → (k ≤ j) ⊎ (j < k)
          → Common (suc k ∷ p) x (suc j ∷ q) y (child_words_before kids j q) (child_words_before kids k p) place
      by alike (inr less) other =
          let apart : ((suc k) == (suc j)) ≡ false = ne_eqb (suc k) (suc j) (λ e. omega (arith, less, e)) in
          let first = child-earlier kids k j p q x y less a b in
          ap (λ s. is_inside s place) (cond-false ((suc k) == (suc j)) (common_places p x q y) (places_after 0 0) apart)
          ∙ (nowhere place ∙ sym (early (places_after (child_words_before kids j q) (word_count y)) (child_words_before kids k p + place) (omega (arith, first, most))))
      by alike (inl no-less) (inr less) =
          let apart : ((suc k) == (suc j)) ≡ false = ne_eqb (suc k) (suc j) (λ e. omega (arith, less, e)) in
          let first = child-earlier kids j k q p y x less b a in
          ap (λ s. is_inside s place) (cond-false ((suc k) == (suc j)) (common_places p x q y) (places_after 0 0) apart)
          ∙ (nowhere place ∙ sym (late (places_after (child_words_before kids j q) (word_count y)) (child_words_before kids k p + place) (omega (arith, first, least))))
      by alike (inl no-less) (inl no-more) =
          let same : k ≡ j = omega (arith, no-less, no-more) in
          ap (λ s. is_inside s place) (cond-true ((suc k) == (suc j)) (common_places p x q y) (places_after 0 0) (eq-eqb (suc k) (suc j) (ap suc same)))
          ∙ (alike same ∙ ap (λ m. is_inside (places_after (child_words_before kids m q) (word_count y)) (child_words_before kids k p + place)) same)

  child-common : (ns : Nodes) (k : ℕ) (p : List ℕ) (x : Node) (q : List ℕ) (y : Node) (place : ℕ) → child_at ns k p ≡ Some x → child_at ns k q ≡ Some y → 1 ≤ place → place ≤ word_count x
      → Common p x q y (child_words_before ns k q) (child_words_before ns k p) place
  child-common no_nodes k p x q y place a b least most = absurd (none-some x a)
  child-common (node_then n ns) zero p x q y place a b least most = common n p x q y place a b least most
  child-common (node_then n ns) (suc k) p x q y place a b least most =
      let further : word_count n + (child_words_before ns k p + place) ≡ word_count n + child_words_before ns k p + place = omega arith in
      child-common ns k p x q y place a b least most
      ∙ (moved (word_count n) (child_words_before ns k q) (word_count y) (child_words_before ns k p + place)
      ∙ ap (is_inside (places_after (word_count n + child_words_before ns k q) (word_count y))) further)

pub common-places : (n : Node) (p : List ℕ) (x : Node) (q : List ℕ) (y : Node) (place : ℕ) → node_at n p ≡ Some x → node_at n q ≡ Some y → 1 ≤ place → place ≤ word_count x
    → is_inside (common_places p x q y) place ≡ is_inside (places_after (words_before n q) (word_count y)) (words_before n p + place)
common-places = common
