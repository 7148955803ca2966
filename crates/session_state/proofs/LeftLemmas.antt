-- Which places are left out of the span of a node in the index, and which of its words are left.
use Rattle.std.proofs.Common.{◌≡◌, ◌∙◌, sym, ap, refl, subst, ℕ, suc, ◌+◌, ◌-◌, ◌≤◌, ◌==◌, Bool, true, false, true≢false, ◌||◌, cond, List, [], ◌∷◌, ◌++◌, length, map, Some, append_assoc, append-nil, get_or, arith, IsTrue}
use Rattle.std.specs.Cmp.Lexicographic.{pointwise}
use Rattle.std.specs.Prelude.{nat_eq, nat_lt}
use Rattle.std.specs.List.{All, Contains}
use Rattle.std.proofs.lemmas.Bool.{and_parts, eq-eqb, eqb-true, or_left}
use Rattle.std.proofs.lemmas.List.{get_or-map, length-map}
use Rattle.std.proofs.lemmas.List.Elements.{All-append, All-cons, All-contains, All-nil}
use Rattle.ft_base.specs.declared.ids.NodeRef.{NodeRef}
use Rattle.ft_base.specs.declared.span.Span.{Span}
use Rattle.ft_base.specs.declared.token.Token.{Token}
use Rattle.ignore_view.specs.Holes.{holes_in}
use Rattle.ignore_view.specs.Without.{is_left_out, kept_from, without}
use Rattle.index_cursors.specs.SpanHits.{is_inside}
use Rattle.index_meaning.specs.Documents as indexed
use Rattle.index_meaning.specs.Documents.{document_ids, has_document}
use Rattle.ordered_tree.specs.Counts.{word_count}
use Rattle.ordered_tree.specs.Numbered.{Numbered, element_at, text_at, Children, no_children, child_then, first_of, plain, plain_children}
use Rattle.ordered_tree.specs.Stands.{round_first, round_next, round_root, span}
use Rattle.ordered_tree.specs.declared.around.Around.{Around}
use Rattle.path_meaning.specs.Elements.{Element, child_at, node_at}
use Rattle.path_nodes.specs.References.{Spot, spots, child_spots, spots_in, spot_element, element_of}
use Rattle.plan_runs.specs.Judgement.{HaveWordsOf}
use Rattle.plan_runs.specs.RunMeaning.{RunMeaning}
use Rattle.session_state.specs.IgnoredText.{child_words_before, ignored_places, places_after, words_before}
use Rattle.session_state.specs.SelectionTests.{is_there, may_ask, span_at}
use Rattle.session_state.proofs.IgnoredLemmas.{common-places}
use Rattle.session_state.proofs.SelectionTestLemmas.{node-there}

-- ---- the words before a node are those before its place

abbrev Led : List ℕ → ℕ → Numbered → Spot → Type 0
Led place before n s =
    (r : List ℕ) × (s.place ≡ place ++ r) × (node_at (plain n) r ≡ Some (plain s.stand.node)) × (s.stand.around.before ≡ before + words_before (plain n) r)

abbrev LedAmong : List ℕ → ℕ → ℕ → Children → Spot → Type 0
LedAmong above number before ns s =
    (k : ℕ) × (r : List ℕ) × (s.place ≡ above ++ (k + number) ∷ r) × (child_at (plain_children ns) k r ≡ Some (plain s.stand.node))
    × (s.stand.around.before ≡ before + child_words_before (plain_children ns) k r)

mutual
  unfolding spots child_spots

  led : (place : List ℕ) (a : Around) (n : Numbered) → All (Led place a.before n) (spots place a n)
  led place a (text_at r bytes) =
      All-cons (Led place a.before (text_at r bytes)) (record { place = place; stand = record { node = text_at r bytes; around = a } }) []
      ([], sym (append-nil place), refl, omega arith) (All-nil (Led place a.before (text_at r bytes)))
  led place a (element_at r name attrs kids) =
      All-cons (Led place a.before (element_at r name attrs kids)) (record { place = place; stand = record { node = element_at r name attrs kids; around = a } })
      (child_spots place 1 (round_first a.before r) kids)
      ([], sym (append-nil place), refl, omega arith)
      (λ k d within. let b = led-among place 1 (round_first a.before r) kids k d within in
      let e : b.0 + 1 ≡ suc b.0 = omega arith in
      (suc b.0 ∷ b.1, b.2 ∙ ap (λ n. place ++ n ∷ b.1) e, b.3, b.4))

  led-among : (above : List ℕ) (number : ℕ) (a : Around) (ns : Children) → All (LedAmong above number a.before ns) (child_spots above number a ns)
  led-among above number a no_children = All-nil (LedAmong above number a.before no_children)
  led-among above number a (child_then n ns) =
      All-append (LedAmong above number a.before (child_then n ns)) (spots (above ++ number ∷ []) (record a { next = first_of ns }) n) (child_spots above (number + 1) (round_next a n) ns)
      (λ k d within. let b = led (above ++ number ∷ []) (record a { next = first_of ns }) n k d within in
      let e : number ≡ 0 + number = omega arith in
      (0, b.0, b.1 ∙ append_assoc above (number ∷ []) b.0 ∙ ap (λ n. above ++ n ∷ b.0) e, b.2, b.3))
      (λ k d within. let b = led-among above (number + 1) (round_next a n) ns k d within in
      let e : b.0 + (number + 1) ≡ suc b.0 + number = omega arith in
      (suc b.0, b.1, b.2 ∙ ap (λ n. above ++ n ∷ b.1) e, b.3, omega (arith, b.4)))

module _ (root : Numbered) (s : Spot) (among : Contains (spots_in root) s) where
  at-root : Led [] 0 root s
  at-root = All-contains (Led [] 0 root) (spots_in root) s (led [] round_root root) among

  pub placed-there : node_at (plain root) s.place ≡ Some (plain s.stand.node)
  placed-there = let b = at-root in ap (node_at (plain root)) b.1 ∙ b.2

  pub before-there : s.stand.around.before ≡ words_before (plain root) s.place
  before-there = let b = at-root in omega (arith, b.3, ap (words_before (plain root)) b.1)

-- ---- which places of a node are left out

-- those that it has in common with another one
one-left-out : (root : Numbered) (e h : Spot) (place : ℕ) → Contains (spots_in root) e → Contains (spots_in root) h → 1 ≤ place → place ≤ word_count (plain e.stand.node)
    → is_inside (span h.stand) (place + ((span e.stand).from - 1)) ≡ is_inside (ignored_places (spot_element e) (spot_element h)) place
one-left-out root e h place e-among h-among least most =
    let own = before-there root e e-among in
    let other = before-there root h h-among in
    let at : place + ((span e.stand).from - 1) ≡ words_before (plain root) e.place + place = omega (arith, own) in
    (λ i. is_inside (places_after (other i) (word_count (plain h.stand.node))) (at i))
    ∙ sym (common-places (plain root) e.place (plain e.stand.node) h.place (plain h.stand.node) place (placed-there root e e-among) (placed-there root h h-among) least most)

-- All the references name nodes of a document.
abbrev pub AreThere : Numbered → List NodeRef → Type 0
AreThere root refs = All (λ r. is_there root r ≡ true) refs

all-left-out : (root : Numbered) (e : Spot) (refs : List NodeRef) (place : ℕ) → Contains (spots_in root) e → AreThere root refs → 1 ≤ place → place ≤ word_count (plain e.stand.node)
    → is_left_out (map (span_at root) refs) (place + ((span e.stand).from - 1)) ≡ is_left_out (map (ignored_places (spot_element e)) (map (element_of root) refs)) place
all-left-out root e [] place among there least most = refl
all-left-out root e (r ∷ refs) place among there least most =
    let h = node-there root r (there 0 r (omega arith)) in
    let first : is_inside (span_at root r) (place + ((span e.stand).from - 1)) ≡ is_inside (ignored_places (spot_element e) (element_of root r)) place =
    ap (λ s. is_inside s (place + ((span e.stand).from - 1))) h.at
    ∙ (one-left-out root e h.spot place among h.among least most
    ∙ ap (λ x. is_inside (ignored_places (spot_element e) x) place) (sym h.is)) in
    let rest = all-left-out root e refs place among (λ k d less. there (suc k) d (omega (arith, less))) least most in
    (λ i. first i || rest i)

-- ---- what is left of the node's span

-- in the numbers of the span, as in those of the document, the same places are left out
pub left-out-same : (root : Numbered) (r : NodeRef) (refs : List NodeRef) (place : ℕ) → is_there root r ≡ true → AreThere root refs
    → is_left_out (holes_in (span_at root r) (map (span_at root) refs)) place ≡ is_left_out (map (span_at root) refs) (place + ((span_at root r).from - 1))
    → 1 ≤ place → place ≤ word_count (element_of root r).node
    → is_left_out (holes_in (span_at root r) (map (span_at root) refs)) place ≡ is_left_out (map (ignored_places (element_of root r)) (map (element_of root) refs)) place
left-out-same root r refs place there all moved least most =
    let n = node-there root r there in
    let e = n.spot in
    let same = ap (λ (x : Element). word_count x.node) n.is in
    moved
    ∙ (ap (λ (s : Span). is_left_out (map (span_at root) refs) (place + (s.from - 1))) n.at
    ∙ (all-left-out root e refs place n.among all least (omega (arith, most, same))
    ∙ ap (λ x. is_left_out (map (ignored_places x) (map (element_of root) refs)) place) (sym n.is)))

-- ---- the words of what is left are words of the text

abbrev word_of : Token → List ℕ
word_of token = token.word

contains-more : (xs : List (List ℕ)) (y x : List ℕ) → Contains xs x → Contains (y ∷ xs) x
contains-more xs y x (k, less, is) = (suc k, omega (arith, less), is)

kept-words : (holes : List Span) (place : ℕ) (ts : List Token) → All (Contains (map word_of ts)) (map word_of (kept_from holes place ts))
kept-words holes place [] = All-nil (Contains [])
kept-words holes place (t ∷ ts) = by (kept-words holes (place + 1) ts) (is_left_out holes place)
  where
    by : All (Contains (map word_of ts)) (map word_of (kept_from holes (place + 1) ts)) → (b : Bool)
        → All (Contains (map word_of (t ∷ ts))) (map word_of (cond b (kept_from holes (place + 1) ts) (t ∷ kept_from holes (place + 1) ts)))
    by rest true = λ k d less. contains-more (map word_of ts) t.word (get_or (map word_of (kept_from holes (place + 1) ts)) k d) (rest k d less)
    by rest false =
        All-cons (Contains (map word_of (t ∷ ts))) t.word (map word_of (kept_from holes (place + 1) ts)) (0, omega arith, refl)
        (λ k d less. contains-more (map word_of ts) t.word (get_or (map word_of (kept_from holes (place + 1) ts)) k d) (rest k d less))

pub left-words : (ts : List Token) (holes : List Span) → map word_of (without ts holes) ≡ map word_of (kept_from holes 1 ts) → HaveWordsOf (without ts holes) ts
left-words ts holes same = λ k d less.
    let left = without ts holes in
    let many = length-map left word_of in
    let each : All (Contains (map word_of ts)) (map word_of left) = subst (All (Contains (map word_of ts))) (sym same) (kept-words holes 1 ts) in
    subst (Contains (map word_of ts)) (get_or-map word_of left k d [] less) (each k [] (omega (arith, less, many)))

-- ---- the document of the view

pub alone-there : (view : List indexed.Numbered) (doc : ℕ) → document_ids view ≡ doc ∷ [] → has_document doc view ≡ true
alone-there [] doc h = let no : 0 ≡ 1 = ap length h in absurd (omega (arith, no))
alone-there (d ∷ ds) doc h =
    or_left (d.id == doc) (has_document doc ds) (eq-eqb d.id doc (ap (λ ids. get_or ids 0 0) h))

-- the holes that a test is given are there
pub holes-there : (runs : List RunMeaning) (root : Numbered) (k : ℕ) (holes : List NodeRef) → All (λ hole. IsTrue (may_ask runs root k hole)) holes → AreThere root holes
holes-there runs root k holes h = λ i d less. (and_parts (nat_lt k (length runs)) (is_there root (get_or holes i d)) (h i d less)).1

-- ---- lists that name the same nodes

pub same-nodes : (a b : List NodeRef) → pointwise (λ (x y : NodeRef). nat_eq x.0 y.0) a b ≡ true → a ≡ b
same-nodes [] [] h = refl
same-nodes [] (y ∷ b) h = absurd (true≢false (sym h))
same-nodes (x ∷ a) [] h = absurd (true≢false (sym h))
same-nodes (x ∷ a) (y ∷ b) h =
    let parts = and_parts (nat_eq x.0 y.0) (pointwise (λ (p q : NodeRef). nat_eq p.0 q.0) a b) h in
    let number = eqb-true x.0 y.0 parts.0 in
    λ i. record { 0 = number i } ∷ same-nodes a b parts.1 i
