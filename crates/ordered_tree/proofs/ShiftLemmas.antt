-- The shift law: the tokens at the places of a node's span, counted from 1 again, are the node's own.
use Rattle.std.proofs.Common.{◌≡◌, ℕ, ◌+◌, ◌-◌, ◌<◌, ◌≤◌, Bool, true, false, List, [], ◌∷◌, ◌++◌, map, take, drop, length, refl, sym, ap, ap₂, ◌∙◌, arith, inl, inr, append_assoc, append-nil}
use Rattle.std.specs.List.{All}
use Rattle.std.proofs.lemmas.Bool.{cases_lt}
use Rattle.std.proofs.lemmas.List.{length-append}
use Rattle.std.proofs.lemmas.List.Concat.{flat_map-append}
use Rattle.std.proofs.lemmas.List.Elements.{All-nil, All-cons, All-append, All-weaker}
use Rattle.ft_base.specs.declared.token.Token.{Token}
use Rattle.plain_tree.specs.Document.{Node, element, text, Nodes, no_nodes, node_then}
use Rattle.tokenizer.specs.Gaps.{gap, ends_sentence, ends_paragraph}
use Rattle.tokenizer.specs.Parts.{Part, word, gap_characters, gap_tag, events, events_of, parts, parts_of_event}
use Rattle.tokenizer.specs.Tokens.{shifted, tokens_from, tokens, words_in, words_in_all}
use Rattle.tokenizer.proofs.PartsLemmas.{words_among, words_among-append, words_among-parts}
use Rattle.ordered_tree.specs.Counts.{word_count, word_counts}
use Rattle.ordered_tree.specs.Numbered.{Numbered, element_at, text_at, Children, no_children, child_then, plain, plain_children, first_of}
use Rattle.ordered_tree.specs.Part.{counted_from, renumbered, part}
use Rattle.ordered_tree.specs.declared.around.Around.{Around}
use Rattle.ordered_tree.specs.Stands.{Stand, round_root, round_first, round_next, stands, child_stands, stands_in, span}
use Rattle.ordered_tree.specs.steps.Gathering.{parts_of}

-- ---- the words among parts

abbrev pub word_parts : List Part → ℕ
word_parts xs = length (words_among xs)

pub word_parts-append : (xs ys : List Part) → word_parts (xs ++ ys) ≡ word_parts xs + word_parts ys
word_parts-append xs ys = ap length (words_among-append xs ys) ∙ length-append (words_among xs) (words_among ys)

tokens_from-none : (s p : ℕ) (xs : List Part) → word_parts xs ≤ 0 → tokens_from s p xs ≡ []
unfolding tokens_from
tokens_from-none s p [] h = refl
tokens_from-none s p (word bytes ∷ xs) h = absurd (omega arith)
tokens_from-none s p (gap_characters bytes ∷ xs) h = tokens_from-none s p xs h
tokens_from-none s p (gap_tag name ∷ xs) h = tokens_from-none s p xs h

-- ---- the tokens after a prefix, and those of a prefix

record Later (ts : List Token) (ys : List Part) : Type 0 where
  sentence : ℕ
  paragraph : ℕ
  is : ts ≡ tokens_from sentence paragraph ys

drop-tokens : (xs ys : List Part) (s p : ℕ) → Later (drop (word_parts xs) (tokens_from s p (xs ++ ys))) ys
unfolding tokens_from
drop-tokens [] ys s p = record { sentence = s; paragraph = p; is = refl }
drop-tokens (word bytes ∷ xs) ys s p = drop-tokens xs ys _ _
drop-tokens (gap_characters bytes ∷ xs) ys s p = drop-tokens xs ys s p
drop-tokens (gap_tag name ∷ xs) ys s p = drop-tokens xs ys s p

gap-append : (ys zs : List Part) → 0 < word_parts ys → gap (ys ++ zs) ≡ gap ys
gap-append [] zs some = absurd (omega arith)
gap-append (word bytes ∷ ys) zs some = refl
gap-append (gap_characters bytes ∷ ys) zs some = ap (λ g. gap_characters bytes ∷ g) (gap-append ys zs some)
gap-append (gap_tag name ∷ ys) zs some = ap (λ g. gap_tag name ∷ g) (gap-append ys zs some)

take-none : (n : ℕ) (ts : List Token) → n ≤ 0 → take n ts ≡ []
take-none n ts h = let z : n ≡ 0 = omega arith in rw z refl

take-tokens : (ys zs : List Part) (s p : ℕ) → take (word_parts ys) (tokens_from s p (ys ++ zs)) ≡ tokens_from s p ys
unfolding tokens_from
take-tokens [] zs s p = refl
take-tokens (word bytes ∷ ys) zs s p =
    ap (λ ts. record { word = bytes; sentence = s; paragraph = p } ∷ ts) (elim (cases_lt 0 (word_parts ys)) [
      | inl some ↦
          ap (λ g. take (word_parts ys) (tokens_from (shifted (ends_sentence g) s) (shifted (ends_paragraph g) p) (ys ++ zs))) (gap-append ys zs some)
          ∙ take-tokens ys zs _ _
      | inr none ↦ take-none (word_parts ys) _ none ∙ sym (tokens_from-none _ _ ys none)
    ])
take-tokens (gap_characters bytes ∷ ys) zs s p = take-tokens ys zs s p
take-tokens (gap_tag name ∷ ys) zs s p = take-tokens ys zs s p

-- ---- numbers counted from 1 again

shifted-shifted : (ended : Bool) (n m : ℕ) → m ≤ n → shifted ended n + 1 - m ≡ shifted ended (n + 1 - m)
shifted-shifted true n m h = omega arith
shifted-shifted false n m h = refl

shifted-least : (ended : Bool) (n m : ℕ) → m ≤ n → m ≤ shifted ended n
shifted-least true n m h = omega arith
shifted-least false n m h = h

map-counted_from : (f : Token) (xs : List Part) (s p : ℕ) → f.sentence ≤ s → f.paragraph ≤ p → map (counted_from f) (tokens_from s p xs) ≡ tokens_from (s + 1 - f.sentence) (p + 1 - f.paragraph) xs
unfolding tokens_from
map-counted_from f [] s p hs hp = refl
map-counted_from f (word bytes ∷ xs) s p hs hp =
    ap (λ ts. record { word = bytes; sentence = s + 1 - f.sentence; paragraph = p + 1 - f.paragraph } ∷ ts)
    (map-counted_from f xs _ _ (shifted-least (ends_sentence (gap xs)) s f.sentence hs) (shifted-least (ends_paragraph (gap xs)) p f.paragraph hp)
    ∙ ap₂ (λ i j. tokens_from i j xs) (shifted-shifted (ends_sentence (gap xs)) s f.sentence hs) (shifted-shifted (ends_paragraph (gap xs)) p f.paragraph hp))
map-counted_from f (gap_characters bytes ∷ xs) s p hs hp = map-counted_from f xs s p hs hp
map-counted_from f (gap_tag name ∷ xs) s p hs hp = map-counted_from f xs s p hs hp

renumbered-tokens_from : (s p : ℕ) (xs : List Part) → renumbered (tokens_from s p xs) ≡ tokens_from 1 1 xs
unfolding tokens_from
renumbered-tokens_from s p [] = refl
renumbered-tokens_from s p (word bytes ∷ xs) =
    let is : s + 1 - s ≡ 1 = omega arith in
    let ip : p + 1 - p ≡ 1 = omega arith in
    map-counted_from (record { word = bytes; sentence = s; paragraph = p }) (word bytes ∷ xs) s p (omega arith) (omega arith)
    ∙ ap₂ (λ i j. tokens_from i j (word bytes ∷ xs)) is ip
renumbered-tokens_from s p (gap_characters bytes ∷ xs) = renumbered-tokens_from s p xs
renumbered-tokens_from s p (gap_tag name ∷ xs) = renumbered-tokens_from s p xs

part-tokens_from : (xs ys zs : List Part) → renumbered (take (word_parts ys) (drop (word_parts xs) (tokens_from 1 1 (xs ++ (ys ++ zs))))) ≡ tokens_from 1 1 ys
part-tokens_from xs ys zs =
    let later = drop-tokens xs (ys ++ zs) 1 1 in
    ap (λ ts. renumbered (take (word_parts ys) ts)) later.is ∙ ap renumbered (take-tokens ys zs later.sentence later.paragraph)
    ∙ renumbered-tokens_from later.sentence later.paragraph ys

-- ---- the parts of a node

pub parts-element : (abbreviations : List (List ℕ)) (name : List ℕ) (attrs : _) (kids : Nodes)
    → parts abbreviations (element name attrs kids) ≡ gap_tag name ∷ (parts_of abbreviations kids ++ gap_tag name ∷ [])
unfolding events
parts-element abbreviations name attrs kids = ap (λ ps. gap_tag name ∷ ps) (flat_map-append (parts_of_event abbreviations) (events_of kids) _)

pub parts_of-then : (abbreviations : List (List ℕ)) (n : Node) (ns : Nodes) → parts_of abbreviations (node_then n ns) ≡ parts abbreviations n ++ parts_of abbreviations ns
unfolding events_of
parts_of-then abbreviations n ns = flat_map-append (parts_of_event abbreviations) (events n) (events_of ns)

mutual
  pub length-words_in : (n : Node) → length (words_in n) ≡ word_count n
  length-words_in (element name attrs kids) = length-words_in_all kids
  length-words_in (text bytes) = refl

  length-words_in_all : (ns : Nodes) → length (words_in_all ns) ≡ word_counts ns
  length-words_in_all no_nodes = refl
  length-words_in_all (node_then n ns) = length-append (words_in n) (words_in_all ns) ∙ ap₂ (λ a b. a + b) (length-words_in n) (length-words_in_all ns)

pub word_parts-parts : (abbreviations : List (List ℕ)) (n : Node) → word_parts (parts abbreviations n) ≡ word_count n
word_parts-parts abbreviations n = ap length (words_among-parts abbreviations n) ∙ length-words_in n

-- ---- where the parts of a node stand

module _ (abbreviations : List (List ℕ)) where
  -- The parts of the node stand in these, after as many words as its span says.
  record Inside (outer : List Part) (base : ℕ) (s : Stand) : Type 0 where
    ahead : List Part
    suffix : List Part
    is : outer ≡ ahead ++ (parts abbreviations (plain s.node) ++ suffix)
    counts : base + word_parts ahead ≡ s.around.before

  regrouped : (x mid ahead own suffix z : List Part) → mid ≡ ahead ++ (own ++ suffix) → x ++ (mid ++ z) ≡ (x ++ ahead) ++ (own ++ (suffix ++ z))
  regrouped x mid ahead own suffix z e = ap (λ m. x ++ (m ++ z)) e ∙ simp append_assoc

  widened : (x mid z outer : List Part) (base base' : ℕ) (s : Stand) → outer ≡ x ++ (mid ++ z) → base + word_parts x ≡ base' → Inside mid base' s → Inside outer base s
  widened x mid z outer base base' s e counts i = record {
    ahead = x ++ i.ahead;
    suffix = i.suffix ++ z;
    is = e ∙ regrouped x mid i.ahead (parts abbreviations (plain s.node)) i.suffix z i.is;
    counts = let more = word_parts-append x i.ahead in let rest = i.counts in omega arith;
  }

  itself : (a : Around) (n : Numbered) → Inside (parts abbreviations (plain n)) a.before (record { node = n; around = a })
  itself a n = record { ahead = []; suffix = []; is = sym (append-nil (parts abbreviations (plain n))); counts = omega arith }

  mutual
    unfolding stands child_stands

    stands-inside : (a : Around) (n : Numbered) → All (Inside (parts abbreviations (plain n)) a.before) (stands a n)
    stands-inside a (element_at r name attrs kids) =
        let outer : List Part = parts abbreviations (element name attrs (plain_children kids)) in
        All-cons (Inside outer a.before) _ _ (itself a (element_at r name attrs kids))
        (All-weaker (Inside (parts_of abbreviations (plain_children kids)) a.before) (Inside outer a.before)
        (λ s i. widened (gap_tag name ∷ []) (parts_of abbreviations (plain_children kids)) (gap_tag name ∷ []) outer a.before a.before s (parts-element abbreviations name attrs (plain_children kids)) (omega arith) i)
        (child_stands (round_first a.before r) kids) (child_stands-inside (round_first a.before r) kids))
    stands-inside a (text_at r bytes) =
        All-cons (Inside (parts abbreviations (text bytes)) a.before) _ [] (itself a (text_at r bytes)) (All-nil (Inside (parts abbreviations (text bytes)) a.before))

    child_stands-inside : (a : Around) (ns : Children) → All (Inside (parts_of abbreviations (plain_children ns)) a.before) (child_stands a ns)
    child_stands-inside a no_children = All-nil (Inside (parts_of abbreviations no_nodes) a.before)
    child_stands-inside a (child_then n ns) =
        let outer : List Part = parts_of abbreviations (node_then (plain n) (plain_children ns)) in
        let first : Around = record a { next = first_of ns } in
        All-append (Inside outer a.before) (stands first n) (child_stands (round_next a n) ns)
        (All-weaker (Inside (parts abbreviations (plain n)) a.before) (Inside outer a.before)
        (λ s i. widened [] (parts abbreviations (plain n)) (parts_of abbreviations (plain_children ns)) outer a.before a.before s (parts_of-then abbreviations (plain n) (plain_children ns)) (omega arith) i)
        (stands first n) (stands-inside first n))
        (All-weaker (Inside (parts_of abbreviations (plain_children ns)) (a.before + word_count (plain n))) (Inside outer a.before)
        (λ s i. widened (parts abbreviations (plain n)) (parts_of abbreviations (plain_children ns)) [] outer a.before (a.before + word_count (plain n)) s
        (parts_of-then abbreviations (plain n) (plain_children ns) ∙ ap (λ l. parts abbreviations (plain n) ++ l) (sym (append-nil (parts_of abbreviations (plain_children ns)))))
        (ap (λ w. a.before + w) (word_parts-parts abbreviations (plain n))) i)
        (child_stands (round_next a n) ns) (child_stands-inside (round_next a n) ns))

  part-inside : (outer : Node) (s : Stand) → Inside (parts abbreviations outer) 0 s → part (tokens abbreviations outer) (span s) ≡ tokens abbreviations (plain s.node)
  unfolding tokens
  part-inside outer s i =
      let words = word_parts-parts abbreviations (plain s.node) in
      let counts = i.counts in
      let from : s.around.before + 1 - 1 ≡ word_parts i.ahead = omega arith in
      let long : (s.around.before + 1 + word_count (plain s.node) - 1) - (s.around.before + 1 - 1) ≡ word_parts (parts abbreviations (plain s.node)) = omega arith in
      ap₂ (λ l d. renumbered (take l (drop d (tokens_from 1 1 (parts abbreviations outer))))) long from
      ∙ ap (λ ps. renumbered (take (word_parts (parts abbreviations (plain s.node))) (drop (word_parts i.ahead) (tokens_from 1 1 ps)))) i.is
      ∙ part-tokens_from i.ahead (parts abbreviations (plain s.node)) i.suffix

  pub shift : (root : Numbered) → All (λ s. part (tokens abbreviations (plain root)) (span s) ≡ tokens abbreviations (plain s.node)) (stands_in root)
  shift root =
      All-weaker (Inside (parts abbreviations (plain root)) 0) (λ s. part (tokens abbreviations (plain root)) (span s) ≡ tokens abbreviations (plain s.node))
      (part-inside (plain root)) (stands round_root root) (stands-inside round_root root)

-- the words of a node, and those before it, are among the document's
pub stands-few : (root : Numbered) → All (λ s. s.around.before + word_count (plain s.node) ≤ word_count (plain root)) (stands_in root)
stands-few root =
    All-weaker (Inside [] (parts [] (plain root)) 0) (λ s. s.around.before + word_count (plain s.node) ≤ word_count (plain root))
    (λ s i. omega (
      arith,
      i.counts,
      word_parts-parts [] (plain s.node),
      word_parts-parts [] (plain root),
      ap word_parts i.is,
      word_parts-append i.ahead (parts [] (plain s.node) ++ i.suffix),
      word_parts-append (parts [] (plain s.node)) i.suffix,
    ))
    (stands round_root root) (stands-inside [] round_root root)
