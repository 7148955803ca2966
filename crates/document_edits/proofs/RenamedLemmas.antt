-- A tree whose references are renamed: it is edited as before, and an edit touches as many words.
use Rattle.std.proofs.Common.{◌≡◌, ℕ, zero, suc, ◌+◌, ◌≤◌, Bool, true, false, ◌||◌, ◌&&◌, not, cond, List, [], ◌∷◌, ◌++◌, Option, Some, None, map, length, drop, option_map, length-drop, refl, sym, ap, ap₂, ◌∙◌, arith, inl, inr}
use Rattle.std.specs.Prelude.{option_and_then}
use Rattle.std.specs.Str.{bytes_eq}
use Rattle.std.proofs.lemmas.Bool.{cases_Bool, cond-false, cond-true}
use Rattle.std.proofs.lemmas.List.{drop-map, map-append}
use Rattle.std.proofs.lemmas.List.Sums.{sum_by-cons}
use Rattle.doc_grammar.specs.Limits.{node_count, nodes_count}
use Rattle.ft_base.specs.declared.ids.NodeRef.{NodeRef}
use Rattle.ordered_tree.specs.Leaves.{texts, texts_of}
use Rattle.ordered_tree.specs.Numbered.{Numbered, element_at, text_at, Children, no_children, child_then, children, reference}
use Rattle.ordered_tree.specs.Places.{at_place, child}
use Rattle.plain_tree.specs.Document.{Node, element, text, Nodes, no_nodes, node_then}
use Rattle.plain_tree.specs.declared.place.How.{How}
use Rattle.plain_tree.specs.declared.place.How.TheVariants as H
use Rattle.tree_edits.specs.Changed.{Text, stays, text_leaf, touched, without, word_total}
use Rattle.tree_edits.specs.Edits.{all_changed, append, changed, is_among, is_same, joined, only, references_in, references_of, text_then}
use Rattle.tree_edits.specs.Fresh.{all_fresh, fresh}
use Rattle.tree_edits.specs.Acts.{act, act_on}
use Rattle.tree_edits.proofs.EditLemmas.{turned}
use Rattle.tree_edits.proofs.Gathered.{texts_part, texts-refs}
use Rattle.tree_edits.proofs.References.{part_times, same_self, times, times-append, weight_yes}
use Rattle.tree_edits.proofs.TextLists.{refs_of}
use Rattle.document_edits.proofs.NumberingLemmas.{Kept}

module _ (move : NodeRef → NodeRef) where
  abbrev mutual
    pub renamed : Numbered → Numbered
    renamed (element_at r name attrs kids) = element_at (move r) name attrs (all_renamed kids)
    renamed (text_at r bytes) = text_at (move r) bytes

    pub all_renamed : Children → Children
    all_renamed no_children = no_children
    all_renamed (child_then n ns) = child_then (renamed n) (all_renamed ns)

  -- ---- joining, and content

  renamed-append : (a b : Children) → all_renamed (append a b) ≡ append (all_renamed a) (all_renamed b)
  renamed-append no_children b = refl
  renamed-append (child_then n a) b = ap (child_then (renamed n)) (renamed-append a b)

  renamed-text_then : (r : NodeRef) (bytes : List ℕ) (ns : Children) → all_renamed (text_then r bytes ns) ≡ text_then (move r) bytes (all_renamed ns)
  renamed-text_then r [] ns = refl
  renamed-text_then r (c ∷ bytes) no_children = refl
  renamed-text_then r (c ∷ bytes) (child_then (text_at q more) ns) = refl
  renamed-text_then r (c ∷ bytes) (child_then (element_at q name attrs kids) ns) = refl

  renamed-joined : (ns : Children) → all_renamed (joined ns) ≡ joined (all_renamed ns)
  renamed-joined no_children = refl
  renamed-joined (child_then (element_at r name attrs kids) ns) = ap₂ (λ ks ms. child_then (element_at (move r) name attrs ks) ms) (renamed-joined kids) (renamed-joined ns)
  renamed-joined (child_then (text_at r bytes) ns) = renamed-text_then r bytes (joined ns) ∙ ap (text_then (move r) bytes) (renamed-joined ns)

  renamed-act : (how : Option How) (content : Children) (n : Numbered) → all_renamed (act how content n) ≡ act how (all_renamed content) (renamed n)
  renamed-act None content n = refl
  renamed-act (Some H.First) content (element_at r name attrs kids) = ap (λ ks. only (element_at (move r) name attrs ks)) (renamed-append content kids)
  renamed-act (Some H.First) content (text_at r bytes) = refl
  renamed-act (Some H.Last) content (element_at r name attrs kids) = ap (λ ks. only (element_at (move r) name attrs ks)) (renamed-append kids content)
  renamed-act (Some H.Last) content (text_at r bytes) = refl
  renamed-act (Some H.Before) content n = renamed-append content (only n)
  renamed-act (Some H.After) content n = refl

  mutual
    pub renamed-fresh : (n : Node) (refs : List NodeRef) → node_count n ≤ length refs → renamed (fresh refs n) ≡ fresh (map move refs) n
    renamed-fresh (element name attrs kids) [] h = absurd (omega (arith, h))
    renamed-fresh (element name attrs kids) (r ∷ refs) h = ap (element_at (move r) name attrs) (renamed-all_fresh kids refs (omega (arith, h)))
    renamed-fresh (text bytes) [] h = absurd (omega (arith, h))
    renamed-fresh (text bytes) (r ∷ refs) h = refl

    pub renamed-all_fresh : (ns : Nodes) (refs : List NodeRef) → nodes_count ns ≤ length refs → all_renamed (all_fresh refs ns) ≡ all_fresh (map move refs) ns
    renamed-all_fresh no_nodes refs h = refl
    renamed-all_fresh (node_then n ns) refs h =
        ap₂ child_then (renamed-fresh n refs (omega (arith, h)))
        (renamed-all_fresh ns (drop (node_count n) refs) (omega (arith, h, length-drop (node_count n) refs))
        ∙ ap (λ rs. all_fresh rs ns) (sym (drop-map move (node_count n) refs)))

  -- ---- edits

  module _ (chosen also : NodeRef → Bool) (change again : Numbered → Children) (same : (m : Numbered) → all_renamed (change m) ≡ again (renamed m)) where
    mutual
      renamed-changed : (n : Numbered) → ((q : NodeRef) → 1 ≤ times q (references_in n) → also (move q) ≡ chosen q)
          → all_renamed (changed chosen change n) ≡ changed also again (renamed n)
      renamed-changed (element_at r name attrs kids) alike =
          let here : also (move r) ≡ chosen r = alike r (omega (arith, weight_yes (is_same r r) (same_self r))) in
          elim (cases_Bool (chosen r)) [
            | inl holds ↦
                ap all_renamed (cond-true (chosen r) _ _ holds)
                ∙ same (element_at r name attrs kids)
                ∙ sym (cond-true (also (move r)) _ _ (here ∙ holds))
            | inr fails ↦
                ap all_renamed (cond-false (chosen r) _ _ fails)
                ∙ ap (λ ks. only (element_at (move r) name attrs ks)) (renamed-all_changed kids (λ q there. alike q (omega (arith, there))))
                ∙ sym (cond-false (also (move r)) _ _ (here ∙ fails))
          ]
      renamed-changed (text_at r bytes) alike = refl

      renamed-all_changed : (ns : Children) → ((q : NodeRef) → 1 ≤ times q (references_of ns) → also (move q) ≡ chosen q)
          → all_renamed (all_changed chosen change ns) ≡ all_changed also again (all_renamed ns)
      renamed-all_changed no_children alike = refl
      renamed-all_changed (child_then n ns) alike =
          renamed-append (changed chosen change n) (all_changed chosen change ns)
          ∙ ap₂ append (renamed-changed n (λ q there. alike q (omega (arith, there, times-append q (references_in n) (references_of ns)))))
          (renamed-all_changed ns (λ q there. alike q (omega (arith, there, times-append q (references_in n) (references_of ns)))))

  renamed-among : (refs : List NodeRef) (q : NodeRef) → Kept move q → is_among (map move refs) (move q) ≡ is_among refs q
  renamed-among [] q kept = refl
  renamed-among (r ∷ refs) q kept = ap₂ (λ a b. a || b) (kept r) (renamed-among refs q kept)

  pub renamed-edit : (refs : List NodeRef) (how : Option How) (content : Children) (root : Numbered) → ((q : NodeRef) → 1 ≤ times q (references_in root) → Kept move q)
      → all_renamed (act_on refs how content root) ≡ act_on (map move refs) how (all_renamed content) (renamed root)
  renamed-edit refs how content root kept =
      renamed-joined (changed (is_among refs) (act how content) root)
      ∙ ap joined (renamed-changed (is_among refs) (is_among (map move refs)) (act how content) (act how (all_renamed content)) (renamed-act how content) root
      (λ q there. renamed-among refs q (kept q there)))

  -- ---- words

  abbrev moved : Text → Text
  moved t = (move t.0, t.1)

  mutual
    texts-renamed : (n : Numbered) → texts (renamed n) ≡ map moved (texts n)
    texts-renamed (element_at r name attrs kids) = texts_of-renamed kids
    texts-renamed (text_at r bytes) = refl

    texts_of-renamed : (ns : Children) → texts_of (all_renamed ns) ≡ map moved (texts_of ns)
    texts_of-renamed no_children = refl
    texts_of-renamed (child_then n ns) =
        ap₂ (λ a b. a ++ b) (texts-renamed n) (texts_of-renamed ns) ∙ sym (map-append moved (texts n) (texts_of ns))

  -- whether a text that is kept stays among any, and any text among those that are kept
  stays-kept : (others : List Text) (t : Text) → Kept move t.0 → stays (map moved others) (moved t) ≡ stays others t
  stays-kept [] t kept = refl
  stays-kept (u ∷ others) t kept = ap₂ (λ a b. (a && bytes_eq t.1 u.1) || b) (kept u.0) (stays-kept others t kept)

  stays-among : (others : List Text) (t : Text) → ((q : NodeRef) → 1 ≤ times q (refs_of others) → Kept move q) → stays (map moved others) (moved t) ≡ stays others t
  stays-among [] t kept = refl
  stays-among (u ∷ others) t kept =
      let own : is_same (move u.0) (move t.0) ≡ is_same u.0 t.0 = kept u.0 (omega (arith, weight_yes (is_same u.0 u.0) (same_self u.0))) t.0 in
      ap₂ (λ a b. (a && bytes_eq t.1 u.1) || b) (turned (move u.0) (move t.0) ∙ own ∙ turned t.0 u.0)
      (stays-among others t (λ q there. kept q (omega (arith, there))))

  map_cond : (b : Bool) (t : Text) (ts : List Text) → cond b (moved t ∷ map moved ts) (map moved ts) ≡ map moved (cond b (t ∷ ts) ts)
  map_cond true t ts = refl
  map_cond false t ts = refl

  without-renamed : (others ts : List Text) → ((t : Text) → 1 ≤ times t.0 (refs_of ts) → stays (map moved others) (moved t) ≡ stays others t)
      → without (map moved others) (map moved ts) ≡ map moved (without others ts)
  without-renamed others [] alike = refl
  without-renamed others (t ∷ ts) alike =
      let here : stays (map moved others) (moved t) ≡ stays others t = alike t (omega (arith, weight_yes (is_same t.0 t.0) (same_self t.0))) in
      ap₂ (λ b us. cond (not b) (moved t ∷ us) us) here (without-renamed others ts (λ u there. alike u (omega (arith, there))))
      ∙ map_cond (not (stays others t)) t (without others ts)

  words-renamed : (ts : List Text) → word_total (map text_leaf (map moved ts)) ≡ word_total (map text_leaf ts)
  words-renamed [] = refl
  words-renamed (t ∷ ts) =
      sum_by-cons (λ leaf. length leaf.words) (text_leaf (moved t)) (map text_leaf (map moved ts))
      ∙ ap (λ n. length (text_leaf t).words + n) (words-renamed ts)
      ∙ sym (sum_by-cons (λ leaf. length leaf.words) (text_leaf t) (map text_leaf ts))

  pub touched-renamed : (old new : Numbered) → ((q : NodeRef) → 1 ≤ times q (references_in old) → Kept move q) → touched (renamed old) (renamed new) ≡ touched old new
  touched-renamed old new kept =
      let own : (q : NodeRef) → 1 ≤ times q (refs_of (texts old)) → Kept move q =
      (λ q there. kept q (omega (arith, there, ap (times q) (texts-refs old), part_times q (texts_part old)))) in
      let gone : without (map moved (texts new)) (map moved (texts old)) ≡ map moved (without (texts new) (texts old)) =
      without-renamed (texts new) (texts old) (λ t there. stays-kept (texts new) t (own t.0 there)) in
      let came : without (map moved (texts old)) (map moved (texts new)) ≡ map moved (without (texts old) (texts new)) =
      without-renamed (texts old) (texts new) (λ t there. stays-among (texts old) t own) in
      ap₂ (λ a b. word_total (map text_leaf (without b a)) + word_total (map text_leaf (without a b))) (texts-renamed old) (texts-renamed new)
      ∙ ap₂ (λ a b. word_total (map text_leaf a) + word_total (map text_leaf b)) gone came
      ∙ ap₂ (λ a b. a + b) (words-renamed (without (texts new) (texts old))) (words-renamed (without (texts old) (texts new)))

  -- ---- places

  child-renamed : (k : ℕ) (ns : Children) → child k (all_renamed ns) ≡ option_map renamed (child k ns)
  child-renamed k no_children = refl
  child-renamed zero (child_then n ns) = refl
  child-renamed (suc zero) (child_then n ns) = refl
  child-renamed (suc (suc k)) (child_then n ns) = child-renamed (suc k) ns

  children-renamed : (n : Numbered) → children (renamed n) ≡ all_renamed (children n)
  children-renamed (element_at r name attrs kids) = refl
  children-renamed (text_at r bytes) = refl

  and_then-renamed : (f : Numbered → Option Numbered) → ((n : Numbered) → f (renamed n) ≡ option_map renamed (f n)) → (o : Option Numbered)
      → option_and_then f (option_map renamed o) ≡ option_map renamed (option_and_then f o)
  and_then-renamed f same None = refl
  and_then-renamed f same (Some n) = same n

  pub at_place-renamed : (place : List ℕ) (n : Numbered) → at_place place (renamed n) ≡ option_map renamed (at_place place n)
  at_place-renamed [] n = refl
  at_place-renamed (k ∷ place) n =
      ap (λ ns. option_and_then (at_place place) (child k ns)) (children-renamed n)
      ∙ ap (option_and_then (at_place place)) (child-renamed k (children n))
      ∙ and_then-renamed (at_place place) (at_place-renamed place) (child k (children n))

  pub reference-renamed : (n : Numbered) → reference (renamed n) ≡ move (reference n)
  reference-renamed (element_at r name attrs kids) = refl
  reference-renamed (text_at r bytes) = refl
