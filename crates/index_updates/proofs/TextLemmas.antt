-- The leaves of texts: each that was taken of a document is there in its turn, each that was put is new in its turn, and how many words they have.
use Rattle.std.proofs.Common.{◌≡◌, ◌∙◌, sym, ap, ap₂, subst, refl, ℕ, ◌+◌, ◌≤◌, ◌==◌, Bool, true, false, not, cond, ◌||◌, List, [], ◌∷◌, ◌++◌, map, filter, length, Some, None, arith, inl, inr}
use Rattle.std.specs.List.{list_any}
use Rattle.std.proofs.lemmas.Bool.{cases_Bool, cond-false, cond-true, eq-eqb, eqb-true, or_from, or_left, or_right}
use Rattle.std.proofs.lemmas.List.Sums.{sum_by-cons}
use Rattle.ft_base.proofs.Truth.{same_tests}
use Rattle.ft_base.specs.declared.ids.LeafId.{LeafId}
use Rattle.ft_base.specs.declared.ids.NodeRef.{NodeRef}
use Rattle.index_meaning.specs.Documents.{Document, Leaf, leaf_words, without_leaf}
use Rattle.ordered_tree.specs.Leaves.{leaf_of}
use Rattle.ordered_tree.specs.declared.leaf.LeafWords.{LeafWords}
use Rattle.text_words.specs.Words.{words}
use Rattle.tree_edits.specs.Changed.{Text, index_leaf, is_one_of, put_all, put_after, stays, take_all, text_leaf, word_total}
use Rattle.tree_edits.specs.Edits.{is_among, is_same}
use Rattle.tree_edits.proofs.References.{Distinct, distinct_first, distinct_rest, none_among, same_ref, same_self, some_among, times, times_filter, weight_yes, weight_zero}
use Rattle.tree_edits.proofs.TextLists.{after_text, map_cond, one_further, refs_filter, refs_of, times_further}
use Rattle.index_updates.specs.steps.Turns.{AreNew, AreThere, with_all, without_all, words_put, words_taken}

abbrev pub ids_of : List Text → List LeafId
ids_of ts = map (λ t. leaf_of t.0) ts

-- ---- a reference among texts

abbrev other : NodeRef → Text → Bool
other r t = not (is_same r t.0)

pub fewer : (p : Text → Bool) (ts : List Text) (q : NodeRef) → times q (refs_of (filter p ts)) ≤ times q (refs_of ts)
fewer p [] q = omega arith
fewer p (t ∷ ts) q = elim (cases_Bool (p t)) [
  | inl holds ↦ rw holds (omega (arith, fewer p ts q))
  | inr fails ↦ rw fails (omega (arith, fewer p ts q))
]

pub still_distinct : (p : Text → Bool) (ts : List Text) → Distinct (refs_of ts) → Distinct (refs_of (filter p ts))
still_distinct p ts d q = omega (arith, d q, fewer p ts q)

all_others : (r : NodeRef) (ts : List Text) → times r (refs_of ts) ≡ 0 → filter (other r) ts ≡ ts
all_others r [] h = refl
all_others r (t ∷ ts) h =
    cond-true (other r t) (t ∷ filter (other r) ts) (filter (other r) ts) (ap not (weight_zero (is_same r t.0) (times r (refs_of ts)) h))
    ∙ ap (λ us. t ∷ us) (all_others r ts (omega (arith, h)))

-- ---- whether a leaf is there

has_text : (r : NodeRef) (ts : List Text) → list_any (λ leaf. leaf.id == r.0) (map text_leaf ts) ≡ is_among (refs_of ts) r
has_text r [] = refl
has_text r (t ∷ ts) = ap (λ b. (t.0.0 == r.0) || b) (has_text r ts)

has_none : (r : NodeRef) (ts us : List Text) → times r (refs_of ts) + times r (refs_of us) ≡ 0 → list_any (λ leaf. leaf.id == r.0) (map text_leaf ts ++ map text_leaf us) ≡ false
has_none r [] us h = has_text r us ∙ none_among r (refs_of us) (omega (arith, h))
has_none r (t ∷ ts) us h =
    or_from (t.0.0 == r.0) (list_any (λ leaf. leaf.id == r.0) (map text_leaf ts ++ map text_leaf us))
    (weight_zero (is_same r t.0) (times r (refs_of ts)) (omega (arith, h))) (has_none r ts us (omega (arith, h)))

has_here : (ts : List Text) (t : Text) (ls : List Leaf) → list_any (λ leaf. leaf.id == t.0.0) (map text_leaf ts ++ text_leaf t ∷ ls) ≡ true
has_here [] t ls = or_left (t.0.0 == t.0.0) (list_any (λ leaf. leaf.id == t.0.0) ls) (eq-eqb t.0.0 t.0.0 refl)
has_here (u ∷ ts) t ls = or_right (u.0.0 == t.0.0) (list_any (λ leaf. leaf.id == t.0.0) (map text_leaf ts ++ text_leaf t ∷ ls)) (has_here ts t ls)

-- ---- without a leaf

without_text : (r : NodeRef) (ts : List Text) → filter (λ leaf. not (leaf.id == r.0)) (map text_leaf ts) ≡ map text_leaf (filter (other r) ts)
without_text r [] = refl
without_text r (t ∷ ts) =
    ap (λ ls. cond (other r t) (text_leaf t ∷ ls) ls) (without_text r ts) ∙ sym (map_cond (other r t) t (filter (other r) ts))

words_more : (t : Text) (ts : List Text) → word_total (map text_leaf (t ∷ ts)) ≡ length (words t.1) + word_total (map text_leaf ts)
words_more t ts = sum_by-cons (λ leaf. length leaf.words) (text_leaf t) (map text_leaf ts)

-- its words, and those of the others
text_words : (r : NodeRef) (ts : List Text) → times r (refs_of ts) ≤ 1
    → length (leaf_words r.0 (map text_leaf ts)) + word_total (map text_leaf (filter (other r) ts)) ≡ word_total (map text_leaf ts)
text_words r [] h = refl
text_words r (t ∷ ts) h = elim (cases_Bool (is_same r t.0)) [
  | inl same ↦
      let none : times r (refs_of ts) ≡ 0 = omega (arith, h, weight_yes (is_same r t.0) same) in
      let start : length (leaf_words r.0 (map text_leaf (t ∷ ts))) + word_total (map text_leaf (filter (other r) (t ∷ ts)))
      ≡ length (words t.1) + word_total (map text_leaf ts) =
      ap₂ (λ (ws : List (List ℕ)) (us : List Text). length ws + word_total (map text_leaf us))
      (cond-true (t.0.0 == r.0) (words t.1) (leaf_words r.0 (map text_leaf ts)) same)
      (cond-false (other r t) (t ∷ filter (other r) ts) (filter (other r) ts) (ap not same) ∙ all_others r ts none) in
      start ∙ sym (words_more t ts)
  | inr differs ↦
      let start : length (leaf_words r.0 (map text_leaf (t ∷ ts))) + word_total (map text_leaf (filter (other r) (t ∷ ts)))
      ≡ length (leaf_words r.0 (map text_leaf ts)) + word_total (map text_leaf (t ∷ filter (other r) ts)) =
      ap₂ (λ (ws : List (List ℕ)) (us : List Text). length ws + word_total (map text_leaf us))
      (cond-false (t.0.0 == r.0) (words t.1) (leaf_words r.0 (map text_leaf ts)) differs)
      (cond-true (other r t) (t ∷ filter (other r) ts) (filter (other r) ts) (ap not differs)) in
      omega (arith, start, words_more t (filter (other r) ts), words_more t ts, text_words r ts (omega (arith, h)))
]

all_pass : (leaves : List Leaf) → filter (λ leaf. true) leaves ≡ leaves
all_pass [] = refl
all_pass (l ∷ ls) = ap (λ xs. l ∷ xs) (all_pass ls)

turned : (a b : ℕ) → (a == b) ≡ (b == a)
turned a b = same_tests (a == b) (b == a) (λ h. eq-eqb b a (sym (eqb-true a b h))) (λ h. eq-eqb a b (sym (eqb-true b a h)))

take_more : (id : LeafId) (ids : List LeafId) (leaves : List Leaf) → take_all ids (filter (λ leaf. not (leaf.id == id.0)) leaves) ≡ take_all (id ∷ ids) leaves
take_more id ids [] = refl
take_more id ids (l ∷ ls) = elim (cases_Bool (l.id == id.0)) [
  | inl same ↦
      ap (take_all ids) (cond-false (not (l.id == id.0)) (l ∷ filter (λ leaf. not (leaf.id == id.0)) ls) (filter (λ leaf. not (leaf.id == id.0)) ls) (ap not same))
      ∙ take_more id ids ls
      ∙ sym (cond-false (not (is_one_of (id ∷ ids) l)) (l ∷ take_all (id ∷ ids) ls) (take_all (id ∷ ids) ls) (ap not (or_left (id.0 == l.id) (is_one_of ids l) (turned id.0 l.id ∙ same))))
  | inr differs ↦
      ap (take_all ids) (cond-true (not (l.id == id.0)) (l ∷ filter (λ leaf. not (leaf.id == id.0)) ls) (filter (λ leaf. not (leaf.id == id.0)) ls) (ap not differs))
      ∙ ap (λ xs. cond (not (is_one_of ids l)) (l ∷ xs) xs) (take_more id ids ls)
      ∙ ap (λ b. cond (not (b || is_one_of ids l)) (l ∷ take_all (id ∷ ids) ls) (take_all (id ∷ ids) ls)) (sym (turned id.0 l.id ∙ differs))
]

-- ---- documents of these breaks

module _ (s p : List ℕ) where
  abbrev pub document : List Leaf → Document
  document leaves = record { leaves = leaves; sentences = s; paragraphs = p }

  pub taken_of : (ids : List LeafId) (leaves : List Leaf) → without_all ids (document leaves) ≡ document (take_all ids leaves)
  taken_of [] leaves = ap document (sym (all_pass leaves))
  taken_of (id ∷ ids) leaves = taken_of ids (filter (λ leaf. not (leaf.id == id.0)) leaves) ∙ ap document (take_more id ids leaves)

  pub put_of : (ls : List LeafWords) (leaves : List Leaf) → with_all ls (document leaves) ≡ document (put_all ls leaves)
  put_of [] leaves = refl
  put_of (l ∷ ls) leaves = put_of ls _

  less : (r : NodeRef) (ts : List Text) → without_leaf r.0 (document (map text_leaf ts)) ≡ document (map text_leaf (filter (other r) ts))
  less r ts = ap document (without_text r ts)

  -- each of these texts is there in its turn
  pub all_there : (xs ts : List Text) → Distinct (refs_of xs) → ((q : NodeRef) → times q (refs_of xs) ≤ times q (refs_of ts)) → AreThere (ids_of xs) (document (map text_leaf ts))
  all_there [] ts d within = tt
  all_there (x ∷ xs) ts d within =
      let here : is_among (refs_of ts) x.0 ≡ true = some_among x.0 (refs_of ts) (omega (arith, within x.0, weight_yes (is_same x.0 x.0) (same_self x.0))) in
      let rest : (q : NodeRef) → times q (refs_of xs) ≤ times q (refs_of (filter (other x.0) ts)) = λ q. elim (cases_Bool (is_same x.0 q)) [
        | inl same ↦
            let none : times q (refs_of xs) ≡ 0 = ap (λ z. times z (refs_of xs)) (sym (same_ref x.0 q same)) ∙ distinct_first x.0 (refs_of xs) d in
            omega (arith, none)
        | inr differs ↦
            omega (arith, within q, ap (times q) (refs_filter (λ z. not (is_same x.0 z)) ts), times_filter q (λ z. not (is_same x.0 z)) (refs_of ts) (ap not differs))
      ] in
      (has_text x.0 ts ∙ here, subst (AreThere (ids_of xs)) (sym (less x.0 ts)) (all_there xs (filter (other x.0) ts) (distinct_rest x.0 (refs_of xs) d) rest))

  -- their words, and those that are left
  pub all_words : (xs ts : List Text) → Distinct (refs_of ts)
      → words_taken (ids_of xs) (document (map text_leaf ts)) + word_total (without_all (ids_of xs) (document (map text_leaf ts))).leaves ≡ word_total (map text_leaf ts)
  all_words [] ts d = omega arith
  all_words (x ∷ xs) ts d =
      let rest = ap (λ e. words_taken (ids_of xs) e + word_total (without_all (ids_of xs) e).leaves) (less x.0 ts) ∙ all_words xs (filter (other x.0) ts) (still_distinct (other x.0) ts d) in
      omega (arith, rest, text_words x.0 ts (d x.0))

  -- ---- each text that others don't have is new in its turn, and the one before it is there

  new_after : (os ts : List Text) (t : Text) (rest : List Text) → ((r : NodeRef) → times r (refs_of ts) + times r (refs_of (t ∷ rest)) ≤ 1)
      → AreNew (put_after os (Some (leaf_of t.0)) rest) (document (map text_leaf ts ++ text_leaf t ∷ map text_leaf (filter (stays os) rest)))
  new_after os ts t [] few = tt
  new_after os ts t (u ∷ rest) few =
      let ls = map text_leaf (filter (stays os) rest) in
      let next : AreNew (put_after os (Some (leaf_of u.0)) rest) (document (map text_leaf ts ++ text_leaf t ∷ text_leaf u ∷ ls)) =
      subst (λ xs. AreNew (put_after os (Some (leaf_of u.0)) rest) (document xs)) (one_further ts t (text_leaf u ∷ ls))
      (new_after os (ts ++ t ∷ []) u rest (λ r. omega (arith, few r, times_further r ts t))) in
      let alone : times t.0 (refs_of ts) ≡ 0 = omega (arith, few t.0, weight_yes (is_same t.0 t.0) (same_self t.0)) in
      let fresh : times u.0 (refs_of ts) + times u.0 (refs_of (t ∷ filter (stays os) rest)) ≡ 0 =
      omega (arith, few u.0, weight_yes (is_same u.0 u.0) (same_self u.0), fewer (stays os) rest u.0) in
      elim (cases_Bool (stays os u)) [
        | inl stay ↦ rw stay next
        | inr comes ↦ rw comes (
          has_none u.0 ts (t ∷ filter (stays os) rest) fresh,
          has_here ts t ls,
          subst (λ xs. AreNew (put_after os (Some (leaf_of u.0)) rest) (document xs)) (sym (after_text ts t (text_leaf u) ls alone)) next,
        )
      ]

  pub all_new : (os rest : List Text) → Distinct (refs_of rest) → AreNew (put_after os None rest) (document (map text_leaf (filter (stays os) rest)))
  all_new os [] d = tt
  all_new os (u ∷ rest) d =
      let next = new_after os [] u rest (λ r. omega (arith, d r)) in
      let fresh : times u.0 (refs_of (filter (stays os) rest)) ≡ 0 = omega (arith, distinct_first u.0 (refs_of rest) d, fewer (stays os) rest u.0) in
      elim (cases_Bool (stays os u)) [
        | inl stay ↦ rw stay next
        | inr comes ↦ rw comes (has_text u.0 (filter (stays os) rest) ∙ none_among u.0 (refs_of (filter (stays os) rest)) fresh, tt, next)
      ]

pub words_of_put : (ls : List LeafWords) → words_put ls ≡ word_total (map index_leaf ls)
words_of_put [] = refl
words_of_put (l ∷ ls) = ap (λ n. length l.words + n) (words_of_put ls) ∙ sym (sum_by-cons (λ leaf. length leaf.words) (index_leaf l) (map index_leaf ls))
