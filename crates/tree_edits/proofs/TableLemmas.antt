-- Texts in tables by the numbers of their references.
use Rattle.std.proofs.Common.{◌≡◌, ◌≢◌, ℕ, ◌+◌, ◌<◌, Bool, false, ◌||◌, ◌&&◌, cond, List, [], ◌∷◌, ◌++◌, Option, Some, None, length, map, set, get_or, take, drop, refl, sym, ap, ◌∙◌, arith, inl, inr, subst}
use Rattle.std.specs.List.{All}
use Rattle.std.specs.Str.{bytes_eq}
use Rattle.std.proofs.lemmas.Bool.{cases_Bool, eq-eqb, true≢false}
use Rattle.std.proofs.lemmas.List.{get_or-set_same, get_or-set_other, take_more, map-append, take-append-drop}
use Rattle.std.proofs.lemmas.List.Elements.{All-head, All-tail, All-cons}
use Rattle.std.proofs.lemmas.List.Folds.{list_any-append}
use Rattle.ft_base.proofs.Truth.{or_false, or_other}
use Rattle.ft_base.specs.declared.ids.LeafId.{LeafId}
use Rattle.ft_base.specs.declared.ids.NodeRef.{NodeRef}
use Rattle.ordered_tree.specs.Leaves.{leaf_of, text_of, texts}
use Rattle.ordered_tree.specs.Numbered.{Numbered}
use Rattle.ordered_tree.specs.Stands.{references}
use Rattle.ordered_tree.proofs.ApartLemmas.{All-before_map}
use Rattle.text_words.specs.Words.{words}
use Rattle.tree_edits.specs.Changed.{Text, is_text, put_by, stays}
use Rattle.tree_edits.specs.Edits.{is_same}
use Rattle.ordered_tree.specs.declared.texts.TextAt.{TextAt}
use Rattle.tree_edits.specs.steps.TextTable.{is_entry, is_held}
use Rattle.tree_edits.proofs.EditLemmas.{references-are}
use Rattle.tree_edits.proofs.Gathered.{texts-refs, texts_part}
use Rattle.tree_edits.proofs.RefSteps.{drop_next}
use Rattle.tree_edits.proofs.References.{Distinct, Part, keep, none, same_ref, same_self, skip, times, times-append, weight_yes}
use Rattle.tree_edits.proofs.TextLists.{refs_of, stays_none}

pub refs-text_of : (ts : List TextAt) → refs_of (map text_of ts) ≡ map (λ (t : TextAt). t.node) ts
refs-text_of [] = refl
refs-text_of (t ∷ ts) = ap (λ rs. t.node ∷ rs) (refs-text_of ts)

pub part_all : (P : NodeRef → Type 0) {xs ys : List NodeRef} → Part xs ys → All P ys → All P xs
part_all P none h = h
part_all P (keep {xs = xs} {ys = ys} r a) h = All-cons P r xs (All-head P r ys h) (part_all P a (All-tail P r ys h))
part_all P (skip {ys = ys} r a) h = part_all P a (All-tail P r ys h)

-- ---- a text more in a table

-- a text more, with a reference that none of the others has
pub one_held : (table : List (Option TextAt)) (u : TextAt) (ts : List Text) (t : Text) → u.node.0 < length table → is_held table t ≡ stays ts t → times u.node (refs_of ts) ≡ 0
    → is_held (set table u.node.0 (Some u)) t ≡ stays (ts ++ text_of u ∷ []) t
one_held table u ts t below before new =
    let past : stays (ts ++ text_of u ∷ []) t ≡ (stays ts t || is_text t (text_of u)) =
    list_any-append (is_text t) ts (text_of u ∷ []) ∙ ap (λ b. stays ts t || b) (or_false (is_text t (text_of u)) false refl) in
    elim (cases_Bool (is_same t.0 u.node)) [
      | inl same ↦
          let ref_is : t.0 ≡ u.node = same_ref t.0 u.node same in
          let none : stays ts t ≡ false = stays_none ts t (ap (λ r. times r (refs_of ts)) ref_is ∙ new) in
          ap (λ (r : NodeRef). is_entry (get_or (set table u.node.0 (Some u)) r.0 None) t) ref_is
          ∙ ap (λ entry. is_entry entry t) (get_or-set_same table u.node.0 (Some u) None below)
          ∙ sym (past ∙ or_other (stays ts t) (is_text t (text_of u)) none)
      | inr differs ↦
          let apart : t.0.0 ≢ u.node.0 = λ is. true≢false (sym (eq-eqb u.node.0 t.0.0 (sym is)) ∙ differs) in
          ap (λ entry. is_entry entry t) (get_or-set_other table u.node.0 t.0.0 (Some u) None apart)
          ∙ before
          ∙ sym (past ∙ or_false (stays ts t) (is_text t (text_of u)) (ap (λ b. b && bytes_eq t.1 u.text.now) differs))
    ]

-- the reference of a text is not among those before it
pub none_before : (ts : List TextAt) (i : ℕ) (u : TextAt) → i < length ts → u ≡ get_or ts i u → Distinct (map (λ (t : TextAt). t.node) ts) → times u.node (refs_of (map text_of (take i ts))) ≡ 0
none_before ts i u more is d =
    let split : ts ≡ take i ts ++ drop i ts = sym (take-append-drop i ts) in
    let rest : drop i ts ≡ u ∷ drop (i + 1) ts = drop_next ts i u more is in
    let all : refs_of (map text_of ts) ≡ refs_of (map text_of (take i ts)) ++ u.node ∷ refs_of (map text_of (drop (i + 1) ts)) =
    ap (λ l. refs_of (map text_of l)) (split ∙ ap (λ l. take i ts ++ l) rest)
    ∙ ap refs_of (map-append text_of (take i ts) (u ∷ drop (i + 1) ts))
    ∙ map-append (λ (t : Text). t.0) (map text_of (take i ts)) (map text_of (u ∷ drop (i + 1) ts)) in
    let count = ap (times u.node) (sym (refs-text_of ts) ∙ all) ∙ times-append u.node (refs_of (map text_of (take i ts))) (u.node ∷ refs_of (map text_of (drop (i + 1) ts))) in
    omega (arith, d u.node, count, weight_yes (is_same u.node u.node) (same_self u.node))

pub place_below : (ts : List TextAt) (size : ℕ) → All (λ (r : NodeRef). r.0 < size) (map (λ (t : TextAt). t.node) ts) → (i : ℕ) (d : TextAt) → i < length ts → (get_or ts i d).node.0 < size
place_below ts size h i d more = All-before_map (λ (r : NodeRef). r.0 < size) (λ (t : TextAt). t.node) ts h i d more

pub texts_below : (P : NodeRef → Type 0) (root : Numbered) → All P (references root) → All P (refs_of (texts root))
texts_below P root h = subst (All P) (sym (texts-refs root)) (part_all P (texts_part root) (subst (All P) (references-are root) h))

pub one_more : (table after : List (Option TextAt)) (ts : List TextAt) (i : ℕ) (u : TextAt) (t : Text) → i < length ts → u ≡ get_or ts i u → Distinct (map (λ (x : TextAt). x.node) ts)
    → u.node.0 < length table → after ≡ set table u.node.0 (Some u) → is_held table t ≡ stays (map text_of (take i ts)) t → is_held after t ≡ stays (map text_of (take (i + 1) ts)) t
one_more table after ts i u t more is d below put before =
    ap (λ l. is_held l t) put
    ∙ one_held table u (map text_of (take i ts)) t below before (none_before ts i u more is d)
    ∙ ap (λ l. stays l t) (sym (map-append text_of (take i ts) (u ∷ [])))
    ∙ ap (λ x. stays (map text_of (take i ts ++ x ∷ [])) t) is
    ∙ ap (λ l. stays (map text_of l) t) (sym (take_more ts i u more))

-- ---- leaves of texts that are not in a table

pub put_by_agree : (p q : Text → Bool) → ((t : Text) → p t ≡ q t) → (last : Option LeafId) (ts : List Text) → put_by p last ts ≡ put_by q last ts
put_by_agree p q h last [] = refl
put_by_agree p q h last (t ∷ ts) =
    let rest : put_by p (Some (leaf_of t.0)) ts ≡ put_by q (Some (leaf_of t.0)) ts = put_by_agree p q h (Some (leaf_of t.0)) ts in
    ap (λ b. cond b (put_by p (Some (leaf_of t.0)) ts) (record { leaf = leaf_of t.0; after = last; words = words t.1 } ∷ put_by p (Some (leaf_of t.0)) ts)) (h t)
    ∙ ap (λ ls. cond (q t) ls (record { leaf = leaf_of t.0; after = last; words = words t.1 } ∷ ls)) rest
