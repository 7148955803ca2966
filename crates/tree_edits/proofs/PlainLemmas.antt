-- An edit of a document with references is the edit of the plain document at the place of the element.
use Rattle.std.proofs.Common.{◌≡◌, ℕ, zero, suc, ◌+◌, ◌≤◌, Bool, true, false, ◌||◌, List, [], ◌∷◌, ◌++◌, Some, refl, sym, ap, ap₂, ◌∙◌, arith, inl, inr, append_assoc, append-nil}
use Rattle.std.specs.Option.{option_and_then}
use Rattle.std.proofs.lemmas.Bool.{cases_Bool, cond-false, cond-true}
use Rattle.ft_base.specs.declared.ids.NodeRef.{NodeRef}
use Rattle.ordered_tree.specs.Numbered.{Numbered, element_at, text_at, Children, no_children, child_then, plain, plain_children, reference, is_element}
use Rattle.ordered_tree.specs.Places as places
use Rattle.ordered_tree.specs.Places.{child}
use Rattle.plain_tree.specs.Document.{Node, element, Nodes, node_then}
use Rattle.plain_tree.specs.Edits as plain_edit
use Rattle.plain_tree.specs.declared.place.How.{How}
use Rattle.plain_tree.specs.declared.place.How.TheVariants as H
use Rattle.tree_edits.specs.Edits.{only, append, text_then, joined, references_in, references_of, is_same, is_among, changed, all_changed, inserted, nothing, insertion, replacement, removal}
use Rattle.tree_edits.proofs.References.{weight, weight_yes, same_self, times, times-append, Distinct}
use Rattle.tree_edits.proofs.Gathered.{unchanged, all_unchanged}

-- ---- nodes after nodes

pub append_none : (ns : Children) → append ns no_children ≡ ns
append_none no_children = refl
append_none (child_then n ns) = ap (child_then n) (append_none ns)

pub append_append : (xs ys zs : Children) → append (append xs ys) zs ≡ append xs (append ys zs)
append_append no_children ys zs = refl
append_append (child_then n xs) ys zs = ap (child_then n) (append_append xs ys zs)

-- ---- joining

pub plain-append : (a b : Children) → plain_children (append a b) ≡ plain_edit.append (plain_children a) (plain_children b)
plain-append no_children b = refl
plain-append (child_then n a) b = ap (node_then (plain n)) (plain-append a b)

plain-text_then : (r : NodeRef) (bytes : List ℕ) (ns : Children) → plain_children (text_then r bytes ns) ≡ plain_edit.text_then bytes (plain_children ns)
plain-text_then r [] no_children = refl
plain-text_then r [] (child_then (text_at q more) ns) = refl
plain-text_then r [] (child_then (element_at q name attrs kids) ns) = refl
plain-text_then r (c ∷ bytes) no_children = refl
plain-text_then r (c ∷ bytes) (child_then (text_at q more) ns) = refl
plain-text_then r (c ∷ bytes) (child_then (element_at q name attrs kids) ns) = refl

pub plain-joined : (ns : Children) → plain_children (joined ns) ≡ plain_edit.joined (plain_children ns)
plain-joined no_children = refl
plain-joined (child_then (element_at r name attrs kids) ns) = ap₂ (λ ks ms. node_then (element name attrs ks) ms) (plain-joined kids) (plain-joined ns)
plain-joined (child_then (text_at r bytes) ns) = plain-text_then r bytes (joined ns) ∙ ap (plain_edit.text_then bytes) (plain-joined ns)

-- ---- the element at a place

times_here : (n m : Numbered) → n ≡ m → 1 ≤ times (reference m) (references_in n)
times_here (element_at q name attrs kids) m is =
    let same : is_same (reference m) q ≡ true = ap (λ z. is_same (reference z) q) (sym is) ∙ same_self q in
    omega (arith, weight_yes (is_same (reference m) q) same)
times_here (text_at q bytes) m is =
    let same : is_same (reference m) q ≡ true = ap (λ z. is_same (reference z) q) (sym is) ∙ same_self q in
    omega (arith, weight_yes (is_same (reference m) q) same)

mutual
  there : (place : List ℕ) (n m : Numbered) → places.at_place place n ≡ Some m → 1 ≤ times (reference m) (references_in n)
  there [] n m is = let same : n ≡ m = cc in times_here n m same
  there (k ∷ place) (element_at q name attrs kids) m is = omega (arith, there_below k place kids m is)
  there (k ∷ place) (text_at q bytes) m is = cc

  there_below : (k : ℕ) (place : List ℕ) (ns : Children) (m : Numbered) → option_and_then (places.at_place place) (child k ns) ≡ Some m → 1 ≤ times (reference m) (references_of ns)
  there_below k place no_children m is = cc
  there_below zero place (child_then n ns) m is = cc
  there_below (suc zero) place (child_then n ns) m is = omega (arith, there place n m is, times-append (reference m) (references_in n) (references_of ns))
  there_below (suc (suc k)) place (child_then n ns) m is = omega (arith, there_below (suc k) place ns m is, times-append (reference m) (references_in n) (references_of ns))

not_here : (b : Bool) (below : ℕ) → weight b + below ≤ 1 → 1 ≤ below → b ≡ false
not_here true below few some = absurd (omega (arith, few, some))
not_here false below few some = refl

-- ---- the change at a place

module _ (change : Numbered → Children) (plain_change : Node → Nodes) (same : (m : Numbered) → plain_children (change m) ≡ plain_change (plain m)) where
  change_here : (n m : Numbered) → n ≡ m → is_element m ≡ true → plain_children (changed (is_same (reference m)) change n) ≡ plain_change (plain n)
  change_here (element_at q name attrs kids) m is elem =
      let yes_same : is_same (reference m) q ≡ true = ap (λ z. is_same (reference z) q) (sym is) ∙ same_self q in
      ap plain_children (cond-true (is_same (reference m) q) _ _ yes_same) ∙ same (element_at q name attrs kids)
  change_here (text_at q bytes) m is elem = cc

  mutual
    pub change_at : (place : List ℕ) (n m : Numbered) → places.at_place place n ≡ Some m → is_element m ≡ true → times (reference m) (references_in n) ≤ 1
        → plain_children (changed (is_same (reference m)) change n) ≡ plain_edit.at_place plain_change place (plain n)
    change_at [] n m is elem few = let at : n ≡ m = cc in change_here n m at elem
    change_at (k ∷ place) (element_at q name attrs kids) m is elem few =
        let below : 1 ≤ times (reference m) (references_of kids) = there_below k place kids m is in
        let other : is_same (reference m) q ≡ false = not_here (is_same (reference m) q) (times (reference m) (references_of kids)) few below in
        ap plain_children (cond-false (is_same (reference m) q) _ _ other)
        ∙ ap (λ ks. plain_edit.only (element name attrs ks)) (change_below k place kids m is elem (omega (arith, few)))
    change_at (k ∷ place) (text_at q bytes) m is elem few = cc

    change_below : (k : ℕ) (place : List ℕ) (ns : Children) (m : Numbered) → option_and_then (places.at_place place) (child k ns) ≡ Some m → is_element m ≡ true → times (reference m) (references_of ns) ≤ 1
        → plain_children (all_changed (is_same (reference m)) change ns) ≡ plain_edit.at_child (plain_edit.at_place plain_change place) k (plain_children ns)
    change_below k place no_children m is elem few = cc
    change_below zero place (child_then n ns) m is elem few = cc
    change_below (suc zero) place (child_then n ns) m is elem few =
        let both = times-append (reference m) (references_in n) (references_of ns) in
        let some = there place n m is in
        plain-append (changed (is_same (reference m)) change n) (all_changed (is_same (reference m)) change ns)
        ∙ ap₂ plain_edit.append (change_at place n m is elem (omega (arith, few, both)))
        (ap plain_children (all_unchanged change (reference m) ns (omega (arith, few, both, some))))
    change_below (suc (suc k)) place (child_then n ns) m is elem few =
        let both = times-append (reference m) (references_in n) (references_of ns) in
        let some = there_below (suc k) place ns m is in
        plain-append (changed (is_same (reference m)) change n) (all_changed (is_same (reference m)) change ns)
        ∙ ap₂ plain_edit.append (ap plain_children (unchanged change (reference m) n (omega (arith, few, both, some))))
        (change_below (suc k) place ns m is elem (omega (arith, few, both)))

-- ---- edits

pub plain-inserted : (how : How) (content : Children) (m : Numbered) → plain_children (inserted how content m) ≡ plain_edit.inserted how (plain_children content) (plain m)
plain-inserted H.First content (element_at r name attrs kids) = ap (λ ks. plain_edit.only (element name attrs ks)) (plain-append content kids)
plain-inserted H.First content (text_at r bytes) = refl
plain-inserted H.Last content (element_at r name attrs kids) = ap (λ ks. plain_edit.only (element name attrs ks)) (plain-append kids content)
plain-inserted H.Last content (text_at r bytes) = refl
plain-inserted H.Before content m = plain-append content (only m)
plain-inserted H.After content m = refl

module _ (place : List ℕ) (root m : Numbered) (is : places.at_place place root ≡ Some m) (elem : is_element m ≡ true) (distinct : Distinct (references_in root)) where
  pub plain-insertion : (how : How) (content : Children) → plain_children (insertion how content (reference m) root) ≡ plain_edit.insertion how (plain_children content) place (plain root)
  plain-insertion how content =
      plain-joined (changed (is_same (reference m)) (inserted how content) root)
      ∙ ap plain_edit.joined (change_at (inserted how content) (plain_edit.inserted how (plain_children content)) (plain-inserted how content) place root m is elem (distinct (reference m)))

  pub plain-replacement : (content : Children) → plain_children (replacement content (reference m) root) ≡ plain_edit.replacement (plain_children content) place (plain root)
  plain-replacement content =
      plain-joined (changed (is_same (reference m)) (λ n. content) root)
      ∙ ap plain_edit.joined (change_at (λ n. content) (λ n. plain_children content) (λ n. refl) place root m is elem (distinct (reference m)))

-- ---- removals one after the other

two_texts : (r q : NodeRef) (c : ℕ) (bytes more : List ℕ) (ns : Children) → text_then r (c ∷ bytes) (text_then q more ns) ≡ text_then r ((c ∷ bytes) ++ more) ns
two_texts r q c bytes [] ns = ap (λ z. text_then r (c ∷ z) ns) (sym (append-nil bytes))
two_texts r q c bytes (d ∷ more) no_children = refl
two_texts r q c bytes (d ∷ more) (child_then (text_at p rest) ns) = ap (λ z. child_then (text_at r z) ns) (sym (append_assoc (c ∷ bytes) (d ∷ more) rest))
two_texts r q c bytes (d ∷ more) (child_then (element_at p name attrs kids) ns) = refl

all_changed-append : (chosen : NodeRef → Bool) (change : Numbered → Children) (a b : Children) → all_changed chosen change (append a b) ≡ append (all_changed chosen change a) (all_changed chosen change b)
all_changed-append chosen change no_children b = refl
all_changed-append chosen change (child_then n a) b = ap (append (changed chosen change n)) (all_changed-append chosen change a b) ∙ sym (append_append (changed chosen change n) (all_changed chosen change a) (all_changed chosen change b))

module _ (chosen : NodeRef → Bool) where
  abbrev drops : Children → Children
  drops = all_changed chosen nothing

  text_dropped : (r : NodeRef) (bytes : List ℕ) (ns : Children) → joined (drops (text_then r bytes ns)) ≡ text_then r bytes (joined (drops ns))
  text_dropped r [] ns = refl
  text_dropped r (c ∷ bytes) no_children = refl
  text_dropped r (c ∷ bytes) (child_then (text_at q more) ns) = sym (two_texts r q c bytes more (joined (drops ns)))
  text_dropped r (c ∷ bytes) (child_then (element_at q name attrs kids) ns) = refl

  -- what is joined first may be removed from
  pub joined_dropped : (ns : Children) → joined (drops (joined ns)) ≡ joined (drops ns)
  joined_dropped no_children = refl
  joined_dropped (child_then (element_at r name attrs kids) ns) = elim (cases_Bool (chosen r)) [
    | inl holds ↦ rw holds (joined_dropped ns)
    | inr fails ↦ rw fails (ap₂ (λ ks ms. child_then (element_at r name attrs ks) ms) (joined_dropped kids) (joined_dropped ns))
  ]
  joined_dropped (child_then (text_at r bytes) ns) = text_dropped r bytes (joined ns) ∙ ap (text_then r bytes) (joined_dropped ns)

-- two removals as one
module _ (first next both : NodeRef → Bool) (or : (r : NodeRef) → both r ≡ (first r || next r)) where
  mutual
    two_dropped : (n : Numbered) → all_changed next nothing (changed first nothing n) ≡ changed both nothing n
    two_dropped (element_at r name attrs kids) = elim (cases_Bool (first r)) [
      | inl holds ↦
          ap (all_changed next nothing) (cond-true (first r) _ _ holds) ∙ sym (cond-true (both r) _ _ (or r ∙ ap (λ z. z || next r) holds))
      | inr fails ↦ elim (cases_Bool (next r)) [
        | inl also ↦
            ap (all_changed next nothing) (cond-false (first r) _ _ fails)
            ∙ ap (λ m. append m no_children) (cond-true (next r) _ _ also)
            ∙ sym (cond-true (both r) _ _ (or r ∙ ap₂ (λ x y. x || y) fails also))
        | inr never ↦
            ap (all_changed next nothing) (cond-false (first r) _ _ fails)
            ∙ ap (λ m. append m no_children) (cond-false (next r) _ _ never)
            ∙ ap (λ ks. only (element_at r name attrs ks)) (all_two_dropped kids)
            ∙ sym (cond-false (both r) _ _ (or r ∙ ap₂ (λ x y. x || y) fails never))
      ]
    ]
    two_dropped (text_at r bytes) = refl

    all_two_dropped : (ns : Children) → all_changed next nothing (all_changed first nothing ns) ≡ all_changed both nothing ns
    all_two_dropped no_children = refl
    all_two_dropped (child_then n ns) =
        all_changed-append next nothing (changed first nothing n) (all_changed first nothing ns)
        ∙ ap₂ append (two_dropped n) (all_two_dropped ns)

or_first : (a b : Bool) → (a || b) ≡ ((a || false) || b)
or_first true b = refl
or_first false b = refl

pub removed_in_turn : (r : NodeRef) (rs : List NodeRef) (root : Numbered) → removal (r ∷ rs) root ≡ joined (all_changed (is_among rs) nothing (removal (r ∷ []) root))
removed_in_turn r rs root =
    ap joined (sym (two_dropped (is_among (r ∷ [])) (is_among rs) (is_among (r ∷ rs)) (λ q. or_first (is_same q r) (is_among rs q)) root))
    ∙ sym (joined_dropped (is_among rs) (changed (is_among (r ∷ [])) nothing root))

mutual
  pub none_removed : (n : Numbered) → changed (is_among []) nothing n ≡ only n
  none_removed (element_at r name attrs kids) = ap (λ ks. only (element_at r name attrs ks)) (none_removed_below kids)
  none_removed (text_at r bytes) = refl

  none_removed_below : (ns : Children) → all_changed (is_among []) nothing ns ≡ ns
  none_removed_below no_children = refl
  none_removed_below (child_then n ns) = ap (λ m. append m (all_changed (is_among []) nothing ns)) (none_removed n) ∙ ap (child_then n) (none_removed_below ns)
