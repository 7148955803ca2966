-- What was taken and put leads from the leaves of a tree to those of another one, where the texts of both have their common references in one order.
use Rattle.std.proofs.Common.{◌≡◌, ℕ, ◌+◌, ◌≤◌, Bool, true, false, ◌||◌, ◌&&◌, ◌==◌, not, cond, List, [], ◌∷◌, ◌++◌, filter, map, Some, None, refl, sym, ap, ap₂, ◌∙◌, arith, inl, inr}
use Rattle.std.specs.List.{AllByRecursion}
use Rattle.std.specs.Str.{bytes_eq}
use Rattle.std.proofs.lemmas.Bool.{cases_Bool, cond-false, cond-true, eq-eqb, or_left, or_right}
use Rattle.std.proofs.lemmas.Slice.Eq.{bytes_eq-Decides}
use Rattle.ft_base.proofs.Truth.{bytes_eq_turned, or_false, or_other}
use Rattle.ft_base.specs.declared.ids.NodeRef.{NodeRef}
use Rattle.ft_base.specs.declared.ids.LeafId.{LeafId}
use Rattle.index_meaning.specs.Documents as index
use Rattle.ordered_tree.specs.Leaves.{leaf_of}
use Rattle.tree_edits.specs.Edits.{is_same, is_among}
use Rattle.tree_edits.specs.Changed.{Text, is_text, stays, without, put_after, text_leaf, index_leaf, is_one_of, take_all, put_all}
use Rattle.tree_edits.proofs.References.{same_ref, weight, weight_zero, times, Distinct, distinct_rest, distinct_first, InOrder, filter_narrow}

abbrev pub refs_of : List Text → List NodeRef
refs_of ts = map (λ t. t.0) ts

-- ---- a text that stays

pub stays_none : (ts : List Text) (t : Text) → times t.0 (refs_of ts) ≡ 0 → stays ts t ≡ false
stays_none [] t h = refl
stays_none (u ∷ ts) t h =
    ap (λ b. (b && bytes_eq t.1 u.1) || stays ts t) (weight_zero (is_same t.0 u.0) (times t.0 (refs_of ts)) h) ∙ stays_none ts t (omega (arith, h))

stays_among : (ts : List Text) (t : Text) → stays ts t ≡ true → is_among (refs_of ts) t.0 ≡ true
stays_among [] t h = cc
stays_among (u ∷ ts) t h = elim (cases_Bool (is_same t.0 u.0)) [
  | inl same ↦ or_left (is_same t.0 u.0) (is_among (refs_of ts) t.0) same
  | inr differs ↦ or_right (is_same t.0 u.0) (is_among (refs_of ts) t.0) (stays_among ts t (sym (ap (λ b. (b && bytes_eq t.1 u.1) || stays ts t) differs) ∙ h))
]

-- the only text with that reference
module _ (u : Text) (ts : List Text) (r : NodeRef) (d : Distinct (refs_of (u ∷ ts))) (same : is_same r u.0 ≡ true) where
  no_more : times r (refs_of ts) ≡ 0
  no_more = ap (λ q. times q (refs_of ts)) (same_ref r u.0 same) ∙ distinct_first u.0 (refs_of ts) d

  stays_first : (x : List ℕ) → stays (u ∷ ts) (r, x) ≡ bytes_eq x u.1
  stays_first x =
      ap (λ b. (is_same r u.0 && bytes_eq x u.1) || b) (stays_none ts (r, x) no_more)
      ∙ or_false (is_same r u.0 && bytes_eq x u.1) false refl
      ∙ ap (λ b. b && bytes_eq x u.1) same

stays_later : (u : Text) (ts : List Text) (t : Text) → is_same t.0 u.0 ≡ false → stays (u ∷ ts) t ≡ stays ts t
stays_later u ts t differs = ap (λ b. (b && bytes_eq t.1 u.1) || stays ts t) differs

one_text : (ts : List Text) (r : NodeRef) (b c : List ℕ) → Distinct (refs_of ts) → stays ts (r, c) ≡ true → stays ts (r, b) ≡ bytes_eq b c
one_text [] r b c d h = cc
one_text (u ∷ ts) r b c d h = elim (cases_Bool (is_same r u.0)) [
  | inl same ↦
      let there : c ≡ u.1 = (bytes_eq-Decides c u.1).0 (sym (stays_first u ts r d same c) ∙ h) in
      stays_first u ts r d same b ∙ ap (bytes_eq b) (sym there)
  | inr differs ↦
      stays_later u ts (r, b) differs
      ∙ one_text ts r b c (distinct_rest u.0 (refs_of ts) d) (sym (stays_later u ts (r, c) differs) ∙ h)
]

-- ---- those that stay are the same on both sides

abbrev Within : List Text → List Text → Type 0
Within ts xs = AllByRecursion (λ t. stays ts t ≡ true) xs

stays_self : (t : Text) (ts : List Text) → stays (t ∷ ts) t ≡ true
stays_self t ts =
    or_left (is_text t t) (stays ts t) (ap (λ b. b && bytes_eq t.1 t.1) (eq-eqb t.0.0 t.0.0 refl) ∙ (bytes_eq-Decides t.1 t.1).1 refl)

within_more : (u : Text) (ts xs : List Text) → Within ts xs → Within (u ∷ ts) xs
within_more u ts [] h = tt
within_more u ts (x ∷ xs) h = (or_right (is_text x u) (stays ts x) h.0, within_more u ts xs h.1)

within_self : (ts : List Text) → Within ts ts
within_self [] = tt
within_self (t ∷ ts) = (stays_self t ts, within_more t ts ts (within_self ts))

within_filter : (p : Text → Bool) (ts xs : List Text) → Within ts xs → Within ts (filter p xs)
within_filter p ts [] h = tt
within_filter p ts (x ∷ xs) h = elim (cases_Bool (p x)) [
  | inl holds ↦ rw holds (h.0, within_filter p ts xs h.1)
  | inr fails ↦ rw fails (within_filter p ts xs h.1)
]

same_filter : (os ns xs ys : List Text) → Distinct (refs_of os) → Distinct (refs_of ns) → Within os xs → Within ns ys → refs_of xs ≡ refs_of ys
    → filter (stays ns) xs ≡ filter (stays os) ys
same_filter os ns [] [] od nd wx wy e = refl
same_filter os ns [] (y ∷ ys) od nd wx wy e = cc
same_filter os ns (x ∷ xs) [] od nd wx wy e = cc
same_filter os ns ((r, b) ∷ xs) ((q, c) ∷ ys) od nd wx wy e =
    let ref_is : r ≡ q = cc in
    let rest_is : refs_of xs ≡ refs_of ys = cc in
    let left : stays ns (r, b) ≡ bytes_eq b c = ap (λ z. stays ns (z, b)) ref_is ∙ one_text ns q b c nd wy.0 in
    let right : stays os (q, c) ≡ bytes_eq b c = ap (λ z. stays os (z, c)) (sym ref_is) ∙ one_text os r c b od wx.0 ∙ bytes_eq_turned c b in
    let rest : filter (stays ns) xs ≡ filter (stays os) ys = same_filter os ns xs ys od nd wx.1 wy.1 rest_is in
    elim (cases_Bool (bytes_eq b c)) [
      | inl equal ↦
          let bytes_are : b ≡ c = (bytes_eq-Decides b c).0 equal in
          cond-true (stays ns (r, b)) ((r, b) ∷ filter (stays ns) xs) (filter (stays ns) xs) (left ∙ equal)
          ∙ ap₂ (λ (z : NodeRef) (w : List ℕ). (z, w) ∷ filter (stays ns) xs) ref_is bytes_are
          ∙ ap (λ zs. (q, c) ∷ zs) rest
          ∙ sym (cond-true (stays os (q, c)) ((q, c) ∷ filter (stays os) ys) (filter (stays os) ys) (right ∙ equal))
      | inr other ↦
          cond-false (stays ns (r, b)) ((r, b) ∷ filter (stays ns) xs) (filter (stays ns) xs) (left ∙ other)
          ∙ rest
          ∙ sym (cond-false (stays os (q, c)) ((q, c) ∷ filter (stays os) ys) (filter (stays os) ys) (right ∙ other))
    ]

pub refs_filter : (p : NodeRef → Bool) (ts : List Text) → refs_of (filter (λ t. p t.0) ts) ≡ filter p (refs_of ts)
refs_filter p [] = refl
refs_filter p (t ∷ ts) = elim (cases_Bool (p t.0)) [
  | inl holds ↦ rw holds (ap (λ rs. t.0 ∷ rs) (refs_filter p ts))
  | inr fails ↦ rw fails (refs_filter p ts)
]

pub stay_same : (os ns : List Text) → Distinct (refs_of os) → Distinct (refs_of ns) → InOrder (refs_of os) (refs_of ns) → filter (stays ns) os ≡ filter (stays os) ns
stay_same os ns od nd order =
    let p : Text → Bool = λ t. is_among (refs_of ns) t.0 in
    let q : Text → Bool = λ t. is_among (refs_of os) t.0 in
    sym (filter_narrow (stays ns) p (stays_among ns) os)
    ∙ same_filter os ns (filter p os) (filter q ns) od nd (within_filter p os os (within_self os)) (within_filter q ns ns (within_self ns))
    (refs_filter (is_among (refs_of ns)) os ∙ sym order ∙ sym (refs_filter (is_among (refs_of os)) ns))
    ∙ filter_narrow (stays os) q (stays_among os) ns

-- ---- what is taken

abbrev gone : List Text → List Text → List LeafId
gone ns os = map (λ t. leaf_of t.0) (without ns os)

gone_none : (ns os : List Text) (t : Text) → times t.0 (refs_of os) ≡ 0 → is_one_of (gone ns os) (text_leaf t) ≡ false
gone_none ns [] t h = refl
gone_none ns (u ∷ os) t h =
    let rest : is_one_of (gone ns os) (text_leaf t) ≡ false = gone_none ns os t (omega (arith, h)) in
    elim (cases_Bool (stays ns u)) [
      | inl stay ↦ ap (λ b. is_one_of (map (λ x. leaf_of x.0) (cond (not b) (u ∷ without ns os) (without ns os))) (text_leaf t)) stay ∙ rest
      | inr goes ↦
          ap (λ b. is_one_of (map (λ x. leaf_of x.0) (cond (not b) (u ∷ without ns os) (without ns os))) (text_leaf t)) goes
          ∙ or_other (is_same t.0 u.0) (is_one_of (gone ns os) (text_leaf t)) (weight_zero (is_same t.0 u.0) (times t.0 (refs_of os)) h) ∙ rest
    ]

gone_is : (ns os : List Text) (t : Text) → Distinct (refs_of os) → stays os t ≡ true → is_one_of (gone ns os) (text_leaf t) ≡ not (stays ns t)
gone_is ns [] t d h = cc
gone_is ns (u ∷ os) t d h =
    let start : (b : Bool) → stays ns u ≡ b → is_one_of (gone ns (u ∷ os)) (text_leaf t) ≡ is_one_of (map (λ x. leaf_of x.0) (cond (not b) (u ∷ without ns os) (without ns os))) (text_leaf t) =
    λ b is. ap (λ z. is_one_of (map (λ x. leaf_of x.0) (cond (not z) (u ∷ without ns os) (without ns os))) (text_leaf t)) is in
    elim (cases_Bool (is_same t.0 u.0)) [
      | inl same ↦
          let rest : is_one_of (gone ns os) (text_leaf t) ≡ false = gone_none ns os t (no_more u os t.0 d same) in
          let bytes_are : t.1 ≡ u.1 = (bytes_eq-Decides t.1 u.1).0 (sym (stays_first u os t.0 d same t.1) ∙ h) in
          let text_is : t ≡ u = ap₂ (λ (z : NodeRef) (w : List ℕ). (z, w)) (same_ref t.0 u.0 same) bytes_are in
          elim (cases_Bool (stays ns u)) [
            | inl stay ↦ start true stay ∙ rest ∙ sym (ap not (ap (stays ns) text_is ∙ stay))
            | inr goes ↦ start false goes ∙ or_left (is_same t.0 u.0) (is_one_of (gone ns os) (text_leaf t)) same ∙ sym (ap not (ap (stays ns) text_is ∙ goes))
          ]
      | inr differs ↦
          let rest : is_one_of (gone ns os) (text_leaf t) ≡ not (stays ns t) =
          gone_is ns os t (distinct_rest u.0 (refs_of os) d) (sym (stays_later u os t differs) ∙ h) in
          elim (cases_Bool (stays ns u)) [
            | inl stay ↦ start true stay ∙ rest
            | inr goes ↦ start false goes ∙ or_other (is_same t.0 u.0) (is_one_of (gone ns os) (text_leaf t)) differs ∙ rest
          ]
    ]

pub map_cond : (b : Bool) (t : Text) (ts : List Text) → map text_leaf (cond b (t ∷ ts) ts) ≡ cond b (text_leaf t ∷ map text_leaf ts) (map text_leaf ts)
map_cond true t ts = refl
map_cond false t ts = refl

-- the leaves of texts, filtered
leaves_filter : (p : index.Leaf → Bool) (q : Text → Bool) (os xs : List Text) → ((t : Text) → stays os t ≡ true → p (text_leaf t) ≡ q t) → Within os xs
    → filter p (map text_leaf xs) ≡ map text_leaf (filter q xs)
leaves_filter p q os [] h w = refl
leaves_filter p q os (x ∷ xs) h w =
    ap (λ b. cond b (text_leaf x ∷ filter p (map text_leaf xs)) (filter p (map text_leaf xs))) (h x w.0)
    ∙ ap (λ ls. cond (q x) (text_leaf x ∷ ls) ls) (leaves_filter p q os xs h w.1)
    ∙ sym (map_cond (q x) x (filter q xs))

not_not : (b : Bool) → not (not b) ≡ b
not_not true = refl
not_not false = refl

pub stay_left : (ns os : List Text) → Distinct (refs_of os) → take_all (gone ns os) (map text_leaf os) ≡ map text_leaf (filter (stays ns) os)
stay_left ns os d =
    leaves_filter (λ l. not (is_one_of (gone ns os) l)) (stays ns) os os (λ t h. ap not (gone_is ns os t d h) ∙ not_not (stays ns t)) (within_self os)

pub gone_taken : (ns os : List Text) → Distinct (refs_of os) → filter (is_one_of (gone ns os)) (map text_leaf os) ≡ map text_leaf (without ns os)
gone_taken ns os d = leaves_filter (is_one_of (gone ns os)) (λ t. not (stays ns t)) os os (λ t h. gone_is ns os t d h) (within_self os)

-- ---- what is put

pub after_text : (ts : List Text) (t : Text) (new : index.Leaf) (ls : List index.Leaf) → times t.0 (refs_of ts) ≡ 0
    → index.put_after t.0.0 new (map text_leaf ts ++ text_leaf t ∷ ls) ≡ map text_leaf ts ++ text_leaf t ∷ new ∷ ls
after_text [] t new ls h = cond-true (t.0.0 == t.0.0) _ _ (eq-eqb t.0.0 t.0.0 refl)
after_text (u ∷ ts) t new ls h =
    cond-false (u.0.0 == t.0.0) _ _ (weight_zero (is_same t.0 u.0) (times t.0 (refs_of ts)) h)
    ∙ ap (λ zs. text_leaf u ∷ zs) (after_text ts t new ls (omega (arith, h)))

pub one_further : (ts : List Text) (t : Text) (ls : List index.Leaf) → map text_leaf (ts ++ t ∷ []) ++ ls ≡ map text_leaf ts ++ text_leaf t ∷ ls
one_further [] t ls = refl
one_further (u ∷ ts) t ls = ap (λ zs. text_leaf u ∷ zs) (one_further ts t ls)

pub times_further : (r : NodeRef) (ts : List Text) (t : Text) → times r (refs_of (ts ++ t ∷ [])) ≡ times r (refs_of ts) + weight (is_same r t.0)
times_further r [] t = omega arith
times_further r (u ∷ ts) t = omega (arith, times_further r ts t)

puts_after : (os ts : List Text) (t : Text) (rest : List Text) → ((r : NodeRef) → times r (refs_of ts) + times r (refs_of (t ∷ rest)) ≤ 1)
    → put_all (put_after os (Some (leaf_of t.0)) rest) (map text_leaf ts ++ text_leaf t ∷ map text_leaf (filter (stays os) rest))
    ≡ map text_leaf ts ++ text_leaf t ∷ map text_leaf rest
puts_after os ts t [] d = refl
puts_after os ts t (u ∷ rest) d =
    let next : put_all (put_after os (Some (leaf_of u.0)) rest) (map text_leaf ts ++ text_leaf t ∷ text_leaf u ∷ map text_leaf (filter (stays os) rest))
    ≡ map text_leaf ts ++ text_leaf t ∷ text_leaf u ∷ map text_leaf rest =
    ap (put_all (put_after os (Some (leaf_of u.0)) rest)) (sym (one_further ts t (text_leaf u ∷ map text_leaf (filter (stays os) rest))))
    ∙ puts_after os (ts ++ t ∷ []) u rest (λ r. omega (arith, d r, times_further r ts t))
    ∙ one_further ts t (text_leaf u ∷ map text_leaf rest) in
    let alone : times t.0 (refs_of ts) ≡ 0 = omega (arith, d t.0, ap weight (eq-eqb t.0.0 t.0.0 refl)) in
    elim (cases_Bool (stays os u)) [
      | inl stay ↦ rw stay next
      | inr comes ↦ rw comes (
          ap (put_all (put_after os (Some (leaf_of u.0)) rest)) (after_text ts t (text_leaf u) (map text_leaf (filter (stays os) rest)) alone) ∙ next)
    ]

puts_first : (os rest : List Text) → Distinct (refs_of rest) → put_all (put_after os None rest) (map text_leaf (filter (stays os) rest)) ≡ map text_leaf rest
puts_first os [] d = refl
puts_first os (u ∷ rest) d =
    let next = puts_after os [] u rest (λ r. omega (arith, d r)) in
    elim (cases_Bool (stays os u)) [ inl stay ↦ rw stay next | inr comes ↦ rw comes next ]

pub leaves_led : (os ns : List Text) → Distinct (refs_of os) → Distinct (refs_of ns) → InOrder (refs_of os) (refs_of ns)
    → put_all (put_after os None ns) (take_all (gone ns os) (map text_leaf os)) ≡ map text_leaf ns
leaves_led os ns od nd order =
    ap (put_all (put_after os None ns)) (stay_left ns os od ∙ ap (map text_leaf) (stay_same os ns od nd order)) ∙ puts_first os ns nd

pub put_leaves : (os : List Text) (last : _) (ts : List Text) → map index_leaf (put_after os last ts) ≡ map text_leaf (without os ts)
put_leaves os last [] = refl
put_leaves os last (t ∷ ts) = elim (cases_Bool (stays os t)) [
  | inl stay ↦ rw stay (put_leaves os (Some (leaf_of t.0)) ts)
  | inr comes ↦ rw comes (ap (λ ls. text_leaf t ∷ ls) (put_leaves os (Some (leaf_of t.0)) ts))
]
