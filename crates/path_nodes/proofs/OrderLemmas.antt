-- Lists of elements in document order: what stands below elements of which none is above another, and lists that are parts of others.
use Rattle.std.proofs.Common.{◌≡◌, ◌+◌, ◌<◌, ◌≤◌, ◌==◌, nat_lt, ℕ, zero, suc, Bool, true, false, ◌&&◌, ◌||◌, List, [], ◌∷◌, ◌++◌, map, filter, flat_map, get_or, cond, refl, sym, ap, ◌∙◌, subst, arith}
use Rattle.std.specs.List.{All, AllPairs, Contains, list_any}
use Rattle.std.proofs.lemmas.Bool.{false_from_ne_true}
use Rattle.std.proofs.lemmas.Bool.Decides.{nat_tests}
use Rattle.std.proofs.lemmas.List.Elements.{All-nil, All-cons, All-append, All-head, All-tail}
use Rattle.std.proofs.lemmas.List.Folds.{list_any_none}
use Rattle.std.proofs.lemmas.List.Kept.{AllPairs-cons, AllPairs-filter}
use Rattle.std.proofs.lemmas.Slice.Eq.{bytes_eq-Decides}
use Rattle.plain_tree.specs.Document.{Node, element, text, Nodes, no_nodes, node_then}
use Rattle.path_meaning.specs.Elements.{Element, placed, elements_among, elements, kids_of, is_same, is_in}
use Rattle.path_grammar.specs.Form.{Step, step}
use Rattle.path_meaning.specs.Meaning.{Context, lists, is_named, filtered, stepped}
use Rattle.path_meaning.specs.Order.{precedes, Before}
use Rattle.path_meaning.proofs.InOrder.{From, Below, irreflexive, pairs-append, ordered-from, ordered-below, earlier, under}
use Rattle.path_meaning.proofs.Lists.{filter-alike, filter-none}
use Rattle.path_meaning.proofs.Traced.{same_itself}
use Rattle.path_nodes.specs.steps.Kept.{offered}
use Rattle.path_nodes.specs.steps.Within.{is_prefix, Precedes}

-- ---- places

apart-cons : (less same c prefix d : Bool) → (less || (same && c)) ≡ true → (same && prefix) ≡ false → (c ≡ true → prefix ≡ false → d ≡ true) → (less || (same && d)) ≡ true
apart-cons true same c prefix d h f further = refl
apart-cons false true c prefix d h f further = further h f
apart-cons false false c prefix d h f further = cc

-- what is at or below a place stands before what is at or below a later one that isn't below it
pub apart-below : (p q r s : List ℕ) → precedes p q ≡ true → is_prefix p q ≡ false → precedes (p ++ r) (q ++ s) ≡ true
apart-below [] q r s h f = cc
apart-below (a ∷ p) [] r s h f = cc
apart-below (a ∷ p) (b ∷ q) r s h f = apart-cons (nat_lt a b) (a == b) (precedes p q) (is_prefix p q) (precedes (p ++ r) (q ++ s)) h f (apart-below p q r s)

one-way-cons : (l e x m f y : Bool) → (l || (e && x)) ≡ true → (m || (f && y)) ≡ true → (l ≡ true → m ≡ true → ⊥) → (l ≡ true → f ≡ true → ⊥) → (e ≡ true → m ≡ true → ⊥) → (x ≡ true → y ≡ true → ⊥) → ⊥
one-way-cons true e x true f y h k lm lf em xy = lm refl refl
one-way-cons true e x false true y h k lm lf em xy = lf refl refl
one-way-cons true e x false false y h k lm lf em xy = cc
one-way-cons false true x true f y h k lm lf em xy = em refl refl
one-way-cons false true x false true y h k lm lf em xy = xy h k
one-way-cons false true x false false y h k lm lf em xy = cc
one-way-cons false false x m f y h k lm lf em xy = cc

less-of : (a b : ℕ) → nat_lt a b ≡ true → a < b
less-of a b h = grind (arith, nat_tests, h)

same-of : (a b : ℕ) → (a == b) ≡ true → a ≡ b
same-of a b h = grind (arith, nat_tests, h)

pub one-way : (p q : List ℕ) → precedes p q ≡ true → precedes q p ≡ true → ⊥
one-way [] [] h k = cc
one-way [] (b ∷ q) h k = cc
one-way (a ∷ p) [] h k = cc
one-way (a ∷ p) (b ∷ q) h k =
    one-way-cons (nat_lt a b) (a == b) (precedes p q) (nat_lt b a) (b == a) (precedes q p) h k
    (λ l m. let x = less-of a b l in let y = less-of b a m in absurd (omega (arith, x, y)))
    (λ l f. let x = less-of a b l in let y = same-of b a f in absurd (omega (arith, x, y)))
    (λ e m. let x = same-of a b e in let y = less-of b a m in absurd (omega (arith, x, y)))
    (one-way p q)

pub before-other : (e f : Element) → Before e f → is_same e f ≡ false
before-other e f h =
    false_from_ne_true (is_same e f)
    (λ s. let same : e.place ≡ f.place = (bytes_eq-Decides e.place f.place).0 s in
    let here : true ≡ false = sym (ap (precedes e.place) same ∙ h) ∙ irreflexive e.place in cc)

pub after-other : (e f : Element) → Before e f → is_same f e ≡ false
after-other e f h =
    false_from_ne_true (is_same f e)
    (λ s. let same : f.place ≡ e.place = (bytes_eq-Decides f.place e.place).0 s in
    let here : true ≡ false = sym (ap (precedes e.place) (sym same) ∙ h) ∙ irreflexive e.place in cc)

-- ---- lists in document order

pairs-tail : (R : Element → Element → Type 0) (x : Element) (xs : List Element) → AllPairs R (x ∷ xs) → AllPairs R xs
pairs-tail R x xs h = λ i j d less within. h (suc i) (suc j) d (omega (arith, less)) (omega (arith, within))

pairs-head : (R : Element → Element → Type 0) (x : Element) (xs : List Element) → AllPairs R (x ∷ xs) → All (R x) xs
pairs-head R x xs h = λ k d within. h zero (suc k) d (omega arith) (omega (arith, within))

-- one in the middle is left out
pub pairs-without : (R : Element → Element → Type 0) (xs : List Element) (y : Element) (ys : List Element) → AllPairs R (xs ++ y ∷ ys) → AllPairs R (xs ++ ys)
pairs-without R [] y ys h = pairs-tail R y ys h
pairs-without R (x ∷ xs) y ys h =
    AllPairs-cons R x (xs ++ ys) (all-without xs (pairs-head R x (xs ++ y ∷ ys) h)) (pairs-without R xs y ys (pairs-tail R x (xs ++ y ∷ ys) h))
  where
    all-without : (zs : List Element) → All (R x) (zs ++ y ∷ ys) → All (R x) (zs ++ ys)
    all-without [] all = All-tail (R x) y ys all
    all-without (z ∷ zs) all = All-cons (R x) z (zs ++ ys) (All-head (R x) z (zs ++ y ∷ ys) all) (all-without zs (All-tail (R x) z (zs ++ y ∷ ys) all))

-- each of the first ones stands before the next
pub pairs-between : (R : Element → Element → Type 0) (xs : List Element) (y : Element) (ys : List Element) → AllPairs R (xs ++ y ∷ ys) → All (λ x. R x y) xs
pairs-between R [] y ys h = All-nil (λ x. R x y)
pairs-between R (x ∷ xs) y ys h =
    All-cons (λ z. R z y) x xs (at-middle xs (pairs-head R x (xs ++ y ∷ ys) h)) (pairs-between R xs y ys (pairs-tail R x (xs ++ y ∷ ys) h))
  where
    at-middle : (zs : List Element) → All (R x) (zs ++ y ∷ ys) → R x y
    at-middle [] all = All-head (R x) y ys all
    at-middle (z ∷ zs) all = at-middle zs (All-tail (R x) z (zs ++ y ∷ ys) all)

pub all-flat : (P : Element → Type 0) (f : Element → List Element) (cs : List Element) → All (λ c. All P (f c)) cs → All P (flat_map f cs)
all-flat P f [] h = All-nil P
all-flat P f (c ∷ cs) h = All-append P (f c) (flat_map f cs) (All-head (λ c. All P (f c)) c cs h) (all-flat P f cs (All-tail (λ c. All P (f c)) c cs h))

across : (c d x y : Element) → Precedes c d → From c.place x → From d.place y → Before x y
across c d x y h a b = ap (λ p. precedes p y.place) a.1 ∙ ap (precedes (c.place ++ a.0)) b.1 ∙ apart-below c.place d.place a.0 b.0 h.0 h.1

-- what stands below elements of which none is above another
pub pairs-flat : (f : Element → List Element) → ((c : Element) → AllPairs Before (f c)) → ((c : Element) → All (From c.place) (f c)) → (cs : List Element) → AllPairs Precedes cs → AllPairs Before (flat_map f cs)
pairs-flat f ordered within [] h = λ i j d less more. absurd (omega (arith, more))
pairs-flat f ordered within (c ∷ cs) h =
    pairs-append (f c) (flat_map f cs) (ordered c) (pairs-flat f ordered within cs (pairs-tail Precedes c cs h))
    (λ k d more. let x = get_or (f c) k d in
    all-flat (Before x) f cs
    (λ i e less j g inside. let a = get_or cs i e in across c a x (get_or (f a) j g) (pairs-head Precedes c cs h i e less) (within c k d more) (within a j g inside)))

-- ---- the elements of which a step keeps some

among-under : (above : List ℕ) (number : ℕ) (ns : Nodes) → All (Below above number) (elements_among above number ns)
among-under above number no_nodes = All-nil (Below above number)
among-under above number (node_then (element name attributes kids) ns) =
    All-cons (Below above number) (placed (above ++ number ∷ []) (element name attributes kids)) (elements_among above (number + 1) ns) (number, [], omega arith, refl)
    (λ k d within. let b = among-under above (number + 1) ns k d within in (b.0, b.1, (let h : number + 1 ≤ b.0 = b.2 in omega (arith, h)), b.3))
among-under above number (node_then (text bytes) ns) =
    λ k d within. let b = among-under above (number + 1) ns k d within in (b.0, b.1, (let h : number + 1 ≤ b.0 = b.2 in omega (arith, h)), b.3)

among-ordered : (above : List ℕ) (number : ℕ) (ns : Nodes) → AllPairs Before (elements_among above number ns)
among-ordered above number no_nodes = λ i j d less within. absurd (omega (arith, within))
among-ordered above number (node_then (element name attributes kids) ns) =
    let e = placed (above ++ number ∷ []) (element name attributes kids) in
    let rest = elements_among above (number + 1) ns in
    AllPairs-cons Before e rest
    (λ k d within. earlier above number e (get_or rest k d) ([], append-none (above ++ number ∷ [])) (among-under above (number + 1) ns k d within))
    (among-ordered above (number + 1) ns)
  where
    append-none : (xs : List ℕ) → xs ≡ xs ++ []
    append-none [] = refl
    append-none (x ∷ xs) = ap (λ l. x ∷ l) (append-none xs)
among-ordered above number (node_then (text bytes) ns) = among-ordered above (number + 1) ns

pub offered-ordered : (deep : Bool) (c : Element) → AllPairs Before (offered deep c)
offered-ordered true c = ordered-below c.place 1 (kids_of c.node)
offered-ordered false c = among-ordered c.place 1 (kids_of c.node)

pub offered-within : (deep : Bool) (c : Element) → All (From c.place) (offered deep c)
offered-within true c = λ k d within. let b = under c.place 1 (kids_of c.node) k d within in (b.0 ∷ b.1, b.3)
offered-within false c = λ k d within. let b = among-under c.place 1 (kids_of c.node) k d within in (b.0 ∷ b.1, b.3)

-- ---- a list in document order whose elements are all in another one

module _ (a : Element) (all : List Element) where
  -- an element of the longer list that isn't the first one
  further : (x : Element) → (a ≡ x → ⊥) → Contains (a ∷ all) x → Contains all x
  further x other (zero, more, is) = absurd (other is)
  further x other (suc k, more, is) = (k, (omega (arith, more)), is)

  drop-first : (x : Element) (xs : List Element) → a ≡ x → AllPairs Before (x ∷ xs) → All (Contains (a ∷ all)) xs → All (Contains all) xs
  drop-first x xs is h there = λ k d within.
      further (get_or xs k d)
      (λ e. let b : Before x (get_or xs k d) = pairs-head Before x xs h k d within in
      let i : true ≡ false = sym (ap (λ z. precedes x.place z.place) (sym is ∙ e) ∙ b) ∙ irreflexive x.place in cc)
      (there k d within)

  module _ (x : Element) (xs : List Element) (h : AllPairs Before (a ∷ all)) (i : AllPairs Before (x ∷ xs)) (there : All (Contains (a ∷ all)) (x ∷ xs)) where
    abbrev in-it : Element → Bool
    in-it e = list_any (is_same e) (x ∷ xs)

    -- they begin alike
    part-first : a ≡ x → (All (Contains all) xs → xs ≡ filter (λ e. list_any (is_same e) xs) all) → x ∷ xs ≡ filter in-it (a ∷ all)
    part-first is rest =
        let later : xs ≡ filter (λ e. list_any (is_same e) xs) all = rest (drop-first x xs is i (All-tail (Contains (a ∷ all)) x xs there)) in
        let alike : filter in-it all ≡ filter (λ e. list_any (is_same e) xs) all =
        filter-alike in-it (λ e. list_any (is_same e) xs) all
        (λ k d within. let e = get_or all k d in
        ap (λ b. b || list_any (is_same e) xs) (ap (is_same e) (sym is) ∙ after-other a e (pairs-head Before a all h k d within))) in
        let itself : is_same a x ≡ true = ap (is_same a) (sym is) ∙ same_itself a in
        ap (λ l. x ∷ l) later
        ∙ ap (λ l. x ∷ l) (sym alike)
        ∙ ap (λ y. y ∷ filter in-it all) (sym is)
        ∙ sym (ap (λ b. cond (b || list_any (is_same a) xs) (a ∷ filter in-it all) (filter in-it all)) itself)

    -- the longer one begins with an element that isn't in the other
    part-after : Contains all x → (All (Contains all) (x ∷ xs) → x ∷ xs ≡ filter in-it all) → x ∷ xs ≡ filter in-it (a ∷ all)
    part-after (m, more, is) rest =
        let a-x : Before a x = subst (Before a) is (pairs-head Before a all h m x more) in
        let others : All (Contains all) xs = λ k d within.
        further (get_or xs k d)
        (λ e. one-way a.place x.place a-x (ap (λ z. precedes x.place z.place) e ∙ pairs-head Before x xs i k d within))
        (All-tail (Contains (a ∷ all)) x xs there k d within) in
        let every : All (Contains all) (x ∷ xs) = All-cons (Contains all) x xs (m, more, is) others in
        let none : list_any (is_same a) (x ∷ xs) ≡ false =
        list_any_none (is_same a) (x ∷ xs)
        (λ k d within. let c = every k d within in
        let e : Before a (get_or (x ∷ xs) k d) = subst (Before a) c.2 (pairs-head Before a all h c.0 (get_or (x ∷ xs) k d) c.1) in
        before-other a (get_or (x ∷ xs) k d) e) in
        rest every ∙ sym (ap (λ b. cond b (a ∷ filter in-it all) (filter in-it all)) none)

    part-cases : Contains (a ∷ all) x → (All (Contains all) xs → xs ≡ filter (λ e. list_any (is_same e) xs) all) → (All (Contains all) (x ∷ xs) → x ∷ xs ≡ filter in-it all) → x ∷ xs ≡ filter in-it (a ∷ all)
    part-cases (zero, more, is) first after = part-first is first
    part-cases (suc k, more, is) first after = part-after (k, (omega (arith, more)), is) after

pub part-of : (all xs : List Element) → AllPairs Before all → AllPairs Before xs → All (Contains all) xs → xs ≡ filter (λ e. list_any (is_same e) xs) all
part-of [] [] h i there = refl
part-of [] (x ∷ xs) h i there = let c = All-head (Contains []) x xs there in absurd (let m : c.0 < 0 = c.1 in omega (arith, m))
part-of (a ∷ all) [] h i there = sym (filter-none (a ∷ all))
part-of (a ∷ all) (x ∷ xs) h i there =
    part-cases a all x xs h i there (All-head (Contains (a ∷ all)) x xs there)
    (part-of all xs (pairs-tail Before a all h) (pairs-tail Before x xs i))
    (part-of all (x ∷ xs) (pairs-tail Before a all h) i)

-- ---- lists that are in document order

pub one-ordered : (e : Element) → AllPairs Before (e ∷ [])
one-ordered e = λ i j d less within. absurd (omega (arith, less, within))

-- what a step leads to
pub stepped-ordered : (sat : ℕ → List Element → Element → Bool) (root : Node) (s : Step) (cs : List Context) → AllPairs Before (stepped sat (elements root) s cs)
unfolding stepped
stepped-ordered sat root (step deep test ps) cs =
    AllPairs-filter Before (is_in (map (λ items. filtered sat (elements root) ps (filter (λ e. is_named test e.node) items)) (flat_map (lists deep) cs))) (elements root) (ordered-from [] root)
