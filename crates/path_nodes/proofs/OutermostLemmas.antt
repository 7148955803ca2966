-- The outermost of elements in document order, one element further.
use Rattle.std.proofs.Common.{◌≡◌, ◌+◌, ◌<◌, ◌≤◌, ℕ, zero, suc, Bool, true, false, not, ◌||◌, List, [], ◌∷◌, ◌++◌, map, flat_map, take, drop, length, get_or, cond, refl, sym, ap, ◌∙◌, subst, arith, append_assoc, append-nil}
use Rattle.std.specs.List.{All, AllPairs, Contains, list_any}
use Rattle.std.specs.Prelude.{sum_by}
use Rattle.std.proofs.lemmas.Bool.{false_from_ne_true, or_right}
use Rattle.std.proofs.lemmas.List.{drop_more, take_more, map-append, length-append}
use Rattle.std.proofs.lemmas.List.Elements.{All-nil, All-cons, All-push, All-head, All-tail, All-map, All-weaker, All-get_or}
use Rattle.std.proofs.lemmas.List.Folds.{list_any-append}
use Rattle.std.proofs.lemmas.List.Quantifiers.{all_pairs_push}
use Rattle.std.proofs.lemmas.List.Sums.{sum_by-append}
use Rattle.ordered_tree.specs.Numbered.{Numbered, plain}
use Rattle.ft_base.specs.declared.ids.NodeRef.{NodeRef}
use Rattle.path_meaning.specs.Elements.{Element, elements}
use Rattle.path_meaning.specs.Order.{precedes, Before}
use Rattle.path_nodes.specs.steps.Members.{AreAmong, HaveSame}
use Rattle.path_nodes.specs.References.{IsElement, element_of}
use Rattle.path_nodes.specs.steps.Kept.{parents}
use Rattle.path_nodes.specs.steps.Regions.{at_or_below}
use Rattle.path_nodes.specs.steps.Within.{is_prefix, Precedes, stands_below_last}
use Rattle.path_nodes.proofs.ChosenLemmas.{of-document, tail-of}
use Rattle.path_nodes.proofs.PrefixLemmas.{prefix-of}
use Rattle.path_nodes.proofs.ListLemmas.{flat-more, flat-map-more}
use Rattle.path_nodes.proofs.MemberLemmas.{region-has}
use Rattle.path_nodes.proofs.OrderLemmas.{apart-below, one-way, pairs-without, pairs-between}
use Rattle.path_nodes.proofs.PlaceLemmas.{one-reference}
use Rattle.path_nodes.proofs.SpotLemmas.{of_number}
use Rattle.path_nodes.proofs.WayLemmas.{prefix-above}

-- ---- the last of a list

pub last-is : (xs : List Element) (x e : Element) → stands_below_last (xs ++ x ∷ []) e ≡ is_prefix x.place e.place
last-is [] x e = refl
last-is (y ∷ []) x e = refl
last-is (y ∷ z ∷ xs) x e = last-is (z ∷ xs) x e

-- a list that isn't empty, up to its last item
pub parted : {A : Type 0} (xs : List A) (n : ℕ) (d : A) → length xs ≡ suc n → (prefix : List A) × (xs ≡ prefix ++ get_or xs n d ∷ [])
parted [] n d is = absurd (omega (arith, is))
parted (x ∷ []) zero d is = ([], refl)
parted (x ∷ []) (suc n) d is = absurd (omega (arith, is))
parted (x ∷ y ∷ xs) zero d is = absurd (omega (arith, is))
parted (x ∷ y ∷ xs) (suc n) d is =
    let rest = parted (y ∷ xs) n d (omega (arith, is)) in
    (x ∷ rest.0, ap (λ l. x ∷ l) rest.1)

pub below-last : (root : Numbered) (outer : List NodeRef) (n : ℕ) (d node : NodeRef) → length outer ≡ suc n
    → is_prefix (element_of root (get_or outer n d)).place (element_of root node).place ≡ stands_below_last (map (element_of root) outer) (element_of root node)
below-last root outer n d node is =
    let p = parted outer n d is in
    let last = get_or outer n d in
    sym (
    ap (λ l. stands_below_last (map (element_of root) l) (element_of root node)) p.1
    ∙ ap (λ l. stands_below_last l (element_of root node)) (map-append (element_of root) p.0 (last ∷ []))
    ∙ last-is (map (element_of root) p.0) (element_of root last) (element_of root node)
    )

-- ---- what stands above an element

pub other-place : (root : Numbered) (base node : NodeRef) → IsElement root base → IsElement root node → (node.0 ≡ base.0 → ⊥) → (element_of root base).place ≡ (element_of root node).place → ⊥
other-place root base node x y other same = other (ap (λ r. r.0) (sym (one-reference root base node x y same)))

-- an element above another is it, or above its parent
pub prefix-parent : (base above : List ℕ) (k : ℕ) (place : List ℕ) → place ≡ above ++ k ∷ [] → (base ≡ place → ⊥) → is_prefix base place ≡ is_prefix base above
prefix-parent base above k place is other = cases (is_prefix base place) (is_prefix base above) refl refl
  where
    up : (t : List ℕ) → place ≡ base ++ t → is_prefix base above ≡ true
    up [] e = absurd (other (sym (e ∙ append-nil base)))
    up (n ∷ t) e = prefix-above base above k n t (sym is ∙ e)

    cases : (b c : Bool) → is_prefix base place ≡ b → is_prefix base above ≡ c → is_prefix base place ≡ is_prefix base above
    cases true c e f = let t = tail-of base place e in e ∙ sym (up t.0 t.1)
    cases false true e f =
        let t = tail-of base above f in
        let in-it : is_prefix base place ≡ true = ap (is_prefix base) (is ∙ ap (λ l. l ++ k ∷ []) t.1 ∙ append_assoc base t.0 (k ∷ [])) ∙ prefix-of base (t.0 ++ k ∷ []) in
        let h : true ≡ false = sym in-it ∙ e in cc
    cases false false e f = e ∙ sym f

pub not-above-root : (base place : List ℕ) → place ≡ [] → (base ≡ place → ⊥) → false ≡ is_prefix base place
not-above-root [] place is other = absurd (other (sym is))
not-above-root (b ∷ base) place is other = sym (ap (is_prefix (b ∷ base)) is)

-- ---- one element further

abbrev regions : Numbered → List NodeRef → List Element
regions root items = flat_map at_or_below (map (element_of root) items)

-- The outermost of the first elements were kept.
pub record Outer (root : Numbered) (items : List NodeRef) (i : ℕ) (outer : List NodeRef) : Type 0 where
  pub ordered : AllPairs Before (map (element_of root) outer ++ map (element_of root) (drop i items))
  pub apart : AllPairs Precedes (map (element_of root) outer)
  pub members : HaveSame (regions root outer) (regions root (take i items))
  pub once : AreAmong (regions root outer) (regions root (take i items))
  pub few : length outer ≤ length (take i items)
  pub whole : length outer ≡ length (take i items) → outer ≡ take i items
  pub there : All (IsElement root) outer

module _ (root : Numbered) where
  -- what is at or below an element that stands below the last of others is in their regions
  covered : (xs : List Element) (e : Element) → All (Contains (elements (plain root))) xs → Contains (elements (plain root)) e → stands_below_last xs e ≡ true
      → (p : Element → Bool) → list_any p (at_or_below e) ≡ true → list_any p (flat_map at_or_below xs) ≡ true
  covered [] e all there h p some = cc
  covered (base ∷ []) e all there h p some =
      ap (list_any p) (append-nil (at_or_below base))
      ∙ region-has (plain root) base e (All-head (Contains (elements (plain root))) base [] all) there h p some
  covered (first ∷ second ∷ rest) e all there h p some =
      list_any-append p (at_or_below first) (flat_map at_or_below (second ∷ rest))
      ∙ or_right (list_any p (at_or_below first)) (list_any p (flat_map at_or_below (second ∷ rest)))
      (covered (second ∷ rest) e (All-tail (Contains (elements (plain root))) first (second ∷ rest) all) there h p some)

-- none of them is above one that isn't below the last
none-above : (xs : List Element) (e : Element) → AllPairs Precedes xs → All (λ x. Before x e) xs → stands_below_last xs e ≡ false → All (λ x. Precedes x e) xs
none-above [] e apart before h = All-nil (λ x. Precedes x e)
none-above (base ∷ []) e apart before h = All-cons (λ x. Precedes x e) base [] (All-head (λ x. Before x e) base [] before, h) (All-nil (λ x. Precedes x e))
none-above (first ∷ second ∷ rest) e apart before h =
    let others : All (λ x. Precedes x e) (second ∷ rest) =
    none-above (second ∷ rest) e (λ i j d less within. apart (suc i) (suc j) d (omega (arith, less)) (omega (arith, within))) (All-tail (λ x. Before x e) first (second ∷ rest) before) h in
    let next : Precedes first second = apart 0 1 first (omega arith) (omega arith) in
    All-cons (λ x. Precedes x e) first (second ∷ rest) (
      All-head (λ x. Before x e) first (second ∷ rest) before,
      false_from_ne_true (is_prefix first.place e.place)
          (λ prefix. let t = tail-of first.place e.place prefix in
          let back : precedes e.place second.place ≡ true =
          ap (precedes e.place) (sym (append-nil second.place)) ∙ ap (λ q. precedes q (second.place ++ [])) t.1 ∙ apart-below first.place second.place t.0 [] next.0 next.1 in
          one-way second.place e.place (All-head (λ x. Precedes x e) second rest others).0 back),
    )
    others

absorbed : (a b : Bool) → (b ≡ true → a ≡ true) → a ≡ (a || b)
absorbed true b f = refl
absorbed false true f = f refl
absorbed false false f = refl

module _ (root : Numbered) (items : List NodeRef) where
  pub outer-first : AllPairs Before (map (element_of root) items) → Outer root items 0 []
  outer-first ordered = record {
    ordered = ordered;
    apart = λ i j d less within. absurd (omega (arith, within));
    members = λ p. refl;
    once = λ count. omega arith;
    few = omega arith;
    whole = λ h. refl;
    there = All-nil (IsElement root);
  }

  module _ (i : ℕ) (within : i < length items) (all : All (IsElement root) items) (outer : List NodeRef) (before : Outer root items i outer) where
    abbrev c : NodeRef
    c = get_or items i (of_number 0)

    abbrev e : Element
    e = element_of root c

    one-more : regions root (take (i + 1) items) ≡ regions root (take i items) ++ at_or_below e
    one-more = flat-map-more (element_of root) at_or_below items i (of_number 0) within

    longer : length (take (i + 1) items) ≡ length (take i items) + 1
    longer = ap length (take_more items i (of_number 0) within) ∙ length-append (take i items) (c ∷ [])

    c-there : IsElement root c
    c-there = All-get_or (IsElement root) items i (of_number 0) within all

    left : map (element_of root) outer ++ map (element_of root) (drop i items) ≡ map (element_of root) outer ++ e ∷ map (element_of root) (drop (i + 1) items)
    left = ap (λ l. map (element_of root) outer ++ map (element_of root) l) (drop_more items i (of_number 0) within)

    in-order : AllPairs Before (map (element_of root) outer ++ e ∷ map (element_of root) (drop (i + 1) items))
    in-order = subst (AllPairs Before) left before.ordered

    passed-over : stands_below_last (map (element_of root) outer) e ≡ true → Outer root items (i + 1) outer
    passed-over h = record {
      ordered = pairs-without Before (map (element_of root) outer) e (map (element_of root) (drop (i + 1) items)) in-order;
      apart = before.apart;
      members = λ p.
          absorbed (list_any p (regions root outer)) (list_any p (at_or_below e))
          (covered root (map (element_of root) outer) e (All-map (Contains (elements (plain root))) (element_of root) outer (All-weaker (IsElement root) (λ r. Contains (elements (plain root)) (element_of root r)) (of-document root) outer before.there))
          (of-document root c c-there) h p)
          ∙ ap (λ b. b || list_any p (at_or_below e)) (before.members p)
          ∙ sym (list_any-append p (regions root (take i items)) (at_or_below e))
          ∙ ap (list_any p) (sym one-more);
      once = λ count.
          let o = before.once count in
          let s = ap (sum_by count) one-more ∙ sum_by-append count (regions root (take i items)) (at_or_below e) in
          omega (arith, o, s);
      few = let f = before.few in omega (arith, f, longer);
      whole = λ same. let f = before.few in absurd (omega (arith, f, same, longer));
      there = before.there;
    }

    put : (new : List NodeRef) → new ≡ outer ++ c ∷ [] → stands_below_last (map (element_of root) outer) e ≡ false → Outer root items (i + 1) new
    put new is h =
        let mapped : map (element_of root) new ≡ map (element_of root) outer ++ e ∷ [] = ap (map (element_of root)) is ∙ map-append (element_of root) outer (c ∷ []) in
        let regions-are : regions root new ≡ regions root outer ++ at_or_below e = ap (flat_map at_or_below) mapped ∙ flat-more at_or_below (map (element_of root) outer) e in
        let long = ap length is ∙ length-append outer (c ∷ []) in
        let above = none-above (map (element_of root) outer) e before.apart (pairs-between Before (map (element_of root) outer) e (map (element_of root) (drop (i + 1) items)) in-order) h in
        record {
          ordered =
              subst (AllPairs Before)
              (sym (ap (λ l. l ++ map (element_of root) (drop (i + 1) items)) mapped ∙ append_assoc (map (element_of root) outer) (e ∷ []) (map (element_of root) (drop (i + 1) items))))
              in-order;
          apart = subst (AllPairs Precedes) (sym mapped) (all_pairs_push Precedes (map (element_of root) outer) e before.apart above);
          members = λ p.
              ap (list_any p) regions-are
              ∙ list_any-append p (regions root outer) (at_or_below e)
              ∙ ap (λ b. b || list_any p (at_or_below e)) (before.members p)
              ∙ sym (list_any-append p (regions root (take i items)) (at_or_below e))
              ∙ ap (list_any p) (sym one-more);
          once = λ count.
              let o = before.once count in
              let s = ap (sum_by count) one-more ∙ sum_by-append count (regions root (take i items)) (at_or_below e) in
              let t = ap (sum_by count) regions-are ∙ sum_by-append count (regions root outer) (at_or_below e) in
              omega (arith, o, s, t);
          few = let f = before.few in omega (arith, f, long, longer);
          whole = λ same.
              is ∙ ap (λ l. l ++ c ∷ []) (before.whole (omega (arith, same, long, longer))) ∙ sym (take_more items i (of_number 0) within);
          there = subst (All (IsElement root)) (sym is) (All-push (IsElement root) outer c before.there c-there);
        }

    pub outer-next : (b : Bool) → b ≡ stands_below_last (map (element_of root) outer) e → (new : List NodeRef) → new ≡ outer ++ cond (not b) (c ∷ []) [] → Outer root items (i + 1) new
    outer-next true h new is = subst (Outer root items (i + 1)) (sym (is ∙ append-nil outer)) (passed-over (sym h))
    outer-next false h new is = put new is (sym h)

-- ---- the parents that the outermost contexts offer

pub same-parents : (deep : Bool) (outer cs found : List Element) → HaveSame (flat_map at_or_below outer) (flat_map at_or_below cs) → found ≡ cond deep (flat_map at_or_below outer) cs → HaveSame found (parents deep cs)
same-parents true outer cs found same is p = ap (list_any p) is ∙ same p
same-parents false outer cs found same is p = ap (list_any p) is

pub few-parents : (deep : Bool) (outer cs found : List Element) → AreAmong (flat_map at_or_below outer) (flat_map at_or_below cs) → found ≡ cond deep (flat_map at_or_below outer) cs → AreAmong found (parents deep cs)
few-parents true outer cs found once is count = let h = once count in let e = ap (sum_by count) is in omega (arith, h, e)
few-parents false outer cs found once is count = let e = ap (sum_by count) is in omega (arith, e)

pub outer-members : (deep : Bool) (outer cs : List Element) → (deep ≡ false → outer ≡ cs) → HaveSame (flat_map at_or_below outer) (flat_map at_or_below cs) → HaveSame (parents deep outer) (parents deep cs)
outer-members true outer cs whole same p = same p
outer-members false outer cs whole same p = ap (list_any p) (whole refl)

pub outer-once : (deep : Bool) (outer cs : List Element) → (deep ≡ false → outer ≡ cs) → AreAmong (flat_map at_or_below outer) (flat_map at_or_below cs) → AreAmong (parents deep outer) (parents deep cs)
outer-once true outer cs whole once count = once count
outer-once false outer cs whole once count = let e = ap (sum_by count) (whole refl) in omega (arith, e)
