-- The next child after those that were counted.
use Rattle.std.proofs.Common.{◌≡◌, ◌+◌, ◌-◌, ℕ, suc, List, [], ◌∷◌, ◌++◌, length, take, get_or, Option, Some, None, refl, sym, ap, ap₂, ◌∙◌, subst, arith, append_assoc, append-nil}
use Rattle.std.specs.List.{All, Contains}
use Rattle.std.specs.Prelude.{count_by}
use Rattle.std.proofs.Math.Seq.{take-append_seam}
use Rattle.std.proofs.lemmas.List.{get_or_at, length_push}
use Rattle.std.proofs.lemmas.List.Elements.{All-tail, All-nil}
use Rattle.plain_tree.specs.Document.{Node, text}
use Rattle.ordered_tree.specs.Numbered as numbered
use Rattle.ordered_tree.specs.Numbered.{Numbered, element_at, text_at, Children, no_children, child_then, plain, plain_children, reference, first_of}
use Rattle.ordered_tree.specs.Stands.{Stand, OnNode, round_first, round_next}
use Rattle.ordered_tree.specs.declared.around.Around.{Around}
use Rattle.ft_base.specs.declared.ids.NodeRef.{NodeRef}
use Rattle.path_nodes.specs.References.{Spot, spots, child_spots, spots_in, spot_element, element_of, IsElement}
use Rattle.path_nodes.proofs.PlaceLemmas.{element-is}
use Rattle.path_nodes.proofs.SpotLemmas.{inside, element_of-is, spot-stand}
use Rattle.path_nodes.proofs.WayLemmas.{Parent}
use Rattle.path_nodes.proofs.ChildrenLemmas.{All-after, head-spot}
use Rattle.element_lines.specs.steps.Numbers.{number_of}
use Rattle.element_lines.specs.LocationSteps.{listed, children, child, name_of, is_named}
use Rattle.element_lines.specs.steps.Children.{Parted}
use Rattle.element_lines.proofs.StepLemmas.{children-plain, number-child}

-- the link is that of a child
pub record Child (root : Numbered) (parent child : NodeRef) (prefix : List Node) : Type 0 where
  pub around : Around
  pub n : Numbered
  pub ns : Children
  pub refers : reference n ≡ child
  pub inside : All (Contains (spots_in root)) (child_spots (element_of root parent).place (suc (length prefix)) around (child_then n ns))
  pub split : children (element_of root parent).node ≡ prefix ++ plain n ∷ listed (plain_children ns)

module _ (root : Numbered) (parent : NodeRef) (prefix : List Node) where
  child-from : (child : NodeRef) (around : Around) (rest : Children) → first_of rest ≡ Some child
      → All (Contains (spots_in root)) (child_spots (element_of root parent).place (suc (length prefix)) around rest)
      → children (element_of root parent).node ≡ prefix ++ listed (plain_children rest)
      → Child root parent child prefix
  child-from child around no_children first inside split = cc
  child-from child around (child_then n ns) first inside split =
      let is : reference n ≡ child = cc in
      record { around = around; n = n; ns = ns; refers = is; inside = inside; split = split }

  pub next-child : (link : Option NodeRef) (child : NodeRef) → link ≡ Some child → Parted root parent link prefix → Child root parent child prefix
  next-child link child is p = child-from child p.around p.rest (sym p.first ∙ is) p.inside p.split

  all-from : (rest : Children) → None ≡ first_of rest → children (element_of root parent).node ≡ prefix ++ listed (plain_children rest) → children (element_of root parent).node ≡ prefix
  all-from no_children first split = split ∙ append-nil prefix
  all-from (child_then n ns) first split = cc

  -- no link is left
  pub all-children : (link : Option NodeRef) → link ≡ None → Parted root parent link prefix → children (element_of root parent).node ≡ prefix
  all-children link is p = all-from p.rest (sym is ∙ p.first) p.split

  module _ (x : IsElement root parent) (c : NodeRef) (h : Child root parent c prefix) where
    abbrev pub spot : Spot
    spot = record { place = (element_of root parent).place ++ suc (length prefix) ∷ []; stand = record { node = h.n; around = record h.around { next = first_of h.ns } } }

    pub spot-among : Contains (spots_in root) spot
    unfolding child_spots
    spot-among = head-spot (Contains (spots_in root)) spot.place spot.stand.around h.n (child_spots (element_of root parent).place (suc (length prefix) + 1) (round_next h.around h.n) h.ns) h.inside

    -- what holds on the node holds of it
    pub on-child : (P : Stand → Type 0) → OnNode root c P → P spot.stand
    on-child P on = on spot.stand (spot-stand root spot spot-among) h.refers

    pub child-named : element_of root c ≡ spot_element spot
    child-named = ap (element_of root) (sym h.refers) ∙ element_of-is root spot spot-among x.apart

    -- after the child
    pub parted-next : (link : Option NodeRef) → link ≡ first_of h.ns → Parted root parent link (prefix ++ plain h.n ∷ [])
    unfolding child_spots
    parted-next link is =
        let e : suc (length prefix) + 1 ≡ suc (length (prefix ++ plain h.n ∷ [])) = omega (arith, length_push prefix (plain h.n)) in
        record {
          around = round_next h.around h.n;
          rest = h.ns;
          first = is;
          inside = subst (λ k. All (Contains (spots_in root)) (child_spots (element_of root parent).place k (round_next h.around h.n) h.ns)) e
              (All-after (Contains (spots_in root)) (spots spot.place spot.stand.around h.n) _ h.inside);
          split = h.split ∙ sym (append_assoc prefix (plain h.n ∷ []) (listed (plain_children h.ns)));
        }

    child-at : child (element_of root parent).node (suc (length prefix)) ≡ plain h.n
    child-at =
        let e : suc (length prefix) - 1 ≡ length prefix = omega arith in
        ap₂ (λ l i. get_or l i (text [])) h.split e ∙ get_or_at prefix (plain h.n) (listed (plain_children h.ns)) (text []) (length prefix) refl

    prefix-is : take (suc (length prefix) - 1) (children (element_of root parent).node) ≡ prefix
    prefix-is =
        let e : suc (length prefix) - 1 ≡ length prefix = omega arith in
        ap₂ (λ i l. take i l) e h.split ∙ take-append_seam prefix (plain h.n ∷ listed (plain_children h.ns))

    -- its number is that of the children of its name before it, and one
    pub child-numbered : number_of root c ≡ count_by (is_named (name_of (plain h.n))) prefix + 1
    child-numbered =
        let p : Parent root c parent = record { there = x; number = suc (length prefix); place = ap (λ e. e.place) child-named } in
        number-child root c parent p
        ∙ ap₂ (λ n l. count_by (is_named (name_of n)) l + 1) child-at prefix-is

-- ---- the first child

first-parted : (root : Numbered) (place : List ℕ) (a : Around) (n : Numbered) → Contains (spots_in root) (record { place = place; stand = record { node = n; around = a } })
    → (around : Around) × All (Contains (spots_in root)) (child_spots place 1 around (numbered.children n))
unfolding spots child_spots
first-parted root place a (element_at r name attrs kids) h = (round_first a.before r, All-tail (Contains (spots_in root)) _ (child_spots place 1 (round_first a.before r) kids) (inside root _ h))
first-parted root place a (text_at r bytes) h = (a, All-nil (Contains (spots_in root)))

pub parted-first : (root : Numbered) (parent : NodeRef) (x : IsElement root parent) (link : Option NodeRef) → link ≡ first_of (numbered.children x.spot.stand.node) → Parted root parent link []
parted-first root parent x link is =
    let e = element-is root parent x in
    let f = first-parted root x.spot.place x.spot.stand.around x.spot.stand.node x.among in
    record {
      around = f.0;
      rest = numbered.children x.spot.stand.node;
      first = is;
      inside = subst (λ y. All (Contains (spots_in root)) (child_spots y.place 1 f.0 (numbered.children x.spot.stand.node))) (sym e) f.1;
      split = ap (λ y. children y.node) e ∙ children-plain x.spot.stand.node;
    }
