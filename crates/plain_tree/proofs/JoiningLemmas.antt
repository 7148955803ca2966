-- Joining texts: what is joined stays as it is, and parts may be joined first.
use Rattle.std.proofs.Common.{◌≡◌, ℕ, Bool, true, false, ◌&&◌, not, List, [], ◌∷◌, ◌++◌, refl, sym, ap, ◌∙◌}
use Rattle.std.proofs.lemmas.List.{append-nil, append_assoc}
use Rattle.std.proofs.lemmas.Bool.{and_parts, and_from}
use Rattle.std.proofs.Math.Bool.{and-false}
use Rattle.ft_base.specs.Lists.{is_empty}
use Rattle.plain_tree.specs.Document.{Node, element, text, Nodes, no_nodes, node_then, nodes, is_text, is_joined, are_joined, is_document, begins_with_text}
use Rattle.plain_tree.specs.declared.tree.Attr.{Attr}
use Rattle.plain_tree.specs.Edits.{only, append, text_then, joined, joined_then}

-- ---- nodes after nodes

pub append_none : (ns : Nodes) → append ns no_nodes ≡ ns
append_none no_nodes = refl
append_none (node_then n ns) = ap (node_then n) (append_none ns)

pub append_append : (xs ys zs : Nodes) → append (append xs ys) zs ≡ append xs (append ys zs)
append_append no_nodes ys zs = refl
append_append (node_then n xs) ys zs = ap (node_then n) (append_append xs ys zs)

pub nodes_append : (xs ys : List Node) → nodes (xs ++ ys) ≡ append (nodes xs) (nodes ys)
nodes_append [] ys = refl
nodes_append (n ∷ xs) ys = ap (node_then n) (nodes_append xs ys)

-- ---- a text before

no_text_then : (ns : Nodes) → text_then [] ns ≡ ns
no_text_then no_nodes = refl
no_text_then (node_then (text more) ns) = refl
no_text_then (node_then (element name attrs kids) ns) = refl

-- a text in two pieces
pub two_texts_then : (a b : List ℕ) (ns : Nodes) → text_then (a ++ b) ns ≡ text_then a (text_then b ns)
two_texts_then a [] ns = ap (λ z. text_then z ns) (append-nil a) ∙ ap (text_then a) (sym (no_text_then ns))
two_texts_then [] (c ∷ b) ns = sym (no_text_then (text_then (c ∷ b) ns))
two_texts_then (d ∷ a) (c ∷ b) no_nodes = refl
two_texts_then (d ∷ a) (c ∷ b) (node_then (text more) ns) = ap (λ z. node_then (text z) ns) (append_assoc (d ∷ a) (c ∷ b) more)
two_texts_then (d ∷ a) (c ∷ b) (node_then (element name attrs kids) ns) = refl

-- the text before the joined rest is the joined text before the rest
text_then_append : (bytes : List ℕ) (ns more : Nodes) → joined (append (text_then bytes ns) more) ≡ text_then bytes (joined (append ns more))
text_then_append [] no_nodes more = sym (no_text_then (joined more))
text_then_append (c ∷ bytes) no_nodes more = refl
text_then_append bytes (node_then (text b) ns) more = two_texts_then bytes b (joined (append ns more))
text_then_append [] (node_then (element name attrs kids) ns) more = refl
text_then_append (c ∷ bytes) (node_then (element name attrs kids) ns) more = refl

-- ---- what is joined

-- the first of joined nodes: joined itself, not a text before a text, and the rest is joined
pub record Prefix (n : Node) (ns : Nodes) : Type 0 where
  pub own : is_joined n ≡ true
  pub apart : not (is_text n && begins_with_text ns) ≡ true
  pub rest : are_joined ns ≡ true

pub prefix : (n : Node) (ns : Nodes) → are_joined (node_then n ns) ≡ true → Prefix n ns
prefix n ns h =
    let two = and_parts (is_joined n && not (is_text n && begins_with_text ns)) (are_joined ns) h in
    let one = and_parts (is_joined n) (not (is_text n && begins_with_text ns)) two.0 in
    record { own = one.0; apart = one.1; rest = two.1 }

pub together : (n : Node) (ns : Nodes) → Prefix n ns → are_joined (node_then n ns) ≡ true
together n ns f =
    and_from (is_joined n && not (is_text n && begins_with_text ns)) (are_joined ns) (and_from (is_joined n) (not (is_text n && begins_with_text ns)) f.own f.apart) f.rest

text_then_joined : (bytes : List ℕ) (ns : Nodes) → are_joined ns ≡ true → are_joined (text_then bytes ns) ≡ true
text_then_joined [] no_nodes h = refl
text_then_joined (c ∷ bytes) no_nodes h = refl
text_then_joined [] (node_then (text b) ns) h = h
text_then_joined (c ∷ bytes) (node_then (text b) ns) h =
    let f = prefix (text b) ns h in
    together (text ((c ∷ bytes) ++ b)) ns (record { own = refl; apart = f.apart; rest = f.rest })
text_then_joined [] (node_then (element name attrs kids) ns) h = h
text_then_joined (c ∷ bytes) (node_then (element name attrs kids) ns) h = h

mutual
  pub joined_are : (ns : Nodes) → are_joined (joined ns) ≡ true
  joined_are no_nodes = refl
  joined_are (node_then n ns) = joined_then_are n (joined ns) (joined_are ns)

  joined_then_are : (n : Node) (ns : Nodes) → are_joined ns ≡ true → are_joined (joined_then n ns) ≡ true
  joined_then_are (element name attrs kids) ns h = together (element name attrs (joined kids)) ns (record { own = joined_are kids; apart = refl; rest = h })
  joined_then_are (text bytes) ns h = text_then_joined bytes ns h

alone : (bytes : List ℕ) (ns : Nodes) → not (is_empty bytes) ≡ true → not (begins_with_text ns) ≡ true → text_then bytes ns ≡ node_then (text bytes) ns
alone [] ns h e = cc
alone (c ∷ bytes) no_nodes h e = refl
alone (c ∷ bytes) (node_then (text b) ns) h e = cc
alone (c ∷ bytes) (node_then (element name attrs kids) ns) h e = refl

mutual
  pub joined_same : (ns : Nodes) → are_joined ns ≡ true → joined ns ≡ ns
  joined_same no_nodes h = refl
  joined_same (node_then n ns) h =
      let f = prefix n ns h in
      ap (joined_then n) (joined_same ns f.rest) ∙ joined_then_same n ns f.own f.apart

  joined_then_same : (n : Node) (ns : Nodes) → is_joined n ≡ true → not (is_text n && begins_with_text ns) ≡ true → joined_then n ns ≡ node_then n ns
  joined_then_same (element name attrs kids) ns h e = ap (λ k. node_then (element name attrs k) ns) (joined_same kids h)
  joined_then_same (text bytes) ns h e = alone bytes ns h e

-- ---- parts joined first

pub joined_prefix : (ns more : Nodes) → joined (append (joined ns) more) ≡ joined (append ns more)
joined_prefix no_nodes more = refl
joined_prefix (node_then (element name attrs kids) ns) more =
    ap (λ k. node_then (element name attrs k) (joined (append (joined ns) more))) (joined_same (joined kids) (joined_are kids))
    ∙ ap (node_then (element name attrs (joined kids))) (joined_prefix ns more)
joined_prefix (node_then (text bytes) ns) more = text_then_append bytes (joined ns) more ∙ ap (text_then bytes) (joined_prefix ns more)

pub joined_rest : (ns more : Nodes) → joined (append ns (joined more)) ≡ joined (append ns more)
joined_rest no_nodes more = joined_same (joined more) (joined_are more)
joined_rest (node_then n ns) more = ap (joined_then n) (joined_rest ns more)

-- nodes and a joined rest, where the whole is joined
pub joined_whole : (ns more : Nodes) → are_joined (append ns (joined more)) ≡ true → append ns (joined more) ≡ joined (append ns more)
joined_whole ns more h = sym (joined_same (append ns (joined more)) h) ∙ joined_rest ns more

-- ---- which nodes are joined with others

-- after an element anything may stand
pub after_element : (ys zs : Nodes) (name : List ℕ) (attrs : List Attr) (kids : Nodes)
    → are_joined (append ys (only (element name attrs kids))) ≡ true → are_joined zs ≡ true → are_joined (append (append ys (only (element name attrs kids))) zs) ≡ true
after_element no_nodes zs name attrs kids h z = let f = prefix (element name attrs kids) no_nodes h in together (element name attrs kids) zs (record { own = f.own; apart = refl; rest = z })
after_element (node_then n no_nodes) zs name attrs kids h z =
    let f = prefix n (only (element name attrs kids)) h in
    together n (node_then (element name attrs kids) zs) (record { own = f.own; apart = f.apart; rest = after_element no_nodes zs name attrs kids f.rest z })
after_element (node_then n (node_then m ys)) zs name attrs kids h z =
    let f = prefix n (node_then m (append ys (only (element name attrs kids)))) h in
    together n (node_then m (append (append ys (only (element name attrs kids))) zs)) (record { own = f.own; apart = f.apart; rest = after_element (node_then m ys) zs name attrs kids f.rest z })

never : (a x : Bool) → not (a && true) ≡ true → not (a && x) ≡ true
never true x h = cc
never false x h = refl

-- and after nodes that stood before a text
pub before_text : (xs ys zs : Nodes) (bytes : List ℕ) → are_joined (append xs (node_then (text bytes) ys)) ≡ true → are_joined zs ≡ true → are_joined (append xs zs) ≡ true
before_text no_nodes ys zs bytes h z = z
before_text (node_then n no_nodes) ys zs bytes h z =
    let f = prefix n (node_then (text bytes) ys) h in
    together n zs (record { own = f.own; apart = never (is_text n) (begins_with_text zs) f.apart; rest = z })
before_text (node_then n (node_then m xs)) ys zs bytes h z =
    let f = prefix n (node_then m (append xs (node_then (text bytes) ys))) h in
    together n (node_then m (append xs zs)) (record { own = f.own; apart = f.apart; rest = before_text (node_then m xs) ys zs bytes f.rest z })

-- anything may stand before nodes that don't begin with a text
pub before_element : (xs ys : Nodes) → are_joined xs ≡ true → are_joined ys ≡ true → begins_with_text ys ≡ false → are_joined (append xs ys) ≡ true
before_element no_nodes ys h z e = z
before_element (node_then n no_nodes) ys h z e =
    let f = prefix n no_nodes h in
    together n ys (record { own = f.own; apart = ap (λ b. not (is_text n && b)) e ∙ f.apart; rest = z })
before_element (node_then n (node_then m xs)) ys h z e =
    let f = prefix n (node_then m xs) h in
    together n (node_then m (append xs ys)) (record { own = f.own; apart = f.apart; rest = before_element (node_then m xs) ys f.rest z e })

-- parts of joined nodes are joined
pub prefix_joined : (xs ys : Nodes) → are_joined (append xs ys) ≡ true → are_joined xs ≡ true
prefix_joined no_nodes ys h = refl
prefix_joined (node_then n no_nodes) ys h = let f = prefix n ys h in together n no_nodes (record { own = f.own; apart = ap not (and-false (is_text n)); rest = refl })
prefix_joined (node_then n (node_then m xs)) ys h =
    let f = prefix n (node_then m (append xs ys)) h in
    together n (node_then m xs) (record { own = f.own; apart = f.apart; rest = prefix_joined (node_then m xs) ys f.rest })

pub rest_joined : (xs ys : Nodes) → are_joined (append xs ys) ≡ true → are_joined ys ≡ true
rest_joined no_nodes ys h = h
rest_joined (node_then n xs) ys h = rest_joined xs ys (prefix n (append xs ys) h).rest

pub no_text_next : (bytes : List ℕ) (ns : Nodes) → are_joined (node_then (text bytes) ns) ≡ true → begins_with_text ns ≡ false
no_text_next bytes no_nodes h = refl
no_text_next bytes (node_then (element name attrs kids) ns) h = refl
no_text_next bytes (node_then (text more) ns) h = let f = (prefix (text bytes) (node_then (text more) ns) h).apart in cc

-- ---- one node more

some_text : (before : List ℕ) (c : ℕ) (more : List ℕ) → are_joined (only (text (before ++ c ∷ more))) ≡ true
some_text [] c more = refl
some_text (d ∷ before) c more = refl

pub text_following_text : (ys : Nodes) (before : List ℕ) (c : ℕ) (more : List ℕ) → are_joined (append ys (only (text before))) ≡ true
    → append ys (only (text (before ++ c ∷ more))) ≡ joined (append (append ys (only (text before))) (only (text (c ∷ more))))
text_following_text ys before c more h =
    joined_whole ys (node_then (text before) (only (text (c ∷ more)))) (before_text ys no_nodes (only (text (before ++ c ∷ more))) before h (some_text before c more))
    ∙ ap joined (sym (append_append ys (only (text before)) (only (text (c ∷ more)))))

pub text_following_element : (ys : Nodes) (name : List ℕ) (attrs : List Attr) (kids : Nodes) (c : ℕ) (more : List ℕ) → are_joined (append ys (only (element name attrs kids))) ≡ true
    → append (append ys (only (element name attrs kids))) (only (text (c ∷ more))) ≡ joined (append (append ys (only (element name attrs kids))) (only (text (c ∷ more))))
text_following_element ys name attrs kids c more h =
    joined_whole (append ys (only (element name attrs kids))) (only (text (c ∷ more))) (after_element ys (only (text (c ∷ more))) name attrs kids h refl)

pub element_following : (ys : Nodes) (name : List ℕ) (attrs : List Attr) (kids : Nodes) → are_joined ys ≡ true
    → append ys (only (element name attrs (joined kids))) ≡ joined (append ys (only (element name attrs kids)))
element_following ys name attrs kids h =
    joined_whole ys (only (element name attrs kids)) (before_element ys (only (element name attrs (joined kids))) h (together (element name attrs (joined kids)) no_nodes (record { own = joined_are kids; apart = refl; rest = refl })) refl)

pub nothing_after : (ys : Nodes) → are_joined ys ≡ true → ys ≡ joined (append ys (only (text [])))
nothing_after ys h = sym (append_none ys) ∙ joined_whole ys (only (text [])) (ap are_joined (append_none ys) ∙ h)

-- an element that was joined is a document
pub document_made : (n : Node) (made : Nodes) → is_text n ≡ false → only n ≡ joined made → is_document n ≡ true
document_made n made elem is = and_from (not (is_text n)) (is_joined n) (ap not elem) (prefix n no_nodes (ap are_joined is ∙ joined_are made)).own
