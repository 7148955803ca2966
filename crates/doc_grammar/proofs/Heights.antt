-- The machine's steps and the levels of elements that were reached.
use Rattle.std.proofs.Common.{◌≡◌, ℕ, ◌+◌, max, Bool, true, false, ◌&&◌, cond, List, [], ◌∷◌, ◌++◌, Option, Some, None, refl, sym, ◌∙◌, ap, arith}
use Rattle.std.proofs.lemmas.Bool.{eqb-true, and_left}
use Rattle.std.specs.Prelude.{◌==◌, nat_eq, encode_utf8}
use Rattle.std.specs.List.{starts_with}
use Rattle.plain_tree.specs.Document.{Node, element, nodes, no_nodes}
use Rattle.plain_tree.specs.declared.tree.Attr.{Attr}
use Rattle.ft_base.specs.Characters.{is_char, is_space, is_name_start, is_name_char}
use Rattle.doc_grammar.specs.Grammar.{text_node, is_quote, has_name}
use Rattle.doc_grammar.specs.steps.Machine as m
use Rattle.doc_grammar.specs.steps.Machine.{Outer, document, fragment, level, Place, Phase, State, Judged, is_content, takes_element, step_at}
use Rattle.doc_grammar.specs.Limits.{height, heights, depth, is_opened, begins_element}

abbrev pub list_height : List Node → ℕ
list_height [] = 0
list_height (n ∷ ns) = max (height n) (list_height ns)

-- the levels of the nodes that stand round the content under way
abbrev pub outer_height : Outer → ℕ
outer_height document = 0
outer_height fragment = 0
outer_height (level name attrs kids text outer) = max (depth outer + list_height kids) (outer_height outer)

abbrev pub place_height : Place → ℕ
place_height p = max (depth p.outer + list_height p.kids) (outer_height p.outer)

-- a start tag under way opens one level more
abbrev pub tag_height : Phase → ℕ → ℕ
tag_height m.ready d = 0
tag_height m.opened d = 0
tag_height m.bang d = 0
tag_height m.bang_dash d = 0
tag_height (m.comment n) d = 0
tag_height (m.instruction b) d = 0
tag_height (m.reference r) d = 0
tag_height (m.end_name left) d = 0
tag_height m.end_spaced d = 0
tag_height (m.start_name name) d = 1 + d
tag_height (m.spaced name attrs) d = 1 + d
tag_height (m.attr_name name attrs attr) d = 1 + d
tag_height (m.attr_named name attrs attr) d = 1 + d
tag_height (m.equals name attrs attr) d = 1 + d
tag_height (m.quoted name attrs attr quote value) d = 1 + d
tag_height (m.quoted_reference name attrs attr quote value r) d = 1 + d
tag_height (m.valued name attrs) d = 1 + d
tag_height (m.slashed name attrs) d = 1 + d

abbrev pub reached : State → ℕ
reached s = max (place_height s.place) (tag_height s.phase (depth s.place.outer))

pub data Reaches (n : ℕ) : Option State → Type 0 where
  no : Reaches n None
  yes : {s : State} → reached s ≡ n → Reaches n (Some s)

choose : {n : ℕ} {x y : Option State} (b : Bool) → (b ≡ true → Reaches n x) → (b ≡ false → Reaches n y) → Reaches n (cond b x y)
choose true f h = f refl
choose false f h = h refl

pub list_height-append : (xs ys : List Node) → list_height (xs ++ ys) ≡ max (list_height xs) (list_height ys)
list_height-append [] ys = omega arith
list_height-append (x ∷ xs) ys = omega (arith, list_height-append xs ys)

pub heights-nodes : (xs : List Node) → heights (nodes xs) ≡ list_height xs
heights-nodes [] = refl
heights-nodes (x ∷ xs) = ap (max (height x)) (heights-nodes xs)

pub list_height-text : (bytes : List ℕ) → list_height (text_node bytes) ≡ 0
list_height-text [] = refl
list_height-text (b ∷ bytes) = omega arith

with_node_height : (kids : List Node) (t : List ℕ) (o : Outer) (n : Node) → place_height (m.with_node kids t o n) ≡ max (max (depth o + list_height kids) (depth o + height n)) (outer_height o)
with_node_height kids t o n = omega (arith, list_height-append (kids ++ text_node t) (n ∷ []), list_height-append kids (text_node t), list_height-text t)

abbrev pub one_level_if : Bool → ℕ → ℕ
one_level_if b d = cond b (1 + d) 0

ready_reaches : (p : Place) (c : ℕ) → Reaches (max (max (place_height p) 0) 0) (m.from_ready p c)
unfolding m.from_ready
ready_reaches p c =
    choose (c == 60) (λ _. yes (omega arith))
    (λ _. choose (is_content p.outer)
    (λ _. choose (c == 38) (λ _. yes (omega arith)) (λ _. choose (is_char c) (λ _. yes (omega arith)) (λ _. no)))
    (λ _. choose (is_space c) (λ _. yes (omega arith)) (λ _. no)))

not_start : (p : Place) (c k : ℕ) → (c == k) ≡ true → is_name_start k ≡ false → one_level_if (begins_element p c) (depth p.outer) ≡ 0
not_start p c k h n = ap (λ b. one_level_if b (depth p.outer)) (and_left (is_name_start c) (takes_element p) (ap is_name_start (eqb-true c k h) ∙ n))

end_tag_reaches : (p : Place) (o : Outer) (n : ℕ) → max (place_height p) 0 ≡ n → Reaches n (m.end_tag p o)
end_tag_reaches p document n e = no
end_tag_reaches p fragment n e = no
end_tag_reaches p (level name attrs k t o) n e = yes e

opened_reaches : (p : Place) (c : ℕ) → Reaches (max (max (place_height p) 0) (one_level_if (begins_element p c) (depth p.outer))) (m.from_opened p c)
unfolding m.from_opened is_name_start
opened_reaches p c =
    choose (c == 33) (λ h. yes (omega (arith, not_start p c 33 h refl)))
    (λ _. choose (c == 63) (λ h. yes (omega (arith, not_start p c 63 h refl)))
    (λ _. choose (c == 47) (λ h. end_tag_reaches p p.outer _ (omega (arith, not_start p c 47 h refl)))
    (λ _. choose (is_name_start c && takes_element p) (λ h. yes (omega (arith, ap (λ b. one_level_if b (depth p.outer)) h))) (λ _. no))))

left_reaches : (kids : List Node) (t : List ℕ) (o : Outer) → Reaches (max (max (max (depth o + list_height kids) (outer_height o)) 0) 0) (m.left_from kids t o)
left_reaches kids t document = no
left_reaches kids t fragment = no
left_reaches kids t (level name attrs k b o) = yes (omega (arith, with_node_height k b o (element name attrs (nodes (kids ++ text_node t))), heights-nodes (kids ++ text_node t), list_height-append kids (text_node t), list_height-text t))

judged_reaches : (p : Place) (j : Judged) → Reaches (max (max (place_height p) 0) 0) (m.judged p j)
judged_reaches p m.refused = no
judged_reaches p (m.going r) = yes (omega arith)
judged_reaches p (m.gives c) = yes (omega arith)

quoted_reaches : (p : Place) (name : List ℕ) (attrs : List Attr) (attr : List ℕ) (quote : ℕ) (value : List ℕ) (j : Judged) → Reaches (max (max (place_height p) (1 + depth p.outer)) 0) (m.judged_quoted p name attrs attr quote value j)
quoted_reaches p name attrs attr quote value m.refused = no
quoted_reaches p name attrs attr quote value (m.going r) = yes (omega arith)
quoted_reaches p name attrs attr quote value (m.gives c) = yes (omega arith)

end_spaced_reaches : (p : Place) (c : ℕ) → Reaches (max (max (place_height p) 0) 0) (m.from_end_spaced p c)
unfolding m.from_end_spaced m.left
end_spaced_reaches p c = choose (c == 62) (λ _. left_reaches p.kids p.text p.outer) (λ _. choose (is_space c) (λ _. yes (omega arith)) (λ _. no))

tag_reaches : (p : Place) (name : List ℕ) (attrs : List Attr) (c : ℕ) → Reaches (max (max (place_height p) (1 + depth p.outer)) 0) (m.from_tag p name attrs c)
unfolding m.from_tag
tag_reaches p name attrs c = choose (c == 62) (λ _. yes (omega arith)) (λ _. choose (c == 47) (λ _. yes (omega arith)) (λ _. choose (is_space c) (λ _. yes (omega arith)) (λ _. no)))

named_reaches : (p : Place) (name : List ℕ) (attrs : List Attr) (attr : List ℕ) (c : ℕ) → Reaches (max (max (place_height p) (1 + depth p.outer)) 0) (m.from_attr_named p name attrs attr c)
unfolding m.from_attr_named
named_reaches p name attrs attr c = choose (c == 61) (λ _. yes (omega arith)) (λ _. choose (is_space c) (λ _. yes (omega arith)) (λ _. no))

-- a step reaches one level more where an element begins
pub step_reaches : (p : Place) (phase : Phase) (c : ℕ) → Reaches (max (max (place_height p) (tag_height phase (depth p.outer))) (one_level_if (is_opened phase && begins_element p c) (depth p.outer))) (step_at p phase c)
unfolding step_at m.from_comment m.from_instruction m.from_end_name m.from_start_name m.from_spaced m.from_attr_name m.from_equals m.from_quoted m.from_slashed
step_reaches p m.ready c = ready_reaches p c
step_reaches p m.opened c = opened_reaches p c
step_reaches p m.bang c = choose (c == 45) (λ _. yes (omega arith)) (λ _. no)
step_reaches p m.bang_dash c = choose (c == 45) (λ _. yes (omega arith)) (λ _. no)
step_reaches p (m.comment n) c = choose (c == 45) (λ _. yes (omega arith)) (λ _. choose ((c == 62) && (n == 2)) (λ _. yes (omega arith)) (λ _. choose (is_char c) (λ _. yes (omega arith)) (λ _. no)))
step_reaches p (m.instruction b) c = choose (c == 63) (λ _. yes (omega arith)) (λ _. choose ((c == 62) && b) (λ _. yes (omega arith)) (λ _. choose (is_char c) (λ _. yes (omega arith)) (λ _. no)))
step_reaches p (m.reference r) c = judged_reaches p (m.refer r c)
step_reaches p (m.end_name []) c = end_spaced_reaches p c
step_reaches p (m.end_name (b ∷ bytes)) c = choose (starts_with nat_eq (b ∷ bytes) (encode_utf8 c)) (λ _. yes (omega arith)) (λ _. no)
step_reaches p m.end_spaced c = end_spaced_reaches p c
step_reaches p (m.start_name name) c = choose (is_name_char c) (λ _. yes (omega arith)) (λ _. tag_reaches p name [] c)
step_reaches p (m.spaced name attrs) c = choose (is_name_start c) (λ _. yes (omega arith)) (λ _. tag_reaches p name attrs c)
step_reaches p (m.attr_name name attrs attr) c = choose (is_name_char c) (λ _. yes (omega arith)) (λ _. choose (has_name attr attrs) (λ _. no) (λ _. named_reaches p name attrs attr c))
step_reaches p (m.attr_named name attrs attr) c = named_reaches p name attrs attr c
step_reaches p (m.equals name attrs attr) c = choose (is_quote c) (λ _. yes (omega arith)) (λ _. choose (is_space c) (λ _. yes (omega arith)) (λ _. no))
step_reaches p (m.quoted name attrs attr quote value) c = choose (c == quote) (λ _. yes (omega arith)) (λ _. choose (c == 38) (λ _. yes (omega arith)) (λ _. choose (c == 60) (λ _. no) (λ _. choose (is_char c) (λ _. yes (omega arith)) (λ _. no))))
step_reaches p (m.quoted_reference name attrs attr quote value r) c = quoted_reaches p name attrs attr quote value (m.refer r c)
step_reaches p (m.valued name attrs) c = tag_reaches p name attrs c
step_reaches p (m.slashed name attrs) c = choose (c == 62) (λ _. yes (omega (arith, with_node_height p.kids p.text p.outer (element name attrs no_nodes)))) (λ _. no)

pub reached_by : {n : ℕ} {o : Option State} → Reaches n o → (s : State) → o ≡ Some s → reached s ≡ n
reached_by no s e = cc
reached_by {n = n} (yes {s = t} h) s e = let same : t ≡ s = cc in ap reached (sym same) ∙ h
