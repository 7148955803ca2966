-- The machine's steps and the number of nodes that have begun.
use Rattle.std.proofs.Common.{◌≡◌, ℕ, ◌+◌, ◌<◌, Bool, true, false, ◌&&◌, not, cond, List, [], ◌∷◌, ◌++◌, length, Option, Some, None, refl, sym, ◌∙◌, ap, arith}
use Rattle.std.proofs.lemmas.Str.{length-encode, len_utf8_bounds}
use Rattle.std.proofs.lemmas.List.{length-append}
use Rattle.std.proofs.lemmas.Bool.{eqb-true, and_right, and_left, and_from}
use Rattle.std.specs.Prelude.{◌==◌, nat_eq, encode_utf8}
use Rattle.std.specs.List.{starts_with}
use Rattle.std.proofs.Math.Bool.{and-false}
use Rattle.ft_base.specs.Lists.{is_empty}
use Rattle.plain_tree.specs.Document.{Node, element, nodes, no_nodes}
use Rattle.plain_tree.specs.declared.tree.Attr.{Attr}
use Rattle.ft_base.specs.Characters.{is_char, is_space, is_name_start, is_name_char}
use Rattle.doc_grammar.specs.Grammar.{text_node, is_quote, has_name}
use Rattle.doc_grammar.specs.steps.Machine as m
use Rattle.doc_grammar.specs.steps.Machine.{Outer, document, fragment, level, Place, Phase, State, Judged, is_content, takes_element, step_at}
use Rattle.doc_grammar.specs.Limits.{one_if, node_count, nodes_count, list_count, text_count, outer_count, place_count, begins_text, begins_element}

-- a node under way counts
abbrev pub missing : List ℕ → ℕ
missing [] = 1
missing (b ∷ bytes) = 0

abbrev pub phase_count : Phase → List ℕ → ℕ
phase_count m.ready t = 0
phase_count m.opened t = 0
phase_count m.bang t = 0
phase_count m.bang_dash t = 0
phase_count (m.comment n) t = 0
phase_count (m.instruction b) t = 0
phase_count (m.reference r) t = missing t
phase_count (m.end_name left) t = 0
phase_count m.end_spaced t = 0
phase_count (m.start_name name) t = 1
phase_count (m.spaced name attrs) t = 1
phase_count (m.attr_name name attrs attr) t = 1
phase_count (m.attr_named name attrs attr) t = 1
phase_count (m.equals name attrs attr) t = 1
phase_count (m.quoted name attrs attr quote value) t = 1
phase_count (m.quoted_reference name attrs attr quote value r) t = 1
phase_count (m.valued name attrs) t = 1
phase_count (m.slashed name attrs) t = 1

abbrev pub begun : State → ℕ
begun s = place_count s.place + phase_count s.phase s.place.text

abbrev pub begins : Phase → Place → ℕ → Bool
begins m.ready p c = begins_text p false c
begins m.opened p c = begins_element p c
begins m.bang p c = false
begins m.bang_dash p c = false
begins (m.comment n) p c = false
begins (m.instruction b) p c = false
begins (m.reference r) p c = false
begins (m.end_name left) p c = false
begins m.end_spaced p c = false
begins (m.start_name name) p c = false
begins (m.spaced name attrs) p c = false
begins (m.attr_name name attrs attr) p c = false
begins (m.attr_named name attrs attr) p c = false
begins (m.equals name attrs attr) p c = false
begins (m.quoted name attrs attr quote value) p c = false
begins (m.quoted_reference name attrs attr quote value r) p c = false
begins (m.valued name attrs) p c = false
begins (m.slashed name attrs) p c = false

pub data Counts (n : ℕ) : Option State → Type 0 where
  no : Counts n None
  yes : {s : State} → begun s ≡ n → Counts n (Some s)

choose : {n : ℕ} {x y : Option State} (b : Bool) → (b ≡ true → Counts n x) → (b ≡ false → Counts n y) → Counts n (cond b x y)
choose true f h = f refl
choose false f h = h refl

pub list_count-append : (xs ys : List Node) → list_count (xs ++ ys) ≡ list_count xs + list_count ys
list_count-append [] ys = omega arith
list_count-append (x ∷ xs) ys = omega (arith, list_count-append xs ys)

pub nodes_count-nodes : (xs : List Node) → nodes_count (nodes xs) ≡ list_count xs
nodes_count-nodes [] = refl
nodes_count-nodes (x ∷ xs) = ap (λ n. node_count x + n) (nodes_count-nodes xs)

pub list_count-text : (bytes : List ℕ) → list_count (text_node bytes) ≡ text_count bytes
list_count-text [] = refl
list_count-text (b ∷ bytes) = omega arith

with_node_count : (kids : List Node) (t : List ℕ) (o : Outer) (n : Node) → place_count (m.with_node kids t o n) ≡ list_count kids + text_count t + outer_count o + node_count n
with_node_count kids t o n = omega (arith, list_count-append (kids ++ text_node t) (n ∷ []), list_count-append kids (text_node t), list_count-text t)

text_missing : (t : List ℕ) → text_count t + missing t ≡ 1
text_missing [] = omega arith
text_missing (b ∷ t) = omega arith

text_count-some : (t : List ℕ) → 0 < length t → text_count t ≡ 1
text_count-some [] h = absurd (omega arith)
text_count-some (b ∷ t) h = refl

text_count-encode : (t : List ℕ) (c : ℕ) → text_count (t ++ encode_utf8 c) ≡ 1
text_count-encode t c = text_count-some (t ++ encode_utf8 c) (omega (arith, length-append t (encode_utf8 c), length-encode c, (len_utf8_bounds c).0))

-- begins_text, by what its tests say
begun_text : (p : Place) (c : ℕ) → (c == 60) ≡ false → is_content p.outer ≡ true → is_empty p.text ≡ true → is_char c ≡ true → begins_text p false c ≡ true
begun_text p c a b d e = and_from _ _ (ap not (and-false (c == 10))) (and_from _ _ (ap not a) (and_from _ _ b (and_from _ _ d e)))

no_markup : (p : Place) (c : ℕ) → (c == 60) ≡ true → begins_text p false c ≡ false
no_markup p c h = and_right (not ((c == 10) && false)) _ (and_left (not (c == 60)) _ (ap not h))

no_content : (p : Place) (c : ℕ) → is_content p.outer ≡ false → begins_text p false c ≡ false
no_content p c h = and_right (not ((c == 10) && false)) _ (and_right (not (c == 60)) _ (and_left (is_content p.outer) _ h))

pub no_room : (p : Place) (c : ℕ) → is_empty p.text ≡ false → begins_text p false c ≡ false
no_room p c h = and_right (not ((c == 10) && false)) _ (and_right (not (c == 60)) _ (and_right (is_content p.outer) _ (and_left (is_empty p.text) _ h)))

missing_is : (t : List ℕ) → missing t ≡ one_if (is_empty t)
missing_is [] = refl
missing_is (b ∷ t) = refl

ampersand_is : (c : ℕ) → (c == 38) ≡ true → is_char c ≡ true
unfolding is_char
ampersand_is c h = ap is_char (eqb-true c 38 h)

in_text : (p : Place) (c : ℕ) → (c == 60) ≡ false → is_content p.outer ≡ true → is_char c ≡ true → one_if (begins_text p false c) ≡ missing p.text
in_text p c a b e = go (is_empty p.text) refl ∙ sym (missing_is p.text)
  where
    go : (x : Bool) → is_empty p.text ≡ x → one_if (begins_text p false c) ≡ one_if (is_empty p.text)
    go true h = ap one_if (begun_text p c a b h e ∙ sym h)
    go false h = ap one_if (no_room p c h ∙ sym h)

ready_counts : (p : Place) (c : ℕ) → Counts (place_count p + 0 + one_if (begins_text p false c)) (m.from_ready p c)
unfolding m.from_ready
ready_counts p c =
    choose (c == 60) (λ h. yes (omega (arith, ap one_if (no_markup p c h))))
    (λ h60. choose (is_content p.outer)
    (λ h. choose (c == 38) (λ h38. yes (omega (arith, in_text p c h60 h (ampersand_is c h38))))
    (λ _. choose (is_char c) (λ hc. yes (omega (arith, in_text p c h60 h hc, text_missing p.text, text_count-encode p.text c))) (λ _. no)))
    (λ h. choose (is_space c) (λ _. yes (omega (arith, ap one_if (no_content p c h)))) (λ _. no)))

not_start : (p : Place) (c k : ℕ) → (c == k) ≡ true → is_name_start k ≡ false → one_if (begins_element p c) ≡ 0
not_start p c k h n = ap one_if (and_left (is_name_start c) (takes_element p) (ap is_name_start (eqb-true c k h) ∙ n))

end_tag_counts : (p : Place) (o : Outer) (n : ℕ) → place_count p + 0 ≡ n → Counts n (m.end_tag p o)
end_tag_counts p document n e = no
end_tag_counts p fragment n e = no
end_tag_counts p (level name attrs k t o) n e = yes e

opened_counts : (p : Place) (c : ℕ) → Counts (place_count p + 0 + one_if (begins_element p c)) (m.from_opened p c)
unfolding m.from_opened is_name_start
opened_counts p c =
    choose (c == 33) (λ h. yes (omega (arith, not_start p c 33 h refl)))
    (λ _. choose (c == 63) (λ h. yes (omega (arith, not_start p c 63 h refl)))
    (λ _. choose (c == 47) (λ h. end_tag_counts p p.outer _ (omega (arith, not_start p c 47 h refl)))
    (λ _. choose (is_name_start c && takes_element p) (λ h. yes (omega (arith, ap one_if h))) (λ _. no))))

left_counts : (kids : List Node) (t : List ℕ) (o : Outer) → Counts (list_count kids + text_count t + outer_count o + 0 + 0) (m.left_from kids t o)
left_counts kids t document = no
left_counts kids t fragment = no
left_counts kids t (level name attrs k b o) = yes (omega (arith, with_node_count k b o (element name attrs (nodes (kids ++ text_node t))), nodes_count-nodes (kids ++ text_node t), list_count-append kids (text_node t), list_count-text t))

judged_counts : (p : Place) (j : Judged) → Counts (place_count p + missing p.text + 0) (m.judged p j)
judged_counts p m.refused = no
judged_counts p (m.going r) = yes (omega arith)
judged_counts p (m.gives c) = yes (omega (arith, text_missing p.text, text_count-encode p.text c))

quoted_counts : (p : Place) (name : List ℕ) (attrs : List Attr) (attr : List ℕ) (quote : ℕ) (value : List ℕ) (j : Judged) → Counts (place_count p + 1 + 0) (m.judged_quoted p name attrs attr quote value j)
quoted_counts p name attrs attr quote value m.refused = no
quoted_counts p name attrs attr quote value (m.going r) = yes (omega arith)
quoted_counts p name attrs attr quote value (m.gives c) = yes (omega arith)

end_spaced_counts : (p : Place) (c : ℕ) → Counts (place_count p + 0 + 0) (m.from_end_spaced p c)
unfolding m.from_end_spaced m.left
end_spaced_counts p c = choose (c == 62) (λ _. left_counts p.kids p.text p.outer) (λ _. choose (is_space c) (λ _. yes (omega arith)) (λ _. no))

tag_counts : (p : Place) (name : List ℕ) (attrs : List Attr) (c : ℕ) → Counts (place_count p + 1 + 0) (m.from_tag p name attrs c)
unfolding m.from_tag
tag_counts p name attrs c = choose (c == 62) (λ _. yes (omega arith)) (λ _. choose (c == 47) (λ _. yes (omega arith)) (λ _. choose (is_space c) (λ _. yes (omega arith)) (λ _. no)))

named_counts : (p : Place) (name : List ℕ) (attrs : List Attr) (attr : List ℕ) (c : ℕ) → Counts (place_count p + 1 + 0) (m.from_attr_named p name attrs attr c)
unfolding m.from_attr_named
named_counts p name attrs attr c = choose (c == 61) (λ _. yes (omega arith)) (λ _. choose (is_space c) (λ _. yes (omega arith)) (λ _. no))

-- a step counts a node where one begins
pub step_counts : (p : Place) (phase : Phase) (c : ℕ) → Counts (place_count p + phase_count phase p.text + one_if (begins phase p c)) (step_at p phase c)
unfolding step_at m.from_comment m.from_instruction m.from_end_name m.from_start_name m.from_spaced m.from_attr_name m.from_equals m.from_quoted m.from_slashed
step_counts p m.ready c = ready_counts p c
step_counts p m.opened c = opened_counts p c
step_counts p m.bang c = choose (c == 45) (λ _. yes (omega arith)) (λ _. no)
step_counts p m.bang_dash c = choose (c == 45) (λ _. yes (omega arith)) (λ _. no)
step_counts p (m.comment n) c = choose (c == 45) (λ _. yes (omega arith)) (λ _. choose ((c == 62) && (n == 2)) (λ _. yes (omega arith)) (λ _. choose (is_char c) (λ _. yes (omega arith)) (λ _. no)))
step_counts p (m.instruction b) c = choose (c == 63) (λ _. yes (omega arith)) (λ _. choose ((c == 62) && b) (λ _. yes (omega arith)) (λ _. choose (is_char c) (λ _. yes (omega arith)) (λ _. no)))
step_counts p (m.reference r) c = judged_counts p (m.refer r c)
step_counts p (m.end_name []) c = end_spaced_counts p c
step_counts p (m.end_name (b ∷ bytes)) c = choose (starts_with nat_eq (b ∷ bytes) (encode_utf8 c)) (λ _. yes (omega arith)) (λ _. no)
step_counts p m.end_spaced c = end_spaced_counts p c
step_counts p (m.start_name name) c = choose (is_name_char c) (λ _. yes (omega arith)) (λ _. tag_counts p name [] c)
step_counts p (m.spaced name attrs) c = choose (is_name_start c) (λ _. yes (omega arith)) (λ _. tag_counts p name attrs c)
step_counts p (m.attr_name name attrs attr) c = choose (is_name_char c) (λ _. yes (omega arith)) (λ _. choose (has_name attr attrs) (λ _. no) (λ _. named_counts p name attrs attr c))
step_counts p (m.attr_named name attrs attr) c = named_counts p name attrs attr c
step_counts p (m.equals name attrs attr) c = choose (is_quote c) (λ _. yes (omega arith)) (λ _. choose (is_space c) (λ _. yes (omega arith)) (λ _. no))
step_counts p (m.quoted name attrs attr quote value) c = choose (c == quote) (λ _. yes (omega arith)) (λ _. choose (c == 38) (λ _. yes (omega arith)) (λ _. choose (c == 60) (λ _. no) (λ _. choose (is_char c) (λ _. yes (omega arith)) (λ _. no))))
step_counts p (m.quoted_reference name attrs attr quote value r) c = quoted_counts p name attrs attr quote value (m.refer r c)
step_counts p (m.valued name attrs) c = tag_counts p name attrs c
step_counts p (m.slashed name attrs) c = choose (c == 62) (λ _. yes (omega (arith, with_node_count p.kids p.text p.outer (element name attrs no_nodes)))) (λ _. no)

pub counted : {n : ℕ} {o : Option State} → Counts n o → (s : State) → o ≡ Some s → begun s ≡ n
counted no s e = cc
counted {n = n} (yes {s = t} h) s e = let same : t ≡ s = cc in ap begun (sym same) ∙ h
