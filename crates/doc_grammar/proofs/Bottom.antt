-- What stands round everything, a document or a fragment, never changes.
use Rattle.std.proofs.Common.{◌≡◌, ℕ, Bool, true, false, cond, List, [], ◌∷◌, Option, Some, None, refl, sym, ◌∙◌, ap}
use Rattle.plain_tree.specs.Document.{Node}
use Rattle.plain_tree.specs.declared.tree.Attr.{Attr}
use Rattle.std.specs.Prelude.{◌==◌, ◌&&◌, nat_eq, encode_utf8}
use Rattle.std.specs.List.{starts_with}
use Rattle.ft_base.specs.Characters.{is_char, is_space, is_name_start, is_name_char}
use Rattle.doc_grammar.specs.Grammar.{is_quote, has_name}
use Rattle.doc_grammar.specs.Opened.{bottom}
use Rattle.doc_grammar.specs.steps.Machine as m
use Rattle.doc_grammar.specs.steps.Machine.{Outer, document, fragment, level, Place, Phase, State, Judged, is_content, takes_element, step, step_at, run_on}

pub data Keeps (o : Outer) : Option State → Type 0 where
  no : Keeps o None
  yes : {s : State} → bottom s.place.outer ≡ bottom o → Keeps o (Some s)

branch : {o : Outer} {x y : Option State} (b : Bool) → Keeps o x → Keeps o y → Keeps o (cond b x y)
branch true f h = f
branch false f h = h

left_keeps : (kids : List Node) (text : List ℕ) (o : Outer) → Keeps o (m.left_from kids text o)
left_keeps kids text document = no
left_keeps kids text fragment = no
left_keeps kids text (level name attrs k t o) = yes refl

end_tag_keeps : (p : Place) (o : Outer) → Keeps p.outer (m.end_tag p o)
end_tag_keeps p document = no
end_tag_keeps p fragment = no
end_tag_keeps p (level name attrs k t o) = yes refl

judged_keeps : (p : Place) (j : Judged) → Keeps p.outer (m.judged p j)
judged_keeps p m.refused = no
judged_keeps p (m.going r) = yes refl
judged_keeps p (m.gives c) = yes refl

quoted_keeps : (p : Place) (name : List ℕ) (attrs : List Attr) (attr : List ℕ) (quote : ℕ) (value : List ℕ) (j : Judged) → Keeps p.outer (m.judged_quoted p name attrs attr quote value j)
quoted_keeps p name attrs attr quote value m.refused = no
quoted_keeps p name attrs attr quote value (m.going r) = yes refl
quoted_keeps p name attrs attr quote value (m.gives c) = yes refl

end_spaced_keeps : (p : Place) (c : ℕ) → Keeps p.outer (m.from_end_spaced p c)
unfolding m.from_end_spaced m.left
end_spaced_keeps p c = branch (c == 62) (left_keeps p.kids p.text p.outer) (branch (is_space c) (yes refl) no)

tag_keeps : (p : Place) (name : List ℕ) (attrs : List Attr) (c : ℕ) → Keeps p.outer (m.from_tag p name attrs c)
unfolding m.from_tag
tag_keeps p name attrs c = branch (c == 62) (yes refl) (branch (c == 47) (yes refl) (branch (is_space c) (yes refl) no))

named_keeps : (p : Place) (name : List ℕ) (attrs : List Attr) (attr : List ℕ) (c : ℕ) → Keeps p.outer (m.from_attr_named p name attrs attr c)
unfolding m.from_attr_named
named_keeps p name attrs attr c = branch (c == 61) (yes refl) (branch (is_space c) (yes refl) no)

step_keeps : (p : Place) (phase : Phase) (c : ℕ) → Keeps p.outer (step_at p phase c)
unfolding step_at m.from_ready m.from_opened m.from_comment m.from_instruction m.from_end_name m.from_start_name m.from_spaced m.from_attr_name m.from_equals m.from_quoted m.from_slashed
step_keeps p m.ready c = branch (c == 60) (yes refl) (branch (is_content p.outer) (branch (c == 38) (yes refl) (branch (is_char c) (yes refl) no)) (branch (is_space c) (yes refl) no))
step_keeps p m.opened c = branch (c == 33) (yes refl) (branch (c == 63) (yes refl) (branch (c == 47) (end_tag_keeps p p.outer) (branch (is_name_start c && takes_element p) (yes refl) no)))
step_keeps p m.bang c = branch (c == 45) (yes refl) no
step_keeps p m.bang_dash c = branch (c == 45) (yes refl) no
step_keeps p (m.comment n) c = branch (c == 45) (yes refl) (branch ((c == 62) && (n == 2)) (yes refl) (branch (is_char c) (yes refl) no))
step_keeps p (m.instruction b) c = branch (c == 63) (yes refl) (branch ((c == 62) && b) (yes refl) (branch (is_char c) (yes refl) no))
step_keeps p (m.reference r) c = judged_keeps p (m.refer r c)
step_keeps p (m.end_name []) c = end_spaced_keeps p c
step_keeps p (m.end_name (b ∷ bytes)) c = branch (starts_with nat_eq (b ∷ bytes) (encode_utf8 c)) (yes refl) no
step_keeps p m.end_spaced c = end_spaced_keeps p c
step_keeps p (m.start_name name) c = branch (is_name_char c) (yes refl) (tag_keeps p name [] c)
step_keeps p (m.spaced name attrs) c = branch (is_name_start c) (yes refl) (tag_keeps p name attrs c)
step_keeps p (m.attr_name name attrs attr) c = branch (is_name_char c) (yes refl) (branch (has_name attr attrs) no (named_keeps p name attrs attr c))
step_keeps p (m.attr_named name attrs attr) c = named_keeps p name attrs attr c
step_keeps p (m.equals name attrs attr) c = branch (is_quote c) (yes refl) (branch (is_space c) (yes refl) no)
step_keeps p (m.quoted name attrs attr quote value) c = branch (c == quote) (yes refl) (branch (c == 38) (yes refl) (branch (c == 60) no (branch (is_char c) (yes refl) no)))
step_keeps p (m.quoted_reference name attrs attr quote value r) c = quoted_keeps p name attrs attr quote value (m.refer r c)
step_keeps p (m.valued name attrs) c = tag_keeps p name attrs c
step_keeps p (m.slashed name attrs) c = branch (c == 62) (yes refl) no

run_keeps : (o : Outer) (s : Option State) (cs : List ℕ) → Keeps o s → Keeps o (run_on s cs)
run_keeps o None cs k = no
run_keeps o (Some s) [] k = k
run_keeps o (Some s) (c ∷ cs) (yes e) = run_keeps o (step s c) cs (go (step s c) (step_keeps s.place s.phase c))
  where
    go : (t : Option State) → Keeps s.place.outer t → Keeps o t
    go None no = no
    go (Some t) (yes f) = yes (f ∙ e)

kept : {o : Outer} {t : Option State} → Keeps o t → (s : State) → t ≡ Some s → bottom s.place.outer ≡ bottom o
kept no s e = cc
kept {o = o} (yes {s = t} f) s e = let same : t ≡ s = cc in ap (λ (x : State). bottom x.place.outer) (sym same) ∙ f

pub run_bottom : (s t : State) (cs : List ℕ) → run_on (Some s) cs ≡ Some t → bottom t.place.outer ≡ bottom s.place.outer
run_bottom s t cs e = kept (run_keeps s.place.outer (Some s) cs (yes refl)) t e
