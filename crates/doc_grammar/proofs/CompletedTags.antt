-- Tags under way can be ended, so every state has a continuation to a place between items.
use Rattle.std.proofs.Common.{◌≡◌, ℕ, zero, suc, ◌+◌, ◌<◌, Bool, true, false, ◌&&◌, ◌||◌, not, List, [], ◌∷◌, ◌++◌, length, replicate, refl, sym, ◌∙◌, ap, subst, append_assoc, arith}
use Rattle.std.proofs.lemmas.List.{append-nil, length-append}
use Rattle.std.proofs.lemmas.Bool.{eq-eqb, and_parts}
use Rattle.std.proofs.lemmas.Str.{encode_ascii, cons_from_encodes, encodes-append}
use Rattle.std.proofs.lemmas.List.Folds.{list_all-append}
use Rattle.std.specs.Prelude.{◌==◌, encode_utf8, encode_utf8_all, nat_eq}
use Rattle.std.specs.Cmp.Lexicographic.{pointwise}
use Rattle.plain_tree.specs.Document.{Node}
use Rattle.plain_tree.specs.declared.tree.Attr.{Attr}
use Rattle.ft_base.specs.Characters.{is_name_start, is_name_char}
use Rattle.doc_grammar.specs.Grammar.{is_quote, has_name, Name, Tag}
use Rattle.doc_grammar.specs.steps.Machine as m
use Rattle.doc_grammar.specs.steps.Machine.{Outer, document, fragment, level, Place, Phase, State, is_content, with_node, step_at, run_on}
use Rattle.doc_grammar.proofs.Bytes.{pointwise_same}
use Rattle.doc_grammar.proofs.Spelled.{no_return, ReferPart, EndPart, Part, Spelled}
use Rattle.doc_grammar.specs.Opened.{At, before, after, in_fragment, within}
use Rattle.doc_grammar.proofs.Classes.{differs}
use Rattle.doc_grammar.proofs.Walks.{st, Runs, Steps, same, still, one, first_then, quoted_ends, refer_ends, attr_name_further}
use Rattle.doc_grammar.proofs.WalksOfElements.{content_of, equals_quote, quoted_quote, attr_name_equals, spaced_slash, empty_close, end_name_runs, end_name_close, end_spaced_close, attr_named_equals}
use Rattle.doc_grammar.proofs.Completed.{Ends, no_return-append, ends_after, ends_at, opened_ends, bang_ends, bang_dash_ends, comment_ends, instruction_ends, refer_completes}

slashed_ends : (p : Place) (name : List ℕ) (attrs : List Attr) → Ends (st p (m.slashed name attrs))
slashed_ends p name attrs = ends_at (one (empty_close p name attrs)) refl

spaced_ends : (p : Place) (name : List ℕ) (attrs : List Attr) → Ends (st p (m.spaced name attrs))
spaced_ends p name attrs = ends_after (one (spaced_slash p name attrs)) refl (slashed_ends p name attrs)

valued_slash : (p : Place) (name : List ℕ) (attrs : List Attr) → Steps (st p (m.valued name attrs)) 47 (st p (m.slashed name attrs))
unfolding step_at m.from_tag
valued_slash p name attrs = record { gives = same }

valued_ends : (p : Place) (name : List ℕ) (attrs : List Attr) → Ends (st p (m.valued name attrs))
valued_ends p name attrs = ends_after (one (valued_slash p name attrs)) refl (slashed_ends p name attrs)

start_name_slash : (p : Place) (name : List ℕ) → Steps (st p (m.start_name name)) 47 (st p (m.slashed name []))
unfolding step_at m.from_start_name m.from_tag is_name_char is_name_start
start_name_slash p name = record { gives = same }

start_name_ends : (p : Place) (name : List ℕ) → Ends (st p (m.start_name name))
start_name_ends p name = ends_after (one (start_name_slash p name)) refl (slashed_ends p name [])

quote-plain : (q : ℕ) → is_quote q ≡ true → no_return (q ∷ []) ≡ true
quote-plain q h = ap (λ b. not b && true) (differs is_quote q 13 h refl)

quoted_can_end : (p : Place) (name : List ℕ) (attrs : List Attr) (attr : List ℕ) (quote : ℕ) (value : List ℕ) → is_quote quote ≡ true → Ends (st p (m.quoted name attrs attr quote value))
quoted_can_end p name attrs attr quote value h = ends_after (one (quoted_quote p name attrs attr quote value (eq-eqb quote quote refl))) (quote-plain quote h) (valued_ends p name (attrs ++ record { name = attr; value = value } ∷ []))

equals_ends : (p : Place) (name : List ℕ) (attrs : List Attr) (attr : List ℕ) → Ends (st p (m.equals name attrs attr))
equals_ends p name attrs attr = ends_after (one (equals_quote p name attrs attr 39 refl)) refl (quoted_can_end p name attrs attr 39 [] refl)

attr_named_ends : (p : Place) (name : List ℕ) (attrs : List Attr) (attr : List ℕ) → Ends (st p (m.attr_named name attrs attr))
attr_named_ends p name attrs attr = ends_after (one (attr_named_equals p name attrs attr)) refl (equals_ends p name attrs attr)

-- a name longer than the others is new
lengths : List Attr → ℕ
lengths [] = 0
lengths (a ∷ attrs) = length a.name + lengths attrs

new_if_longer : (attrs : List Attr) (name : List ℕ) → lengths attrs < length name → has_name name attrs ≡ false
unfolding lengths
new_if_longer [] name h = refl
new_if_longer (a ∷ attrs) name h = ap (λ b. b || has_name name attrs) (go (pointwise nat_eq a.name name) refl) ∙ new_if_longer attrs name (omega arith)
  where
    go : (b : Bool) → pointwise nat_eq a.name name ≡ b → b ≡ false
    go false e = refl
    go true e = absurd (omega (arith, ap length (pointwise_same a.name name e)))

letter_further : (p : Place) (name : List ℕ) (attrs : List Attr) (attr : List ℕ) → Steps (st p (m.attr_name name attrs attr)) 120 (st p (m.attr_name name attrs (attr ++ 120 ∷ [])))
unfolding is_name_char is_name_start
letter_further p name attrs attr = subst (λ z. Steps (st p (m.attr_name name attrs attr)) 120 (st p (m.attr_name name attrs (attr ++ z)))) (encode_ascii 120 (omega arith)) (attr_name_further p name attrs attr 120 refl)

letters_run : (p : Place) (name : List ℕ) (attrs : List Attr) (k : ℕ) (attr : List ℕ) → (longer : List ℕ) × Runs (st p (m.attr_name name attrs attr)) (replicate k 120) (st p (m.attr_name name attrs longer)) × (length longer ≡ length attr + k)
letters_run p name attrs zero attr = (attr, still _, omega arith)
letters_run p name attrs (suc k) attr = let rest = letters_run p name attrs k (attr ++ 120 ∷ []) in (rest.0, first_then (letter_further p name attrs attr) rest.1, omega (arith, rest.2, length-append attr (120 ∷ [])))

letters-plain : (k : ℕ) → no_return (replicate k 120) ≡ true
letters-plain zero = refl
letters-plain (suc k) = letters-plain k

attr_name_ends : (p : Place) (name : List ℕ) (attrs : List Attr) (attr : List ℕ) → Ends (st p (m.attr_name name attrs attr))
attr_name_ends p name attrs attr =
    let longer = letters_run p name attrs (suc (lengths attrs)) attr in
    ends_after longer.1 (letters-plain (suc (lengths attrs))) (ends_after (one (attr_name_equals p name attrs longer.0 (new_if_longer attrs longer.0 (omega (arith, longer.2))))) refl (equals_ends p name attrs longer.0))

quoted_reference_ends : (p : Place) (name : List ℕ) (attrs : List Attr) (attr : List ℕ) (quote : ℕ) (value : List ℕ) (r : m.Refer) (u : List ℕ) → is_quote quote ≡ true → ReferPart r u → Ends (st p (m.quoted_reference name attrs attr quote value r))
quoted_reference_ends p name attrs attr quote value r u h part =
    let c = refer_completes r u part in
    ends_after (record { ends = quoted_ends p name attrs attr quote value (m.going r) c.rest c.c c.reads.ends }) c.is_plain (quoted_can_end p name attrs attr quote (value ++ encode_utf8 c.c) h)

reference_can_end : (p : Place) (r : m.Refer) (u : List ℕ) → ReferPart r u → Ends (st p (m.reference r))
reference_can_end p r u part = let c = refer_completes r u part in ends_at (record { ends = refer_ends p (m.going r) c.rest c.c c.reads.ends }) c.is_plain

-- the name of the open element
abbrev pub OpenName : Outer → Type 0
OpenName document = Unit {0}
OpenName fragment = Unit {0}
OpenName (level name attrs kids text outer) = (cs : List ℕ) × Name cs name

tag_name : {u name : List ℕ} {attrs : List Attr} → Tag u name attrs → (cs : List ℕ) × Name cs name
tag_name (Tag.named {u = u} x) = (u, x)
tag_name (Tag.attribute tag sp c h attr new) = tag_name tag

pub open_name : {v : List ℕ} {p : Place} → At v p → OpenName p.outer
open_name (before x) = tt
open_name (after x e y) = tt
open_name (in_fragment x) = tt
open_name (within a takes tag sp x) = tag_name tag

pub name_bytes : {cs bytes : List ℕ} → Name cs bytes → encode_utf8_all cs ≡ bytes
name_bytes (Name.first c h) = append-nil (encode_utf8 c)
name_bytes (Name.further {u = u} {bytes = bytes} x c h) = encodes-append u (c ∷ []) ∙ ap (λ z. z ++ encode_utf8_all (c ∷ [])) (name_bytes x) ∙ ap (λ z. bytes ++ z) (append-nil (encode_utf8 c))

start-plain : (c : ℕ) → is_name_start c ≡ true → no_return (c ∷ []) ≡ true
unfolding is_name_start
start-plain c h = ap (λ b. not b && true) (differs is_name_start c 13 h refl)

name_char-plain : (c : ℕ) → is_name_char c ≡ true → no_return (c ∷ []) ≡ true
unfolding is_name_char is_name_start
name_char-plain c h = ap (λ b. not b && true) (differs is_name_char c 13 h refl)

pub name_plain : {cs bytes : List ℕ} → Name cs bytes → no_return cs ≡ true
name_plain (Name.first c h) = start-plain c h
name_plain (Name.further {u = u} x c h) = no_return-append u (c ∷ []) (name_plain x) (name_char-plain c h)

-- what is left of the characters of a name
pub rest_of : (cs whole left : List ℕ) → encode_utf8_all cs ++ left ≡ encode_utf8_all whole → (es : List ℕ) × (encode_utf8_all es ≡ left) × (whole ≡ cs ++ es)
rest_of [] whole left e = (whole, sym e, refl)
rest_of (c ∷ cs) whole left e =
    let x = cons_from_encodes whole (encode_utf8_all cs ++ left) c (sym e ∙ append_assoc (encode_utf8 c) (encode_utf8_all cs) left) in
    let y = rest_of cs x.0 left (sym x.2) in
    (y.0, y.1, x.1 ∙ ap (λ z. c ∷ z) y.2)

end_name_ends : (kids : List Node) (text : List ℕ) (o : Outer) → OpenName o → (cs bytes : List ℕ) → EndPart o cs bytes → Ends (st (content_of kids text o) (m.end_name bytes))
end_name_ends kids text document n cs bytes part = elim part [ ]
end_name_ends kids text fragment n cs bytes part = elim part [ ]
end_name_ends kids text (level name attrs ok ot o) n cs bytes part =
    let rest = rest_of cs n.0 bytes (part ∙ sym (name_bytes n.1)) in
    let p = content_of ok ot o in
    let q = content_of kids text (level name attrs ok ot o) in
    let plain : no_return rest.0 ≡ true = (and_parts _ _ (sym (list_all-append (λ c. not (c == 13)) cs rest.0) ∙ ap no_return (sym rest.2) ∙ name_plain n.1)).1 in
    ends_after (subst (λ z. Runs (st q (m.end_name z)) rest.0 (st q (m.end_name []))) rest.1 (end_name_runs q rest.0)) plain (ends_at (one (end_name_close p kids text name attrs)) refl)

end_spaced_ends : (kids : List Node) (text : List ℕ) (o : Outer) (cs : List ℕ) → EndPart o cs [] → Ends (st (content_of kids text o) m.end_spaced)
end_spaced_ends kids text document cs part = elim part [ ]
end_spaced_ends kids text fragment cs part = elim part [ ]
end_spaced_ends kids text (level name attrs ok ot o) cs part = ends_at (one (end_spaced_close (content_of ok ot o) kids text name attrs)) refl

part_ends : (p : Place) (phase : Phase) (u : List ℕ) → OpenName p.outer → Part p phase u → Ends (st p phase)
part_ends p m.ready u n part = ends_at (still _) refl
part_ends p m.opened u n part = ends_at (opened_ends p) refl
part_ends p m.bang u n part = ends_at (bang_ends p) refl
part_ends p m.bang_dash u n part = ends_at (bang_dash_ends p) refl
part_ends p (m.comment k) u n part = ends_at (comment_ends p k) refl
part_ends p (m.instruction b) u n part = ends_at (instruction_ends p b) refl
part_ends p (m.reference r) u n part = reference_can_end p r u part.1
part_ends p (m.end_name bytes) u n part = end_name_ends p.kids p.text p.outer n part.0 bytes part.1
part_ends p m.end_spaced u n part = end_spaced_ends p.kids p.text p.outer part.0 part.2
part_ends p (m.start_name name) u n part = start_name_ends p name
part_ends p (m.spaced name attrs) u n part = spaced_ends p name attrs
part_ends p (m.attr_name name attrs attr) u n part = attr_name_ends p name attrs attr
part_ends p (m.attr_named name attrs attr) u n part = attr_named_ends p name attrs attr
part_ends p (m.equals name attrs attr) u n part = equals_ends p name attrs attr
part_ends p (m.quoted name attrs attr quote value) u n part = quoted_can_end p name attrs attr quote value part.3.is_quoted
part_ends p (m.quoted_reference name attrs attr quote value r) u n part = quoted_reference_ends p name attrs attr quote value r part.2 part.4.is_quoted part.6
part_ends p (m.valued name attrs) u n part = valued_ends p name attrs
part_ends p (m.slashed name attrs) u n part = slashed_ends p name attrs

pub state_ends : (w : List ℕ) (s : State) → Spelled w s → Ends s
state_ends w s x = part_ends s.place s.phase x.part (open_name x.is_at) x.is_part
