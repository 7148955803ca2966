-- The steps of a start tag keep what a state has read spelled by the grammar.
use Rattle.std.proofs.Common.{◌≡◌, ℕ, false, List, [], ◌∷◌, ◌++◌, refl, sym, ◌∙◌, ap, subst, append_assoc}
use Rattle.std.proofs.lemmas.List.{append-nil}
use Rattle.std.specs.Prelude.{IsTrue, ◌==◌, codes, encode_utf8}
use Rattle.std.proofs.lemmas.Bool.{eqb-true}
use Rattle.plain_tree.specs.declared.tree.Attr.{Attr}
use Rattle.ft_base.specs.Characters.{is_char, is_space, is_name_start, is_name_char}
use Rattle.doc_grammar.specs.Grammar as g
use Rattle.doc_grammar.specs.Grammar.{in_value, is_quote, has_name, Name, Spaces, Value, Attribute, Tag, Element, Content}
use Rattle.doc_grammar.specs.steps.Machine as m
use Rattle.doc_grammar.specs.steps.Machine.{Place, Refer, Phase, State, takes_element, with_node, entered}
use Rattle.doc_grammar.proofs.Spelled.{Gap, NamedPart, QuotePart, Part, Next, stop}
use Rattle.doc_grammar.specs.Opened.{within}
use Rattle.doc_grammar.proofs.Moves.{at_same, at_child}
use Rattle.doc_grammar.proofs.Steps.{Reading, choose, stay, done, grown, literal, Judges, no, on, yes, refer_judged}

enter_regrouped : (v t s : List ℕ) → ((((v ++ t) ++ s) ++ codes ">") ++ []) ≡ v ++ ((t ++ s) ++ codes ">")
enter_regrouped v t s = simp (append-nil, append_assoc)

-- after a name or an attribute, and white space
tag_step : {p : Place} {v u w name : List ℕ} {attrs : List Attr} → Reading p v u w → (c : ℕ) → IsTrue (takes_element p) → (t s : List ℕ) → Tag t name attrs → Spaces s → u ≡ t ++ s → Next (w ++ c ∷ []) (m.from_tag p name attrs c)
unfolding m.from_tag
tag_step {p = p} {v = v} {name = name} {attrs = attrs} r c takes t s tag sp e =
    choose (c == 62) (λ h. done r c (at_same (within r.is_at takes tag sp g.Content.nothing) (enter_regrouped v t s ∙ ap (λ z. v ++ z) (sym (literal (t ++ s) e (eqb-true c 62 h))))))
    (λ _. choose (c == 47) (λ h. stay r c (m.slashed name attrs) (t, s, takes, tag, sp, literal (t ++ s) e (eqb-true c 47 h)))
    (λ _. choose (is_space c) (λ h. stay r c (m.spaced name attrs) (t, s ++ c ∷ [], takes, tag, record { spaces = s; last = c; are_spaces = sp; is_last = h; spelled = refl }, grown t s c e)) (λ _. stop)))

pub start_name_step : {p : Place} {v u w : List ℕ} → Reading p v u w → (name : List ℕ) (c : ℕ) → Part p (m.start_name name) u → Next (w ++ c ∷ []) (m.from_start_name p name c)
unfolding m.from_start_name
start_name_step r name c (x, takes, is_name, e) =
    choose (is_name_char c) (λ h. stay r c (m.start_name (name ++ encode_utf8 c)) (x ++ c ∷ [], takes, Name.further is_name c h, grown (codes "<") x c e))
    (λ _. tag_step r c takes (codes "<" ++ x) [] (Tag.named is_name) Spaces.nothing (e ∙ sym (append-nil (codes "<" ++ x))))

pub valued_step : {p : Place} {v u w : List ℕ} → Reading p v u w → (name : List ℕ) (attrs : List Attr) (c : ℕ) → Part p (m.valued name attrs) u → Next (w ++ c ∷ []) (m.from_tag p name attrs c)
valued_step {u = u} r name attrs c (takes, tag) = tag_step r c takes u [] tag Spaces.nothing (sym (append-nil u))

gap_spaces : {u : List ℕ} → Gap u → Spaces u
gap_spaces gap = subst Spaces (sym gap.spelled) (Spaces.space gap.are_spaces gap.last gap.is_last)

pub spaced_step : {p : Place} {v u w : List ℕ} → Reading p v u w → (name : List ℕ) (attrs : List Attr) (c : ℕ) → Part p (m.spaced name attrs) u → Next (w ++ c ∷ []) (m.from_spaced p name attrs c)
unfolding m.from_spaced
spaced_step r name attrs c (t, s, takes, tag, gap, e) =
    choose (is_name_start c) (λ h. stay r c (m.attr_name name attrs (encode_utf8 c)) (takes, record { tag = t; gap = s; spelling = c ∷ []; is_tag = tag; is_gap = gap; is_name = Name.first c h; spelled = ap (λ z. z ++ c ∷ []) e }))
    (λ _. tag_step r c takes t s tag (gap_spaces gap) e)

named_step : {p : Place} {v u w name attr : List ℕ} {attrs : List Attr} → Reading p v u w → (c : ℕ) → IsTrue (takes_element p) → (x s : List ℕ) → NamedPart name attrs attr x → Spaces s → has_name attr attrs ≡ false → u ≡ x ++ s → Next (w ++ c ∷ []) (m.from_attr_named p name attrs attr c)
unfolding m.from_attr_named
named_step {name = name} {attr = attr} {attrs = attrs} r c takes x s part sp new e =
    choose (c == 61) (λ h. stay r c (m.equals name attrs attr) (x, s, [], takes, part, sp, Spaces.nothing, new, literal (x ++ s) e (eqb-true c 61 h) ∙ sym (append-nil ((x ++ s) ++ codes "="))))
    (λ _. choose (is_space c) (λ h. stay r c (m.attr_named name attrs attr) (x, s ++ c ∷ [], takes, part, Spaces.space sp c h, new, grown x s c e)) (λ _. stop))

pub attr_named_step : {p : Place} {v u w : List ℕ} → Reading p v u w → (name : List ℕ) (attrs : List Attr) (attr : List ℕ) (c : ℕ) → Part p (m.attr_named name attrs attr) u → Next (w ++ c ∷ []) (m.from_attr_named p name attrs attr c)
attr_named_step r name attrs attr c (x, s, takes, part, sp, new, e) = named_step r c takes x s part sp new e

pub attr_name_step : {p : Place} {v u w : List ℕ} → Reading p v u w → (name : List ℕ) (attrs : List Attr) (attr : List ℕ) (c : ℕ) → Part p (m.attr_name name attrs attr) u → Next (w ++ c ∷ []) (m.from_attr_name p name attrs attr c)
unfolding m.from_attr_name
attr_name_step {u = u} r name attrs attr c (takes, part) =
    choose (is_name_char c) (λ h. stay r c (m.attr_name name attrs (attr ++ encode_utf8 c)) (takes, record { tag = part.tag; gap = part.gap; spelling = part.spelling ++ c ∷ []; is_tag = part.is_tag; is_gap = part.is_gap; is_name = Name.further part.is_name c h; spelled = grown (part.tag ++ part.gap) part.spelling c part.spelled }))
    (λ _. choose (has_name attr attrs) (λ _. stop) (λ new. named_step r c takes u [] part Spaces.nothing new (sym (append-nil u))))

pub equals_step : {p : Place} {v u w : List ℕ} → Reading p v u w → (name : List ℕ) (attrs : List Attr) (attr : List ℕ) (c : ℕ) → Part p (m.equals name attrs attr) u → Next (w ++ c ∷ []) (m.from_equals p name attrs attr c)
unfolding m.from_equals
equals_step r name attrs attr c (x, s, t, takes, part, sp, suffix, new, e) =
    choose (is_quote c) (λ h. stay r c (m.quoted name attrs attr c []) ((((x ++ s) ++ codes "=") ++ t) ++ c ∷ [], [], takes, record { named = x; spaces = s; suffix = t; is_named = part; are_spaces = sp; are_after = suffix; is_new = new; is_quoted = h; spelled = refl }, Value.nothing, ap (λ z. z ++ c ∷ []) e ∙ sym (append-nil ((((x ++ s) ++ codes "=") ++ t) ++ c ∷ []))))
    (λ _. choose (is_space c) (λ h. stay r c (m.equals name attrs attr) (x, s, t ++ c ∷ [], takes, part, sp, Spaces.space suffix c h, new, grown ((x ++ s) ++ codes "=") t c e)) (λ _. stop))

attribute_regrouped : (tag sps spelling s t v : List ℕ) (l q : ℕ) → (((((((tag ++ (sps ++ l ∷ [])) ++ spelling) ++ s) ++ codes "=") ++ t) ++ q ∷ []) ++ v) ++ q ∷ [] ≡ (tag ++ (sps ++ l ∷ [])) ++ ((((((spelling ++ s) ++ codes "=") ++ t) ++ q ∷ []) ++ v) ++ q ∷ [])
attribute_regrouped tag sps spelling s t v l q = simp append_assoc

-- a whole attribute
tag_further : {name attr x v value : List ℕ} {attrs : List Attr} {quote : ℕ} → QuotePart name attrs attr quote x → Value quote v value → (u : List ℕ) → u ≡ (x ++ v) ++ quote ∷ [] → Tag u name (attrs ++ record { name = attr; value = value } ∷ [])
tag_further {name = name} {attr = attr} {v = v} {value = value} {attrs = attrs} {quote = q} quote val u e =
    let named = quote.is_named in
    let gap = named.is_gap in
    subst (λ z. Tag z name (attrs ++ record { name = attr; value = value } ∷ [])) (sym (e
    ∙ ap (λ z. (z ++ v) ++ q ∷ []) quote.spelled
    ∙ ap (λ z. (((((z ++ quote.spaces) ++ codes "=") ++ quote.suffix) ++ q ∷ []) ++ v) ++ q ∷ []) (named.spelled ∙ ap (λ z. (named.tag ++ z) ++ named.spelling) gap.spelled)
    ∙ attribute_regrouped named.tag gap.spaces named.spelling quote.spaces quote.suffix v gap.last q))
    (Tag.attribute named.is_tag gap.are_spaces gap.last gap.is_last (Attribute.attribute named.is_name quote.are_spaces quote.are_after q quote.is_quoted val) quote.is_new)

pub quoted_step : {p : Place} {v u w : List ℕ} → Reading p v u w → (name : List ℕ) (attrs : List Attr) (attr : List ℕ) (quote : ℕ) (value : List ℕ) (c : ℕ) → Part p (m.quoted name attrs attr quote value) u → Next (w ++ c ∷ []) (m.from_quoted p name attrs attr quote value c)
unfolding m.from_quoted
quoted_step {u = u} r name attrs attr quote value c (x, v, takes, part, val, e) =
    choose (c == quote) (λ h. stay r c (m.valued name (attrs ++ record { name = attr; value = value } ∷ [])) (takes, tag_further part val (u ++ c ∷ []) (literal (x ++ v) e (eqb-true c quote h))))
    (λ hq. choose (c == 38) (λ h. stay r c (m.quoted_reference name attrs attr quote value m.begun) (x, v, codes "&", takes, part, val, refl, literal (x ++ v) e (eqb-true c 38 h)))
    (λ h38. choose (c == 60) (λ _. stop)
    (λ h60. choose (is_char c) (λ h. stay r c (m.quoted name attrs attr quote (value ++ encode_utf8 (in_value c))) (x, v ++ c ∷ [], takes, part, Value.character val c h hq h38 h60, grown x v c e)) (λ _. stop))))

judged_quoted_step : {p : Place} {v u w : List ℕ} → Reading p v u w → (name : List ℕ) (attrs : List Attr) (attr : List ℕ) (quote : ℕ) (value : List ℕ) (c : ℕ) (x y z : List ℕ) → IsTrue (takes_element p) → QuotePart name attrs attr quote x → Value quote y value → u ≡ (x ++ y) ++ z → {j : m.Judged} → Judges (z ++ c ∷ []) j → Next (w ++ c ∷ []) (m.judged_quoted p name attrs attr quote value j)
judged_quoted_step r name attrs attr quote value c x y z takes part val e no = stop
judged_quoted_step r name attrs attr quote value c x y z takes part val e (on {r = s} refer) = stay r c (m.quoted_reference name attrs attr quote value s) (x, y, z ++ c ∷ [], takes, part, val, refer, grown (x ++ y) z c e)
judged_quoted_step r name attrs attr quote value c x y z takes part val e (yes {c = d} ref) = stay r c (m.quoted name attrs attr quote (value ++ encode_utf8 d)) (x, y ++ (z ++ c ∷ []), takes, part, Value.reference val ref, grown (x ++ y) z c e ∙ append_assoc x y (z ++ c ∷ []))

pub quoted_reference_step : {p : Place} {v u w : List ℕ} → Reading p v u w → (name : List ℕ) (attrs : List Attr) (attr : List ℕ) (quote : ℕ) (value : List ℕ) (s : Refer) (c : ℕ) → Part p (m.quoted_reference name attrs attr quote value s) u → Next (w ++ c ∷ []) (m.judged_quoted p name attrs attr quote value (m.refer s c))
quoted_reference_step r name attrs attr quote value s c (x, y, z, takes, part, val, refer, e) = judged_quoted_step r name attrs attr quote value c x y z takes part val e (refer_judged s c z refer)

pub slashed_step : {p : Place} {v u w : List ℕ} → Reading p v u w → (name : List ℕ) (attrs : List Attr) (c : ℕ) → Part p (m.slashed name attrs) u → Next (w ++ c ∷ []) (m.from_slashed p name attrs c)
unfolding m.from_slashed
slashed_step {v = v} r name attrs c (t, s, takes, tag, sp, e) =
    choose (c == 62) (λ h. done r c (at_same (at_child r.is_at takes (Element.empty tag sp)) (ap (λ z. v ++ z) (sym (literal ((t ++ s) ++ codes "/") e (eqb-true c 62 h) ∙ append_assoc (t ++ s) (codes "/") (codes ">")))))) (λ _. stop)
