-- Each step of the machine keeps what a state has read spelled by the grammar.
use Rattle.std.proofs.Common.{◌≡◌, ℕ, ◌+◌, ◌*◌, ◌≤◌, Bool, true, false, ◌&&◌, cond, List, [], ◌∷◌, ◌++◌, length, drop, Option, refl, sym, ◌∙◌, ap, subst, append_assoc, arith}
use Rattle.std.proofs.lemmas.List.{append-nil}
use Rattle.std.proofs.lemmas.Bool.{eqb-true, leb-true, ltb-true, and_parts}
use Rattle.std.proofs.lemmas.Str.{encodes-append}
use Rattle.std.specs.Prelude.{IsTrue, ◌==◌, codes, encode_utf8, encode_utf8_all, nat_le, nat_eq}
use Rattle.std.specs.List.{starts_with}
use Rattle.std.specs.Char.{digit_value}
use Rattle.plain_tree.specs.Document.{Node}
use Rattle.ft_base.specs.Characters.{is_char, is_space, is_name_start}
use Rattle.doc_grammar.specs.Grammar as g
use Rattle.doc_grammar.specs.Grammar.{is_digit, one_dash_more, in_value, is_quote, has_name, text_node, Name, Spaces, Digits, Reference, Remark, Instruction, Skipped, Misc, Value, Attribute, Tag, Element, Content}
use Rattle.doc_grammar.specs.steps.Machine as m
use Rattle.doc_grammar.specs.steps.Machine.{Outer, document, fragment, level, Place, Refer, Phase, State, Judged, takes_element, is_content, with_text, with_node, entered, base}
use Rattle.doc_grammar.proofs.Bytes.{starts_with-true}
use Rattle.doc_grammar.proofs.Spelled.{opening, no_return, ReferPart, EndPart, Part, Next, stop, go}
use Rattle.doc_grammar.specs.Opened.{At}
use Rattle.doc_grammar.proofs.Moves.{at_same, at_grown, at_skipped, at_space, at_left}

pub choose : {w : List ℕ} {x y : Option State} (b : Bool) → (b ≡ true → Next w x) → (b ≡ false → Next w y) → Next w (cond b x y)
choose true f h = f refl
choose false f h = h refl

-- the text w is whole items v, which make the place, and the part u
pub record Reading (p : Place) (v u w : List ℕ) : Type 0 where
  pub is_at : At v p
  pub spelled : w ≡ v ++ u

-- the part under way goes on, at the same place
pub stay : {p : Place} {v u w : List ℕ} → Reading p v u w → (c : ℕ) (phase : Phase) → Part p phase (u ++ c ∷ []) → Next (w ++ c ∷ []) (m.at p phase)
stay {v = v} {u = u} r c phase part = go (record { prefix = v; part = u ++ c ∷ []; is_at = r.is_at; is_part = part; spelled = ap (λ x. x ++ c ∷ []) r.spelled ∙ append_assoc v u (c ∷ []) })

-- the part under way is an item now
pub done : {p q : Place} {v u w : List ℕ} → Reading p v u w → (c : ℕ) → At (v ++ (u ++ c ∷ [])) q → Next (w ++ c ∷ []) (m.at q m.ready)
done {v = v} {u = u} {w = w} r c a = go (record { prefix = w ++ c ∷ []; part = []; is_at = at_same a (sym (ap (λ x. x ++ c ∷ []) r.spelled ∙ append_assoc v u (c ∷ []))); is_part = refl; spelled = sym (append-nil (w ++ c ∷ [])) })

-- one more character of a part
pub grown : (f x : List ℕ) {u : List ℕ} (c : ℕ) → u ≡ f ++ x → u ++ c ∷ [] ≡ f ++ (x ++ c ∷ [])
grown f x c e = ap (λ z. z ++ c ∷ []) e ∙ append_assoc f x (c ∷ [])

-- a part that is a literal, with one known character more
pub literal : (f : List ℕ) {u : List ℕ} {c k : ℕ} → u ≡ f → c ≡ k → u ++ c ∷ [] ≡ f ++ k ∷ []
literal f {c = c} e h = ap (λ x. x ++ c ∷ []) e ∙ ap (λ x. f ++ x ∷ []) h

pub only_step : {p : Place} {v u w : List ℕ} → Reading p v u w → (k c : ℕ) (phase : Phase) → (c ≡ k → Part p phase (u ++ c ∷ [])) → Next (w ++ c ∷ []) (m.only k c p phase)
only_step r k c phase part = choose (c == k) (λ h. stay r c phase (part (eqb-true c k h))) (λ _. stop)

pub ready_step : {p : Place} {v u w : List ℕ} → Reading p v u w → (c : ℕ) → u ≡ [] → Next (w ++ c ∷ []) (m.from_ready p c)
unfolding m.from_ready
ready_step {p = p} {v = v} r c part =
    choose (c == 60) (λ h. stay r c m.opened (literal [] part (eqb-true c 60 h)))
    (λ h60. choose (is_content p.outer)
    (λ h. choose (c == 38) (λ h38. stay r c (m.reference m.begun) (h, literal [] part (eqb-true c 38 h38)))
    (λ h38. choose (is_char c) (λ hc. done r c (at_same (at_grown r.is_at h (c ∷ []) _ _ (λ z x. g.Content.character x c hc h60 h38)) (ap (λ x. v ++ (x ++ c ∷ [])) (sym part)))) (λ _. stop)))
    (λ h. choose (is_space c) (λ hs. done r c (at_same (at_space r.is_at h c hs) (ap (λ x. v ++ (x ++ c ∷ [])) (sym part)))) (λ _. stop)))

end_tag_step : (kids : List Node) (text : List ℕ) (o : Outer) {v u w : List ℕ} → Reading (record { kids = kids; text = text; outer = o }) v u w → (c : ℕ) → u ≡ codes "<" → c ≡ 47 → Next (w ++ c ∷ []) (m.end_tag (record { kids = kids; text = text; outer = o }) o)
end_tag_step kids text document r c part h = stop
end_tag_step kids text fragment r c part h = stop
end_tag_step kids text (level name attrs k t o) r c part h = stay r c (m.end_name name) ([], refl, literal (60 ∷ []) part h)

pub opened_step : {p : Place} {v u w : List ℕ} → Reading p v u w → (c : ℕ) → u ≡ codes "<" → Next (w ++ c ∷ []) (m.from_opened p c)
unfolding m.from_opened
opened_step {p = p} r c part =
    choose (c == 33) (λ h. stay r c m.bang (literal (60 ∷ []) part (eqb-true c 33 h)))
    (λ _. choose (c == 63) (λ h. stay r c (m.instruction false) ([], g.Instruction.nothing, literal (60 ∷ []) part (eqb-true c 63 h)))
    (λ _. choose (c == 47) (λ h. end_tag_step p.kids p.text p.outer r c part (eqb-true c 47 h))
    (λ _. choose (is_name_start c && takes_element p) (λ h. let two = and_parts _ _ h in stay r c (m.start_name (encode_utf8 c)) (c ∷ [], two.1, g.Name.first c two.0, ap (λ x. x ++ c ∷ []) part)) (λ _. stop))))

pub comment_step : {p : Place} {v u w : List ℕ} → Reading p v u w → (n c : ℕ) → Part p (m.comment n) u → Next (w ++ c ∷ []) (m.from_comment p n c)
unfolding m.from_comment
comment_step {p = p} {v = v} r n c (x, rem, e) =
    choose (c == 45) (λ h. stay r c (m.comment (one_dash_more n)) (x ++ 45 ∷ [], g.Remark.dash rem, grown (codes "<!--") x c e ∙ ap (λ z. codes "<!--" ++ (x ++ z ∷ [])) (eqb-true c 45 h)))
    (λ h45. choose ((c == 62) && (n == 2)) (λ h. let two = and_parts _ _ h in
    done r c (at_same (at_skipped r.is_at (g.Skipped.comment (subst (λ k. Remark k x) (eqb-true n 2 two.1) rem))) (ap (λ z. v ++ z) (sym (literal (codes "<!--" ++ x) e (eqb-true c 62 two.0))))))
    (λ h. choose (is_char c) (λ hc. stay r c (m.comment 0) (x ++ c ∷ [], g.Remark.other rem c hc h45 h, grown (codes "<!--") x c e)) (λ _. stop)))

pub instruction_step : {p : Place} {v u w : List ℕ} → Reading p v u w → (b : Bool) (c : ℕ) → Part p (m.instruction b) u → Next (w ++ c ∷ []) (m.from_instruction p b c)
unfolding m.from_instruction
instruction_step {p = p} {v = v} r b c (x, ins, e) =
    choose (c == 63) (λ h. stay r c (m.instruction true) (x ++ 63 ∷ [], g.Instruction.mark ins, grown (codes "<?") x c e ∙ ap (λ z. codes "<?" ++ (x ++ z ∷ [])) (eqb-true c 63 h)))
    (λ h63. choose ((c == 62) && b) (λ h. let two = and_parts _ _ h in
    done r c (at_same (at_skipped r.is_at (g.Skipped.instruction (subst (λ k. Instruction k x) two.1 ins))) (ap (λ z. v ++ z) (sym (literal (codes "<?" ++ x) e (eqb-true c 62 two.0))))))
    (λ h. choose (is_char c) (λ hc. stay r c (m.instruction false) (x ++ c ∷ [], g.Instruction.other ins c hc h63 h, grown (codes "<?") x c e)) (λ _. stop)))

-- what a judgement says of the characters read
pub data Judges (u : List ℕ) : Judged → Type 0 where
  no : Judges u m.refused
  on : {r : Refer} → ReferPart r u → Judges u (m.going r)
  yes : {c : ℕ} → Reference u c → Judges u (m.gives c)

judge : {u : List ℕ} {x y : Judged} (b : Bool) → (b ≡ true → Judges u x) → (b ≡ false → Judges u y) → Judges u (cond b x y)
judge true f h = f refl
judge false f h = h refl

-- a named reference of which all but ds is read
name_begun : {u : List ℕ} (f : List ℕ) (c k d : ℕ) (ds : List ℕ) (x : ℕ) → u ≡ f → c ≡ k → Reference ((f ++ k ∷ []) ++ d ∷ ds) x → no_return (d ∷ ds) ≡ true → Judges (u ++ c ∷ []) (m.going (m.named (d ∷ ds) x))
name_begun f c k d ds x e h ref plain = on (subst (λ z. Reference (z ++ d ∷ ds) x) (sym (literal f e h)) ref, plain)

name_judged : (u ds : List ℕ) (c d x : ℕ) → c ≡ d → Reference (u ++ d ∷ ds) x → no_return ds ≡ true → Judges (u ++ c ∷ []) (m.name_left ds x)
name_judged u [] c d x h ref plain = yes (subst (λ z. Reference (u ++ z ∷ []) x) (sym h) ref)
name_judged u (b ∷ ds) c d x h ref plain = on (subst (λ z. Reference z x) (ap (λ z. u ++ z ∷ b ∷ ds) (sym h) ∙ sym (append_assoc u (c ∷ []) (b ∷ ds))) ref, plain)

named_judged : (u ds : List ℕ) (c x : ℕ) → ReferPart (m.named ds x) u → Judges (u ++ c ∷ []) (m.refer_named ds x c)
named_judged u [] c x part = no
named_judged u (d ∷ ds) c x (ref, plain) = judge (c == d) (λ h. name_judged u ds c d x (eqb-true c d h) ref (and_parts _ _ plain).1) (λ _. no)

base_le : (b : Bool) → base b ≤ 16
base_le true = omega arith
base_le false = omega arith

digit_le : (b : Bool) (c : ℕ) → is_digit (base b) c ≡ true → digit_value c ≤ 0x10_FFFF
digit_le b c h = omega (arith, ltb-true (digit_value c) (base b) h, base_le b)

first_judged : {u : List ℕ} (b : Bool) (c : ℕ) → u ≡ opening b → Judges (u ++ c ∷ []) (m.refer_first b c)
first_judged b c e = judge (is_digit (base b) c) (λ h. on (c ∷ [], Digits.one c h, digit_le b c h, ap (λ z. z ++ c ∷ []) e)) (λ _. no)

numeric : (b : Bool) (ds : List ℕ) (n : ℕ) → Digits (base b) ds n → IsTrue (is_char n) → Reference ((opening b ++ ds) ++ codes ";") n
numeric true ds n d h = g.Reference.hexadecimal d h
numeric false ds n d h = g.Reference.decimal d h

digits_judged : (b : Bool) (n c : ℕ) (u : List ℕ) → ReferPart (m.digits b n) u → Judges (u ++ c ∷ []) (m.refer_digits b n c)
digits_judged b n c u (ds, is_digits, le, e) =
    judge (c == 59) (λ h. judge (is_char n) (λ hc. yes (subst (λ z. Reference z n) (sym (literal (opening b ++ ds) e (eqb-true c 59 h))) (numeric b ds n is_digits hc))) (λ _. no))
    (λ _. judge (is_digit (base b) c) (λ h. judge (nat_le (n * base b + digit_value c) 0x10_FFFF)
    (λ small. on (ds ++ c ∷ [], Digits.more is_digits c h, leb-true _ _ small, grown (opening b) ds c e)) (λ _. no)) (λ _. no))

pub refer_judged : (r : Refer) (c : ℕ) (u : List ℕ) → ReferPart r u → Judges (u ++ c ∷ []) (m.refer r c)
unfolding m.refer
refer_judged m.begun c u e =
    judge (c == 108) (λ h. name_begun (codes "&") c 108 116 (codes ";") 60 e (eqb-true c 108 h) g.Reference.less refl)
    (λ _. judge (c == 103) (λ h. name_begun (codes "&") c 103 116 (codes ";") 62 e (eqb-true c 103 h) g.Reference.greater refl)
    (λ _. judge (c == 113) (λ h. name_begun (codes "&") c 113 117 (codes "ot;") 34 e (eqb-true c 113 h) g.Reference.quotation refl)
    (λ _. judge (c == 97) (λ h. on (literal (codes "&") e (eqb-true c 97 h)))
    (λ _. judge (c == 35) (λ h. on (literal (codes "&") e (eqb-true c 35 h))) (λ _. no)))))
refer_judged m.begun_a c u e =
    judge (c == 109) (λ h. name_begun (codes "&a") c 109 112 (codes ";") 38 e (eqb-true c 109 h) g.Reference.ampersand refl)
    (λ _. judge (c == 112) (λ h. name_begun (codes "&a") c 112 111 (codes "s;") 39 e (eqb-true c 112 h) g.Reference.apostrophe refl) (λ _. no))
refer_judged (m.named ds x) c u part = named_judged u ds c x part
refer_judged m.numbered c u e = judge (c == 120) (λ h. on (literal (codes "&#") e (eqb-true c 120 h))) (λ _. first_judged false c e)
refer_judged m.hexed c u e = first_judged true c e
refer_judged (m.digits b n) c u part = digits_judged b n c u part

judged_step : {p : Place} {v u w : List ℕ} → Reading p v u w → (c : ℕ) → IsTrue (is_content p.outer) → {j : Judged} → Judges (u ++ c ∷ []) j → Next (w ++ c ∷ []) (m.judged p j)
judged_step r c h no = stop
judged_step r c h (on {r = s} part) = stay r c (m.reference s) (h, part)
judged_step r c h (yes ref) = done r c (at_grown r.is_at h _ _ _ (λ z x. g.Content.reference x ref))

pub reference_step : {p : Place} {v u w : List ℕ} → Reading p v u w → (s : Refer) (c : ℕ) → Part p (m.reference s) u → Next (w ++ c ∷ []) (m.judged p (m.refer s c))
reference_step {u = u} r s c (h, part) = judged_step r c h (refer_judged s c u part)

-- an end tag
pub end_spaced_step : {p : Place} {v u w : List ℕ} → Reading p v u w → (c : ℕ) → Part p m.end_spaced u → Next (w ++ c ∷ []) (m.from_end_spaced p c)
unfolding m.from_end_spaced
end_spaced_step {p = p} {v = v} {w = w} r c (cs, s, end, sp, e) =
    choose (c == 62) (λ h. at_left r.is_at cs s end sp (w ++ c ∷ []) (ap (λ z. z ++ c ∷ []) (r.spelled ∙ ap (λ z. v ++ z) e) ∙ append_assoc v ((codes "</" ++ cs) ++ s) (c ∷ []) ∙ ap (λ z. v ++ (((codes "</" ++ cs) ++ s) ++ z ∷ [])) (eqb-true c 62 h)))
    (λ _. choose (is_space c) (λ h. stay r c m.end_spaced (cs, s ++ c ∷ [], end, Spaces.space sp c h, grown (codes "</" ++ cs) s c e)) (λ _. stop))

encodes_last : (c : ℕ) → encode_utf8_all (c ∷ []) ≡ encode_utf8 c
encodes_last c = append-nil (encode_utf8 c)

end_part_further : (o : Outer) (cs bytes : List ℕ) (c : ℕ) → EndPart o cs bytes → starts_with nat_eq bytes (encode_utf8 c) ≡ true → EndPart o (cs ++ c ∷ []) (drop (length (encode_utf8 c)) bytes)
end_part_further document cs bytes c e h = e
end_part_further fragment cs bytes c e h = e
end_part_further (level name attrs kids text o) cs bytes c e h =
    ap (λ z. z ++ drop (length (encode_utf8 c)) bytes) (encodes-append cs (c ∷ []) ∙ ap (λ z. encode_utf8_all cs ++ z) (encodes_last c))
    ∙ append_assoc (encode_utf8_all cs) (encode_utf8 c) (drop (length (encode_utf8 c)) bytes) ∙ ap (λ z. encode_utf8_all cs ++ z) (starts_with-true bytes (encode_utf8 c) h) ∙ e

pub end_name_step : {p : Place} {v u w : List ℕ} → Reading p v u w → (bytes : List ℕ) (c : ℕ) → Part p (m.end_name bytes) u → Next (w ++ c ∷ []) (m.from_end_name p bytes c)
unfolding m.from_end_name
end_name_step r [] c (cs, end, e) = end_spaced_step r c (cs, [], end, Spaces.nothing, e ∙ sym (append-nil (codes "</" ++ cs)))
end_name_step {p = p} r (b ∷ bytes) c (cs, end, e) = choose (starts_with nat_eq (b ∷ bytes) (encode_utf8 c))
    (λ h. stay r c (m.end_name (drop (length (encode_utf8 c)) (b ∷ bytes))) (cs ++ c ∷ [], end_part_further p.outer cs (b ∷ bytes) c end h, grown (codes "</") cs c e)) (λ _. stop)
