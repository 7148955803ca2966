-- What the fields of a reader tell of the state that it stands for.
use Rattle.std.proofs.Common.{◌≡◌, ℕ, suc, ◌+◌, ◌<◌, ◌≤◌, ◌⊎◌, Bool, true, false, ◌||◌, not, cond, List, [], ◌∷◌, ◌++◌, length, get_or, drop, map, Option, None, refl, sym, ◌∙◌, ap, arith}
use Rattle.std.proofs.lemmas.List.{at_drop_more, at_drop_all, length-drop}
use Rattle.std.proofs.lemmas.Str.{drop_past_char}
use Rattle.std.proofs.lemmas.Bool.Decides.{nat_tests}
use Rattle.std.proofs.lemmas.Bool.{eqb-true, eq-eqb}
use Rattle.std.specs.Int.{IsInRange}
use Rattle.std.specs.Char.{len_utf8}
use Rattle.std.specs.List.{starts_with}
use Rattle.ft_base.specs.Characters.{is_char}
use Rattle.doc_grammar.proofs.Bytes.{starts_with-true}
use Rattle.std.proofs.Math.Dec.{eqb-suc-zero, eqb-suc-suc}
use Rattle.std.specs.Prelude.{fold, ◌==◌, ◌&&◌, is_some, string_bytes, nat_eq, encode_utf8}
use Rattle.std.proofs.lemmas.List.Sums.{fold-append}
use Rattle.plain_tree.specs.Document.{Node}
use Rattle.plain_tree.specs.View.{node}
use Rattle.plain_tree.specs.declared.tree.Tree.TheVariants.{Text}
use Rattle.plain_tree.proofs.Views.{node_text}
use Rattle.std.proofs.lemmas.List.{map-append}
use Rattle.ft_base.specs.Lists.{is_empty}
use Rattle.doc_grammar.specs.Grammar.{text_node}
use Rattle.plain_tree.specs.declared.tree.Tree.{Tree}
use Rattle.plain_tree.specs.declared.tree.Attr.{Attr}
use Rattle.doc_grammar.specs.Limits.{depth}
use Rattle.doc_grammar.specs.steps.Machine as m
use Rattle.doc_grammar.specs.steps.Machine.{Outer, Place, is_content}
use Rattle.doc_profile.specs.steps.View.{level_on, outer_of}
use Rattle.doc_profile.specs.declared.reader.Level.{Level}

content_stays : (o : Outer) (ls : List Level) → is_content o ≡ true → is_content (fold level_on o ls) ≡ true
content_stays o [] h = h
content_stays o (l ∷ ls) h = content_stays (level_on o l) ls refl

-- characters may stand in a fragment, and in an open element
pub content_is : (fragment : Bool) (ls : List Level) → is_content (outer_of fragment ls) ≡ (fragment || not (length ls == 0))
content_is true ls = content_stays m.fragment ls refl
content_is false [] = refl
content_is false (l ∷ ls) = content_stays (level_on m.document l) ls refl ∙ ap not (sym (eqb-suc-zero (length ls)))

-- an element more is open
pub outer_push : (fragment : Bool) (ls : List Level) (l : Level) → outer_of fragment (ls ++ l ∷ []) ≡ level_on (outer_of fragment ls) l
outer_push fragment ls l = fold-append level_on _ ls (l ∷ [])

pub none_is : (ts : List Tree) → m.is_none (map node ts) ≡ (length ts == 0)
none_is [] = refl
none_is (t ∷ ts) = sym (eqb-suc-zero (length ts))

pub end_name_left : (p : Place) (left : List ℕ) (c : ℕ) → 0 < length left → m.from_end_name p left c ≡ m.from_end_left p left c
unfolding m.from_end_name
end_name_left p [] c h = absurd (omega arith)
end_name_left p (b ∷ bytes) c h = refl

-- a number that is no character's isn't that of a Char
pub out_of_range : (n : ℕ) → (IsInRange 0xD800 0xDFFF n ⊎ (0x11_0000 ≤ n)) → is_char n ≡ false
unfolding is_char
out_of_range n h = grind (arith, nat_tests)

-- the next character of a named reference
pub named_further : (s : List ℕ) (read x c : ℕ) → read < length s → m.refer (m.named (drop read s) x) c ≡ cond (c == get_or s read 0) (m.name_left (drop (read + 1) s) x) m.refused
unfolding m.refer
named_further s read x c h = at_drop_more (λ z. m.refer (m.named z x) c) s read 0 h

pub named_over : (s : List ℕ) (read x c : ℕ) → length s ≤ read → m.refer (m.named (drop read s) x) c ≡ m.refused
unfolding m.refer
named_over s read x c h = at_drop_all (λ z. m.refer (m.named z x) c) s read h

pub name_goes_on : (s : List ℕ) (read x : ℕ) → read < length s → m.name_left (drop read s) x ≡ m.going (m.named (drop read s) x)
name_goes_on s read x h = at_drop_more (λ z. m.name_left z x) s read 0 h ∙ sym (at_drop_more (λ z. m.going (m.named z x)) s read 0 h)

pub name_ends : (s : List ℕ) (read x : ℕ) → length s ≤ read → m.name_left (drop read s) x ≡ m.gives x
name_ends s read x h = at_drop_all (λ z. m.name_left z x) s read h

pub end_name_over : (p : Place) (name : List ℕ) (read c : ℕ) → length name ≤ read → m.from_end_name p (drop read name) c ≡ m.from_end_spaced p c
unfolding m.from_end_name
end_name_over p name read c h = at_drop_all (λ z. m.from_end_name p z c) name read h

-- in the name of an end tag
pub end_name_further : (p : Place) (name : List ℕ) (read c : ℕ) → read < length name → starts_with nat_eq (drop read name) (encode_utf8 c) ≡ true → m.from_end_name p (drop read name) c ≡ m.at p (m.end_name (drop (read + len_utf8 c) name))
end_name_further p name read c h s =
    end_name_left p (drop read name) c (omega (arith, length-drop read name))
    ∙ ap (λ b. cond b (m.at p (m.end_name (drop (length (encode_utf8 c)) (drop read name)))) None) s
    ∙ ap (λ z. m.at p (m.end_name z)) (sym (drop_past_char name (drop (length (encode_utf8 c)) (drop read name)) read c (sym (starts_with-true (drop read name) (encode_utf8 c) s))))

pub end_name_differs : (p : Place) (name : List ℕ) (read c : ℕ) → read < length name → starts_with nat_eq (drop read name) (encode_utf8 c) ≡ false → m.from_end_name p (drop read name) c ≡ None
end_name_differs p name read c h s =
    end_name_left p (drop read name) c (omega (arith, length-drop read name))
    ∙ ap (λ b. cond b (m.at p (m.end_name (drop (length (encode_utf8 c)) (drop read name)))) None) s

-- the same, where the name is read as t
pub named_refused_over : (t s : List ℕ) (read x c : ℕ) → t ≡ s → length t ≤ read → m.refused ≡ m.refer (m.named (drop read s) x) c
named_refused_over t s read x c e h = sym (named_over s read x c (omega (arith, ap length e)))

pub named_refused : (t s : List ℕ) (read x c : ℕ) → t ≡ s → read < length t → (get_or t read 0 ≡ c → ⊥) → m.refused ≡ m.refer (m.named (drop read s) x) c
named_refused t s read x c e h n = sym (named_further s read x c (omega (arith, ap length e)) ∙ ap (λ b. cond b (m.name_left (drop (read + 1) s) x) m.refused) (go (c == get_or s read 0) refl))
  where
    go : (b : Bool) → (c == get_or s read 0) ≡ b → (c == get_or s read 0) ≡ false
    go false f = f
    go true f = absurd (n (ap (λ z. get_or z read 0) e ∙ sym (eqb-true c (get_or s read 0) f)))

named_taken : (t s : List ℕ) (read x c : ℕ) → t ≡ s → read < length t → get_or t read 0 ≡ c → m.refer (m.named (drop read s) x) c ≡ m.name_left (drop (read + 1) s) x
named_taken t s read x c e h k = named_further s read x c (omega (arith, ap length e)) ∙ ap (λ b. cond b (m.name_left (drop (read + 1) s) x) m.refused) (eq-eqb c (get_or s read 0) (sym k ∙ ap (λ z. get_or z read 0) e))

pub named_gives : (t s : List ℕ) (read x y c : ℕ) → t ≡ s → read < length t → get_or t read 0 ≡ c → read + 1 ≡ length t → y ≡ x → m.gives y ≡ m.refer (m.named (drop read s) x) c
named_gives t s read x y c e h k last f = ap m.gives f ∙ sym (named_taken t s read x c e h k ∙ name_ends s (read + 1) x (omega (arith, ap length e)))

pub named_going : (t s : List ℕ) (read x c : ℕ) → t ≡ s → read < length t → get_or t read 0 ≡ c → (read + 1 ≡ length t → ⊥) → m.going (m.named (drop (read + 1) s) x) ≡ m.refer (m.named (drop read s) x) c
named_going t s read x c e h k n = sym (named_taken t s read x c e h k ∙ name_goes_on s (read + 1) x (omega (arith, ap length e, n)))

pub text_some : (ts : List Tree) (bytes : List ℕ) → 0 < length bytes → map node (ts ++ Text bytes ∷ []) ≡ map node ts ++ text_node bytes
text_some ts [] h = absurd (omega arith)
text_some ts (b ∷ bytes) h = map-append node ts (Text (b ∷ bytes) ∷ []) ∙ ap (λ z. map node ts ++ z ∷ []) (node_text (b ∷ bytes))

-- where a text may end
level_unfinished : (ls : List Level) (name : List ℕ) (attrs : List Attr) (ks : List Node) (t : List ℕ) (o : Outer) (kids : List Node) (text : List ℕ) → m.finished_in (fold level_on (m.level name attrs ks t o) ls) kids text ≡ None
level_unfinished [] name attrs ks t o kids text = refl
level_unfinished (l ∷ ls) name attrs ks t o kids text = level_unfinished ls (string_bytes l.name) l.attrs.items (map node l.kids.items) (string_bytes l.text) (m.level name attrs ks t o) kids text

one_kid : (ts : List Tree) (text : List ℕ) → is_some (m.finished_in m.document (map node ts) text) ≡ (length ts == 1)
one_kid [] text = refl
one_kid (t ∷ []) text = refl
one_kid (t ∷ u ∷ ts) text = sym (eqb-suc-suc (suc (length ts)) 0 ∙ eqb-suc-zero (length ts))

pub finished_is : (fragment : Bool) (ls : List Level) (ts : List Tree) (text : List ℕ) → is_some (m.finished_in (outer_of fragment ls) (map node ts) text) ≡ ((length ls == 0) && (fragment || (length ts == 1)))
finished_is true [] ts text = refl
finished_is false [] ts text = one_kid ts text
finished_is true (l ∷ ls) ts text = ap is_some (level_unfinished ls (string_bytes l.name) l.attrs.items (map node l.kids.items) (string_bytes l.text) m.fragment (map node ts) text) ∙ ap (λ b. b && true) (sym (eqb-suc-zero (length ls)))
finished_is false (l ∷ ls) ts text = ap is_some (level_unfinished ls (string_bytes l.name) l.attrs.items (map node l.kids.items) (string_bytes l.text) m.document (map node ts) text) ∙ ap (λ b. b && (length ts == 1)) (sym (eqb-suc-zero (length ls)))

none_if : (b : Bool) (x : Option (List Node)) → is_some x ≡ false → is_some (cond b x None) ≡ false
none_if true x h = h
none_if false x h = refl

-- an open element is still to be ended
pub level_open : (fragment : Bool) (ls : List Level) (ts : List Tree) (text : List ℕ) (phase : m.Phase) → (length ls == 0) ≡ false → is_some (m.finished (record { place = record { kids = map node ts; text = text; outer = outer_of fragment ls }; phase = phase })) ≡ false
level_open fragment ls ts text phase h = none_if (m.is_ready phase) (m.finished_in (outer_of fragment ls) (map node ts) text) (finished_is fragment ls ts text ∙ ap (λ b. b && (fragment || (length ts == 1))) h)

-- the only node of a document
pub popped : (rest : List Tree) (t : Tree) (n : Node) → map node (rest ++ t ∷ []) ≡ n ∷ [] → node t ≡ n
popped [] t n e = cc
popped (r ∷ []) t n e = cc
popped (r ∷ s ∷ rest) t n e = cc

depth_on : (o : Outer) (ls : List Level) → depth (fold level_on o ls) ≡ depth o + length ls
depth_on o [] = omega arith
depth_on o (l ∷ ls) = omega (arith, depth_on (level_on o l) ls)

-- as many elements are open as levels
pub depth_is : (fragment : Bool) (ls : List Level) → depth (outer_of fragment ls) ≡ length ls
depth_is true ls = omega (arith, depth_on m.fragment ls)
depth_is false ls = omega (arith, depth_on m.document ls)

pub empty_is : (bytes : List ℕ) → is_empty bytes ≡ (length bytes == 0)
empty_is [] = refl
empty_is (b ∷ bytes) = sym (eqb-suc-zero (length bytes))
