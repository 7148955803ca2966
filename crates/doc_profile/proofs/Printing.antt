-- Printed bytes, added one piece after the other.
use Rattle.std.proofs.Common.{◌≡◌, ℕ, ◌+◌, ◌<◌, ◌≤◌, List, [], ◌∷◌, ◌++◌, length, map, drop, get_or, codes, refl, sym, ◌∙◌, ap, append_assoc, arith}
use Rattle.std.proofs.lemmas.List.{append-nil, nil_from_length, drop_more, drop_all}
use Rattle.std.proofs.lemmas.Str.{encode_ascii, encodes-append, encodes-chars, encodes_same, cons_from_encodes}
use Rattle.std.specs.Prelude.{true, nat_lt, encode_utf8, encode_utf8_all}
use Rattle.std.specs.List.{flat_map, list_all}
use Rattle.plain_tree.specs.Document.{element, nodes}
use Rattle.plain_tree.specs.View.{node}
use Rattle.plain_tree.specs.declared.tree.Attr.{Attr}
use Rattle.plain_tree.specs.declared.tree.Tree.{Tree}
use Rattle.doc_grammar.specs.Printed.{printed, printed_all, printed_attributes}
use Rattle.std.specs.Str.{chars, IsUtf8}
use Rattle.std.proofs.lemmas.Bool.{and_parts, ltb-true}

-- characters, of which some are written and some are left
pub record Escapes (escape : ℕ → List ℕ) (out rest all : List ℕ) : Type 0 where
  pub left : List ℕ
  pub spelled : encode_utf8_all left ≡ rest
  pub same : out ++ encode_utf8_all (flat_map escape left) ≡ all

pub escapes_all : (escape : ℕ → List ℕ) (out text : List ℕ) → IsUtf8 text → Escapes escape out text (out ++ encode_utf8_all (flat_map escape (chars text)))
escapes_all escape out text u = record { left = chars text; spelled = encodes-chars text u; same = refl }

pub escapes_further : (escape : ℕ → List ℕ) (out more rest suffix all : List ℕ) (c : ℕ) → Escapes escape out rest all → rest ≡ encode_utf8 c ++ suffix → more ≡ out ++ encode_utf8_all (escape c) → Escapes escape more suffix all
escapes_further escape out more rest suffix all c e next w =
    let cons = cons_from_encodes e.left suffix c (e.spelled ∙ next) in
    record {
      left = cons.0;
      spelled = cons.2;
      same = ap (λ z. z ++ encode_utf8_all (flat_map escape cons.0)) w
          ∙ append_assoc out (encode_utf8_all (escape c)) (encode_utf8_all (flat_map escape cons.0))
          ∙ ap (λ z. out ++ z) (sym (encodes-append (escape c) (flat_map escape cons.0)))
          ∙ ap (λ z. out ++ encode_utf8_all (flat_map escape z)) (sym cons.1)
          ∙ e.same;
    }

pub escapes_end : (escape : ℕ → List ℕ) (out rest all : List ℕ) → Escapes escape out rest all → length rest ≡ 0 → out ≡ all
escapes_end escape out rest all e none =
    let nothing = encodes_same e.left [] (e.spelled ∙ nil_from_length rest none) in
    sym (append-nil out) ∙ ap (λ z. out ++ encode_utf8_all (flat_map escape z)) (sym nothing) ∙ e.same

-- what is written after all that stood there: as characters, and by one more piece
pub record Put (all u out : List ℕ) : Type 0 where
  pub is : out ≡ all ++ encode_utf8_all u

pub put_none : (out : List ℕ) → Put out [] out
put_none out = record { is = sym (append-nil out) }

pub put_more : {all out u : List ℕ} (more v : List ℕ) → Put all u out → more ≡ out ++ encode_utf8_all v → Put all (u ++ v) more
put_more {all = all} {out = out} {u = u} more v p f = record {
  is = f ∙ ap (λ z. z ++ encode_utf8_all v) p.is ∙ append_assoc all (encode_utf8_all u) (encode_utf8_all v) ∙ ap (λ z. all ++ z) (sym (encodes-append u v));
}

pub put_char : {all out u : List ℕ} (more : List ℕ) (c : ℕ) → Put all u out → more ≡ out ++ encode_utf8 c → Put all (u ++ c ∷ []) more
put_char {out = out} more c p f = put_more more (c ∷ []) p (f ∙ ap (λ z. out ++ z) (sym (append-nil (encode_utf8 c))))

word_bytes : (cs : List ℕ) → list_all (λ c. nat_lt c 128) cs ≡ true → encode_utf8_all cs ≡ cs
word_bytes [] h = refl
word_bytes (c ∷ cs) h = let two = and_parts _ _ h in ap (λ z. z ++ encode_utf8_all cs) (encode_ascii c (ltb-true c 128 two.0)) ∙ ap (λ z. c ∷ z) (word_bytes cs two.1)

pub put_word : {all out u : List ℕ} (more cs : List ℕ) → list_all (λ c. nat_lt c 128) cs ≡ true → Put all u out → more ≡ out ++ cs → Put all (u ++ cs) more
put_word {out = out} more cs h p f = put_more more cs p (f ∙ ap (λ z. out ++ z) (sym (word_bytes cs h)))

pub put_name : {all out u : List ℕ} (more name : List ℕ) → IsUtf8 name → Put all u out → more ≡ out ++ name → Put all (u ++ chars name) more
put_name {out = out} more name h p f = put_more more (chars name) p (f ∙ ap (λ z. out ++ z) (sym (encodes-chars name h)))

-- the same characters, in another grouping
pub put_as : {all out u : List ℕ} (v : List ℕ) → Put all u out → u ≡ v → out ≡ all ++ encode_utf8_all v
put_as {all = all} v p e = p.is ∙ ap (λ z. all ++ encode_utf8_all z) e

-- the next of several is written
pub next_written : {X : Type 0} (f : X → List ℕ) (xs : List X) (i : ℕ) (x : X) (out more all : List ℕ) → i < length xs → x ≡ get_or xs i x → out ++ encode_utf8_all (flat_map f (drop i xs)) ≡ all → more ≡ out ++ encode_utf8_all (f x)
    → more ++ encode_utf8_all (flat_map f (drop (i + 1) xs)) ≡ all
next_written f xs i x out more all h is e w =
    ap (λ z. z ++ encode_utf8_all (flat_map f (drop (i + 1) xs))) w
    ∙ append_assoc out (encode_utf8_all (f x)) (encode_utf8_all (flat_map f (drop (i + 1) xs)))
    ∙ ap (λ z. out ++ z) (sym (encodes-append (f x) (flat_map f (drop (i + 1) xs))))
    ∙ ap (λ z. out ++ encode_utf8_all (flat_map f (z ∷ drop (i + 1) xs))) is
    ∙ ap (λ z. out ++ encode_utf8_all (flat_map f z)) (sym (drop_more xs i x h))
    ∙ e

pub all_written : {X : Type 0} (f : X → List ℕ) (xs : List X) (i : ℕ) (out all : List ℕ) → length xs ≤ i → out ++ encode_utf8_all (flat_map f (drop i xs)) ≡ all → out ≡ all
all_written f xs i out all h e = sym (append-nil out) ∙ ap (λ z. out ++ encode_utf8_all (flat_map f z)) (sym (drop_all i xs h)) ∙ e

-- children
pub printed_kids : (ts : List Tree) → printed_all (nodes (map node ts)) ≡ flat_map (λ t. printed (node t)) ts
printed_kids [] = refl
printed_kids (t ∷ ts) = ap (λ z. printed (node t) ++ z) (printed_kids ts)

pub printed_empty : (name : List ℕ) (attrs : List Attr) (ts : List Tree) → length ts ≡ 0 → (((codes "<" ++ chars name) ++ printed_attributes attrs) ++ codes "/>") ≡ printed (element name attrs (nodes (map node ts)))
printed_empty name attrs [] h = refl
printed_empty name attrs (t ∷ ts) h = absurd (omega arith)

regrouped : (u v s t w : List ℕ) → (u ++ v) ++ ((s ++ t) ++ w) ≡ (((u ++ v) ++ s) ++ t) ++ w
regrouped u v s t w = simp append_assoc refl

pub printed_whole : (name : List ℕ) (attrs : List Attr) (ts : List Tree) → (length ts ≡ 0 → ⊥)
    → (((((codes "<" ++ chars name) ++ printed_attributes attrs) ++ codes ">") ++ printed_all (nodes (map node ts))) ++ ((codes "</" ++ chars name) ++ codes ">")) ≡ printed (element name attrs (nodes (map node ts)))
printed_whole name attrs [] h = absurd (h refl)
printed_whole name attrs (t ∷ ts) h = regrouped (((codes "<" ++ chars name) ++ printed_attributes attrs) ++ codes ">") (printed_all (nodes (map node (t ∷ ts)))) (codes "</") (chars name) (codes ">")
