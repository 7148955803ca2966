-- The grammar of documents: which texts, as characters with normalized line ends, spell which nodes.
-- It is XML 1.0 without document types, CDATA sections and namespaces; `]]>` may stand in content and `--` in a comment.
use Rattle.std.specs.Prelude.{◌≡◌, ℕ, ◌+◌, ◌*◌, Bool, true, false, ◌&&◌, ◌||◌, nat_eq, nat_lt, ◌==◌, List}
use Rattle.std.specs.Prelude.{[], ◌∷◌, ◌++◌, IsTrue, if◌then◌else◌, codes, encode_utf8, encode_utf8_all}
use Rattle.std.specs.List.{list_any}
use Rattle.std.specs.Cmp.Lexicographic.{pointwise}
use Rattle.std.specs.Char.{digit_value}
use Rattle.plain_tree.specs.Document.{Node, element, text, no_nodes, nodes}
use Rattle.plain_tree.specs.declared.tree.Attr.{Attr}
use Rattle.ft_base.specs.Characters.{is_char, is_space, is_name_start, is_name_char}

-- a name, and its bytes (production 5)
pub data Name : List ℕ → List ℕ → Type 0 where
  first : (c : ℕ) → IsTrue (is_name_start c) → Name (c ∷ []) (encode_utf8 c)
  further : {u bytes : List ℕ} → Name u bytes → (c : ℕ) → IsTrue (is_name_char c) → Name (u ++ c ∷ []) (bytes ++ encode_utf8 c)

-- white space, perhaps none
pub data Spaces : List ℕ → Type 0 where
  nothing : Spaces []
  space : {u : List ℕ} → Spaces u → (c : ℕ) → IsTrue (is_space c) → Spaces (u ++ c ∷ [])

-- digits of a base, and their number
abbrev pub is_digit : ℕ → ℕ → Bool
is_digit base c = nat_lt (digit_value c) base

pub data Digits (base : ℕ) : List ℕ → ℕ → Type 0 where
  one : (c : ℕ) → IsTrue (is_digit base c) → Digits base (c ∷ []) (digit_value c)
  more : {u : List ℕ} {n : ℕ} → Digits base u n → (c : ℕ) → IsTrue (is_digit base c) → Digits base (u ++ c ∷ []) (n * base + digit_value c)

-- a reference, and the character that it gives (productions 66 and 68)
pub data Reference : List ℕ → ℕ → Type 0 where
  less : Reference (codes "&lt;") 60
  greater : Reference (codes "&gt;") 62
  ampersand : Reference (codes "&amp;") 38
  quotation : Reference (codes "&quot;") 34
  apostrophe : Reference (codes "&apos;") 39
  decimal : {u : List ℕ} {n : ℕ} → Digits 10 u n → IsTrue (is_char n) → Reference ((codes "&#" ++ u) ++ codes ";") n
  hexadecimal : {u : List ℕ} {n : ℕ} → Digits 16 u n → IsTrue (is_char n) → Reference ((codes "&#x" ++ u) ++ codes ";") n

-- The text of a comment: characters without `-->`. The number is how many dashes stand at the end, two at most.
abbrev pub one_dash_more : ℕ → ℕ
one_dash_more n = if n == 0 then 1 else 2

pub data Remark : ℕ → List ℕ → Type 0 where
  nothing : Remark 0 []
  dash : {n : ℕ} {u : List ℕ} → Remark n u → Remark (one_dash_more n) (u ++ 45 ∷ [])
  other : {n : ℕ} {u : List ℕ} → Remark n u → (c : ℕ) → IsTrue (is_char c) → (c == 45) ≡ false → ((c == 62) && (n == 2)) ≡ false → Remark 0 (u ++ c ∷ [])

-- The text of a processing instruction: characters without `?>`, and whether a question mark stands at the end.
pub data Instruction : Bool → List ℕ → Type 0 where
  nothing : Instruction false []
  mark : {b : Bool} {u : List ℕ} → Instruction b u → Instruction true (u ++ 63 ∷ [])
  other : {b : Bool} {u : List ℕ} → Instruction b u → (c : ℕ) → IsTrue (is_char c) → (c == 63) ≡ false → ((c == 62) && b) ≡ false
      → Instruction false (u ++ c ∷ [])

-- What is skipped: a comment, which ends at the first `-->`, or a processing instruction, which ends at the first `?>` (productions 15 and 16).
pub data Skipped : List ℕ → Type 0 where
  comment : {u : List ℕ} → Remark 2 u → Skipped ((codes "<!--" ++ u) ++ codes ">")
  instruction : {u : List ℕ} → Instruction true u → Skipped ((codes "<?" ++ u) ++ codes ">")

-- what stands between the markup around the root (production 27)
pub data Misc : List ℕ → Type 0 where
  nothing : Misc []
  space : {u : List ℕ} → Misc u → (c : ℕ) → IsTrue (is_space c) → Misc (u ++ c ∷ [])
  skipped : {u v : List ℕ} → Misc u → Skipped v → Misc (u ++ v)

-- white space in a value counts as a space (section 3.3.3)
abbrev pub in_value : ℕ → ℕ
in_value c = if is_space c then 32 else c

-- what stands between two quotes q, and its bytes (production 10)
pub data Value (q : ℕ) : List ℕ → List ℕ → Type 0 where
  nothing : Value q [] []
  character : {u bytes : List ℕ} → Value q u bytes → (c : ℕ) → IsTrue (is_char c) → (c == q) ≡ false → (c == 38) ≡ false → (c == 60) ≡ false
      → Value q (u ++ c ∷ []) (bytes ++ encode_utf8 (in_value c))
  reference : {u v bytes : List ℕ} {c : ℕ} → Value q u bytes → Reference v c → Value q (u ++ v) (bytes ++ encode_utf8 c)

abbrev pub is_quote : ℕ → Bool
is_quote c = (c == 34) || (c == 39)

-- an attribute (production 41)
pub data Attribute : List ℕ → Attr → Type 0 where
  attribute : {u s t v name value : List ℕ} → Name u name → Spaces s → Spaces t → (q : ℕ) → IsTrue (is_quote q) → Value q v value
      → Attribute ((((((u ++ s) ++ codes "=") ++ t) ++ q ∷ []) ++ v) ++ q ∷ []) (record { name = name; value = value })

abbrev pub has_name : List ℕ → List Attr → Bool
has_name name attrs = list_any (λ a. pointwise nat_eq a.name name) attrs

-- a start tag up to where white space may stand before `>` or `/>`: attributes with different names, each after white space (productions 40 and 44)
pub data Tag : List ℕ → List ℕ → List Attr → Type 0 where
  named : {u name : List ℕ} → Name u name → Tag (codes "<" ++ u) name []
  attribute : {u s v name : List ℕ} {attrs : List Attr} {a : Attr} → Tag u name attrs → Spaces s → (c : ℕ) → IsTrue (is_space c)
      → Attribute v a → has_name a.name attrs ≡ false
      → Tag ((u ++ (s ++ c ∷ [])) ++ v) name (attrs ++ a ∷ [])

-- a text that isn't empty is a node
abbrev pub text_node : List ℕ → List Node
text_node [] = []
text_node (b ∷ bytes) = text (b ∷ bytes) ∷ []

mutual
  -- an element (productions 39, 42 and 44)
  pub data Element : List ℕ → Node → Type 0 where
    empty : {u s name : List ℕ} {attrs : List Attr} → Tag u name attrs → Spaces s → Element ((u ++ s) ++ codes "/>") (element name attrs no_nodes)
    whole : {u s v t name bytes : List ℕ} {attrs : List Attr} {kids : List Node} → Tag u name attrs → Spaces s → Content v kids bytes
        → (cs : List ℕ) → encode_utf8_all cs ≡ name → Spaces t
        → Element ((((((((u ++ s) ++ codes ">") ++ v) ++ codes "</") ++ cs) ++ t) ++ codes ">")) (element name attrs (nodes (kids ++ text_node bytes)))

  -- content: its nodes, and the bytes of the text that stands after the last of them (production 43)
  pub data Content : List ℕ → List Node → List ℕ → Type 0 where
    nothing : Content [] [] []
    character : {u bytes : List ℕ} {kids : List Node} → Content u kids bytes → (c : ℕ) → IsTrue (is_char c) → (c == 60) ≡ false
        → (c == 38) ≡ false → Content (u ++ c ∷ []) kids (bytes ++ encode_utf8 c)
    reference : {u v bytes : List ℕ} {kids : List Node} {c : ℕ} → Content u kids bytes → Reference v c → Content (u ++ v) kids (bytes ++ encode_utf8 c)
    skipped : {u v bytes : List ℕ} {kids : List Node} → Content u kids bytes → Skipped v → Content (u ++ v) kids bytes
    child : {u v bytes : List ℕ} {kids : List Node} {node : Node} → Content u kids bytes → Element v node
        → Content (u ++ v) ((kids ++ text_node bytes) ++ node ∷ []) []

-- a document (production 1)
pub data Document : List ℕ → Node → Type 0 where
  document : {u v w : List ℕ} {node : Node} → Misc u → Element v node → Misc w → Document ((u ++ v) ++ w) node

-- a fragment is content
pub data Fragment : List ℕ → List Node → Type 0 where
  fragment : {u bytes : List ℕ} {kids : List Node} → Content u kids bytes → Fragment u (kids ++ text_node bytes)

-- line ends as one LF each: CR LF, and a CR that stands alone (section 2.11)
abbrev pub lines_from : Bool → List ℕ → List ℕ
lines_from after_return [] = []
lines_from after_return (c ∷ cs) = if c == 13 then 10 ∷ lines_from true cs
    else if (c == 10) && after_return then lines_from false cs
    else c ∷ lines_from false cs

abbrev pub with_line_ends : List ℕ → List ℕ
with_line_ends = lines_from false
