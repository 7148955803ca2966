-- A machine that goes over a text once, character by character: what is open, and which part of the markup is under way.
use Rattle.std.specs.Prelude.{ℕ, ◌+◌, ◌*◌, Bool, true, false, ◌&&◌, ◌||◌, nat_eq, nat_le, ◌==◌, List, [], ◌∷◌}
use Rattle.std.specs.Prelude.{◌++◌, length, drop, Option, Some, None, if◌then◌else◌, codes, encode_utf8}
use Rattle.std.specs.List.{starts_with}
use Rattle.std.specs.Char.{digit_value}
use Rattle.plain_tree.specs.Document.{Node, element, no_nodes, nodes}
use Rattle.plain_tree.specs.declared.tree.Attr.{Attr}
use Rattle.ft_base.specs.Characters.{is_char, is_space, is_name_start, is_name_char}
use Rattle.doc_grammar.specs.Grammar.{is_digit, one_dash_more, in_value, is_quote, has_name, text_node}

-- what stands round the content under way: nothing but the document or the fragment, or an open element in content
pub data Outer : Type 0 where
  document : Outer
  fragment : Outer
  level : (name : List ℕ) (attrs : List Attr) (kids : List Node) (text : List ℕ) → Outer → Outer

-- the nodes of the content under way, the text after the last of them, and what stands round it
pub record Place : Type 0 where
  pub kids : List Node
  pub text : List ℕ
  pub outer : Outer

-- how far a reference has come
pub data Refer : Type 0 where
  begun : Refer
  begun_a : Refer
  named : (left : List ℕ) (c : ℕ) → Refer
  numbered : Refer
  hexed : Refer
  digits : (hexadecimal : Bool) (n : ℕ) → Refer

-- which part of the markup is under way
pub data Phase : Type 0 where
  ready : Phase
  opened : Phase
  bang : Phase
  bang_dash : Phase
  comment : ℕ → Phase
  instruction : Bool → Phase
  reference : Refer → Phase
  end_name : (left : List ℕ) → Phase
  end_spaced : Phase
  start_name : (name : List ℕ) → Phase
  spaced : (name : List ℕ) (attrs : List Attr) → Phase
  attr_name : (name : List ℕ) (attrs : List Attr) (attr : List ℕ) → Phase
  attr_named : (name : List ℕ) (attrs : List Attr) (attr : List ℕ) → Phase
  equals : (name : List ℕ) (attrs : List Attr) (attr : List ℕ) → Phase
  quoted : (name : List ℕ) (attrs : List Attr) (attr : List ℕ) (quote : ℕ) (value : List ℕ) → Phase
  quoted_reference : (name : List ℕ) (attrs : List Attr) (attr : List ℕ) (quote : ℕ) (value : List ℕ) → Refer → Phase
  valued : (name : List ℕ) (attrs : List Attr) → Phase
  slashed : (name : List ℕ) (attrs : List Attr) → Phase

abbrev pub is_ready : Phase → Bool
is_ready ready = true
is_ready opened = false
is_ready bang = false
is_ready bang_dash = false
is_ready (comment n) = false
is_ready (instruction mark) = false
is_ready (reference r) = false
is_ready (end_name left) = false
is_ready end_spaced = false
is_ready (start_name name) = false
is_ready (spaced name attrs) = false
is_ready (attr_name name attrs attr) = false
is_ready (attr_named name attrs attr) = false
is_ready (equals name attrs attr) = false
is_ready (quoted name attrs attr quote value) = false
is_ready (quoted_reference name attrs attr quote value r) = false
is_ready (valued name attrs) = false
is_ready (slashed name attrs) = false

pub record State : Type 0 where
  pub place : Place
  pub phase : Phase

abbrev pub at : Place → Phase → Option State
at p phase = Some (record { place = p; phase = phase })

-- whether characters may stand here
abbrev pub is_content : Outer → Bool
is_content document = false
is_content fragment = true
is_content (level name attrs kids text outer) = true

abbrev pub is_none : List Node → Bool
is_none [] = true
is_none (n ∷ ns) = false

-- whether an element may stand here: a document has one
abbrev pub takes_element : Place → Bool
takes_element p = is_content p.outer || is_none p.kids

abbrev pub with_text : Place → ℕ → Place
with_text p c = record p { text = p.text ++ encode_utf8 c }

abbrev pub with_node : List Node → List ℕ → Outer → Node → Place
with_node kids text outer node = record { kids = (kids ++ text_node text) ++ node ∷ []; text = []; outer = outer }

-- a start tag enters an element
abbrev pub entered : Place → List ℕ → List Attr → Place
entered p name attrs = record { kids = []; text = []; outer = level name attrs p.kids p.text p.outer }

-- an end tag leaves it
abbrev pub left_from : List Node → List ℕ → Outer → Option State
left_from kids text document = None
left_from kids text fragment = None
left_from kids text (level name attrs outer_kids outer_text outer) =
    at (with_node outer_kids outer_text outer (element name attrs (nodes (kids ++ text_node text)))) ready

unfoldable pub left : Place → Option State
left p = left_from p.kids p.text p.outer

-- what a character makes of a reference
pub data Judged : Type 0 where
  refused : Judged
  going : Refer → Judged
  gives : ℕ → Judged

abbrev pub name_left : List ℕ → ℕ → Judged
name_left [] c = gives c
name_left (d ∷ ds) c = going (named (d ∷ ds) c)

abbrev pub refer_begun : ℕ → Judged
refer_begun c = if c == 108 then going (named (codes "t;") 60)
    else if c == 103 then going (named (codes "t;") 62)
    else if c == 113 then going (named (codes "uot;") 34)
    else if c == 97 then going begun_a else if c == 35 then going numbered else refused

abbrev pub refer_begun_a : ℕ → Judged
refer_begun_a c = if c == 109 then going (named (codes "p;") 38) else if c == 112 then going (named (codes "os;") 39) else refused

abbrev pub refer_named : List ℕ → ℕ → ℕ → Judged
refer_named [] x c = refused
refer_named (d ∷ ds) x c = if c == d then name_left ds x else refused

abbrev pub base : Bool → ℕ
base hexadecimal = if hexadecimal then 16 else 10

abbrev pub refer_first : Bool → ℕ → Judged
refer_first hexadecimal c = if is_digit (base hexadecimal) c then going (digits hexadecimal (digit_value c)) else refused

abbrev pub refer_digits : Bool → ℕ → ℕ → Judged
refer_digits hexadecimal n c = if c == 59 then (if is_char n then gives n else refused)
    else if is_digit (base hexadecimal) c
    then (if nat_le (n * base hexadecimal + digit_value c) 0x10_FFFF then going (digits hexadecimal (n * base hexadecimal + digit_value c)) else refused)
    else refused

unfoldable pub refer : Refer → ℕ → Judged
refer begun c = refer_begun c
refer begun_a c = refer_begun_a c
refer (named ds x) c = refer_named ds x c
refer numbered c = if c == 120 then going hexed else refer_first false c
refer hexed c = refer_first true c
refer (digits hexadecimal n) c = refer_digits hexadecimal n c

-- between two items
unfoldable pub from_ready : Place → ℕ → Option State
from_ready p c = if c == 60 then at p opened
    else if is_content p.outer then (if c == 38 then at p (reference begun) else if is_char c then at (with_text p c) ready else None)
    else if is_space c then at p ready else None

abbrev pub end_tag : Place → Outer → Option State
end_tag p document = None
end_tag p fragment = None
end_tag p (level name attrs kids text outer) = at p (end_name name)

-- after a `<`
unfoldable pub from_opened : Place → ℕ → Option State
from_opened p c = if c == 33 then at p bang else if c == 63 then at p (instruction false) else if c == 47 then end_tag p p.outer
    else if is_name_start c && takes_element p then at p (start_name (encode_utf8 c)) else None

unfoldable pub from_comment : Place → ℕ → ℕ → Option State
from_comment p n c = if c == 45 then at p (comment (one_dash_more n))
    else if (c == 62) && (n == 2) then at p ready
    else if is_char c then at p (comment 0)
    else None

unfoldable pub from_instruction : Place → Bool → ℕ → Option State
from_instruction p mark c = if c == 63 then at p (instruction true)
    else if (c == 62) && mark then at p ready
    else if is_char c then at p (instruction false)
    else None

abbrev pub judged : Place → Judged → Option State
judged p refused = None
judged p (going r) = at p (reference r)
judged p (gives c) = at (with_text p c) ready

-- in an end tag, before its name's end
abbrev pub from_end_left : Place → List ℕ → ℕ → Option State
from_end_left p left c = if starts_with nat_eq left (encode_utf8 c) then at p (end_name (drop (length (encode_utf8 c)) left)) else None

unfoldable pub from_end_spaced : Place → ℕ → Option State
from_end_spaced p c = if c == 62 then left p else if is_space c then at p end_spaced else None

unfoldable pub from_end_name : Place → List ℕ → ℕ → Option State
from_end_name p [] c = from_end_spaced p c
from_end_name p (b ∷ bytes) c = from_end_left p (b ∷ bytes) c

-- after a tag's name or one of its attributes
unfoldable pub from_tag : Place → List ℕ → List Attr → ℕ → Option State
from_tag p name attrs c = if c == 62 then at (entered p name attrs) ready
    else if c == 47 then at p (slashed name attrs)
    else if is_space c then at p (spaced name attrs)
    else None

unfoldable pub from_start_name : Place → List ℕ → ℕ → Option State
from_start_name p name c = if is_name_char c then at p (start_name (name ++ encode_utf8 c)) else from_tag p name [] c

unfoldable pub from_spaced : Place → List ℕ → List Attr → ℕ → Option State
from_spaced p name attrs c = if is_name_start c then at p (attr_name name attrs (encode_utf8 c)) else from_tag p name attrs c

unfoldable pub from_attr_named : Place → List ℕ → List Attr → List ℕ → ℕ → Option State
from_attr_named p name attrs attr c = if c == 61 then at p (equals name attrs attr) else if is_space c then at p (attr_named name attrs attr) else None

unfoldable pub from_attr_name : Place → List ℕ → List Attr → List ℕ → ℕ → Option State
from_attr_name p name attrs attr c = if is_name_char c then at p (attr_name name attrs (attr ++ encode_utf8 c))
    else if has_name attr attrs then None
    else from_attr_named p name attrs attr c

unfoldable pub from_equals : Place → List ℕ → List Attr → List ℕ → ℕ → Option State
from_equals p name attrs attr c = if is_quote c then at p (quoted name attrs attr c []) else if is_space c then at p (equals name attrs attr) else None

unfoldable pub from_quoted : Place → List ℕ → List Attr → List ℕ → ℕ → List ℕ → ℕ → Option State
from_quoted p name attrs attr quote value c = if c == quote then at p (valued name (attrs ++ record { name = attr; value = value } ∷ []))
    else if c == 38 then at p (quoted_reference name attrs attr quote value begun) else if c == 60 then None
    else if is_char c then at p (quoted name attrs attr quote (value ++ encode_utf8 (in_value c))) else None

abbrev pub judged_quoted : Place → List ℕ → List Attr → List ℕ → ℕ → List ℕ → Judged → Option State
judged_quoted p name attrs attr quote value refused = None
judged_quoted p name attrs attr quote value (going r) = at p (quoted_reference name attrs attr quote value r)
judged_quoted p name attrs attr quote value (gives c) = at p (quoted name attrs attr quote (value ++ encode_utf8 c))

-- after the `/` of an empty element
unfoldable pub from_slashed : Place → List ℕ → List Attr → ℕ → Option State
from_slashed p name attrs c = if c == 62 then at (with_node p.kids p.text p.outer (element name attrs no_nodes)) ready else None

abbrev pub only : ℕ → ℕ → Place → Phase → Option State
only wanted c p phase = if c == wanted then at p phase else None

unfoldable pub step_at : Place → Phase → ℕ → Option State
step_at p ready c = from_ready p c
step_at p opened c = from_opened p c
step_at p bang c = only 45 c p bang_dash
step_at p bang_dash c = only 45 c p (comment 0)
step_at p (comment n) c = from_comment p n c
step_at p (instruction mark) c = from_instruction p mark c
step_at p (reference r) c = judged p (refer r c)
step_at p (end_name left) c = from_end_name p left c
step_at p end_spaced c = from_end_spaced p c
step_at p (start_name name) c = from_start_name p name c
step_at p (spaced name attrs) c = from_spaced p name attrs c
step_at p (attr_name name attrs attr) c = from_attr_name p name attrs attr c
step_at p (attr_named name attrs attr) c = from_attr_named p name attrs attr c
step_at p (equals name attrs attr) c = from_equals p name attrs attr c
step_at p (quoted name attrs attr quote value) c = from_quoted p name attrs attr quote value c
step_at p (quoted_reference name attrs attr quote value r) c = judged_quoted p name attrs attr quote value (refer r c)
step_at p (valued name attrs) c = from_tag p name attrs c
step_at p (slashed name attrs) c = from_slashed p name attrs c

abbrev pub step : State → ℕ → Option State
step s c = step_at s.place s.phase c

-- a whole text, from a state on
abbrev pub run_on : Option State → List ℕ → Option State
run_on None cs = None
run_on (Some s) [] = Some s
run_on (Some s) (c ∷ cs) = run_on (step s c) cs

abbrev pub start : Outer → State
start outer = record { place = record { kids = []; text = []; outer = outer }; phase = ready }

-- what a text that ends here has spelled: the nodes of a document or of a fragment
abbrev pub finished_in : Outer → List Node → List ℕ → Option (List Node)
finished_in document [] text = None
finished_in document (n ∷ []) text = Some ((n ∷ []) ++ text_node text)
finished_in document (n ∷ k ∷ ks) text = None
finished_in fragment kids text = Some (kids ++ text_node text)
finished_in (level name attrs outer_kids outer_text outer) kids text = None

abbrev pub finished : State → Option (List Node)
finished s = if is_ready s.phase then finished_in s.place.outer s.place.kids s.place.text else None
