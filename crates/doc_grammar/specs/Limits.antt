-- Where a text passes the limits: its elements stand too deep, or it has too many elements and texts.
use Rattle.std.specs.Prelude.{◌≡◌, ℕ, ◌+◌, ◌≤◌, max, Bool, true, false, ◌&&◌, ◌||◌, not, if◌then◌else◌, ◌==◌, List, [], ◌∷◌, ◌++◌, length, IsTrue}
use Rattle.ft_base.specs.Lists.{is_empty}
use Rattle.plain_tree.specs.Document.{Node, element, text, Nodes, no_nodes, node_then}
use Rattle.ft_base.specs.Characters.{is_char, is_name_start}
use Rattle.doc_grammar.specs.Grammar.{with_line_ends}
use Rattle.doc_grammar.specs.steps.Machine as m
use Rattle.doc_grammar.specs.steps.Machine.{Outer, Place, Phase, State, is_content, takes_element}
use Rattle.doc_grammar.specs.Opened.{At, bottom}
use Rattle.doc_grammar.specs.steps.Reading.{outer_of, returned}
use Rattle.doc_grammar.specs.Texts.{Kind}

-- how many elements and texts there are
abbrev mutual
  pub node_count : Node → ℕ
  node_count (element name attrs kids) = 1 + nodes_count kids
  node_count (text bytes) = 1

  pub nodes_count : Nodes → ℕ
  nodes_count no_nodes = 0
  nodes_count (node_then n ns) = node_count n + nodes_count ns

-- how many levels of elements there are
abbrev mutual
  pub height : Node → ℕ
  height (element name attrs kids) = 1 + heights kids
  height (text bytes) = 0

  pub heights : Nodes → ℕ
  heights no_nodes = 0
  heights (node_then n ns) = max (height n) (heights ns)

abbrev pub list_count : List Node → ℕ
list_count [] = 0
list_count (n ∷ ns) = node_count n + list_count ns

abbrev pub text_count : List ℕ → ℕ
text_count [] = 0
text_count (b ∷ bytes) = 1

abbrev pub outer_count : Outer → ℕ
outer_count m.document = 0
outer_count m.fragment = 0
outer_count (m.level name attrs kids bytes outer) = 1 + list_count kids + text_count bytes + outer_count outer

abbrev pub place_count : Place → ℕ
place_count p = list_count p.kids + text_count p.text + outer_count p.outer

-- how many elements are open
abbrev pub depth : Outer → ℕ
depth m.document = 0
depth m.fragment = 0
depth (m.level name attrs kids bytes outer) = 1 + depth outer

-- A text begins with this character, or its reference, unless one stands there; an LF after a CR is none.
abbrev pub begins_text : Place → Bool → ℕ → Bool
begins_text p after_return c = not ((c == 10) && after_return) && (not (c == 60) && (is_content p.outer && (is_empty p.text && is_char c)))

-- an element begins with a `<` and this character
abbrev pub begins_element : Place → ℕ → Bool
begins_element p c = is_name_start c && takes_element p

abbrev pub is_opened : Phase → Bool
is_opened m.ready = false
is_opened m.opened = true
is_opened m.bang = false
is_opened m.bang_dash = false
is_opened (m.comment n) = false
is_opened (m.instruction b) = false
is_opened (m.reference r) = false
is_opened (m.end_name left) = false
is_opened m.end_spaced = false
is_opened (m.start_name name) = false
is_opened (m.spaced name attrs) = false
is_opened (m.attr_name name attrs attr) = false
is_opened (m.attr_named name attrs attr) = false
is_opened (m.equals name attrs attr) = false
is_opened (m.quoted name attrs attr quote value) = false
is_opened (m.quoted_reference name attrs attr quote value r) = false
is_opened (m.valued name attrs) = false
is_opened (m.slashed name attrs) = false

-- whether a node begins with the next character, where the machine stands
abbrev pub text_here : State → Bool → ℕ → Bool
text_here s after_return c = m.is_ready s.phase && begins_text s.place after_return c

abbrev pub element_here : State → ℕ → Bool
element_here s c = is_opened s.phase && begins_element s.place c

abbrev pub node_here : State → Bool → ℕ → Bool
node_here s b c = text_here s b c || element_here s c

abbrev pub one_if : Bool → ℕ
one_if b = if b then 1 else 0

-- after the prefix, where this is open, a text begins
pub record TextBegins (kind : Kind) (whole prefix : List ℕ) (p : Place) : Type 0 where
  pub c : ℕ
  pub rest : List ℕ
  pub spelled : whole ≡ prefix ++ c ∷ rest
  pub is_at : At (with_line_ends prefix) p
  pub is_kind : bottom p.outer ≡ outer_of kind
  pub begins : IsTrue (begins_text p (returned false prefix) c)

-- an element does
pub record ElementBegins (kind : Kind) (whole prefix : List ℕ) (p : Place) : Type 0 where
  pub c : ℕ
  pub rest : List ℕ
  pub spelled : whole ≡ prefix ++ 60 ∷ c ∷ rest
  pub is_at : At (with_line_ends prefix) p
  pub is_kind : bottom p.outer ≡ outer_of kind
  pub begins : IsTrue (begins_element p c)

pub data Limit : Type 0 where
  depth_limit : Limit
  node_limit : Limit

-- The text passes a limit after the prefix: an element begins in as many others as are allowed, or a node after as many.
pub data Passes (max_depth max_nodes : ℕ) (kind : Kind) (whole prefix : List ℕ) : Limit → Type 0 where
  too_deep : (p : Place) → ElementBegins kind whole prefix p → max_depth ≤ depth p.outer → Passes max_depth max_nodes kind whole prefix depth_limit
  element_too_many : (p : Place) → ElementBegins kind whole prefix p → max_nodes ≤ place_count p → Passes max_depth max_nodes kind whole prefix node_limit
  text_too_many : (p : Place) → TextBegins kind whole prefix p → max_nodes ≤ place_count p → Passes max_depth max_nodes kind whole prefix node_limit

-- no limit is passed before the prefix
abbrev pub KeepsLimits : ℕ → ℕ → Kind → List ℕ → List ℕ → Type 0
KeepsLimits max_depth max_nodes kind whole prefix =
    (other : List ℕ) (limit : Limit) → Passes max_depth max_nodes kind whole other limit → length prefix ≤ length other
