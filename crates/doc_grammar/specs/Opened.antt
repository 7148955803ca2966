-- What is open after a prefix of a text.
use Rattle.std.specs.Prelude.{ℕ, List, [], ◌∷◌, ◌++◌, IsTrue, codes}
use Rattle.plain_tree.specs.Document.{Node}
use Rattle.plain_tree.specs.declared.tree.Attr.{Attr}
use Rattle.doc_grammar.specs.Grammar.{Spaces, Misc, Tag, Element, Content}
use Rattle.doc_grammar.specs.steps.Machine.{Outer, document, fragment, level, Place, takes_element}

-- The prefix is whole items of what is open, and the place is what they make.
pub data At : List ℕ → Place → Type 0 where
  before : {u : List ℕ} → Misc u → At u (record { kids = []; text = []; outer = document })
  after : {u v w : List ℕ} {node : Node} → Misc u → Element v node → Misc w → At ((u ++ v) ++ w) (record { kids = node ∷ []; text = []; outer = document })
  in_fragment : {u bytes : List ℕ} {kids : List Node} → Content u kids bytes → At u (record { kids = kids; text = bytes; outer = fragment })
  within : {w t s u name bytes outer_text : List ℕ} {attrs : List Attr} {kids outer_kids : List Node} {outer : Outer}
      → At w (record { kids = outer_kids; text = outer_text; outer = outer })
      → IsTrue (takes_element (record { kids = outer_kids; text = outer_text; outer = outer }))
      → Tag t name attrs → Spaces s → Content u kids bytes
      → At ((((w ++ t) ++ s) ++ codes ">") ++ u) (record { kids = kids; text = bytes; outer = level name attrs outer_kids outer_text outer })

-- what stands round everything
abbrev pub bottom : Outer → Outer
bottom document = document
bottom fragment = fragment
bottom (level name attrs kids text outer) = bottom outer
