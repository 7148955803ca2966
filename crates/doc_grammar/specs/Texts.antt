-- Which texts are documents and fragments, which texts begin one, and where a text goes wrong.
use Rattle.std.specs.Prelude.{◌≡◌, ◌==◌, if◌then◌else◌, ℕ, List, [], ◌∷◌, ◌++◌}
use Rattle.plain_tree.specs.Document.{Node}
use Rattle.doc_grammar.specs.Grammar.{Document, Fragment, with_line_ends}

pub data Kind : Type 0 where
  document : Kind
  fragment : Kind

-- the text, as characters, spells these nodes: one root for a document, any content for a fragment
abbrev pub Spells : Kind → List ℕ → List Node → Type 0
Spells document text kids = (node : Node) × (kids ≡ node ∷ []) × Document (with_line_ends text) node
Spells fragment text kids = Fragment (with_line_ends text) kids

-- some continuation makes it a document, or a fragment
abbrev pub Begins : Kind → List ℕ → Type 0
Begins kind text = (rest : List ℕ) × (kids : List Node) × Spells kind (text ++ rest) kids

-- a text after a byte order mark, and how many bytes that has
abbrev pub without_mark : List ℕ → List ℕ
without_mark [] = []
without_mark (c ∷ cs) = if c == 0xFEFF then cs else c ∷ cs

abbrev pub mark_len : List ℕ → ℕ
mark_len [] = 0
mark_len (c ∷ cs) = if c == 0xFEFF then 3 else 0

-- The prefix is the longest one of the text that begins a document, and the text isn't one.
pub record GoesWrong (kind : Kind) (text prefix : List ℕ) : Type 0 where
  pub rest : List ℕ
  pub spelled : text ≡ prefix ++ rest
  pub begins : Begins kind prefix
  pub ends : rest ≡ [] → (kids : List Node) → Spells kind text kids → ⊥
  pub goes_on : (c : ℕ) (more : List ℕ) → rest ≡ c ∷ more → Begins kind (prefix ++ c ∷ []) → ⊥
