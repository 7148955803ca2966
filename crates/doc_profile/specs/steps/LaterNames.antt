-- Which names of a start tag's attributes stand in a set.
use Rattle.std.specs.Prelude.{◌≡◌, ℕ, List, String}
use Rattle.std.specs.HashSet.{HashSet, contains_text}
use Rattle.plain_tree.specs.declared.tree.Attr.{Attr}
use Rattle.doc_grammar.specs.Grammar.{has_name}
use Rattle.doc_profile.specs.declared.attributes.TheConstants.{FEW}

-- how many attributes are looked at one by one, the constant of the program: the names of the others stand in the set
abbrev pub few : ℕ
few = FEW

-- the set has exactly the names of the attributes
abbrev pub AreNamesOf : {Y S : Type 0} → HashSet (String Y) S → List Attr → Type 0
AreNamesOf names attrs = (name : List ℕ) → contains_text names name ≡ has_name name attrs
