-- Documents for the examples.
use Rattle.std.specs.Prelude.{List, [], ◌∷◌, codes}
use Rattle.plain_tree.specs.Document.{Node, text}
use Rattle.plain_tree.specs.EditExamples.{b, elem}

abbrev pub d : List Node → Node
d = elem (codes "d")

abbrev pub p : List Node → Node
p = elem (codes "p")

-- `<d><p>a b c</p><p>d e</p><p>f</p></d>`
abbrev pub paragraphs : Node
paragraphs = d (p (text (codes "a b c") ∷ []) ∷ p (text (codes "d e") ∷ []) ∷ p (text (codes "f") ∷ []) ∷ [])

-- `<d>foo<b>x</b>bar</d>`
abbrev pub foobar : Node
foobar = d (text (codes "foo") ∷ b (text (codes "x") ∷ []) ∷ text (codes "bar") ∷ [])

-- `<d>red<b/>blue</d>`
abbrev pub colours : Node
colours = d (text (codes "red") ∷ b [] ∷ text (codes "blue") ∷ [])
