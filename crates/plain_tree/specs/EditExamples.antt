-- Documents and content for examples.
use Rattle.std.specs.Prelude.{ℕ, List, [], ◌∷◌, ◌++◌, codes}
use Rattle.plain_tree.specs.Document.{Node, element, text, nodes}

abbrev pub elem : List ℕ → List Node → Node
elem name kids = element name [] (nodes kids)

-- `<c/>`
abbrev pub c : Node
c = elem (codes "c") []

-- `<a>x..z</a>`, with nodes between the two texts
abbrev pub between : List Node → Node
between middle = elem (codes "a") (text (codes "x") ∷ middle ++ text (codes "z") ∷ [])

-- `<b>..</b>`
abbrev pub b : List Node → Node
b = elem (codes "b")

-- `<a>x<b>y</b>z</a>`
abbrev pub letters : Node
letters = between (b (text (codes "y") ∷ []) ∷ [])

-- `<a><b><c/></b><c/></a>`
abbrev pub nested : Node
nested = elem (codes "a") (b (c ∷ []) ∷ c ∷ [])
