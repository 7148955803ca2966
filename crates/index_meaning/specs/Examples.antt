-- Small documents, for the examples.
use Rattle.std.specs.Prelude.{ℕ, ◌+◌, ◌&&◌, List, [], ◌∷◌, map, cond, nat_le, codes}
use Rattle.index_meaning.specs.Documents.{Leaf, Numbered}

-- the key of the examples: A to Z as a to z
abbrev pub lower : List ℕ → List ℕ
lower word = map (λ c. cond (nat_le 65 c && nat_le c 90) (c + 32) c) word

abbrev pub leaf : ℕ → List (List ℕ) → Leaf
leaf id words = record { id = id; words = words }

-- `<a>Hello <b/>hello world</a>`, under the number 7
abbrev pub greeting : Numbered
greeting = record {
  id = 7;
  document = record {
    leaves = leaf 4 (codes "Hello" ∷ []) ∷ leaf 2 (codes "hello" ∷ codes "world" ∷ []) ∷ [];
    sentences = 1 ∷ [];
    paragraphs = 1 ∷ [];
  };
}

-- `<a>world</a>`, under the number 3
abbrev pub short : Numbered
short = record { id = 3; document = record { leaves = leaf 0 (codes "world" ∷ []) ∷ []; sentences = 1 ∷ []; paragraphs = 1 ∷ [] } }

-- `<a/>`, under the number 5
abbrev pub bare : Numbered
bare = record { id = 5; document = record { leaves = []; sentences = []; paragraphs = [] } }
