-- A session of documents that are made up, with queries over them and one edit.
use Rattle.std.specs.Prelude.{ℕ, ◌+◌, ◌*◌, ◌%◌, List, [], ◌∷◌, ◌++◌, codes, flat_map}
use Rattle.std.specs.Fmt.{decimal}
use Rattle.std.specs.List.{join_by, range_with_len}

abbrev pub line : List ℕ → List ℕ
line text = text ++ 10 ∷ []

-- one of a thousand words
abbrev pub word : ℕ → List ℕ
word number = codes "t" ++ decimal (number % 1000)

-- twenty words in a row, from the one of this number on
unfoldable pub words : ℕ → List ℕ
words first = join_by (λ further. word (first + further)) (codes " ") (range_with_len 0 20)

abbrev pub paragraph : ℕ → List ℕ
paragraph first = codes "<p>" ++ words first ++ codes "</p>"

-- ten paragraphs: each begins with the word after the last one of the paragraph before
unfoldable pub paragraphs : ℕ → List ℕ
paragraphs first = flat_map (λ further. paragraph (first + 20 * further)) (range_with_len 0 10)

-- the document of a number is loaded
unfoldable pub document : ℕ → List ℕ
document number = line (codes "load d" ++ decimal number) ++ line (codes "<doc>" ++ paragraphs number ++ codes "</doc>") ++ line (codes ".")

-- what is asked and changed after the documents
abbrev pub commands : List (List ℕ)
commands =
    codes "query collection()/doc[. contains text \"t5\"]"
    ∷ codes "query collection()//p[. contains text \"t5\" ftand \"t9\" window 5 words]"
    ∷ codes "query collection()//p[. contains text \"t5\" ftand ftnot \"t6\"]"
    ∷ codes "stats"
    ∷ codes "delete collection()/doc[. contains text \"t5\"]/p[1]"
    ∷ codes "query collection()/doc[. contains text \"t5\"]"
    ∷ codes "stats"
    ∷ []

-- a session of so many documents, numbered from 1
abbrev pub made : ℕ → List ℕ
made count = flat_map document (range_with_len 1 count) ++ flat_map line commands
