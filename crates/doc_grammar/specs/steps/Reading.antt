-- The machine over a whole text, whose line ends it normalizes as it goes.
use Rattle.std.specs.Prelude.{ℕ, Bool, ◌==◌, List, [], ◌∷◌, Option, Some}
use Rattle.doc_grammar.specs.Grammar.{with_line_ends}
use Rattle.doc_grammar.specs.Texts.{Kind}
use Rattle.doc_grammar.specs.steps.Machine as m
use Rattle.doc_grammar.specs.steps.Machine.{Outer, State, run_on, start}

abbrev pub outer_of : Kind → Outer
outer_of Kind.document = m.document
outer_of Kind.fragment = m.fragment

-- where the machine stands after a text, if it doesn't refuse a character of it
abbrev pub read : Kind → List ℕ → Option State
read kind text = run_on (Some (start (outer_of kind))) (with_line_ends text)

-- whether a carriage return stands at the end of a text, after b
abbrev pub returned : Bool → List ℕ → Bool
returned b [] = b
returned b (c ∷ cs) = returned (c == 13) cs
