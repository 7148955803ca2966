-- Paths and what a session holds, for the examples of prices.
use Rattle.std.specs.Prelude.{List, [], ◌∷◌, map, codes}
use Rattle.ft_base.specs.Selection.{Form}
use Rattle.index_meaning.specs.Documents.{Numbered}
use Rattle.path_grammar.specs.Form.{Step, contains, holds, no_paths, no_steps, steps}
use Rattle.path_grammar.specs.Spellings.{below}
use Rattle.path_grammar.specs.declared.path.PathRoot.{PathRoot}
use Rattle.path_meaning.specs.Elements.{Element, placed}
use Rattle.path_meaning.specs.Examples.{elem, letters, nested}
use Rattle.path_subset.specs.Paths.{PathForm, PlacedForm}
use Rattle.plain_tree.specs.Document.{text}
use Rattle.plan_compiler.specs.NamedLists.{NamedLists}
use Rattle.session_state.specs.Held.{Held}
use Rattle.session_state.specs.State.{opening}

-- a path with these selections
abbrev pub with_selections : PathRoot → List Step → List Form → PathForm
with_selections root path forms = record {
  path = record { root = root; steps = steps path };
  selections = map (λ form. let placed : PlacedForm = record { form = form; extent = record { from = 0; to = 0 } } in placed) forms;
}

-- `//b[. contains text ..]`, and the same with a further predicate: the selections are those of the numbers 0 and 1
abbrev pub first_asked : List Step
first_asked = below (codes "b") (holds (contains no_steps 0 no_paths) ∷ []) ∷ []

abbrev pub both_asked : List Step
both_asked = below (codes "b") (holds (contains no_steps 0 no_paths) ∷ holds (contains no_steps 1 no_paths) ∷ []) ∷ []

-- the elements named `b` of `letters`
abbrev pub named_b : List Element
named_b =
    placed (1 ∷ []) (elem (codes "b") (text (codes "x") ∷ []))
    ∷ placed (2 ∷ []) (elem (codes "b") (text (codes "y") ∷ []))
    ∷ placed (3 ∷ 1 ∷ []) (elem (codes "b") (text (codes "x y") ∷ []))
    ∷ []

-- `letters` as the document `l`, and after it `nested` as `n`
abbrev pub two_held : NamedLists → List Numbered → Held
two_held lists version = record {
  state = record opening { documents = record { name = codes "l"; root = letters } ∷ record { name = codes "n"; root = nested } ∷ []; lists = lists };
  version = version;
  mark_versions = [];
  stamps = [];
  standings = [];
}
