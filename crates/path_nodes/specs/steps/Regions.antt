-- The elements at and below an element of a document.
use Rattle.std.specs.Prelude.{List}
use Rattle.path_meaning.specs.Elements.{Element, elements_from, elements_below, kids_of}

abbrev pub at_or_below : Element → List Element
at_or_below e = elements_from e.place e.node

abbrev pub below : Element → List Element
below e = elements_below e.place 1 (kids_of e.node)
