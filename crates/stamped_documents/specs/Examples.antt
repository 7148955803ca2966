-- Documents for examples of stamps.
use Rattle.std.specs.Prelude.{[], codes}
use Rattle.path_meaning.specs.Collection.{Named}
use Rattle.plain_tree.specs.Document.{element, no_nodes}

abbrev pub first_named : Named
first_named = record { name = codes "a"; root = element (codes "d") [] no_nodes }

abbrev pub second_named : Named
second_named = record { name = codes "b"; root = element (codes "d") [] no_nodes }
