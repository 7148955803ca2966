-- Where the words of a node end.
use Rattle.std.proofs.Common.{◌<◌, ◌==◌, true, false, List, [], ◌∷◌, arith, if◌then◌else◌}
use Rattle.ft_base.specs.declared.ids.NodeRef.{NodeRef}
use Rattle.ordered_tree.specs.Numbered.{Numbered}
use Rattle.ordered_tree.specs.Stands.{span}
use Rattle.path_nodes.specs.References.{Spot, spot_reference, spots_in}
use Rattle.session_state.specs.SelectionTests.{span_among, span_at}

ends-suffix : (r : NodeRef) (spots : List Spot) → 0 < (span_among r spots).to
ends-suffix r [] = omega arith
ends-suffix r (s ∷ rest) = elim ((spot_reference s).0 == r.0) as (λ t. 0 < (if t then span s.stand else span_among r rest).to) [ true ↦ omega arith | false ↦ ends-suffix r rest ]

-- no span ends at 0
pub span-suffix : (root : Numbered) (r : NodeRef) → 0 < (span_at root r).to
span-suffix root r = ends-suffix r (spots_in root)
