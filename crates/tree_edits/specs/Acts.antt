-- What an edit puts in the place of an element that was chosen.
use Rattle.std.specs.Prelude.{Bool, true, false, ◌&&◌, ◌||◌, not, List, Option, Some, None}
use Rattle.ft_base.specs.declared.ids.NodeRef.{NodeRef}
use Rattle.ordered_tree.specs.Numbered.{Numbered, Children, is_element, reference}
use Rattle.plain_tree.specs.declared.place.How.{How}
use Rattle.plain_tree.specs.declared.place.How.TheVariants as H
use Rattle.tree_edits.specs.Edits.{changed, inserted, is_among, joined}

-- the element with content inserted, or the content alone
abbrev pub act : Option How → Children → Numbered → Children
act None content n = content
act (Some how) content n = inserted how content n

-- what stands where the root stood, after the edit of these elements
abbrev pub act_on : List NodeRef → Option How → Children → Numbered → Children
act_on refs how content root = joined (changed (is_among refs) (act how content) root)

-- whether an element that was chosen stays where it stood, alone
abbrev pub stays : Option How → Bool
stays None = false
stays (Some H.First) = true
stays (Some H.Last) = true
stays (Some H.Before) = false
stays (Some H.After) = false

-- whether one element stands where the root stood
abbrev pub root_stays : List NodeRef → Option How → Numbered → Bool
root_stays refs how root = is_element root && (stays how || not (is_among refs (reference root)))
