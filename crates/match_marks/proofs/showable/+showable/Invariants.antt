-- The parts so far can be shown.
use Rattle.std.proofs.Common.{◌≡◌, drop, map}
use Rattle.ft_syntax.specs.View.{form, forms_of}
use Rattle.best_hits.specs.Showable.{each_can_show_in}
use Rattle.match_marks.proofs.showable.+showable.Given as goal

abbrev pub invariant-each_can_show_in-loop-part : goal.invariant-each_can_show_in-loop-part
invariant-each_can_show_in-loop-part l =
    each_can_show_in l.times l.nots (forms_of (map form (drop l.part-index l.part-items))) ≡ each_can_show_in l.times l.nots (forms_of (map form l.fn.parts))
