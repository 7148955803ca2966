-- What is put is marked, where the run says that the tokens satisfy the selection.
use Rattle.std.proofs.Common.{◌∙◌, ap, sym, List, ◌++◌}
use Rattle.ft_base.specs.declared.span.Span.{Span}
use Rattle.match_marks.specs.steps.ShownRuns.{showing}
use Rattle.match_marks.proofs.MarksLemmas.{marked_some, shown_may}
use Rattle.match_marks.proofs.marks.best_places.Goals as goal

pub put_shown-requires : goal.put_shown-requires
put_shown-requires g c = shown_may c.args.run.now c.args.doc.0 c.args.span c.requires.there c.requires.inside (showing c.args.shown.now) c.requires.shows

pub returns-clause-says : goal.returns-clause-says
returns-clause-says g c =
    marked_some c.args.run.now c.args.doc.0 c.args.span c.requires.there c.requires.inside (showing c.args.shown.now) c.put_shown.new.spans.items c.requires.shows
    (sym c.test.ensures.says ∙ c.if-not-test.false)
    (c.in_ok-put_shown.ensures.spans ∙ ap (λ (list : List Span). list ++ (showing c.args.shown.now).spans c.args.doc.0 c.args.span) c.new-spans.ensures.items)
