-- What is in the set at the end are the lines that aren't among those of the others.
use Rattle.std.proofs.Common.{◌≡◌, ◌||◌, ◌++◌, ap, ◌∙◌, subst}
use Rattle.std.specs.Prelude.{OnOk}
use Rattle.std.specs.List.{list_any}
use Rattle.std.specs.Str.{bytes_eq}
use Rattle.standing_queries.specs.Answers.{all_lines}
use Rattle.standing_queries.specs.Changes.{behind, is_among}
use Rattle.standing_queries.specs.steps.Staying.{changed_lines, has_line, is_in}
use Rattle.standing_queries.proofs.SetLemmas.{left-in-set}
use Rattle.standing_queries.proofs.standing.push_missing.Goals as goal

pub returns : goal.returns
returns c =
    let xs = changed_lines (is_in c.args.staying.now) c.args.answers.now in
    subst (λ l. OnOk c.push_changed.result (c.push_changed.new.out ≡ c.args.out.now ++ behind c.args.mark.now l))
    (left-in-set (has_line c.take_all.new.set) (has_line c.put_changed.new.set) (all_lines c.args.others.now) xs
    (λ x. c.in_ok-put_changed.ensures x ∙ ap (λ ks. is_among xs x || list_any (λ k. bytes_eq x k.now) ks) c.new-set.ensures.empty)
    c.take_all.ensures)
    c.push_changed.ensures
