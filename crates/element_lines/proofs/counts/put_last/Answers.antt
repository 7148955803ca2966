-- The name that came last has its count, and each other name the count that it had.
use Rattle.std.proofs.Common.{Some, ap, sym, ◌∙◌, cond}
use Rattle.std.specs.Prelude.{unwrap_or}
use Rattle.std.specs.HashMap.{get_by}
use Rattle.std.specs.Str.{bytes_eq}
use Rattle.std.proofs.lemmas.Map.Text.{hash_map_updates_str}
use Rattle.element_lines.specs.steps.Counts.{count_among, is_last}
use Rattle.element_lines.proofs.CountLemmas.{among-put}
use Rattle.element_lines.proofs.counts.put_last.Goals as goal

pub returns-in_ok-insert : goal.returns-in_ok-insert
returns-in_ok-insert c = λ other.
    let old = c.args.counts.now in
    ap (λ o. unwrap_or o 0) (hash_map_updates_str c.in-Some.last.now old.others c.insert.new.self (Some old.number) c.in_ok-insert.ensures.updates other)
    ∙ among-put (bytes_eq c.in-Some.last.now other) old.number (get_by (λ k. bytes_eq other k.now) old.others)
    ∙ ap (λ l. cond (is_last l other) old.number (count_among old.others other)) (sym c.in-Some.is)
