-- The count and the least bad place, one string further.
use Rattle.std.proofs.Common.{ap, ◌∙◌}
use Rattle.selection_faults.specs.Strings.{written, phrases_of}
use Rattle.selection_faults.specs.steps.Walk.{counted, bad_after}
use Rattle.selection_faults.specs.declared.strings.StringWalk.{StringWalk}
use Rattle.selection_faults.proofs.strings.after_string.Goals as goal

pub returns : goal.returns
returns c =
    let walk = c.args.walk in
    let s = written c.args.mode c.args.wildcards c.args.string.now in
    ap (λ (known : StringWalk). record known { bad_at = c.bad_after.result }) (c.count-counted.ensures ∙ ap (λ phrases. counted walk phrases s.string.at) c.in_ok-phrases.ensures)
    ∙ ap (λ bad. record (counted walk (phrases_of s) s.string.at) { bad_at = bad }) (c.bad_after.ensures ∙ ap (λ bad. bad_after walk.bad_at bad s.string.at) (c.in_ok-is_bad.ensures c.args.mode))
