-- What holds of one of the choices that are left holds of one of all.
use Rattle.std.proofs.Common.{◌≡◌, Bool, true, drop}
use Rattle.std.specs.List.{list_any}
use Rattle.ft_base.specs.declared.options.ThesaurusUse.{ThesaurusUse}
use Rattle.plan_compiler.proofs.reaching.is_among.Given as goal

abbrev pub invariant-loop-other : goal.invariant-loop-other
invariant-loop-other l = (holds : ThesaurusUse → Bool) → list_any holds (drop l.other-index l.others) ≡ true → list_any holds l.others ≡ true
