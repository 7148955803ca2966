-- The numbers that are found are those of the key's terms.
use Rattle.std.proofs.Common.{sym, ◌∙◌, arith}
use Rattle.index_versions.specs.Versions.{terms_of}
use Rattle.plan_runs.proofs.ChoosingLemmas.{found_within}
use Rattle.plan_runs.proofs.MarkLemmas.{key_marked, no_term}
use Rattle.plan_runs.proofs.stem_terms.mark_terms.Goals as goal

pub mark_numbers-requires-clause-within : goal.mark_numbers-requires-clause-within
mark_numbers-requires-clause-within c =
    omega (arith, c.requires, (found_within c.args.key.now (terms_of c.args.version.now) c.in-Some.numbers (sym c.find_term.ensures ∙ c.in-Some.is)).1)

pub returns-in-Some-clause-all : goal.returns-in-Some-clause-all
returns-in-Some-clause-all c =
    key_marked c.args.version.now c.args.key.now c.in-Some.numbers c.mark_numbers.new.marks.items (sym c.find_term.ensures ∙ c.in-Some.is) c.mark_numbers.ensures.all

pub returns-in_default-clause-all : goal.returns-in_default-clause-all
returns-in_default-clause-all c = no_term c.args.version.now c.args.key.now c.args.marks.now.items (sym c.find_term.ensures ∙ c.in_default.is)
