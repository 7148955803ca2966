-- The number that was parsed is the one that the word is.
use Rattle.std.proofs.Common.{◌≡◌, ◌∙◌, sym, subst, true, false}
use Rattle.made_sessions.specs.Asked.{is_count}
use Rattle.made_sessions.proofs.Counts.{found, not_found, parsed}
use Rattle.made_sessions.proofs.asked.count_in.Goals as goal

pub returns-in-Ok : goal.returns-in-Ok
returns-in-Ok c = found c.in-Ok.count c.args.word.now (sym c.is_count.ensures ∙ c.if-is_count.true)

pub returns-in_default : goal.returns-in_default
returns-in_default c = not_found c.args.word.now (λ n is.
    let as_number = parsed n c.args.word.now c.parse.result c.parse.ensures.value.0 is in
    let result = c.in-Ok.is in
    let same : n ≡ c.in-Ok.count = cc in
    let holds : is_count c.in-Ok.count c.args.word.now ≡ true = subst (λ k. is_count k c.args.word.now ≡ true) same is in
    let fails : is_count c.in-Ok.count c.args.word.now ≡ false = sym c.is_count.ensures ∙ c.if-is_count.false in
    let no : ⊥ = cc in no)

pub returns-in_default-2 : goal.returns-in_default-2
returns-in_default-2 c = not_found c.args.word.now (λ n is.
    let as_number = parsed n c.args.word.now c.parse.result c.parse.ensures.value.0 is in
    let result = c.in_default.is in
    let no : ⊥ = cc in no)
