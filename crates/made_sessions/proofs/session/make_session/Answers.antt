-- One document more, and the commands after all of them.
use Rattle.std.proofs.Common.{◌≡◌, ◌-◌, ◌++◌, ap, sym, ◌∙◌, arith}
use Rattle.std.specs.Prelude.{flat_map}
use Rattle.std.specs.List.{range_with_len}
use Rattle.made_sessions.specs.Made.{commands, document, line}
use Rattle.made_sessions.proofs.Ranges.{made_more}
use Rattle.made_sessions.proofs.session.make_session.Goals as goal

pub loop-number-preserved : goal.loop-number-preserved
loop-number-preserved c =
    c.in_ok-push_document.ensures
    ∙ ap (λ bytes. bytes ++ document c.loop-number.number) c.loop-number.invariant
    ∙ sym (made_more document 1 c.loop-number.number c.loop-number.auto.number)

pub returns : goal.returns
returns c =
    let end : c.loop-number.number - 1 ≡ c.args.count = omega (arith, c.requires.some, c.loop-number-test.false, c.loop-number.auto.number-end (omega (arith, c.requires.some))) in
    c.from_vec.ensures
    ∙ (λ i. (c.into_bytes.ensures.value i).items)
    ∙ c.in_ok-push_str.ensures.bytes
    ∙ ap (λ bytes. bytes ++ flat_map line commands) (c.loop-number.invariant ∙ ap (λ n. flat_map document (range_with_len 1 n)) end)
