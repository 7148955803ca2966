-- One paragraph more, and all ten.
use Rattle.std.proofs.Common.{◌≡◌, ℕ, ◌+◌, ◌*◌, ◌++◌, List, ap, sym, ◌∙◌, arith}
use Rattle.std.proofs.lemmas.List.{append_assoc}
use Rattle.std.specs.Prelude.{flat_map, string_bytes}
use Rattle.std.specs.List.{range_with_len}
use Rattle.made_sessions.specs.Made.{paragraph, paragraphs}
use Rattle.made_sessions.proofs.Ranges.{made_from_zero}
use Rattle.made_sessions.proofs.document.push_paragraphs.Goals as goal

further_paragraph : ℕ → ℕ → List ℕ
further_paragraph first further = paragraph (first + 20 * further)

pub loop-further-preserved : goal.loop-further-preserved
unfolding further_paragraph
loop-further-preserved c =
    let f : ℕ → List ℕ = further_paragraph c.args.first in
    let before = string_bytes c.args.text.now in
    c.in_ok-push_paragraph.ensures
    ∙ ap (λ bytes. bytes ++ f c.loop-further.further) c.loop-further.invariant
    ∙ append_assoc before (flat_map f (range_with_len 0 c.loop-further.further)) (f c.loop-further.further)
    ∙ ap (λ bytes. before ++ bytes) (sym (made_from_zero f c.loop-further.further))

pub returns : goal.returns
unfolding further_paragraph paragraphs
returns c =
    let f : ℕ → List ℕ = further_paragraph c.args.first in
    let end : c.loop-further.further ≡ 10 = omega (arith, c.loop-further-test.false, c.loop-further.auto.further-end) in
    c.loop-further.invariant
    ∙ ap (λ n. string_bytes c.args.text.now ++ flat_map f (range_with_len 0 n)) end
