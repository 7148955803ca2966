-- One word more, and all twenty.
use Rattle.std.proofs.Common.{◌≡◌, ℕ, ◌+◌, ◌-◌, ◌++◌, List, ap, sym, ◌∙◌, arith}
use Rattle.std.proofs.lemmas.List.{append_assoc}
use Rattle.std.specs.Prelude.{codes, flat_map, string_bytes}
use Rattle.std.specs.List.{range_with_len}
use Rattle.made_sessions.specs.Made.{word, words}
use Rattle.made_sessions.proofs.Ranges.{made_more}
use Rattle.made_sessions.proofs.document.push_words.Goals as goal

further_word : ℕ → ℕ → List ℕ
further_word first further = codes " " ++ word (first + further)

pub loop-further-preserved : goal.loop-further-preserved
unfolding further_word
loop-further-preserved c =
    let f : ℕ → List ℕ = further_word c.args.first in
    let before = string_bytes c.push_word.new.text in
    c.in_ok-push_further_word.ensures
    ∙ ap (λ bytes. bytes ++ f c.loop-further.further) c.loop-further.invariant
    ∙ append_assoc before (flat_map f (range_with_len 1 (c.loop-further.further - 1))) (f c.loop-further.further)
    ∙ ap (λ bytes. before ++ bytes) (sym (made_more f 1 c.loop-further.further c.loop-further.auto.further))

pub returns : goal.returns
unfolding further_word words
returns c =
    let f : ℕ → List ℕ = further_word c.args.first in
    let end : c.loop-further.further ≡ 20 = omega (arith, c.loop-further-test.false, c.loop-further.auto.further-end (omega arith)) in
    let none : c.args.first ≡ c.args.first + 0 = omega arith in
    c.loop-further.invariant
    ∙ ap (λ n. string_bytes c.push_word.new.text ++ flat_map f (range_with_len 1 (n - 1))) end
    ∙ ap (λ bytes. bytes ++ flat_map f (range_with_len 1 19)) c.in_ok-push_word.ensures
    ∙ append_assoc (string_bytes c.args.text.now) (word c.args.first) (flat_map f (range_with_len 1 19))
    ∙ ap (λ n. string_bytes c.args.text.now ++ (word n ++ flat_map f (range_with_len 1 19))) none
