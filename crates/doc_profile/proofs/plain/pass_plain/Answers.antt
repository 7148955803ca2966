-- A run is taken in a text.
use Rattle.std.proofs.Common.{◌≡◌, ℕ, List, ◌++◌, take, sym, ◌∙◌, ap, take-append-drop, string_bytes}
use Rattle.doc_grammar.specs.steps.Machine.{State}
use Rattle.doc_profile.specs.steps.Plain.{Passed}
use Rattle.doc_profile.specs.steps.View.{place_of, phase_of}
use Rattle.doc_profile.proofs.plain.pass_plain.Goals as goal

pub returns : goal.returns
returns c =
    let rest = c.args.rest.now in
    let run = take c.plain_len.result rest in
    let split = sym (take-append-drop c.plain_len.result rest) ∙ ap (λ (z : List ℕ). run ++ z) (sym c.split_at.ensures.back) in
    let pushed = c.in_ok-push_str.ensures.bytes ∙ ap (λ (z : List ℕ). string_bytes c.args.reader.now.text ++ z) c.split_at.ensures.front in
    Passed.run run c.if-after_return.false (sym c.is_in_text.ensures ∙ c.if-not-is_in_text.false) c.plain_len.ensures.plain split
    (ap (λ (z : List ℕ). record { place = record { kids = (place_of c.args.reader.now).kids; text = z; outer = (place_of c.args.reader.now).outer }; phase = phase_of c.args.reader.now }) pushed)
