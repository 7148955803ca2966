-- One more plain character stands at the front.
use Rattle.std.proofs.Common.{◌≡◌, ℕ, ◌+◌, ◌≤◌, ◌<◌, Bool, true, List, [], ◌∷◌, ◌++◌, length, take, get_or, refl, sym, ◌∙◌, ap, arith}
use Rattle.std.proofs.lemmas.Bool.Decides.{nat_tests}
use Rattle.std.proofs.lemmas.Str.{IsCharBoundary-start, IsCharBoundary-after_ascii}
use Rattle.std.specs.List.{list_all}
use Rattle.doc_profile.specs.steps.Plain.{is_plain}
use Rattle.doc_profile.proofs.PlainRuns.{prefix_further, plain_ascii}
use Rattle.doc_profile.proofs.plain.plain_len.Goals as goal

pub loop-at-init : goal.loop-at-init
loop-at-init c = record { within = omega arith; boundary = IsCharBoundary-start c.args.text.now c.utf8.text; plain = refl }

pub loop-at-preserved : goal.loop-at-preserved
loop-at-preserved c =
    let value = c.as_bytes-bytes.ensures.value in
    let inside : c.loop-at.at < length c.args.text.now = omega (arith, c.loop-at-test.true, ap (λ (z : List ℕ). length z) value) in
    let plain : is_plain (get_or c.args.text.now c.loop-at.at 0) ≡ true = ap (λ (z : List ℕ). is_plain (get_or z c.loop-at.at 0)) (sym value) ∙ sym c.is_plain.ensures ∙ c.if-is_plain.true in
    record {
      within = omega (arith, inside);
      boundary = IsCharBoundary-after_ascii c.args.text.now c.loop-at.at c.utf8.text inside (plain_ascii (get_or c.args.text.now c.loop-at.at 0) plain);
      plain = prefix_further c.args.text.now c.loop-at.at 0 inside c.loop-at.invariant.plain plain;
    }
