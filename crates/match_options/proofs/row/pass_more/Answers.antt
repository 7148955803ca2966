-- One place more from the end.
use Rattle.std.proofs.Common.{◌≡◌, ◌+◌, ◌-◌, ◌<◌, ◌&&◌, sym, ◌∙◌, ap, arith, length, drop, length-drop, length-set}
use Rattle.std.specs.Prelude.{nat_lt, if◌then◌else◌}
use Rattle.match_options.specs.Wildcards.{fits_gap}
use Rattle.match_options.specs.steps.Row.{at_place, nearest, reaches}
use Rattle.match_options.proofs.RowLemmas.{nearest_more, end_told, end_left, few_more}
use Rattle.match_options.proofs.row.pass_more.Goals as goal

pub loop-passed-preserved : goal.loop-passed-preserved
loop-passed-preserved c =
    let old = c.args.row.now in
    let row = c.loop-passed.row in
    let passed = c.loop-passed.passed in
    let place = length row - 1 - passed in
    let size = c.loop-passed.invariant.size in
    let at : place ≡ length old - (passed + 1) = omega (arith, size) in
    let before : place < length old = omega (arith, size, c.loop-passed-test.true) in
    let before_row : place < length row = omega (arith, size, c.loop-passed-test.true) in
    let next : length old - passed ≡ place + 1 = omega (arith, size, c.loop-passed-test.true) in
    let far_is : c.one_before-far.result ≡ nearest (drop place old) =
    c.one_before-far.ensures
    ∙ ap (λ b. if b then 0 else c.loop-passed.far + 1) (c.loop-passed.invariant.left place (omega (arith, next)))
    ∙ ap (λ n. if at_place old place then 0 else n + 1) (c.loop-passed.invariant.far ∙ ap (λ n. nearest (drop n old)) next)
    ∙ sym (nearest_more old place before) in
    let left_over : length row - place ≡ length (drop place old) = omega (arith, size, length-drop place old) in
    let is : c.is_reached.result ≡ reaches c.args.low c.args.high (drop place old) =
    c.is_reached.ensures
    ∙ ap (λ n. nat_lt n (length row - place) && fits_gap c.args.low c.args.high (c.args.low + n)) far_is
    ∙ ap (λ n. nat_lt (nearest (drop place old)) n && fits_gap c.args.low c.args.high (c.args.low + nearest (drop place old))) left_over in
    record {
      size = length-set row place c.is_reached.result ∙ size;
      few = rw c.one_before-far.ensures (few_more (at_place row place) c.loop-passed.far passed c.loop-passed.invariant.few);
      far = far_is ∙ ap (λ n. nearest (drop n old)) at;
      known = λ p more. end_told (λ q. reaches c.args.low c.args.high (drop q old)) old row place c.is_reached.result before_row is
          (λ q suffix. c.loop-passed.invariant.known q (omega (arith, suffix, next))) p (omega (arith, more, at));
      left = λ p less. end_left (λ q. reaches c.args.low c.args.high (drop q old)) old row place c.is_reached.result before_row is
          (λ q prefix. c.loop-passed.invariant.left q (omega (arith, prefix, next))) p (omega (arith, less, at));
    }
