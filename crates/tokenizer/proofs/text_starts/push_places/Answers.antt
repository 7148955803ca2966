-- Each place is after the last one, as the places ascend, and none is greater than the last of them.
use Rattle.std.proofs.Common.{◌≡◌, ◌+◌, ◌<◌, ◌≤◌, true, All, drop, sym, ap, ◌∙◌, subst, arith}
use Rattle.ft_base.specs.Places.{is_ascending, last_place}
use Rattle.tokenizer.proofs.PushLemmas.{last-pushed, left-head, next-above, next-most, pushed-done, rest-above}
use Rattle.tokenizer.proofs.text_starts.push_places.Goals as goal

pub overflow_add-before : goal.overflow_add-before
overflow_add-before c =
    let items = c.as_slice-place-items.result.now in
    let same = c.as_slice-place-items.ensures.value in
    let fits = next-most c.args.before items c.loop-place.place-index c.loop-place-test.true 4294967295 (rw same c.as_slice-place-items.ensures.ascending)
    (rw same (λ x h. let few = c.requires.few x h in omega (arith, few))) in
    omega (arith, fits)

pub push-requires : goal.push-requires
push-requires c x last =
    next-above c.args.before c.as_slice-place-items.result.now c.loop-place.place-index c.loop-place-test.true x (c.loop-place.invariant.above x last)

pub returns-in_err-push-clause-most : goal.returns-in_err-push-clause-most
returns-in_err-push-clause-most c most old added x last =
    c.loop-place.invariant.most most old added x (ap last_place (sym c.in_err-push.ensures.err) ∙ last)

pub loop-place-preserved : goal.loop-place-preserved
loop-place-preserved c =
    let items = c.as_slice-place-items.result.now in
    let i = c.loop-place.place-index in
    let same = c.as_slice-place-items.ensures.value in
    let up : is_ascending items ≡ true = rw same c.as_slice-place-items.ensures.ascending in
    let pushed = c.in_ok-push.ensures.ok in
    record {
      done = pushed-done c.args.before _ (drop i items) (drop (i + 1) items) c.loop-place.places c.push.new.self _ (left-head c.args.before items i c.loop-place-test.true) pushed c.loop-place.invariant.done;
      above = λ x last. subst (λ n. All (λ p. n < c.args.before + p) (drop (i + 1) items)) (last-pushed c.loop-place.places c.push.new.self _ x pushed last)
          (rest-above c.args.before items i c.loop-place-test.true up);
      most = λ most old added x last. subst (λ n. n ≤ most) (last-pushed c.loop-place.places c.push.new.self _ x pushed last)
          (next-most c.args.before items i c.loop-place-test.true most up (rw same added));
    }
