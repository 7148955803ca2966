-- Each start that stays is after the last one, as the places ascend, and none is greater than the last of them.
use Rattle.std.proofs.Common.{◌≡◌, ℕ, ◌+◌, ◌<◌, ◌≤◌, ◌∷◌, ◌++◌, [], true, All, map, length, drop, get_or, sym, ap, ◌∙◌, append-nil, subst, arith}
use Rattle.std.proofs.lemmas.List.Elements.{All-tail}
use Rattle.ft_base.specs.Places.{is_ascending, last_place}
use Rattle.tokenizer.specs.steps.TextsKnown.{staying}
use Rattle.tokenizer.proofs.PeriodsLemmas.{not-false, not-true, staying-done, staying-few, staying-kept, staying-left}
use Rattle.tokenizer.proofs.PushLemmas.{last-pushed, left-head, next-above, next-most, pushed-done, rest-above}
use Rattle.tokenizer.proofs.text_starts.TextStarts.push_sentences.Goals.{then-is_start+in_ok-push, else-is_start}
use Rattle.tokenizer.proofs.text_starts.TextStarts.push_sentences.Goals as goal

pub overflow_add-before : goal.overflow_add-before
overflow_add-before c =
    let places = c.args.self.now.after.breaks.sentences in
    let i = c.loop-number.number in
    let same = c.as_slice-starts.ensures.value in
    let more : i < length places = subst (λ l. i < length l) same c.loop-number-test.true in
    let few = c.requires.few in
    let fits = next-most c.args.before places i more 4294967295 c.as_slice-starts.ensures.ascending (λ x last. let h = c.args.self.now.after.sentences_after x last in omega (arith, h, few)) in
    omega (arith, fits, ap (λ l. get_or l i 0) same)

pub push-requires : goal.push-requires
push-requires c x last =
    let places = c.args.self.now.after.breaks.sentences in
    let i = c.loop-number.number in
    let same = c.as_slice-starts.ensures.value in
    let more : i < length places = subst (λ l. i < length l) same c.loop-number-test.true in
    subst (λ l. x < c.args.before + get_or l i 0) (sym same) (next-above c.args.before places i more x (c.loop-number.invariant.above x last))

pub returns-in_err-push-clause-most : goal.returns-in_err-push-clause-most
returns-in_err-push-clause-most c most old words x last =
    c.loop-number.invariant.most most old words x (ap last_place (sym c.in_err-push.ensures.err) ∙ last)

pub overflow_add-count : goal.overflow_add-count
overflow_add-count c =
    let self = c.args.self.now in
    let i = c.loop-number.number in
    let more : i < length self.after.breaks.sentences = subst (λ l. i < length l) c.as_slice-starts.ensures.value c.loop-number-test.true in
    let few = staying-few c.args.abbreviations.now c.args.text.now self.after.breaks.sentences self.by_period.items in
    let counted = self.begun.counted in
    let some : 0 < self.after.words = omega (arith, more, counted, self.after.sentences_few) in
    omega (arith, few, counted, c.loop-number.invariant.counted, self.begun.sentences_few some, c.requires.few)

pub loop-number-preserved : goal.loop-number-preserved
loop-number-preserved c =
    let self = c.args.self.now in
    let places = self.after.breaks.sentences in
    let i = c.loop-number.number in
    let before = c.args.before in
    let stay = λ (n : ℕ). staying c.args.abbreviations.now c.args.text.now (drop n places) (drop n self.by_period.items) in
    let same = c.as_slice-starts.ensures.value in
    let up : is_ascending places ≡ true = c.as_slice-starts.ensures.ascending in
    let more : i < length places = subst (λ l. i < length l) same c.loop-number-test.true in
    let invariant = c.loop-number.invariant in
    elim c.if-is_start.branch [
      | then-is_start+in_ok-push w ↦
          let step : stay i ≡ get_or places i 0 ∷ stay (i + 1) = staying-kept c.args.abbreviations.now c.args.text.now places self.by_period.items i more self.told (not-true _ (sym c.in_ok-is_start.ensures ∙ w.if-is_start.true)) in
          let pushed : c.if-is_start.places ≡ c.loop-number.places ++ (before + get_or places i 0) ∷ [] =
          w.places-is ∙ w.in_ok-push.ensures.ok ∙ ap (λ l. c.loop-number.places ++ (before + get_or l i 0) ∷ []) same in
          record {
            done = pushed-done before (get_or places i 0) (stay i) (stay (i + 1)) c.loop-number.places _ _ step pushed invariant.done;
            counted = omega (arith, w.count-is, invariant.counted, ap length step);
            above = λ x last. subst (λ n. All (λ p. n < before + p) (drop (i + 1) places)) (last-pushed c.loop-number.places _ _ x pushed last) (rest-above before places i more up);
            most = λ most old words x last. subst (λ n. n ≤ most) (last-pushed c.loop-number.places _ _ x pushed last)
                (next-most before places i more most up (λ y h. let least = self.after.sentences_after y h in omega (arith, least, words)));
          }
      | else-is_start w ↦
          let step : stay i ≡ stay (i + 1) = staying-left c.args.abbreviations.now c.args.text.now places self.by_period.items i more self.told (not-false _ (sym c.in_ok-is_start.ensures ∙ w.if-is_start.false)) in
          record {
            done = ap (λ l. l ++ map (λ p. before + p) (stay (i + 1))) w.places-is ∙ ap (λ l. c.loop-number.places ++ map (λ p. before + p) l) (sym step) ∙ invariant.done;
            counted = omega (arith, w.count-is, invariant.counted, ap length step);
            above = λ x last. All-tail (λ p. x < before + p) (get_or places i 0) (drop (i + 1) places)
                (subst (All (λ p. x < before + p)) (left-head before places i more) (invariant.above x (ap last_place (sym w.places-is) ∙ last)));
            most = λ most old words x last. invariant.most most old words x (ap last_place (sym w.places-is) ∙ last);
          }
    ]

pub returns-clause-ok : goal.returns-clause-ok
returns-clause-ok c =
    let self = c.args.self.now in
    let done : length self.after.breaks.sentences ≤ c.loop-number.number = omega (arith, c.loop-number-test.false, ap length c.as_slice-starts.ensures.value) in
    let ended = staying-done c.args.abbreviations.now c.args.text.now self.after.breaks.sentences self.by_period.items c.loop-number.number done in
    sym (append-nil _) ∙ ap (λ l. c.loop-number.places ++ map (λ p. c.args.before + p) l) (sym ended) ∙ c.loop-number.invariant.done

pub returns-clause-count : goal.returns-clause-count
returns-clause-count c =
    let self = c.args.self.now in
    let done : length self.after.breaks.sentences ≤ c.loop-number.number = omega (arith, c.loop-number-test.false, ap length c.as_slice-starts.ensures.value) in
    let ended = staying-done c.args.abbreviations.now c.args.text.now self.after.breaks.sentences self.by_period.items c.loop-number.number done in
    omega (arith, c.loop-number.invariant.counted, ap length ended)
