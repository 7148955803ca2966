-- A character that is refused, one that is taken, and the end.
use Rattle.std.proofs.Common.{rules, ◌≡◌, ◌+◌, ◌-◌, length, Some, None, Err, List, ℕ, refl, sym, ◌∙◌, ap, subst, arith}
use Rattle.std.proofs.lemmas.List.{length-append}
use Rattle.std.proofs.lemmas.Str.{length-encode, len_utf8_bounds}
use Rattle.std.specs.Prelude.{false, encode_utf8}
use Rattle.std.specs.Str.{chars}
use Rattle.doc_profile.specs.Readings.{passes, taken, walk}
use Rattle.doc_profile.specs.steps.View.{kind_of, state_of}
use Rattle.doc_profile.proofs.Left.{Left, left_all, left_counted, left_further, left_refused, left_stopped, left_nothing, stepped_false, stepped_true, begun_none, faults_by}
use Rattle.doc_profile.proofs.PlainRuns.{left_passed, passed_length}
use Rattle.doc_profile.proofs.read.read_text.Goals as goal

pub loop-c-init : goal.loop-c-init
loop-c-init c =
    let whole = left_all c.args.text.now (state_of c.args.reader.now) c.args.from c.utf8.text (begun_none (kind_of c.args.reader.now.fragment) (state_of c.args.reader.now) c.requires.start) in
    record {
      text = search rules;
      within = omega arith;
      left = subst (λ (n : ℕ). Left c.args.text.now (state_of c.args.reader.now) false n 0 (walk (chars c.args.text.now) (state_of c.args.reader.now) false c.args.from)) (omega arith) whole;
    }

pub count-requires : goal.count-requires
count-requires c = left_counted c.in-Some.c c.loop-c.invariant.left

pub returns-in-Err : goal.returns-in-Err
returns-in-Err c =
    let all = walk (chars c.args.text.now) (state_of c.args.reader.now) false c.args.from in
    faults_by all c.in-Err.fault (λ _. left_stopped c.in-Some.c c.in-Some.suffix.now c.in-Err.fault c.loop-c.invariant.left c.in-Some.ensures.some c.in-Err.ensures.err)

pub returns-then-not-branch : goal.returns-then-not-branch
returns-then-not-branch c =
    let refused = stepped_false c.in_ok-take.field-0 (taken (state_of c.loop-c.reader) c.loop-c.after_return c.in-Some.c) (state_of c.take.new.reader) c.in_ok-take.ensures c.if-not-branch.true in
    left_refused c.in-Some.c c.in-Some.suffix.now c.loop-c.invariant.left c.in-Some.ensures.some c.in-Ok.ensures.ok refused

pub loop-c-smaller : goal.loop-c-smaller
loop-c-smaller c = omega (arith, ap (λ (z : List ℕ). length z) c.in-Some.ensures.some, length-append (encode_utf8 c.in-Some.c) c.in-Some.suffix.now, length-encode c.in-Some.c, (len_utf8_bounds c.in-Some.c).0, passed_length _ _ _ _ _ c.in_ok-rest.ensures)

pub loop-c-preserved : goal.loop-c-preserved
loop-c-preserved c =
    let some = c.in-Some.ensures.some in
    let at = c.args.from + (length c.args.text.now - length c.loop-c.rest.now) in
    let further = left_further c.in-Some.c c.in-Some.suffix.now (state_of c.take.new.reader) c.in-Ok.more (at + length (encode_utf8 c.in-Some.c)) c.loop-c.invariant.left some c.in-Ok.ensures.ok
    (stepped_true c.in_ok-take.field-0 (taken (state_of c.loop-c.reader) c.loop-c.after_return c.in-Some.c) (state_of c.take.new.reader) c.in_ok-take.ensures c.if-not-branch.false) c.in-Ok.ensures.count refl in
    let shorter = passed_length _ _ _ _ _ c.in_ok-rest.ensures in
    let longer = ap (λ (z : List ℕ). length z) some ∙ length-append (encode_utf8 c.in-Some.c) c.in-Some.suffix.now in
    record {
      text = search rules;
      within = omega (arith, shorter, longer, c.loop-c.invariant.within);
      left = left_passed c.in-Some.suffix.now c.in_ok-rest.rest.now (state_of c.take.new.reader) (state_of c.pass_plain.new.reader) _ (at + length (encode_utf8 c.in-Some.c)) (c.args.from + (length c.args.text.now - length c.in_ok-rest.rest.now)) c.in-Ok.more _ further c.in_ok-rest.ensures
          (omega (arith, shorter, longer, c.loop-c.invariant.within));
    }

pub returns : goal.returns
returns c = left_nothing c.loop-c.invariant.left c.in_default.ensures.none
