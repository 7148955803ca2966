-- A quotation mark that another one follows says one.
use Rattle.std.proofs.Common.{◌∙◌, ◌++◌, rules, arith}
use Rattle.std.proofs.lemmas.Str.{encode_ascii}
use Rattle.std.specs.Prelude.{string_bytes}
use Rattle.session_text.proofs.QuotedLemmas.{read_on}
use Rattle.session_text.proofs.quoted.read_quoted.Goals as goal

pub split_at_mark-requires-text-text : goal.split_at_mark-requires-text-text
split_at_mark-requires-text-text c κs = c.loop-before.invariant.text

pub loop-before-preserved : goal.loop-before-preserved
loop-before-preserved c = record {
  read = read_on c.args.text.now (string_bytes c.loop-before.said) c.in-Some.before.now c.in-Some.after.now c.in-Some-behind_mark.next.now (string_bytes c.push.new.self) c.loop-before.rest.now
      c.loop-before.invariant.read c.in-Some.ensures.said c.in-Some-behind_mark.ensures.some.0 c.in-Some-behind_mark.ensures.some.1
      (c.in_ok-push.ensures.bytes ∙ (λ i. c.in_ok-push_str.ensures.bytes i ++ encode_ascii 34 (omega arith) i));
  text = search rules;
}
