-- A name that is taken is found, and a new mark is the last one.
use Rattle.std.proofs.Common.{◌≡◌, ◌∙◌, sym, ap, refl, true, false, List, [], ◌∷◌, ◌++◌, length, arith}
use Rattle.std.specs.Prelude.{is_some, nat_le}
use Rattle.std.specs.Map.{lookup}
use Rattle.std.specs.Str.{bytes_eq}
use Rattle.std.proofs.lemmas.Bool.Decides.{nat_tests}
use Rattle.ft_base.specs.Limits.{max_marks}
use Rattle.reply_lines.specs.declared.reply.Reply.TheVariants.{Done, Refused}
use Rattle.reply_lines.specs.declared.reply.Refusal.TheVariants.{NameTaken}
use Rattle.session_state.specs.KeptMarks.{marks_of}
use Rattle.session_state.proofs.MarkLemmas.{answered, marks-more, put-by, with_reply, Entry}
use Rattle.session_state.proofs.marks.Marks.put.Goals as goal

pub returns-then-contains_key-clause-answer : goal.returns-then-contains_key-clause-answer
returns-then-contains_key-clause-answer c =
    let now = c.args.self.now in
    let name = c.in_ok-name.name in
    let same = c.in_ok-name.ensures ∙ c.as_str.ensures in
    let found = ap (λ (es : List Entry). is_some (lookup (bytes_eq name) es)) (sym c.self.view_is) ∙ (sym c.contains_key.ensures ∙ c.if-contains_key.true) in
    ap (λ n. with_reply (marks_of now) (Refused (NameTaken n))) same
    ∙ sym (put-by now name c.args.name.now c.args.collection.now.documents c.args.collection.now.abbreviations true (nat_le max_marks (length now)) same found refl)

pub returns-then-len-ge-MAX_MARKS-clause-answer : goal.returns-then-len-ge-MAX_MARKS-clause-answer
returns-then-len-ge-MAX_MARKS-clause-answer c =
    let now = c.args.self.now in
    let name = c.in_ok-name.name in
    let same = c.in_ok-name.ensures ∙ c.as_str.ensures in
    let absent = ap (λ (es : List Entry). is_some (lookup (bytes_eq name) es)) (sym c.self.view_is) ∙ (sym c.contains_key.ensures ∙ c.if-contains_key.false) in
    let long : nat_le max_marks (length c.self.inside.kept.entries) ≡ true = ap (nat_le max_marks) (sym c.len.ensures.len) ∙ grind (arith, nat_tests) in
    let full = ap (λ (es : List Entry). nat_le max_marks (length es)) (sym c.self.view_is) ∙ long in
    sym (put-by now name c.args.name.now c.args.collection.now.documents c.args.collection.now.abbreviations false true same absent full)

pub returns-clause-answer : goal.returns-clause-answer
returns-clause-answer c =
    let now = c.args.self.now in
    let name = c.in_ok-name.name in
    let documents = c.args.collection.now.documents in
    let abbreviations = c.args.collection.now.abbreviations in
    let same = c.in_ok-name.ensures ∙ c.as_str.ensures in
    let absent = ap (λ (es : List Entry). is_some (lookup (bytes_eq name) es)) (sym c.self.view_is) ∙ (sym c.contains_key.ensures ∙ c.if-contains_key.false) in
    let short : nat_le max_marks (length c.self.inside.kept.entries) ≡ false = ap (nat_le max_marks) (sym c.len.ensures.len) ∙ grind (arith, nat_tests) in
    let room = ap (λ (es : List Entry). nat_le max_marks (length es)) (sym c.self.view_is) ∙ short in
    answered c.add.result (marks_of c.add.new.self) (marks_of now ++ record { name = name; documents = documents; abbreviations = abbreviations } ∷ []) Done _
    (marks-more c.add.result now c.add.new.self (name, c.args.collection.now) c.add.ensures.entries) c.add.ensures.answer
    (put-by now name c.args.name.now documents abbreviations false false same absent room
    ∙ ap (λ n. with_reply (marks_of now ++ record { name = n; documents = documents; abbreviations = abbreviations } ∷ []) Done) (sym same))
