-- A mark that is there is found, and the others keep their indexes.
use Rattle.std.proofs.Common.{◌≡◌, ◌∙◌, sym, ap, subst, true, false, List}
use Rattle.std.specs.Prelude.{is_some, None}
use Rattle.std.specs.List.{AllByRecursion}
use Rattle.std.specs.Map.{lookup}
use Rattle.std.specs.Str.{bytes_eq}
use Rattle.reply_lines.specs.declared.reply.Reply.TheVariants.{Done, Refused}
use Rattle.reply_lines.specs.declared.reply.Refusal.TheVariants.{NoSuchName}
use Rattle.session_state.specs.KeptMarks.{marks_of, IsOwnIndex}
use Rattle.session_state.specs.Marks.{without_mark}
use Rattle.session_state.specs.State.{Mark}
use Rattle.session_state.proofs.MarkLemmas.{answered, own-less, remove-none, whatever, taken-by, with_reply, without-removed, Entry}
use Rattle.session_state.proofs.marks.Marks.remove.Goals as goal

pub invariant_of-self : goal.invariant_of-self
invariant_of-self c =
    subst (λ (es : List Entry). AllByRecursion IsOwnIndex es) (sym c.shift_remove.ensures.entries)
    (own-less c.args.name.now c.self.inside.kept.entries c.self.invariant)

pub invariant_of-self-2 : goal.invariant_of-self-2
invariant_of-self-2 c =
    subst (λ (es : List Entry). AllByRecursion IsOwnIndex es) (sym c.shift_remove.ensures.entries)
    (own-less c.args.name.now c.self.inside.kept.entries c.self.invariant)

pub returns-clause-answer : goal.returns-clause-answer
returns-clause-answer c =
    let name = c.args.name.now in
    let there = ap (λ (es : List Entry). is_some (lookup (bytes_eq name) es)) (sym c.self.view_is) ∙ ap is_some (sym c.shift_remove.ensures.value ∙ c.in-Some.is) in
    ap (λ (es : List Entry). with_reply (marks_of es) Done) c.shift_remove.ensures.entries
    ∙ (ap (λ (ms : List Mark). with_reply ms Done) (without-removed name c.self.inside.kept.entries)
    ∙ (ap (λ (es : List Entry). with_reply (without_mark name (marks_of es)) Done) c.self.view_is
    ∙ sym (taken-by c.args.self.now name true there)))

pub returns-in_default-clause-answer : goal.returns-in_default-clause-answer
returns-in_default-clause-answer c =
    let name = c.args.name.now in
    let none : lookup (bytes_eq name) c.self.inside.kept.entries ≡ None = sym c.shift_remove.ensures.value ∙ c.in_default.is in
    let absent = ap (λ (es : List Entry). is_some (lookup (bytes_eq name) es)) (sym c.self.view_is) ∙ ap is_some none in
    let same = ap marks_of (c.shift_remove.ensures.entries ∙ (remove-none name c.self.inside.kept.entries none ∙ c.self.view_is)) in
    answered c.no_such_name.result _ (marks_of c.args.self.now) (Refused (NoSuchName name)) _ (whatever c.no_such_name.result same) c.no_such_name.ensures (taken-by c.args.self.now name false absent)
