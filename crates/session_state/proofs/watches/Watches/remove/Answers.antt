-- A watch that is there is found, and is gone then.
use Rattle.std.proofs.Common.{◌≡◌, ◌∙◌, sym, ap, true, false, List}
use Rattle.std.specs.Prelude.{is_some, None}
use Rattle.std.specs.Map.{lookup}
use Rattle.std.specs.Str.{bytes_eq}
use Rattle.reply_lines.specs.declared.reply.Reply.TheVariants.{Done, Refused}
use Rattle.reply_lines.specs.declared.reply.Refusal.TheVariants.{NoSuchName}
use Rattle.session_state.specs.KeptWatches.{watches_of}
use Rattle.session_state.specs.State.{Watch}
use Rattle.session_state.specs.Watches.{without_watch}
use Rattle.session_state.proofs.MarkLemmas.{answered, whatever, with_reply}
use Rattle.session_state.proofs.WatchLemmas.{remove-none, taken-by, without-removed, Entry}
use Rattle.session_state.proofs.watches.Watches.remove.Goals as goal

pub returns-clause-answer : goal.returns-clause-answer
returns-clause-answer c =
    let name = c.args.name.now in
    let there = ap (λ (es : List Entry). is_some (lookup (bytes_eq name) es)) (sym c.self.view_is) ∙ ap is_some (sym c.shift_remove.ensures.value ∙ c.in-Some.is) in
    ap (λ (es : List Entry). with_reply (watches_of es) Done) c.shift_remove.ensures.entries
    ∙ (ap (λ (ws : List Watch). with_reply ws Done) (without-removed name c.self.inside.kept.entries)
    ∙ (ap (λ (es : List Entry). with_reply (without_watch name (watches_of es)) Done) c.self.view_is
    ∙ sym (taken-by c.args.self.now name true there)))

pub returns-in_default-clause-answer : goal.returns-in_default-clause-answer
returns-in_default-clause-answer c =
    let name = c.args.name.now in
    let none : lookup (bytes_eq name) c.self.inside.kept.entries ≡ None = sym c.shift_remove.ensures.value ∙ c.in_default.is in
    let absent = ap (λ (es : List Entry). is_some (lookup (bytes_eq name) es)) (sym c.self.view_is) ∙ ap is_some none in
    let same = ap watches_of (c.shift_remove.ensures.entries ∙ (remove-none name c.self.inside.kept.entries none ∙ c.self.view_is)) in
    answered c.no_such_name.result _ (watches_of c.args.self.now) (Refused (NoSuchName name)) _ (whatever c.no_such_name.result same) c.no_such_name.ensures (taken-by c.args.self.now name false absent)
