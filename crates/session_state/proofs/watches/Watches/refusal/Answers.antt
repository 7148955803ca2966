-- A name that is taken is found.
use Rattle.std.proofs.Common.{◌≡◌, ◌∙◌, sym, ap, refl, true, false, List, length, arith}
use Rattle.std.specs.Prelude.{is_some, nat_le, Some}
use Rattle.std.specs.Map.{lookup}
use Rattle.std.specs.Str.{bytes_eq}
use Rattle.std.proofs.lemmas.Bool.Decides.{nat_tests}
use Rattle.reply_lines.specs.Limits.{max_watches}
use Rattle.reply_lines.specs.declared.reply.Refusal.TheVariants.{NameTaken}
use Rattle.session_state.proofs.WatchLemmas.{refused-by, Entry}
use Rattle.session_state.proofs.watches.Watches.refusal.Goals as goal

pub returns-then-contains_key : goal.returns-then-contains_key
returns-then-contains_key c =
    let now = c.args.self.now in
    let name = c.args.name.now in
    let same = c.in_ok-name.ensures ∙ c.as_str.ensures in
    let found = ap (λ (es : List Entry). is_some (lookup (bytes_eq name) es)) (sym c.self.view_is) ∙ (sym c.contains_key.ensures ∙ c.if-contains_key.true) in
    ap (λ n. Some (NameTaken n)) same ∙ sym (refused-by now name true (nat_le max_watches (length now)) found refl)

pub returns-then-len-ge-MAX_WATCHES : goal.returns-then-len-ge-MAX_WATCHES
returns-then-len-ge-MAX_WATCHES c =
    let now = c.args.self.now in
    let name = c.args.name.now in
    let absent = ap (λ (es : List Entry). is_some (lookup (bytes_eq name) es)) (sym c.self.view_is) ∙ (sym c.contains_key.ensures ∙ c.if-contains_key.false) in
    let long : nat_le max_watches (length c.self.inside.kept.entries) ≡ true = ap (nat_le max_watches) (sym c.len.ensures.len) ∙ grind (arith, nat_tests) in
    let full = ap (λ (es : List Entry). nat_le max_watches (length es)) (sym c.self.view_is) ∙ long in
    sym (refused-by now name false true absent full)

pub returns : goal.returns
returns c =
    let now = c.args.self.now in
    let name = c.args.name.now in
    let absent = ap (λ (es : List Entry). is_some (lookup (bytes_eq name) es)) (sym c.self.view_is) ∙ (sym c.contains_key.ensures ∙ c.if-contains_key.false) in
    let short : nat_le max_watches (length c.self.inside.kept.entries) ≡ false = ap (nat_le max_watches) (sym c.len.ensures.len) ∙ grind (arith, nat_tests) in
    let room = ap (λ (es : List Entry). nat_le max_watches (length es)) (sym c.self.view_is) ∙ short in
    sym (refused-by now name false false absent room)
