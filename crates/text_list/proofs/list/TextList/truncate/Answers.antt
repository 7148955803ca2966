-- The texts that are left, and the bytes up to where the next one started.
use Rattle.std.proofs.Common.{◌≡◌, ◌<◌, ◌++◌, length, take, drop, string_bytes, sym, ap, ap₂, subst, ◌∙◌, arith}
use Rattle.std.specs.Prelude.{IsCharBoundary}
use Rattle.std.proofs.lemmas.List.{length-take-le, take-append-drop, take_all}
use Rattle.std.proofs.lemmas.Str.{IsUtf8-string_bytes}
use Rattle.text_list.specs.Ends.{AreEnds, start_at, texts}
use Rattle.text_list.proofs.EndsLemmas.{cut-at, ends-take, length-texts, texts-take}
use Rattle.text_list.proofs.list.TextList.truncate.Goals as goal

pub returns-then-count-len : goal.returns-then-count-len
returns-then-count-len c =
    let all : length c.args.self.now ≡ length c.self.inside.ends.items
    = sym (ap length c.self.view_is) ∙ length-texts c.self.inside.ends.items 0 (string_bytes c.self.inside.text) in
    sym (take_all c.args.count c.args.self.now (omega (arith, c.if-count-len.true, c.len.ensures, all)))

pub truncate-requires-2 : goal.truncate-requires-2
truncate-requires-2 c _ =
    let within : c.args.count < length c.self.inside.ends.items = omega (arith, c.if-count-len.false, c.len.ensures) in
    let cut = cut-at c.self.inside.ends.items (string_bytes c.self.inside.text) c.args.count c.start_at-end.result within (IsUtf8-string_bytes c.self.inside.text) c.self.invariant c.start_at-end.ensures in
    (cut.0, λ _. cut.1)

pub invariant_of-self : goal.invariant_of-self
invariant_of-self c =
    let bytes = string_bytes c.self.inside.text in
    let end = c.start_at-end.result in
    let ends = c.self.inside.ends.items in
    let within : c.args.count < length ends = omega (arith, c.if-count-len.false, c.len.ensures) in
    let cut = cut-at ends bytes c.args.count end within (IsUtf8-string_bytes c.self.inside.text) c.self.invariant c.start_at-end.ensures in
    let whole : take end bytes ++ drop end bytes ≡ bytes = take-append-drop end bytes in
    let at : start_at 0 ends c.args.count ≡ length (take end bytes) = sym c.start_at-end.ensures ∙ sym (length-take-le end bytes cut.0) in
    rw (c.truncate.ensures.items, c.truncate-2.ensures.bytes)
    (ends-take (take end bytes) (drop end bytes) ends 0 c.args.count (omega (arith, within)) (subst (AreEnds 0 ends) (sym whole) c.self.invariant) at)

pub returns : goal.returns
returns c =
    let bytes = string_bytes c.self.inside.text in
    let end = c.start_at-end.result in
    let ends = c.self.inside.ends.items in
    let within : c.args.count < length ends = omega (arith, c.if-count-len.false, c.len.ensures) in
    let cut = cut-at ends bytes c.args.count end within (IsUtf8-string_bytes c.self.inside.text) c.self.invariant c.start_at-end.ensures in
    let whole : take end bytes ++ drop end bytes ≡ bytes = take-append-drop end bytes in
    let at : start_at 0 ends c.args.count ≡ length (take end bytes) = sym c.start_at-end.ensures ∙ sym (length-take-le end bytes cut.0) in
    ap₂ (texts 0) c.truncate.ensures.items c.truncate-2.ensures.bytes
    ∙ texts-take (take end bytes) (drop end bytes) ends 0 c.args.count (omega (arith, within)) (subst (AreEnds 0 ends) (sym whole) c.self.invariant) at
    ∙ ap (λ bs. take c.args.count (texts 0 ends bs)) whole
    ∙ ap (take c.args.count) c.self.view_is
