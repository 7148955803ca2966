-- The text may be cut out of the bytes, and is the one of that number.
use Rattle.std.proofs.Common.{◌≡◌, ◌<◌, length, get_or, string_bytes, sym, ap, ap₂, subst, ◌∙◌, arith, slice_range}
use Rattle.std.specs.Prelude.{IsCharBoundary}
use Rattle.std.proofs.lemmas.List.{get_or_default}
use Rattle.std.proofs.lemmas.Str.{IsCharBoundary-start}
use Rattle.text_list.specs.Ends.{AreEnds, start_at, texts}
use Rattle.text_list.proofs.EndsLemmas.{IsText, length-texts, text-cut, text-at}
use Rattle.text_list.proofs.list.TextList.get.Goals as goal

pub start_at-start-requires : goal.start_at-start-requires
start_at-start-requires c = omega (arith, c.requires, length-texts c.self.inside.ends.items 0 (string_bytes c.self.inside.text), ap length c.self.view_is)

pub index-requires : goal.index-requires
index-requires c = omega (arith, c.requires, length-texts c.self.inside.ends.items 0 (string_bytes c.self.inside.text), ap length c.self.view_is)

-- the text that is cut out
cut : (c : goal.After-row_known-1) → IsText c.deref.result.now c.start_at-start.result c.index.result.now
cut c =
    let ends = c.self.inside.ends.items in
    let within : c.args.number < length ends = omega (arith, c.requires, length-texts ends 0 (string_bytes c.self.inside.text), ap length c.self.view_is) in
    let is : AreEnds 0 ends c.deref.result.now = subst (AreEnds 0 ends) (sym c.deref.ensures) c.self.invariant in
    rw (c.start_at-start.ensures, c.index.ensures ∙ get_or_default ends c.args.number c.index.result.now 0 within)
    (text-cut ends 0 c.deref.result.now c.args.number within (IsCharBoundary-start c.deref.result.now c.deref.utf8) is)

pub range-requires-clause-start_le_end : goal.range-requires-clause-start_le_end
range-requires-clause-start_le_end c = (cut c).order

pub range-requires-clause-start_boundary : goal.range-requires-clause-start_boundary
range-requires-clause-start_boundary c _ = (cut c).start

pub range-requires-clause-end_boundary : goal.range-requires-clause-end_boundary
range-requires-clause-end_boundary c = (cut c).end

pub returns : goal.returns
returns c =
    let ends = c.self.inside.ends.items in
    let bytes = string_bytes c.self.inside.text in
    let within : c.args.number < length ends = omega (arith, c.requires, length-texts ends 0 bytes, ap length c.self.view_is) in
    let end = c.index.ensures ∙ get_or_default ends c.args.number c.index.result.now 0 within in
    c.range.ensures.value
    ∙ rw (c.deref.ensures, c.start_at-start.ensures, end) (sym (text-at ends 0 bytes c.args.number c.range.result.now within))
    ∙ ap (λ l. get_or l c.args.number c.range.result.now) c.self.view_is
