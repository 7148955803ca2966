-- The line has these three parts, and none of them says nothing.
use Rattle.std.proofs.Common.{◌≡◌, ◌∙◌, sym, ap, ℕ, true, false, cond, ◌||◌, List}
use Rattle.std.specs.Prelude.{Option, Some, None}
use Rattle.std.specs.Option.{option_and_then}
use Rattle.std.specs.List.{slice_split}
use Rattle.std.specs.Str.{is_utf8}
use Rattle.std.proofs.lemmas.Str.{is_utf8-from_IsUtf8}
use Rattle.word_lists.proofs.WordLemmas.{is_no_utf8}
use Rattle.thesaurus_file.specs.Lines.{is_bar, is_none, line_of, link_of, phrase_of, three, trimmed}
use Rattle.thesaurus_file.specs.Phrases.{Phrase}
use Rattle.thesaurus_file.specs.declared.link.Link.{Link}
use Rattle.thesaurus_file.proofs.parse.parse_line.Goals as goal

abbrev made : List ℕ → Phrase → Phrase → Option (Phrase × Link)
made relation from to = cond (is_none relation || is_none from || is_none to) None (Some (from, record { relation = relation; to = to }))

said : (line relation from to r : List ℕ) (f t : Phrase) → is_utf8 line ≡ true → three (slice_split is_bar line) ≡ Some (relation, from, to)
    → r ≡ trimmed relation → f ≡ phrase_of from → t ≡ phrase_of to → is_none r ≡ false → is_none f ≡ false → is_none t ≡ false
    → made r f t ≡ line_of line
said line relation from to r f t text parts a b c d e g =
    (λ i. made (a i) (b i) (c i))
    ∙ ap (option_and_then link_of) (sym parts)
    ∙ ap (λ u. cond u (option_and_then link_of (three (slice_split is_bar line))) None) (sym text)

filled : (r : List ℕ) (f t : Phrase) → is_none r ≡ false → is_none f ≡ false → is_none t ≡ false → Some (f, record { relation = r; to = t }) ≡ made r f t
filled r f t d e g = sym (λ i. cond (d i || e i || g i) None (Some (f, record { relation = r; to = t })))

pub returns-in_default : goal.returns-in_default
returns-in_default c = ap (λ u. cond u (option_and_then link_of (three (slice_split is_bar c.args.line.now))) None) (sym (is_no_utf8 c.args.line.now c.in_default.ensures.cases.0))

pub returns : goal.returns
returns c =
    let line = c.args.line.now in
    let r = c.in_ok-relation.relation in
    let f = c.in_ok-from.from in
    let t = c.in_ok-to.to in
    let utf : is_utf8 line ≡ true = is_utf8-from_IsUtf8 line c.in-Ok.ensures.cases.1 in
    let parts : three (slice_split is_bar line) ≡ Some (c.in-Some.relation.now, c.in-Some.from.now, c.in-Some.to.now) =
    ap (λ l. three (slice_split is_bar l)) (sym c.in-Ok.ensures.cases.0) ∙ c.in-Some.ensures in
    let a : r ≡ trimmed c.in-Some.relation.now = c.in_ok-relation.ensures ∙ c.trim_blanks-relation.ensures ∙ ap trimmed c.as_bytes.ensures.value in
    let d : is_none r ≡ false = ap (λ (l : List ℕ). is_none l) c.in_ok-relation.ensures ∙ sym c.is_empty.ensures ∙ c.if-is_empty.false in
    let e : is_none f ≡ false = sym c.is_empty-else-is_empty.ensures ∙ c.if-is_empty-2.false in
    let g : is_none t ≡ false = sym c.is_empty-else-is_empty-2.ensures ∙ c.if-is_empty-3.false in
    filled r f t d e g ∙ said line c.in-Some.relation.now c.in-Some.from.now c.in-Some.to.now r f t utf parts a c.in_ok-from.ensures c.in_ok-to.ensures d e g
