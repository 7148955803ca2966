-- The next child is written, and an element piece by piece.
use Rattle.std.proofs.Common.{◌≡◌, ◌++◌, codes, length, map, refl, sym, ◌∙◌, ap, string_bytes, arith}
use Rattle.std.specs.Prelude.{encode_utf8_all}
use Rattle.std.specs.List.{flat_map}
use Rattle.std.specs.Str.{chars}
use Rattle.std.proofs.lemmas.Bool.Decides.{nat_tests}
use Rattle.plain_tree.specs.Document.{element, nodes}
use Rattle.plain_tree.specs.View.{node}
use Rattle.plain_tree.specs.declared.tree.Tree.{Tree}
use Rattle.doc_grammar.specs.Printed.{printed, printed_all, printed_attributes}
use Rattle.doc_profile.proofs.Printing.{put_none, put_more, put_char, put_word, put_as, next_written, all_written, printed_kids, printed_empty, printed_whole}
use Rattle.doc_profile.proofs.print.+put_tree.Goals as goal

pub put_element-returns-then-is_empty : goal.put_element-returns-then-is_empty
put_element-returns-then-is_empty t c =
    let none : length c.args.kids.now ≡ 0 = grind (arith, nat_tests) in
    let start = put_more (string_bytes c.put_start.new.out) ((codes "<" ++ chars c.args.name.now) ++ printed_attributes c.args.attrs.now) (put_none (string_bytes c.args.out.now)) c.in_ok-put_start.ensures in
    put_as (printed (element c.args.name.now c.args.attrs.now (nodes (map node c.args.kids.now)))) (put_word (string_bytes c.push_str.new.self) (codes "/>") refl start c.in_ok-push_str.ensures.bytes)
    (printed_empty c.args.name.now c.args.attrs.now c.args.kids.now none)

pub put_element-returns : goal.put_element-returns
put_element-returns t c =
    let some : length c.args.kids.now ≡ 0 → ⊥ = λ (h : length c.args.kids.now ≡ 0). grind (arith, nat_tests) in
    let start = put_more (string_bytes c.put_start.new.out) ((codes "<" ++ chars c.args.name.now) ++ printed_attributes c.args.attrs.now) (put_none (string_bytes c.args.out.now)) c.in_ok-put_start.ensures in
    let greater = put_char (string_bytes c.push.new.self) 62 start c.in_ok-push.ensures.bytes in
    let kids = put_more (string_bytes c.put_kids.new.out) (printed_all (nodes (map node c.args.kids.now))) greater c.in_ok-put_kids.ensures in
    put_as (printed (element c.args.name.now c.args.attrs.now (nodes (map node c.args.kids.now)))) (put_more (string_bytes c.put_end.new.out) ((codes "</" ++ chars c.args.name.now) ++ codes ">") kids c.in_ok-put_end.ensures)
    (printed_whole c.args.name.now c.args.attrs.now c.args.kids.now some)

pub put_kids-loop-kid-preserved : goal.put_kids-loop-kid-preserved
put_kids-loop-kid-preserved t c =
    next_written (λ (t : Tree). printed (node t)) c.args.kids.now c.loop-kid.kid-index c.kid-item.result (string_bytes c.loop-kid.out) (string_bytes c.put_tree.new.out)
    (string_bytes c.args.out.now ++ encode_utf8_all (flat_map (λ (t : Tree). printed (node t)) c.args.kids.now)) c.loop-kid-test.true c.kid-item.is c.loop-kid.invariant c.in_ok-put_tree.ensures

pub put_kids-returns : goal.put_kids-returns
put_kids-returns t c =
    all_written (λ (t : Tree). printed (node t)) c.args.kids.now c.loop-kid.kid-index (string_bytes c.loop-kid.out)
    (string_bytes c.args.out.now ++ encode_utf8_all (flat_map (λ (t : Tree). printed (node t)) c.args.kids.now)) (omega arith) c.loop-kid.invariant
    ∙ ap (λ z. string_bytes c.args.out.now ++ encode_utf8_all z) (sym (printed_kids c.args.kids.now))
