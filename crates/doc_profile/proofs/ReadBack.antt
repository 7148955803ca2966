-- A printed document is read back.
use Rattle.std.proofs.Common.{◌≡◌, ℕ, List, [], ◌∷◌, Ok, refl, sym, ◌∙◌, ap, subst, IsUtf8}
use Rattle.std.specs.Prelude.{true, encode_utf8_all}
use Rattle.std.specs.Str.{chars}
use Rattle.std.proofs.lemmas.Str.{chars_from_encodes}
use Rattle.plain_tree.specs.Document.{Node, element, text, no_nodes, node_then, is_document}
use Rattle.doc_grammar.specs.Printed.{printed, IsPrintable}
use Rattle.doc_grammar.specs.Texts.{Kind, Spells, without_mark}
use Rattle.doc_grammar.proofs.Decided.{one_reading}
use Rattle.doc_grammar.proofs.PrintedTrees.{printed_spells}
use Rattle.doc_profile.specs.Faults.{IsWithin}
use Rattle.doc_profile.specs.Readings.{document_of}
use Rattle.doc_profile.proofs.BytesRead.{every_document}

-- no mark stands before a root's `<`
unmarked : (doc : Node) → is_document doc ≡ true → without_mark (printed doc) ≡ printed doc
unmarked (element name attrs no_nodes) d = refl
unmarked (element name attrs (node_then n ns)) d = refl
unmarked (text bytes) d = cc

line_chars : (doc : Node) (line : List ℕ) → is_document doc ≡ true → IsUtf8 line → line ≡ encode_utf8_all (printed doc) → without_mark (chars line) ≡ printed doc
line_chars doc line d u e = ap without_mark (sym (chars_from_encodes (printed doc) line u (sym e))) ∙ unmarked doc d

pub line_spells : (doc : Node) (line : List ℕ) → is_document doc ≡ true → IsUtf8 line → line ≡ encode_utf8_all (printed doc) → IsPrintable doc → Spells Kind.document (without_mark (chars line)) (doc ∷ [])
line_spells doc line d u e p = subst (λ z. Spells Kind.document z (doc ∷ [])) (sym (line_chars doc line d u e)) (printed_spells doc p d)

pub line_only : (doc other : Node) (line : List ℕ) → is_document doc ≡ true → IsUtf8 line → line ≡ encode_utf8_all (printed doc) → IsPrintable doc → Spells Kind.document (without_mark (chars line)) (other ∷ []) → other ≡ doc
line_only doc other line d u e p x = let same = one_reading Kind.document (without_mark (chars line)) (other ∷ []) (doc ∷ []) x (line_spells doc line d u e p) in cc

pub line_read : (doc : Node) (line : List ℕ) → is_document doc ≡ true → IsUtf8 line → line ≡ encode_utf8_all (printed doc) → IsPrintable doc → IsWithin doc → document_of line ≡ Ok doc
line_read doc line d u e p within = every_document line doc u (line_spells doc line d u e p) within
