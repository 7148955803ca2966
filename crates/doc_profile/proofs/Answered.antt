-- From what is read of a text's characters to what is read of its bytes.
use Rattle.std.proofs.Common.{◌≡◌, ℕ, ◌+◌, Bool, true, false, List, [], ◌∷◌, ◌++◌, length, map, Ok, Err, refl, sym, ◌∙◌, ap, subst, IsUtf8, arith}
use Rattle.std.specs.Prelude.{Result, IfErr}
use Rattle.std.specs.Result.{IsErrAnd}
use Rattle.std.proofs.lemmas.Result.{err_from_is_err_and}
use Rattle.std.specs.Str.{chars, is_utf8}
use Rattle.std.specs.Str.Lossy.{utf8_valid_len}
use Rattle.std.proofs.lemmas.Bool.{cond-true, cond-false}
use Rattle.std.proofs.lemmas.Str.{IsUtf8-from_is_utf8, is_utf8-from_IsUtf8, utf8_valid_len-IsValidUpTo}
use Rattle.plain_tree.specs.Document.{Node}
use Rattle.plain_tree.specs.View.{node}
use Rattle.plain_tree.specs.declared.tree.Tree.{Tree}
use Rattle.doc_grammar.specs.steps.Machine.{start}
use Rattle.doc_grammar.specs.steps.Reading.{outer_of}
use Rattle.doc_grammar.specs.Texts.{Kind, without_mark, mark_len}
use Rattle.doc_profile.specs.Faults.{FaultOf, IsFaultOf, IsNotUtf8}
use Rattle.doc_profile.specs.Readings.{Faults, nodes_in, walk, document_of, fragment_of}
use Rattle.doc_profile.specs.declared.fault.DocFault.{DocFault}
use Rattle.doc_profile.specs.declared.fault.DocFault.TheVariants as faults
use Rattle.doc_profile.proofs.Readers.{popped}
use Rattle.doc_profile.proofs.Readings.{root_of, at_end-root, text_read, IsReading}
use Rattle.doc_profile.proofs.BytesRead.{after_mark}

-- what the law says of the answer holds of the fault that is said
pub fault_right : {A : Type 0} (kind : Kind) (bytes text : List ℕ) (from : ℕ) (answer : Result A DocFault) (fault : DocFault) → ((f : DocFault) → answer ≡ Err f → IsFaultOf kind bytes text from f) → Faults answer fault → FaultOf kind bytes text from fault
fault_right kind bytes text from answer (faults.NotUtf8 at) law e = (law (faults.NotUtf8 at) e).is_fault
fault_right kind bytes text from answer (faults.Syntax at) law e = (law (faults.Syntax at) e).is_fault
fault_right kind bytes text from answer (faults.Depth at) law e = (law (faults.Depth at) e).is_fault
fault_right kind bytes text from answer (faults.Nodes at) law e = (law (faults.Nodes at) e).is_fault
fault_right kind bytes text from answer faults.Memory law e = tt

not_utf8 : (b : Bool) (bytes : List ℕ) → is_utf8 bytes ≡ b → ¬ (IsUtf8 bytes) → b ≡ false
not_utf8 true bytes e n = absurd (n (IsUtf8-from_is_utf8 bytes e))
not_utf8 false bytes e n = refl

-- bytes that aren't UTF-8
no_text : {A : Type 0} (bytes : List ℕ) (fault : DocFault) (answer : Result A DocFault) → (is_utf8 bytes ≡ false → answer ≡ Err (faults.NotUtf8 (utf8_valid_len bytes))) → IsNotUtf8 bytes fault → Faults answer fault
no_text bytes (faults.NotUtf8 at) answer refused h = refused (not_utf8 (is_utf8 bytes) bytes refl h.0) ∙ ap (λ n. Err (faults.NotUtf8 n)) (utf8_valid_len-IsValidUpTo bytes at h.1)
no_text bytes (faults.Syntax at) answer refused h = absurd h
no_text bytes (faults.Depth at) answer refused h = absurd h
no_text bytes (faults.Nodes at) answer refused h = absurd h
no_text bytes faults.Memory answer refused h = absurd h

pub document_no_text : (bytes : List ℕ) (fault : DocFault) → IsNotUtf8 bytes fault → Faults (document_of bytes) fault
unfolding document_of
document_no_text bytes fault h = no_text bytes fault (document_of bytes) (λ e. cond-false _ _ _ e) h

pub fragment_no_text : (bytes : List ℕ) (fault : DocFault) → IsNotUtf8 bytes fault → Faults (fragment_of bytes) fault
unfolding fragment_of
fragment_no_text bytes fault h = no_text bytes fault (fragment_of bytes) (λ e. cond-false _ _ _ e) h

-- the characters of a document's bytes
document_root : (bytes : List ℕ) → IsUtf8 bytes → document_of bytes ≡ root_of (nodes_in Kind.document (without_mark (chars bytes)) (mark_len (chars bytes)) (length bytes)) (length bytes)
unfolding document_of
document_root bytes u = cond-true _ _ _ (is_utf8-from_IsUtf8 bytes u) ∙ at_end-root (length bytes) (walk (without_mark (chars bytes)) (start (outer_of Kind.document)) false (mark_len (chars bytes)))

root_faults : (answer : Result (List Node) DocFault) (end : ℕ) (fault : DocFault) → Faults answer fault → Faults (root_of answer end) fault
root_faults answer end (faults.NotUtf8 at) e = ap (λ r. root_of r end) e
root_faults answer end (faults.Syntax at) e = ap (λ r. root_of r end) e
root_faults answer end (faults.Depth at) e = ap (λ r. root_of r end) e
root_faults answer end (faults.Nodes at) e = ap (λ r. root_of r end) e
root_faults answer end faults.Memory e = tt

same_nodes : (kind : Kind) (bytes text other : List ℕ) (from place end : ℕ) → other ≡ text → place ≡ from → end ≡ length bytes → nodes_in kind other place end ≡ nodes_in kind text from (length bytes)
same_nodes kind bytes text other from place end e f g = ap (λ z. nodes_in kind z place end) e ∙ ap (λ n. nodes_in kind text n end) f ∙ ap (λ n. nodes_in kind text from n) g

-- the text after a mark, in a document's bytes
pub record After (bytes text : List ℕ) (from end : ℕ) : Type 0 where
  pub utf8 : IsUtf8 bytes
  pub is_text : text ≡ without_mark (chars bytes)
  pub begins : from ≡ mark_len (chars bytes)
  pub ends : end ≡ length bytes

pub after_in : (bytes whole text : List ℕ) (from end : ℕ) → (whole ≡ bytes) × IsUtf8 bytes → text ≡ without_mark (chars whole) → from ≡ mark_len (chars whole) → end ≡ length whole → After bytes text from end
after_in bytes whole text from end w t f e = record { utf8 = w.1; is_text = t ∙ ap (λ z. without_mark (chars z)) w.0; begins = f ∙ ap (λ z. mark_len (chars z)) w.0; ends = e ∙ ap length w.0 }

same_document : {bytes text : List ℕ} {from end : ℕ} → After bytes text from end → nodes_in Kind.document text from end ≡ nodes_in Kind.document (without_mark (chars bytes)) (mark_len (chars bytes)) (length bytes)
same_document {bytes = bytes} {text = text} {from = from} {end = end} b = same_nodes Kind.document bytes (without_mark (chars bytes)) text (mark_len (chars bytes)) from end b.is_text b.begins b.ends

pub document_faults : {bytes text : List ℕ} {from end : ℕ} (fault : DocFault) → After bytes text from end → Faults (nodes_in Kind.document text from end) fault → Faults (document_of bytes) fault
document_faults {bytes = bytes} fault b h =
    subst (λ r. Faults r fault) (sym (document_root bytes b.utf8)) (root_faults _ (length bytes) fault (subst (λ r. Faults r fault) (same_document b) h))

-- the only node of a document is its root
one_node : {bytes text : List ℕ} {from end : ℕ} (kids : List Node) → After bytes text from end → nodes_in Kind.document text from end ≡ Ok kids → (n : Node) × (kids ≡ n ∷ []) × (document_of bytes ≡ Ok n)
one_node {bytes = bytes} kids b h =
    let answer : nodes_in Kind.document (without_mark (chars bytes)) (mark_len (chars bytes)) (length bytes) ≡ Ok kids = sym (same_document b) ∙ h in
    let right = subst (IsReading Kind.document (without_mark (chars bytes)) (mark_len (chars bytes))) answer (text_read Kind.document (without_mark (chars bytes)) (mark_len (chars bytes)) (length bytes) (after_mark bytes b.utf8)) in
    (right.0.0, right.0.1, document_root bytes b.utf8 ∙ ap (λ r. root_of r (length bytes)) (answer ∙ ap Ok right.0.1))

pub document_popped : {bytes text : List ℕ} {from end : ℕ} (rest all : List Tree) (root : Tree) → After bytes text from end → nodes_in Kind.document text from end ≡ Ok (map node all) → all ≡ rest ++ root ∷ [] → document_of bytes ≡ Ok (node root)
document_popped rest all root b h i =
    let one = one_node (map node all) b h in
    one.2 ∙ ap Ok (sym (popped rest root one.0 (ap (map node) (sym i) ∙ one.1)))

pub document_pops : {bytes text : List ℕ} {from end : ℕ} (all : List Tree) → After bytes text from end → nodes_in Kind.document text from end ≡ Ok (map node all) → all ≡ [] → ⊥
document_pops all b h i =
    let one = one_node (map node all) b h in
    let impossible : [] ≡ one.0 ∷ [] = sym (ap (map node) i) ∙ one.1 in cc

-- fragments
fragment_whole : (bytes : List ℕ) → IsUtf8 bytes → fragment_of bytes ≡ nodes_in Kind.fragment (chars bytes) 0 (length bytes)
unfolding fragment_of
fragment_whole bytes u = cond-true _ _ _ (is_utf8-from_IsUtf8 bytes u)

pub fragment_same : (bytes text : List ℕ) → (text ≡ bytes) × IsUtf8 bytes → nodes_in Kind.fragment (chars text) 0 (0 + length text) ≡ fragment_of bytes
fragment_same bytes text w = same_nodes Kind.fragment bytes (chars bytes) (chars text) 0 0 (0 + length text) (ap chars w.0) refl (omega (arith, ap length w.0)) ∙ sym (fragment_whole bytes w.1)

-- what a `?` says where it returns
pub at_exit : {T E : Type 0} (r : Result T E) (P : E → Type 0) (x : E) → IsErrAnd r (λ e. e ≡ x) → P x → IfErr r P
at_exit r P x h p = let e = err_from_is_err_and r h in subst (λ z. IfErr z P) (sym e.1) (subst P (sym e.2) p)
