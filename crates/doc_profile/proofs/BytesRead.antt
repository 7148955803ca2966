-- The law of readings: from characters to bytes.
use Rattle.std.proofs.Common.{◌≡◌, ℕ, zero, suc, ◌+◌, ◌≤◌, ◌<◌, ⊎_elim, Bool, true, false, cond, List, [], ◌∷◌, ◌++◌, length, take, take_all, Ok, Err, refl, sym, ◌∙◌, ap, subst, true≢false, IsUtf8, append_assoc, arith}
use Rattle.std.specs.Prelude.{Result, ◌==◌, encode_utf8, encode_utf8_all}
use Rattle.std.specs.Str.{chars, is_utf8, IsValidUpTo}
use Rattle.std.specs.Str.Lossy.{valid_len_up_to, utf8_valid_len}
use Rattle.std.proofs.lemmas.Bool.{cases_lt, cond-true, cond-false, eqb-true}
use Rattle.std.proofs.lemmas.List.{length-append}
use Rattle.std.proofs.lemmas.Str.{IsUtf8-from_is_utf8, is_utf8-from_IsUtf8, encodes-chars, length-encode}
use Rattle.plain_tree.specs.Document.{Node, nodes, is_document}
use Rattle.doc_grammar.specs.steps.Machine.{finished, start}
use Rattle.doc_grammar.specs.Limits.{depth_limit, node_limit}
use Rattle.doc_grammar.specs.steps.Reading.{outer_of}
use Rattle.doc_grammar.specs.Texts.{Kind, Spells, GoesWrong, without_mark, mark_len}
use Rattle.doc_grammar.proofs.Joined.{document_joined}
use Rattle.doc_grammar.proofs.Decided.{one_reading}
use Rattle.doc_grammar.proofs.WithinLimits.{passes_none}
use Rattle.ft_base.specs.Limits.{max_depth, max_nodes}
use Rattle.doc_profile.specs.Faults.{Fits, IsWithin, AreWithin, FaultIn, FaultOf, IsFaultOf}
use Rattle.doc_profile.specs.Readings.{walk, at_end, only, document_of, fragment_of}
use Rattle.doc_profile.specs.declared.fault.DocFault.{DocFault}
use Rattle.doc_profile.specs.declared.fault.DocFault.TheVariants as faults
use Rattle.doc_profile.proofs.Walked.{Faulty}
use Rattle.doc_profile.proofs.Readings.{IsReading, IsDocument, text_read, document_read}

-- bytes that aren't UTF-8 stop to be it where their longest prefix that is ends
abbrev Longest : List ℕ → ℕ → ℕ → Type 0
Longest bs m n = IsUtf8 (take n bs) × ((k : ℕ) → n < k → k ≤ m → ¬ (IsUtf8 (take k bs)))

longest_prefix : (bs : List ℕ) (m : ℕ) → Longest bs m (valid_len_up_to bs m)
longest_prefix bs zero = (([], (refl, refl)), λ k above within. absurd (omega arith))
longest_prefix bs (suc m) = go (is_utf8 (take (suc m) bs)) refl (longest_prefix bs m)
  where
    go : (b : Bool) → is_utf8 (take (suc m) bs) ≡ b → Longest bs m (valid_len_up_to bs m) → Longest bs (suc m) (valid_len_up_to bs (suc m))
    go true e rest = subst (Longest bs (suc m)) (sym (cond-true _ _ _ e)) (IsUtf8-from_is_utf8 _ e, λ k above within. absurd (omega arith))
    go false e rest = subst (Longest bs (suc m)) (sym (cond-false _ _ _ e)) (
      rest.0,
      λ k above within u. ⊎_elim
          (λ (top : m < k). let same : k ≡ suc m = omega arith in true≢false (sym (is_utf8-from_IsUtf8 _ (subst (λ n. IsUtf8 (take n bs)) same u)) ∙ e))
          (λ (low : k ≤ m). rest.1 k above low u)
          (cases_lt m k),
    )

not_utf8 : (bs : List ℕ) → is_utf8 bs ≡ false → ¬ (IsUtf8 bs)
not_utf8 bs e u = true≢false (sym (is_utf8-from_IsUtf8 bs u) ∙ e)

valid_up_to : (bs : List ℕ) → is_utf8 bs ≡ false → IsValidUpTo bs (utf8_valid_len bs)
unfolding utf8_valid_len
valid_up_to bs e =
    let prefix = longest_prefix bs (length bs) in
    let short : valid_len_up_to bs (length bs) < length bs = ⊎_elim (λ (h : valid_len_up_to bs (length bs) < length bs). h) (λ (h : length bs ≤ valid_len_up_to bs (length bs)). absurd (not_utf8 bs e (subst IsUtf8 (take_all _ bs h) prefix.0))) (cases_lt (valid_len_up_to bs (length bs)) (length bs)) in
    record {
      short = short;
      front = prefix.0;
      longest = λ m above u. ⊎_elim
          (λ (past : length bs < m). prefix.1 (length bs) short (omega arith) (subst IsUtf8 (take_all m bs (omega arith) ∙ sym (take_all (length bs) bs (omega arith))) u))
          (λ (within : m ≤ length bs). prefix.1 m above within u)
          (cases_lt (length bs) m);
    }

-- the place of a text's end
mark_after : (cs : List ℕ) → length (encode_utf8_all cs) ≡ mark_len cs + length (encode_utf8_all (without_mark cs))
mark_after [] = omega arith
mark_after (c ∷ cs) = go (c == 0xFEFF) refl
  where
    go : (b : Bool) → (c == 0xFEFF) ≡ b → length (encode_utf8_all (c ∷ cs)) ≡ cond b 3 0 + length (encode_utf8_all (cond b cs (c ∷ cs)))
    go true e = omega (arith, length-append (encode_utf8 c) (encode_utf8_all cs), ap (λ z. length (encode_utf8 z)) (eqb-true c 0xFEFF e), length-encode 0xFEFF)
    go false e = omega arith

pub after_mark : (bytes : List ℕ) → IsUtf8 bytes → length bytes ≡ mark_len (chars bytes) + length (encode_utf8_all (without_mark (chars bytes)))
after_mark bytes u = ap length (sym (encodes-chars bytes u)) ∙ mark_after (chars bytes)

of_bytes : (kind : Kind) (bytes text : List ℕ) (from : ℕ) (fault : DocFault) → IsUtf8 bytes → Faulty kind text from fault → IsFaultOf kind bytes text from fault
of_bytes kind bytes text from fault u f = record { is_fault = go fault f.is_fault; no_memory = f.no_memory }
  where
    go : (g : DocFault) → FaultIn kind text from g → FaultOf kind bytes text from g
    go (faults.NotUtf8 at) x = absurd x
    go (faults.Syntax at) x = (u, x)
    go (faults.Depth at) x = (u, x)
    go (faults.Nodes at) x = (u, x)
    go faults.Memory x = tt

of_no_text : {A : Type 0} (kind : Kind) (bytes text : List ℕ) (from : ℕ) (fault : DocFault) (answer : Result A DocFault) → is_utf8 bytes ≡ false → answer ≡ Err (faults.NotUtf8 (utf8_valid_len bytes)) → answer ≡ Err fault → IsFaultOf kind bytes text from fault
of_no_text kind bytes text from fault answer n a e =
    let same : faults.NotUtf8 (utf8_valid_len bytes) ≡ fault = cc in
    subst (IsFaultOf kind bytes text from) same (record { is_fault = (not_utf8 bytes n, valid_up_to bytes n); no_memory = λ f. cc })

-- documents
document_answer : List ℕ → Result Node DocFault
document_answer bytes = at_end (λ s. only (finished s)) (length bytes) (walk (without_mark (chars bytes)) (start (outer_of Kind.document)) false (mark_len (chars bytes)))

document_is : (bytes : List ℕ) → IsUtf8 bytes → IsDocument (without_mark (chars bytes)) (mark_len (chars bytes)) (document_of bytes)
unfolding document_of document_answer
document_is bytes u =
    subst (IsDocument (without_mark (chars bytes)) (mark_len (chars bytes))) (sym (cond-true _ _ _ (is_utf8-from_IsUtf8 bytes u)))
    (document_read (without_mark (chars bytes)) (mark_len (chars bytes)) (length bytes) (after_mark bytes u))

document_refused : (bytes : List ℕ) → is_utf8 bytes ≡ false → document_of bytes ≡ Err (faults.NotUtf8 (utf8_valid_len bytes))
unfolding document_of
document_refused bytes e = cond-false _ _ _ e

pub document : (bytes : List ℕ) (doc : Node) → document_of bytes ≡ Ok doc → IsUtf8 bytes × Spells Kind.document (without_mark (chars bytes)) (doc ∷ []) × Fits Kind.document (without_mark (chars bytes)) × IsWithin doc × (is_document doc ≡ true)
document bytes doc e = go (is_utf8 bytes) refl
  where
    go : (b : Bool) → is_utf8 bytes ≡ b → IsUtf8 bytes × Spells Kind.document (without_mark (chars bytes)) (doc ∷ []) × Fits Kind.document (without_mark (chars bytes)) × IsWithin doc × (is_document doc ≡ true)
    go false n = let impossible : Err (faults.NotUtf8 (utf8_valid_len bytes)) ≡ Ok doc = sym (document_refused bytes n) ∙ e in cc
    go true u =
        let utf8 = IsUtf8-from_is_utf8 bytes u in
        let x = subst (IsDocument (without_mark (chars bytes)) (mark_len (chars bytes))) e (document_is bytes utf8) in
        (utf8, x.0, x.1, x.2, joined x.0)
      where
        joined : Spells Kind.document (without_mark (chars bytes)) (doc ∷ []) → is_document doc ≡ true
        joined (node, same, d) = let one : doc ≡ node = cc in ap is_document one ∙ document_joined d

pub document_fault : (bytes : List ℕ) (fault : DocFault) → document_of bytes ≡ Err fault → IsFaultOf Kind.document bytes (without_mark (chars bytes)) (mark_len (chars bytes)) fault
document_fault bytes fault e = go (is_utf8 bytes) refl
  where
    go : (b : Bool) → is_utf8 bytes ≡ b → IsFaultOf Kind.document bytes (without_mark (chars bytes)) (mark_len (chars bytes)) fault
    go false n = of_no_text Kind.document bytes _ _ fault (document_of bytes) n (document_refused bytes n) e
    go true u =
        let utf8 = IsUtf8-from_is_utf8 bytes u in
        of_bytes Kind.document bytes _ _ fault utf8 (subst (IsDocument (without_mark (chars bytes)) (mark_len (chars bytes))) e (document_is bytes utf8))

-- fragments
fragment_is : (bytes : List ℕ) → IsUtf8 bytes → IsReading Kind.fragment (chars bytes) 0 (fragment_of bytes)
unfolding fragment_of
fragment_is bytes u =
    subst (IsReading Kind.fragment (chars bytes) 0) (sym (cond-true _ _ _ (is_utf8-from_IsUtf8 bytes u)))
    (text_read Kind.fragment (chars bytes) 0 (length bytes) (omega (arith, ap length (encodes-chars bytes u))))

fragment_refused : (bytes : List ℕ) → is_utf8 bytes ≡ false → fragment_of bytes ≡ Err (faults.NotUtf8 (utf8_valid_len bytes))
unfolding fragment_of
fragment_refused bytes e = cond-false _ _ _ e

pub fragment : (bytes : List ℕ) (kids : List Node) → fragment_of bytes ≡ Ok kids → IsUtf8 bytes × Spells Kind.fragment (chars bytes) kids × Fits Kind.fragment (chars bytes) × AreWithin (nodes kids)
fragment bytes kids e = go (is_utf8 bytes) refl
  where
    go : (b : Bool) → is_utf8 bytes ≡ b → IsUtf8 bytes × Spells Kind.fragment (chars bytes) kids × Fits Kind.fragment (chars bytes) × AreWithin (nodes kids)
    go false n = let impossible : Err (faults.NotUtf8 (utf8_valid_len bytes)) ≡ Ok kids = sym (fragment_refused bytes n) ∙ e in cc
    go true u =
        let utf8 = IsUtf8-from_is_utf8 bytes u in
        let x = subst (IsReading Kind.fragment (chars bytes) 0) e (fragment_is bytes utf8) in
        (utf8, x.0, x.1, x.2)

pub fragment_fault : (bytes : List ℕ) (fault : DocFault) → fragment_of bytes ≡ Err fault → IsFaultOf Kind.fragment bytes (chars bytes) 0 fault
fragment_fault bytes fault e = go (is_utf8 bytes) refl
  where
    go : (b : Bool) → is_utf8 bytes ≡ b → IsFaultOf Kind.fragment bytes (chars bytes) 0 fault
    go false n = of_no_text Kind.fragment bytes _ _ fault (fragment_of bytes) n (fragment_refused bytes n) e
    go true u =
        let utf8 = IsUtf8-from_is_utf8 bytes u in
        of_bytes Kind.fragment bytes _ _ fault utf8 (subst (IsReading Kind.fragment (chars bytes) 0) e (fragment_is bytes utf8))

-- A text that spells nodes within the limits has no fault.
goes_nowhere_wrong : (kind : Kind) (text prefix : List ℕ) (kids : List Node) → Spells kind text kids → GoesWrong kind text prefix → ⊥
goes_nowhere_wrong kind text prefix kids x w = go w.rest refl
  where
    go : (rest : List ℕ) → w.rest ≡ rest → ⊥
    go [] e = w.ends e kids x
    go (c ∷ more) e = w.goes_on c more e (more, kids, subst (λ z. Spells kind z kids) (w.spelled ∙ ap (λ z. prefix ++ z) e ∙ sym (append_assoc prefix (c ∷ []) more)) x)

no_fault : (kind : Kind) (text : List ℕ) (from : ℕ) (kids : List Node) (fault : DocFault) → Spells kind text kids → Fits kind text → Faulty kind text from fault → ⊥
no_fault kind text from kids (faults.NotUtf8 at) x fits f = f.is_fault
no_fault kind text from kids (faults.Syntax at) x fits f = goes_nowhere_wrong kind text f.is_fault.prefix kids x f.is_fault.goes_wrong
no_fault kind text from kids (faults.Depth at) x fits f = fits f.is_fault.prefix depth_limit f.is_fault.passes
no_fault kind text from kids (faults.Nodes at) x fits f = fits f.is_fault.prefix node_limit f.is_fault.passes
no_fault kind text from kids faults.Memory x fits f = f.no_memory refl

fits_within : (kind : Kind) (text : List ℕ) (kids : List Node) → Spells kind text kids → AreWithin (nodes kids) → Fits kind text
fits_within kind text kids x within = passes_none max_depth max_nodes kind text kids x within.0 within.1

pub every_document : (bytes : List ℕ) (doc : Node) → IsUtf8 bytes → Spells Kind.document (without_mark (chars bytes)) (doc ∷ []) → IsWithin doc → document_of bytes ≡ Ok doc
every_document bytes doc u x within = go (document_of bytes) refl (document_is bytes u)
  where
    go : (r : Result Node DocFault) → document_of bytes ≡ r → IsDocument (without_mark (chars bytes)) (mark_len (chars bytes)) r → document_of bytes ≡ Ok doc
    go (Err fault) e y = absurd (no_fault Kind.document (without_mark (chars bytes)) (mark_len (chars bytes)) (doc ∷ []) fault x (fits_within Kind.document (without_mark (chars bytes)) (doc ∷ []) x (omega (arith, within.0), omega (arith, within.1))) y)
    go (Ok n) e y = let same : n ∷ [] ≡ doc ∷ [] = one_reading Kind.document (without_mark (chars bytes)) (n ∷ []) (doc ∷ []) y.0 x in e ∙ (let one : n ≡ doc = cc in ap Ok one)

pub every_fragment : (bytes : List ℕ) (kids : List Node) → IsUtf8 bytes → Spells Kind.fragment (chars bytes) kids → AreWithin (nodes kids) → fragment_of bytes ≡ Ok kids
every_fragment bytes kids u x within = go (fragment_of bytes) refl (fragment_is bytes u)
  where
    go : (r : Result (List Node) DocFault) → fragment_of bytes ≡ r → IsReading Kind.fragment (chars bytes) 0 r → fragment_of bytes ≡ Ok kids
    go (Err fault) e y = absurd (no_fault Kind.fragment (chars bytes) 0 kids fault x (fits_within Kind.fragment (chars bytes) kids x within) y)
    go (Ok ks) e y = e ∙ ap Ok (one_reading Kind.fragment (chars bytes) ks kids y.0 x)
