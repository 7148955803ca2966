-- What bytes are read as is right by the grammar, and has the first fault.
use Rattle.std.proofs.Common.{◌≡◌, ℕ, ◌+◌, ◌≤◌, Bool, false, List, [], ◌∷◌, length, Option, Some, None, Ok, Err, refl, sym, subst, arith}
use Rattle.std.specs.Prelude.{Result, ◌==◌, encode_utf8, encode_utf8_all}
use Rattle.doc_grammar.specs.steps.Machine.{State, finished, start}
use Rattle.doc_grammar.specs.Texts.{Kind, Spells}
use Rattle.doc_grammar.specs.steps.Reading.{outer_of, read}
use Rattle.doc_grammar.proofs.Decided.{read_spells, ends_wrong}
use Rattle.plain_tree.specs.Document.{Node, nodes}
use Rattle.ft_base.specs.Limits.{max_depth, max_nodes}
use Rattle.doc_profile.specs.Faults.{Fits, IsWithin, AreWithin}
use Rattle.doc_grammar.proofs.Counts.{begun, nodes_count-nodes}
use Rattle.doc_grammar.proofs.Heights.{reached, heights-nodes}
use Rattle.doc_grammar.proofs.WithinLimits.{totals}
use Rattle.doc_profile.specs.Readings.{passes, taken, or_fault, walk, or_too_soon, at_end, only}
use Rattle.doc_profile.specs.declared.fault.DocFault.{DocFault}
use Rattle.doc_profile.specs.declared.fault.DocFault.TheVariants as faults
use Rattle.doc_profile.proofs.Walked.{Walked, Faulty, walked_start, walked_further, walked_refused, walked_stops, walked_end}

-- characters that are all taken, and none that passes a limit, or the first fault
abbrev pub IsWalk : Kind → List ℕ → ℕ → Result State DocFault → Type 0
IsWalk kind text from (Ok s) = (read kind text ≡ Some s) × Fits kind text × (reached s ≤ max_depth) × (begun s ≤ max_nodes)
IsWalk kind text from (Err fault) = Faulty kind text from fault

walk_right : (kind : Kind) (text rest : List ℕ) (from at : ℕ) (s : State) (b : Bool) → Walked kind text rest from at s b → IsWalk kind text from (walk rest s b at)
unfolding walk
walk_right kind text [] from at s b w = walked_end kind text from at s b w
walk_right kind text (c ∷ rest) from at s b w = go (passes s b c at) (taken s b c) refl refl (walk_right kind text rest from (at + length (encode_utf8 c)))
  where
    go : (limit : Option DocFault) (next : Option State) → passes s b c at ≡ limit → taken s b c ≡ next
        → ((t : State) (d : Bool) → Walked kind text rest from (at + length (encode_utf8 c)) t d → IsWalk kind text from (walk rest t d (at + length (encode_utf8 c))))
        → IsWalk kind text from (or_fault limit next at (λ t. walk rest t (c == 13) (at + length (encode_utf8 c))))
    go (Some fault) next p t more = walked_stops kind text rest from at s b c fault w p
    go None None p t more = record { is_fault = walked_refused kind text rest from at s b c w t; no_memory = λ e. cc }
    go None (Some next) p t more = more next (c == 13) (walked_further kind text rest from at s next b c w p t)

-- the walk over a whole text, and what is read at its end
pub text_walk : (kind : Kind) (text : List ℕ) (from : ℕ) → IsWalk kind text from (walk text (start (outer_of kind)) false from)
text_walk kind text from = walk_right kind text text from from (start (outer_of kind)) false (walked_start kind text from)

-- A text that ends too soon goes wrong at its end.
too_soon : (kind : Kind) (text : List ℕ) (from end : ℕ) (s : State) → end ≡ from + length (encode_utf8_all text) → read kind text ≡ Some s → Fits kind text → finished s ≡ None → Faulty kind text from (faults.Syntax end)
too_soon kind text from end s e r fits f = record {
  is_fault = record { prefix = text; goes_wrong = ends_wrong kind text s r f; keeps = λ other limit x. absurd (fits other limit x); is_place = e };
  no_memory = λ g. cc;
}

-- nodes that the text spells within the limits, or its first fault
abbrev pub IsReading : Kind → List ℕ → ℕ → Result (List Node) DocFault → Type 0
IsReading kind text from (Ok kids) = Spells kind text kids × Fits kind text × AreWithin (nodes kids)
IsReading kind text from (Err fault) = Faulty kind text from fault

pub text_read : (kind : Kind) (text : List ℕ) (from end : ℕ) → end ≡ from + length (encode_utf8_all text) → IsReading kind text from (at_end finished end (walk text (start (outer_of kind)) false from))
text_read kind text from end e = go (walk text (start (outer_of kind)) false from) (text_walk kind text from)
  where
    last : (s : State) (o : Option (List Node)) → finished s ≡ o → (read kind text ≡ Some s) × Fits kind text × (reached s ≤ max_depth) × (begun s ≤ max_nodes) → IsReading kind text from (or_too_soon o end)
    last s None f x = too_soon kind text from end s e x.0 x.1 f
    last s (Some kids) f x =
        let all = totals s kids f in
        (read_spells kind text s kids x.0 f, x.1, (omega (arith, x.2, all.reached_is, heights-nodes kids), omega (arith, x.3, all.begun_is, nodes_count-nodes kids)))

    go : (w : Result State DocFault) → IsWalk kind text from w → IsReading kind text from (at_end finished end w)
    go (Err fault) x = x
    go (Ok s) x = last s (finished s) refl x

-- the root is the only node of a document
abbrev pub root_of : Result (List Node) DocFault → ℕ → Result Node DocFault
root_of (Err fault) end = Err fault
root_of (Ok kids) end = or_too_soon (only (Some kids)) end

pub at_end-root : (end : ℕ) (w : Result State DocFault) → at_end (λ s. only (finished s)) end w ≡ root_of (at_end finished end w) end
at_end-root end (Err fault) = refl
at_end-root end (Ok s) = go (finished s)
  where
    go : (o : Option (List Node)) → or_too_soon (only o) end ≡ root_of (or_too_soon o end) end
    go None = refl
    go (Some kids) = refl

abbrev pub IsDocument : List ℕ → ℕ → Result Node DocFault → Type 0
IsDocument text from (Ok doc) = Spells Kind.document text (doc ∷ []) × Fits Kind.document text × IsWithin doc
IsDocument text from (Err fault) = Faulty Kind.document text from fault

root_read : (text : List ℕ) (from end : ℕ) (r : Result (List Node) DocFault) → IsReading Kind.document text from r → IsDocument text from (root_of r end)
root_read text from end (Err fault) x = x
root_read text from end (Ok []) ((node, e, d), fits, within) = cc
root_read text from end (Ok (n ∷ [])) (spells, fits, within) = (spells, fits, (omega (arith, within.0), omega (arith, within.1)))
root_read text from end (Ok (n ∷ k ∷ ks)) ((node, e, d), fits, within) = cc

pub document_read : (text : List ℕ) (from end : ℕ) → end ≡ from + length (encode_utf8_all text) → IsDocument text from (at_end (λ s. only (finished s)) end (walk text (start (outer_of Kind.document)) false from))
document_read text from end e =
    subst (IsDocument text from) (sym (at_end-root end (walk text (start (outer_of Kind.document)) false from)))
    (root_read text from end _ (text_read Kind.document text from end e))
