-- Part of the way through a text: a walk over what is left is the walk over all.
use Rattle.std.proofs.Common.{◌≡◌, ℕ, ◌+◌, Bool, true, false, List, [], ◌∷◌, ◌++◌, length, Option, Some, None, Ok, Err, refl, sym, ◌∙◌, ap, arith}
use Rattle.std.proofs.lemmas.List.{nil_from_length}
use Rattle.std.proofs.lemmas.Str.{encodes-chars, encodes_same, cons_from_encodes}
use Rattle.std.specs.Prelude.{Result, ◌==◌, encode_utf8, encode_utf8_all}
use Rattle.std.specs.Str.{chars, IsUtf8}
use Rattle.doc_grammar.specs.steps.Machine.{State, start}
use Rattle.doc_grammar.specs.steps.Reading.{outer_of}
use Rattle.doc_grammar.specs.Texts.{Kind}
use Rattle.doc_grammar.specs.Limits.{node_here, one_if, place_count}
use Rattle.doc_grammar.proofs.Counts.{begun}
use Rattle.doc_grammar.proofs.PassedFaults.{here_count, taken_adds}
use Rattle.doc_profile.specs.Readings.{passes, taken, or_fault, walk, Faults}
use Rattle.doc_profile.specs.steps.View.{Stepped}
use Rattle.doc_profile.specs.declared.fault.DocFault.{DocFault}
use Rattle.doc_profile.specs.declared.fault.DocFault.TheVariants as faults

pub record Left (rest : List ℕ) (s : State) (b : Bool) (at nodes : ℕ) (all : Result State DocFault) : Type 0 where
  pub left : List ℕ
  pub spelled : encode_utf8_all left ≡ rest
  pub same : walk left s b at ≡ all
  pub counted : nodes ≡ begun s

pub left_all : (text : List ℕ) (s : State) (from : ℕ) → IsUtf8 text → begun s ≡ 0 → Left text s false from 0 (walk (chars text) s false from)
left_all text s from u n = record { left = chars text; spelled = encodes-chars text u; same = refl; counted = sym n }

pub walk-further : (c : ℕ) (cs : List ℕ) (s t : State) (b : Bool) (at : ℕ) → passes s b c at ≡ None → taken s b c ≡ Some t → walk (c ∷ cs) s b at ≡ walk cs t (c == 13) (at + length (encode_utf8 c))
unfolding walk
walk-further c cs s t b at p r =
    ap (λ o. or_fault o (taken s b c) at (λ z. walk cs z (c == 13) (at + length (encode_utf8 c)))) p
    ∙ ap (λ o. or_fault None o at (λ z. walk cs z (c == 13) (at + length (encode_utf8 c)))) r

walk-refused : (c : ℕ) (cs : List ℕ) (s : State) (b : Bool) (at : ℕ) → passes s b c at ≡ None → taken s b c ≡ None → walk (c ∷ cs) s b at ≡ Err (faults.Syntax at)
unfolding walk
walk-refused c cs s b at p r =
    ap (λ o. or_fault o (taken s b c) at (λ z. walk cs z (c == 13) (at + length (encode_utf8 c)))) p
    ∙ ap (λ o. or_fault None o at (λ z. walk cs z (c == 13) (at + length (encode_utf8 c)))) r

walk-stopped : (c : ℕ) (cs : List ℕ) (s : State) (b : Bool) (at : ℕ) (fault : DocFault) → passes s b c at ≡ Some fault → walk (c ∷ cs) s b at ≡ Err fault
unfolding walk
walk-stopped c cs s b at fault p = ap (λ o. or_fault o (taken s b c) at (λ z. walk cs z (c == 13) (at + length (encode_utf8 c)))) p

-- a node that begins here is the next one
pub left_counted : {rest : List ℕ} {s : State} {b : Bool} {at nodes : ℕ} {all : Result State DocFault} (c : ℕ) → Left rest s b at nodes all → node_here s b c ≡ true → nodes ≡ place_count s.place
left_counted {s = s} {b = b} c l h = l.counted ∙ here_count s b c h

-- the next character, where the walk goes on and where it stops
pub left_further : {rest : List ℕ} {s : State} {b : Bool} {at nodes : ℕ} {all : Result State DocFault} (c : ℕ) (suffix : List ℕ) (t : State) (more further : ℕ) → Left rest s b at nodes all → rest ≡ encode_utf8 c ++ suffix
    → passes s b c at ≡ None → taken s b c ≡ Some t → more ≡ nodes + one_if (node_here s b c) → further ≡ at + length (encode_utf8 c) → Left suffix t (c == 13) further more all
left_further {s = s} {b = b} {at = at} {nodes = nodes} c suffix t more further l e p r m f =
    let next = cons_from_encodes l.left suffix c (l.spelled ∙ e) in
    record {
      left = next.0;
      spelled = next.2;
      same = ap (λ n. walk next.0 t (c == 13) n) f ∙ sym (walk-further c next.0 s t b at p r) ∙ ap (λ z. walk z s b at) (sym next.1) ∙ l.same;
      counted = m ∙ ap (λ n. n + one_if (node_here s b c)) l.counted ∙ sym (taken_adds s t b c r);
    }

pub left_refused : {rest : List ℕ} {s : State} {b : Bool} {at nodes : ℕ} {all : Result State DocFault} (c : ℕ) (suffix : List ℕ) → Left rest s b at nodes all → rest ≡ encode_utf8 c ++ suffix → passes s b c at ≡ None → taken s b c ≡ None → all ≡ Err (faults.Syntax at)
left_refused {s = s} {b = b} {at = at} c suffix l e p r =
    let next = cons_from_encodes l.left suffix c (l.spelled ∙ e) in
    sym l.same ∙ ap (λ z. walk z s b at) next.1 ∙ walk-refused c next.0 s b at p r

pub left_stopped : {rest : List ℕ} {s : State} {b : Bool} {at nodes : ℕ} {all : Result State DocFault} (c : ℕ) (suffix : List ℕ) (fault : DocFault) → Left rest s b at nodes all → rest ≡ encode_utf8 c ++ suffix → passes s b c at ≡ Some fault → all ≡ Err fault
left_stopped {s = s} {b = b} {at = at} c suffix fault l e p =
    let next = cons_from_encodes l.left suffix c (l.spelled ∙ e) in
    sym l.same ∙ ap (λ z. walk z s b at) next.1 ∙ walk-stopped c next.0 s b at fault p

-- nothing is left
pub left_nothing : {rest : List ℕ} {s : State} {b : Bool} {at nodes : ℕ} {all : Result State DocFault} → Left rest s b at nodes all → length rest ≡ 0 → all ≡ Ok s
unfolding walk
left_nothing {rest = rest} {s = s} {b = b} {at = at} l e = sym l.same ∙ ap (λ z. walk z s b at) (encodes_same l.left [] (l.spelled ∙ nil_from_length rest e))

pub stepped_false : (b : Bool) (next : Option State) (s : State) → Stepped b next s → b ≡ false → next ≡ None
stepped_false true next s h e = cc
stepped_false false next s h e = h

pub stepped_true : (b : Bool) (next : Option State) (s : State) → Stepped b next s → b ≡ true → next ≡ Some s
stepped_true true next s h e = h
stepped_true false next s h e = cc

pub begun_none : (kind : Kind) (s : State) → s ≡ start (outer_of kind) → begun s ≡ 0
begun_none Kind.document s e = ap begun e ∙ omega arith
begun_none Kind.fragment s e = ap begun e ∙ omega arith

-- what says a fault, where the answer is known
pub faults_by : {A : Type 0} (answer : Result A DocFault) (fault : DocFault) → (¬ (fault ≡ faults.Memory) → answer ≡ Err fault) → Faults answer fault
faults_by answer (faults.NotUtf8 at) h = h (λ e. cc)
faults_by answer (faults.Syntax at) h = h (λ e. cc)
faults_by answer (faults.Depth at) h = h (λ e. cc)
faults_by answer (faults.Nodes at) h = h (λ e. cc)
faults_by answer faults.Memory h = tt
