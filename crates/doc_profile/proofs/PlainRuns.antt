-- The machine goes over a run of plain characters, each by itself, to where the run takes it.
use Rattle.std.proofs.Common.{◌≡◌, ℕ, ◌+◌, ◌≤◌, ◌<◌, Bool, true, false, cond, List, [], ◌∷◌, ◌++◌, length, take, get_or, Option, Some, None, Ok, refl, sym, ◌∙◌, ap, subst, append_assoc, arith}
use Rattle.std.proofs.lemmas.Bool.Decides.{nat_tests}
use Rattle.std.proofs.lemmas.List.{append-nil, length-append, take_more}
use Rattle.std.proofs.lemmas.Str.{encode_ascii}
use Rattle.std.specs.Prelude.{Result, ◌==◌, ◌&&◌, not, nat_le, nat_lt, encode_utf8, encode_utf8_all}
use Rattle.std.specs.List.{list_all}
use Rattle.std.proofs.lemmas.Bool.{and_parts, and_from, not-true}
use Rattle.std.proofs.Math.Bool.{and-false}
use Rattle.ft_base.specs.Lists.{is_empty}
use Rattle.ft_base.specs.Characters.{is_char}
use Rattle.doc_grammar.specs.Grammar.{lines_from}
use Rattle.doc_grammar.specs.steps.Machine as m
use Rattle.doc_grammar.specs.steps.Machine.{Place, State, is_content, is_ready, with_text, run_on, step, step_at}
use Rattle.doc_grammar.specs.Limits.{text_count, text_here, element_here}
use Rattle.doc_grammar.proofs.CompletedTags.{rest_of}
use Rattle.doc_grammar.proofs.Counts.{begun, no_room}
use Rattle.doc_grammar.proofs.Decided.{lines-kept, ready_is}
use Rattle.doc_grammar.proofs.Walks.{st, Steps, one, past, here, same}
use Rattle.doc_profile.specs.steps.Plain.{is_plain, is_in_text, with_run, Passed}
use Rattle.doc_profile.specs.Readings.{text_passes, passes, taken, walk}
use Rattle.doc_profile.specs.declared.fault.DocFault.{DocFault}
use Rattle.doc_profile.proofs.Left.{Left, walk-further}

-- what a plain character is
pub record Plain (c : ℕ) : Type 0 where
  pub ascii : c < 128
  pub no_markup : (c == 60) ≡ false
  pub no_reference : (c == 38) ≡ false
  pub no_return : (c == 13) ≡ false
  pub is_char : is_char c ≡ true

plain_is : (c : ℕ) → is_plain c ≡ true → Plain c
unfolding is_char
plain_is c h = record {
  ascii = grind (arith, nat_tests);
  no_markup = grind (arith, nat_tests);
  no_reference = grind (arith, nat_tests);
  no_return = grind (arith, nat_tests);
  is_char = grind (arith, nat_tests);
}

-- where a text is under way
pub record InText (s : State) : Type 0 where
  pub is_ready : s.phase ≡ m.ready
  pub in_content : is_content s.place.outer ≡ true
  pub some_text : is_empty s.place.text ≡ false

in_text : (s : State) → is_in_text s ≡ true → InText s
in_text s h =
    let first = and_parts (is_ready s.phase && is_content s.place.outer) (not (is_empty s.place.text)) h in
    let two = and_parts (is_ready s.phase) (is_content s.place.outer) first.0 in
    record { is_ready = ready_is s.phase two.0; in_content = two.1; some_text = not-true (is_empty s.place.text) first.1 }

-- one of them
plain_step : (p : Place) (c : ℕ) → Plain c → is_content p.outer ≡ true → Steps (st p m.ready) c (st (with_text p c) m.ready)
unfolding step_at m.from_ready
plain_step p c x h = record { gives = past _ x.no_markup (here _ h (past _ x.no_reference (here _ x.is_char same))) }

plain_taken : (p : Place) (c : ℕ) → Plain c → is_content p.outer ≡ true → taken (st p m.ready) false c ≡ Some (st (with_text p c) m.ready)
plain_taken p c x h = ap (λ cs. run_on (Some (st p m.ready)) cs) (lines-kept false c [] x.no_return (and-false (c == 10))) ∙ (one (plain_step p c x h)).ends

plain_passes : (p : Place) (c at : ℕ) → is_empty p.text ≡ false → passes (st p m.ready) false c at ≡ None
plain_passes p c at h = ap (λ b. cond b (text_passes (st p m.ready) at) None) (no_room p c h)

some_after : (bytes : List ℕ) (c : ℕ) → c < 128 → is_empty (bytes ++ encode_utf8 c) ≡ false
some_after [] c h = ap is_empty (encode_ascii c h)
some_after (b ∷ bytes) c h = refl

-- a run of them
grown : Place → List ℕ → Place
grown p cs = record { kids = p.kids; text = p.text ++ cs; outer = p.outer }

run_walks : (cs rest : List ℕ) (p : Place) (at : ℕ) → is_content p.outer ≡ true → is_empty p.text ≡ false → list_all is_plain cs ≡ true → walk (cs ++ rest) (st p m.ready) false at ≡ walk rest (st (grown p cs) m.ready) false (at + length cs)
unfolding grown
run_walks [] rest p at h e ok = ap (λ z. walk rest (st (record { kids = p.kids; text = z; outer = p.outer }) m.ready) false at) (sym (append-nil p.text)) ∙ ap (λ n. walk rest (st (grown p []) m.ready) false n) (omega arith)
run_walks (c ∷ cs) rest p at h e ok =
    let two = and_parts _ _ ok in
    let x = plain_is c two.0 in
    walk-further c (cs ++ rest) (st p m.ready) (st (with_text p c) m.ready) false at (plain_passes p c at e) (plain_taken p c x h)
    ∙ ap (λ b. walk (cs ++ rest) (st (with_text p c) m.ready) b (at + length (encode_utf8 c))) x.no_return
    ∙ run_walks cs rest (with_text p c) (at + length (encode_utf8 c)) h (some_after p.text c x.ascii) two.1
    ∙ ap (λ z. walk rest (st (record { kids = p.kids; text = z; outer = p.outer }) m.ready) false ((at + length (encode_utf8 c)) + length cs)) (append_assoc p.text (encode_utf8 c) cs ∙ ap (λ z. p.text ++ (z ++ cs)) (encode_ascii c x.ascii))
    ∙ ap (λ n. walk rest (st (grown p (c ∷ cs)) m.ready) false n) (omega (arith, ap length (encode_ascii c x.ascii)))

run_bytes : (cs : List ℕ) → list_all is_plain cs ≡ true → encode_utf8_all cs ≡ cs
run_bytes [] h = refl
run_bytes (c ∷ cs) h = let two = and_parts _ _ h in ap (λ z. z ++ encode_utf8_all cs) (encode_ascii c (plain_is c two.0).ascii) ∙ ap (λ z. c ∷ z) (run_bytes cs two.1)

-- the walk over what is left stays the walk over all
some_count : (bytes cs : List ℕ) → is_empty bytes ≡ false → text_count (bytes ++ cs) ≡ text_count bytes
some_count [] cs h = cc
some_count (b ∷ bytes) cs h = refl

left_run : (cs suffix : List ℕ) (p : Place) (at nodes : ℕ) (all : Result State DocFault) → is_content p.outer ≡ true → is_empty p.text ≡ false → list_all is_plain cs ≡ true → Left (cs ++ suffix) (st p m.ready) false at nodes all
    → Left suffix (st (grown p cs) m.ready) false (at + length cs) nodes all
unfolding grown
left_run cs suffix p at nodes all h e ok l =
    let next = rest_of cs l.left suffix (ap (λ z. z ++ suffix) (run_bytes cs ok) ∙ sym l.spelled) in
    record {
      left = next.0;
      spelled = next.1;
      same = sym (run_walks cs next.0 p at h e ok) ∙ ap (λ z. walk z (st p m.ready) false at) (sym next.2) ∙ l.same;
      counted = l.counted ∙ omega (arith, some_count p.text cs e);
    }

pub left_passed : (rest suffix : List ℕ) (s t : State) (b : Bool) (at place nodes : ℕ) (all : Result State DocFault) → Left rest s b at nodes all → Passed b s rest suffix t → place + length suffix ≡ at + length rest → Left suffix t b place nodes all
unfolding grown
left_passed rest suffix s t b at place nodes all l (Passed.nothing none still) e =
    subst (λ n. Left suffix t b n nodes all) (omega (arith, ap length none)) (subst (λ z. Left suffix z b at nodes all) (sym still) (subst (λ z. Left z s b at nodes all) none l))
left_passed rest suffix s t b at place nodes all l (Passed.run cs after_none h ok split is) e =
    let x = in_text s h in
    let ready : s ≡ st s.place m.ready = ap (λ f. st s.place f) x.is_ready in
    let there = left_run cs suffix s.place at nodes all x.in_content x.some_text ok (subst (λ z. Left (cs ++ suffix) z false at nodes all) ready (subst (λ d. Left (cs ++ suffix) s d at nodes all) after_none (subst (λ z. Left z s b at nodes all) split l))) in
    let ends : at + length cs ≡ place = omega (arith, ap length split, length-append cs suffix) in
    let goes : st (grown s.place cs) m.ready ≡ t = ap (λ f. st (grown s.place cs) f) (sym x.is_ready) ∙ sym is in
    subst (λ n. Left suffix t b n nodes all) ends (subst (λ d. Left suffix t d (at + length cs) nodes all) (sym after_none) (subst (λ z. Left suffix z false (at + length cs) nodes all) goes there))

pub passed_length : (rest suffix : List ℕ) (s t : State) (b : Bool) → Passed b s rest suffix t → length suffix ≤ length rest
passed_length rest suffix s t b (Passed.nothing none still) = omega (arith, ap length none)
passed_length rest suffix s t b (Passed.run cs after_none h ok split is) = omega (arith, ap length split, length-append cs suffix)

-- the prefix of a text grows by a plain character
prefix_extended : (cs : List ℕ) (c : ℕ) → list_all is_plain cs ≡ true → is_plain c ≡ true → list_all is_plain (cs ++ c ∷ []) ≡ true
prefix_extended [] c h k = and_from _ _ k refl
prefix_extended (d ∷ cs) c h k = let two = and_parts _ _ h in and_from _ _ two.0 (prefix_extended cs c two.1 k)

pub prefix_further : (bytes : List ℕ) (at d : ℕ) → at < length bytes → list_all is_plain (take at bytes) ≡ true → is_plain (get_or bytes at d) ≡ true → list_all is_plain (take (at + 1) bytes) ≡ true
prefix_further bytes at d h ok k = ap (list_all is_plain) (take_more bytes at d h) ∙ prefix_extended (take at bytes) (get_or bytes at d) ok k

pub plain_ascii : (c : ℕ) → is_plain c ≡ true → c < 128
plain_ascii c h = (plain_is c h).ascii
