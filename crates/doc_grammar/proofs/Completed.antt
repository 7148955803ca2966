-- Whatever state the machine is in, some continuation brings it to the end of the part that is under way.
use Rattle.std.proofs.Common.{leb, ◌≡◌, ℕ, zero, suc, ◌+◌, ◌*◌, ◌≤◌, ◌<◌, Bool, true, false, ◌&&◌, cond, ◌⊎◌, inl, inr, List, [], ◌∷◌, ◌++◌, Some, refl, sym, ◌∙◌, ap, subst, arith}
use Rattle.std.proofs.lemmas.Bool.{eq-eqb, and_parts}
use Rattle.std.proofs.lemmas.Bool.Decides.{nat_tests, leb_tells}
use Rattle.std.specs.Prelude.{◌==◌, codes}
use Rattle.ft_base.specs.Characters.{is_char}
use Rattle.doc_grammar.specs.Grammar.{is_digit, one_dash_more}
use Rattle.doc_grammar.specs.steps.Machine as m
use Rattle.doc_grammar.specs.steps.Machine.{Outer, document, fragment, level, Place, Refer, Phase, State, Judged, is_content, with_text, base, step_at, run_on}
use Rattle.doc_grammar.proofs.Spelled.{no_return, ReferPart}
use Rattle.doc_grammar.proofs.Walks.{st, Runs, Gives, join, Refers, refers, refers_then, refers_join, digit_goes_on, digits_end}

-- some text without carriage returns leads from the state to a place between items
pub record Ends (s : State) : Type 0 where
  pub rest : List ℕ
  pub place : Place
  pub runs : Runs s rest (st place m.ready)
  pub is_plain : no_return rest ≡ true

pub no_return-append : (u v : List ℕ) → no_return u ≡ true → no_return v ≡ true → no_return (u ++ v) ≡ true
no_return-append [] v a b = b
no_return-append (c ∷ u) v a b = let two = and_parts _ _ a in ap (λ z. z && no_return (u ++ v)) two.0 ∙ no_return-append u v two.1 b

pub ends_after : {s t : State} {u : List ℕ} → Runs s u t → no_return u ≡ true → Ends t → Ends s
ends_after {u = u} r plain e = record { rest = u ++ e.rest; place = e.place; runs = join r e.runs; is_plain = no_return-append u e.rest plain e.is_plain }

pub ends_at : {s : State} {u : List ℕ} {p : Place} → Runs s u (st p m.ready) → no_return u ≡ true → Ends s
ends_at {u = u} {p = p} r plain = record { rest = u; place = p; runs = r; is_plain = plain }

pub opened_ends : (p : Place) → Runs (st p m.opened) (codes "!---->") (st p m.ready)
unfolding step_at m.from_opened m.from_comment
opened_ends p = record { ends = refl }

pub bang_ends : (p : Place) → Runs (st p m.bang) (codes "---->") (st p m.ready)
unfolding step_at m.from_comment
bang_ends p = record { ends = refl }

pub bang_dash_ends : (p : Place) → Runs (st p m.bang_dash) (codes "--->") (st p m.ready)
unfolding step_at m.from_comment
bang_dash_ends p = record { ends = refl }

two_dashes : (n : ℕ) → one_dash_more (one_dash_more n) ≡ 2
two_dashes n = go (n == 0)
  where
    go : (b : Bool) → one_dash_more (cond b 1 2) ≡ 2
    go true = refl
    go false = refl

comment_closes : (p : Place) (n : ℕ) → n ≡ 2 → run_on (Some (st p (m.comment n))) (codes ">") ≡ Some (st p m.ready)
unfolding step_at m.from_comment
comment_closes p n e = subst (λ k. run_on (Some (st p (m.comment k))) (codes ">") ≡ Some (st p m.ready)) (sym e) refl

pub comment_ends : (p : Place) (n : ℕ) → Runs (st p (m.comment n)) (codes "-->") (st p m.ready)
unfolding step_at m.from_comment
comment_ends p n = record { ends = comment_closes p (one_dash_more (one_dash_more n)) (two_dashes n) }

pub instruction_ends : (p : Place) (b : Bool) → Runs (st p (m.instruction b)) (codes "?>") (st p m.ready)
unfolding step_at m.from_instruction
instruction_ends p b = record { ends = refl }

-- references
pub record Completes (r : Refer) : Type 0 where
  pub rest : List ℕ
  pub c : ℕ
  pub reads : Refers (m.going r) rest (m.gives c)
  pub is_plain : no_return rest ≡ true

-- a number becomes that of a character by a digit or two, where it isn't yet
low_char : (c : ℕ) → 32 ≤ c → c ≤ 0xD7FF → is_char c ≡ true
unfolding is_char
low_char c a b = grind (arith, nat_tests)

high_char : (c : ℕ) → 0x1_0000 ≤ c → c ≤ 0x10_FFFF → is_char c ≡ true
unfolding is_char
high_char c a b = grind (arith, nat_tests)

not_char : (c : ℕ) → is_char c ≡ false → 32 ≤ c → c ≤ 0x10_FFFF → (0xD800 ≤ c) × (c ≤ 0xFFFF)
unfolding is_char
not_char c h a b = grind (arith, nat_tests)

zero_digit : (b : Bool) → is_digit (base b) 48 ≡ true
zero_digit true = refl
zero_digit false = refl

with_zero : (b : Bool) (n k : ℕ) → n * base b + 0 ≡ k → k ≤ 0x10_FFFF → Refers (m.going (m.digits b n)) (48 ∷ []) (m.going (m.digits b k))
with_zero b n k e small = refers_then {u = []} 48 (record { ends = refl }) (subst (λ z. Gives (m.refer (m.digits b n) 48) (m.going (m.digits b z))) e (digit_goes_on b n 48 (zero_digit b) (subst (λ z. z ≤ 0x10_FFFF) (sym e) small)))

times_base : (b : Bool) (n : ℕ) → (k : ℕ) × (n * base b + 0 ≡ k) × (10 * n ≤ k) × (k ≤ 16 * n)
times_base true n = (16 * n, omega arith, omega arith, omega arith)
times_base false n = (10 * n, omega arith, omega arith, omega arith)

zero_by : (b : Bool) → Completes (m.digits b 0)
unfolding m.refer is_char
zero_by true = record { rest = codes "41;"; c = 65; reads = record { ends = refl }; is_plain = refl }
zero_by false = record { rest = codes "65;"; c = 65; reads = record { ends = refl }; is_plain = refl }

low_by : (b : Bool) (n : ℕ) → n < 32 → Completes (m.digits b n)
low_by b zero h = zero_by b
low_by b (suc n) h =
    let one_zero = times_base b (suc n) in
    let two_zeros = times_base b one_zero.0 in
    let is_low : is_char two_zeros.0 ≡ true = low_char two_zeros.0 (omega (arith, one_zero.2, one_zero.3, two_zeros.2, two_zeros.3)) (omega (arith, one_zero.2, one_zero.3, two_zeros.2, two_zeros.3)) in
    record {
      rest = codes "00;";
      c = two_zeros.0;
      reads = refers_then 59 (refers_join (with_zero b (suc n) one_zero.0 one_zero.1 (omega (arith, one_zero.3))) (with_zero b one_zero.0 two_zeros.0 two_zeros.1 (omega (arith, one_zero.3, two_zeros.3)))) (digits_end b two_zeros.0 is_low);
      is_plain = refl;
    }

high_by : (b : Bool) (n : ℕ) → 0xD800 ≤ n → n ≤ 0xFFFF → Completes (m.digits b n)
high_by b n low high =
    let one_zero = times_base b n in
    record {
      rest = codes "0;";
      c = one_zero.0;
      reads = refers_then 59 (with_zero b n one_zero.0 one_zero.1 (omega (arith, one_zero.3))) (digits_end b one_zero.0 (high_char one_zero.0 (omega (arith, one_zero.2)) (omega (arith, one_zero.3))));
      is_plain = refl;
    }

digits_by : (b : Bool) (n : ℕ) → n ≤ 0x10_FFFF → Completes (m.digits b n)
digits_by b n small = go (is_char n) refl (leb_tells 32 n)
  where
    go : (x : Bool) → is_char n ≡ x → (((leb 32 n ≡ true) × (32 ≤ n)) ⊎ ((leb 32 n ≡ false) × (n < 32))) → Completes (m.digits b n)
    go true h size = record { rest = codes ";"; c = n; reads = refers_then {u = []} 59 (record { ends = refl }) (digits_end b n h); is_plain = refl }
    go false h (inl size) = let range = not_char n h size.1 small in high_by b n range.0 range.1
    go false h (inr size) = low_by b n size.1

named_reads : (ds : List ℕ) (d x : ℕ) → refers (m.going (m.named (d ∷ ds) x)) (d ∷ ds) ≡ m.gives x
unfolding m.refer
named_reads ds d x = ap (λ z. refers (cond z (m.name_left ds x) m.refused) ds) (eq-eqb d d refl) ∙ rest ds
  where
    rest : (ds : List ℕ) → refers (m.name_left ds x) ds ≡ m.gives x
    rest [] = refl
    rest (e ∷ ds) = ap (λ z. refers (cond z (m.name_left ds x) m.refused) ds) (eq-eqb e e refl) ∙ rest ds

pub refer_completes : (r : Refer) (u : List ℕ) → ReferPart r u → Completes r
unfolding m.refer is_char
refer_completes m.begun u part = record { rest = codes "lt;"; c = 60; reads = record { ends = refl }; is_plain = refl }
refer_completes m.begun_a u part = record { rest = codes "mp;"; c = 38; reads = record { ends = refl }; is_plain = refl }
refer_completes (m.named [] x) u part = elim part [ ]
refer_completes (m.named (d ∷ ds) x) u part = record { rest = d ∷ ds; c = x; reads = record { ends = named_reads ds d x }; is_plain = part.1 }
refer_completes m.numbered u part = record { rest = codes "65;"; c = 65; reads = record { ends = refl }; is_plain = refl }
refer_completes m.hexed u part = record { rest = codes "41;"; c = 65; reads = record { ends = refl }; is_plain = refl }
refer_completes (m.digits b n) u part = digits_by b n part.2
