-- Runs of the machine: how they join, and what it reads of white space, names, references, comments and instructions.
use Rattle.std.proofs.Common.{◌≡◌, ℕ, zero, suc, ◌+◌, ◌*◌, ◌≤◌, Bool, true, false, ◌&&◌, cond, List, [], ◌∷◌, ◌++◌, Option, Some, None, refl, sym, ◌∙◌, ap, subst, arith}
use Rattle.std.proofs.lemmas.Bool.{eqb-true, le-leb, and_from}
use Rattle.std.specs.Prelude.{◌==◌, codes, encode_utf8}
use Rattle.std.specs.Char.{digit_value}
use Rattle.plain_tree.specs.declared.tree.Attr.{Attr}
use Rattle.ft_base.specs.Characters.{is_char, is_space, is_name_start, is_name_char}
use Rattle.doc_grammar.specs.Grammar as g
use Rattle.doc_grammar.specs.Grammar.{is_digit, one_dash_more, in_value, is_quote, has_name, Name, Spaces, Digits, Reference, Remark, Instruction, Skipped, Misc, Value}
use Rattle.doc_grammar.specs.steps.Machine as m
use Rattle.doc_grammar.specs.steps.Machine.{Outer, Place, Refer, Phase, State, Judged, takes_element, is_content, with_text, base, run_on, step, step_at}
use Rattle.doc_grammar.proofs.Classes.{differs, char_le, space-is, start-is}

abbrev pub st : Place → Phase → State
st p phase = record { place = p; phase = phase }

-- the machine reads u from s to t
pub record Runs (s : State) (u : List ℕ) (t : State) : Type 0 where
  pub ends : run_on (Some s) u ≡ Some t

pub run_on-append : (o : Option State) (u v : List ℕ) → run_on o (u ++ v) ≡ run_on (run_on o u) v
run_on-append None u v = refl
run_on-append (Some s) [] v = refl
run_on-append (Some s) (c ∷ u) v = run_on-append (step s c) u v

pub run_on-nil : (o : Option State) → run_on o [] ≡ o
run_on-nil None = refl
run_on-nil (Some s) = refl

pub still : (s : State) → Runs s [] s
still s = record { ends = refl }

-- what a test's branches come to
pub record Gives {A : Type 0} (x y : A) : Type 0 where
  pub is : x ≡ y

pub same : {A : Type 0} {x : A} → Gives x x
same = record { is = refl }

pub past : {A : Type 0} {b : Bool} {y z : A} (x : A) → b ≡ false → Gives y z → Gives (cond b x y) z
past {A = A} {y = y} x e h = record { is = ap (λ c. cond {A = A} c x y) e ∙ h.is }

pub here : {A : Type 0} {b : Bool} {x z : A} (y : A) → b ≡ true → Gives x z → Gives (cond b x y) z
here {A = A} {x = x} y e h = record { is = ap (λ c. cond {A = A} c x y) e ∙ h.is }

-- a step of the machine
pub record Steps (s : State) (c : ℕ) (t : State) : Type 0 where
  pub gives : Gives (step s c) (Some t)

pub one : {s t : State} {c : ℕ} → Steps s c t → Runs s (c ∷ []) t
one {s = s} {c = c} e = record { ends = run_on-nil (step s c) ∙ e.gives.is }

pub join : {s t r : State} {u v : List ℕ} → Runs s u t → Runs t v r → Runs s (u ++ v) r
join {s = s} {u = u} {v = v} a b = record { ends = run_on-append (Some s) u v ∙ ap (λ o. run_on o v) a.ends ∙ b.ends }

pub then : {s t r : State} {u : List ℕ} {c : ℕ} → Runs s u t → Steps t c r → Runs s (u ++ c ∷ []) r
then a e = join a (one e)

pub first_then : {s t r : State} {u : List ℕ} {c : ℕ} → Steps s c t → Runs t u r → Runs s (c ∷ u) r
first_then {u = u} e b = record { ends = ap (λ o. run_on o u) e.gives.is ∙ b.ends }

-- white space, and then a character
pub spaces_then : (s t r : State) (c : ℕ) → ((d : ℕ) → is_space d ≡ true → Steps s d t) → ((d : ℕ) → is_space d ≡ true → Steps t d t) → Steps s c r → Steps t c r → {u : List ℕ} → Spaces u → Runs s (u ++ c ∷ []) r
spaces_then s t r c to on a b Spaces.nothing = one a
spaces_then s t r c to on a b (Spaces.space x d h) = then (spaces_then s t t d to on (to d h) (on d h) x) b

-- names
pub opened_start : (p : Place) (c : ℕ) → takes_element p ≡ true → is_name_start c ≡ true → Steps (st p m.opened) c (st p (m.start_name (encode_utf8 c)))
unfolding step_at m.from_opened is_name_start
opened_start p c takes h = record { gives = past _ (start-is c 33 h refl) (past _ (start-is c 63 h refl) (past _ (start-is c 47 h refl) (here _ (and_from _ _ h takes) same))) }

pub start_name_further : (p : Place) (name : List ℕ) (c : ℕ) → is_name_char c ≡ true → Steps (st p (m.start_name name)) c (st p (m.start_name (name ++ encode_utf8 c)))
unfolding step_at m.from_start_name
start_name_further p name c h = record { gives = here _ h same }

pub start_name_runs : (p : Place) → takes_element p ≡ true → {u name : List ℕ} → Name u name → Runs (st p m.opened) u (st p (m.start_name name))
start_name_runs p takes (Name.first c h) = one (opened_start p c takes h)
start_name_runs p takes (Name.further {bytes = bytes} x c h) = then (start_name_runs p takes x) (start_name_further p bytes c h)

pub spaced_start : (p : Place) (name : List ℕ) (attrs : List Attr) (c : ℕ) → is_name_start c ≡ true → Steps (st p (m.spaced name attrs)) c (st p (m.attr_name name attrs (encode_utf8 c)))
unfolding step_at m.from_spaced
spaced_start p name attrs c h = record { gives = here _ h same }

pub attr_name_further : (p : Place) (name : List ℕ) (attrs : List Attr) (attr : List ℕ) (c : ℕ) → is_name_char c ≡ true → Steps (st p (m.attr_name name attrs attr)) c (st p (m.attr_name name attrs (attr ++ encode_utf8 c)))
unfolding step_at m.from_attr_name
attr_name_further p name attrs attr c h = record { gives = here _ h same }

pub attr_name_runs : (p : Place) (name : List ℕ) (attrs : List Attr) {u attr : List ℕ} → Name u attr → Runs (st p (m.spaced name attrs)) u (st p (m.attr_name name attrs attr))
attr_name_runs p name attrs (Name.first c h) = one (spaced_start p name attrs c h)
attr_name_runs p name attrs (Name.further {bytes = bytes} x c h) = then (attr_name_runs p name attrs x) (attr_name_further p name attrs bytes c h)

-- references
abbrev pub refers : Judged → List ℕ → Judged
refers m.refused cs = m.refused
refers (m.gives c) [] = m.gives c
refers (m.gives c) (d ∷ cs) = m.refused
refers (m.going r) [] = m.going r
refers (m.going r) (d ∷ cs) = refers (m.refer r d) cs

refers-append : (j : Judged) (u v : List ℕ) → (r : Refer) → refers j u ≡ m.going r → refers j (u ++ v) ≡ refers (m.going r) v
refers-append m.refused u v r e = cc
refers-append (m.gives c) [] v r e = cc
refers-append (m.gives c) (d ∷ u) v r e = cc
refers-append (m.going s) [] v r e = ap (λ j. refers j v) e
refers-append (m.going s) (d ∷ u) v r e = refers-append (m.refer s d) u v r e

pub refers-nil : (j : Judged) → refers j [] ≡ j
refers-nil m.refused = refl
refers-nil (m.gives c) = refl
refers-nil (m.going r) = refl

pub record Refers (j : Judged) (u : List ℕ) (t : Judged) : Type 0 where
  pub ends : refers j u ≡ t

pub refers_then : {j : Judged} {u : List ℕ} {r : Refer} {t : Judged} (c : ℕ) → Refers j u (m.going r) → Gives (m.refer r c) t → Refers j (u ++ c ∷ []) t
refers_then {j = j} {u = u} {r = r} {t = t} c e h = record { ends = refers-append j u (c ∷ []) r e.ends ∙ refers-nil (m.refer r c) ∙ h.is }

pub refers_join : {j : Judged} {u v : List ℕ} {r : Refer} {t : Judged} → Refers j u (m.going r) → Refers (m.going r) v t → Refers j (u ++ v) t
refers_join {j = j} {u = u} {v = v} {r = r} e h = record { ends = refers-append j u v r e.ends ∙ h.ends }

first_digit : Bool → Refer
first_digit true = m.hexed
first_digit false = m.numbered

digit_begins : (b : Bool) (c : ℕ) → is_digit (base b) c ≡ true → Gives (m.refer (first_digit b) c) (m.going (m.digits b (digit_value c)))
unfolding m.refer first_digit
digit_begins true c h = here _ h same
digit_begins false c h = past _ (differs (is_digit 10) c 120 h refl) (here _ h same)

digit-semicolon : (b : Bool) (c : ℕ) → is_digit (base b) c ≡ true → (c == 59) ≡ false
digit-semicolon true c h = differs (is_digit 16) c 59 h refl
digit-semicolon false c h = differs (is_digit 10) c 59 h refl

pub digit_goes_on : (b : Bool) (n c : ℕ) → is_digit (base b) c ≡ true → n * base b + digit_value c ≤ 0x10_FFFF → Gives (m.refer (m.digits b n) c) (m.going (m.digits b (n * base b + digit_value c)))
unfolding m.refer
digit_goes_on b n c h small = past _ (digit-semicolon b c h) (here _ h (here _ (le-leb (n * base b + digit_value c) 0x10_FFFF small) same))

base_positive : (b : Bool) → 1 ≤ base b
base_positive true = omega arith
base_positive false = omega arith

le_times : (n k d : ℕ) → 1 ≤ k → n ≤ n * k + d
le_times n zero d h = absurd (omega arith)
le_times n (suc k) d h = omega arith

digits_read : (b : Bool) {u : List ℕ} {n : ℕ} → Digits (base b) u n → n ≤ 0x10_FFFF → Refers (m.going (first_digit b)) u (m.going (m.digits b n))
digits_read b (Digits.one c h) small = refers_then {u = []} c (record { ends = refl }) (digit_begins b c h)
digits_read b (Digits.more {n = k} ds c h) small = refers_then c (digits_read b ds (omega (arith, le_times k (base b) (digit_value c) (base_positive b)))) (digit_goes_on b k c h small)

pub digits_end : (b : Bool) (n : ℕ) → is_char n ≡ true → Gives (m.refer (m.digits b n) 59) (m.gives n)
unfolding m.refer
digits_end b n h = here _ h same

-- what stands after a reference's `&`
pub record IsReference (u : List ℕ) (c : ℕ) : Type 0 where
  pub suffix : List ℕ
  pub spelled : u ≡ 38 ∷ suffix
  pub is_read : Refers (m.going m.begun) suffix (m.gives c)

numeric_read : (b : Bool) (c : ℕ) (ds : List ℕ) (f : List ℕ) → Refers (m.going m.begun) f (m.going (first_digit b)) → Digits (base b) ds c → is_char c ≡ true → Refers (m.going m.begun) ((f ++ ds) ++ codes ";") (m.gives c)
numeric_read b c ds f e d h = refers_then 59 (refers_join e (digits_read b d (char_le c h))) (digits_end b c h)

pub reference_read : {u : List ℕ} {c : ℕ} → Reference u c → IsReference u c
unfolding m.refer first_digit
reference_read g.Reference.less = record { suffix = codes "lt;"; spelled = refl; is_read = record { ends = refl } }
reference_read g.Reference.greater = record { suffix = codes "gt;"; spelled = refl; is_read = record { ends = refl } }
reference_read g.Reference.ampersand = record { suffix = codes "amp;"; spelled = refl; is_read = record { ends = refl } }
reference_read g.Reference.quotation = record { suffix = codes "quot;"; spelled = refl; is_read = record { ends = refl } }
reference_read g.Reference.apostrophe = record { suffix = codes "apos;"; spelled = refl; is_read = record { ends = refl } }
reference_read (g.Reference.decimal {u = ds} {n = n} d h) = record { suffix = (codes "#" ++ ds) ++ codes ";"; spelled = refl; is_read = numeric_read false n ds (codes "#") (record { ends = refl }) d h }
reference_read (g.Reference.hexadecimal {u = ds} {n = n} d h) = record { suffix = (codes "#x" ++ ds) ++ codes ";"; spelled = refl; is_read = numeric_read true n ds (codes "#x") (record { ends = refl }) d h }

-- in content
pub refer_ends : (p : Place) (j : Judged) (u : List ℕ) (c : ℕ) → refers j u ≡ m.gives c → run_on (m.judged p j) u ≡ Some (st (with_text p c) m.ready)
unfolding step_at
refer_ends p m.refused u c e = cc
refer_ends p (m.going r) [] c e = cc
refer_ends p (m.going r) (d ∷ u) c e = refer_ends p (m.refer r d) u c e
refer_ends p (m.gives x) [] c e = let same_char : x ≡ c = cc in ap (λ z. Some (st (with_text p z) m.ready)) same_char
refer_ends p (m.gives x) (d ∷ u) c e = cc

ready_ampersand : (p : Place) → is_content p.outer ≡ true → Steps (st p m.ready) 38 (st p (m.reference m.begun))
unfolding step_at m.from_ready
ready_ampersand p h = record { gives = here _ h same }

pub reference_runs : (p : Place) → is_content p.outer ≡ true → {u : List ℕ} {c : ℕ} → Reference u c → Runs (st p m.ready) u (st (with_text p c) m.ready)
reference_runs p h {u = u} {c = c} ref =
    let x = reference_read ref in
    let t = with_text p c in
    subst (λ z. Runs (st p m.ready) z (st t m.ready)) (sym x.spelled) (first_then (ready_ampersand p h) (record { ends = refer_ends p (m.going m.begun) x.suffix c x.is_read.ends }))

-- in a value
pub quoted_ends : (p : Place) (name : List ℕ) (attrs : List Attr) (attr : List ℕ) (quote : ℕ) (value : List ℕ) (j : Judged) (u : List ℕ) (c : ℕ) → refers j u ≡ m.gives c → run_on (m.judged_quoted p name attrs attr quote value j) u ≡ Some (st p (m.quoted name attrs attr quote (value ++ encode_utf8 c)))
unfolding step_at
quoted_ends p name attrs attr quote value m.refused u c e = cc
quoted_ends p name attrs attr quote value (m.going r) [] c e = cc
quoted_ends p name attrs attr quote value (m.going r) (d ∷ u) c e = quoted_ends p name attrs attr quote value (m.refer r d) u c e
quoted_ends p name attrs attr quote value (m.gives x) [] c e = let same_char : x ≡ c = cc in ap (λ z. Some (st p (m.quoted name attrs attr quote (value ++ encode_utf8 z)))) same_char
quoted_ends p name attrs attr quote value (m.gives x) (d ∷ u) c e = cc

quote-is : (q k : ℕ) → is_quote q ≡ true → is_quote k ≡ false → (k == q) ≡ false
quote-is q k h n = go (k == q) refl
  where
    go : (b : Bool) → (k == q) ≡ b → b ≡ false
    go false e = refl
    go true e = let same_char : k ≡ q = eqb-true k q e in let t : is_quote k ≡ true = ap is_quote same_char ∙ h in cc

quoted_ampersand : (p : Place) (name : List ℕ) (attrs : List Attr) (attr : List ℕ) (quote : ℕ) (value : List ℕ) → is_quote quote ≡ true → Steps (st p (m.quoted name attrs attr quote value)) 38 (st p (m.quoted_reference name attrs attr quote value m.begun))
unfolding step_at m.from_quoted
quoted_ampersand p name attrs attr quote value h = record { gives = past _ (quote-is quote 38 h refl) same }

pub quoted_character : (p : Place) (name : List ℕ) (attrs : List Attr) (attr : List ℕ) (quote : ℕ) (value : List ℕ) (c : ℕ) → is_char c ≡ true → (c == quote) ≡ false → (c == 38) ≡ false → (c == 60) ≡ false → Steps (st p (m.quoted name attrs attr quote value)) c (st p (m.quoted name attrs attr quote (value ++ encode_utf8 (in_value c))))
unfolding step_at m.from_quoted
quoted_character p name attrs attr quote value c h a b d = record { gives = past _ a (past _ b (past _ d (here _ h same))) }

pub value_runs : (p : Place) (name : List ℕ) (attrs : List Attr) (attr : List ℕ) (quote : ℕ) → is_quote quote ≡ true → {u bytes : List ℕ} → Value quote u bytes → Runs (st p (m.quoted name attrs attr quote [])) u (st p (m.quoted name attrs attr quote bytes))
value_runs p name attrs attr quote h Value.nothing = still _
value_runs p name attrs attr quote h (Value.character {bytes = bytes} x c k a b d) = then (value_runs p name attrs attr quote h x) (quoted_character p name attrs attr quote bytes c k a b d)
value_runs p name attrs attr quote h (Value.reference {v = v} {bytes = bytes} {c = c} x ref) =
    let r = reference_read ref in
    let s : State = st p (m.quoted name attrs attr quote bytes) in
    let t : State = st p (m.quoted name attrs attr quote (bytes ++ encode_utf8 c)) in
    join (value_runs p name attrs attr quote h x) (subst (λ z. Runs s z t) (sym r.spelled) (first_then (quoted_ampersand p name attrs attr quote bytes h) (record { ends = quoted_ends p name attrs attr quote bytes (m.going m.begun) r.suffix c r.is_read.ends })))

-- comments and instructions
comment_dash : (p : Place) (n : ℕ) → Steps (st p (m.comment n)) 45 (st p (m.comment (one_dash_more n)))
unfolding step_at m.from_comment
comment_dash p n = record { gives = same }

comment_other : (p : Place) (n c : ℕ) → is_char c ≡ true → (c == 45) ≡ false → ((c == 62) && (n == 2)) ≡ false → Steps (st p (m.comment n)) c (st p (m.comment 0))
unfolding step_at m.from_comment
comment_other p n c h a b = record { gives = past _ a (past _ b (here _ h same)) }

remark_runs : (p : Place) {n : ℕ} {u : List ℕ} → Remark n u → Runs (st p (m.comment 0)) u (st p (m.comment n))
remark_runs p Remark.nothing = still _
remark_runs p (Remark.dash {n = n} x) = then (remark_runs p x) (comment_dash p n)
remark_runs p (Remark.other {n = n} x c h a b) = then (remark_runs p x) (comment_other p n c h a b)

instruction_mark : (p : Place) (b : Bool) → Steps (st p (m.instruction b)) 63 (st p (m.instruction true))
unfolding step_at m.from_instruction
instruction_mark p b = record { gives = same }

instruction_other : (p : Place) (b : Bool) (c : ℕ) → is_char c ≡ true → (c == 63) ≡ false → ((c == 62) && b) ≡ false → Steps (st p (m.instruction b)) c (st p (m.instruction false))
unfolding step_at m.from_instruction
instruction_other p b c h x y = record { gives = past _ x (past _ y (here _ h same)) }

instruction_runs : (p : Place) {b : Bool} {u : List ℕ} → Instruction b u → Runs (st p (m.instruction false)) u (st p (m.instruction b))
instruction_runs p Instruction.nothing = still _
instruction_runs p (Instruction.mark {b = b} x) = then (instruction_runs p x) (instruction_mark p b)
instruction_runs p (Instruction.other {b = b} x c h a d) = then (instruction_runs p x) (instruction_other p b c h a d)

comment_begins : (p : Place) → Runs (st p m.ready) (codes "<!--") (st p (m.comment 0))
unfolding step_at m.from_ready m.from_opened
comment_begins p = record { ends = refl }

comment_ends : (p : Place) → Steps (st p (m.comment 2)) 62 (st p m.ready)
unfolding step_at m.from_comment
comment_ends p = record { gives = same }

instruction_begins : (p : Place) → Runs (st p m.ready) (codes "<?") (st p (m.instruction false))
unfolding step_at m.from_ready m.from_opened
instruction_begins p = record { ends = refl }

instruction_ends : (p : Place) → Steps (st p (m.instruction true)) 62 (st p m.ready)
unfolding step_at m.from_instruction
instruction_ends p = record { gives = same }

pub skipped_runs : (p : Place) {u : List ℕ} → Skipped u → Runs (st p m.ready) u (st p m.ready)
skipped_runs p (Skipped.comment x) = then (join (comment_begins p) (remark_runs p x)) (comment_ends p)
skipped_runs p (Skipped.instruction x) = then (join (instruction_begins p) (instruction_runs p x)) (instruction_ends p)

-- around the root
misc_space : (p : Place) → is_content p.outer ≡ false → (c : ℕ) → is_space c ≡ true → Steps (st p m.ready) c (st p m.ready)
unfolding step_at m.from_ready
misc_space p h c k = record { gives = past _ (space-is 60 refl refl refl refl c k) (past _ h (here _ k same)) }

pub misc_runs : (p : Place) → is_content p.outer ≡ false → {u : List ℕ} → Misc u → Runs (st p m.ready) u (st p m.ready)
misc_runs p h Misc.nothing = still _
misc_runs p h (Misc.space x c k) = then (misc_runs p h x) (misc_space p h c k)
misc_runs p h (Misc.skipped x y) = join (misc_runs p h x) (skipped_runs p y)
