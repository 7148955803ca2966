-- What a state of the machine has read, said by the grammar.
use Rattle.std.proofs.Common.{◌≡◌, ℕ, ◌≤◌, Bool, true, false, List, [], ◌∷◌, ◌++◌, Option, Some, None}
use Rattle.std.specs.List.{list_all}
use Rattle.std.specs.Prelude.{IsTrue, ◌==◌, not, codes, encode_utf8_all, if◌then◌else◌}
use Rattle.plain_tree.specs.declared.tree.Attr.{Attr}
use Rattle.ft_base.specs.Characters.{is_space}
use Rattle.doc_grammar.specs.Grammar.{is_quote, has_name, Name, Spaces, Digits, Reference, Remark, Instruction, Value, Tag}
use Rattle.doc_grammar.specs.Opened.{At}
use Rattle.doc_grammar.specs.steps.Machine as m
use Rattle.doc_grammar.specs.steps.Machine.{Outer, document, fragment, level, Place, Refer, Phase, State, takes_element, is_content, base}

-- how a reference under way is spelled so far
abbrev pub opening : Bool → List ℕ
opening hexadecimal = if hexadecimal then codes "&#x" else codes "&#"

abbrev pub no_return : List ℕ → Bool
no_return = list_all (λ c. not (c == 13))

abbrev pub ReferPart : Refer → List ℕ → Type 0
ReferPart m.begun u = u ≡ codes "&"
ReferPart m.begun_a u = u ≡ codes "&a"
ReferPart (m.named [] c) u = ⊥
ReferPart (m.named (d ∷ ds) c) u = Reference (u ++ d ∷ ds) c × (no_return (d ∷ ds) ≡ true)
ReferPart m.numbered u = u ≡ codes "&#"
ReferPart m.hexed u = u ≡ codes "&#x"
ReferPart (m.digits hexadecimal n) u = (ds : List ℕ) × Digits (base hexadecimal) ds n × (n ≤ 0x10_FFFF) × (u ≡ opening hexadecimal ++ ds)

-- the name of the open element is the bytes read and those left
abbrev pub EndPart : Outer → List ℕ → List ℕ → Type 0
EndPart document cs bytes = ⊥
EndPart fragment cs bytes = ⊥
EndPart (level name attrs kids text outer) cs bytes = encode_utf8_all cs ++ bytes ≡ name

-- white space that isn't empty
pub record Gap (u : List ℕ) : Type 0 where
  pub spaces : List ℕ
  pub last : ℕ
  pub are_spaces : Spaces spaces
  pub is_last : IsTrue (is_space last)
  pub spelled : u ≡ spaces ++ last ∷ []

-- a tag and the name of its next attribute
pub record NamedPart (name : List ℕ) (attrs : List Attr) (attr : List ℕ) (u : List ℕ) : Type 0 where
  pub tag : List ℕ
  pub gap : List ℕ
  pub spelling : List ℕ
  pub is_tag : Tag tag name attrs
  pub is_gap : Gap gap
  pub is_name : Name spelling attr
  pub spelled : u ≡ (tag ++ gap) ++ spelling

-- the same up to the quote
pub record QuotePart (name : List ℕ) (attrs : List Attr) (attr : List ℕ) (quote : ℕ) (u : List ℕ) : Type 0 where
  pub named : List ℕ
  pub spaces : List ℕ
  pub suffix : List ℕ
  pub is_named : NamedPart name attrs attr named
  pub are_spaces : Spaces spaces
  pub are_after : Spaces suffix
  pub is_new : has_name attr attrs ≡ false
  pub is_quoted : IsTrue (is_quote quote)
  pub spelled : u ≡ (((named ++ spaces) ++ codes "=") ++ suffix) ++ quote ∷ []

-- how the part of the markup that is under way is spelled so far
abbrev pub Part : Place → Phase → List ℕ → Type 0
Part p m.ready u = u ≡ []
Part p m.opened u = u ≡ codes "<"
Part p m.bang u = u ≡ codes "<!"
Part p m.bang_dash u = u ≡ codes "<!-"
Part p (m.comment n) u = (x : List ℕ) × Remark n x × (u ≡ codes "<!--" ++ x)
Part p (m.instruction b) u = (x : List ℕ) × Instruction b x × (u ≡ codes "<?" ++ x)
Part p (m.reference r) u = IsTrue (is_content p.outer) × ReferPart r u
Part p (m.end_name bytes) u = (cs : List ℕ) × EndPart p.outer cs bytes × (u ≡ codes "</" ++ cs)
Part p m.end_spaced u = (cs : List ℕ) × (s : List ℕ) × EndPart p.outer cs [] × Spaces s × (u ≡ (codes "</" ++ cs) ++ s)
Part p (m.start_name name) u = (x : List ℕ) × IsTrue (takes_element p) × Name x name × (u ≡ codes "<" ++ x)
Part p (m.spaced name attrs) u = (t : List ℕ) × (g : List ℕ) × IsTrue (takes_element p) × Tag t name attrs × Gap g × (u ≡ t ++ g)
Part p (m.attr_name name attrs attr) u = IsTrue (takes_element p) × NamedPart name attrs attr u
Part p (m.attr_named name attrs attr) u = (x : List ℕ) × (s : List ℕ) × IsTrue (takes_element p) × NamedPart name attrs attr x × Spaces s × (has_name attr attrs ≡ false) × (u ≡ x ++ s)
Part p (m.equals name attrs attr) u = (x : List ℕ) × (s : List ℕ) × (t : List ℕ) × IsTrue (takes_element p) × NamedPart name attrs attr x × Spaces s × Spaces t × (has_name attr attrs ≡ false) × (u ≡ ((x ++ s) ++ codes "=") ++ t)
Part p (m.quoted name attrs attr quote value) u = (x : List ℕ) × (v : List ℕ) × IsTrue (takes_element p) × QuotePart name attrs attr quote x × Value quote v value × (u ≡ x ++ v)
Part p (m.quoted_reference name attrs attr quote value r) u = (x : List ℕ) × (v : List ℕ) × (z : List ℕ) × IsTrue (takes_element p) × QuotePart name attrs attr quote x × Value quote v value × ReferPart r z × (u ≡ (x ++ v) ++ z)
Part p (m.valued name attrs) u = IsTrue (takes_element p) × Tag u name attrs
Part p (m.slashed name attrs) u = (t : List ℕ) × (s : List ℕ) × IsTrue (takes_element p) × Tag t name attrs × Spaces s × (u ≡ (t ++ s) ++ codes "/")

-- whole items, and then a part of one
pub record Spelled (w : List ℕ) (s : State) : Type 0 where
  pub prefix : List ℕ
  pub part : List ℕ
  pub is_at : At prefix s.place
  pub is_part : Part s.place s.phase part
  pub spelled : w ≡ prefix ++ part

-- the same of a step that may be refused
pub data Next (w : List ℕ) : Option State → Type 0 where
  stop : Next w None
  go : {s : State} → Spelled w s → Next w (Some s)
