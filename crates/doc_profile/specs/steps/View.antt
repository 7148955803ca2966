-- What a reader has read, as a state of the machine.
use Rattle.std.specs.Prelude.{◌≡◌, ◌==◌, ◌&&◌, ◌++◌, encode_utf8, ℕ, Bool, true, false, List, map, fold, drop}
use Rattle.std.specs.Prelude.{Option, Some, None, Result, Ok, Err, string_bytes, if◌then◌else◌, codes, ⊤}
use Rattle.plain_tree.specs.Document.{Node, element, nodes}
use Rattle.plain_tree.specs.View.{node}
use Rattle.plain_tree.specs.declared.tree.Attr.{Attr}
use Rattle.std.specs.declared.vec.Vec.{Vec}
use Rattle.std.specs.declared.alloc.Global.{Global}
use Rattle.plain_tree.specs.declared.tree.Tree.{Tree}
use Rattle.ft_base.specs.Characters.{is_char, is_name_start}
use Rattle.doc_grammar.specs.Grammar.{text_node}
use Rattle.doc_grammar.specs.Texts.{Kind}
use Rattle.doc_grammar.specs.steps.Machine as m
use Rattle.doc_grammar.specs.steps.Machine.{Outer, Place, State}
use Rattle.doc_profile.specs.Readings.{Faults}
use Rattle.doc_profile.specs.declared.fault.DocFault.{DocFault}
use Rattle.doc_profile.specs.declared.phase.Entity.{Entity}
use Rattle.doc_profile.specs.declared.phase.Entity.TheVariants as entities
use Rattle.doc_profile.specs.declared.phase.Refer.{Refer}
use Rattle.doc_profile.specs.declared.phase.Refer.TheVariants as refers
use Rattle.doc_profile.specs.declared.phase.Phase.{Phase}
use Rattle.doc_profile.specs.declared.phase.Phase.TheVariants as phases
use Rattle.doc_profile.specs.declared.references.Judged.{Judged}
use Rattle.doc_profile.specs.declared.references.Judged.TheVariants as judgements
use Rattle.doc_profile.specs.declared.reader.Level.{Level}
use Rattle.doc_profile.specs.declared.reader.Reader.{Reader}

-- a named reference after its `&`
abbrev pub spelling_of : Entity → List ℕ
spelling_of entities.Less = codes "lt;"
spelling_of entities.Greater = codes "gt;"
spelling_of entities.Ampersand = codes "amp;"
spelling_of entities.Quotation = codes "quot;"
spelling_of entities.Apostrophe = codes "apos;"

-- the character that it gives
abbrev pub meaning_of : Entity → ℕ
meaning_of entities.Less = 60
meaning_of entities.Greater = 62
meaning_of entities.Ampersand = 38
meaning_of entities.Quotation = 34
meaning_of entities.Apostrophe = 39

abbrev pub refer_of : Refer → m.Refer
refer_of refers.Begun = m.begun
refer_of refers.BegunA = m.begun_a
refer_of (refers.Named entity read) = m.named (drop read (spelling_of entity)) (meaning_of entity)
refer_of refers.Numbered = m.numbered
refer_of refers.Hexed = m.hexed
refer_of (refers.Digits hexadecimal number) = m.digits hexadecimal number

abbrev pub judged_of : Judged → m.Judged
judged_of judgements.Refused = m.refused
judged_of (judgements.Going refer) = m.going (refer_of refer)
judged_of (judgements.Gives c) = m.gives c

abbrev pub kind_of : Bool → Kind
kind_of fragment = if fragment then Kind.fragment else Kind.document

abbrev pub level_on : Outer → Level → Outer
level_on outer l = m.level (string_bytes l.name) l.attrs.items (map node l.kids.items) (string_bytes l.text) outer

abbrev pub outer_of : Bool → List Level → Outer
outer_of fragment levels = fold level_on (if fragment then m.fragment else m.document) levels

abbrev pub place_of : Reader → Place
place_of r = record { kids = map node r.kids.items; text = string_bytes r.text; outer = outer_of r.fragment r.levels.items }

abbrev pub phase_in : Phase → List ℕ → List Attr → List ℕ → List ℕ → m.Phase
phase_in phases.Ready name attrs attr value = m.ready
phase_in phases.Opened name attrs attr value = m.opened
phase_in phases.Bang name attrs attr value = m.bang
phase_in phases.BangDash name attrs attr value = m.bang_dash
phase_in (phases.Comment dashes) name attrs attr value = m.comment dashes
phase_in (phases.Instruction mark) name attrs attr value = m.instruction mark
phase_in (phases.Reference refer) name attrs attr value = m.reference (refer_of refer)
phase_in (phases.EndName read) name attrs attr value = m.end_name (drop read name)
phase_in phases.EndSpaced name attrs attr value = m.end_spaced
phase_in phases.StartName name attrs attr value = m.start_name name
phase_in phases.Spaced name attrs attr value = m.spaced name attrs
phase_in phases.AttrName name attrs attr value = m.attr_name name attrs attr
phase_in phases.AttrNamed name attrs attr value = m.attr_named name attrs attr
phase_in phases.Equals name attrs attr value = m.equals name attrs attr
phase_in (phases.Quoted quote) name attrs attr value = m.quoted name attrs attr quote value
phase_in (phases.QuotedReference quote refer) name attrs attr value = m.quoted_reference name attrs attr quote value (refer_of refer)
phase_in phases.Valued name attrs attr value = m.valued name attrs
phase_in phases.Slashed name attrs attr value = m.slashed name attrs

abbrev pub phase_of : Reader → m.Phase
phase_of r = phase_in r.phase (string_bytes r.name) r.attrs (string_bytes r.attr) (string_bytes r.value)

abbrev pub state_of : Reader → State
state_of r = record { place = place_of r; phase = phase_of r }

-- true: the machine goes on to this state; false: it refuses the character
abbrev pub Stepped : Bool → Option State → State → Type 0
Stepped true next s = next ≡ Some s
Stepped false next s = next ≡ None

-- the same, unless memory runs out
abbrev pub Goes : {E : Type 0} → Result Bool E → Option State → State → Type 0
Goes (Ok b) next s = Stepped b next s
Goes (Err e) next s = ⊤

-- the machine goes over a text to this state, or the text has this fault
abbrev pub Walks : Result Unit DocFault → Result State DocFault → State → Type 0
Walks (Ok u) expected s = expected ≡ Ok s
Walks (Err fault) expected s = Faults expected fault

-- a start tag, where one may stand
abbrev pub start_of : Place → ℕ → Option State
start_of p c = if is_name_start c && m.takes_element p then m.at p (m.start_name (encode_utf8 c)) else None

-- characters in content
abbrev pub content_of : Place → ℕ → Option State
content_of p c = if c == 38 then m.at p (m.reference m.begun) else if is_char c then m.at (m.with_text p c) m.ready else None

abbrev pub name_of : Reader → List ℕ
name_of r = string_bytes r.name

abbrev pub attr_of : Reader → List ℕ
attr_of r = string_bytes r.attr

abbrev pub value_of : Reader → List ℕ
value_of r = string_bytes r.value

-- the nodes of a content, and one more after its text
abbrev pub nodes_of : Vec Tree Global → List Node
nodes_of kids = map node kids.items

-- the element that a level's end tag makes
abbrev pub closed : Place → Level → State
closed p l = record {
  place = m.with_node (map node l.kids.items) (string_bytes l.text) p.outer (element (string_bytes l.name) l.attrs.items (nodes (p.kids ++ text_node p.text)));
  phase = m.ready;
}
