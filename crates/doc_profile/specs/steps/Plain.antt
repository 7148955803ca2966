-- Characters that stand in content for themselves, several at once.
use Rattle.std.specs.Prelude.{◌≡◌, ℕ, Bool, true, false, ◌&&◌, not, nat_le, nat_lt, ◌==◌, List, ◌++◌}
use Rattle.std.specs.List.{list_all}
use Rattle.ft_base.specs.Lists.{is_empty}
use Rattle.doc_grammar.specs.steps.Machine.{State, is_content, is_ready}

-- ASCII, no markup and no control character
abbrev pub is_plain : ℕ → Bool
is_plain b = nat_le 0x20 b && nat_lt b 0x80 && not (b == 60) && not (b == 38)

-- a text is under way
abbrev pub is_in_text : State → Bool
is_in_text s = is_ready s.phase && is_content s.place.outer && not (is_empty s.place.text)

abbrev pub with_run : State → List ℕ → State
with_run s run = record { place = record { kids = s.place.kids; text = s.place.text ++ run; outer = s.place.outer }; phase = s.phase }

-- from the rest of a text to what stands after: nothing is taken, or a run in a text, after no carriage return
pub data Passed (after_return : Bool) (s : State) (rest suffix : List ℕ) (t : State) : Type 0 where
  nothing : rest ≡ suffix → t ≡ s → Passed after_return s rest suffix t
  run : (cs : List ℕ) → after_return ≡ false → is_in_text s ≡ true → list_all is_plain cs ≡ true → rest ≡ cs ++ suffix → t ≡ with_run s cs
      → Passed after_return s rest suffix t
