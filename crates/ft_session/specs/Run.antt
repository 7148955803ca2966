-- What a run of a session's file may leave.
use Rattle.std.specs.Prelude.{◌≡◌, ◌⊎◌, ℕ, Bool, ◌&&◌, not, nat_eq, if◌then◌else◌, List, [], ◌∷◌}
use Rattle.std.specs.Prelude.{◌++◌, length, take, codes, Option, Some, None, IfSome, option_map}
use Rattle.std.specs.List.{starts_with}
use Rattle.ft_base.specs.Lists.{is_empty}
use Rattle.plan_runs.specs.Judgement.{Judgement}
use Rattle.ft_session.specs.declared.status.Status.{Status}
use Rattle.ft_session.specs.declared.status.Status.TheVariants.{Done, SomeRefused}
use Rattle.ft_session.specs.Output.{output, short_output, has_refusal}

-- a word that can be a session's file: it isn't empty and doesn't begin with a hyphen
abbrev pub is_file_word : List ℕ → Bool
is_file_word word = not (is_empty word) && not (starts_with nat_eq word (codes "-"))

-- the session's file that the words of a call name
abbrev pub session_file : List (List ℕ) → Option (List ℕ)
session_file [] = None
session_file (word ∷ []) = if is_file_word word then Some word else None
session_file (word ∷ second ∷ others) = None

-- what a sink holds once it took a text
abbrev pub with_text : Option (List ℕ) → List ℕ → Option (List ℕ)
with_text before text = option_map (λ bytes. bytes ++ text) before

-- a sink that held `before` holds `after`: it took a prefix of the text
pub record TookPrefix (before after : Option (List ℕ)) (text : List ℕ) : Type 0 where
  pub prefix : List ℕ
  pub rest : List ℕ
  pub whole : prefix ++ rest ≡ text
  pub took : after ≡ with_text before prefix

-- the bytes of a file, where they are known, begin with these
abbrev pub BeginsWith : Option (List ℕ) → List ℕ → Type 0
BeginsWith known prefix = IfSome known (λ bytes. prefix ≡ take (length prefix) bytes)

-- the first word of a call, where it has one
abbrev pub first_of : List (List ℕ) → Option (List ℕ)
first_of [] = None
first_of (word ∷ words) = Some word

-- all replies were written
abbrev pub IsFinished : Status → Type 0
IsFinished status = (status ≡ Done) ⊎ (status ≡ SomeRefused)

-- a run over this session read it to its end and wrote all replies, and the status says whether one is a refusal
pub record AnswersAll (says : Judgement) (session : List ℕ) (reached : ℕ) (before after : Option (List ℕ)) (status : Status) : Type 0 where
  pub whole : reached ≡ length session
  pub written : after ≡ with_text before (output says session)
  pub refused : status ≡ (if has_refusal says session then SomeRefused else Done)

-- a run made this session up and wrote all that is written of its replies, and the status says whether one is a refusal
pub record AnswersMade (says : Judgement) (session : List ℕ) (before after : Option (List ℕ)) (status : Status) : Type 0 where
  pub written : after ≡ with_text before (short_output says session)
  pub refused : status ≡ (if has_refusal says session then SomeRefused else Done)
