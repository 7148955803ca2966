-- One search through all words, from a place on: how far it leads, and what the moves of the sources leave.
use Rattle.std.specs.Prelude.{◌≡◌, ℕ, ◌<◌, ◌≤◌, Bool, true, false, List, length, get_or}
use Rattle.std.specs.declared.vec.Vec.{Vec}
use Rattle.std.specs.declared.alloc.Global.{Global}
use Rattle.ft_base.specs.declared.hit.Hit.{Hit}
use Rattle.ft_base.specs.Hits.{HitPlace}
use Rattle.place_merges.specs.steps.Searching.{SameFrom, Shown, shown_all, shown_sources, some_has}

-- whether a word has a hit at a place
abbrev pub has_hit : {H : Type 0} → (H → HitPlace) → Vec H Global → ℕ → Bool
has_hit stand word place = some_has stand word.items place

abbrev pub shown_word : {H : Type 0} → (H → HitPlace) → (H → Bool) → Vec H Global → Shown (List (List Hit))
shown_word stand plain word = shown_sources stand plain word.items

abbrev pub shown_words : {H : Type 0} → (H → HitPlace) → (H → Bool) → List (Vec H Global) → Shown (List (List (List Hit)))
shown_words stand plain words = shown_all (shown_word stand plain) words

-- as many words, each of which passes at the same places, from one place on
pub record SameWords {A : Type 0} (passes : A → ℕ → Bool) (place : ℕ) (new old : List A) : Type 0 where
  pub long : length new ≡ length old
  pub same : (number : ℕ) (other : A) → number < length old → SameFrom place (passes (get_or new number other)) (passes (get_or old number other))

-- a test holds at some place from the first to the last
pub record Between (test : ℕ → Bool) (first last : ℕ) : Type 0 where
  pub place : ℕ
  pub from : first ≤ place
  pub to : place ≤ last
  pub there : test place ≡ true

-- one of the words passes nowhere from the first place up to the last, that one not counted
pub record Lacks {A : Type 0} (passes : A → ℕ → Bool) (first last : ℕ) (words : List A) (count : ℕ) : Type 0 where
  pub number : ℕ
  pub within : number < count
  pub none : (other : A) (place : ℕ) → first ≤ place → place < last → passes (get_or words number other) place ≡ false

-- each word passes somewhere from `near` to `far`, which are not before the place, and one doesn't before `far`; where `far` is the
-- limit, one passes nowhere before it
pub record Reaches {A : Type 0} (passes : A → ℕ → Bool) (words : List A) (place limit near far : ℕ) : Type 0 where
  pub from : place ≤ far
  pub to : far ≤ limit
  pub begins : place ≤ near
  pub each : far < limit → (number : ℕ) (other : A) → number < length words → Between (passes (get_or words number other)) near far
  pub lacks : place < far → Lacks passes place far words (length words)
