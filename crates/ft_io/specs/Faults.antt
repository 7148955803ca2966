-- When a read or a write fails.
use Rattle.std.specs.Prelude.{◌≡◌, ◌+◌, ◌<◌, ℕ, Result, Ok, Err, MatchResult}
use Rattle.ft_io.specs.declared.failed.Failed.{Failed}

-- a call fails only where the count of faults rose in it, and a call that doesn't fail leaves the count
abbrev pub CountsFault : ℕ → ℕ → Result ℕ Failed → Type 0
CountsFault before now result = MatchResult result (λ _. now ≡ before) (λ _. before < now)

-- a count that a fault raises by one
abbrev pub faults_after : ℕ → Result ℕ Failed → ℕ
faults_after before (Ok _) = before
faults_after before (Err _) = before + 1
