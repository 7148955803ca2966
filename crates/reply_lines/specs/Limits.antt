-- The limit of what commands alone know, as definitions name it: the constant of the program, so that the two are one number.
use Rattle.std.specs.Prelude.{ℕ}
use Rattle.reply_lines.specs.declared.reply.TheConstants.{MAX_WATCHES}

-- the most watches
abbrev pub max_watches : ℕ
max_watches = MAX_WATCHES
