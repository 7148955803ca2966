-- What a program answers for each status.
use Rattle.std.specs.Prelude.{ℕ, List, [], codes}
use Rattle.ft_session.specs.declared.status.Status.{Status}
use Rattle.ft_session.specs.declared.status.Status.TheVariants.{Done, SomeRefused, Usage, ReadFault, WriteFault, Memory, TooLong}

abbrev pub exit_number : Status → ℕ
exit_number Done = 0
exit_number SomeRefused = 1
exit_number Usage = 2
exit_number ReadFault = 3
exit_number WriteFault = 4
exit_number Memory = 5
exit_number TooLong = 6

abbrev pub error_line : Status → List ℕ
error_line Done = []
error_line SomeRefused = []
error_line Usage = codes "usage: ftq SESSION | ftq --make N"
error_line ReadFault = codes "ftq: read fault"
error_line WriteFault = codes "ftq: write fault"
error_line Memory = codes "ftq: out of memory"
error_line TooLong = codes "ftq: session too long"
