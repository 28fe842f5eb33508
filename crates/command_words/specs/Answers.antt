-- An answer that may be refused.
use Rattle.std.specs.Prelude.{◌≡◌, Option, Some, None, Result, Ok, Err}
use Rattle.clap.specs.declared.error.ErrorKind.{ErrorKind}
use Rattle.clap.specs.declared.error.ErrorKind.TheVariants.{OutOfMemory}
use Rattle.command_words.specs.declared.words_fault.WordsFault.{WordsFault}
use Rattle.command_words.specs.declared.words_fault.WordsFault.TheVariants.{Refused, Memory}

-- The answer is this value, and the refusal where there is none. Memory may run out before.
abbrev pub Answers : {X : Type 0} → Option X → Result X WordsFault → Type 0
Answers expected (Ok value) = expected ≡ Some value
Answers expected (Err Refused) = expected ≡ None
Answers expected (Err Memory) = Unit {0}

-- The fault of a refusal by `clap`: its kinds are not told apart, but for want of memory.
abbrev pub fault_by : ErrorKind → WordsFault
fault_by OutOfMemory = Memory
fault_by _ = Refused
