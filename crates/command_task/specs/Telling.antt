-- What a command writes last.
use Rattle.std.specs.Prelude.{ℕ, List, []}
use Rattle.run_model.specs.Ending.{Ending, fault_text}
use Rattle.command_task.specs.declared.telling.Telling.{Telling}
use Rattle.command_task.specs.declared.telling.Telling.TheVariants.{Lines, Replies}

-- Its last line, and nothing behind the replies of a session.
abbrev pub last_text : Telling → Ending → List ℕ
last_text Lines ending = fault_text ending
last_text Replies ending = []
