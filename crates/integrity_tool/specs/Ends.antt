-- How a command ended, as far as the clauses ask, by its result.
use Rattle.std.specs.Prelude.{◌≡◌, ◌⊎◌, Result, Err, IsOk, IsErrAnd, IfErr}
use Rattle.command_model.specs.Ends.{Ends}
use Rattle.command_ending.specs.declared.ended.Ended.{Ended}
use Rattle.command_ending.specs.declared.ended.Ended.TheVariants as Endings
use Rattle.integrity_tool.specs.KeyFile.{HasKeyRead}
use Rattle.command_ending.specs.declared.refusal.Refusal.TheVariants as refusals
use Rattle.command_task.specs.Running.{IsBeforeScript}

-- What the result of a command tells of that.
abbrev pub ends_by : {T : Type 0} → Result T Ended → Ends
ends_by result = record {
  complete = IsOk result;
  by_words = (result ≡ Err (Endings.Refused refusals.Words)) ⊎ (result ≡ Err Endings.Memory);
  before_script = IsErrAnd result IsBeforeScript;
  key_read = IfErr result HasKeyRead;
}
