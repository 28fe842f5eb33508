-- What is taken of a script on a mirror: nothing where no line is run, and no more where more is printed.
use Rattle.std.proofs.Common.{◌≡◌, ℕ, ◌+◌, ◌≤◌, List, [], length, take, refl, sym, subst, arith, Option, Some, Result, Ok, Err}
use Rattle.std.specs.Option.{IsSomeAnd}
use Rattle.device_model.specs.ScriptBytes.{most_piece}
use Rattle.device_model.specs.Transcript.{closed_text}
use Rattle.mirror_model.specs.Command.{MirrorOutset, Mirrors, RefusedBefore, RefusedLegs, RefusedOpen}
use Rattle.mirror_model.specs.ScriptRun.{MirrorRun}
use Rattle.command_model.specs.Mirroring.{HasReadIn, HasReadTo}
use Rattle.mirror_run.proofs.StoppingLemmas.{told_nothing}
use Rattle.command_ending.specs.declared.ended.Ended.{Ended}
use Rattle.command_model.specs.Taken.{HasTaken, HoldsText}
use Rattle.command_task.proofs.UnbegunLemmas.{holds_further}
use Rattle.script_text.specs.declared.tags_found.TagsFound.{TagsFound}
use Rattle.command_mirror.specs.Calls.{TellsClosed}

-- A source that is not called has given nothing,
pub none_taken : (most : ℕ) (left : Option (List ℕ)) → HasTaken most left left
none_taken most left bytes told =
    subst (λ (o : Option (List ℕ)). IsSomeAnd o (λ more. length bytes ≤ length more + most)) (sym told) (omega arith)

-- so of whatever the command starts on nothing is taken.
none_read : (run : MirrorRun) (script : List ℕ) (left held : Option (List ℕ)) (failed : Type 0) → left ≡ Some script
    → HasReadTo run script left held held failed
none_read run script left held failed told = record {
  done = 0;
  of_run = omega arith;
  printed = record { more = []; is = told_nothing held };
  front = [];
  line = [];
  ending = [];
  behind = script;
  bytes = refl;
  within = omega arith;
  plain = λ at x less is. absurd (omega (arith, less));
  short = omega arith;
  taken = subst (λ (o : Option (List ℕ)). IsSomeAnd o (λ more. length script ≤ length more + most_piece)) (sym told) (omega arith);
  asked = λ rose. told;
  untouched = λ none. told;
}

pub read_none : (outset : MirrorOutset) (script : List ℕ) (left held : Option (List ℕ)) (failed : Type 0) → left ≡ Some script
    → HasReadIn outset script left held held failed
read_none (RefusedBefore ending) script left held failed told = told
read_none (RefusedOpen kind first fault) script left held failed told = told
read_none (RefusedLegs kind first second) script left held failed told = told
read_none (Mirrors kind first second) script left held failed told = λ run is. none_read run script left held failed told

-- More is printed.
pub read_further : (run : MirrorRun) (script : List ℕ) (left held_before held held_after : Option (List ℕ)) (failed : Type 0)
    → HasReadTo run script left held_before held failed → HoldsText [] held held_after
    → HasReadTo run script left held_before held_after failed
read_further run script left held_before held held_after failed read more = record {
  done = read.done;
  of_run = read.of_run;
  printed = holds_further read.printed more;
  front = read.front;
  line = read.line;
  ending = read.ending;
  behind = read.behind;
  bytes = read.bytes;
  within = read.within;
  plain = read.plain;
  short = read.short;
  taken = read.taken;
  asked = read.asked;
  untouched = read.untouched;
}

-- What is printed at the close is behind what was.
pub holds_closed : (found : TagsFound) (held_before held : Option (List ℕ)) (result : Result TagsFound Ended)
    → TellsClosed found held_before held result → HoldsText [] held_before held
holds_closed found held_before held (Ok told) tells = record { more = closed_text; is = tells.1 }
holds_closed found held_before held (Err ended) tells = record { more = take tells.count closed_text; is = tells.held }
