use Rattle.std.proofs.Common.{refl}
use Rattle.command_mirror.proofs.ClosingLemmas.{stopped_behind_close, stopped_in_close, when_ok}
use Rattle.command_mirror.proofs.ReadLemmas.{holds_closed, read_further}
use Rattle.command_mirror.proofs.running.run_mirror.Goals as goal

pub returns-in-Err-clause-ran : goal.returns-in-Err-clause-ran
returns-in-Err-clause-ran g c w bytes run is told is_run =
    rw (c.give_back.ensures.disk, c.give_back.ensures.second) (c.in-Err.ensures.stopped w bytes run is told is_run)

pub returns-in-Ok-closed-clause-ran : goal.returns-in-Ok-closed-clause-ran
returns-in-Ok-closed-clause-ran g c w bytes run is told is_run =
    let at = c.in-Ok.ensures.ran w bytes run is told is_run in
    at.leads _ _ _ (stopped_behind_close _ _ _ _ _ _ at.here at.legs c.in-Ok.found
    c.close-closed.ensures.first_moments c.close-closed.ensures.second_moments _ _
    (when_ok c.close-closed.result.0 c.in-Ok-closed.field-0 c.in-Ok-closed.is _ c.close-closed.ensures.first_flushed)
    (when_ok c.close-closed.result.0 c.in-Ok-closed.field-0 c.in-Ok-closed.is _ c.close-closed.ensures.second_flushed)
    _ c.told_closed.result c.told_closed.ensures.told c.told_closed.ensures.cause)

pub returns-in-Ok-closed-clause-read : goal.returns-in-Ok-closed-clause-read
returns-in-Ok-closed-clause-read g c = (
  c.run_script.ensures.read.0,
  λ w bytes run is told is_run.
      read_further run bytes _ _ _ _ _ (c.run_script.ensures.read.1 w bytes run is told is_run)
      (holds_closed _ _ _ c.told_closed.result c.told_closed.ensures.told),
)

pub returns-in-Err-closed-clause-ran : goal.returns-in-Err-closed-clause-ran
returns-in-Err-closed-clause-ran g c w bytes run is told is_run =
    let at = c.in-Ok.ensures.ran w bytes run is told is_run in
    at.leads _ _ _ (stopped_in_close _ _ _ _ _ _ at.here at.legs c.in-Ok.found
    c.close-closed.ensures.first_moments c.close-closed.ensures.second_moments _ _ refl)
