use Rattle.device.proofs.CallLemmas.{device_works, fault_is_disk, stepped_failed, stepped_run}
use Rattle.device.proofs.making_room.step.Goals as goal

pub returns-in-Ok-clause-runs : goal.returns-in-Ok-clause-runs
returns-in-Ok-clause-runs g c = record {
  done = λ w is. stepped_run w c.args.actor _ _ _ _ is (c.step.ensures.writes c.requires.works.is) c.step.ensures.tags c.in-Ok.moved
      (c.in-Ok.ensures.stepped w (device_works w _ _ _ c.requires.works.is is));
  err = tt;
  keeps = c.in-Ok.ensures.keeps;
}

pub returns-in-Ok-clause-answers : goal.returns-in-Ok-clause-answers
returns-in-Ok-clause-answers g c w is = (c.in-Ok.ensures.stepped w (device_works w _ _ _ c.requires.works.is is)).answers

pub returns-in-Ok-clause-turn : goal.returns-in-Ok-clause-turn
returns-in-Ok-clause-turn g c = c.in-Ok.ensures.condition.after

pub returns-in-Err-clause-runs : goal.returns-in-Err-clause-runs
returns-in-Err-clause-runs g c =
    let disk = fault_is_disk c.args.device.now.condition c.in-Err.field-0 c.requires.works.is c.in-Err.ensures.condition.broken in
    record {
      done = tt;
      err = λ w is. stepped_failed w c.args.actor _ _ _ _ is (c.step.ensures.writes c.requires.works.is) c.step.ensures.tags c.in-Err.field-0
          (c.in-Err.ensures.stepped w (device_works w _ _ _ c.requires.works.is is)) disk;
      keeps = c.in-Err.ensures.keeps;
    }

pub returns-in-Err-clause-turn : goal.returns-in-Err-clause-turn
returns-in-Err-clause-turn g c = c.in-Err.ensures.condition.after
