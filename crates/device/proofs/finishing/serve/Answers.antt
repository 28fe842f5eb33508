use Rattle.device.proofs.CallLemmas.{device_works, fault_is_disk}
use Rattle.device.proofs.TurnRunLemmas.{served_failed, served_run}
use Rattle.device.proofs.finishing.serve.Goals as goal

pub returns-in-Ok-clause-runs : goal.returns-in-Ok-clause-runs
returns-in-Ok-clause-runs g c = record {
  done = λ w is. served_run w c.args.ticket.now _ _ _ _ is c.requires.there (c.serve.ensures.writes c.requires.works.is) c.serve.ensures.tags c.in-Ok.served
      (c.in-Ok.ensures.served w (device_works w _ _ _ c.requires.works.is is));
  err = tt;
  keeps = c.in-Ok.ensures.keeps;
}

pub returns-in-Ok-clause-answers : goal.returns-in-Ok-clause-answers
returns-in-Ok-clause-answers g c w is = (c.in-Ok.ensures.served w (device_works w _ _ _ c.requires.works.is is)).answers

pub returns-in-Ok-clause-turn : goal.returns-in-Ok-clause-turn
returns-in-Ok-clause-turn g c = c.in-Ok.ensures.condition.after

pub returns-in-Err-clause-runs : goal.returns-in-Err-clause-runs
returns-in-Err-clause-runs g c =
    let disk = fault_is_disk c.args.device.now.condition c.in-Err.field-0 c.requires.works.is c.in-Err.ensures.condition.broken in
    record {
      done = tt;
      err = λ w is. served_failed w c.args.ticket.now _ _ _ _ is c.requires.there (c.serve.ensures.writes c.requires.works.is) c.serve.ensures.tags c.in-Err.field-0
          (c.in-Err.ensures.served w (device_works w _ _ _ c.requires.works.is is)) disk;
      keeps = c.in-Err.ensures.keeps;
    }

pub returns-in-Err-clause-turn : goal.returns-in-Err-clause-turn
returns-in-Err-clause-turn g c = c.in-Err.ensures.condition.after

pub returns-in-Ok-clause-tells : goal.returns-in-Ok-clause-tells
returns-in-Ok-clause-tells g c mode = let tells = c.in-Ok.ensures.tells mode in record { keeps = tells.keeps; told = tells.told }

pub returns-in-Err-clause-tells : goal.returns-in-Err-clause-tells
returns-in-Err-clause-tells g c mode = record { keeps = (c.in-Err.ensures.tells mode).keeps; told = tt }
