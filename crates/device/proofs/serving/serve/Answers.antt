use Rattle.device.proofs.ClearTagsLemmas.{clear_tags_still}
use Rattle.device_model.specs.Progress.{FailedServe}
use Rattle.std.proofs.Common.{refl, subst}
use Rattle.device_model.specs.Progress.{FailedServe, Serve}
use Rattle.device_parts.specs.declared.condition.Condition.{Condition}
use Rattle.device_parts.specs.Answers.{served_answer}
use Rattle.device_parts.proofs.ReadyLemmas.{same_flight}
use Rattle.device.specs.Device.{IsDevice, IsReady}
use Rattle.device.proofs.JudgedLemmas.{done_failed, done_working, not_both, turns_broken, turns_failed, turns_none}
use Rattle.device.proofs.RequestLemmas.{broken_serve}
use Rattle.device.proofs.serving.serve.Goals as goal

-- ---- a device that is broken

pub returns-in-Broken-clause-served : goal.returns-in-Broken-clause-served
returns-in-Broken-clause-served g c w is =
    let parts = c.args.parts.now in
    let a = g.D.Disk.moments c.args.disk.now in
    broken_serve w parts a (subst (λ (x : Condition). IsDevice w x parts a) c.in-Broken.is is) c.args.ticket.now

pub returns-in-Broken-clause-condition : goal.returns-in-Broken-clause-condition
returns-in-Broken-clause-condition g c = turns_broken c.args.condition.now c.args.disk.now c.in-Broken.is

pub returns-in-Broken-clause-keeps : goal.returns-in-Broken-clause-keeps
returns-in-Broken-clause-keeps g c = record {
  ready = subst (λ (x : Condition). IsReady x c.args.parts.now (g.D.Disk.identity c.args.disk.now) (g.D.Disk.moments c.args.disk.now))
      c.in-Broken.is c.requires.ready;
  same_mode = refl;
  flight = same_flight c.args.parts.now.common.slots;
  identity = refl;
}

pub returns-in-Broken-clause-writes : goal.returns-in-Broken-clause-writes
returns-in-Broken-clause-writes g c works = not_both c.args.condition.now works c.in-Broken.is

-- ---- one that works

pub returns-in-Ok-clause-served : goal.returns-in-Ok-clause-served
returns-in-Ok-clause-served g c w is =
    let t = c.args.ticket.now in
    done_working w c.args.parts.now c.serve_next.new.parts c.args.condition.now c.in-Working.is _ _ is (Serve t) (FailedServe t)
    served_answer c.in-Ok.served c.in-Ok.ensures.next.does

pub returns-in-Ok-clause-condition : goal.returns-in-Ok-clause-condition
returns-in-Ok-clause-condition g c = turns_none c.args.condition.now c.in-Ok.served _ _ c.in-Working.is

-- ---- one whose disk fails

pub returns-in-Err-clause-served : goal.returns-in-Err-clause-served
returns-in-Err-clause-served g c w is =
    let t = c.args.ticket.now in
    done_failed w c.args.parts.now c.serve_next.new.parts c.args.condition.now c.in-Working.is _ _ is (Serve t) (FailedServe t)
    served_answer _ refl c.in-Err.ensures.next.does

pub returns-in-Err-clause-condition : goal.returns-in-Err-clause-condition
returns-in-Err-clause-condition g c = turns_failed c.args.condition.now _ _ c.in-Working.is

pub returns-in-Broken-clause-tags : goal.returns-in-Broken-clause-tags
returns-in-Broken-clause-tags g c = clear_tags_still c.args.parts.now.mode c.args.parts.now.common (FailedServe c.args.ticket.now) refl

-- ---- what it tells

pub returns-in-Broken-clause-tells : goal.returns-in-Broken-clause-tells
returns-in-Broken-clause-tells g c mode = record { keeps = λ request is. is; told = tt }

pub returns-in-Ok-clause-tells : goal.returns-in-Ok-clause-tells
returns-in-Ok-clause-tells g c mode = let tells = c.in-Ok.ensures.tells mode in record { keeps = tells.keeps; told = tells.told }

pub returns-in-Err-clause-tells : goal.returns-in-Err-clause-tells
returns-in-Err-clause-tells g c mode = record { keeps = (c.in-Err.ensures.tells mode).keeps; told = tt }
