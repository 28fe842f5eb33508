use Rattle.device.proofs.ClearTagsLemmas.{clear_tags_still}
use Rattle.device_model.specs.Actors.{actor_of}
use Rattle.device_model.specs.Progress.{Step}
use Rattle.std.proofs.Common.{refl, subst}
use Rattle.device_model.specs.Progress.{FailedStep, Step}
use Rattle.device_parts.specs.declared.condition.Condition.{Condition}
use Rattle.device_parts.specs.Answers.{moved_answer}
use Rattle.device_parts.proofs.ReadyLemmas.{same_flight}
use Rattle.device.specs.Device.{IsDevice, IsReady}
use Rattle.device.proofs.JudgedLemmas.{done_failed, done_working, not_both, turns_broken, turns_failed, turns_none}
use Rattle.device.proofs.RequestLemmas.{broken_step}
use Rattle.device.proofs.stepping.step.Goals as goal

-- ---- a device that is broken

pub returns-in-Broken-clause-stepped : goal.returns-in-Broken-clause-stepped
returns-in-Broken-clause-stepped g c w is =
    let parts = c.args.parts.now in
    let a = g.D.Disk.moments c.args.disk.now in
    broken_step w parts a (subst (λ (x : Condition). IsDevice w x parts a) c.in-Broken.is is) (actor_of c.args.actor)

pub returns-in-Broken-clause-condition : goal.returns-in-Broken-clause-condition
returns-in-Broken-clause-condition g c = turns_broken c.args.condition.now c.args.disk.now c.in-Broken.is

pub returns-in-Broken-clause-keeps : goal.returns-in-Broken-clause-keeps
returns-in-Broken-clause-keeps g c = record {
  ready = subst (λ (x : Condition). IsReady x c.args.parts.now (g.D.Disk.identity c.args.disk.now) (g.D.Disk.moments c.args.disk.now))
      c.in-Broken.is c.requires;
  same_mode = refl;
  flight = same_flight c.args.parts.now.common.slots;
  identity = refl;
}

pub returns-in-Broken-clause-writes : goal.returns-in-Broken-clause-writes
returns-in-Broken-clause-writes g c works = not_both c.args.condition.now works c.in-Broken.is

-- ---- one that works

pub returns-in-Ok-clause-stepped : goal.returns-in-Ok-clause-stepped
returns-in-Ok-clause-stepped g c w is =
    let actor = actor_of c.args.actor in
    done_working w c.args.parts.now c.step_next.new.parts c.args.condition.now c.in-Working.is _ _ is (Step actor) (FailedStep actor)
    moved_answer c.in-Ok.moved c.in-Ok.ensures.next

pub returns-in-Ok-clause-condition : goal.returns-in-Ok-clause-condition
returns-in-Ok-clause-condition g c = turns_none c.args.condition.now c.in-Ok.moved _ _ c.in-Working.is

-- ---- one whose disk fails

pub returns-in-Err-clause-stepped : goal.returns-in-Err-clause-stepped
returns-in-Err-clause-stepped g c w is =
    let actor = actor_of c.args.actor in
    done_failed w c.args.parts.now c.step_next.new.parts c.args.condition.now c.in-Working.is _ _ is (Step actor) (FailedStep actor)
    moved_answer _ refl c.in-Err.ensures.next

pub returns-in-Err-clause-condition : goal.returns-in-Err-clause-condition
returns-in-Err-clause-condition g c = turns_failed c.args.condition.now _ _ c.in-Working.is

pub returns-in-Broken-clause-tags : goal.returns-in-Broken-clause-tags
returns-in-Broken-clause-tags g c = clear_tags_still c.args.parts.now.mode c.args.parts.now.common (Step (actor_of c.args.actor)) refl
