-- What a call of the device tells, by whether the device is broken before it and whether the disk fails in it.
use Rattle.std.proofs.Common.{◌≡◌, List, Ok, Err, refl, sym, ◌∙◌, ap, subst}
use Rattle.disk_model.specs.Disk.{Content}
use Rattle.device_model.specs.Progress as Model
use Rattle.device_model.proofs.SubmissionLemmas.{result-working}
use Rattle.device_parts.specs.declared.answers.StepFault.TheVariants as Faults
use Rattle.device_parts.specs.declared.condition.Condition.{Condition}
use Rattle.device_parts.specs.declared.condition.Condition.TheVariants.{Broken, Working}
use Rattle.device_parts.specs.Answers.{TurnsBroken}
use Rattle.device_parts.specs.Device.{Does, IsDone, Standing}
use Rattle.device.specs.declared.mode.DeviceParts.{DeviceParts}
use Rattle.device.specs.Device.{IsDevice, any_mode}
use Rattle.device.proofs.ModeLemmas.{condition_now}

pub not_both : {P : Type 0} (c : Condition) → c ≡ Working → c ≡ Broken → P
not_both c works broken = absurd (other (sym works ∙ broken))
  where
    other : Working ≡ Broken → ⊥
    other same = cc

-- ---- the turn

pub turns_broken : {T A : Type 0} (c : Condition) (disk : A) → c ≡ Broken → TurnsBroken {T = T} c c (Err Faults.Broken) disk disk
turns_broken c disk broken = record { broken = (λ _. refl, λ _. broken); after = broken; kept = λ _. refl }

pub turns_none : {T A : Type 0} (c : Condition) (told : T) (first last : A) → c ≡ Working → TurnsBroken c c (Ok told) first last
turns_none c told first last works = record {
  broken = (λ broken. not_both c works broken, λ same. absurd cc);
  after = works;
  kept = λ broken. not_both c works broken;
}

pub turns_failed : {T A : Type 0} (c : Condition) (first last : A) → c ≡ Working → TurnsBroken {T = T} c Broken (Err Faults.Disk) first last
turns_failed c first last works = record {
  broken = (λ broken. not_both c works broken, λ same. absurd cc);
  after = refl;
  kept = λ broken. not_both c works broken;
}

-- ---- the event

module _ (w : Standing) (parts new : DeviceParts) (condition : Condition) (works : condition ≡ Working) (a b : List Content)
    (is : IsDevice w condition parts a) where
  works_now : IsDevice w Working parts a
  works_now = subst (λ (c : Condition). IsDevice w c parts a) works is

  pub done_working : {T E : Type 0} (event failed : Model.Event) (answer : T → Model.Answer) (told : T)
      → Does {E = E} any_mode event failed answer parts new a b (Ok told)
      → IsDone any_mode w event (answer told) Working new a b
  done_working event failed answer told does = does.done w works_now

  pub done_failed : {T E : Type 0} (event failed : Model.Event) (answer : T → Model.Answer) (fault : E)
      → (Model.working_result w.format w.state failed).answer ≡ Model.DiskFailed
      → Does {T = T} any_mode event failed answer parts new a b (Err fault)
      → IsDone any_mode w failed Model.DiskFailed Broken new a b
  done_failed event failed answer fault tells does = record {
    answers = ap (λ (x : Model.EventResult). x.answer)
        (result-working w.format w.state failed (condition_now w Working parts.mode parts.common a works_now)) ∙ tells;
    done = does.err w works_now;
  }
