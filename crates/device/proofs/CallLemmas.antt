-- Calls of a device as runs of events.
use Rattle.std.proofs.Common.{◌≡◌, ◌↔◌, List, [], ◌∷◌, ◌++◌, Result, Ok, Err, refl, sym, ◌∙◌, ap, subst, append-nil, append_assoc}
use Rattle.disk_model.specs.Disk.{Content}
use Rattle.disk_model.specs.Identity.{DiskIdentity}
use Rattle.device_model.specs.Actors.{actor_of}
use Rattle.device_model.specs.Progress as Progress
use Rattle.device_model.specs.Progress.{DeviceState, Event, FailedStep, Step, after_event, after_events}
use Rattle.device_model.specs.Script.{IsOfJournal, idle_events, room_events}
use Rattle.device_model.proofs.IdleLemmas.{after_events-append, idle_events-journal}
use Rattle.device_model.specs.declared.actor.Actor.{Actor}
use Rattle.device_parts.specs.declared.answers.Moved.{Moved}
use Rattle.device_parts.specs.declared.answers.StepFault.{StepFault}
use Rattle.device_parts.specs.declared.answers.StepFault.TheVariants as Faults
use Rattle.device_parts.specs.declared.condition.Condition.{Condition}
use Rattle.device_parts.specs.declared.condition.Condition.TheVariants as Conditions
use Rattle.device_parts.specs.Answers.{condition_by}
use Rattle.device.specs.declared.mode.DeviceParts.{DeviceParts}
use Rattle.device.specs.Answers.{KeepsClearTags, WritesInStep}
use Rattle.device_parts.specs.Answers.{HasStepped}
use Rattle.device_parts.specs.Device.{Answers, KeepsParts}
use Rattle.device.specs.Device.{IsDevice, IsReady, any_mode}
use Rattle.device_parts.specs.Device.{Standing}
use Rattle.device.proofs.ModeLemmas.{condition_now}
use Rattle.device.specs.Calls.{Runs, Works}
use Rattle.device_parts.proofs.ReadyLemmas.{kept_flight, same_flight}
use Rattle.device.specs.Run.{HasFailed, HasRun, standing_behind}
use Rattle.device.proofs.LeavesLemmas.{step_leaves}
use Rattle.device.proofs.RunLemmas.{failed_then, failed_wider, one_failed, run_none, run_one, run_then}

-- ---- what stays

-- The disk failed where a device that works is at fault.
pub fault_is_disk : {T : Type 0} (c : Condition) (fault : StepFault) → c ≡ Conditions.Working
    → ((c ≡ Conditions.Broken) ↔ (◌≡◌ {A = Result T StepFault} (Err fault) (Err Faults.Broken)))
    → fault ≡ Faults.Disk
fault_is_disk c Faults.Disk works broken = refl
fault_is_disk c Faults.Broken works broken = absurd (other (sym works ∙ broken.1 refl))
  where
    other : Conditions.Working ≡ Conditions.Broken → ⊥
    other same = cc

pub device_works : (w : Standing) (condition : Condition) (parts : DeviceParts) (a : List Content)
    → condition ≡ Conditions.Working → IsDevice w Conditions.Working parts a → IsDevice w condition parts a
device_works w condition parts a works is = subst (λ (x : Condition). IsDevice w x parts a) (sym works) is

-- ---- one step

module _ (w : Standing) (actor : Actor) (old new : DeviceParts) (a b : List Content)
    (is : IsDevice w Conditions.Working old a) (writes : WritesInStep old.mode actor old.common a b)
    (tags : KeepsClearTags old.mode old.common (Step (actor_of actor)) a b) where
  pub stepped_run : (moved : Moved) → HasStepped any_mode w (actor_of actor) (Ok moved) Conditions.Working new a b
      → HasRun w (Step (actor_of actor) ∷ []) new a b
  stepped_run moved has = run_one w (Step (actor_of actor)) new a b has.done (step_leaves w old.common a old.mode is actor writes tags)

  pub stepped_failed : (fault : StepFault) → HasStepped any_mode w (actor_of actor) (Err fault) Conditions.Broken new a b
      → fault ≡ Faults.Disk → HasFailed w (Step (actor_of actor) ∷ []) new a b
  stepped_failed fault has disk =
      one_failed w (Step (actor_of actor)) (FailedStep (actor_of actor)) new a b
      (condition_now w Conditions.Working old.mode old.common a is) refl
      (subst (λ (x : StepFault). HasStepped any_mode w (actor_of actor) (Err x) Conditions.Broken new a b) disk has).done
      (step_leaves w old.common a old.mode is actor writes tags)

-- ---- steps until an actor is idle

-- Some steps are done, and the others are those that it goes on with.
pub record IsOnWay (w : Standing) (actor : Progress.Actor) (parts : DeviceParts) (before now : List Content) : Type 0 where
  pub made : List Event
  pub run : HasRun w made parts before now
  pub rest : idle_events w.format actor w.state
      ≡ made ++ idle_events w.format actor (after_events w.format w.state made)

pub way_begins : (w : Standing) (actor : Progress.Actor) (parts : DeviceParts) (a : List Content)
    → IsDevice w Conditions.Working parts a → IsOnWay w actor parts a a
way_begins w actor parts a is = record { made = []; run = run_none w parts a is; rest = refl }

module _ (w : Standing) (actor : Progress.Actor) (of_journal : IsOfJournal actor) (p q : DeviceParts)
    (a b c : List Content) (way : IsOnWay w actor p a b) where
  abbrev here : Standing
  here = standing_behind w way.made

  abbrev more : Progress.Answer → List Event
  more answer = elim answer [ Progress.Did ↦ idle_events w.format actor (after_event w.format here.state (Step actor)) | _ ↦ [] ]

  -- What is left begins with a step.
  step_is : (answer : Progress.Answer) → Answers here (Step actor) answer
      → idle_events w.format actor w.state ≡ (way.made ++ Step actor ∷ []) ++ more answer
  step_is answer is =
      way.rest
      ∙ ap (λ (l : List Event). way.made ++ l)
      (idle_events-journal w.format actor of_journal here.state ∙ ap (λ (x : Progress.Answer). Step actor ∷ more x) is)
      ∙ sym (append_assoc way.made (Step actor ∷ []) (more answer))

  -- One step more, where it did something,
  pub way_goes_on : Answers here (Step actor) Progress.Did → HasRun here (Step actor ∷ []) q b c → IsOnWay w actor q a c
  way_goes_on is step = record {
    made = way.made ++ Step actor ∷ [];
    run = run_then w way.made (Step actor ∷ []) p q a b c way.run step;
    rest =
        step_is Progress.Did is
        ∙ ap (λ (u : DeviceState). (way.made ++ Step actor ∷ []) ++ idle_events w.format actor u) (sym (after_events-append w.format w.state way.made (Step actor ∷ [])));
  }

  -- and where that is the last,
  pub way_ends : Answers here (Step actor) Progress.Idle → HasRun here (Step actor ∷ []) q b c
      → HasRun w (idle_events w.format actor w.state) q a c
  way_ends is step =
      subst (λ (l : List Event). HasRun w l q a c) (sym (step_is Progress.Idle is ∙ append-nil (way.made ++ Step actor ∷ [])))
      (run_then w way.made (Step actor ∷ []) p q a b c way.run step)

  -- and where the disk failed in it.
  pub way_cut : HasFailed here (Step actor ∷ []) q b c → HasFailed w (idle_events w.format actor w.state) q a c
  way_cut failed =
      let answer = (Progress.event_result w.format here.state (Step actor)).answer in
      subst (λ (l : List Event). HasFailed w l q a c) (sym (step_is answer refl))
      (failed_wider w (way.made ++ Step actor ∷ []) (more answer) q a c (failed_then w way.made (Step actor ∷ []) p q a b c way.run failed))

-- ---- calls one after the other

-- What a call keeps behind another one is kept by both.
pub kept_then : (first second : Condition) (old mid new : DeviceParts) (disk then_ now : DiskIdentity) (b c : List Content)
    → KeepsParts any_mode first old mid disk then_ b → KeepsParts any_mode second mid new then_ now c
    → KeepsParts any_mode second old new disk now c
kept_then first second old mid new disk then_ now b c x y = record {
  ready = y.ready;
  same_mode = y.same_mode ∙ x.same_mode;
  flight = kept_flight old.common.slots mid.common.slots new.common.slots x.flight y.flight;
  identity = y.identity ∙ x.identity;
}

-- A call in which the disk failed.
pub runs_failed : {D T E : Type 0} (identity : D → DiskIdentity) (moments : D → List Content) (events : Standing → List Event)
    (old new : DeviceParts) (first last : D) (result : Result T E) (fault : E) → result ≡ Err fault
    → ((w : Standing) → IsDevice w Conditions.Working old (moments first) → HasFailed w (events w) new (moments first) (moments last))
    → KeepsParts any_mode Conditions.Broken old new (identity first) (identity last) (moments last)
    → Runs identity moments events old new first last result
runs_failed {D} {T} {E} identity moments events old new first last result fault same failed keeps =
    subst (λ (r : Result T E). Runs identity moments events old new first last r) (sym same)
    (record { done = tt; err = failed; keeps = keeps })

pub turn_broken : {T E : Type 0} (condition : Condition) (result : Result T E) (fault : E) → result ≡ Err fault
    → condition ≡ Conditions.Broken → condition ≡ condition_by result
turn_broken {T} {E} condition result fault same broken = broken ∙ ap (λ (r : Result T E). condition_by r) (sym same)

-- What works is ready, and keeps itself;
pub ready_works : {D : Type 0} (identity : D → DiskIdentity) (moments : D → List Content) (condition : Condition)
    (parts : DeviceParts) (disk : D) → Works identity moments condition parts disk
    → IsReady Conditions.Working parts (identity disk) (moments disk)
ready_works identity moments condition parts disk works =
    subst (λ (c : Condition). IsReady c parts (identity disk) (moments disk)) works.is works.ready

pub keeps_none : {D : Type 0} (identity : D → DiskIdentity) (moments : D → List Content) (condition : Condition)
    (parts : DeviceParts) (disk : D) → Works identity moments condition parts disk
    → KeepsParts any_mode Conditions.Working parts parts (identity disk) (identity disk) (moments disk)
keeps_none identity moments condition parts disk works = record {
  ready = ready_works identity moments condition parts disk works;
  same_mode = refl;
  flight = same_flight parts.common.slots;
  identity = refl;
}

-- and what a call keeps that went well works.
pub works_then : {D : Type 0} (identity : D → DiskIdentity) (moments : D → List Content) (condition : Condition)
    (old new : DeviceParts) (was : DiskIdentity) (disk : D) → condition ≡ Conditions.Working
    → KeepsParts any_mode Conditions.Working old new was (identity disk) (moments disk)
    → Works identity moments condition new disk
works_then identity moments condition old new was disk same keeps = record {
  ready = subst (λ (c : Condition). IsReady c new (identity disk) (moments disk)) (sym same) keeps.ready;
  is = same;
}

-- ---- room is made

module _ (w : Standing) where
  abbrev commits : List Event
  commits = idle_events w.format Progress.Commit w.state

  abbrev committed : Standing
  committed = standing_behind w commits

  abbrev places : List Event
  places = idle_events w.format Progress.Place committed.state

  abbrev placed : Standing
  placed = standing_behind committed places

  abbrev settles : List Event
  settles = idle_events w.format Progress.Settle placed.state

  pub room_failed_at_commit : (p : DeviceParts) (a b : List Content) → HasFailed w commits p a b
      → HasFailed w (room_events w.format w.state) p a b
  room_failed_at_commit p a b failed = failed_wider w commits (places ++ settles) p a b failed

  pub room_failed_at_place : (p q : DeviceParts) (a b c : List Content) → HasRun w commits p a b
      → HasFailed committed places q b c → HasFailed w (room_events w.format w.state) q a c
  room_failed_at_place p q a b c first failed =
      failed_then w commits (places ++ settles) p q a b c first (failed_wider committed places settles q b c failed)

  pub room_failed_at_settle : (p q r : DeviceParts) (a b c d : List Content) → HasRun w commits p a b
      → HasRun committed places q b c → HasFailed placed settles r c d → HasFailed w (room_events w.format w.state) r a d
  room_failed_at_settle p q r a b c d first second failed =
      failed_then w commits (places ++ settles) p r a b d first (failed_then committed places settles q r b c d second failed)

  pub room_made : (p q r : DeviceParts) (a b c d : List Content) → HasRun w commits p a b
      → HasRun committed places q b c → HasRun placed settles r c d → HasRun w (room_events w.format w.state) r a d
  room_made p q r a b c d first second third =
      run_then w commits (places ++ settles) p r a b d first (run_then committed places settles q r b c d second third)

-- A call behind others, whatever it answers.
pub runs_behind : {D T E : Type 0} (identity : D → DiskIdentity) (moments : D → List Content) (events whole : Standing → List Event)
    (at : Standing → Standing) (old mid new : DeviceParts) (first middle last : D) (result : Result T E)
    → ((w : Standing) → IsDevice w Conditions.Working old (moments first) → IsDevice (at w) Conditions.Working mid (moments middle))
    → ((w : Standing) → IsDevice w Conditions.Working old (moments first)
    → HasRun (at w) (events (at w)) new (moments middle) (moments last) → HasRun w (whole w) new (moments first) (moments last))
    → ((w : Standing) → IsDevice w Conditions.Working old (moments first)
    → HasFailed (at w) (events (at w)) new (moments middle) (moments last) → HasFailed w (whole w) new (moments first) (moments last))
    → KeepsParts any_mode Conditions.Working old mid (identity first) (identity middle) (moments middle)
    → Runs identity moments events mid new middle last result → Runs identity moments whole old new first last result
runs_behind identity moments events whole at old mid new first middle last (Ok x) moved done failed keeps runs = record {
  done = λ w is. done w is (runs.done (at w) (moved w is));
  err = tt;
  keeps = kept_then _ _ old mid new _ _ _ _ _ keeps runs.keeps;
}
runs_behind identity moments events whole at old mid new first middle last (Err fault) moved done failed keeps runs = record {
  done = tt;
  err = λ w is. failed w is (runs.err (at w) (moved w is));
  keeps = kept_then _ _ old mid new _ _ _ _ _ keeps runs.keeps;
}
