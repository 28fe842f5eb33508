-- Serves of a request as runs of events.
use Rattle.std.proofs.Common.{◌≡◌, ◌≢◌, ℕ, suc, true, List, [], ◌∷◌, ◌++◌, Ok, Err, Some, refl, sym, ◌∙◌, ap, subst, arith, append-nil, append_assoc}
use Rattle.std.specs.List.{list_any}
use Rattle.disk_model.specs.Disk.{Content}
use Rattle.device_model.specs.Progress.{DeviceState, Event, FailedServe, NoRoom, Serve, after_events, answers}
use Rattle.device_model.specs.Script.{last_answer, room_events, turn_events, whole_finish}
use Rattle.device_model.proofs.IdleLemmas.{after_events-append}
use Rattle.request_slots.specs.Flight.{is_in_flight, is_of}
use Rattle.request_slots.specs.declared.slot.Slot.{Slot}
use Rattle.device_parts.specs.declared.answers.StepFault.{StepFault}
use Rattle.device_parts.specs.declared.answers.StepFault.TheVariants as Faults
use Rattle.device_parts.specs.declared.condition.Condition.TheVariants as Conditions
use Rattle.device_parts.proofs.TurnLemmas.{IsPlaced, placed}
use Rattle.device_parts.specs.declared.answers.Served.{Served}
use Rattle.device_parts.specs.declared.answers.Served.TheVariants as Serves
use Rattle.device_parts.specs.Answers.{served_answer}
use Rattle.device.specs.declared.mode.DeviceParts.{DeviceParts}
use Rattle.device.specs.Answers.{KeepsClearTags, WritesInServe}
use Rattle.device_parts.specs.Answers.{HasServed}
use Rattle.device_parts.specs.Device.{Answers}
use Rattle.device.specs.Device.{IsDevice, any_mode}
use Rattle.device_parts.specs.Device.{Standing}
use Rattle.device.proofs.ModeLemmas.{condition_now, flight_now, reached_now}
use Rattle.device.specs.Run.{HasFailed, HasRun, standing_behind}
use Rattle.device.proofs.LeavesLemmas.{serve_leaves}
use Rattle.device.proofs.FinishLemmas.{begins, more_by, turn-alone, turn-with_room, whole_finish-by}
use Rattle.device.proofs.RunLemmas.{failed_then, failed_wider, one_failed, run_none, run_one, run_then}

-- ---- one serve

module _ (w : Standing) (ticket : ℕ) (old new : DeviceParts) (a b : List Content)
    (is : IsDevice w Conditions.Working old a) (there : is_in_flight ticket old.common.slots ≡ true)
    (writes : WritesInServe old.mode ticket old.common new.common a b)
    (tags : KeepsClearTags old.mode old.common (FailedServe ticket) a b) where
  pub served_run : (served : Served) → HasServed any_mode w ticket (Ok served) Conditions.Working new a b
      → HasRun w (Serve ticket ∷ []) new a b
  served_run served has = run_one w (Serve ticket) new a b has.done (serve_leaves w old.common a old.mode is ticket there new.common writes tags)

  pub served_failed : (fault : StepFault) → HasServed any_mode w ticket (Err fault) Conditions.Broken new a b
      → fault ≡ Faults.Disk → HasFailed w (Serve ticket ∷ []) new a b
  served_failed fault has disk =
      one_failed w (Serve ticket) (FailedServe ticket) new a b
      (condition_now w Conditions.Working old.mode old.common a is) refl
      (subst (λ (x : StepFault). HasServed any_mode w ticket (Err x) Conditions.Broken new a b) disk has).done
      (serve_leaves w old.common a old.mode is ticket there new.common writes tags)

-- ---- a turn

module _ (w : Standing) (ticket : ℕ) where
  abbrev pub once : List Event
  once = Serve ticket ∷ []

  abbrev pub served : Standing
  served = standing_behind w once

  abbrev pub room : List Event
  room = room_events w.format served.state

  abbrev pub roomy : Standing
  roomy = standing_behind served room

  abbrev pub turn : List Event
  turn = turn_events w.format ticket w.state

  pub turn_failed : (p : DeviceParts) (a b : List Content) → HasFailed w once p a b → HasFailed w turn p a b
  turn_failed p a b failed = failed_wider w once _ p a b failed

  pub turn_alone : (told : Served) → told ≢ Serves.NoRoom → Answers w (Serve ticket) (served_answer told)
      → (p : DeviceParts) (a b : List Content) → HasRun w once p a b → HasRun w turn p a b
  turn_alone told other is p a b run =
      subst (λ (l : List Event). HasRun w l p a b) (sym (turn-alone w.format w.state ticket told other is)) run

  module _ (full : Answers w (Serve ticket) NoRoom) where
    whole : once ++ (room ++ once) ≡ turn
    whole = sym (turn-with_room w.format w.state ticket full)

    pub turn_failed_in_room : (p q : DeviceParts) (a b c : List Content) → HasRun w once p a b
        → HasFailed served room q b c → HasFailed w turn q a c
    turn_failed_in_room p q a b c first failed =
        subst (λ (l : List Event). HasFailed w l q a c) whole
        (failed_then w once (room ++ once) p q a b c first (failed_wider served room once q b c failed))

    pub turn_failed_again : (p q r : DeviceParts) (a b c d : List Content) → HasRun w once p a b
        → HasRun served room q b c → HasFailed roomy once r c d → HasFailed w turn r a d
    turn_failed_again p q r a b c d first second failed =
        subst (λ (l : List Event). HasFailed w l r a d) whole
        (failed_then w once (room ++ once) p r a b d first (failed_then served room once q r b c d second failed))

    pub turn_with_room : (p q r : DeviceParts) (a b c d : List Content) → HasRun w once p a b
        → HasRun served room q b c → HasRun roomy once r c d → HasRun w turn r a d
    turn_with_room p q r a b c d first second third =
        subst (λ (l : List Event). HasRun w l r a d) whole
        (run_then w once (room ++ once) p r a b d first (run_then served room once q r b c d second third))

-- ---- a request, as far as it goes on

-- Some turns are done, and the others of it are those that it goes on with.
pub record IsOnWay (w : Standing) (ticket : ℕ) (parts : DeviceParts) (before now : List Content) : Type 0 where
  pub made : List Event
  pub run : HasRun w made parts before now
  pub rest : whole_finish w.format ticket w.state ≡ made ++ whole_finish w.format ticket (after_events w.format w.state made)

pub way_begins : (w : Standing) (ticket : ℕ) (parts : DeviceParts) (a : List Content)
    → IsDevice w Conditions.Working parts a → IsOnWay w ticket parts a a
way_begins w ticket parts a is = record { made = []; run = run_none w parts a is; rest = refl }

-- A request in flight is one of the device's.
pub record IsAsked (w : Standing) (ticket : ℕ) : Type 0 where
  pub place : IsPlaced ticket 1 w.state.progress.requests
  pub is : ticket ≡ suc place.place

asked_now : (w : Standing) (ticket : ℕ) (parts : DeviceParts) (a : List Content) → IsDevice w Conditions.Working parts a
    → is_in_flight ticket parts.common.slots ≡ true → IsAsked w ticket
asked_now w ticket parts a is in_flight =
    let flight = flight_now w Conditions.Working parts.mode parts.common a is in
    let place = placed ticket 1 w.state.progress.requests (sym (ap (λ (xs : List Slot). list_any (is_of ticket) xs) flight.slots) ∙ in_flight) in
    record { place = place; is = let same = place.is in omega (arith, same) }

whole_finish-is : (w : Standing) (ticket : ℕ) (parts : DeviceParts) (a : List Content)
    → IsDevice w Conditions.Working parts a → is_in_flight ticket parts.common.slots ≡ true → (told : Served)
    → last_answer (answers w.format w.state (turn_events w.format ticket w.state)) ≡ Some (served_answer told)
    → whole_finish w.format ticket w.state ≡ turn_events w.format ticket w.state
    ++ more_by told (whole_finish w.format ticket (after_events w.format w.state (turn_events w.format ticket w.state)))
whole_finish-is w ticket parts a is in_flight told answer =
    let asked = asked_now w ticket parts a is in_flight in
    let P = λ (t : ℕ). whole_finish w.format t w.state ≡ turn_events w.format t w.state
    ++ more_by told (whole_finish w.format t (after_events w.format w.state (turn_events w.format t w.state))) in
    subst P (sym asked.is)
    (whole_finish-by w.format w.state asked.place.place asked.place.asked asked.place.there
    (reached_now w Conditions.Working parts.mode parts.common a is) (condition_now w Conditions.Working parts.mode parts.common a is)
    asked.place.open_ told
    (subst (λ (t : ℕ). last_answer (answers w.format w.state (turn_events w.format t w.state)) ≡ Some (served_answer told)) asked.is answer))

-- What is left begins with a turn.
pub record BeginsWith (w : Standing) (ticket : ℕ) : Type 0 where
  pub rest : List Event
  pub is : whole_finish w.format ticket w.state ≡ turn_events w.format ticket w.state ++ rest

begins_now : (w : Standing) (ticket : ℕ) (parts : DeviceParts) (a : List Content) → IsDevice w Conditions.Working parts a
    → is_in_flight ticket parts.common.slots ≡ true → BeginsWith w ticket
begins_now w ticket parts a is in_flight =
    let asked = asked_now w ticket parts a is in_flight in
    subst (BeginsWith w) (sym asked.is)
    (let first = begins w.format w.state asked.place.place asked.place.asked asked.place.there in record { rest = first.rest; is = first.is })

module _ (w : Standing) (ticket : ℕ) (p q : DeviceParts) (a b c : List Content) (way : IsOnWay w ticket p a b)
    (there : is_in_flight ticket p.common.slots ≡ true) where
  abbrev here : Standing
  here = standing_behind w way.made

  abbrev one : List Event
  one = turn_events w.format ticket here.state

  turn_is : (told : Served) → last_answer (answers w.format here.state one) ≡ Some (served_answer told)
      → whole_finish w.format ticket w.state ≡ (way.made ++ one) ++ more_by told (whole_finish w.format ticket (after_events w.format here.state one))
  turn_is told answer =
      way.rest ∙ ap (λ (l : List Event). way.made ++ l) (whole_finish-is here ticket p b way.run.device there told answer)
      ∙ sym (append_assoc way.made one (more_by told (whole_finish w.format ticket (after_events w.format here.state one))))

  -- One turn more, where it goes on,
  pub way_goes_on : last_answer (answers w.format here.state one) ≡ Some (served_answer Serves.Did)
      → HasRun here one q b c → IsOnWay w ticket q a c
  way_goes_on answer run = record {
    made = way.made ++ one;
    run = run_then w way.made one p q a b c way.run run;
    rest =
        turn_is Serves.Did answer
        ∙ ap (λ (u : DeviceState). (way.made ++ one) ++ whole_finish w.format ticket u) (sym (after_events-append w.format w.state way.made one));
  }

  -- and where that is the last,
  pub way_ends : (told : Served) → ((more : List Event) → more_by told more ≡ [])
      → last_answer (answers w.format here.state one) ≡ Some (served_answer told)
      → HasRun here one q b c → HasRun w (whole_finish w.format ticket w.state) q a c
  way_ends told ends answer run =
      let next = whole_finish w.format ticket (after_events w.format here.state one) in
      subst (λ (l : List Event). HasRun w l q a c)
      (sym (turn_is told answer ∙ ap (λ (l : List Event). (way.made ++ one) ++ l) (ends next) ∙ append-nil (way.made ++ one)))
      (run_then w way.made one p q a b c way.run run)

  -- and where the disk failed in it.
  pub way_cut : HasFailed here one q b c → HasFailed w (whole_finish w.format ticket w.state) q a c
  way_cut failed =
      let first = begins_now here ticket p b way.run.device there in
      subst (λ (l : List Event). HasFailed w l q a c)
      (sym (way.rest ∙ ap (λ (l : List Event). way.made ++ l) first.is ∙ sym (append_assoc way.made one first.rest)))
      (failed_wider w (way.made ++ one) first.rest q a c (failed_then w way.made one p q a b c way.run failed))
