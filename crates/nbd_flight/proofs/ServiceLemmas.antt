-- A request in flight that is served once.
use Rattle.std.proofs.Common.{◌≡◌, ◌≢◌, inl, inr, ℕ, ◌||◌, ◌==◌, Bool, true, false, List, [], ◌∷◌, ◌++◌, zero, suc, Option, Some, refl, sym, ◌∙◌, ap, subst, append-nil, append_assoc, arith}
use Rattle.std.specs.List.{AllByRecursion}
use Rattle.std.proofs.lemmas.Bool.{cases_Bool}
use Rattle.device_model.specs.Mode.{DeviceFormat}
use Rattle.device_model.specs.Progress.{Actor, Answer, Commit, DeviceState, Did, Event, NoRoom, Place, Serve, Settle, Step, Take, after_event, after_events, answers, event_result}
use Rattle.device_model.specs.Script.{idle_events, last_answer, most_steps, room_events, steps_until_idle, turn_events}
use Rattle.device_parts.specs.declared.answers.Served.{Served}
use Rattle.device_parts.specs.declared.answers.Served.TheVariants as Serves
use Rattle.device_parts.specs.Answers.{served_answer}
use Rattle.device_parts.specs.Device.{Standing}
use Rattle.device.specs.Run.{HasFailed, HasRun, standing_behind}
use Rattle.nbd_model.specs.Session.{Deed, Does, Flying, Part, Replies, is_done, serve_each, taken_of, with_deeds, with_flying}
use Rattle.nbd_model.specs.Deeds.{error_in, tells_eio}
use Rattle.nbd_model.specs.Message.{EIO}
use Rattle.nbd_model.proofs.DeedLemmas.{events_in-does}
use Rattle.nbd_command.specs.ServedRun.{ReachesDisk}
use Rattle.nbd_flight.specs.declared.stop.Stop.{Stop}
use Rattle.nbd_flight.specs.declared.stop.Stop.TheVariants as Faults
use Rattle.nbd_flight.specs.declared.flight.Flight.{Flight}
use Rattle.nbd_flight.specs.declared.rounds.Turn.TheVariants.{Waits, Over}
use Rattle.nbd_flight.specs.Deeds.{HasDone, HasStopped, Scene, behind, calls_of}
use Rattle.nbd_flight.specs.Rounds.{CountsDamage, HasReplied, HasServed, one_service}
use Rattle.nbd_flight.proofs.DeedLemmas.{done_calls, done_then, stopped_then, stopped_wider}

-- ---- the calls of a turn come to the disk

all_then : (a b : List Event) → AllByRecursion ReachesDisk a → AllByRecursion ReachesDisk b → AllByRecursion ReachesDisk (a ++ b)
all_then [] b first second = second
all_then (x ∷ a) b first second = (first.0, all_then a b first.1 second)

module _ (f : DeviceFormat) where
  all_steps : (actor : Actor) (n : ℕ) (s : DeviceState) → AllByRecursion ReachesDisk (steps_until_idle f actor n s)
  all_steps actor zero s = tt
  all_steps actor (suc n) s = (tt, by (all_steps actor n (after_event f s (Step actor))) (event_result f s (Step actor)).answer)
    where
      by : AllByRecursion ReachesDisk (steps_until_idle f actor n (after_event f s (Step actor))) → (answer : Answer)
          → AllByRecursion ReachesDisk (elim answer as (λ x. List Event) [ Did ↦ steps_until_idle f actor n (after_event f s (Step actor)) | _ ↦ [] ])
      by more Did = more
      by more answer = tt

  all_room : (s : DeviceState) → AllByRecursion ReachesDisk (room_events f s)
  all_room s =
      let commits = idle_events f Commit s in
      let committed = after_events f s commits in
      let places = idle_events f Place committed in
      let placed = after_events f committed places in
      all_then commits (places ++ idle_events f Settle placed) (all_steps Commit (most_steps s.progress) s)
      (all_then places (idle_events f Settle placed) (all_steps Place (most_steps committed.progress) committed) (all_steps Settle (most_steps placed.progress) placed))

  pub all_turn : (ticket : ℕ) (s : DeviceState) → AllByRecursion ReachesDisk (turn_events f ticket s)
  all_turn ticket s = (tt, by (event_result f s (Serve ticket)).answer)
    where
      by : (answer : Answer) → AllByRecursion ReachesDisk (elim answer as (λ x. List Event) [ NoRoom ↦ room_events f (after_event f s (Serve ticket)) ++ Serve ticket ∷ [] | _ ↦ [] ])
      by NoRoom = all_then (room_events f (after_event f s (Serve ticket))) (Serve ticket ∷ []) (all_room (after_event f s (Serve ticket))) (tt, tt)
      by answer = tt

-- ---- damage

or_assoc : (a b c : Bool) → ((a || b) || c) ≡ (a || (b || c))
or_assoc true b c = refl
or_assoc false b c = refl

pub or_false : (a : Bool) → (a || false) ≡ a
or_false true = refl
or_false false = refl

pub tells_eio-append : (a b : List Deed) → tells_eio (a ++ b) ≡ (tells_eio a || tells_eio b)
tells_eio-append [] b = refl
tells_eio-append (Does event ∷ a) b = tells_eio-append a b
tells_eio-append (Replies number bytes ∷ a) b =
    ap (λ (x : Bool). (error_in bytes == EIO) || x) (tells_eio-append a b) ∙ sym (or_assoc ((error_in bytes == EIO)) (tells_eio a) (tells_eio b))

pub tells_eio-calls : (events : List Event) → tells_eio (calls_of events) ≡ false
tells_eio-calls [] = refl
tells_eio-calls (event ∷ events) = tells_eio-calls events

pub damage_then : (a b : List Deed) (x y z : Flight) → CountsDamage a x y → CountsDamage b y z → CountsDamage (a ++ b) x z
damage_then a b x y z first second =
    second ∙ ap (λ (e : Bool). e || tells_eio b) first ∙ or_assoc x.eio (tells_eio a) (tells_eio b)
    ∙ ap (λ (e : Bool). x.eio || e) (sym (tells_eio-append a b))

pub damage_calls : (events : List Event) (x y : Flight) → y.eio ≡ x.eio → CountsDamage (calls_of events) x y
damage_calls events x y same = same ∙ sym (or_false x.eio) ∙ ap (λ (e : Bool). x.eio || e) (sym (tells_eio-calls events))

-- ---- one service

is_done-served : (served : Served) → served ≢ Serves.Done → is_done (Some (served_answer served)) ≡ false
is_done-served (Serves.Held by) other = refl
is_done-served Serves.Did other = refl
is_done-served Serves.Done other = absurd (other refl)
is_done-served Serves.NoRoom other = refl

module _ (w : Standing) (taken : ℕ) (r : Flying) where
  abbrev events : List Event
  events = turn_events w.format r.ticket w.state

  abbrev served : Standing
  served = standing_behind w events

  abbrev calls : List Deed
  calls = calls_of events

  abbrev answer : Option Answer
  answer = last_answer (answers w.format w.state events)

  abbrev by_done : Bool → Part
  by_done done = elim done [
    | true ↦ with_deeds (calls ++ taken_of w.format r served.state) (serve_each w.format taken (after_event w.format served.state (Take r.ticket)) [])
    | false ↦ with_deeds calls (with_flying r (serve_each w.format taken served.state []))
  ]

  pub service-is : (done : Bool) → is_done answer ≡ done → one_service w taken r ≡ by_done done
  service-is done is = ap by_done is

  -- Its deeds are the calls, and more where it is done.
  record BeginsCalls : Type 0 where
    rest : List Deed
    is : (one_service w taken r).deeds ≡ calls ++ rest

  begins : BeginsCalls
  begins = elim (cases_Bool (is_done answer)) [
    | inl done ↦ record {
      rest = taken_of w.format r served.state ++ [];
      is = ap (λ (p : Part). p.deeds) (service-is true done) ∙ append_assoc calls (taken_of w.format r served.state) [];
    }
    | inr more ↦ record { rest = []; is = ap (λ (p : Part). p.deeds) (service-is false more) }
  ]

  -- The disk failed in it.
  pub service_failed : (old new : Scene) → HasFailed w events new.parts old.moments new.moments → new.held ≡ old.held
      → HasDone w [] old old → HasStopped w (one_service w taken r).deeds Faults.Disk old new
  service_failed old new failed same none = record {
    made = [];
    calls = events;
    some = omega arith;
    rest = begins.rest;
    all = begins.is;
    of_disk = all_turn w.format r.ticket w.state;
    between = old;
    done = none;
    failed = failed;
    told = same;
  }

  -- It stays in flight.
  pub service_waits : (told : Served) → told ≢ Serves.Done → answer ≡ Some (served_answer told) → (x y : Flight) (old new : Scene)
      → HasRun w events new.parts old.moments new.moments → new.held ≡ old.held → y.eio ≡ x.eio → HasServed w taken r Waits x y old new
  service_waits told other is x y old new run same damage =
      let whole = service-is false (ap is_done is ∙ is_done-served told other) in
      record {
        done = subst (λ (p : Part). HasDone w p.deeds old new) (sym whole)
            (subst (λ (l : List Deed). HasDone w l old new) (sym (append-nil calls)) (done_calls w events old new run same));
        left = ap (λ (p : Part). p.behind.flying) whole;
        damage = subst (λ (p : Part). CountsDamage p.deeds x y) (sym whole)
            (subst (λ (l : List Deed). CountsDamage l x y) (sym (append-nil calls)) (damage_calls events x y damage));
      }

  calls-behind : behind w calls ≡ served
  calls-behind = ap (standing_behind w) (events_in-does events)

  -- It is done, and replied to,
  pub service_over : answer ≡ Some (served_answer Serves.Done) → (x y : Flight) (old mid new : Scene)
      → HasRun w events mid.parts old.moments mid.moments → mid.held ≡ old.held → HasReplied served r x y mid new
      → HasServed w taken r Over x y old new
  service_over is x y old mid new run same replied =
      let whole = service-is true (ap is_done is) in
      let reply = taken_of w.format r served.state in
      record {
        done = subst (λ (p : Part). HasDone w p.deeds old new) (sym whole)
            (subst (λ (l : List Deed). HasDone w l old new) (sym (append-nil (calls ++ reply)))
            (done_then w calls reply old mid new (done_calls w events old mid run same)
            (subst (λ (u : Standing). HasDone u reply mid new) (sym calls-behind) replied.done)));
        left = ap (λ (p : Part). p.behind.flying) whole;
        damage = subst (λ (p : Part). CountsDamage p.deeds x y) (sym whole)
            (subst (λ (l : List Deed). CountsDamage l x y) (sym (append-nil (calls ++ reply)))
            (damage_then calls reply x x y (damage_calls events x x refl) replied.damage));
      }

  -- or the sink failed in that.
  pub service_torn : answer ≡ Some (served_answer Serves.Done) → (fault : Stop) (old mid new : Scene)
      → HasRun w events mid.parts old.moments mid.moments → mid.held ≡ old.held
      → HasStopped served (taken_of w.format r served.state) fault mid new
      → HasStopped w (one_service w taken r).deeds fault old new
  service_torn is fault old mid new run same stopped =
      let whole = service-is true (ap is_done is) in
      let reply = taken_of w.format r served.state in
      subst (λ (p : Part). HasStopped w p.deeds fault old new) (sym whole)
      (stopped_wider w (calls ++ reply) [] fault old new
      (stopped_then w calls reply fault old mid new (done_calls w events old mid run same)
      (subst (λ (u : Standing). HasStopped u reply fault mid new) (sym calls-behind) stopped)))
