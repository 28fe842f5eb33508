-- Deeds behind others that are done, and where they are stopped.
use Rattle.std.proofs.Common.{◌≡◌, ℕ, List, [], ◌∷◌, ◌++◌, Option, Some, None, refl, sym, ◌∙◌, ap, subst, append-nil, append_assoc}
use Rattle.device_model.specs.Progress.{DeviceState, Event, after_events}
use Rattle.device_model.proofs.IdleLemmas.{after_events-append}
use Rattle.device_parts.specs.declared.condition.Condition.TheVariants as Conditions
use Rattle.device_parts.specs.Device.{Standing}
use Rattle.device.specs.Device.{IsDevice}
use Rattle.device.specs.Run.{HasFailed, HasRun}
use Rattle.device.proofs.RunLemmas.{run_none, run_then}
use Rattle.stream_io.specs.Stream.{AddsPrefix}
use Rattle.stream_io.proofs.StreamLemmas.{with_bytes-with_bytes}
use Rattle.nbd_model.specs.Session.{Deed, Does, Replies}
use Rattle.nbd_model.specs.Deeds.{events_in, text_in}
use Rattle.nbd_model.proofs.DeedLemmas.{events_in-append, events_in-does}
use Rattle.nbd_flight.specs.declared.stop.Stop.{Stop}
use Rattle.nbd_flight.specs.declared.stop.Stop.TheVariants as Faults
use Rattle.nbd_flight.specs.Deeds.{HasDone, HasStopped, Scene, behind, calls_of, held_with}

pub text_in-append : (a b : List Deed) → text_in (a ++ b) ≡ text_in a ++ text_in b
text_in-append [] b = refl
text_in-append (Does event ∷ a) b = text_in-append a b
text_in-append (Replies number bytes ∷ a) b =
    ap (λ (l : List ℕ). bytes ++ l) (text_in-append a b) ∙ sym (append_assoc bytes (text_in a) (text_in b))

pub text_in-calls : (events : List Event) → text_in (calls_of events) ≡ []
text_in-calls [] = refl
text_in-calls (event ∷ events) = text_in-calls events

pub held_none : (held : Option (List ℕ)) → held_with [] held ≡ held
held_none None = refl
held_none (Some bytes) = ap (λ (l : List ℕ). Some l) (append-nil bytes)

-- The device behind deeds behind others.
pub behind-append : (w : Standing) (a b : List Deed) → behind w (a ++ b) ≡ behind (behind w a) b
behind-append w a b =
    ap (λ (s : DeviceState). record w { state = s })
    (ap (after_events w.format w.state) (events_in-append a b) ∙ after_events-append w.format w.state (events_in a) (events_in b))

module _ (w : Standing) where
  -- Nothing is done.
  pub done_none : (x : Scene) → IsDevice w Conditions.Working x.parts x.moments → HasDone w [] x x
  done_none x is = record { run = run_none w x.parts x.moments is; told = sym (held_none x.held) }

  -- Deeds behind others that are done.
  pub done_then : (a b : List Deed) (x y z : Scene) → HasDone w a x y → HasDone (behind w a) b y z → HasDone w (a ++ b) x z
  done_then a b x y z first second = record {
    run = subst (λ (l : List Event). HasRun w l z.parts x.moments z.moments) (sym (events_in-append a b))
        (run_then w (events_in a) (events_in b) y.parts z.parts x.moments y.moments z.moments first.run second.run);
    told = second.told ∙ ap (held_with (text_in b)) first.told ∙ with_bytes-with_bytes (text_in a) (text_in b) x.held
        ∙ ap (λ (l : List ℕ). held_with l x.held) (sym (text_in-append a b));
  }

  -- Calls alone tell nothing.
  pub done_calls : (events : List Event) (x y : Scene) → HasRun w events y.parts x.moments y.moments → y.held ≡ x.held
      → HasDone w (calls_of events) x y
  done_calls events x y run same = record {
    run = subst (λ (l : List Event). HasRun w l y.parts x.moments y.moments) (sym (events_in-does events)) run;
    told = same ∙ sym (ap (λ (l : List ℕ). held_with l x.held) (text_in-calls events) ∙ held_none x.held);
  }

  -- ---- where they are stopped

  -- Deeds are done before,
  pub stopped_then : (a b : List Deed) (fault : Stop) (x y z : Scene) → HasDone w a x y → HasStopped (behind w a) b fault y z
      → HasStopped w (a ++ b) fault x z
  stopped_then a b Faults.Memory x y z first second = record {
    made = a ++ second.made;
    rest = second.rest;
    all = ap (λ (l : List Deed). a ++ l) second.all ∙ sym (append_assoc a second.made second.rest);
    done = done_then a second.made x y z first second.done;
  }
  stopped_then a b Faults.Disk x y z first second = record {
    made = a ++ second.made;
    calls = second.calls;
    some = second.some;
    rest = second.rest;
    all = ap (λ (l : List Deed). a ++ l) second.all ∙ sym (append_assoc a second.made (calls_of second.calls ++ second.rest));
    of_disk = second.of_disk;
    between = second.between;
    done = done_then a second.made x y second.between first second.done;
    failed = subst (λ (u : Standing). HasFailed u second.calls z.parts second.between.moments z.moments) (sym (behind-append w a second.made)) second.failed;
    told = second.told;
  }
  stopped_then a b Faults.Sink x y z first second = record {
    made = a ++ second.made;
    number = second.number;
    bytes = second.bytes;
    rest = second.rest;
    all = ap (λ (l : List Deed). a ++ l) second.all ∙ sym (append_assoc a second.made (Replies second.number second.bytes ∷ second.rest));
    run = subst (λ (l : List Event). HasRun w l z.parts x.moments z.moments) (sym (events_in-append a second.made))
        (run_then w (events_in a) (events_in second.made) y.parts z.parts x.moments y.moments z.moments first.run second.run);
    told = subst (λ (o : Option (List ℕ)). AddsPrefix second.bytes o z.held)
        (ap (held_with (text_in second.made)) first.told ∙ with_bytes-with_bytes (text_in a) (text_in second.made) x.held
        ∙ ap (λ (l : List ℕ). held_with l x.held) (sym (text_in-append a second.made))) second.told;
  }

  -- or come behind it.
  pub stopped_wider : (a b : List Deed) (fault : Stop) (x z : Scene) → HasStopped w a fault x z → HasStopped w (a ++ b) fault x z
  stopped_wider a b Faults.Memory x z first = record {
    made = first.made;
    rest = first.rest ++ b;
    all = ap (λ (l : List Deed). l ++ b) first.all ∙ append_assoc first.made first.rest b;
    done = first.done;
  }
  stopped_wider a b Faults.Disk x z first = record {
    made = first.made;
    calls = first.calls;
    some = first.some;
    rest = first.rest ++ b;
    all = ap (λ (l : List Deed). l ++ b) first.all ∙ append_assoc first.made (calls_of first.calls ++ first.rest) b
        ∙ ap (λ (l : List Deed). first.made ++ l) (append_assoc (calls_of first.calls) first.rest b);
    of_disk = first.of_disk;
    between = first.between;
    done = first.done;
    failed = first.failed;
    told = first.told;
  }
  stopped_wider a b Faults.Sink x z first = record {
    made = first.made;
    number = first.number;
    bytes = first.bytes;
    rest = first.rest ++ b;
    all = ap (λ (l : List Deed). l ++ b) first.all ∙ append_assoc first.made (Replies first.number first.bytes ∷ first.rest) b;
    run = first.run;
    told = first.told;
  }

  -- Before the first of them.
  pub stopped_before : (a : List Deed) (x : Scene) → IsDevice w Conditions.Working x.parts x.moments → HasStopped w a Faults.Memory x x
  stopped_before a x is = record { made = []; rest = a; all = refl; done = done_none x is }
