-- The states that some events on an opened device bring about.
use Rattle.std.proofs.Common.{ℕ, Bool, List, [], ◌∷◌, ◌++◌, refl, sym, ◌∙◌, ap, subst}
use Rattle.image_model.specs.Cells.{Cell}
use Rattle.device_model.specs.Mode.{DeviceFormat}
use Rattle.device_model.specs.Progress.{DeviceState, opened_device, Event, after_event, after_events}
use Rattle.device_model.specs.RequestLaws.{IsReached}
use Rattle.device_model.proofs.IdleLemmas.{after_events-append}

module _ (f : DeviceFormat) where
  pub IsReached-opened : (base : ℕ → Cell) (next : ℕ) (set_bits awaiting : ℕ → Bool) → IsReached f (opened_device base next set_bits awaiting)
  IsReached-opened base next set_bits awaiting =
      record { base = base; next = next; set_bits = set_bits; awaiting = awaiting; events = []; is = refl }

  pub IsReached-events : (s : DeviceState) (events : List Event) → IsReached f s → IsReached f (after_events f s events)
  IsReached-events s events reached = record {
    base = reached.base;
    next = reached.next;
    set_bits = reached.set_bits;
    awaiting = reached.awaiting;
    events = reached.events ++ events;
    is =
        ap (λ (t : DeviceState). after_events f t events) reached.is
        ∙ sym (after_events-append f (opened_device reached.base reached.next reached.set_bits reached.awaiting) reached.events events);
  }

  pub IsReached-event : (s : DeviceState) (event : Event) → IsReached f s → IsReached f (after_event f s event)
  IsReached-event s event reached = IsReached-events s (event ∷ []) reached

  -- What holds at opening and is kept by each event holds of them all.
  module _ (P : DeviceState → Type 0)
      (at_opening : (base : ℕ → Cell) (next : ℕ) (set_bits awaiting : ℕ → Bool) → P (opened_device base next set_bits awaiting))
      (keeps : (s : DeviceState) (event : Event) → IsReached f s → P s → P (after_event f s event)) where
    through : (s : DeviceState) (events : List Event) → IsReached f s → P s → P (after_events f s events)
    through s [] reached holds = holds
    through s (event ∷ events) reached holds = through (after_event f s event) events (IsReached-event s event reached) (keeps s event reached holds)

    pub reached-all : (s : DeviceState) → IsReached f s → P s
    reached-all s reached =
        let opened = opened_device reached.base reached.next reached.set_bits reached.awaiting in
        subst P (sym reached.is)
        (through opened reached.events (IsReached-opened reached.base reached.next reached.set_bits reached.awaiting) (at_opening reached.base reached.next reached.set_bits reached.awaiting))
