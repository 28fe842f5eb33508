-- How far the requests in flight are served.
use Rattle.std.proofs.Common.{◌≡◌, ℕ, suc, ◌+◌, ◌<◌, ◌≤◌, List, [], ◌∷◌, ◌++◌, length, map, take, drop, get_or, sym, ◌∙◌, ap, subst, append-nil, append_assoc}
use Rattle.std.proofs.lemmas.List.{map-append, take_all, take_more}
use Rattle.disk_model.specs.Disk.{Content}
use Rattle.device_model.specs.Progress.{Event, after_events}
use Rattle.device_model.specs.Script.{finish_all_events, whole_finish}
use Rattle.request_slots.specs.Flight.{Flight}
use Rattle.device_parts.specs.declared.condition.Condition.TheVariants as Conditions
use Rattle.device_parts.specs.Device.{KeepsFlight}
use Rattle.device.specs.declared.mode.DeviceParts.{DeviceParts}
use Rattle.device.specs.Device.{IsDevice}
use Rattle.device_parts.specs.Device.{Standing}
use Rattle.device.proofs.ModeLemmas.{condition_now, flight_now}
use Rattle.device.specs.Run.{HasFailed, HasRun, standing_behind}
use Rattle.device.proofs.RunLemmas.{failed_same, failed_then, failed_wider, run_same, run_then}
use Rattle.script_session.specs.declared.tickets.Tickets.{Tickets}
use Rattle.script_session.specs.declared.tickets.Waiting.{Waiting}
use Rattle.script_session.specs.Tickets.{AreInFlight, numbers_of}
use Rattle.script_session.proofs.AllLemmas.{finish_each, finish_each-all, finish_each-append, numbers_from}
use Rattle.script_session.proofs.TicketLemmas.{numbers-are, numbers-split}

-- ---- what stays

pub in_flight_kept : (tickets : Tickets) (old new : Flight) → AreInFlight tickets old → KeepsFlight old new
    → AreInFlight tickets new
in_flight_kept tickets old new are kept = record { asks = are.asks ∙ sym kept.asks }

-- ---- all tickets

-- The request of each ticket is finished.
pub each_more : (w : Standing) (tickets : List ℕ) (ticket : ℕ) (p q : DeviceParts) (a b c : List Content)
    (first : HasRun w (finish_each w.format tickets w.state) p a b)
    → (let here = standing_behind w (finish_each w.format tickets w.state) in HasRun here (whole_finish here.format ticket here.state) q b c)
    → HasRun w (finish_each w.format (tickets ++ ticket ∷ []) w.state) q a c
each_more w tickets ticket p q a b c first second =
    let events = finish_each w.format tickets w.state in
    let whole = whole_finish w.format ticket (after_events w.format w.state events) in
    let same : finish_each w.format (tickets ++ ticket ∷ []) w.state ≡ events ++ whole =
    finish_each-append w.format tickets (ticket ∷ []) w.state ∙ ap (λ (l : List Event). events ++ l) (append-nil whole) in
    subst (λ (l : List Event). HasRun w l q a c) (sym same) (run_then w events whole p q a b c first second)

pub each_cut : (w : Standing) (before : List ℕ) (ticket : ℕ) (behind : List ℕ) (p q : DeviceParts)
    (a b c : List Content) (first : HasRun w (finish_each w.format before w.state) p a b)
    → (let here = standing_behind w (finish_each w.format before w.state) in HasFailed here (whole_finish here.format ticket here.state) q b c)
    → HasFailed w (finish_each w.format (before ++ ticket ∷ behind) w.state) q a c
each_cut w before ticket behind p q a b c first second =
    let events = finish_each w.format before w.state in
    let here = after_events w.format w.state events in
    let whole = whole_finish w.format ticket here in
    let rest = finish_each w.format behind (after_events w.format here whole) in
    let same : finish_each w.format (before ++ ticket ∷ behind) w.state ≡ (events ++ whole) ++ rest =
    finish_each-append w.format before (ticket ∷ behind) w.state ∙ sym (append_assoc events whole rest) in
    subst (λ (l : List Event). HasFailed w l q a c) (sym same)
    (failed_wider w (events ++ whole) rest q a c (failed_then w events whole p q a b c first second))

-- So all are, as the model has it.
module _ (w : Standing) (tickets : Tickets) (parts : DeviceParts) (a : List Content) (is : IsDevice w Conditions.Working parts a) (are : AreInFlight tickets parts.common.slots) where
  numbers_is : numbers_of tickets ≡ numbers_from 1 w.state.progress.requests
  numbers_is = numbers-are w.format parts.common.slots w.state.progress.requests (flight_now w Conditions.Working parts.mode parts.common a is) tickets are

  pub all_run : (q : DeviceParts) (b : List Content)
      → HasRun w (finish_each w.format (numbers_of tickets) w.state) q a b
      → HasRun w (finish_all_events w.format 1 (length w.state.progress.requests) w.state) q a b
  all_run q b run =
      let same = finish_each-all w.format w.state (condition_now w Conditions.Working parts.mode parts.common a is) in
      run_same w _ _ q a b same.after same.changes (subst (λ (l : List ℕ). HasRun w (finish_each w.format l w.state) q a b) numbers_is run)

  pub all_cut : (q : DeviceParts) (b : List Content) → HasFailed w (finish_each w.format (numbers_of tickets) w.state) q a b
      → HasFailed w (finish_all_events w.format 1 (length w.state.progress.requests) w.state) q a b
  all_cut q b cut =
      let same = finish_each-all w.format w.state (condition_now w Conditions.Working parts.mode parts.common a is) in
      failed_same w _ _ q a b same.after same.changes
      (subst (λ (l : List ℕ). HasFailed w (finish_each w.format l w.state) q a b) numbers_is cut)

  -- They were cut off at one of them.
  pub all_cut_at : (i : ℕ) (own : Waiting) → i < length tickets.waiting.items
      → own ≡ get_or tickets.waiting.items i own → (p q : DeviceParts) (b c : List Content)
      (first : HasRun w (finish_each w.format (map (λ x. x.ticket) (take i tickets.waiting.items)) w.state) p a b)
      → (let here = standing_behind w (finish_each w.format (map (λ x. x.ticket) (take i tickets.waiting.items)) w.state) in HasFailed here (whole_finish here.format own.ticket here.state) q b c)
      → HasFailed w (finish_all_events w.format 1 (length w.state.progress.requests) w.state) q a c
  all_cut_at i own low own_is p q b c first cut =
      all_cut q c (subst (λ (l : List ℕ). HasFailed w (finish_each w.format l w.state) q a c) (numbers-split tickets.waiting.items i own low own_is)
      (each_cut w (map (λ x. x.ticket) (take i tickets.waiting.items)) own.ticket (map (λ x. x.ticket) (drop (suc i) tickets.waiting.items)) p q a b c first cut))

  -- One of them more is finished.
  pub each_more_at : (i : ℕ) (own : Waiting) → i < length tickets.waiting.items
      → own ≡ get_or tickets.waiting.items i own → (p q : DeviceParts) (b c : List Content)
      (first : HasRun w (finish_each w.format (map (λ x. x.ticket) (take i tickets.waiting.items)) w.state) p a b)
      → (let here = standing_behind w (finish_each w.format (map (λ x. x.ticket) (take i tickets.waiting.items)) w.state) in HasRun here (whole_finish here.format own.ticket here.state) q b c)
      → HasRun w (finish_each w.format (map (λ x. x.ticket) (take (i + 1) tickets.waiting.items)) w.state) q a c
  each_more_at i own low own_is p q b c first second =
      let items = tickets.waiting.items in
      let more : map (λ x. x.ticket) (take (i + 1) items) ≡ map (λ x. x.ticket) (take i items) ++ own.ticket ∷ [] =
      ap (map (λ x. x.ticket)) (take_more items i own low) ∙ map-append (λ x. x.ticket) (take i items) (get_or items i own ∷ [])
      ∙ ap (λ (x : Waiting). map (λ x. x.ticket) (take i items) ++ x.ticket ∷ []) (sym own_is) in
      subst (λ (l : List ℕ). HasRun w (finish_each w.format l w.state) q a c) (sym more)
      (each_more w (map (λ x. x.ticket) (take i items)) own.ticket p q a b c first second)

  pub all_run_at : (i : ℕ) → length tickets.waiting.items ≤ i → (q : DeviceParts) (b : List Content)
      → HasRun w (finish_each w.format (map (λ x. x.ticket) (take i tickets.waiting.items)) w.state) q a b
      → HasRun w (finish_all_events w.format 1 (length w.state.progress.requests) w.state) q a b
  all_run_at i high q b run =
      all_run q b (subst (λ (l : List Waiting). HasRun w (finish_each w.format (map (λ x. x.ticket) l) w.state) q a b) (take_all i tickets.waiting.items high) run)
