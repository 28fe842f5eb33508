-- What a serve of a ticket in flight does, by what is done next for it.
use Rattle.std.proofs.Common.{◌≡◌, ℕ, ◌<◌, Bool, true, if◌then◌else◌, List, length, OnErr, Result, Ok, Err, refl, sym, ◌∙◌, ap, subst}
use Rattle.std.specs.Str.{bytes_eq}
use Rattle.std.proofs.lemmas.Slice.Eq.{bytes_eq-Decides}
use Rattle.disk_model.specs.Disk.{Content, Reads}
use Rattle.disk_model.specs.Moments.{HasNow}
use Rattle.image_model.specs.Geometry.{data_at}
use Rattle.request_slots.specs.Flight.{FitsFlight, Flight, is_in_flight, turn_of}
use Rattle.request_slots.specs.Serving.{with_block_read, with_change, with_fault, with_finish}
use Rattle.request_slots.specs.declared.turn.Turn.{Turn}
use Rattle.request_slots.specs.declared.turn.Turn.TheVariants as Turns
use Rattle.device_parts.specs.declared.answers.Served.TheVariants as Serves
use Rattle.device_parts.specs.declared.condition.Condition.TheVariants as Conditions
use Rattle.device_parts.specs.Answers.{served_by, tag_by, turns_left}
use Rattle.device_parts.specs.Device.{Standing}
use Rattle.device_parts.proofs.LeftLemmas.{fewer_read}
use Rattle.device_parts.proofs.NextLemmas.{IsNext, next_of_ticket}
use Rattle.device_parts.specs.declared.parts.Parts.{Parts}
use Rattle.recovery_device.specs.Device.{IsRecovering}
use Rattle.recovery_device.proofs.DoneLemmas.{IsServedAs, served_finished, served_flush, served_held, served_read}

-- What holds in any case holds of an error.
pub on_err : {T E P : Type 0} (r : Result T E) → P → OnErr r P
on_err (Ok x) p = tt
on_err (Err e) p = p

-- ---- a serve

module _ (w : Standing) (parts : Parts) (a : List Content) (is : IsRecovering w Conditions.Working parts a) (ticket : ℕ) (there : is_in_flight ticket parts.slots ≡ true) where
  next_told : (turn : Turn) → turn_of parts.slots ticket ≡ turn → IsNext w.state.progress.requests ticket turn
  next_told turn told = next_of_ticket w.format parts.slots w.state.progress.requests is.flight ticket turn there told

  pub serve_finished : turn_of parts.slots ticket ≡ Turns.Finished → IsServedAs w parts a is ticket Serves.Done parts a
  serve_finished turn =
      let next = next_told Turns.Finished turn in
      subst (λ (t : ℕ). IsServedAs w parts a is t Serves.Done parts a) (sym next.ticket_)
      (served_finished w parts a is next.k next.asked next.there next.turn_)

  pub serve_held : (by : ℕ) → turn_of parts.slots ticket ≡ Turns.Held by → IsServedAs w parts a is ticket (Serves.Held by) parts a
  serve_held by turn =
      let next = next_told (Turns.Held by) turn in
      subst (λ (t : ℕ). IsServedAs w parts a is t (Serves.Held by) parts a) (sym next.ticket_)
      (served_held w parts a is next.k next.asked next.there by next.turn_.0 next.turn_.1)

  pub serve_flush : (new : Parts) → turn_of parts.slots ticket ≡ Turns.Flush → new.tags.geometry ≡ parts.tags.geometry
      → new.slots ≡ with_change ticket with_finish parts.slots → IsServedAs w parts a is ticket Serves.Done new a
  serve_flush new turn geometry slots =
      let next = next_told Turns.Flush turn in
      subst (λ (t : ℕ). IsServedAs w parts a is t Serves.Done new a) (sym next.ticket_)
      (served_flush w parts a is next.k next.asked next.there next.turn_.unfinished next.turn_.unheld new a next.turn_.request refl geometry
      (slots ∙ ap (λ (t : ℕ). with_change t with_finish parts.slots) next.ticket_))

  pub serve_read : (block : ℕ) (bytes : List ℕ) (new : Parts) (b : List Content) → turn_of parts.slots ticket ≡ Turns.Read block
      → length bytes ≡ parts.slots.block_size → HasNow (Reads (data_at parts.tags.geometry block) bytes) a → b ≡ a
      → new.tags.geometry ≡ parts.tags.geometry → new.slots ≡ with_change ticket (with_block_read parts.slots.block_size bytes) parts.slots
      → IsServedAs w parts a is ticket (served_by (turn_of new.slots ticket)) new b
  serve_read block bytes new b turn size reads same geometry slots =
      let next = next_told (Turns.Read block) turn in
      subst (λ (t : ℕ). IsServedAs w parts a is t (served_by (turn_of new.slots t)) new b) (sym next.ticket_)
      (served_read w parts a is next.k next.asked next.there next.turn_.unfinished next.turn_.unheld next.turn_.first next.turn_.count
      block bytes new b next.turn_.request next.turn_.block_ size reads same geometry
      (slots ∙ ap (λ (t : ℕ). with_change t (with_block_read parts.slots.block_size bytes) parts.slots) next.ticket_))

-- ---- fewer turns

-- A read with one block more has fewer turns.
pub fewer_turns : (ticket block : ℕ) (parts read : Parts) → read.slots ≡ parts.slots → is_in_flight ticket parts.slots ≡ true → FitsFlight ticket parts.slots
    → turn_of parts.slots ticket ≡ Turns.Read block
    → turns_left ticket (with_change ticket (with_block_read parts.slots.block_size read.buffer.items) parts.slots) < turns_left ticket parts.slots
fewer_turns ticket block parts read same there fits turn =
    let bytes = read.buffer.items in
    let stored = tag_by read.maker read.spb block bytes in
    let equal : bytes_eq stored stored ≡ true = (bytes_eq-Decides stored stored).1 refl in
    subst (λ (x : Flight). turns_left ticket (with_change ticket (with_block_read x.block_size bytes) x) < turns_left ticket parts.slots) same
    (subst (λ (b : Bool). turns_left ticket (if b then with_change ticket (with_block_read read.slots.block_size bytes) read.slots
    else with_change ticket (with_fault block stored stored) read.slots) < turns_left ticket parts.slots) equal
    (fewer_read ticket parts.slots there block stored read fits turn same))
