-- After each serve the device is the one after its event, over the disk as it was.
use Rattle.std.proofs.Common.{◌≡◌, ℕ, suc, ◌+◌, ◌*◌, List, length, slice_get, None, Some, refl, sym, ◌∙◌, ap, subst}
use Rattle.disk_model.specs.Disk.{Content, Image, Reads}
use Rattle.disk_model.specs.Moments.{HasNow, content_now}
use Rattle.disk_model.proofs.MomentsLemmas.{EachMoment-kept}
use Rattle.image_model.specs.Cells.{Cell, placed_cells_of}
use Rattle.image_model.specs.Geometry.{Geometry, data_at}
use Rattle.device_model.specs.History.{cells_now}
use Rattle.device_model.specs.Journal.{JournalCounts, commit_all}
use Rattle.device_model.specs.Mode.{DeviceFormat}
use Rattle.device_model.specs.Progress as Model
use Rattle.device_model.specs.Reply as ModelReply
use Rattle.device_model.specs.Request as Asks
use Rattle.device_model.specs.Serial.{readable_cells}
use Rattle.device_model.proofs.SubmissionLemmas.{result-working}
use Rattle.direct_laws.specs.JournalLawsEventLaws.{IsServed}
use Rattle.recovery_laws.proofs.EventLemmas.{block_law, event_law, placed_law}
use Rattle.request_slots.specs.Flight.{Flight, turn_of}
use Rattle.request_slots.specs.InFlight.{IsFlightOf}
use Rattle.request_slots.specs.Serving.{with_block_read, with_change, with_finish}
use Rattle.request_slots.proofs.ServeEventLemmas.{flight_flushed, flight_read}
use Rattle.device_parts.specs.declared.answers.Served.{Served}
use Rattle.device_parts.specs.declared.answers.Served.TheVariants as Serves
use Rattle.device_parts.specs.declared.condition.Condition.{Condition}
use Rattle.device_parts.specs.declared.condition.Condition.TheVariants as Conditions
use Rattle.device_parts.specs.Answers.{served_answer, served_by}
use Rattle.device_parts.specs.Device.{HasDone, IsDone, Standing, condition_of}
use Rattle.device_parts.proofs.NextLemmas.{finished-is, held-is, open_then, requests_then, result_is, served_asked, there_then}
use Rattle.device_parts.proofs.TurnLemmas.{answer_is}
use Rattle.device_parts.specs.declared.parts.Parts.{Parts}
use Rattle.recovery_device.specs.Device.{IsRecovering, in_recovery}

-- ---- an event that is done

-- An event keeps the device where the disk's moments stay.
pub done : (w : Standing) (condition : Condition) (parts : Parts) (a : List Content) → IsRecovering w condition parts a
    → (event : Model.Event) (now : Condition) (new : Parts) (b : List Content) → b ≡ a → new.tags.geometry ≡ parts.tags.geometry
    → IsFlightOf w.format new.slots (Model.after_event w.format w.state event).progress.requests
    → (Model.after_event w.format w.state event).condition ≡ condition_of now
    → HasDone in_recovery w event now new a b
done w condition parts a is event now new b same geometry flight condition_is = record {
  device = record {
    device = event_law w.format w.state event w.on w.entry is.device;
    geometry = geometry ∙ is.geometry;
    flight = flight;
    condition_ = condition_is;
    told = is.told;
    is_told = ap content_now same ∙ is.is_told;
    entry_ = is.entry_;
  };
  through = record { opens = EachMoment-kept _ same; left = EachMoment-kept _ same };
}

-- So does one that answers only.
pub only_done : (w : Standing) (condition : Condition) (parts : Parts) (a : List Content) → IsRecovering w condition parts a
    → (event : Model.Event) (answer : Model.Answer) → Model.event_result w.format w.state event ≡ Model.only_answers w.state.progress answer
    → (Model.after_event w.format w.state event).condition ≡ condition_of condition
    → IsDone in_recovery w event answer condition parts a a
only_done w condition parts a is event answer e condition_is = record {
  answers = ap (λ (x : Model.EventResult). x.answer) e;
  done = done w condition parts a is event condition parts a refl refl
      (subst (λ (x : Model.EventResult). IsFlightOf w.format parts.slots x.progress.requests) (sym e) is.flight) condition_is;
}

-- ---- a device that works

module _ (w : Standing) (parts : Parts) (a : List Content) (is : IsRecovering w Conditions.Working parts a) where
  abbrev f : DeviceFormat
  f = w.format

  abbrev s : Model.DeviceState
  s = w.state

  works : s.condition ≡ Model.Working
  works = is.condition_

  -- The request is served, and answers so.
  abbrev pub IsServedAs : (ticket : ℕ) → Served → Parts → List Content → Type 0
  IsServedAs ticket served new b =
      IsDone in_recovery w (Model.Serve ticket) (served_answer served) Conditions.Working new a b

  -- The disk failed: no request goes on.
  pub failed : (ticket : ℕ) (new : Parts) (b : List Content) → b ≡ a → new.tags.geometry ≡ parts.tags.geometry → new.slots ≡ parts.slots
      → HasDone in_recovery w (Model.FailedServe ticket) Conditions.Broken new a b
  failed ticket new b same geometry slots =
      let event = Model.FailedServe ticket in
      let kept : (Model.after_event f s event).progress ≡ s.progress = ap (λ (x : Model.EventResult). x.progress) (result-working f s event works) in
      done w Conditions.Working parts a is event Conditions.Broken new b same geometry
      (subst (λ (x : Flight). IsFlightOf f x (Model.after_event f s event).progress.requests) (sym slots)
      (subst (λ (p : Model.Progress). IsFlightOf f parts.slots p.requests) (sym kept) is.flight))
      (ap Model.after_failure works)

  -- A block gives the bytes that were read in its place.
  block_told : (block : ℕ) (bytes : List ℕ) → length bytes ≡ parts.slots.block_size → HasNow (Reads (data_at parts.tags.geometry block) bytes) a
      → ModelReply.block_reply f.blocks.tag block (readable_cells f (cells_now f.blocks.tag s.history) block) ≡ ModelReply.Bytes bytes
  block_told block bytes size reads =
      let whole : length bytes ≡ 512 * w.on.geometry.shape.spb =
      size ∙ is.flight.block_size ∙ ap (λ (x : DeviceFormat). x.blocks.block_size) is.device.format in
      let there : Reads (data_at w.on.geometry block) bytes is.told =
      subst (λ (g : Geometry). Reads (data_at g block) bytes is.told) is.geometry (reads is.told is.is_told) in
      let placed = placed_law w.on is.told block bytes whole there
      ∙ ap (λ (image : Image). (placed_cells_of w.on.geometry image block).bytes) is.entry_ in
      block_law f s w.on w.entry block is.device ∙ ap (λ (xs : List ℕ). ModelReply.Bytes xs) (sym placed)

  module _ (k : ℕ) (r : Asks.Asked) (there : slice_get s.progress.requests k ≡ Some r) where
    -- ---- nothing is done

    pub served_finished : r.state ≡ Asks.Finished → IsServedAs (suc k) Serves.Done parts a
    served_finished e = only_done w Conditions.Working parts a is (Model.Serve (suc k)) Model.Done (finished-is f s works k r there e) works

    pub served_held : (by : ℕ) → r.state ≡ Asks.Unfinished → Asks.held_by s.progress.requests k r.request ≡ Some by
        → IsServedAs (suc k) (Serves.Held by) parts a
    served_held by e held = only_done w Conditions.Working parts a is (Model.Serve (suc k)) (Model.HeldBy by) (held-is f s works k r there by e held) works

    -- ---- a request that is served

    module _ (unfinished : r.state ≡ Asks.Unfinished) (unheld : Asks.held_by s.progress.requests k r.request ≡ None) where
      is_served : IsServed s k r
      is_served = record { works = works; there = there; unfinished = unfinished; unheld = unheld }

      abbrev then_ : List Asks.Asked
      then_ = requests_then f s k r

      -- With its next block it answers so.
      goes_on : (j : JournalCounts) → Model.event_result f s (Model.Serve (suc k)) ≡ Model.serve_with f s k r (Some j)
          → (served : Served) (new : Parts) (b : List Content) → b ≡ a → new.tags.geometry ≡ parts.tags.geometry → IsFlightOf f new.slots then_
          → Model.answer_by (served_asked f s r).state ≡ served_answer served → IsServedAs (suc k) served new b
      goes_on j e served new b same geometry flight answer = record {
        answers = ap (λ (x : Model.EventResult). x.answer) e ∙ answer;
        done = done w Conditions.Working parts a is (Model.Serve (suc k)) Conditions.Working new b same geometry
            (subst (λ (x : Model.EventResult). IsFlightOf f new.slots x.progress.requests) (sym e) flight) works;
      }

      pub served_flush : (new : Parts) (b : List Content) → r.request ≡ Asks.Flush → b ≡ a → new.tags.geometry ≡ parts.tags.geometry
          → new.slots ≡ with_change (suc k) with_finish parts.slots → IsServedAs (suc k) Serves.Done new b
      served_flush new b e same geometry slots =
          let j = commit_all s.progress.journal in
          let cells = cells_now f.blocks.tag s.history in
          goes_on j (result_is f s k r is_served Asks.Flush j e refl) Serves.Done new b same geometry
          (subst (λ (x : Flight). IsFlightOf f x then_) (sym slots)
          (flight_flushed f cells parts.slots s.progress.requests k r is.flight there unfinished e))
          (ap (λ (q : Asks.Request). Model.answer_by (Model.with_block_of f cells r q).state) e)

      pub served_read : (first count block : ℕ) (bytes : List ℕ) (new : Parts) (b : List Content) → r.request ≡ Asks.Read first count
          → block ≡ first + r.served → length bytes ≡ parts.slots.block_size → HasNow (Reads (data_at parts.tags.geometry block) bytes) a
          → b ≡ a → new.tags.geometry ≡ parts.tags.geometry → new.slots ≡ with_change (suc k) (with_block_read parts.slots.block_size bytes) parts.slots
          → IsServedAs (suc k) (served_by (turn_of new.slots (suc k))) new b
      served_read first count block bytes new b e block_ size reads same geometry slots =
          let cells : ℕ → Cell = cells_now f.blocks.tag s.history in
          let told : ModelReply.block_reply f.blocks.tag (Model.next_block r) (readable_cells f cells (Model.next_block r)) ≡ ModelReply.Bytes bytes =
          ap (λ (n : ℕ). ModelReply.block_reply f.blocks.tag n (readable_cells f cells n)) (ap (λ (q : Asks.Request). Asks.first_of q + r.served) e ∙ sym block_)
          ∙ block_told block bytes size reads in
          let flight = subst (λ (x : Flight). IsFlightOf f x then_) (sym slots)
          (flight_read f cells parts.slots s.progress.requests k r is.flight there unfinished first count bytes e (size ∙ is.flight.block_size) told) in
          goes_on s.progress.journal (result_is f s k r is_served (Asks.Read first count) s.progress.journal e refl)
          (served_by (turn_of new.slots (suc k))) new b same geometry flight
          (answer_is f new.slots then_ flight k (served_asked f s r) (there_then f s k r is_served) (open_then f s k r is_served))
