-- After each serve the device is the one after its event.
use Rattle.std.proofs.Common.{◌≡◌, ℕ, suc, ◌+◌, Bool, if◌then◌else◌, List, length, slice_get, None, Some, IfSome, refl, sym, ◌∙◌, ap, subst, ⊎_elim}
use Rattle.std.specs.Str.{bytes_eq}
use Rattle.disk_model.specs.Disk.{Content}
use Rattle.device_model.specs.History.{BlockWrite, cells_now}
use Rattle.device_model.specs.Mode.{DeviceFormat}
use Rattle.device_model.specs.Progress as Model
use Rattle.device_model.specs.Reply as ModelReply
use Rattle.device_model.specs.Request as Asks
use Rattle.device_model.specs.Serial.{readable_cells}
use Rattle.device_model.proofs.SubmissionLemmas.{result-working}
use Rattle.journal_laws.specs.EventLaws.{IsServed, next_write}
use Rattle.place_model.specs.Format.{tagger_of}
use Rattle.bitmap_model.specs.BitmapDisk.{BitmapDisk}
use Rattle.bitmap_model.specs.Steps.{after_flush}
use Rattle.bitmap_laws.specs.CallLaws.{StandsThrough}
use Rattle.bitmap_laws.specs.Device.{with_block}
use Rattle.bitmap_laws.specs.EventLaws.{after_block, after_read}
use Rattle.bitmap_laws.specs.ServeLaws.{KeepsDevice}
use Rattle.bitmap_laws.proofs.EventLemmas.{after_block-format, after_read-format, served_law}
use Rattle.direct_mode.specs.Cells.{block_write}
use Rattle.request_slots.specs.Flight.{Flight, slot_of, turn_of}
use Rattle.request_slots.specs.InFlight.{IsFlightOf}
use Rattle.request_slots.specs.Serving.{next_bytes, with_block_counted, with_block_read, with_change, with_fault, with_finish}
use Rattle.request_slots.proofs.ServeEventLemmas.{flight_flushed, flight_written}
use Rattle.device_parts.specs.declared.answers.Served.TheVariants as Serves
use Rattle.device_parts.specs.declared.condition.Condition.TheVariants as Conditions
use Rattle.device_parts.specs.declared.parts.Parts.{Parts}
use Rattle.device_parts.specs.Answers.{served_by}
use Rattle.device_parts.proofs.NextLemmas.{bytes-next, finished-is, flight_put, held-is, open_then, requests_then, served_asked, there_then}
use Rattle.device_parts.proofs.TurnLemmas.{answer_is}
use Rattle.bitmap_mode.specs.Reading.{HasRead}
use Rattle.bitmap_mode.specs.Standing.{MayTurnInto, StandsAs}
use Rattle.bitmap_mode.specs.States.{States}
use Rattle.bitmap_mode.specs.Writing.{HasWritten}
use Rattle.bitmap_mode.proofs.DeviceLemmas.{failed_to_flush, failed_to_read, failed_to_write, flushed, read, read_reply, wrote}
use Rattle.bitmap_device.specs.Device.{BitmapStanding, IsOverDisk, marked_on}
use Rattle.bitmap_device.proofs.OverDisk.{HasFailedIn, IsServedAs, done, not_working, only_done, told_then, works}

module _ (w : BitmapStanding) (parts : Parts) (regions : States) (a : List Content) (is : IsOverDisk w Conditions.Working parts regions a) where
  abbrev f : DeviceFormat
  f = w.format

  abbrev s : Model.DeviceState
  s = w.state

  abbrev d : BitmapDisk
  d = w.disk

  works_now : s.condition ≡ Model.Working
  works_now = works w parts regions a is

  module _ (k : ℕ) (r : Asks.Asked) (there : slice_get s.progress.requests k ≡ Some r) where
    -- ---- nothing is done

    pub served_finished : r.state ≡ Asks.Finished → IsServedAs w (suc k) Serves.Done parts regions a a
    served_finished e = only_done w parts regions a is (Model.Serve (suc k)) Model.Done (finished-is f s works_now k r there e) works_now

    pub served_held : (by : ℕ) → r.state ≡ Asks.Unfinished → Asks.held_by s.progress.requests k r.request ≡ Some by → IsServedAs w (suc k) (Serves.Held by) parts regions a a
    served_held by e held = only_done w parts regions a is (Model.Serve (suc k)) (Model.HeldBy by) (held-is f s works_now k r there by e held) works_now

    -- ---- the disk failed

    failed-progress : (Model.after_event f s (Model.FailedServe (suc k))).progress ≡ s.progress
    failed-progress = ap (λ (x : Model.EventResult). x.progress) (result-working f s (Model.FailedServe (suc k)) works_now)

    failed_on : (new : Parts) (states : States) (b : List Content) (then_ : BitmapDisk) → new.slots ≡ parts.slots → new.maker ≡ parts.maker
        → then_.format ≡ d.format → KeepsDevice f s (Model.FailedServe (suc k)) w.entry d then_ a b → HasFailedIn w (suc k) new states a b
    failed_on new states b then_ slots maker same keeps =
        done w Conditions.Working parts regions a is (Model.FailedServe (suc k)) then_ Conditions.Broken new states b keeps same
        (subst (λ (x : Flight). IsFlightOf f x (Model.after_event f s (Model.FailedServe (suc k))).progress.requests) (sym slots)
        (subst (λ (p : Model.Progress). IsFlightOf f parts.slots p.requests) (sym failed-progress) is.flight))
        maker (ap Model.after_failure works_now) (λ broken. not_working broken)

    -- ---- a request that is served

    module _ (unfinished : r.state ≡ Asks.Unfinished) (unheld : Asks.held_by s.progress.requests k r.request ≡ None) where
      pub is_served : IsServed s k r
      is_served = record { works = works_now; there = there; unfinished = unfinished; unheld = unheld }

      abbrev then_requests : List Asks.Asked
      then_requests = requests_then f s k r

      result_is : Model.event_result f s (Model.Serve (suc k)) ≡ Model.serve_with f s k r (Some s.progress.journal)
      result_is = served_law f s d k r is.device is_served

      -- Where those in flight are the requests with it, it answers by what is done next.
      served_done : (new : Parts) (states : States) (b : List Content) (then_ : BitmapDisk) → IsFlightOf f new.slots then_requests → new.maker ≡ parts.maker
          → KeepsDevice f s (Model.Serve (suc k)) w.entry d then_ a b → then_.format ≡ d.format → StandsAs then_ (marked_on w) states new.tags b
          → IsServedAs w (suc k) (served_by (turn_of new.slots (suc k))) new states a b
      served_done new states b then_ flight maker keeps same has = record {
        answers = ap (λ (x : Model.EventResult). x.answer) result_is ∙ answer_is f new.slots then_requests flight k (served_asked f s r) (there_then f s k r is_served) (open_then f s k r is_served);
        done = done w Conditions.Working parts regions a is (Model.Serve (suc k)) then_ Conditions.Working new states b keeps same
            (subst (λ (x : Model.EventResult). IsFlightOf f new.slots x.progress.requests) (sym result_is) flight) maker works_now (λ _. has);
      }

      -- ---- a flush

      module _ (e : r.request ≡ Asks.Flush) where
        pub served_flush : (new : Parts) (states : States) (b : List Content) → new.slots ≡ with_change (suc k) with_finish parts.slots → new.maker ≡ parts.maker
            → StandsThrough d (marked_on w) a b → StandsAs (after_flush d) (marked_on w) states new.tags b → IsServedAs w (suc k) Serves.Done new states a b
        served_flush new states b slots maker through has =
            let flight = subst (λ (x : Flight). IsFlightOf f x then_requests) (sym slots) (flight_flushed f (cells_now f.blocks.tag s.history) parts.slots s.progress.requests k r is.flight there unfinished e) in
            let as_told = served_done new states b (after_flush d) flight maker
            (flushed f s d w.entry (marked_on w) is.device is.opened states new.tags a b k r is_served e through has) refl has in
            record {
              answers = ap (λ (x : Model.EventResult). x.answer) result_is ∙ ap (λ (q : Asks.Request). Model.answer_by (Model.with_block_of f (cells_now f.blocks.tag s.history) r q).state) e;
              done = as_told.done;
            }

        pub failed_flush : (new : Parts) (states : States) (b : List Content) → new.slots ≡ parts.slots → new.maker ≡ parts.maker
            → StandsThrough d (marked_on w) a b → HasFailedIn w (suc k) new states a b
        failed_flush new states b slots maker through =
            failed_on new states b d slots maker refl (failed_to_flush f s d w.entry (marked_on w) is.device is.opened states new.tags a b k r is_served e through)

      -- ---- a block of a read

      module _ (first count : ℕ) (e : r.request ≡ Asks.Read first count) where
        pub served_read : (block : ℕ) (bytes stored computed : List ℕ) (new : Parts) (states : States) (b : List Content) → block ≡ first + r.served
            → length bytes ≡ parts.slots.block_size → computed ≡ tagger_of d.format block bytes
            → new.slots ≡ (if bytes_eq stored computed then with_change (suc k) (with_block_read parts.slots.block_size bytes) parts.slots
            else with_change (suc k) (with_fault block stored computed) parts.slots)
            → new.maker ≡ parts.maker → HasRead d (marked_on w) block bytes stored states new.tags a b
            → IsServedAs w (suc k) (served_by (turn_of new.slots (suc k))) new states a b
        served_read block bytes stored computed new states b block_ size computed_ slots maker has =
            let whole : length bytes ≡ f.blocks.block_size = size ∙ is.flight.block_size in
            let next = subst (λ (n : ℕ). HasRead d (marked_on w) n bytes stored states new.tags a b) block_ has in
            let keeps = read f s d w.entry (marked_on w) is.device is.opened states new.tags a b k r is_served first count e bytes stored next in
            let told = told_then a b is.told is.is_told keeps.through.opens in
            let reply = (read_reply f s d w.entry (marked_on w) is.device is.opened states new.tags a b k r is_served first count e bytes stored next whole told.content told.is).1 in
            let reply_block : ModelReply.block_reply f.blocks.tag block (readable_cells f (cells_now f.blocks.tag s.history) block) ≡ ModelReply.block_reply (tagger_of d.format) block (record { bytes = bytes; tag = stored }) =
            subst (λ (n : ℕ). ModelReply.block_reply f.blocks.tag n (readable_cells f (cells_now f.blocks.tag s.history) n) ≡ ModelReply.block_reply (tagger_of d.format) n (record { bytes = bytes; tag = stored })) (sym block_) reply in
            served_done new states b (after_read d (first + r.served))
            (subst (λ (x : Flight). IsFlightOf f x then_requests) (sym slots) (flight_put f s k r is_served parts.slots is.flight (tagger_of d.format) first count block bytes stored computed e block_ whole computed_ reply_block))
            maker keeps (after_read-format d (first + r.served)) next.stands

        pub failed_read : (block : ℕ) (new : Parts) (states : States) (b : List Content) → block ≡ first + r.served → new.slots ≡ parts.slots → new.maker ≡ parts.maker
            → MayTurnInto d (after_read d block) (marked_on w) a b → HasFailedIn w (suc k) new states a b
        failed_read block new states b block_ slots maker may =
            let next = first + r.served in
            ⊎_elim
            (λ keeps. failed_on new states b d slots maker refl keeps)
            (λ keeps. failed_on new states b (after_read d next) slots maker (after_read-format d next) keeps)
            (failed_to_read f s d w.entry (marked_on w) is.device is.opened states new.tags a b k r is_served first count e
            (subst (λ (n : ℕ). MayTurnInto d (after_read d n) (marked_on w) a b) block_ may))

      -- ---- a block of a write

      module _ (first : ℕ) (blocks : List (List ℕ)) (fua : Bool) (e : r.request ≡ Asks.Write first blocks fua) where
        abbrev write : BlockWrite
        write = next_write k first blocks r.served

        module _ (block : ℕ) (bytes : List ℕ) (block_ : block ≡ first + r.served) (bytes_ : IfSome (slot_of (suc k) parts.slots) (λ slot. bytes ≡ next_bytes parts.slots.block_size slot)) where
          -- It is the next one of the request.
          pub write_is : block_write (suc k) block bytes ≡ write
          write_is =
              ap (λ (n : ℕ). block_write (suc k) n bytes) block_
              ∙ ap (λ (xs : List ℕ). block_write (suc k) (first + r.served) xs) (bytes-next f s k r is_served parts.slots is.flight is.device.reached first blocks fua e bytes bytes_)

          pub served_write : (flushes : Bool) (new : Parts) (states : States) (b : List Content) → flushes ≡ Model.is_flushed_by r blocks fua
              → HasWritten d (marked_on w) (block_write (suc k) block bytes) flushes states new.tags a b
              → new.slots ≡ with_change (suc k) with_block_counted parts.slots → new.maker ≡ parts.maker
              → IsServedAs w (suc k) (served_by (turn_of new.slots (suc k))) new states a b
          served_write flushes new states b flushes_ has slots maker =
              let t = Model.is_flushed_by r blocks fua in
              let next = subst (λ (x : Bool). HasWritten d (marked_on w) write x states new.tags a b) flushes_
              (subst (λ (x : BlockWrite). HasWritten d (marked_on w) x flushes states new.tags a b) write_is has) in
              served_done new states b (after_block t write d)
              (subst (λ (x : Flight). IsFlightOf f x then_requests) (sym slots) (flight_written f (cells_now f.blocks.tag s.history) parts.slots s.progress.requests k r is.flight there unfinished first blocks fua e))
              maker (wrote f s d w.entry (marked_on w) is.device is.opened states new.tags a b k r is_served first blocks fua e next) (after_block-format t write d) next.stands

          pub failed_write : (new : Parts) (states : States) (b : List Content) → MayTurnInto d (with_block d (block_write (suc k) block bytes)) (marked_on w) a b
              → new.slots ≡ parts.slots → new.maker ≡ parts.maker → HasFailedIn w (suc k) new states a b
          failed_write new states b may slots maker =
              ⊎_elim
              (λ keeps. failed_on new states b d slots maker refl keeps)
              (λ keeps. failed_on new states b (with_block d write) slots maker refl keeps)
              (failed_to_write f s d w.entry (marked_on w) is.device is.opened states new.tags a b k r is_served first blocks fua e
              (subst (λ (x : BlockWrite). MayTurnInto d (with_block d x) (marked_on w) a b) write_is may))
