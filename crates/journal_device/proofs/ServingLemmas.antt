-- What a serve of a ticket in flight does, by what is done next for it.
use Rattle.std.proofs.Common.{◌≡◌, ℕ, suc, ◌+◌, ◌*◌, ◌<◌, ◌&&◌, not, Bool, true, false, if◌then◌else◌, List, [], ◌∷◌, length, take, Option, None, Some, is_some, option_map, IfSome, refl, sym, ◌∙◌, ap, subst}
use Rattle.std.specs.Str.{bytes_eq}
use Rattle.std.proofs.lemmas.Bool.{true≢false}
use Rattle.disk_model.specs.Disk.{Content, EachImage}
use Rattle.disk_model.specs.Identity.{DiskIdentity}
use Rattle.disk_model.specs.Moments.{EachMoment, HasNow}
use Rattle.disk_model.proofs.MomentsLemmas.{EachMoment-then}
use Rattle.image_model.specs.Cells.{Cell, last_entry, salt_of}
use Rattle.image_model.specs.Geometry.{Geometry, region_of}
use Rattle.image_model.specs.Section.{Entry}
use Rattle.image_model.specs.Tag.{tag_of}
use Rattle.bitmap_model.proofs.BitLemmas.{with_region-here}
use Rattle.recalculate_laws.specs.Awaits.{ReadsNone}
use Rattle.recalculate_laws.proofs.AwaitsLemmas.{awaiting_served_law}
use Rattle.recalculate_laws.proofs.DeviceLemmas.{read_regions_law}
use Rattle.recalculation.specs.declared.recalculating.Recalculation.{Recalculation}
use Rattle.device_model.specs.History.{BlockWrite, Change, Begun, Written, Flushed, History, cells_now, with_change, with_changes}
use Rattle.device_model.specs.Journal.{JournalCounts, SectionCounts, commit_all, put}
use Rattle.device_model.specs.Mode.{DeviceFormat, is_journal, is_recovery}
use Rattle.device_model.specs.Progress as Model
use Rattle.device_model.specs.Regions.{RegionCounts, recalculated_region}
use Rattle.device_model.specs.Reply as ModelReply
use Rattle.device_model.specs.Request as Asks
use Rattle.device_model.specs.Serial.{readable_cells}
use Rattle.place_model.specs.Format.{tagger_of}
use Rattle.place_model.specs.Left.{IsLeftInJournal}
use Rattle.journal_laws.specs.EventLaws.{IsServed, next_write}
use Rattle.journal_laws.specs.PromiseLaws.{newest_entry}
use Rattle.journal_laws.proofs.PutLemmas.{has_room_law}
use Rattle.direct_mode.specs.Cells.{block_write}
use Rattle.journal_model.specs.JournaledDisk.{JournaledDisk}
use Rattle.journal_model.specs.Ring.{entries_of, has_room}
use Rattle.hmac_tag.specs.TagMaker.{TagRule}
use Rattle.request_slots.specs.Flight.{Flight, is_in_flight, slot_of, turn_of}
use Rattle.request_slots.specs.InFlight.{IsFlightOf}
use Rattle.request_slots.specs.Serving.{next_bytes, with_block_counted, with_block_read, with_fault, with_finish}
use Rattle.request_slots.specs.Serving as Slots
use Rattle.request_slots.specs.declared.turn.Turn.{Turn}
use Rattle.request_slots.specs.declared.turn.Turn.TheVariants as Turns
use Rattle.request_slots.proofs.ServeEventLemmas.{flight_flushed, flight_written}
use Rattle.device_parts.specs.declared.condition.Condition.TheVariants as Conditions
use Rattle.device_parts.specs.declared.parts.Parts.{Parts}
use Rattle.device_parts.specs.Answers.{after_read, served_by, tag_by}
use Rattle.device_parts.specs.Device.{IsReady}
use Rattle.device_parts.proofs.NextLemmas.{IsNext, bytes-next, finished-is, flight_put, held-is, next_of_ticket, open_then, requests_then, result_is, serve_is, served_asked, there_then}
use Rattle.device_parts.proofs.TurnLemmas.{answer_is}
use Rattle.tag_store.specs.Store.{Store}
use Rattle.journal_mode.specs.Commits.{HasFlushed}
use Rattle.journal_mode.specs.Journal.{PlacedRing, sections_of}
use Rattle.journal_mode.specs.Puts.{HasPut, TakesWrite, after_change, sections_with}
use Rattle.journal_mode.specs.Reads.{IsCellNow, KeepsStanding, newest_in}
use Rattle.journal_mode.specs.Standing.{IsLeftThrough, JournalStanding, StandsAs, TagsPlaced}
use Rattle.journal_mode.proofs.GivesLemmas.{tags_same}
use Rattle.device_parts.specs.declared.answers.Served.TheVariants as Serves
use Rattle.journal_device.proofs.OverDisk.{HasFailedIn, IsServedAs}
use Rattle.journal_device.specs.Answers.{takes_first}
use Rattle.journal_device.specs.Device.{IsOverDisk, IsWorking, JournaledStanding, awaiting_in, standing_of}
use Rattle.journal_device.specs.Recalculating.{TakesIf, TakesIfIn}
use Rattle.journal_device.specs.Writing.{HasFlushedIf}
use Rattle.journal_device.proofs.DoneLemmas.{broken_done, idle_now, left_done, only_done, stands_now, told_then, working_then, working-is, works_now}
use Rattle.journal_device.proofs.RecalcLemmas.{awaiting_if, first_left, first_taken, takes_is}
use Rattle.journal_device.proofs.KindLemmas.{standing_now}

none_of : {A : Type 0} (o : Option A) → is_some o ≡ false → o ≡ None
none_of None none = refl
none_of (Some x) none = absurd (true≢false none)

alone : (x y : Bool) → y ≡ true → (x && y) ≡ false → x ≡ false
alone true y e none = absurd (true≢false (sym e ∙ none))
alone false y e none = refl

module _ (w : JournaledStanding) (parts : Parts) (journal : PlacedRing) (recalculation : Recalculation) (a : List Content) (is : IsOverDisk w Conditions.Working parts journal recalculation a) where
  abbrev f : DeviceFormat
  f = w.format

  abbrev s : Model.DeviceState
  s = w.state

  abbrev y : JournalStanding
  y = standing_of w

  abbrev Next : ℕ → Turn → Type 0
  Next ticket turn = IsNext s.progress.requests ticket turn

  next_told : (ticket : ℕ) (turn : Turn) → is_in_flight ticket parts.slots ≡ true → turn_of parts.slots ticket ≡ turn → Next ticket turn
  next_told ticket turn there told = next_of_ticket f parts.slots s.progress.requests is.flight ticket turn there told

  -- ---- nothing is done

  pub serve_finished : (ticket : ℕ) (b : List Content) → is_in_flight ticket parts.slots ≡ true → turn_of parts.slots ticket ≡ Turns.Finished → b ≡ a → IsServedAs w ticket Serves.Done parts journal recalculation a b
  serve_finished ticket b there turn same =
      let next = next_told ticket Turns.Finished there turn in
      let told = finished-is f s is.condition_ next.k next.asked next.there next.turn_ in
      subst (λ (t : ℕ). IsServedAs w t Serves.Done parts journal recalculation a b) (sym next.ticket_)
      (subst (λ (x : List Content). IsServedAs w (suc next.k) Serves.Done parts journal recalculation a x) (sym same)
      (only_done w Conditions.Working parts journal recalculation a is (Model.Serve (suc next.k)) Model.Done told refl))

  pub serve_held : (ticket by : ℕ) (b : List Content) → is_in_flight ticket parts.slots ≡ true → turn_of parts.slots ticket ≡ Turns.Held by → b ≡ a → IsServedAs w ticket (Serves.Held by) parts journal recalculation a b
  serve_held ticket by b there turn same =
      let next = next_told ticket (Turns.Held by) there turn in
      let told = held-is f s is.condition_ next.k next.asked next.there by next.turn_.0 next.turn_.1 in
      subst (λ (t : ℕ). IsServedAs w t (Serves.Held by) parts journal recalculation a b) (sym next.ticket_)
      (subst (λ (x : List Content). IsServedAs w (suc next.k) (Serves.Held by) parts journal recalculation a x) (sym same)
      (only_done w Conditions.Working parts journal recalculation a is (Model.Serve (suc next.k)) (Model.HeldBy by) told refl))

  -- ---- a request that is served

  module _ (k : ℕ) (r : Asks.Asked) (served : IsServed s k r) where
    abbrev then_ : List Asks.Asked
    then_ = requests_then f s k r

    -- The regions that await then.
    abbrev pub awaiting_served : ℕ → Bool
    awaiting_served = (Model.after_event f s (Model.Serve (suc k))).progress.regions.awaiting

    -- Once those in flight are the requests with its next block, and the journal stands for what that changes,
    served_done : (request : Asks.Request) (j : JournalCounts) → r.request ≡ request → Model.journal_with f s.progress.journal r request ≡ Some j
        → (d : JournaledDisk) → d.format ≡ w.disk.format → (new : Parts) (p : PlacedRing) (now : Recalculation) (b : List Content) → IsFlightOf f new.slots then_ → new.maker ≡ parts.maker
        → IsWorking (record { format = f; history = with_changes (Model.block_changes (suc k) r request) s.history; counts = j; disk = d }) (Model.after_event w.format w.state (Model.Serve (suc k))).progress.regions.awaiting p now new.tags b
        → (kept : ℕ) (h : History) → h ≡ with_changes (take kept (Model.block_changes (suc k) r request)) s.history → EachMoment a b (EachImage (IsLeftInJournal w.disk.format h))
        → IsServedAs w (suc k) (served_by (turn_of new.slots (suc k))) new p now a b
    served_done request j e put_is d same new p now b flight maker working kept h within m =
        let told = result_is f s k r served request j e put_is in
        let asked = served_asked f s r in
        record {
          answers = ap (λ (x : Model.EventResult). x.answer) told
              ∙ answer_is f new.slots then_ flight k asked (there_then f s k r served) (open_then f s k r served);
          done = left_done w parts journal recalculation a is (Model.Serve (suc k)) (Model.serve_with f s k r (Some j)) told is.condition_ d same new p now b flight maker
              (subst (λ (regions : ℕ → Bool). IsWorking (record { format = f; history = with_changes (Model.block_changes (suc k) r r.request) s.history; counts = j; disk = d }) regions p now new.tags b)
              (ap (λ (x : Model.EventResult). x.progress.regions.awaiting) told)
              (subst (λ (q : Asks.Request). IsWorking (record { format = f; history = with_changes (Model.block_changes (suc k) r q) s.history; counts = j; disk = d }) awaiting_served p now new.tags b) (sym e) working))
              kept h (within ∙ ap (λ (q : Asks.Request). with_changes (take kept (Model.block_changes (suc k) r q)) s.history) (sym e)) m;
        }

    -- also where it takes no region out of those that await,
    kept_done : (request : Asks.Request) (j : JournalCounts) → r.request ≡ request → ReadsNone request → Model.journal_with f s.progress.journal r request ≡ Some j
        → (d : JournaledDisk) → d.format ≡ w.disk.format → (new : Parts) (p : PlacedRing) (b : List Content) → IsFlightOf f new.slots then_ → new.maker ≡ parts.maker
        → StandsAs (record { format = f; history = with_changes (Model.block_changes (suc k) r request) s.history; counts = j; disk = d }) p new.tags b
        → TagsPlaced w.disk d parts.tags new.tags a b
        → (kept : ℕ) (h : History) → h ≡ with_changes (take kept (Model.block_changes (suc k) r request)) s.history → EachMoment a b (EachImage (IsLeftInJournal w.disk.format h))
        → IsServedAs w (suc k) (served_by (turn_of new.slots (suc k))) new p recalculation a b
    kept_done request j e none put_is d same new p b flight maker stands gives kept h within m =
        let z : JournalStanding = record { format = f; history = with_changes (Model.block_changes (suc k) r request) s.history; counts = j; disk = d } in
        served_done request j e put_is d same new p recalculation b flight maker
        (subst (λ (regions : ℕ → Bool). IsWorking z regions p recalculation new.tags b) (sym (awaiting_served_law f s k r served (subst ReadsNone (sym e) none)))
        (working_then y z (awaiting_in w) journal p recalculation parts.tags new.tags a b same (works_now w parts journal recalculation a is) stands gives))
        kept h within m

    -- and where the disk fails while its images are left by what is begun.
    failed_done : (request : Asks.Request) (j : JournalCounts) → r.request ≡ request → Model.journal_with f s.progress.journal r request ≡ Some j
        → (new : Parts) (p : PlacedRing) (now : Recalculation) (b : List Content) → new.slots ≡ parts.slots → new.maker ≡ parts.maker
        → (h : History) → h ≡ with_changes (Model.first_begun (Model.block_changes (suc k) r request)) s.history
        → HasNow (EachImage (IsLeftInJournal w.disk.format h)) a → EachMoment a b (EachImage (IsLeftInJournal w.disk.format h))
        → HasFailedIn w (suc k) new p now a b
    failed_done request j e put_is new p last b slots maker h begun now m =
        let x : Model.EventResult = record { answer = Model.DiskFailed; changes = Model.first_begun (Model.block_changes (suc k) r request); progress = s.progress } in
        let told : Model.event_result f s (Model.FailedServe (suc k)) ≡ x =
        working-is w parts journal recalculation a is (Model.FailedServe (suc k))
        ∙ ap (λ (z : Model.EventResult). let result : Model.EventResult = record { answer = Model.DiskFailed; changes = Model.first_begun z.changes; progress = s.progress } in result)
        (serve_is f s k r served request e ∙ ap (Model.serve_with f s k r) put_is)
        ∙ ap (λ (q : Asks.Request). let result : Model.EventResult = record { answer = Model.DiskFailed; changes = Model.first_begun (Model.block_changes (suc k) r q); progress = s.progress } in result) e in
        broken_done w parts journal recalculation a is (Model.FailedServe (suc k)) x told (ap Model.after_failure is.condition_) new p last b
        (subst (λ (z : Flight). IsFlightOf f z s.progress.requests) (sym slots) is.flight) maker
        (subst (λ (z : History). HasNow (EachImage (IsLeftInJournal w.disk.format z)) a) begun now)
        (subst (λ (z : History). EachMoment a b (EachImage (IsLeftInJournal w.disk.format z))) begun m)

    -- ---- a flush

    flush_done : r.request ≡ Asks.Flush → (new : Parts) (p : PlacedRing) (b : List Content) → new.slots ≡ Slots.with_change (suc k) with_finish parts.slots → new.maker ≡ parts.maker
        → new.tags ≡ parts.tags → HasFlushed y p parts.tags a b → IsLeftThrough y a b → IsServedAs w (suc k) Serves.Done new p recalculation a b
    flush_done e new p b slots maker tags has m =
        let flight = subst (λ (x : Flight). IsFlightOf f x then_) (sym slots)
        (flight_flushed f (cells_now f.blocks.tag s.history) parts.slots s.progress.requests k r is.flight served.there served.unfinished e) in
        let z : JournalStanding = record { format = f; history = with_changes (Model.block_changes (suc k) r Asks.Flush) s.history; counts = commit_all s.progress.journal; disk = has.disk } in
        let as_told = kept_done Asks.Flush (commit_all s.progress.journal) e tt refl has.disk has.format new p b flight maker
        (subst (λ (x : Store). StandsAs z p x b) (sym tags) (has.flushed (idle_now w parts journal recalculation a is)))
        (subst (λ (x : Store). TagsPlaced w.disk has.disk parts.tags x a b) (sym tags) has.gives) 0 s.history refl m in
        record {
          answers = ap (λ (x : Model.EventResult). x.answer) (result_is f s k r served Asks.Flush (commit_all s.progress.journal) e refl)
              ∙ ap (λ (q : Asks.Request). Model.answer_by (Model.with_block_of f (cells_now f.blocks.tag s.history) r q).state) e;
          done = as_told.done;
        }

    now-left : HasNow (EachImage (IsLeftInJournal w.disk.format s.history)) a
    now-left = standing_now y journal parts.tags a (stands_now w parts journal recalculation a is)

    flush_failed : r.request ≡ Asks.Flush → (new : Parts) (p : PlacedRing) (b : List Content) → new.slots ≡ parts.slots → new.maker ≡ parts.maker → IsLeftThrough y a b → HasFailedIn w (suc k) new p recalculation a b
    flush_failed e new p b slots maker m = failed_done Asks.Flush (commit_all s.progress.journal) e refl new p recalculation b slots maker s.history refl now-left m

    -- ---- a read

    read_failed : (first count : ℕ) → r.request ≡ Asks.Read first count → (new : Parts) (now : Recalculation) (b : List Content) → new.slots ≡ parts.slots → new.maker ≡ parts.maker → IsLeftThrough y a b → HasFailedIn w (suc k) new journal now a b
    read_failed first count e new now b slots maker m = failed_done (Asks.Read first count) s.progress.journal e refl new journal now b slots maker s.history refl now-left m

    -- The regions that await behind it.
    read_regions : (first count block : ℕ) → r.request ≡ Asks.Read first count → block ≡ first + r.served → block < w.disk.geometry.blocks → (t : Bool) → takes_first journal recalculation block ≡ t
        → (Model.after_event w.format w.state (Model.Serve (suc k))).progress.regions.awaiting ≡ awaiting_if w parts journal recalculation a is t (region_of w.disk.geometry block)
    read_regions first count block e block_ low t takes =
        let law = read_regions_law f s w.disk journal.ring k r first count (stands_now w parts journal recalculation a is).device served e in
        ap (λ (c : RegionCounts). c.awaiting) law
        ∙ ap (λ (b : ℕ). (if s.progress.regions.awaiting (region_of w.disk.geometry b) && not (is_some (newest_entry w.disk journal.ring b)) then recalculated_region (region_of w.disk.geometry b) s.progress.regions else s.progress.regions).awaiting) (sym block_)
        ∙ ap (λ (u : Bool). (if u then recalculated_region (region_of w.disk.geometry block) s.progress.regions else s.progress.regions).awaiting) (sym (takes_is w parts journal recalculation a is block low) ∙ takes)
        ∙ by t
      where
        by : (t : Bool) → (if t then recalculated_region (region_of w.disk.geometry block) s.progress.regions else s.progress.regions).awaiting ≡ awaiting_if w parts journal recalculation a is t (region_of w.disk.geometry block)
        by true = refl
        by false = refl

    read_done : (first count block : ℕ) (bytes stored computed : List ℕ) (new : Parts) (now : Recalculation) (b : List Content) → r.request ≡ Asks.Read first count → block ≡ first + r.served
        → length bytes ≡ parts.slots.block_size → computed ≡ tagger_of w.disk.format block bytes
        → new.slots ≡ (if bytes_eq stored computed then Slots.with_change (suc k) (with_block_read parts.slots.block_size bytes) parts.slots
        else Slots.with_change (suc k) (with_fault block stored computed) parts.slots)
        → new.maker ≡ parts.maker → IsCellNow y block bytes stored
        → IsWorking y (Model.after_event w.format w.state (Model.Serve (suc k))).progress.regions.awaiting journal now new.tags b → IsLeftThrough y a b
        → IsServedAs w (suc k) (served_by (turn_of new.slots (suc k))) new journal now a b
    read_done first count block bytes stored computed new now b e block_ size computed_ slots maker given working left =
        let held = cells_now f.blocks.tag s.history block in
        let cell : Cell = record { bytes = bytes; tag = stored } in
        let cell_is : held ≡ cell =
        ap (λ (xs : List ℕ). let c : Cell = record { bytes = xs; tag = held.tag } in c) (sym given.bytes_)
        ∙ ap (λ (xs : List ℕ). let c : Cell = record { bytes = bytes; tag = xs } in c) (sym given.tag_) in
        let readable : readable_cells f (cells_now f.blocks.tag s.history) block ≡ cell =
        ap (λ (x : DeviceFormat). if is_recovery x.mode then (let c : Cell = record { bytes = held.bytes; tag = f.blocks.tag block held.bytes } in c) else held) is.format ∙ cell_is in
        let told : ModelReply.block_reply f.blocks.tag block (readable_cells f (cells_now f.blocks.tag s.history) block) ≡ ModelReply.block_reply (tagger_of w.disk.format) block cell =
        ap (ModelReply.block_reply f.blocks.tag block) readable ∙ ap (λ (x : DeviceFormat). ModelReply.block_reply x.blocks.tag block cell) is.format in
        let flight = subst (λ (x : Flight). IsFlightOf f x then_) (sym slots)
        (flight_put f s k r served parts.slots is.flight (tagger_of w.disk.format) first count block bytes stored computed e block_ (size ∙ is.flight.block_size) computed_ told) in
        served_done (Asks.Read first count) s.progress.journal e refl w.disk refl new journal now b flight maker working 0 s.history refl left

    -- ---- a write

    module _ (first : ℕ) (blocks : List (List ℕ)) (fua : Bool) (e : r.request ≡ Asks.Write first blocks fua) where
      abbrev write : BlockWrite
      write = next_write k first blocks r.served

      abbrev counts_with : List SectionCounts → JournalCounts
      counts_with sections = record { next = s.progress.journal.next; sections = sections }

      abbrev counts_if : Bool → List SectionCounts → JournalCounts
      counts_if t sections = if t then commit_all (counts_with sections) else counts_with sections

      journal_is : Model.journal_with f s.progress.journal r (Asks.Write first blocks fua)
          ≡ option_map (counts_if (Model.is_flushed_by r blocks fua)) (put f.sections f.entries (first + r.served) s.progress.journal.sections)
      journal_is =
          ap (λ (x : DeviceFormat). if is_journal x.mode then option_map (counts_if (Model.is_flushed_by r blocks fua)) (put f.sections f.entries (first + r.served) s.progress.journal.sections)
          else Some s.progress.journal) is.format

      write_no_room : has_room journal.ring ≡ false → IsServedAs w (suc k) Serves.NoRoom parts journal recalculation a a
      write_no_room full =
          let none = none_of (put f.sections f.entries (first + r.served) s.progress.journal.sections)
          (has_room_law f s.history s.progress.journal w.disk journal.ring (first + r.served) (stands_now w parts journal recalculation a is).device ∙ full) in
          only_done w Conditions.Working parts journal recalculation a is (Model.Serve (suc k)) Model.NoRoom
          (working-is w parts journal recalculation a is (Model.Serve (suc k)) ∙ serve_is f s k r served (Asks.Write first blocks fua) e
          ∙ ap (Model.serve_with f s k r) (journal_is ∙ ap (option_map (counts_if (Model.is_flushed_by r blocks fua))) none)) refl

      module _ (z : BlockWrite) (to : z ≡ write) (mid : PlacedRing) (has : HasPut y z mid parts.tags a) where
        put_is : (t : Bool) → Model.is_flushed_by r blocks fua ≡ t → Model.journal_with f s.progress.journal r (Asks.Write first blocks fua) ≡ Some (counts_if t has.sections)
        put_is t flushes =
            journal_is ∙ ap (option_map (counts_if (Model.is_flushed_by r blocks fua))) (ap (λ (x : BlockWrite). sections_with y x.block) (sym to) ∙ has.put_)
            ∙ ap (λ (u : Bool). Some (counts_if u has.sections)) flushes

        flight-counted : (new : Parts) → new.slots ≡ Slots.with_change (suc k) with_block_counted parts.slots → IsFlightOf f new.slots then_
        flight-counted new slots =
            subst (λ (x : Flight). IsFlightOf f x then_) (sym slots)
            (flight_written f (cells_now f.blocks.tag s.history) parts.slots s.progress.requests k r is.flight served.there served.unfinished first blocks fua e)

        abbrev changes_if : Bool → BlockWrite → List Change
        changes_if t x = Begun x ∷ Written x ∷ (if t then Flushed ∷ [] else [])

        changes-if : (t : Bool) → Model.is_flushed_by r blocks fua ≡ t → changes_if t z ≡ Model.block_changes (suc k) r (Asks.Write first blocks fua)
        changes-if t flushes = ap (changes_if t) to ∙ ap (λ (u : Bool). changes_if u write) (sym flushes)

        write_done : (t : Bool) → Model.is_flushed_by r blocks fua ≡ t → (new : Parts) (p : PlacedRing) (b : List Content) → new.slots ≡ Slots.with_change (suc k) with_block_counted parts.slots → new.maker ≡ parts.maker
            → new.tags ≡ parts.tags → HasFlushedIf t (after_change (Begun z) has.sections y) p parts.tags a b → (t ≡ false → (p ≡ mid) × (b ≡ a)) → IsLeftThrough (after_change (Begun z) has.sections y) a b
            → IsServedAs w (suc k) (served_by (turn_of new.slots (suc k))) new p recalculation a b
        write_done true flushes new p b slots maker tags flushed still m =
            kept_done (Asks.Write first blocks fua) (counts_if true has.sections) e tt (put_is true flushes) flushed.disk flushed.format new p b (flight-counted new slots) maker
            (subst (λ (xs : List Change). StandsAs (record { format = f; history = with_changes xs s.history; counts = counts_if true has.sections; disk = flushed.disk }) p new.tags b)
            (changes-if true flushes)
            (subst (λ (x : Store). StandsAs (record { format = f; history = with_change (with_change s.history (Written z)) Flushed; counts = counts_if true has.sections; disk = flushed.disk }) p x b) (sym tags)
            (flushed.written s.history z refl)))
            (subst (λ (x : Store). TagsPlaced w.disk flushed.disk parts.tags x a b) (sym tags) flushed.gives)
            1 (with_change s.history (Begun z)) (ap (λ (xs : List Change). with_changes (take 1 xs) s.history) (changes-if true flushes)) m
        write_done false flushes new p b slots maker tags flushed still m =
            let same = still refl in
            kept_done (Asks.Write first blocks fua) (counts_if false has.sections) e tt (put_is false flushes) w.disk refl new p b (flight-counted new slots) maker
            (subst (λ (xs : List Change). StandsAs (record { format = f; history = with_changes xs s.history; counts = counts_if false has.sections; disk = w.disk }) p new.tags b)
            (changes-if false flushes)
            (subst (λ (x : Store). StandsAs (after_change (Written z) has.sections y) p x b) (sym tags)
            (subst (λ (x : PlacedRing). StandsAs (after_change (Written z) has.sections y) x parts.tags b) (sym same.0)
            (subst (StandsAs (after_change (Written z) has.sections y) mid parts.tags) (sym same.1) has.written))))
            (subst (λ (x : Store). TagsPlaced w.disk w.disk parts.tags x a b) (sym tags)
            (subst (TagsPlaced w.disk w.disk parts.tags parts.tags a) (sym same.1) (tags_same w.disk parts.tags a)))
            1 (with_change s.history (Begun z)) (ap (λ (xs : List Change). with_changes (take 1 xs) s.history) (changes-if false flushes)) m

        write_failed : (t : Bool) → Model.is_flushed_by r blocks fua ≡ t → (new : Parts) (p : PlacedRing) (b : List Content) → new.slots ≡ parts.slots → new.maker ≡ parts.maker
            → IsLeftThrough (after_change (Begun z) has.sections y) a b → HasFailedIn w (suc k) new p recalculation a b
        write_failed t flushes new p b slots maker m =
            failed_done (Asks.Write first blocks fua) (counts_if t has.sections) e (put_is t flushes) new p recalculation b slots maker (with_change s.history (Begun z)) (ap (λ (x : BlockWrite). with_change s.history (Begun x)) to)
            (standing_now (after_change (Begun z) has.sections y) mid parts.tags a has.begun) m

  -- ---- the request of a ticket

  -- The tag of a block's bytes is the one of the disk's rule.
  pub rule_told : (disk : DiskIdentity) → IsReady parts disk a → (block : ℕ) (bytes : List ℕ) → tag_by parts.maker parts.spb block bytes ≡ tagger_of w.disk.format block bytes
  rule_told disk ready block bytes =
      ap (λ (rule : TagRule). tag_of rule.key rule.salt rule.size (block * parts.spb) bytes) is.rule
      ∙ ap (λ (n : ℕ). tag_of w.disk.format.key (salt_of w.disk.format.superblock) w.disk.format.geometry.shape.tag_size (block * n) bytes)
      (ready.spb ∙ sym (ap (λ (g : Geometry). g.shape.spb) (stands_now w parts journal recalculation a is).placed.cells.geometry))

  module _ (ticket : ℕ) (there : is_in_flight ticket parts.slots ≡ true) where
    module _ (turn : turn_of parts.slots ticket ≡ Turns.Flush) where
      pub serve_flush_done : (new : Parts) (p : PlacedRing) (b : List Content) → new.slots ≡ Slots.with_change ticket with_finish parts.slots → new.maker ≡ parts.maker
          → new.tags ≡ parts.tags → HasFlushed y p parts.tags a b → IsLeftThrough y a b → IsServedAs w ticket Serves.Done new p recalculation a b
      serve_flush_done new p b slots maker tags has m =
          let next = next_told ticket Turns.Flush there turn in
          let served : IsServed s next.k next.asked = record { works = is.condition_; there = next.there; unfinished = next.turn_.unfinished; unheld = next.turn_.unheld } in
          subst (λ (t : ℕ). IsServedAs w t Serves.Done new p recalculation a b) (sym next.ticket_)
          (flush_done next.k next.asked served next.turn_.request new p b (slots ∙ ap (λ (t : ℕ). Slots.with_change t with_finish parts.slots) next.ticket_) maker tags has m)

      pub serve_flush_failed : (new : Parts) (p : PlacedRing) (b : List Content) → new.slots ≡ parts.slots → new.maker ≡ parts.maker → IsLeftThrough y a b → HasFailedIn w ticket new p recalculation a b
      serve_flush_failed new p b slots maker m =
          let next = next_told ticket Turns.Flush there turn in
          let served : IsServed s next.k next.asked = record { works = is.condition_; there = next.there; unfinished = next.turn_.unfinished; unheld = next.turn_.unheld } in
          subst (λ (t : ℕ). HasFailedIn w t new p recalculation a b) (sym next.ticket_) (flush_failed next.k next.asked served next.turn_.request new p b slots maker m)

    module _ (block : ℕ) (turn : turn_of parts.slots ticket ≡ Turns.Read block) where
      pub serve_read_failed : (new : Parts) (now : Recalculation) (b : List Content) → new.slots ≡ parts.slots → new.maker ≡ parts.maker → IsLeftThrough y a b → HasFailedIn w ticket new journal now a b
      serve_read_failed new now b slots maker m =
          let next = next_told ticket (Turns.Read block) there turn in
          let served : IsServed s next.k next.asked = record { works = is.condition_; there = next.there; unfinished = next.turn_.unfinished; unheld = next.turn_.unheld } in
          subst (λ (t : ℕ). HasFailedIn w t new journal now a b) (sym next.ticket_)
          (read_failed next.k next.asked served next.turn_.first next.turn_.count next.turn_.request new now b slots maker m)

      -- Its region is recalculated first, or not, and then it is read.
      module _ (low : block < w.disk.geometry.blocks) (t : Bool) (takes : takes_first journal recalculation block ≡ t) (first : Recalculation) (store : Store) (m : List Content) (same : store.geometry ≡ parts.tags.geometry)
          (taken : TakesIf t parts.maker (region_of recalculation.awaiting.geometry block) recalculation first parts.tags store a m)
          (adds : TakesIfIn t parts.maker (region_of recalculation.awaiting.geometry block) recalculation parts.tags a m) where
        -- The regions that await then.
        abbrev pub then_awaiting : ℕ → Bool
        then_awaiting = awaiting_if w parts journal recalculation a is t (region_of w.disk.geometry block)

        pub taken_working : IsWorking (standing_of w) (awaiting_if w parts journal recalculation a is t (region_of w.disk.geometry block)) journal first store m
        taken_working = first_taken w parts journal recalculation a is block low t takes first store m same taken

        pub taken_left : IsLeftThrough (standing_of w) a m
        taken_left = first_left w parts journal recalculation a is block low t takes m adds

        -- The region of a block that no section holds does not await.
        pub rests : newest_in journal.ring block ≡ None → awaiting_if w parts journal recalculation a is t (region_of w.disk.geometry block) (region_of w.disk.geometry block) ≡ false
        rests none = by t takes
          where
            by : (u : Bool) → takes_first journal recalculation block ≡ u → awaiting_if w parts journal recalculation a is u (region_of w.disk.geometry block) (region_of w.disk.geometry block) ≡ false
            by true e = with_region-here (region_of w.disk.geometry block) (region_of w.disk.geometry block) false (awaiting_in w) refl
            by false e =
                let free : not (is_some (newest_entry w.disk journal.ring block)) ≡ true =
                ap (λ (o : Option Entry). not (is_some o)) (ap (λ (g : Geometry). last_entry g (entries_of (sections_of journal.ring)) block) (sym (stands_now w parts journal recalculation a is).device.is_ring.geometry) ∙ none) in
                alone (awaiting_in w (region_of w.disk.geometry block)) (not (is_some (newest_entry w.disk journal.ring block))) free (sym (takes_is w parts journal recalculation a is block low) ∙ e)

        pub serve_read_done : (disk : DiskIdentity) (mid new : Parts) (stored : List ℕ) (b : List Content) → IsReady parts disk a
            → mid.slots ≡ parts.slots → mid.maker ≡ parts.maker → mid.spb ≡ parts.spb → length mid.buffer.items ≡ parts.slots.block_size
            → new ≡ record mid { slots = after_read ticket block stored mid } → KeepsStanding y journal store mid.tags m b
            → HasNow (λ c. IsCellNow y block mid.buffer.items stored) m → IsServedAs w ticket (served_by (turn_of new.slots ticket)) new journal first a b
        serve_read_done disk mid new stored b ready slots maker spb size new_ kept gives =
            let next = next_told ticket (Turns.Read block) there turn in
            let served : IsServed s next.k next.asked = record { works = is.condition_; there = next.there; unfinished = next.turn_.unfinished; unheld = next.turn_.unheld } in
            let bytes = mid.buffer.items in
            let computed = tag_by mid.maker mid.spb block bytes in
            let told : computed ≡ tagger_of w.disk.format block bytes =
            ap (λ (rule : TagRule). tag_by rule mid.spb block bytes) maker ∙ ap (λ (n : ℕ). tag_by parts.maker n block bytes) spb ∙ rule_told disk ready block bytes in
            let in_flight : new.slots ≡ (if bytes_eq stored computed then Slots.with_change (suc next.k) (with_block_read parts.slots.block_size bytes) parts.slots
            else Slots.with_change (suc next.k) (with_fault block stored computed) parts.slots) =
            ap (λ (p : Parts). p.slots) new_ ∙ ap (λ (x : Flight). if bytes_eq stored computed then Slots.with_change ticket (with_block_read x.block_size bytes) x else Slots.with_change ticket (with_fault block stored computed) x) slots
            ∙ ap (λ (n : ℕ). if bytes_eq stored computed then Slots.with_change n (with_block_read parts.slots.block_size bytes) parts.slots else Slots.with_change n (with_fault block stored computed) parts.slots) next.ticket_ in
            let at_m = told_then a m is.told is.is_told taken_left in
            let working = working_then y y then_awaiting journal journal first store mid.tags m b refl taken_working kept.now kept.gives in
            subst (λ (n : ℕ). IsServedAs w n (served_by (turn_of new.slots n)) new journal first a b) (sym next.ticket_)
            (read_done next.k next.asked served next.turn_.first next.turn_.count block bytes stored computed new first b next.turn_.request next.turn_.block_ size told in_flight
            (ap (λ (p : Parts). p.maker) new_ ∙ maker) (gives at_m.content at_m.is)
            (subst (λ (p : Parts). IsWorking y (Model.after_event f s (Model.Serve (suc next.k))).progress.regions.awaiting journal first p.tags b) (sym new_)
            (subst (λ (regions : ℕ → Bool). IsWorking y regions journal first mid.tags b)
            (sym (read_regions next.k next.asked served next.turn_.first next.turn_.count block next.turn_.request next.turn_.block_ low t takes)) working))
            (EachMoment-then taken_left kept.left))

    module _ (block : ℕ) (flushes : Bool) (turn : turn_of parts.slots ticket ≡ Turns.Write block flushes) where
      pub serve_no_room : (b : List Content) → b ≡ a → has_room journal.ring ≡ false → IsServedAs w ticket Serves.NoRoom parts journal recalculation a b
      serve_no_room b same full =
          let next = next_told ticket (Turns.Write block flushes) there turn in
          let served : IsServed s next.k next.asked = record { works = is.condition_; there = next.there; unfinished = next.turn_.unfinished; unheld = next.turn_.unheld } in
          subst (λ (t : ℕ). IsServedAs w t Serves.NoRoom parts journal recalculation a b) (sym next.ticket_)
          (subst (λ (x : List Content). IsServedAs w (suc next.k) Serves.NoRoom parts journal recalculation a x) (sym same)
          (write_no_room next.k next.asked served next.turn_.first next.turn_.blocks next.turn_.fua next.turn_.request full))

      module _ (bytes : List ℕ) (bytes_ : IfSome (slot_of ticket parts.slots) (λ slot. bytes ≡ next_bytes parts.slots.block_size slot)) where
        -- The bytes may be put for the device.
        pub takes_write : (disk : DiskIdentity) → IsReady parts disk a → (tag : List ℕ) → tag ≡ tag_by parts.maker parts.spb block bytes → TakesWrite y (block_write ticket block bytes) tag journal parts.tags a
        takes_write disk ready tag tag_ = record {
          stands = stands_now w parts journal recalculation a is;
          idle = idle_now w parts journal recalculation a is;
          tag_ = tag_ ∙ rule_told disk ready block bytes;
        }

        module _ (mid : PlacedRing) (has : HasPut y (block_write ticket block bytes) mid parts.tags a) where
          -- What the journal stands for then, before a flush.
          abbrev pub begun_standing : JournalStanding
          begun_standing = after_change (Begun (block_write ticket block bytes)) has.sections y

          -- The write is the one of the request's next block.
          write_is : (next : Next ticket (Turns.Write block flushes)) → IsServed s next.k next.asked
              → block_write ticket block bytes ≡ next_write next.k next.turn_.first next.turn_.blocks next.asked.served
          write_is next served =
              let same = bytes-next f s next.k next.asked served parts.slots is.flight is.reached next.turn_.first next.turn_.blocks next.turn_.fua next.turn_.request bytes
              (subst (λ (t : ℕ). IfSome (slot_of t parts.slots) (λ slot. bytes ≡ next_bytes parts.slots.block_size slot)) next.ticket_ bytes_) in
              ap (λ (t : ℕ). block_write t block bytes) next.ticket_ ∙ ap (λ (n : ℕ). block_write (suc next.k) n bytes) next.turn_.block_
              ∙ ap (block_write (suc next.k) (next.turn_.first + next.asked.served)) same

          pub serve_write_done : (new : Parts) (p : PlacedRing) (b : List Content) → new.slots ≡ Slots.with_change ticket with_block_counted parts.slots → new.maker ≡ parts.maker → new.tags ≡ parts.tags
              → HasFlushedIf flushes begun_standing p parts.tags a b → (flushes ≡ false → (p ≡ mid) × (b ≡ a)) → IsLeftThrough begun_standing a b
              → IsServedAs w ticket (served_by (turn_of new.slots ticket)) new p recalculation a b
          serve_write_done new p b slots maker tags flushed still m =
              let next = next_told ticket (Turns.Write block flushes) there turn in
              let served : IsServed s next.k next.asked = record { works = is.condition_; there = next.there; unfinished = next.turn_.unfinished; unheld = next.turn_.unheld } in
              let to = write_is next served in
              subst (λ (t : ℕ). IsServedAs w t (served_by (turn_of new.slots t)) new p recalculation a b) (sym next.ticket_)
              (write_done next.k next.asked served next.turn_.first next.turn_.blocks next.turn_.fua next.turn_.request (block_write ticket block bytes) to mid has flushes (sym next.turn_.flushes_) new p b
              (slots ∙ ap (λ (t : ℕ). Slots.with_change t with_block_counted parts.slots) next.ticket_) maker tags flushed still m)

          pub serve_write_failed : (new : Parts) (p : PlacedRing) (b : List Content) → new.slots ≡ parts.slots → new.maker ≡ parts.maker → IsLeftThrough begun_standing a b → HasFailedIn w ticket new p recalculation a b
          serve_write_failed new p b slots maker m =
              let next = next_told ticket (Turns.Write block flushes) there turn in
              let served : IsServed s next.k next.asked = record { works = is.condition_; there = next.there; unfinished = next.turn_.unfinished; unheld = next.turn_.unheld } in
              let to = write_is next served in
              subst (λ (t : ℕ). HasFailedIn w t new p recalculation a b) (sym next.ticket_)
              (write_failed next.k next.asked served next.turn_.first next.turn_.blocks next.turn_.fua next.turn_.request (block_write ticket block bytes) to mid has flushes (sym next.turn_.flushes_) new p b slots maker m)
