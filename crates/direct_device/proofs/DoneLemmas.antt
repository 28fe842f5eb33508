-- After each serve the device is the one after its event.
use Rattle.std.proofs.Common.{◌≡◌, ℕ, suc, ◌+◌, ◌<◌, ◌++◌, Bool, true, false, if◌then◌else◌, List, [], ◌∷◌, length, slice_get, None, Some, IfSome, refl, sym, ◌∙◌, ap, subst}
use Rattle.std.specs.Str.{bytes_eq}
use Rattle.std.proofs.lemmas.Bool.{and_left}
use Rattle.disk_model.specs.Disk.{Content, Reads}
use Rattle.disk_model.specs.Moments.{EachMoment, HasNow, content_now}
use Rattle.image_model.specs.Bitmap.{is_to_recalculate}
use Rattle.image_model.specs.Geometry.{Geometry, data_at, region_of}
use Rattle.device_model.specs.History.{BlockWrite, cells_now}
use Rattle.device_model.specs.Mode.{DeviceFormat}
use Rattle.device_model.specs.Progress as Model
use Rattle.device_model.specs.Regions.{RegionCounts, recalculated_region, with_region}
use Rattle.device_model.specs.Request as Asks
use Rattle.device_model.proofs.SubmissionLemmas.{result-working}
use Rattle.place_model.specs.Format.{DiskFormat, format_on, tagger_of}
use Rattle.place_model.specs.Opened.{blocks_of}
use Rattle.place_model.specs.Kind.{placed_kind}
use Rattle.direct_mode.specs.JournalLawsEventLaws.{IsServed}
use Rattle.direct_model.specs.DirectDisk.{DirectDisk}
use Rattle.direct_model.specs.Steps.{after_flush, with_write}
use Rattle.direct_mode.specs.CallLaws.{StandsThrough}
use Rattle.direct_mode.specs.Device.{IsDirectDevice}
use Rattle.direct_mode.specs.EventLaws.{after_block}
use Rattle.direct_mode.specs.MomentLaws.{IsLeftNow}
use Rattle.direct_mode.specs.ServeLaws.{KeepsDevice}
use Rattle.direct_mode.proofs.CallLemmas.{block_read_law, still_law, through_law}
use Rattle.direct_mode.proofs.EventLemmas.{held_law, served_law, serve_read_law, unserved_law}
use Rattle.direct_mode.proofs.ServeLemmas.{failed_flush_law, failed_read_law, served_flush_law, served_kept_law}
use Rattle.direct_mode.specs.Cells.{HasCells, KeepsDisk}
use Rattle.direct_mode.specs.Serving as WriteModel
use Rattle.direct_mode.specs.Serving.{HasFailed, HasServed, ServedWrite, WritesNext}
use Rattle.tag_store.specs.Store.{Store, given_tags}
use Rattle.recalculate_laws.specs.Awaits.{ReadsNone}
use Rattle.recalculate_laws.specs.Formats.{IsFormatOf}
use Rattle.recalculate_laws.proofs.AwaitsLemmas.{awaiting_served_law}
use Rattle.recalculate_laws.proofs.DirectDeviceLemmas.{direct_read_law}
use Rattle.recalculation.specs.declared.recalculating.Recalculation.{Recalculation}
use Rattle.recalculation.specs.Recalculation.{IsRecalculationOf}
use Rattle.request_slots.specs.Flight.{Flight, slot_of, turn_of}
use Rattle.request_slots.specs.InFlight.{IsFlightOf}
use Rattle.request_slots.specs.Serving.{next_bytes, with_block_counted, with_block_read, with_change, with_fault, with_finish}
use Rattle.request_slots.proofs.ServeEventLemmas.{flight_flushed, flight_written}
use Rattle.device_parts.specs.declared.answers.Served.TheVariants as Serves
use Rattle.device_parts.specs.declared.condition.Condition.{Condition}
use Rattle.device_parts.specs.declared.condition.Condition.TheVariants as Conditions
use Rattle.device_parts.specs.declared.parts.Parts.{Parts}
use Rattle.device_parts.specs.Answers.{served_by}
use Rattle.device_parts.specs.Device.{condition_of, rule_on}
use Rattle.device_parts.proofs.NextLemmas.{bytes-next, finished-is, flight_put, held-is, open_then, requests_then, served_asked, there_then}
use Rattle.device_parts.proofs.TurnLemmas.{answer_is}
use Rattle.direct_device.specs.Device.{DirectStanding, IsOverDisk, Works, standing_then}
use Rattle.direct_device.specs.Taking.{IsTaken, awaiting_read}
use Rattle.direct_device.proofs.OverDisk.{HasFailedIn, IsAfter, IsServedAs}

-- ---- an event that is done

-- A disk that told its content tells it later.
pub record IsTold (moments : List Content) : Type 0 where
  pub content : Content
  pub is : content_now moments ≡ Some content

told_behind : (since before : List Content) (c : Content) → content_now before ≡ Some c → IsTold (since ++ before)
told_behind [] before c told = record { content = c; is = told }
told_behind (x ∷ since) before c told = record { content = x; is = refl }

pub told_then : {P : Content → Type 0} (a b : List Content) (c : Content) → content_now a ≡ Some c → EachMoment a b P → IsTold b
told_then a b c told moments = subst IsTold (sym moments.grows) (told_behind moments.since a c told)

-- Where a call keeps the device, with its disk, the requests and the rule, the event is done.
module _ (w : DirectStanding) (condition : Condition) (parts : Parts) (recalculation : Recalculation) (a : List Content) (is : IsOverDisk w condition parts recalculation a) where
  pub done : (event : Model.Event) (d : DirectDisk) (now : Condition) (new : Parts) (last : Recalculation) (b : List Content)
      → KeepsDevice w.format w.state event w.entry w.disk d a b → d.format ≡ w.disk.format
      → IsFlightOf w.format new.slots (Model.after_event w.format w.state event).progress.requests → new.maker ≡ parts.maker
      → (Model.after_event w.format w.state event).condition ≡ condition_of now
      → (now ≡ Conditions.Working → Works (standing_then w event d) new last b)
      → IsAfter w event now new last a b
  done event d now new last b keeps same flight rule condition_is works =
      let told = told_then a b is.told is.is_told keeps.through.opens in
      record {
        disk = d;
        format = λ on of. subst (IsFormatOf on) (sym same) of;
        device = record {
          device = keeps.device;
          opened = subst (λ (x : DiskFormat). blocks_of x ≡ blocks_of (format_on x.key x.sectors w.entry)) (sym same) is.opened;
          flight = flight;
          rule = rule ∙ is.rule ∙ ap rule_on (sym same);
          condition_ = condition_is;
          told = told.content;
          is_told = told.is;
          works = works;
          left = subst (λ (x : DiskFormat). IsLeftNow (placed_kind x.key x.sectors) w.entry (Model.after_event w.format w.state event).history b) (sym same) keeps.now;
        };
        through = keeps.through;
      }

  -- Where the disk stays as it is,
  pub still : (event : Model.Event) (now : Condition) (new : Parts) (last : Recalculation) (b : List Content)
      → IsDirectDevice w.format (Model.after_event w.format w.state event) w.disk
      → StandsThrough w.disk a b
      → IsFlightOf w.format new.slots (Model.after_event w.format w.state event).progress.requests → new.maker ≡ parts.maker
      → (Model.after_event w.format w.state event).condition ≡ condition_of now
      → (now ≡ Conditions.Working → Works (standing_then w event w.disk) new last b)
      → IsAfter w event now new last a b
  still event now new last b device through flight rule condition_is works =
      done event w.disk now new last b (served_kept_law w.format w.state event w.disk w.entry a b is.device is.opened device through) refl flight rule condition_is works

-- What works does so with regions that are the same.
pub same_works : (w : DirectStanding) (event : Model.Event) (parts : Parts) (recalculation : Recalculation) (b : List Content) (d : DirectDisk) → HasCells d w.state.progress.regions.awaiting parts.tags b
    → IsRecalculationOf d.superblock d.geometry w.state.progress.regions.awaiting recalculation
    → (Model.after_event w.format w.state event).progress.regions.awaiting ≡ w.state.progress.regions.awaiting → Works (standing_then w event d) parts recalculation b
same_works w event parts recalculation b d cells own same = record {
  cells = subst (λ (x : ℕ → Bool). HasCells d x parts.tags b) (sym same) cells;
  recalculation_ = subst (λ (x : ℕ → Bool). IsRecalculationOf d.superblock d.geometry x recalculation) (sym same) own;
}

-- ---- a device that works

pub not_working : {P : Type 0} → Conditions.Broken ≡ Conditions.Working → P
not_working same = absurd (subst (λ (c : Condition). elim c as (λ _. Type 0) [ Conditions.Working ↦ ⊥ | Conditions.Broken ↦ Unit {0} ]) same tt)

module _ (w : DirectStanding) (parts : Parts) (recalculation : Recalculation) (a : List Content) (is : IsOverDisk w Conditions.Working parts recalculation a) where
  abbrev f : DeviceFormat
  f = w.format

  abbrev s : Model.DeviceState
  s = w.state

  works : s.condition ≡ Model.Working
  works = is.condition_

  cells : HasCells w.disk s.progress.regions.awaiting parts.tags a
  cells = (is.works refl).cells

  own : IsRecalculationOf w.disk.superblock w.disk.geometry s.progress.regions.awaiting recalculation
  own = (is.works refl).recalculation_

  -- A disk whose moments stay stands through that.
  pub stands_still : StandsThrough w.disk a a
  stands_still = still_law w.disk a a refl (λ c told. (cells.now c told).stands)

  module _ (k : ℕ) (r : Asks.Asked) (there : slice_get s.progress.requests k ≡ Some r) where
    -- ---- nothing is done

    flight-same : (answer : Model.Answer) → Model.event_result f s (Model.Serve (suc k)) ≡ Model.only_answers s.progress answer
        → IsFlightOf f parts.slots (Model.after_event f s (Model.Serve (suc k))).progress.requests
    flight-same answer e = subst (λ (x : Model.EventResult). IsFlightOf f parts.slots x.progress.requests) (sym e) is.flight

    still-works : (answer : Model.Answer) → Model.event_result f s (Model.Serve (suc k)) ≡ Model.only_answers s.progress answer → Works (standing_then w (Model.Serve (suc k)) w.disk) parts recalculation a
    still-works answer e = same_works w (Model.Serve (suc k)) parts recalculation a w.disk cells own (ap (λ (x : Model.EventResult). x.progress.regions.awaiting) e)

    pub served_finished : r.state ≡ Asks.Finished → IsServedAs w (suc k) Serves.Done parts recalculation a a
    served_finished e =
        let result = finished-is f s works k r there e in
        record {
          answer = ap (λ (x : Model.EventResult). x.answer) result;
          done = still w Conditions.Working parts recalculation a is (Model.Serve (suc k)) Conditions.Working parts recalculation a
              (unserved_law f s w.disk (suc k) is.device (ap Asks.is_to_serve there ∙ ap Asks.is_unfinished e))
              stands_still (flight-same Model.Done result) refl works (λ _. still-works Model.Done result);
        }

    pub served_held : (by : ℕ) → r.state ≡ Asks.Unfinished → Asks.held_by s.progress.requests k r.request ≡ Some by
        → IsServedAs w (suc k) (Serves.Held by) parts recalculation a a
    served_held by e held =
        let result = held-is f s works k r there by e held in
        record {
          answer = ap (λ (x : Model.EventResult). x.answer) result;
          done = still w Conditions.Working parts recalculation a is (Model.Serve (suc k)) Conditions.Working parts recalculation a
              (held_law f s w.disk k by r is.device there held)
              stands_still (flight-same (Model.HeldBy by) result) refl works (λ _. still-works (Model.HeldBy by) result);
        }

    -- ---- the disk failed

    failed-progress : (Model.after_event f s (Model.FailedServe (suc k))).progress ≡ s.progress
    failed-progress = ap (λ (x : Model.EventResult). x.progress) (result-working f s (Model.FailedServe (suc k)) works)

    failed-flight : (new : Parts) → new.slots ≡ parts.slots → IsFlightOf f new.slots (Model.after_event f s (Model.FailedServe (suc k))).progress.requests
    failed-flight new same =
        subst (λ (x : Flight). IsFlightOf f x (Model.after_event f s (Model.FailedServe (suc k))).progress.requests) (sym same)
        (subst (λ (p : Model.Progress). IsFlightOf f parts.slots p.requests) (sym failed-progress) is.flight)

    broken-now : (Model.after_event f s (Model.FailedServe (suc k))).condition ≡ condition_of Conditions.Broken
    broken-now = ap Model.after_failure works

    pub failed_still : (new : Parts) (last : Recalculation) (b : List Content) → new.slots ≡ parts.slots → new.maker ≡ parts.maker → StandsThrough w.disk a b
        → IsDirectDevice f (Model.after_event f s (Model.FailedServe (suc k))) w.disk → HasFailedIn w (suc k) new last a b
    failed_still new last b slots maker through device =
        still w Conditions.Working parts recalculation a is (Model.FailedServe (suc k)) Conditions.Broken new last b
        device through (failed-flight new slots) maker broken-now (λ same. not_working same)

    -- ---- a request that is served

    module _ (unfinished : r.state ≡ Asks.Unfinished) (unheld : Asks.held_by s.progress.requests k r.request ≡ None) where
      pub is_served : IsServed s k r
      is_served = record { works = works; there = there; unfinished = unfinished; unheld = unheld }

      abbrev then_ : List Asks.Asked
      then_ = requests_then f s k r

      result_is : Model.event_result f s (Model.Serve (suc k)) ≡ Model.serve_with f s k r (Some s.progress.journal)
      result_is = served_law f s w.disk k r is.device is_served

      -- where those in flight are the requests with it, it answers by what is done next,
      pub served_done : (new : Parts) (last : Recalculation) (b : List Content) (d : DirectDisk) → IsFlightOf f new.slots then_ → new.maker ≡ parts.maker
          → KeepsDevice f s (Model.Serve (suc k)) w.entry w.disk d a b → d.format ≡ w.disk.format
          → Works (standing_then w (Model.Serve (suc k)) d) new last b
          → IsServedAs w (suc k) (served_by (turn_of new.slots (suc k))) new last a b
      served_done new last b d flight maker keeps same has = record {
        answer = ap (λ (x : Model.EventResult). x.answer) result_is ∙ answer_is f new.slots then_ flight k (served_asked f s r) (there_then f s k r is_served) (open_then f s k r is_served);
        done = done w Conditions.Working parts recalculation a is (Model.Serve (suc k)) d Conditions.Working new last b keeps same
            (subst (λ (x : Model.EventResult). IsFlightOf f new.slots x.progress.requests) (sym result_is) flight) maker works (λ _. has);
      }

      -- a request that is no read takes no region,
      served-awaiting : ReadsNone r.request → (Model.after_event f s (Model.Serve (suc k))).progress.regions.awaiting ≡ s.progress.regions.awaiting
      served-awaiting none = awaiting_served_law f s k r is_served none

      -- a flush
      pub served_flush : (new : Parts) (b : List Content) → r.request ≡ Asks.Flush → new.slots ≡ with_change (suc k) with_finish parts.slots
          → new.maker ≡ parts.maker → StandsThrough w.disk a b → HasCells (after_flush w.disk) s.progress.regions.awaiting new.tags b
          → IsServedAs w (suc k) Serves.Done new recalculation a b
      served_flush new b e slots maker through has =
          let flight = subst (λ (x : Flight). IsFlightOf f x then_) (sym slots) (flight_flushed f (cells_now f.blocks.tag s.history) parts.slots s.progress.requests k r is.flight there unfinished e) in
          let same = served-awaiting (subst ReadsNone (sym e) tt) in
          let as_told = served_done new recalculation b (after_flush w.disk) flight maker
          (served_flush_law f s w.disk k r w.entry s.progress.regions.awaiting (given_tags new.tags) a b is.device is.opened is_served e through has.now) refl
          (same_works w (Model.Serve (suc k)) new recalculation b (after_flush w.disk) has own same) in
          record {
            answer = ap (λ (x : Model.EventResult). x.answer) result_is ∙ ap (λ (q : Asks.Request). Model.answer_by (Model.with_block_of f (cells_now f.blocks.tag s.history) r q).state) e;
            done = as_told.done;
          }

      pub failed_flush : (new : Parts) (b : List Content) → r.request ≡ Asks.Flush → new.slots ≡ parts.slots → new.maker ≡ parts.maker → StandsThrough w.disk a b
          → HasFailedIn w (suc k) new recalculation a b
      failed_flush new b e slots maker through = failed_still new recalculation b slots maker through (failed_flush_law f s w.disk k r is.device is_served e)

      pub failed_read : (first count : ℕ) (new : Parts) (last : Recalculation) (b : List Content) → r.request ≡ Asks.Read first count → new.slots ≡ parts.slots → new.maker ≡ parts.maker → StandsThrough w.disk a b
          → HasFailedIn w (suc k) new last a b
      failed_read first count new last b e slots maker through = failed_still new last b slots maker through (failed_read_law f s w.disk k r first count is.device is_served e)

      -- The regions that await behind a read.
      read-awaiting : (first count block : ℕ) → r.request ≡ Asks.Read first count → block ≡ first + r.served
          → (Model.after_event f s (Model.Serve (suc k))).progress.regions.awaiting ≡ awaiting_read w.disk.geometry block s.progress.regions.awaiting
      read-awaiting first count block e block_ =
          let counts = s.progress.regions in
          let region = region_of w.disk.geometry (first + r.served) in
          ap (λ (x : RegionCounts). x.awaiting) (direct_read_law f s w.disk k r first count is.device is_served e)
          ∙ by_test (counts.awaiting region) region counts
          ∙ ap (λ (n : ℕ). awaiting_read w.disk.geometry n counts.awaiting) (sym block_)
        where
          by_test : (t : Bool) (region : ℕ) (counts : RegionCounts) → (if t then recalculated_region region counts else counts).awaiting ≡ (if t then with_region region false counts.awaiting else counts.awaiting)
          by_test true region counts = refl
          by_test false region counts = refl

      -- a block that was read behind its region, with the tag that is stored for it
      pub served_read : (first count block : ℕ) (bytes stored computed : List ℕ) (mid : Store) (new : Parts) (last : Recalculation) (m b : List Content) → r.request ≡ Asks.Read first count → block ≡ first + r.served
          → block < parts.slots.blocks → length bytes ≡ parts.slots.block_size → computed ≡ tagger_of w.disk.format block bytes
          → new.slots ≡ (if bytes_eq stored computed then with_change (suc k) (with_block_read parts.slots.block_size bytes) parts.slots
          else with_change (suc k) (with_fault block stored computed) parts.slots)
          → new.maker ≡ parts.maker → IsTaken w.disk s.progress.regions.awaiting block last mid a m
          → KeepsDisk w.disk (awaiting_read w.disk.geometry block s.progress.regions.awaiting) new.tags m b
          → HasNow (Reads (data_at mid.geometry block) bytes) m → HasNow (λ c. stored ≡ given_tags mid c block) m
          → IsServedAs w (suc k) (served_by (turn_of new.slots (suc k))) new last a b
      served_read first count block bytes stored computed mid new last m b e block_ low size computed_ slots maker taken kept reads tag =
          let awaiting = awaiting_read w.disk.geometry block s.progress.regions.awaiting in
          let whole : length bytes ≡ f.blocks.block_size = size ∙ is.flight.block_size in
          let at_mid = told_then a m is.told is.is_told taken.through.moments in
          let told = (block_read_law f s w.disk awaiting (given_tags mid) m block bytes stored is.device works taken.cells.now (subst (λ (n : ℕ). block < n) is.flight.blocks low)
          (and_left (awaiting (region_of w.disk.geometry block)) (is_to_recalculate w.disk.superblock w.disk.geometry block) taken.rests) whole
          (subst (λ (g : Geometry). HasNow (Reads (data_at g block) bytes) m) (sym taken.cells.geometry) reads) tag at_mid.content at_mid.is).1 in
          let through = through_law w.disk a m b taken.through kept.through in
          let same = read-awaiting first count block e block_ in
          served_done new last b w.disk (subst (λ (x : Flight). IsFlightOf f x then_) (sym slots) (flight_put f s k r is_served parts.slots is.flight (tagger_of w.disk.format) first count block bytes stored computed e block_ whole computed_ told)) maker
          (served_kept_law f s (Model.Serve (suc k)) w.disk w.entry a b is.device is.opened (serve_read_law f s w.disk k r first count is.device is_served e) through) refl
          (record {
            cells = subst (λ (x : ℕ → Bool). HasCells w.disk x new.tags b) (sym same) kept.cells;
            recalculation_ = subst (λ (x : ℕ → Bool). IsRecalculationOf w.disk.superblock w.disk.geometry x last) (sym same) taken.recalculation_;
          })

      -- ---- a block of a write

      module _ (first : ℕ) (blocks : List (List ℕ)) (fua : Bool) (e : r.request ≡ Asks.Write first blocks fua) where
        abbrev pub write : ServedWrite
        write = record { format = f; state = s; disk = w.disk; entry = w.entry; place = k; asked = r; first = first; blocks = blocks; fua = fua }

        pub writes_next : (block : ℕ) (bytes tag : List ℕ) (flushes : Bool) → block ≡ first + r.served → flushes ≡ Model.is_flushed_by r blocks fua
            → IfSome (slot_of (suc k) parts.slots) (λ slot. bytes ≡ next_bytes parts.slots.block_size slot)
            → tag ≡ tagger_of w.disk.format block bytes → WritesNext write block bytes tag flushes parts.tags a
        writes_next block bytes tag flushes block_ flushes_ bytes_ tag_ = record {
          device = is.device;
          opened = is.opened;
          served = is_served;
          request = e;
          cells = cells;
          block_ = block_;
          bytes_ = bytes-next f s k r is_served parts.slots is.flight is.device.reached first blocks fua e bytes bytes_;
          tag_ = tag_;
          flushes_ = flushes_;
        }

        after_block-same : (t : Bool) (x : BlockWrite) → (after_block t x w.disk).format ≡ w.disk.format
        after_block-same true x = refl
        after_block-same false x = refl

        pub served_write : (flushes : Bool) (new : Parts) (b : List Content) → HasServed write flushes new.tags a b
            → new.slots ≡ with_change (suc k) with_block_counted parts.slots → new.maker ≡ parts.maker
            → IsServedAs w (suc k) (served_by (turn_of new.slots (suc k))) new recalculation a b
        served_write flushes new b has slots maker =
            let same = after_block-same flushes (WriteModel.next_of write) in
            served_done new recalculation b (after_block flushes (WriteModel.next_of write) w.disk)
            (subst (λ (x : Flight). IsFlightOf f x then_) (sym slots) (flight_written f (cells_now f.blocks.tag s.history) parts.slots s.progress.requests k r is.flight there unfinished first blocks fua e))
            maker has.device same
            (same_works w (Model.Serve (suc k)) new recalculation b (after_block flushes (WriteModel.next_of write) w.disk) has.cells
            (subst (λ (x : DiskFormat). IsRecalculationOf x.superblock x.geometry s.progress.regions.awaiting recalculation) (sym same) own)
            (served-awaiting (subst ReadsNone (sym e) tt)))

        pub failed_write : (new : Parts) (b : List Content) → HasFailed write a b → new.slots ≡ parts.slots → new.maker ≡ parts.maker → HasFailedIn w (suc k) new recalculation a b
        failed_write new b has slots maker =
            done w Conditions.Working parts recalculation a is (Model.FailedServe (suc k)) (with_write w.disk (WriteModel.next_of write)) Conditions.Broken new recalculation b
            has refl (failed-flight new slots) maker broken-now (λ same. not_working same)
