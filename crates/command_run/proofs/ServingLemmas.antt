-- A stream of requests that is served on a device: what its opening and its session leave, and how much of it is read.
use Rattle.std.proofs.Common.{◌≡◌, inr, ℕ, ◌+◌, ◌<◌, ◌≤◌, Bool, true, false, if◌then◌else◌, List, [], ◌∷◌, ◌++◌, length, take, flat_map, refl, sym, ◌∙◌, ap, subst, arith, append-nil, Option, None, Some, option_map, Result, Ok, Err, IfErr, OnOk}
use Rattle.std.proofs.lemmas.Option.{none-some, same_Some}
use Rattle.disk_model.specs.Causes.{Rose}
use Rattle.disk_model.specs.Disk.{Content, Image, IsImage, last_image}
use Rattle.disk_model.specs.Identity.{DiskIdentity}
use Rattle.disk_model.specs.Moments.{content_now, EachMoment, HasNow}
use Rattle.image_model.specs.Cells.{Cell}
use Rattle.image_model.specs.Openable.{IsReadable}
use Rattle.device_model.specs.Device.{DeviceKind, IsLeftWithin}
use Rattle.run_model.specs.Ending as endings
use Rattle.device_model.specs.History.{Change}
use Rattle.device_model.specs.Mode.{DeviceFormat, Mode, Bitmap, Direct, Journal, Recovery}
use Rattle.device_model.specs.Progress.{DeviceState, opened_device}
use Rattle.run_model.specs.ScriptRun.{ScriptRun, ScriptStep, changes_in}
use Rattle.place_model.specs.Changed.{changed_device, changed_format, changes_mode, opened_format, opened_in}
use Rattle.place_model.specs.Format.{DiskFormat, cells_on, format_on}
use Rattle.place_model.specs.Kind.{kind_in}
use Rattle.place_model.specs.Opened.{awaiting_on, base_on, next_on, opened_on, set_bits_on}
use Rattle.place_model.proofs.FormatLemmas.{reads_on, reads_tells}
use Rattle.judging_model.specs.FaultLaws.{OpensLaw}
use Rattle.image_refusal.specs.declared.call_fault.CallFault.{CallFault}
use Rattle.image_refusal.specs.declared.open_fault.OpenFault.{OpenFault}
use Rattle.device_parts.specs.declared.condition.Condition.TheVariants.{Working}
use Rattle.device_parts.specs.Device.{IsOfSameBlocks, Standing, opened_standing}
use Rattle.device.specs.declared.mode.DeviceParts.{DeviceParts}
use Rattle.device.specs.declared.opening.OpenMode.{OpenMode}
use Rattle.device.specs.Device.{IsDevice, kind_of, mode_of}
use Rattle.device.specs.Opening.{IsRefused, LeavesOpening, asked_mode, fault_in_mode}
use Rattle.device.specs.Tags.{Leaves}
use Rattle.place_model.specs.KeptTags.{KeepsStill}
use Rattle.stream_io.specs.Stream.{TakesAtMost}
use Rattle.nbd_model.specs.Stream.{most_stream, requests_of}
use Rattle.nbd_model.specs.Session.{Deed, IsSessionOf, session_deeds}
use Rattle.nbd_model.specs.Deeds.{changes_by, text_in}
use Rattle.nbd_command.specs.ServedRun.{IsEndedBy, SessionEnd}
use Rattle.nbd_flight.specs.Deeds.{Scene, behind}
use Rattle.nbd_session.specs.declared.ended.Ended as sessions
use Rattle.nbd_session.specs.declared.ended.Ended.TheVariants.{Closed, Wrong, Long}
use Rattle.nbd_session.specs.declared.ended.SessionFault.{SessionFault}
use Rattle.nbd_session.specs.declared.ended.SessionFault.TheVariants as faults
use Rattle.nbd_session.specs.Session.{Course, ForNew, HasClosed, HasReadPieces, HasSessionCauses, IsNew, Outside, ServesSession, deeds_over, joined}
use Rattle.nbd_session.specs.Ending.{HasComeTo, all_deeds, end_of}
use Rattle.nbd_session.proofs.EndingLemmas.{served_state}
use Rattle.script_text.specs.declared.tags_found.TagsFound.{TagsFound}
use Rattle.command_ending.specs.Ended.{ending_of}
use Rattle.command_ending.specs.declared.ended.Ended.{Ended}
use Rattle.command_ending.specs.declared.ended.Ended.TheVariants as Endings
use Rattle.run_model.specs.CommandRun.{IsSessionRun, Outset, Serves}
use Rattle.command_task.specs.declared.asked.Task.TheVariants as Tasks
use Rattle.command_task.specs.declared.telling.Telling.TheVariants.{Lines, Replies}
use Rattle.command_task.specs.Closed.{IsClosedAt}
use Rattle.command_model.specs.Closed.{IsClosedIn, state_served}
use Rattle.command_task.specs.Running.{IsBeforeScript, ending_by}
use Rattle.script_lines.specs.Ends.{HasEndCause, IsCounted}
use Rattle.command_task.specs.Opening.{EndsImage, HasRunIn, IsMomentAt}
use Rattle.command_model.specs.Opening.{HasReadIn}
use Rattle.command_task.specs.Order.{HasMomentsAt}
use Rattle.command_task.specs.Outset.{task_outset}
use Rattle.command_model.specs.Outset.{judged_outset}
use Rattle.command_task.specs.Refusing.{ended_by_opening}
use Rattle.command_task.specs.Serving.{HasServedOn, session_ending}
use Rattle.command_model.specs.Serving.{HasReadStream}
use Rattle.command_run.specs.Serving.{ended_by_session}
use Rattle.command_task.specs.Words.{MayWrite}
use Rattle.command_task.proofs.ClosedLemmas.{closed_here}
use Rattle.command_run.proofs.OpeningLemmas.{content_opened, left_behind, moments_behind, moments_in_opening, refused_in_opening, sort_of_serving, still_behind, writes_in}
use Rattle.run_model.specs.declared.outer.Outer.TheVariants as outers

-- ---- the device is one that has just been opened

changed_sections : (mode : Mode) (d : DiskFormat) → (changed_format mode d).geometry.sections ≡ d.geometry.sections
changed_sections Bitmap d = refl
changed_sections Journal d = refl
changed_sections Direct d = refl
changed_sections Recovery d = refl

-- An opening leaves the sections of the journal, also where it changes the mode.
opened_sections : (mode : Mode) (d : DiskFormat) → (opened_format mode d).geometry.sections ≡ d.geometry.sections
opened_sections mode d = by (changes_mode mode d.superblock)
  where
    by : (changes : Bool) → (if changes then changed_format mode d else d).geometry.sections ≡ d.geometry.sections
    by true = changed_sections mode d
    by false = refl

record IsOpened (s : DeviceState) : Type 0 where
  pub base : ℕ → Cell
  pub next : ℕ
  pub set_bits : ℕ → Bool
  pub awaiting : ℕ → Bool
  pub is : s ≡ opened_device base next set_bits awaiting

is_opened : (mode : Mode) (d : DiskFormat) (image : Image) → IsOpened (opened_in mode d image)
is_opened mode d image = by (changes_mode mode d.superblock)
  where
    by : (changes : Bool) → IsOpened (if changes then changed_device d image else opened_on mode d image)
    by true = record { base = cells_on d image; next = 0; set_bits = λ region. false; awaiting = λ region. false; is = refl }
    by false = record {
      base = base_on mode d image;
      next = next_on mode d image;
      set_bits = set_bits_on mode d image;
      awaiting = awaiting_on mode d image;
      is = refl;
    }

pub opened_is_new : (mode : Mode) (key : Option (List ℕ)) (sectors : ℕ) (start made : Image) → IsReadable sectors start
    → IsNew (opened_standing mode key sectors start made)
opened_is_new mode key sectors start made readable =
    let d = format_on key sectors start in
    let opened = is_opened mode d start in
    let some = (reads_tells d start (reads_on key sectors start readable)).is_geometry.sections in
    let same = opened_sections mode d in
    record {
      some = omega (arith, some, same);
      base = opened.base;
      next = opened.next;
      set_bits = opened.set_bits;
      awaiting = opened.awaiting;
      is = opened.is;
    }

-- ---- how a session ends

session_ends : (served : Result sessions.Ended SessionFault) → ending_by (ended_by_session served) ≡ session_ending (end_of served)
session_ends (Ok (Closed true)) = refl
session_ends (Ok (Closed false)) = refl
session_ends (Ok (Wrong magic)) = refl
session_ends (Ok Long) = refl
session_ends (Err faults.Memory) = refl
session_ends (Err faults.Disk) = refl
session_ends (Err faults.Source) = refl
session_ends (Err faults.Sink) = refl

pub ends_by_session : (served : Result sessions.Ended SessionFault) → IfErr (ended_by_session served) EndsImage
ends_by_session (Ok (Closed true)) = tt
ends_by_session (Ok (Closed false)) = tt
ends_by_session (Ok (Wrong magic)) = tt
ends_by_session (Ok Long) = tt
ends_by_session (Err faults.Memory) = tt
ends_by_session (Err faults.Disk) = tt
ends_by_session (Err faults.Source) = tt
ends_by_session (Err faults.Sink) = tt

-- Its stream is read.
pub read_by_session : (P : Type 0) (served : Result sessions.Ended SessionFault) → IfErr (ended_by_session served) (λ ended. IsBeforeScript ended → P)
read_by_session P (Ok (Closed true)) = tt
read_by_session P (Ok (Closed false)) = tt
read_by_session P (Ok (Wrong magic)) = λ before. absurd before
read_by_session P (Ok Long) = λ before. absurd before
read_by_session P (Err faults.Memory) = λ before. absurd before
read_by_session P (Err faults.Disk) = λ before. absurd before
read_by_session P (Err faults.Source) = λ before. absurd before
read_by_session P (Err faults.Sink) = λ before. absurd before

module _ (disk between disk_now source source_now sink sink_now : ℕ) (same : between ≡ disk) (served : Result sessions.Ended SessionFault)
    (causes : HasSessionCauses between disk_now source source_now sink sink_now served) where
  -- What is outside ended it only where its count rose,
  pub cause_by_session : IfErr (ended_by_session served) (HasEndCause (Rose disk disk_now) (Rose source source_now) (Rose sink sink_now))
  cause_by_session = by served causes
    where
      by : (r : Result sessions.Ended SessionFault) → HasSessionCauses between disk_now source source_now sink sink_now r
          → IfErr (ended_by_session r) (HasEndCause (Rose disk disk_now) (Rose source source_now) (Rose sink sink_now))
      by (Ok (Closed true)) told = tt
      by (Ok (Closed false)) told = tt
      by (Ok (Wrong magic)) told = tt
      by (Ok Long) told = tt
      by (Err faults.Memory) told = tt
      by (Err faults.Disk) told = subst (λ (n : ℕ). Rose n disk_now) same (told.disk_failed refl)
      by (Err faults.Source) told = told.source_failed refl
      by (Err faults.Sink) told = told.sink_failed refl

  -- and each count rises only where that is what ended it.
  pub counted_by_session : IsCounted outers.Disk disk disk_now (ended_by_session served)
      × IsCounted outers.Script source source_now (ended_by_session served) × IsCounted outers.Sink sink sink_now (ended_by_session served)
  counted_by_session = (
    record {
      later = subst (λ (n : ℕ). n ≤ disk_now) same causes.disk_later;
      passed = λ other. causes.disk_passed (λ is. other (ap ended_by_session is)) ∙ same;
    },
    record { later = causes.source_later; passed = λ other. causes.source_passed (λ is. other (ap ended_by_session is)) },
    record { later = causes.sink_later; passed = λ other. causes.sink_passed (λ is. other (ap ended_by_session is)) },
  )

-- What holds behind a close holds of a session that came to its end.
pub closed_by_session : (served : Result sessions.Ended SessionFault) (left : Option (List ℕ)) (old : Scene) (new : Outside) (P : Type 0)
    → ServesSession served left old new → ((eio : Bool) → ForNew old (λ w. HasClosed w left eio old new) → P) → OnOk (ended_by_session served) P
closed_by_session (Ok (Closed true)) left old new P serves holds = holds true serves
closed_by_session (Ok (Closed false)) left old new P serves holds = holds false serves
closed_by_session (Ok (Wrong magic)) left old new P serves holds = tt
closed_by_session (Ok Long) left old new P serves holds = tt
closed_by_session (Err faults.Memory) left old new P serves holds = tt
closed_by_session (Err faults.Disk) left old new P serves holds = tt
closed_by_session (Err faults.Source) left old new P serves holds = tt
closed_by_session (Err faults.Sink) left old new P serves holds = tt

-- ---- on an image

module _ (law : OpensLaw) (mode : OpenMode) (may : MayWrite mode) (key : Option (List ℕ)) (disk now : DiskIdentity) (a b : List Content)
    (start : Content) (told : content_now a ≡ Some start) (stream : List ℕ) (leaves : LeavesOpening mode key disk now a b) where
  abbrev image : Image
  image = last_image start

  abbrev kind : DeviceKind
  kind = kind_in (asked_mode mode) key disk.sectors

  abbrev outset : Outset
  outset = task_outset (Tasks.Serve mode) key disk.sectors image

  pub serving_moments : EachMoment a b (IsMomentAt (Tasks.Serve mode) key disk.sectors start stream)
  serving_moments = moments_in_opening law mode key disk now a b start told stream (Serves kind image) (sort_of_serving mode may kind image) tt leaves

  pub serving_content : (c : Content) × (content_now b ≡ Some c)
  serving_content = content_opened law mode key disk now a b start told stream (Serves kind image) (sort_of_serving mode may kind image) tt leaves

  -- No device is open.
  pub serving_refused : (held : Option (List ℕ)) (fault : CallFault OpenFault) → IsRefused mode key disk a b fault
      → HasRunIn outset Lines start stream (ending_of (ended_by_opening fault)) b held held
  serving_refused = refused_in_opening law mode key disk now a b start told stream (Serves kind image) (sort_of_serving mode may kind image) tt leaves

  module _ (none : fault_in_mode mode key disk.sectors image ≡ None) where
    readable : IsReadable disk.sectors image
    readable = let writes = writes_in mode may in writes.reads key disk.sectors image (writes.opens law key disk.sectors image none)

    pub serving_new : (made : Image) → IsNew (opened_standing (asked_mode mode) key disk.sectors image made)
    serving_new made = opened_is_new (asked_mode mode) key disk.sectors image made readable

    begins : outset ≡ Serves kind image
    begins = ap (judged_outset (Serves kind image)) none

    -- ---- a session came so far

    module _ (made : Content) (told_made : content_now b ≡ Some made) (reads : IsImage made (last_image made))
        (parts : DeviceParts) (asked : mode_of parts.mode ≡ asked_mode mode)
        (device : IsDevice (opened_standing (asked_mode mode) key disk.sectors image (last_image made)) Working parts b)
        (same : IsOfSameBlocks (asked_mode mode) key disk.sectors image (last_image made))
        (left : Option (List ℕ)) (told_left : left ≡ Some stream) where
      abbrev w : Standing
      w = opened_standing (asked_mode mode) key disk.sectors image (last_image made)

      abbrev f : DeviceFormat
      f = kind.format image

      abbrev s : DeviceState
      s = kind.opened image

      module _ (course : Course left) where
        same_stream : course.stream ≡ stream
        same_stream = course.is stream told_left

        abbrev course_session : IsSessionOf f s stream (all_deeds w course)
        course_session = record {
          pieces = course.pieces;
          cut = course.cut ∙ ap (take most_stream) same_stream;
          small = course.small;
          is = ap (λ (bytes : List ℕ). session_deeds f s (requests_of bytes).ending course.pieces) same_stream;
        }

      module _ (end : SessionEnd) (after : List Content) (held_before held : Option (List ℕ))
          (came : HasComeTo w left end (record { parts = parts; moments = b; held = held_before }) (record { moments = after; held = held })) where
        abbrev deeds : List Deed
        deeds = all_deeds w came.course

        abbrev run : ScriptRun
        run = record { steps = record { text = text_in deeds; changes = changes_by f s deeds } ∷ []; ending = endings.Complete false }

        is_run : IsSessionRun f s stream run
        is_run = record {
          deeds = deeds;
          is_session = course_session came.course;
          prints = append-nil (text_in deeds);
          does = append-nil (changes_by f s deeds);
        }

        all_changes : changes_in run.steps ≡ changes_by f s deeds
        all_changes = append-nil (changes_by f s deeds)

        since : EachMoment b after (IsLeftWithin (kind_of w) w.entry w.state.history (changes_in run.steps))
        since = subst (λ (l : List Change). EachMoment b after (IsLeftWithin (kind_of w) w.entry w.state.history l)) (sym all_changes) came.since

        others : Leaves w (changes_in run.steps) b after
        others = subst (λ (l : List Change). Leaves w l b after) (sym all_changes) came.others

        -- Each moment is one of the command, in its order,
        pub session_moments : HasMomentsAt (Tasks.Serve mode) key disk.sectors start stream a after
        session_moments = record {
          each = moments_behind law mode key disk now a b start told stream (Serves kind image) (sort_of_serving mode may kind image) tt leaves none run after is_run
              made told_made reads parts asked device same since others;
          order = still_behind law mode key disk now a b start told stream (Serves kind image) (sort_of_serving mode may kind image) tt leaves none run after is_run
              made told_made reads parts asked device same since others;
        }

        served : HasServedOn kind image stream (session_ending end) after held_before held
        served = record {
          deeds = deeds;
          is_session = course_session came.course;
          text = came.text;
          changes = came.changes;
          ended = end;
          is = refl;
          came = subst (λ (bytes : List ℕ). IsEndedBy f s came.course.pieces (requests_of bytes).ending deeds came.text came.changes end)
              (same_stream came.course) came.came;
          told = came.told;
          left = left_behind law mode key disk now a b start told stream (Serves kind image) (sort_of_serving mode may kind image) tt leaves none run after is_run
              made told_made reads parts asked device same since others (writes_in mode may) (inr refl) came.changes came.now;
        }

        -- and it came so far.
        pub session_ran : HasRunIn outset Replies start stream (session_ending end) after held_before held
        session_ran = subst (λ (o : Outset). HasRunIn o Replies start stream (session_ending end) after held_before held) (sym begins) served

      -- What its close leaves.
      pub session_closed : (eio : Bool) (old : Scene) (new : Outside) → HasClosed w left eio old new
          → HasNow (IsClosedAt (Tasks.Serve mode) key disk.sectors start stream) new.moments
      session_closed eio old new closed c at =
          let own = closed.course in
          let here = behind w (deeds_over w own.pieces) in
          record {
            deeds = all_deeds w own;
            is_session = course_session own;
            closed = subst (λ (x : DeviceState). IsClosedIn f.mode w.on f.blocks.tag x c) (sym (served_state w (serving_new (last_image made)) own))
                (closed_here here closed.served.parts.common closed.between new.moments closed.served.parts.mode closed.served.done.run.device closed.rests c at);
          }

      -- How much of the stream is read.
      pub session_read : (later : Option (List ℕ)) {failed : Type 0} (held_before held : Option (List ℕ)) → HasReadPieces w left later failed held_before held
          → HasReadIn outset stream later held_before held failed
      session_read later {failed} held_before held read =
          subst (λ (o : Outset). HasReadIn o stream later held_before held failed) (sym begins)
          (by later read.read)
        where
          by : (then_ : Option (List ℕ)) → left ≡ option_map (λ rest. joined read.pieces ++ rest) then_ → HasReadStream kind image stream then_ held_before held failed
          by None is = absurd (none-some stream (sym is ∙ told_left))
          by (Some rest) is = record {
            pieces = read.pieces;
            small = read.small;
            behind = rest;
            bytes = same_Some stream (joined read.pieces ++ rest) (sym told_left ∙ is);
            taken = refl;
            done = read.done;
            but_one = read.but_one;
            printed = record { more = read.more; is = read.told };
            unended = read.unended;
            asked = read.asked;
          }

-- The end of a session is that of the command.
pub session_end : (served : Result sessions.Ended SessionFault) (ended : Result TagsFound Ended) → ended ≡ ended_by_session served
    → session_ending (end_of served) ≡ ending_by ended
session_end served ended is = sym (ap ending_by is ∙ session_ends served)
