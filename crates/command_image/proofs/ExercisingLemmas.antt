-- An exercise on a device with the close behind it; the same on a new image; and all of it behind the making.
use Rattle.std.proofs.Common.{◌≡◌, ◌≢◌, ◌⊎◌, ◌↔◌, inl, inr, ℕ, ◌<◌, Bool, false, List, [], ◌∷◌, ◌++◌, codes, length, length-append, length-take, take, append-nil, arith, refl, sym, ◌∙◌, ap, subst, Option, Some, None, Result, Ok, Err, IfErr, OnOk}
use Rattle.std.proofs.lemmas.Bool.{true≢false}
use Rattle.std.proofs.lemmas.List.{take_all}
use Rattle.std.proofs.lemmas.List.Sums.{fold-append}
use Rattle.std.proofs.lemmas.Option.{none-some}
use Rattle.disk_model.specs.Disk.{Content, Image, EachImage, OnlyAdds, last_image}
use Rattle.disk_model.specs.Identity.{DiskIdentity}
use Rattle.disk_model.specs.Moments.{content_now, EachMoment, HasNow}
use Rattle.disk_model.proofs.DiskLemmas.{OnlyAdds-none}
use Rattle.disk_model.proofs.MomentsLemmas.{EachMoment-kept, EachMoment-then, EachMoment-weaker, content_at_end, no_moment}
use Rattle.device_model.specs.Device.{DeviceKind, IsLeftWithin}
use Rattle.device_model.specs.Refusals.{ByGeometry}
use Rattle.run_model.specs.Ending.{Ending, Complete, Refused, Failed, NoMemory, ByImage}
use Rattle.device_model.specs.History.{Change, History, with_change, with_changes}
use Rattle.device_model.specs.Mode as Modes
use Rattle.device_model.specs.Progress as Model
use Rattle.device_model.specs.Progress.{DeviceState, Event, Close, FailedClose, changes_of, event_result}
use Rattle.device_model.specs.Script.{ScriptLine, after_script}
use Rattle.run_model.specs.ScriptRun.{ScriptRun, ScriptStep, changes_in, only_ends, texts_of}
use Rattle.device_model.proofs.ScriptLemmas.{history-after}
use Rattle.image_model.specs.declared.flags.TheConstants.{DIRTY_BITMAP}
use Rattle.image_model.specs.Geometry.{Geometry}
use Rattle.image_model.specs.Superblock.{Superblock, has_flag}
use Rattle.image_model.specs.declared.geom_fault.GeomFault.{GeomFault}
use Rattle.place_model.specs.Changed.{changes_mode, judged_image}
use Rattle.place_model.specs.Format.{DiskFormat, format_on}
use Rattle.place_model.specs.Kind.{kind_in}
use Rattle.place_model.proofs.KindLemmas.{judged_image-same, opened_format-same}
use Rattle.direct_laws.specs.MomentLaws.{IsLeftNow}
use Rattle.formatting_model.specs.Formatted.{HasMade, IsNewContent, format_with, rule_with}
use Rattle.formatting_model.specs.FormattedLaws.{NewOpensLaw}
use Rattle.formatting_model.specs.NewImage.{IsNewImage, provided_of}
use Rattle.image_refusal.specs.declared.call_fault.CallFault.{CallFault}
use Rattle.image_refusal.specs.declared.call_fault.CallFault.TheVariants as CallFaults
use Rattle.image_refusal.specs.declared.open_fault.OpenFault.{OpenFault}
use Rattle.judging_model.specs.declared.consent.Consent.TheVariants.{Withheld}
use Rattle.judging_model.specs.FaultLaws.{OpensLaw}
use Rattle.judging_model.specs.Faults.{fault_in, image_fault}
use Rattle.device_opening.proofs.MomentsLemmas.{each_from, now_told, EachMoment-both}
use Rattle.run_laws.proofs.ScriptRunLemmas.{came_into, run_is_whole}
use Rattle.place_model.specs.Awaiting.{fields_of}
use Rattle.device.specs.declared.mode.DeviceParts.{DeviceParts}
use Rattle.device.specs.declared.opening.OpenMode.TheVariants as OpenModes
use Rattle.device_parts.specs.Device.{HasEnded, Standing, opened_standing}
use Rattle.device.specs.Device.{any_mode, kind_of}
use Rattle.device.specs.Opening.{IsRefused, LeavesOpening}
use Rattle.device.specs.Run.{HasRun, standing_behind}
use Rattle.device.specs.Tags.{Leaves}
use Rattle.place_model.specs.RunWrites.{IsOfRun}
use Rattle.device.proofs.RunLemmas.{left-behind, left-wider}
use Rattle.device.proofs.TagsLemmas.{leaves_left, leaves_then}
use Rattle.device_exercise.specs.Exercising.{exercise_events}
use Rattle.device_exercise.specs.InOrder.{IsExerciseBegun, IsExerciseMade, changes_by_exercise}
use Rattle.workload_model.specs.InOrder.{AreLinesBegun, history_behind}
use Rattle.device_exercise.proofs.InOrderLemmas.{history_behind-lines, line_begun, lines_begun_then, lines_begun_wider, lines_made_begun}
use Rattle.script_session.specs.declared.stop.Stop.{Stop}
use Rattle.script_session.specs.declared.stop.Stop.TheVariants as Stops
use Rattle.script_text.specs.declared.tags_found.TagsFound.{TagsFound}
use Rattle.stream_io.specs.Stream.{held_with}
use Rattle.command_ending.specs.Ended.{ending_of}
use Rattle.command_ending.specs.declared.ended.Ended.{Ended}
use Rattle.command_ending.specs.declared.ended.Ended.TheVariants as Endings
use Rattle.run_model.specs.CommandRun.{Exercising, Exercises, IsEndedBy, IsEndedShort, IsExerciseOf, IsFromOutside, IsAtExit, IsOfExercise, IsOfScriptRun, IsUnmade, Outset}
use Rattle.workload_model.specs.Exercise.{Tally, exercise_lines, exercise_tally, exercise_text, finds_faults}
use Rattle.run_model.specs.ExerciseRun.{exercise_step}
use Rattle.workload_model.proofs.ExerciseLemmas.{after_events-script, changes_of-script}
use Rattle.command_task.specs.declared.asked.Task.TheVariants.{Exercise}
use Rattle.command_image.specs.Exercised.{HasCounted, HasJournalToOpen, IsCountTold, IsExercised, IsExercisedOn, IsExercisedTo, IsMomentOfNew, IsTallyTold, ended_count, exercise_changes, new_run, new_standing}
use Rattle.command_model.specs.Closed.{IsClosedIn, IsClosedNew}
use Rattle.command_model.specs.Exercising.{IsExercisedByLine, IsExercisedInOrder, changes_by_step, exercise_image, exercise_outset, exercising_of, outset_by_exercise}
use Rattle.command_task.specs.Making.{ended_by_format}
use Rattle.command_model.specs.Making.{IsLeftByMaking, IsMadeInOrder}
use Rattle.command_task.specs.Opening.{HasRunOn}
use Rattle.command_model.specs.Opening.{IsMomentOf, IsOpenedTo, IsWrittenByRun}
use Rattle.command_task.specs.Order.{HasMomentsAt}
use Rattle.command_model.specs.Outset.{geometry_on}
use Rattle.command_task.specs.Refusing.{ended_by_opening}
use Rattle.command_task.specs.Running.{ending_by}
use Rattle.command_task.proofs.DeviceLemmas.{failed_close, since_event}
use Rattle.command_task.proofs.EndedLemmas.{ok_no_err}
use Rattle.command_image.proofs.MakingLemmas.{left_since}
use Rattle.command_task.proofs.JudgedLemmas.{fields_on, tags_opened}
use Rattle.command_task.proofs.WritingLemmas.{written_in}
use Rattle.command_task.proofs.RunningLemmas.{now_of, told_nothing, told_at_end}
use Rattle.command_task.proofs.OutsetLemmas.{fine_exercise, left_at_start}
use Rattle.command_task.proofs.UnbegunLemmas.{before_kept, nothing_run, refused_run, untouched_kept}
use Rattle.run_model.specs.declared.outer.Outer.TheVariants as outers

-- ---- on a device

module _ (w : Standing) (count seed : ℕ) where
  abbrev lines : List ScriptLine
  lines = exercise_lines count seed w.format.blocks.blocks

  abbrev events : List Event
  events = exercise_events w seed count

  -- The device behind its requests, what they do, and what the close does there.
  abbrev pub there : Standing
  there = standing_behind w events

  abbrev first : List Change
  first = changes_of w.format w.state events

  abbrev pub last : List Change
  last = (event_result w.format there.state Close).changes

  abbrev all : List Change
  all = exercise_changes w count seed

  abbrev Within : List Change → Content → Type 0
  Within changes c = IsLeftWithin (kind_of w) w.entry w.state.history changes c

  all_is : all ≡ first ++ last
  all_is =
      ap (λ (done : List Change). done ++ (event_result w.format (after_script w.format w.state lines) Close).changes)
      (sym (changes_of-script w.format w.state lines))
      ∙ ap (λ (s : DeviceState). first ++ (event_result w.format s Close).changes)
      (sym (after_events-script w.format w.state lines))

  history : there.state.history ≡ with_changes first w.state.history
  history = history-after w.format w.state events

  -- What is left within the first of it is so within all,
  pub within_first : (c : Content) → Within first c → Within all c
  within_first c left =
      subst (λ (l : List Change). Within l c) (sym all_is)
      (left-wider (kind_of w) w.entry w.state.history first last c left)

  -- and so is what is left within the close.
  within_last : (c : Content) → IsLeftWithin (kind_of w) w.entry there.state.history last c → Within all c
  within_last c left =
      subst (λ (l : List Change). Within l c) (sym all_is)
      (left-behind (kind_of w) w.entry w.state.history first last c
      (subst (λ (h : History). IsLeftWithin (kind_of w) w.entry h last c) history left))

  pub others_first : {a b : List Content} → Leaves w first a b → Leaves w all a b
  others_first {a} {b} others =
      subst (λ (l : List Change). Leaves w l a b) (sym all_is) (leaves_left w first last others)

  -- Its lines, and the close behind them.
  abbrev pub Begun : List Content → List Content → Type 0
  Begun a b = AreLinesBegun (kind_of w) w.entry w.state.history (changes_by_step w.format w.state count seed) a b

  -- It is cut off in a line,
  pub begun_first : (a b : List Content) → IsExerciseBegun w seed count a b → Begun a b
  begun_first a b begun =
      lines_begun_wider (kind_of w) w.entry w.state.history (changes_by_exercise w seed count)
      ((event_result w.format (after_script w.format w.state lines) Close).changes ∷ []) a b begun

  -- or all lines are made, and the close is begun.
  begun_last : (a m b : List Content) → IsExerciseMade w seed count a m
      → EachMoment m b (IsLeftWithin (kind_of w) w.entry there.state.history last) → Begun a b
  begun_last a m b made since =
      let h = w.state.history in
      let done = changes_by_exercise w seed count in
      let after = after_script w.format w.state lines in
      let closing = (event_result w.format after Close).changes in
      let told : EachMoment m b (IsLeftWithin (kind_of w) w.entry after.history closing) =
      subst (λ (s : DeviceState). EachMoment m b (IsLeftWithin (kind_of w) w.entry s.history (event_result w.format s Close).changes))
      (after_events-script w.format w.state lines) since in
      lines_begun_then (kind_of w) w.entry h done (closing ∷ []) a m b made
      (line_begun (kind_of w) w.entry (history_behind done h) closing m b
      (subst (λ (x : History). EachMoment m b (IsLeftWithin (kind_of w) w.entry x closing))
      (sym (history_behind-lines w.format w.state lines)) told))

  -- It was stopped somewhere.
  pub exercise_stopped : (stop : Stop) (a b : List Content) → EachMoment a b (Within all) → Begun a b
      → Leaves w all a b → HasNow (Within all) b
      → IsExercised w count seed (Err stop) a b
  exercise_stopped stop a b since begun others cut = by (content_now b) refl
    where
      by : (now : Option Content) → content_now b ≡ now → IsExercised w count seed (Err stop) a b
      by None none = record {
        changes = take 0 all;
        is_counted = (0, refl);
        since = since;
        in_order = begun;
        others = others;
        now = record {
          opens = λ c told. absurd (none-some c (sym none ∙ told));
          left = λ c told. absurd (none-some c (sym none ∙ told));
        };
        closed = tt;
      }
      by (Some later) told =
          let left = cut later told in
          record {
            changes = take left.made all;
            is_counted = (left.made, refl);
            since = since;
            in_order = begun;
            others = others;
            now = record { opens = now_of _ b later told left.opens; left = now_of _ b later told left.left };
            closed = tt;
          }

  module _ (parts : DeviceParts) (a m b : List Content) (run : HasRun w events parts a m)
      (made : IsExerciseMade w seed count a m) (others : Leaves there last m b) where
    others_all : Leaves w all a b
    others_all =
        subst (λ (l : List Change). Leaves w l a b) (sym all_is)
        (leaves_then w there.state first last history run.others others)

    -- Its requests are done and the device is closed,
    pub exercise_closed : (tally : Tally) → tally ≡ exercise_tally w.format w.state count seed
        → HasEnded any_mode there Close Model.IsClosed m b
        → HasNow (IsClosedIn there.format.mode there.on there.format.blocks.tag there.state) b → IsExercised w count seed (Ok tally) a b
    exercise_closed tally counted ended rests = record {
      changes = all;
      is_counted = (counted, refl);
      since = EachMoment-then (EachMoment-weaker within_first run.since)
          (EachMoment-weaker within_last
          (since_event (kind_of w) w.entry w.format there.state Close m b ended.through));
      in_order = begun_last a m b made (since_event (kind_of w) w.entry w.format there.state Close m b ended.through);
      others = others_all;
      now = subst (λ (h : History). IsLeftNow (kind_of w) w.entry h b)
          (ap (with_changes last) history ∙ sym (fold-append with_change w.state.history first last)
          ∙ ap (λ (l : List Change). with_changes l w.state.history) (sym all_is))
          ended.left;
      closed = subst (λ (s : DeviceState). HasNow (IsClosedIn w.format.mode w.on w.format.blocks.tag s) b)
          (after_events-script w.format w.state lines) rests;
    }

    -- or the disk failed in that.
    pub exercise_unclosed : (stop : Stop) → HasEnded any_mode there FailedClose Model.DiskFailed m b
        → IsExercised w count seed (Err stop) a b
    exercise_unclosed stop ended =
        exercise_stopped stop a b
        (EachMoment-then (EachMoment-weaker within_first run.since)
        (EachMoment-weaker (λ c left. within_last c (none_made c left))
        (since_event (kind_of w) w.entry w.format there.state FailedClose m b ended.through)))
        (begun_last a m b made (EachMoment-weaker none_made
        (since_event (kind_of w) w.entry w.format there.state FailedClose m b ended.through)))
        others_all
        (λ c told. within_last c (record {
          made = 0;
          opens = ended.left.opens c told;
          left = subst (λ (l : List Change). EachImage ((kind_of w).MayBeLeft w.entry (with_changes l there.state.history)) c)
              (failed_close w.format there.state) (ended.left.left c told);
        }))
      where
        none_made : (c : Content)
            → IsLeftWithin (kind_of w) w.entry there.state.history (event_result w.format there.state FailedClose).changes c
            → IsLeftWithin (kind_of w) w.entry there.state.history last c
        none_made c left =
            left-wider (kind_of w) w.entry there.state.history [] last c
            (subst (λ (l : List Change). IsLeftWithin (kind_of w) w.entry there.state.history l c)
            (failed_close w.format there.state) left)

-- ---- its run

module _ (sectors count seed : ℕ) (made : Content) where
  abbrev w_new : Standing
  w_new = new_standing sectors made

  abbrev new_step : ScriptStep
  new_step = exercise_step w_new.format w_new.state count seed

  abbrev new_ending : ScriptRun
  new_ending = only_ends (Complete (finds_faults (exercise_tally w_new.format w_new.state count seed)))

  pub changes_run : changes_in (new_run sectors count seed made).steps ≡ exercise_changes w_new count seed
  changes_run = (run_is_whole new_step new_ending).1 ∙ append-nil new_step.changes

  texts_run : texts_of (new_run sectors count seed made).steps ≡ new_step.text
  texts_run = (run_is_whole new_step new_ending).0 ∙ append-nil new_step.text

  step_prints : 0 < length new_step.text
  step_prints =
      let t = exercise_tally w_new.format w_new.state count seed in
      omega (arith, length-append (codes "fills ") (take (length new_step.text) new_step.text))

  -- Something outside ended it before its line.
  unprinted : (made_first : ℕ) (ending : Ending) → IsFromOutside ending
      → IsEndedShort (new_run sectors count seed made) [] (take made_first (exercise_changes w_new count seed)) ending
  unprinted made_first ending outside = record {
    came = (came_into new_step new_ending).changes made_first (λ none. absurd (omega (arith, ap length none, step_prints)));
    whole_steps = λ other. (0, refl);
    short = λ complete. omega (arith, ap length texts_run, step_prints);
    outside = outside;
  }

  -- The sink failed at its line.
  half_printed : (printed : ℕ) → printed < length new_step.text
      → IsEndedShort (new_run sectors count seed made) (take printed new_step.text) (exercise_changes w_new count seed) (Failed outers.Sink)
  half_printed printed less = record {
    came = (came_into new_step new_ending).text printed less;
    whole_steps = λ other. absurd (other refl);
    short = λ complete. omega (arith, ap length texts_run, length-take printed new_step.text, less);
    outside = tt;
  }

-- ---- behind an opening

module _ (law : OpensLaw) (disk now : DiskIdentity) (count seed : ℕ) (a b : List Content) (made : Content)
    (told : content_now a ≡ Some made) (can : HasJournalToOpen disk.sectors (last_image made))
    (leaves : LeavesOpening (OpenModes.Journal Withheld) None disk now a b) where
  abbrev image : Image
  image = last_image made

  abbrev kind : DeviceKind
  kind = kind_in Modes.Journal None disk.sectors

  abbrev g : Geometry
  g = geometry_on disk.sectors image

  abbrev run : ScriptRun
  run = new_run disk.sectors count seed made

  fields : (format_on None disk.sectors image).superblock ≡ fields_of image
  fields = fields_on None disk.sectors image can.0.readable

  opening_each : EachMoment a b (IsMomentOfNew disk.sectors count seed made)
  opening_each =
      let left = leaves.left (now_of _ a made told can.0) in
      EachMoment-weaker
      (λ c both. record {
        done = 0;
        left = inr (record { opens = both.0.0; left = both.0.1 });
        written = record {
          opened = c;
          opening = inr both.1;
          behind = OnlyAdds-none (IsOfRun Modes.Journal g image (changes_in run.steps)) c;
          tags = tags_opened None disk.sectors g run made c Modes.Journal both.1;
        };
        opens = both.0.0;
      })
      (EachMoment-both
      (EachMoment-both (each_from _ made told left.opens) (each_from _ made told left.left))
      (written_in (OpenModes.Journal Withheld) None disk.sectors made fields told leaves.writes))

  -- What stands once it is open is told.
  pub opened_new : (c : Content) × (content_now b ≡ Some c)
  opened_new = now_told opening_each made told

  opening_left : EachMoment a b (IsOfScriptRun kind image made [])
  opening_left =
      let left = leaves.left (now_of _ a made told can.0) in
      EachMoment-weaker (λ c both. inr (record { opens = both.0; left = both.1 }))
      (EachMoment-both (each_from _ made told left.opens) (each_from _ made told left.left))

  left_opening : HasNow (IsOfScriptRun kind image made []) b
  left_opening = content_at_end opening_left (now_of _ a made told (inl (refl, inl refl)))

  -- No line is begun yet.
  none_begun : AreLinesBegun kind image (new_standing disk.sectors made).state.history
      (changes_by_step (new_standing disk.sectors made).format (new_standing disk.sectors made).state count seed) b b
  none_begun =
      let w = new_standing disk.sectors made in
      lines_made_begun kind image w.state.history [] (changes_by_step w.format w.state count seed) b b refl

  refused_as : (ended : Ended) → (ended ≡ Endings.Failed outers.Disk) ⊎ (ended ≡ Endings.Memory)
      → IsExercisedOn disk.sectors count seed made (Err ended) a b
  refused_as ended early = record {
    changes = [];
    is_counted = (0, refl);
    ends = early;
    each = opening_each;
    opened = b;
    opening = opening_left;
    in_order = none_begun;
    now = left_opening;
    closed = tt;
  }

  no_fault : (fault : CallFault OpenFault) → IsRefused (OpenModes.Journal Withheld) None disk a b fault → fault ≢ CallFaults.Disk
      → fault ≢ CallFaults.Memory → fault_in {T = DeviceParts} (Err fault) ≡ None
  no_fault fault refused not_disk not_memory =
      refused.told not_disk not_memory made told ∙ (law None Withheld disk.sectors image).1 (can.0, refl)

  -- A new image is not refused: the disk failed, or there was no memory.
  pub not_opened : (fault : CallFault OpenFault) → IsRefused (OpenModes.Journal Withheld) None disk a b fault
      → IsExercisedOn disk.sectors count seed made (Err (ended_by_opening fault)) a b
  not_opened CallFaults.Memory refused = refused_as Endings.Memory (inr refl)
  not_opened CallFaults.Disk refused = refused_as (Endings.Failed outers.Disk) (inl refl)
  not_opened (CallFaults.Refused cause) refused =
      let none = no_fault (CallFaults.Refused cause) refused (λ is. absurd (cc)) (λ is. absurd (cc)) in absurd (none-some (image_fault cause) (sym none))

  -- It has a journal: the opening leaves its mode.
  stays : changes_mode Modes.Journal (fields_of image) ≡ false
  stays = ap (λ (s : Superblock). has_flag DIRTY_BITMAP s.flags) (sym fields) ∙ can.1

  -- The device that is open on it, by a disk's format and the image by which it is judged.
  abbrev standing_by : DiskFormat → Image → Standing
  standing_by on entry = record { format = kind.format image; state = kind.opened image; on = on; entry = entry }

  -- These are its own, whichever image the opening made.
  stands : (opened : Image) → opened_standing Modes.Journal None disk.sectors image opened ≡ standing_by (format_on None disk.sectors image) image
  stands opened =
      let d = format_on None disk.sectors image in
      ap (λ (on : DiskFormat). standing_by on (judged_image Modes.Journal d image opened)) (opened_format-same Modes.Journal d can.1)
      ∙ ap (standing_by d) (judged_image-same Modes.Journal d can.1 image opened)

  module _ (counted : Result Tally Stop) (c : List Content) (opened_image : Image)
      (exercised_there : IsExercised (opened_standing Modes.Journal None disk.sectors image opened_image) count seed counted b c) where
    exercised : IsExercised (standing_by (format_on None disk.sectors image) image) count seed counted b c
    exercised = subst (λ (w : Standing). IsExercised w count seed counted b c) (stands opened_image) exercised_there

    through : EachMoment b c (λ x. IsLeftWithin kind image (new_standing disk.sectors made).state.history
        (exercise_changes (new_standing disk.sectors made) count seed) x × IsWrittenByRun kind image g run made x)
    through = EachMoment-both exercised.since (writes_behind (content_now b) refl)
      where
        opened_to : HasNow (IsOpenedTo Modes.Journal g made) b
        opened_to =
            content_at_end
            (EachMoment-weaker (λ x of. inr of) (written_in (OpenModes.Journal Withheld) None disk.sectors made fields told leaves.writes))
            (now_of (IsOpenedTo Modes.Journal g made) a made told (inl refl))

        writes_behind : (opened : Option Content) → content_now b ≡ opened
            → EachMoment b c (IsWrittenByRun kind image g run made)
        writes_behind None none = EachMoment-weaker (λ x from. absurd (rw none at from)) exercised.others.sectors
        writes_behind (Some opened) is =
            EachMoment-weaker
            (λ x both. record {
              opened = opened;
              opening = opened_to opened is;
              behind = subst (λ (l : List Change). OnlyAdds (IsOfRun Modes.Journal g image l) opened x)
                  (sym (changes_run disk.sectors count seed made)) both.0;
              tags = inr (inr (record { found = λ none. both.1; made = λ changed. absurd (true≢false (sym changed ∙ stays)) }));
            })
            (EachMoment-both (each_from _ opened is exercised.others.sectors) exercised.others.tags)

    -- The device is open, and its exercise came so far.
    pub exercised_on : IsExercisedOn disk.sectors count seed made (ended_count counted) a c
    exercised_on = record {
      changes = exercised.changes;
      is_counted = counted_same counted exercised.is_counted;
      ends = ends_same counted;
      each = EachMoment-then opening_each
          (EachMoment-weaker (λ x both. record {
            done = both.0.made;
            left = inr (record { opens = both.0.opens; left = both.0.left });
            written = both.1;
            opens = both.0.opens;
          }) through);
      opened = b;
      opening = opening_left;
      in_order = exercised.in_order;
      now = λ x told_x. inr (record { opens = exercised.now.opens x told_x; left = exercised.now.left x told_x });
      closed = closed_same _ counted exercised.closed;
    }
      where
        closed_same : (P : Type 0) (r : Result Tally Stop) → OnOk r P → OnOk (ended_count r) P
        closed_same P (Ok tally) closed = closed
        closed_same P (Err Stops.Disk) closed = tt
        closed_same P (Err Stops.Memory) closed = tt

        counted_same : (r : Result Tally Stop)
            → HasCounted (new_standing disk.sectors made) count seed r exercised.changes
            → HasCounted (new_standing disk.sectors made) count seed (ended_count r) exercised.changes
        counted_same (Ok tally) is = is
        counted_same (Err Stops.Disk) is = is
        counted_same (Err Stops.Memory) is = is

        ends_same : (r : Result Tally Stop) → IfErr (ended_count r) (λ e. (e ≡ Endings.Failed outers.Disk) ⊎ (e ≡ Endings.Memory))
        ends_same (Ok tally) = tt
        ends_same (Err Stops.Disk) = inl refl
        ends_same (Err Stops.Memory) = inr refl

-- What was exercised is told, and the disk is the one that was given back.
pub exercised_to : (sectors count seed : ℕ) (made : Content) (counted : Result Tally Ended) (result : Result TagsFound Ended)
    (a b : List Content) (held_before held : Option (List ℕ)) {after : List Content}
    → IsExercisedOn sectors count seed made counted a b → after ≡ b → IsCountTold counted held_before held result
    → IsExercisedTo sectors count seed made result a after held_before held
exercised_to sectors count seed made counted result a b held_before held exercised same told = record {
  counted = counted;
  exercised = subst (IsExercisedOn sectors count seed made counted a) (sym same) exercised;
  told = told;
}

-- ---- behind the making

module _ (sectors count seed : ℕ) (start : Content) (script : List ℕ) where
  abbrev outset : Outset
  outset = exercise_outset sectors count seed

  exercises : (provided : ℕ) → provided_of exercise_image sectors ≡ Ok provided
      → outset ≡ Exercises (exercising_of sectors provided count seed)
  exercises provided is = ap (outset_by_exercise sectors count seed) is

  -- A moment of the making.
  amid_making : (provided : ℕ) → provided_of exercise_image sectors ≡ Ok provided → (c : Content)
      → IsLeftByMaking None sectors exercise_image start c
      → IsMomentOf outset (geometry_on sectors (last_image start)) start script c
  amid_making provided is c left =
      let unmade : IsUnmade (only_ends NoMemory) = record { ending = NoMemory; outside = tt; is = refl } in
      subst (λ (o : Outset). IsMomentOf o (geometry_on sectors (last_image start)) start script c)
      (sym (exercises provided is))
      (record {
        left = record { run = only_ends NoMemory; is_run = inr unmade; made = 0; left = inl (refl, left) };
        only = record { run = only_ends NoMemory; is_run = inr unmade; only = inl left };
      })

  module _ {a m : List Content} (told : content_now a ≡ Some start)
      (order : IsMadeInOrder None sectors exercise_image a m) where
    making_each : (provided : ℕ) → provided_of exercise_image sectors ≡ Ok provided
        → EachMoment a m (IsMomentOf outset (geometry_on sectors (last_image start)) start script)
    making_each provided is =
        EachMoment-weaker (amid_making provided is)
        (left_since None sectors exercise_image start told order)

    -- ---- the image is not made

    -- The moments of what is not made.
    pub unmade_moments : EachMoment a m (IsMomentOf outset (geometry_on sectors (last_image start)) start script)
        → HasMomentsAt (Exercise seed count) None sectors start script a m
    unmade_moments each = record { each = each; order = unmade_order }
      where
        unmade_order : IsExercisedInOrder sectors count seed a m
        unmade_order = record { made = m; making = order; behind = no_moment m _; by_line = λ from told_from. inl refl }

    pub not_made_for : (fault : CallFault GeomFault) (held : Option (List ℕ))
        → ((f : GeomFault) → (fault ≡ CallFaults.Refused f) ↔ (provided_of exercise_image sectors ≡ Err f))
        → (fault ≢ CallFaults.Disk → m ≡ a)
        → HasRunOn outset start script (ending_of (ended_by_format fault)) m held held
        × EachMoment a m (IsMomentOf outset (geometry_on sectors (last_image start)) start script)
    not_made_for (CallFaults.Refused f) held geom untouched =
        let same : m ≡ a = untouched (λ is. absurd (cc)) in (
          refused_run outset start script (Refused (ByImage (ByGeometry f)))
              (ap (outset_by_exercise sectors count seed) ((geom f).0 refl)) m (untouched_kept start told same) held held refl,
          EachMoment-kept _ same,
        )
    not_made_for CallFaults.Memory held geom untouched =
        let same : m ≡ a = untouched (λ is. absurd (cc)) in (
          nothing_run outset (fine_exercise sectors count seed) start script NoMemory tt m
              (before_kept outset start told same) held held refl,
          EachMoment-kept _ same,
        )
    not_made_for CallFaults.Disk held geom untouched = by (provided_of exercise_image sectors) refl
      where
        by : (answer : Result ℕ GeomFault) → provided_of exercise_image sectors ≡ answer
            → HasRunOn outset start script (Failed outers.Disk) m held held
            × EachMoment a m (IsMomentOf outset (geometry_on sectors (last_image start)) start script)
        by (Ok provided) is = (
          subst (λ (o : Outset). HasRunOn o start script (Failed outers.Disk) m held held) (sym (exercises provided is)) (record {
            run = only_ends (Failed outers.Disk);
            is_run = inr (record { ending = Failed outers.Disk; outside = tt; is = refl });
            text = [];
            changes = [];
            ended = inl (record { whole = record { is_text = refl; is_changes = refl }; is = refl });
            told = told_nothing held;
            left = content_at_end
                (EachMoment-weaker (λ c left. inl (refl, left))
                (left_since None sectors exercise_image start told order))
                (now_of _ a start told (inl (refl, left_at_start None sectors exercise_image start)));
          }),
          making_each provided is,
        )
        by (Err f) is = absurd (no_geom ((geom f).1 is))
          where
            no_geom : CallFaults.Disk ≡ CallFaults.Refused f → ⊥
            no_geom same = cc

    -- ---- it is made

    module _ (provided : ℕ) (all : HasMade None sectors exercise_image provided a m) (made : Content)
        (told_made : content_now m ≡ Some made) where
      abbrev e : Exercising
      e = exercising_of sectors provided count seed

      is_made : e.IsMade start made
      is_made = all.is_written start told made told_made

      abbrev own_run : ScriptRun
      own_run = new_run sectors count seed made

      module _ (counted : Result Tally Ended) (b : List Content)
          (exercised : IsExercisedOn sectors count seed made counted m b) where
        -- Its moments are those of the command.
        pub exercise_moments : HasMomentsAt (Exercise seed count) None sectors start script a b
        exercise_moments = record {
          each = EachMoment-then (making_each provided all.is_provided)
              (EachMoment-weaker behind exercised.each);
          order = record {
            made = m;
            making = order;
            behind = EachMoment-weaker (λ c moment. moment.opens) exercised.each;
            by_line = now_of (λ (from : Content). (b ≡ m) ⊎ IsExercisedByLine sectors count seed from m b) a start told
                (inr (record {
                  provided = provided;
                  is_provided = all.is_provided;
                  image = made;
                  is_now = told_made;
                  is_made = is_made;
                  opened = exercised.opened;
                  opening = exercised.opening;
                  lines = exercised.in_order;
                }));
          };
        }
          where
            behind : (c : Content) → IsMomentOfNew sectors count seed made c
                → IsMomentOf outset (geometry_on sectors (last_image start)) start script c
            behind c moment =
                let of_new : IsExerciseOf e own_run = record { start = start; made = made; is_made = is_made; is = refl } in
                subst (λ (o : Outset). IsMomentOf o (geometry_on sectors (last_image start)) start script c)
                (sym (exercises provided all.is_provided))
                (record {
                  left = record {
                    run = own_run;
                    is_run = inl of_new;
                    made = moment.done;
                    left = inr (record {
                      made = made;
                      is_made = is_made;
                      left = subst (λ (l : List Change). IsOfScriptRun e.kind (last_image made) made (take moment.done l) c)
                          (sym (changes_run sectors count seed made)) moment.left;
                    });
                  };
                  only = record {
                    run = own_run;
                    is_run = inl of_new;
                    only = inr (record { made = made; is_made = is_made; written = moment.written });
                  };
                })

        -- What the sink holds is a text behind that, and this ended it.
        ran_to : (text : List ℕ) (ending : Ending) (held_before held : Option (List ℕ))
            → IsEndedBy own_run text exercised.changes ending → held ≡ held_with text held_before
            → ((c : Content) → IsOfExercise e start exercised.changes c → IsAtExit (Exercises e) start exercised.changes ending c)
            → HasRunOn outset start script ending b held_before held
        ran_to text ending held_before held ended printed left =
            subst (λ (o : Outset). HasRunOn o start script ending b held_before held)
            (sym (exercises provided all.is_provided)) (record {
              run = own_run;
              is_run = inl (record { start = start; made = made; is_made = is_made; is = refl });
              text = text;
              changes = exercised.changes;
              ended = ended;
              told = printed;
              left = λ c at. left c (record { made = made; is_made = is_made; left = exercised.now c at });
            })

        -- The disk or want of memory ended it.
        pub exercise_ended : (ended : Ended) → counted ≡ Err ended → (held : Option (List ℕ))
            → HasRunOn outset start script (ending_of ended) b held held
        exercise_ended ended is held =
            let some = subst (λ (r : Result Tally Ended). HasCounted (new_standing sectors made) count seed r exercised.changes)
            is exercised.is_counted in
            by some ended (subst (λ (r : Result Tally Ended). IfErr r (λ x. (x ≡ Endings.Failed outers.Disk) ⊎ (x ≡ Endings.Memory))) is exercised.ends)
          where
            cut : (ending : Ending) → IsFromOutside ending
                → ((n : ℕ) × (exercised.changes ≡ take n (exercise_changes (new_standing sectors made) count seed)))
                → IsEndedBy own_run [] exercised.changes ending
            cut ending outside some =
                inr (subst (λ (l : List Change). IsEndedShort own_run [] l ending) (sym some.1)
                (unprinted sectors count seed made some.0 ending outside))

            by : ((n : ℕ) × (exercised.changes ≡ take n (exercise_changes (new_standing sectors made) count seed)))
                → (x : Ended) → (x ≡ Endings.Failed outers.Disk) ⊎ (x ≡ Endings.Memory)
                → HasRunOn outset start script (ending_of x) b held held
            by some x (inl disk) =
                subst (λ (y : Ended). HasRunOn outset start script (ending_of y) b held held) (sym disk)
                (ran_to [] (Failed outers.Disk) held held (cut (Failed outers.Disk) tt some) (told_nothing held) (λ c left. inr left))
            by some x (inr memory) =
                subst (λ (y : Ended). HasRunOn outset start script (ending_of y) b held held) (sym memory)
                (ran_to [] NoMemory held held (cut NoMemory tt some) (told_nothing held) (λ c left. inr left))

        -- It came to its end, and its line is told as far as that came.
        pub exercise_told : (tally : Tally) → counted ≡ Ok tally → (held_before held : Option (List ℕ))
            (result : Result TagsFound Ended) → IsTallyTold tally held_before held result
            → HasRunOn outset start script (ending_by result) b held_before held
        exercise_told tally is held_before held result put = by result put
          where
            full : HasCounted {E = Ended} (new_standing sectors made) count seed (Ok tally) exercised.changes
            full = subst (λ (r : Result Tally Ended). HasCounted (new_standing sectors made) count seed r exercised.changes)
                is exercised.is_counted

            text_is : (new_step sectors count seed made).text ≡ exercise_text tally
            text_is = ap exercise_text (sym full.0)

            whole : IsEndedBy own_run (exercise_text tally) exercised.changes (Complete (finds_faults tally))
            whole = inl (record {
              whole = record {
                is_text = sym text_is ∙ sym (texts_run sectors count seed made);
                is_changes = full.1 ∙ sym (changes_run sectors count seed made);
              };
              is = ap (λ (t : Tally). Complete (finds_faults t)) full.0;
            })

            by : (r : Result TagsFound Ended) → IsTallyTold tally held_before held r
                → HasRunOn outset start script (ending_by r) b held_before held
            by (Ok found) put =
                subst (λ (f : Bool). HasRunOn outset start script (Complete f) b held_before held) (sym put.0)
                (ran_to (exercise_text tally) (Complete (finds_faults tally)) held_before held whole put.1 (λ c left. left))
            by (Err ended) (inl memory) =
                subst (λ (y : Ended). HasRunOn outset start script (ending_of y) b held_before held) (sym memory.0)
                (ran_to [] NoMemory held_before held
                (inr (subst (λ (l : List Change). IsEndedShort own_run [] l NoMemory)
                (take_all (length (exercise_changes (new_standing sectors made) count seed)) _ (omega arith) ∙ sym full.1)
                (unprinted sectors count seed made (length (exercise_changes (new_standing sectors made) count seed)) NoMemory tt)))
                (memory.1 ∙ told_nothing held_before) (λ c left. inr left))
            by (Err ended) (inr sink) =
                subst (λ (y : Ended). HasRunOn outset start script (ending_of y) b held_before held) (sym sink.0)
                (ran_to (take sink.1.count (exercise_text tally)) (Failed outers.Sink) held_before held
                (inr (subst (λ (l : List Change). IsEndedShort own_run (take sink.1.count (exercise_text tally)) l (Failed outers.Sink))
                (sym full.1)
                (subst (λ (t : List ℕ). IsEndedShort own_run (take sink.1.count t) (exercise_changes (new_standing sectors made) count seed) (Failed outers.Sink))
                text_is (half_printed sectors count seed made sink.1.count
                (subst (λ (t : List ℕ). sink.1.count < length t) (sym text_is) sink.1.short)))))
                sink.1.held (λ c left. left))

        -- So it is told, whichever it is.
        pub exercise_ran : (held_before held : Option (List ℕ)) (result : Result TagsFound Ended)
            → IsCountTold counted held_before held result → HasRunOn outset start script (ending_by result) b held_before held
        exercise_ran held_before held result told = by counted refl told
          where
            by : (r : Result Tally Ended) → counted ≡ r → IsCountTold r held_before held result
                → HasRunOn outset start script (ending_by result) b held_before held
            by (Ok tally) is put = exercise_told tally is held_before held result put
            by (Err ended) is same =
                subst (λ (r : Result TagsFound Ended). HasRunOn outset start script (ending_by r) b held_before held) (sym same.0)
                (subst (λ (h : Option (List ℕ)). HasRunOn outset start script (ending_of ended) b held_before h) (sym same.1)
                (exercise_ended ended is held_before))

-- ---- all of it

is_new_image : IsNewImage exercise_image
is_new_image = record {
  tag_size = (omega arith, omega arith);
  log2_spb = omega arith;
  log2_interleave = (omega arith, omega arith);
  sections = omega arith;
}

-- What was made can be opened.
new_can_open : NewOpensLaw → (sectors provided : ℕ) (start made : Content) → provided_of exercise_image sectors ≡ Ok provided
    → IsNewContent exercise_image.wipe (rule_with None exercise_image) (format_with exercise_image provided) start made
    → ((sector : ℕ) → sector < sectors → length (last_image made sector) ≡ 512)
    → HasJournalToOpen sectors (last_image made)
new_can_open law sectors provided start made is_provided new whole =
    let opens = law None sectors exercise_image provided (last_image start) (last_image made)
    (record { ranges = is_new_image; is_provided = is_provided; formatted = new.image_; whole = whole }) refl in
    (opens.0.openable, opens.1.1)

module _ (law : NewOpensLaw) (sectors count seed : ℕ) (start : Content) (script : List ℕ) {a m : List Content}
    (told : content_now a ≡ Some start) (order : IsMadeInOrder None sectors exercise_image a m) (provided : ℕ)
    (all : HasMade None sectors exercise_image provided a m)
    (whole : (c : Content) → content_now m ≡ Some c → (sector : ℕ) → sector < sectors → length (last_image c sector) ≡ 512)
    (result : Result TagsFound Ended) (b : List Content) (held_before held : Option (List ℕ))
    (exercised : (c : Content) → content_now m ≡ Some c → HasJournalToOpen sectors (last_image c)
    → IsExercisedTo sectors count seed c result m b held_before held) where
  -- An image that was made is exercised, and this is told and left.
  pub exercise_whole : HasRunOn (exercise_outset sectors count seed) start script (ending_by result) b held_before held
      × HasMomentsAt (Exercise seed count) None sectors start script a b
      × OnOk result (HasNow (IsClosedNew sectors count seed start) b)
  exercise_whole =
      let at = told_at_end start told (left_since None sectors exercise_image start told order) in
      let can = new_can_open law sectors provided start at.0 all.is_provided (all.is_written start told at.0 at.1) (whole at.0 at.1) in
      let to = exercised at.0 at.1 can in (
        exercise_ran sectors count seed start script told order provided all at.0 at.1 to.counted b to.exercised held_before held result to.told,
        exercise_moments sectors count seed start script told order provided all at.0 at.1 to.counted b to.exercised,
        told_closed result to.counted to.told (λ c here closed. record {
          provided = provided;
          is_provided = all.is_provided;
          made = at.0;
          is_made = all.is_written start told at.0 at.1;
          closed = closed;
        }) to.exercised.closed,
      )
    where
      told_closed : {P Q : Content → Type 0} (r : Result TagsFound Ended) (counted : Result Tally Ended) → IsCountTold counted held_before held r
          → ((c : Content) → content_now b ≡ Some c → P c → Q c) → OnOk counted (HasNow P b) → OnOk r (HasNow Q b)
      told_closed (Err ended) counted put wider closed = tt
      told_closed (Ok found) (Ok tally) put wider closed = λ c here. wider c here (closed c here)
      told_closed (Ok found) (Err ended) put wider closed = absurd (ok_no_err _ found ended refl put.0)

-- What holds of each content that is told holds where all went well.
pub ok_each : {T E : Type 0} (a : List Content) (P : Content → Type 0) (r : Result T E) → ((c : Content) → content_now a ≡ Some c → OnOk r (P c)) → OnOk r (HasNow P a)
ok_each a P (Ok told) each = each
ok_each a P (Err fault) each = tt
