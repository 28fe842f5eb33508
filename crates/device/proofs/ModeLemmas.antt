-- What is told of a device in one mode is told of it as a device of any.
use Rattle.std.proofs.Common.{◌≡◌, ℕ, ◌<◌, List, [], IfOk, OnOk, Option, Result, Ok, Err, refl, sym, ◌∙◌, ap, subst}
use Rattle.disk_model.specs.Disk.{Content, EachImage}
use Rattle.disk_model.specs.Moments.{HasNow}
use Rattle.image_model.specs.Superblock.{Superblock}
use Rattle.device_model.specs.History.{History}
use Rattle.device_model.specs.Mode as Model
use Rattle.device_model.specs.Progress as Progress
use Rattle.device_model.specs.RequestLaws.{IsReached}
use Rattle.direct_laws.specs.MomentLaws.{IsLeftNow, IsLeftThrough}
use Rattle.place_model.specs.Format.{DiskFormat, format_on}
use Rattle.place_model.specs.Kind.{kind_in, placed_kind}
use Rattle.request_slots.specs.Flight.{Flight}
use Rattle.request_slots.specs.InFlight.{IsFlightOf}
use Rattle.recalculation.specs.declared.recalculating.Recalculation.{Recalculation}
use Rattle.place_model.specs.EmptyJournal.{HasEmptyJournal}
use Rattle.device_parts.specs.declared.condition.Condition.{Condition}
use Rattle.device_parts.specs.declared.condition.Condition.TheVariants.{Working}
use Rattle.device_parts.specs.declared.parts.Parts.{Parts}
use Rattle.device_parts.specs.declared.answers.Served.{Served}
use Rattle.device_parts.specs.Answers.{ServesNext, turns_left}
use Rattle.device_parts.specs.Device.{DeviceMode, Does, Ends, HasDone, HasEnded, IsDone, KeepsFlight, Standing, condition_of, standing_after}
use Rattle.direct_device.specs.declared.parts.DirectParts.{DirectParts}
use Rattle.direct_device.specs.Device.{in_direct, kept as direct_kept}
use Rattle.direct_device.proofs.EventLemmas.{quiet_kept_law as direct_quiet_law}
use Rattle.journal_device.specs.Device.{in_journal, kept}
use Rattle.journal_device.proofs.EventLemmas.{quiet_kept_law as journal_quiet_law}
use Rattle.journal_device.specs.declared.parts.JournalParts.{JournalParts}
use Rattle.bitmap_device.specs.declared.parts.BitmapParts.{BitmapParts}
use Rattle.bitmap_device.specs.Device.{in_bitmap, kept as bitmap_kept, kind_on as bitmap_kind}
use Rattle.bitmap_device.proofs.EventLemmas.{quiet_kept_law as bitmap_quiet_law}
use Rattle.recovery_device.specs.Device.{in_recovery}
use Rattle.recovery_device.proofs.EventLemmas.{quiet_law as recovery_quiet_law}
use Rattle.device.specs.declared.mode.DeviceParts.{DeviceParts}
use Rattle.journal_device.specs.declared.parts.JournalState.{JournalState}
use Rattle.device.specs.declared.mode.Mode.{Mode}
use Rattle.device.specs.declared.mode.Mode.TheVariants.{Bitmap, Direct, Journal, Recovery}
use Rattle.place_model.specs.Awaiting.{AwaitsNoMore, fields_of}
use Rattle.device.specs.Device.{IsDevice, IsDeviceIn, IsEmptied, IsInJournalMode, any_mode, kind_by, kind_of, with_slots}
use Rattle.device.proofs.EmptiedLemmas.{StaysEmpty, left_now_empty, left_through_empty, stays_still}

-- ---- answers

-- What follows of what holds of an answer holds of it.
pub if_ok_each : {T E : Type 0} {P Q : T → Type 0} (result : Result T E) → ((x : T) → P x → Q x) → IfOk result P → IfOk result Q
if_ok_each (Ok x) follows holds = follows x holds
if_ok_each (Err fault) follows holds = tt

pub on_ok_each : {T E P Q : Type 0} (result : Result T E) → (P → Q) → OnOk result P → OnOk result Q
on_ok_each (Ok done) follows holds = follows holds
on_ok_each (Err fault) follows holds = tt

-- ---- what is kept

-- What a device in direct mode keeps, as one of any mode,
abbrev pub in_direct_mode : DirectParts → DeviceParts
in_direct_mode device = record { common = device.parts; mode = Direct device.recalculation }

-- one in journal mode,
abbrev pub in_journal_mode : JournalParts → DeviceParts
in_journal_mode device = record { common = device.parts; mode = Journal device.state }

-- one in bitmap mode,
abbrev pub in_bitmap_mode : BitmapParts → DeviceParts
in_bitmap_mode device = record { common = device.parts; mode = Bitmap device.regions }

-- and one in recovery mode.
abbrev pub in_recovery_mode : Parts → DeviceParts
in_recovery_mode common = record { common = common; mode = Recovery }

-- What is kept in a mode is kept so.
pub parts_in : (parts : DeviceParts) {m : Mode} → parts.mode ≡ m → parts ≡ record { common = parts.common; mode = m }
parts_in parts same = ap (λ (m : Mode). let p : DeviceParts = record { common = parts.common; mode = m } in p) same

-- ---- modes

-- A mode whose devices are devices of any where something more is kept between calls, and whose kind of device is that of
-- a mode of `device_model` where a call keeps something of the disk.
pub record IsPlain {Kept : Type 0} (mode : DeviceMode Kept) (named : Model.Mode) (into : Kept → DeviceParts) : Type 1 where
  pub Keeps : Standing → Condition → Kept → List Content → Type 0
  pub Stays : Standing → (before after : List Content) → Type 0
  pub common : (k : Kept) → mode.parts k ≡ (into k).common
  pub inside : (w : Standing) (c : Condition) (k : Kept) (a : List Content) → mode.IsDevice w c k a → Keeps w c k a → IsDevice w c (into k) a
  pub outside : (w : Standing) (c : Condition) (k : Kept) (a : List Content) → IsDevice w c (into k) a → mode.IsDevice w c k a
  pub own : (w : Standing) (c : Condition) (k : Kept) (a : List Content) → mode.IsDevice w c k a → named ≡ w.format.mode
  pub through : (w : Standing) (event : Progress.Event) (a b : List Content) → Stays w a b
      → IsLeftThrough (mode.kind w) w.entry w.format w.state event a b
      → IsLeftThrough (kind_by named w.on.key w.on.sectors) w.entry w.format w.state event a b
  pub now : (w : Standing) (h : History) (a b : List Content) → Stays w a b → IsLeftNow (mode.kind w) w.entry h b
      → IsLeftNow (kind_by named w.on.key w.on.sectors) w.entry h b

-- As long as it works no block more awaits by these fields than by those of the image that was opened.
abbrev pub NoMore : Standing → Condition → Superblock → Type 0
NoMore w condition fields = condition ≡ Working → AwaitsNoMore w.on.geometry (fields_of w.entry) fields

-- In direct mode each journal is and stays empty,
abbrev pub plain_direct : IsPlain in_direct Model.Direct in_direct_mode
plain_direct = record {
  Keeps = λ w c k a. HasNow (EachImage (λ image. HasEmptyJournal (format_on w.on.key w.on.sectors image) image)) a × NoMore w c k.recalculation.position;
  Stays = λ w a b. StaysEmpty w.on a b;
  common = λ k. refl;
  inside = λ w c k a is keeps. record { direct = is; emptied = keeps.0; no_more = keeps.1 };
  outside = λ w c k a is. is.direct;
  own = λ w c k a is. sym (ap (λ (f : Model.DeviceFormat). f.mode) is.over.device.format);
  through = λ w event a b stays left. left_through_empty w.on w.entry w.format w.state event stays left;
  now = λ w h a b stays left. left_now_empty w.on w.entry h b stays.now left;
}

-- and in the other modes nothing is asked of a disk.
abbrev pub plain_journal : IsPlain in_journal Model.Journal in_journal_mode
plain_journal = record {
  Keeps = λ w c k a. NoMore w c k.state.recalculation.position;
  Stays = λ w a b. Unit {0};
  common = λ k. refl;
  inside = λ w c k a is keeps. record { journaled = is; no_more = keeps };
  outside = λ w c k a is. is.journaled;
  own = λ w c k a is. sym (ap (λ (f : Model.DeviceFormat). f.mode) is.over.format);
  through = λ w event a b stays left. left;
  now = λ w h a b stays left. left;
}

abbrev pub plain_bitmap : IsPlain in_bitmap Model.Bitmap in_bitmap_mode
plain_bitmap = record {
  Keeps = λ w c k a. Unit {0};
  Stays = λ w a b. Unit {0};
  common = λ k. refl;
  inside = λ w c k a is keeps. is;
  outside = λ w c k a is. is;
  own = λ w c k a is. sym (ap (λ (f : Model.DeviceFormat). f.mode) is.over.device.format);
  through = λ w event a b stays left. left;
  now = λ w h a b stays left. left;
}

abbrev pub plain_recovery : IsPlain in_recovery Model.Recovery in_recovery_mode
plain_recovery = record {
  Keeps = λ w c k a. Unit {0};
  Stays = λ w a b. Unit {0};
  common = λ k. refl;
  inside = λ w c k a is keeps. is;
  outside = λ w c k a is. is;
  own = λ w c k a is. sym (ap (λ (f : Model.DeviceFormat). f.mode) is.device.format);
  through = λ w event a b stays left. left;
  now = λ w h a b stays left. left;
}

-- The mode of a device, by what is kept of it.
pub own_direct : (w : Standing) (condition : Condition) (common : Parts) (r : Recalculation) (moments : List Content) → IsEmptied w condition (direct_kept common r) moments → Model.Direct ≡ w.format.mode
own_direct w condition common r moments is = plain_direct.own w condition (direct_kept common r) moments is.direct

pub own_journal : (w : Standing) (condition : Condition) (common : Parts) (state : JournalState) (moments : List Content) → IsInJournalMode w condition (kept common state) moments → Model.Journal ≡ w.format.mode
own_journal w condition common state moments is = plain_journal.own w condition (kept common state) moments is.journaled

module _ {Kept : Type 0} (mode : DeviceMode Kept) (named : Model.Mode) (into : Kept → DeviceParts) (plain : IsPlain mode named into) where
  module _ (w : Standing) (condition : Condition) (k : Kept) (moments : List Content) (is : mode.IsDevice w condition k moments) where
    through_plain : (event : Progress.Event) (a b : List Content) → plain.Stays w a b → IsLeftThrough (mode.kind w) w.entry w.format w.state event a b
        → IsLeftThrough (kind_of w) w.entry w.format w.state event a b
    through_plain event a b stays left =
        subst (λ (m : Model.Mode). IsLeftThrough (kind_by m w.on.key w.on.sectors) w.entry w.format w.state event a b)
        (plain.own w condition k moments is) (plain.through w event a b stays left)

    pub now_plain : (h : History) (a b : List Content) → plain.Stays w a b → IsLeftNow (mode.kind w) w.entry h b → IsLeftNow (kind_of w) w.entry h b
    now_plain h a b stays left =
        subst (λ (m : Model.Mode). IsLeftNow (kind_by m w.on.key w.on.sectors) w.entry h b)
        (plain.own w condition k moments is) (plain.now w h a b stays left)

    pub done_plain : (event : Progress.Event) (after : Condition) (later : Kept) (a b : List Content) → plain.Stays w a b → plain.Keeps (standing_after w event) after later b
        → HasDone mode w event after later a b → HasDone any_mode w event after (into later) a b
    done_plain event after later a b stays keeps done = record {
      device = plain.inside (standing_after w event) after later b done.device keeps;
      through = through_plain event a b stays done.through;
    }

    pub ended_plain : (event : Progress.Event) (answer : Progress.Answer) (a b : List Content) → plain.Stays w a b
        → HasEnded mode w event answer a b → HasEnded any_mode w event answer a b
    ended_plain event answer a b stays ended = record {
      answers = ended.answers;
      through = through_plain event a b stays ended.through;
      left = now_plain (Progress.after_event w.format w.state event).history a b stays ended.left;
    }

  -- What is kept is kept of the device, where a call rests.
  pub idle_plain : {T E A : Type 0} (old new : Kept) (P : T → Type 0) (before : DeviceParts) (first last : A) → before ≡ into old → (result : Result T E)
      → IfOk result (λ x. P x → (new ≡ old) × (last ≡ first)) → IfOk result (λ x. P x → (into new ≡ before) × (last ≡ first))
  idle_plain old new P before first last same result idle =
      if_ok_each result (λ x rests own. let all = rests own in (ap into all.0 ∙ sym same, all.1)) idle

  -- A call keeps of the disk what is asked,
  abbrev pub StaysFor : Kept → (before after : List Content) → Type 0
  StaysFor old a b = (w : Standing) → IsDevice w Working (into old) a → plain.Stays w a b

  -- and what is kept between calls, of the device that it leaves.
  abbrev pub KeepsFor : (old new : Kept) → (before after : List Content) → Type 0
  KeepsFor old new a b = (w : Standing) (event : Progress.Event) (c : Condition) → IsDevice w Working (into old) a
      → mode.IsDevice (standing_after w event) c new b → plain.Keeps (standing_after w event) c new b

  -- What a call tells of a device in the mode, it tells of the device.
  module _ (old new : Kept) (a b : List Content) (stays : StaysFor old a b) (keeps : KeepsFor old new a b) where
    done_into : (w : Standing) → IsDevice w Working (into old) a → (event : Progress.Event) (after : Condition) → HasDone mode w event after new a b → HasDone any_mode w event after (into new) a b
    done_into w is event after done = done_plain w Working old a (plain.outside w Working old a is) event after new a b (stays w is) (keeps w event after is done.device) done

    does_into : {T E : Type 0} (event failed : Progress.Event) (answer : T → Progress.Answer) (result : Result T E)
        → Does mode event failed answer old new a b result
        → Does any_mode event failed answer (into old) (into new) a b result
    does_into event failed answer (Ok told) does = record {
      done = λ w is. let done = does.done w (plain.outside w Working old a is) in record {
        answers = done.answers;
        done = done_into w is event Working done.done;
      };
      err = tt;
    }
    does_into event failed answer (Err fault) does = record {
      done = tt;
      err = λ w is. done_into w is failed _ (does.err w (plain.outside w Working old a is));
    }

    pub does_plain : {T E : Type 0} (event failed : Progress.Event) (answer : T → Progress.Answer) (before : DeviceParts)
        → before ≡ into old → (result : Result T E) → Does mode event failed answer old new a b result
        → Does any_mode event failed answer before (into new) a b result
    does_plain event failed answer before same result does =
        subst (λ (p : DeviceParts). Does any_mode event failed answer p (into new) a b result) (sym same)
        (does_into event failed answer result does)

    pub serves_plain : {E : Type 0} (ticket : ℕ) (before : DeviceParts) → before ≡ into old → (result : Result Served E)
        → ServesNext mode ticket old new a b result → ServesNext any_mode ticket before (into new) a b result
    serves_plain ticket before same result next =
        subst (λ (p : DeviceParts). ServesNext any_mode ticket p (into new) a b result) (sym same)
        (record {
          does = does_into (Progress.Serve ticket) (Progress.FailedServe ticket) _ result next.does;
          goes_on = if_ok_each result (λ served less did.
              subst (λ (p : Parts). turns_left ticket p.slots < turns_left ticket (into old).common.slots) (plain.common new)
              (subst (λ (p : Parts). turns_left ticket (mode.parts new).slots < turns_left ticket p.slots) (plain.common old) (less did))) next.goes_on;
          waiting = if_ok_each result (λ served waits waiting. let all = waits waiting in (ap into all.0, all.1)) next.waiting;
          flight =
              subst (λ (p : Parts). KeepsFlight (into old).common.slots p.slots) (plain.common new)
              (subst (λ (p : Parts). KeepsFlight p.slots (mode.parts new).slots) (plain.common old) next.flight);
        })

  -- So it does of its end.
  module _ (old : Kept) (a b : List Content) (stays : StaysFor old a b) where
    ends_into : {T E : Type 0} (result : Result T E) → Ends mode old a b result → Ends any_mode (into old) a b result
    ends_into (Ok done) ends = record {
      done = λ w is. let own = plain.outside w Working old a is in ended_plain w Working old a own _ _ a b (stays w is) (ends.done w own);
      err = tt;
    }
    ends_into (Err fault) ends = record {
      done = tt;
      err = λ w is. let own = plain.outside w Working old a is in ended_plain w Working old a own _ _ a b (stays w is) (ends.err w own);
    }

    pub ends_plain : {T E : Type 0} (before : DeviceParts) → before ≡ into old → (result : Result T E)
        → Ends mode old a b result → Ends any_mode before a b result
    ends_plain before same result ends = subst (λ (p : DeviceParts). Ends any_mode p a b result) (sym same) (ends_into result ends)

-- ---- what a device is in any mode

-- Each image may be left by its history.
pub left_now : (w : Standing) (condition : Condition) (mode : Mode) (common : Parts) (a : List Content)
    → IsDeviceIn mode w condition common a → IsLeftNow (kind_of w) w.entry w.state.history a
left_now w condition (Direct r) common a is =
    now_plain in_direct Model.Direct in_direct_mode plain_direct w condition (direct_kept common r) a is.direct w.state.history a a
    (stays_still w.on refl is.emptied)
    (subst (λ (key : Option (List ℕ)). IsLeftNow (placed_kind key w.on.sectors) w.entry w.state.history a) is.direct.format.key
    (subst (λ (sectors : ℕ). IsLeftNow (placed_kind is.direct.disk.key sectors) w.entry w.state.history a) is.direct.format.sectors is.direct.over.left))
left_now w condition (Journal state) common a is =
    now_plain in_journal Model.Journal in_journal_mode plain_journal w condition (kept common state) a is.journaled w.state.history a a tt
    (subst (λ (key : Option (List ℕ)). IsLeftNow (kind_in Model.Journal key w.on.sectors) w.entry w.state.history a) is.journaled.format.key
    (subst (λ (sectors : ℕ). IsLeftNow (kind_in Model.Journal is.journaled.disk.key sectors) w.entry w.state.history a) is.journaled.format.sectors is.journaled.over.left))
left_now w condition (Bitmap regions) common a is =
    now_plain in_bitmap Model.Bitmap in_bitmap_mode plain_bitmap w condition (bitmap_kept common regions) a is w.state.history a a tt
    (subst (λ (f : DiskFormat). IsLeftNow (bitmap_kind f) w.entry w.state.history a) is.format is.over.left)
left_now w condition Recovery common a is =
    now_plain in_recovery Model.Recovery in_recovery_mode plain_recovery w condition common a is w.state.history a a tt
    (record { opens = λ c told image of. tt; left = λ c told image of. tt })

-- It was reached by events,
pub reached_now : (w : Standing) (condition : Condition) (mode : Mode) (common : Parts) (a : List Content)
    → IsDeviceIn mode w condition common a → IsReached w.format w.state
reached_now w condition (Direct r) common a is = is.direct.over.device.reached
reached_now w condition (Journal state) common a is = is.journaled.over.reached
reached_now w condition (Bitmap regions) common a is = is.over.device.reached
reached_now w condition Recovery common a is = is.device.reached

-- is in this condition,
pub condition_now : (w : Standing) (condition : Condition) (mode : Mode) (common : Parts) (a : List Content)
    → IsDeviceIn mode w condition common a → w.state.condition ≡ condition_of condition
condition_now w condition (Direct r) common a is = is.direct.over.condition_
condition_now w condition (Journal state) common a is = is.journaled.over.condition_
condition_now w condition (Bitmap regions) common a is = is.over.condition_
condition_now w condition Recovery common a is = is.condition_

-- and its requests are those in flight.
pub flight_now : (w : Standing) (condition : Condition) (mode : Mode) (common : Parts) (a : List Content)
    → IsDeviceIn mode w condition common a → IsFlightOf w.format common.slots w.state.progress.requests
flight_now w condition (Direct r) common a is = is.direct.over.flight
flight_now w condition (Journal state) common a is = is.journaled.over.flight
flight_now w condition (Bitmap regions) common a is = is.over.flight
flight_now w condition Recovery common a is = is.flight

-- An event keeps it that calls no disk, and changes nothing but its requests.
quiet_in : (w : Standing) (condition : Condition) (mode : Mode) (common : Parts) (flight : Flight) (a : List Content)
    (event : Progress.Event) → IsDeviceIn mode w condition common a → (Progress.event_result w.format w.state event).changes ≡ []
    → (Progress.event_result w.format w.state event).progress.journal ≡ w.state.progress.journal
    → (Progress.event_result w.format w.state event).progress.regions ≡ w.state.progress.regions
    → IsFlightOf w.format flight (Progress.event_result w.format w.state event).progress.requests
    → (Progress.after_event w.format w.state event).condition ≡ w.state.condition
    → HasDone any_mode w event condition (record { common = record common { slots = flight }; mode = mode }) a a
quiet_in w condition (Direct r) common flight a event is none counts regions own same =
    done_plain in_direct Model.Direct in_direct_mode plain_direct w condition (direct_kept common r) a is.direct event condition
    (direct_kept (record common { slots = flight }) r) a a (stays_still w.on refl is.emptied) (is.emptied, is.no_more)
    (direct_quiet_law w condition (direct_kept common r) flight a event is.direct none regions own same)
quiet_in w condition (Journal state) common flight a event is none counts regions own same =
    done_plain in_journal Model.Journal in_journal_mode plain_journal w condition (kept common state) a is.journaled event condition
    (kept (record common { slots = flight }) state) a a tt is.no_more
    (journal_quiet_law w condition (kept common state) flight a event is.journaled none counts regions own same)
quiet_in w condition (Bitmap states) common flight a event is none counts regions own same =
    done_plain in_bitmap Model.Bitmap in_bitmap_mode plain_bitmap w condition (bitmap_kept common states) a is event condition
    (bitmap_kept (record common { slots = flight }) states) a a tt tt
    (bitmap_quiet_law w condition (bitmap_kept common states) flight a event is none regions own same)
quiet_in w condition Recovery common flight a event is none counts regions own same =
    done_plain in_recovery Model.Recovery in_recovery_mode plain_recovery w condition common a is event condition
    (record common { slots = flight }) a a tt tt
    (recovery_quiet_law w condition condition common flight a event is own (same ∙ is.condition_))

pub quiet_done : (w : Standing) (condition : Condition) (parts : DeviceParts) (flight : Flight) (a : List Content)
    (event : Progress.Event) → IsDevice w condition parts a → (Progress.event_result w.format w.state event).changes ≡ []
    → (Progress.event_result w.format w.state event).progress.journal ≡ w.state.progress.journal
    → (Progress.event_result w.format w.state event).progress.regions ≡ w.state.progress.regions
    → IsFlightOf w.format flight (Progress.event_result w.format w.state event).progress.requests
    → (Progress.after_event w.format w.state event).condition ≡ w.state.condition
    → HasDone any_mode w event condition (with_slots parts flight) a a
quiet_done w condition parts flight a event is none counts regions own same =
    quiet_in w condition parts.mode parts.common flight a event is none counts regions own same

-- So does one that only answers.
pub only_done : (w : Standing) (condition : Condition) (parts : DeviceParts) (a : List Content)
    (event : Progress.Event) (answer : Progress.Answer) → IsDevice w condition parts a
    → Progress.event_result w.format w.state event ≡ Progress.only_answers w.state.progress answer
    → (Progress.after_event w.format w.state event).condition ≡ w.state.condition
    → IsDone any_mode w event answer condition parts a a
only_done w condition parts a event answer is told same = record {
  answers = ap (λ (x : Progress.EventResult). x.answer) told;
  done = quiet_done w condition parts parts.common.slots a event is (ap (λ (x : Progress.EventResult). x.changes) told)
      (ap (λ (x : Progress.EventResult). x.progress.journal) told) (ap (λ (x : Progress.EventResult). x.progress.regions) told)
      (subst (λ (x : Progress.EventResult). IsFlightOf w.format parts.common.slots x.progress.requests) (sym told)
      (flight_now w condition parts.mode parts.common a is)) same;
}
