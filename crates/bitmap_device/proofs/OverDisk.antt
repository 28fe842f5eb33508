-- An event of a device in bitmap mode over its disk, and as one of any mode.
use Rattle.std.proofs.Common.{◌≡◌, ℕ, ◌*◌, ◌<◌, ◌++◌, List, [], ◌∷◌, Some, refl, sym, ◌∙◌, ap, subst}
use Rattle.disk_model.specs.Disk.{Content}
use Rattle.disk_model.specs.Moments.{EachMoment, content_now}
use Rattle.image_model.specs.Bitmap.{is_dirty}
use Rattle.image_model.specs.Cells.{Cell, salt_of}
use Rattle.image_model.specs.Geometry.{Geometry}
use Rattle.image_model.specs.Tag.{tag_of}
use Rattle.device_model.specs.History.{Change, with_changes}
use Rattle.device_model.specs.Mode.{DeviceFormat}
use Rattle.device_model.specs.Progress as Model
use Rattle.device_model.specs.Regions.{RegionCounts}
use Rattle.device_model.proofs.HistoryLemmas.{with_changes-base}
use Rattle.device_model.proofs.ReachedLemmas.{IsReached-event}
use Rattle.place_model.specs.Format.{DiskFormat, IsReadAs, cells_on, format_on, tagger_of}
use Rattle.place_model.specs.Opened.{blocks_of}
use Rattle.bitmap_model.specs.BitmapDisk.{BitmapDisk}
use Rattle.bitmap_laws.specs.CallLaws.{StandsThrough}
use Rattle.bitmap_laws.specs.Device.{IsBitmapDevice, KnowsHistory}
use Rattle.bitmap_laws.specs.ServeLaws.{KeepsDevice}
use Rattle.journal_laws.specs.RegionLaws.{AreRegions}
use Rattle.bitmap_laws.proofs.CountLemmas.{counts_kept}
use Rattle.bitmap_laws.proofs.CallLemmas.{kept_stands_law, still_law}
use Rattle.bitmap_laws.proofs.ServeLemmas.{served_kept_law}
use Rattle.direct_laws.specs.MomentLaws.{IsLeftNow, IsLeftThrough}
use Rattle.hmac_tag.specs.TagMaker.{TagRule}
use Rattle.request_slots.specs.InFlight.{IsFlightOf}
use Rattle.tag_store.specs.Store.{given_tags}
use Rattle.device_parts.specs.declared.answers.Served.{Served}
use Rattle.device_parts.specs.declared.condition.Condition.{Condition}
use Rattle.device_parts.specs.declared.condition.Condition.TheVariants as Conditions
use Rattle.device_parts.specs.declared.parts.Parts.{Parts}
use Rattle.device_parts.specs.Answers.{served_answer, tag_by}
use Rattle.device_parts.specs.Device.{HasDone, HasEnded, IsDone, Standing, condition_of, rule_on}
use Rattle.bitmap_mode.specs.Standing.{StandsAs, StandsWith}
use Rattle.bitmap_mode.specs.States.{States}
use Rattle.bitmap_device.specs.Device.{BitmapStanding, IsOverDisk, in_bitmap, kept, kind_on, marked_on, standing_on, standing_then}

-- The device is the one after an event, over a disk of the same format. At each moment of the call each image can be
-- opened, and may be left within the event.
pub record IsAfter (w : BitmapStanding) (event : Model.Event) (condition : Condition) (parts : Parts) (regions : States)
    (before after : List Content) : Type 0 where
  pub disk : BitmapDisk
  pub format : disk.format ≡ w.disk.format
  pub device : IsOverDisk (standing_then w event disk) condition parts regions after
  pub through : IsLeftThrough (kind_on w.disk.format) w.entry w.format w.state event before after

-- It answers the event so, too.
pub record IsDoneOver (w : BitmapStanding) (event : Model.Event) (answer : Model.Answer) (condition : Condition) (parts : Parts)
    (regions : States) (before after : List Content) : Type 0 where
  pub answers : (Model.event_result w.format w.state event).answer ≡ answer
  pub done : IsAfter w event condition parts regions before after

-- The request is served, and answers so.
abbrev pub IsServedAs : BitmapStanding → (ticket : ℕ) → Served → Parts → States → (before after : List Content) → Type 0
IsServedAs w ticket served parts regions before after =
    IsDoneOver w (Model.Serve ticket) (served_answer served) Conditions.Working parts regions before after

-- The disk failed in it.
abbrev pub HasFailedIn : BitmapStanding → (ticket : ℕ) → Parts → States → (before after : List Content) → Type 0
HasFailedIn w ticket parts regions before after =
    IsAfter w (Model.FailedServe ticket) Conditions.Broken parts regions before after

-- It ends with an event that answers so, over this disk.
pub record EndsOver (w : BitmapStanding) (event : Model.Event) (answer : Model.Answer) (before after : List Content)
    : Type 0 where
  pub answers : (Model.event_result w.format w.state event).answer ≡ answer
  pub disk : BitmapDisk
  pub keeps : KeepsDevice w.format w.state event w.entry w.disk disk before after

-- ---- for callers

-- What is said over a disk of the device's format is said of the device.
module _ (w : Standing) (disk : BitmapDisk) (same : disk.format ≡ w.on) (event : Model.Event) (a b : List Content) where
  pub done_on : (condition : Condition) (parts : Parts) (regions : States) → IsAfter (standing_on w disk) event condition parts regions a b
      → HasDone in_bitmap w event condition (kept parts regions) a b
  done_on condition parts regions done = record {
    device = record { disk = done.disk; format = done.format ∙ same; over = done.device };
    through = subst (λ (f : DiskFormat). IsLeftThrough (kind_on f) w.entry w.format w.state event a b) same done.through;
  }

  pub is_done_on : (answer : Model.Answer) (condition : Condition) (parts : Parts) (regions : States) → IsDoneOver (standing_on w disk) event answer condition parts regions a b
      → IsDone in_bitmap w event answer condition (kept parts regions) a b
  is_done_on answer condition parts regions done = record { answers = done.answers; done = done_on condition parts regions done.done }

  pub ended_on : (answer : Model.Answer) → EndsOver (standing_on w disk) event answer a b → HasEnded in_bitmap w event answer a b
  ended_on answer ended = record {
    answers = ended.answers;
    through = subst (λ (f : DiskFormat). IsLeftThrough (kind_on f) w.entry w.format w.state event a b) same ended.keeps.through;
    left = subst (λ (f : DiskFormat). IsLeftNow (kind_on f) w.entry (Model.after_event w.format w.state event).history b) same ended.keeps.now;
  }

-- ---- an event that changes nothing of the history, nor of the regions

-- It leaves the device on its disk.
pub quiet_device : (f : DeviceFormat) (s : Model.DeviceState) (event : Model.Event) (d : BitmapDisk) → IsBitmapDevice f s d → let result = Model.event_result f s event in
    result.changes ≡ [] → result.progress.regions ≡ s.progress.regions → (Model.after_event f s event).condition ≡ s.condition → IsBitmapDevice f (Model.after_event f s event) d
quiet_device f s event d is none regions same = record {
  reached = IsReached-event f s event is.reached;
  format = is.format;
  history = subst (λ (xs : List Change). KnowsHistory d (with_changes xs s.history)) (sym none) is.history;
  unused = subst (λ (x : DeviceFormat). (Model.event_result x s event).progress.journal.sections ≡ []) (sym is.format) (counts_kept d.format s is.unused event).unused;
  regions = λ works. subst (λ (c : RegionCounts). AreRegions c d) (sym regions) (is.regions (sym same ∙ works));
}

-- ---- an event that is done

-- A disk that told its content tells it later.
pub record IsTold (moments : List Content) : Type 0 where
  pub content : Content
  pub is : content_now moments ≡ Some content

told_behind : (since before : List Content) (c : Content) → content_now before ≡ Some c → IsTold (since ++ before)
told_behind [] before c told = record { content = c; is = told }
told_behind (x ∷ since) before c told = record { content = x; is = refl }

pub told_then : {P : Content → Type 0} (a b : List Content) (c : Content) → content_now a ≡ Some c → EachMoment a b P → IsTold b
told_then a b c told moments = subst IsTold (sym moments.grows) (told_behind moments.since a c told)

module _ (w : BitmapStanding) (condition : Condition) (parts : Parts) (regions : States) (a : List Content) (is : IsOverDisk w condition parts regions a) where
  -- The history began with the same cells.
  base_then : (event : Model.Event) (d : BitmapDisk) → d.format ≡ w.disk.format → (b : ℕ) → b < d.geometry.blocks
      → (Model.after_event w.format w.state event).history.base b ≡ cells_on d.format w.entry b
  base_then event d same b low =
      ap (λ (base : ℕ → Cell). base b) (with_changes-base (Model.event_result w.format w.state event).changes w.state.history)
      ∙ is.base b (subst (λ (x : DiskFormat). b < x.geometry.blocks) same low)
      ∙ ap (λ (x : DiskFormat). cells_on x w.entry b) (sym same)

  -- Where a call keeps the device, with its disk, the requests and the rule, the event is done.
  pub done : (event : Model.Event) (d : BitmapDisk) (now : Condition) (new : Parts) (states : States) (b : List Content)
      → KeepsDevice w.format w.state event w.entry w.disk d a b → d.format ≡ w.disk.format
      → IsFlightOf w.format new.slots (Model.after_event w.format w.state event).progress.requests → new.maker ≡ parts.maker
      → (Model.after_event w.format w.state event).condition ≡ condition_of now
      → (now ≡ Conditions.Working → StandsAs d (marked_on w) states new.tags b)
      → IsAfter w event now new states a b
  done event d now new states b keeps same flight maker condition_is stands =
      let told = told_then a b is.told is.is_told keeps.through.opens in
      record {
        disk = d;
        format = same;
        device = record {
          device = keeps.device;
          reads = subst (λ (x : DiskFormat). IsReadAs x w.entry) (sym same) is.reads;
          opened = subst (λ (x : DiskFormat). blocks_of x ≡ blocks_of (format_on x.key x.sectors w.entry)) (sym same) is.opened;
          base = base_then event d same;
          flight = flight;
          rule = maker ∙ is.rule ∙ ap rule_on (sym same);
          condition_ = condition_is;
          told = told.content;
          is_told = told.is;
          stands = λ works. subst (λ (x : DiskFormat). StandsAs d (is_dirty x.geometry w.entry) states new.tags b) (sym same) (stands works);
          left = subst (λ (x : DiskFormat). IsLeftNow (kind_on x) w.entry (Model.after_event w.format w.state event).history b) (sym same) keeps.now;
        };
        through = keeps.through;
      }

  -- So it is where the disk stays as it is at its moments.
  pub still : (event : Model.Event) (now : Condition) (new : Parts) (states : States) (b : List Content)
      → IsBitmapDevice w.format (Model.after_event w.format w.state event) w.disk
      → StandsThrough w.disk (marked_on w) a b
      → IsFlightOf w.format new.slots (Model.after_event w.format w.state event).progress.requests → new.maker ≡ parts.maker
      → (Model.after_event w.format w.state event).condition ≡ condition_of now
      → (now ≡ Conditions.Working → StandsAs w.disk (marked_on w) states new.tags b)
      → IsAfter w event now new states a b
  still event now new states b device through flight maker condition_is stands =
      done event w.disk now new states b (served_kept_law w.format w.state event w.disk w.entry (marked_on w) a b is.device is.opened device through) refl flight maker condition_is stands

-- ---- a device that works

module _ (w : BitmapStanding) (parts : Parts) (regions : States) (a : List Content) (is : IsOverDisk w Conditions.Working parts regions a) where
  pub works : w.state.condition ≡ Model.Working
  works = is.condition_

  pub stands : StandsAs w.disk (marked_on w) regions parts.tags a
  stands = is.stands refl

  -- The tags of its blocks are made by the rule that is kept, as the disk's are.
  pub rule_told : (spb : ℕ) → spb ≡ w.disk.geometry.shape.spb → (block : ℕ) (bytes : List ℕ) → tag_by parts.maker spb block bytes ≡ tagger_of w.disk.format block bytes
  rule_told spb same block bytes =
      ap (λ (rule : TagRule). tag_of rule.key rule.salt rule.size (block * spb) bytes) is.rule
      ∙ ap (λ (n : ℕ). tag_of w.disk.format.key (salt_of w.disk.format.superblock) w.disk.format.geometry.shape.tag_size (block * n) bytes) same

  pub stands_with : regions.geometry ≡ parts.tags.geometry → StandsWith w.disk (marked_on w) parts.maker regions parts.tags a
  stands_with same = record {
    stands = stands;
    tagger = rule_told regions.geometry.shape.spb (ap (λ (g : Geometry). g.shape.spb) (same ∙ sym stands.geometry));
  }

  -- A disk whose moments stay stands through that.
  pub stands_still : (b : List Content) → b ≡ a → StandsThrough w.disk (marked_on w) a b
  stands_still b same = still_law w.disk (marked_on w) a b same (kept_stands_law w.disk (marked_on w) (given_tags parts.tags) a stands.now)

  -- An event that only answers is done where nothing is.
  pub only_done : (event : Model.Event) (answer : Model.Answer) → Model.event_result w.format w.state event ≡ Model.only_answers w.state.progress answer
      → (Model.after_event w.format w.state event).condition ≡ Model.Working → IsDoneOver w event answer Conditions.Working parts regions a a
  only_done event answer told condition_is = record {
    answers = ap (λ (x : Model.EventResult). x.answer) told;
    done = still w Conditions.Working parts regions a is event Conditions.Working parts regions a
        (quiet_device w.format w.state event w.disk is.device (ap (λ (x : Model.EventResult). x.changes) told)
        (ap (λ (x : Model.EventResult). x.progress.regions) told) (condition_is ∙ sym works)) (stands_still a refl)
        (subst (λ (x : Model.EventResult). IsFlightOf w.format parts.slots x.progress.requests) (sym told) is.flight) refl condition_is (λ _. stands);
  }

-- The disk failed: it does not work.
pub not_working : {P : Type 0} → Conditions.Broken ≡ Conditions.Working → P
not_working same = absurd (subst (λ (c : Condition). elim c as (λ _. Type 0) [ Conditions.Working ↦ ⊥ | Conditions.Broken ↦ Unit {0} ]) same tt)
