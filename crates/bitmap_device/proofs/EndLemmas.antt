-- The end of a device in bitmap mode, whatever the close of its regions answers.
use Rattle.std.proofs.Common.{◌≡◌, ⊎_elim, ℕ, ◌<◌, ◌&&◌, Bool, true, false, if◌then◌else◌, List, [], ◌∷◌, OnOk, Result, Ok, Err, refl, sym, ◌∙◌, ap, subst}
use Rattle.disk_model.specs.Disk.{Content, EachImage}
use Rattle.disk_model.specs.Moments.{HasNow}
use Rattle.disk_model.proofs.MomentsLemmas.{EachMoment-then}
use Rattle.image_model.specs.Bitmap.{is_dirty}
use Rattle.image_model.specs.Geometry.{regions}
use Rattle.device_model.specs.Cut.{all_writes}
use Rattle.device_model.specs.History.{Flushed, History, with_changes}
use Rattle.device_model.specs.Mode.{is_recovery}
use Rattle.device_model.specs.Progress as Model
use Rattle.device_model.proofs.SubmissionLemmas.{result-working}
use Rattle.place_model.specs.Format.{DiskFormat, OpensAs}
use Rattle.bitmap_model.proofs.CutOfLemmas.{standing_law}
use Rattle.bitmap_laws.specs.CallLaws.{StandsThrough}
use Rattle.bitmap_laws.specs.Device.{with_regions}
use Rattle.bitmap_laws.proofs.EventLemmas.{close_law, quiet_events_law}
use Rattle.bitmap_laws.proofs.ServeLemmas.{served_kept_law}
use Rattle.tag_store.specs.Store.{Store}
use Rattle.device_parts.specs.declared.condition.Condition.TheVariants.{Working}
use Rattle.device_parts.specs.declared.parts.Parts.{Parts}
use Rattle.device_parts.specs.Device.{Ends, Standing}
use Rattle.bitmap_mode.specs.Closing.{Closes, HasClosed, MayClose, closed_disk}
use Rattle.bitmap_mode.specs.Standing.{MayTurnInto}
use Rattle.bitmap_mode.specs.States.{States}
use Rattle.bitmap_mode.proofs.DeviceLemmas.{closed, failed_to_close}
use Rattle.bitmap_device.specs.Answers.{HasBitmapLeft}
use Rattle.bitmap_device.specs.Device.{BitmapStanding, IsBitmapped, IsOverDisk, KeepsTagsBy, KeepsTagsIn, in_bitmap, kept, marked_on, standing_on}
use Rattle.bitmap_device.proofs.OverDisk.{EndsOver, ended_on, stands, works}
use Rattle.bitmap_device.proofs.TagLemmas.{tags_through, tags_unwritten}

-- ---- over its disk

module _ (w : BitmapStanding) (parts : Parts) (states : States) (a b : List Content) (is : IsOverDisk w Working parts states a) where
  works_now : w.state.condition ≡ Model.Working
  works_now = works w parts states a is

  -- It is closed,
  close_done : (now : States) (tags : Store) → HasClosed w.disk (marked_on w) now tags a b → EndsOver w Model.Close Model.IsClosed a b
  close_done now tags has = record {
    answers = ap (λ (x : Model.EventResult). x.answer) (result-working w.format w.state Model.Close works_now);
    disk = closed_disk w.disk;
    keeps = closed w.format w.state w.disk w.entry (marked_on w) is.device is.opened now tags a b works_now has;
  }

  -- or the disk fails in that: before its flush is done, or behind it.
  close_failed : (tags : Store) → MayTurnInto w.disk (closed_disk w.disk) (marked_on w) a b → EndsOver w Model.FailedClose Model.DiskFailed a b
  close_failed tags may = ⊎_elim
      (λ through. record {
        answers = told;
        disk = w.disk;
        keeps = served_kept_law w.format w.state Model.FailedClose w.disk w.entry (marked_on w) a b is.device is.opened
            (quiet_events_law w.format w.state Model.FailedClose w.disk is.device tt) through;
      })
      (λ turns. record {
        answers = told;
        disk = with_regions w.disk (closed_disk w.disk).bits w.disk.awaiting (λ region. false);
        keeps = failed_to_close w.format w.state w.disk w.entry (marked_on w) is.device is.opened states tags a b works_now turns.middle turns.first turns.rest;
      })
      may
    where
      told : (Model.event_result w.format w.state Model.FailedClose).answer ≡ Model.DiskFailed
      told = ap (λ (x : Model.EventResult). x.answer) (result-working w.format w.state Model.FailedClose works_now)

-- ---- for callers

module _ (parts : Parts) (states : States) (a b : List Content) where
  pub ends_bitmapped : {T E : Type 0} (result : Result T E) (now : States) (tags : Store) → MayClose states parts.tags a b → OnOk result (Closes states now parts.tags tags a b)
      → Ends in_bitmap (kept parts states) a b result
  ends_bitmapped (Ok done) now tags may closes = record {
    done = λ w is.
        let v = standing_on w is.disk in
        ended_on w is.disk is.format Model.Close a b Model.IsClosed
        (close_done v parts states a b is.over now tags (closes is.disk (marked_on v) (stands v parts states a is.over)));
    err = tt;
  }
  ends_bitmapped (Err fault) now tags may closes = record {
    done = tt;
    err = λ w is.
        let v = standing_on w is.disk in
        ended_on w is.disk is.format Model.FailedClose a b Model.DiskFailed
        (close_failed v parts states a b is.over tags (may is.disk (marked_on v) (stands v parts states a is.over)));
  }

  -- Each image opens in the device's format, and the bits that are left are those of the regions that the device counted.
  pub bitmap_left : {T E : Type 0} (result : Result T E) (now : States) (tags : Store) → OnOk result (Closes states now parts.tags tags a b)
      → OnOk result ((w : Standing) → IsBitmapped w Working (kept parts states) a → HasBitmapLeft w b)
  bitmap_left (Ok done) now tags closes = λ w is.
      let v = standing_on w is.disk in
      let has = closes is.disk (marked_on v) (stands v parts states a is.over) in
      let are = is.over.device.regions (works v parts states a is.over) in
      let counts = w.state.progress.regions in
      record {
        opens = subst (λ (x : DiskFormat). HasNow (EachImage (OpensAs x)) b) is.format
            (λ c told image is_image. (standing_law (closed_disk is.disk) c (has.stands.now c told).cells.stands image is_image).opens);
        bits = subst (λ (x : DiskFormat). HasNow (EachImage (λ image. (region : ℕ) → region < regions x.geometry → is_dirty x.geometry image region ≡ (counts.set_bits region && counts.awaiting region))) b) is.format
            (λ c told image is_image region low.
            has.images c told image is_image region low
            ∙ sym (ap (λ (t : Bool). t && counts.awaiting region) (are.set_bits region low) ∙ ap (λ (t : Bool). is.disk.bits region && t) (are.awaiting region low)));
      }
  bitmap_left (Err fault) now tags closes = tt

-- ---- the tags

-- A close begins no write.
close_changes : (is_recovered : Bool) (h : History) → all_writes (with_changes (if is_recovered then [] else Flushed ∷ []) h) ≡ all_writes h
close_changes true h = refl
close_changes false h = refl

close_writes : (w : Standing) → w.state.condition ≡ Model.Working → all_writes (Model.after_event w.format w.state Model.Close).history ≡ all_writes w.state.history
close_writes w works_then =
    ap (λ (x : Model.EventResult). all_writes (with_changes x.changes w.state.history)) (result-working w.format w.state Model.Close works_then)
    ∙ close_changes (is_recovery w.format.mode) w.state.history

-- Those are kept that it leaves.
pub close_tags : (parts : Parts) (states : States) (a b : List Content) → MayClose states parts.tags a b → KeepsTagsBy Model.Close (kept parts states) a b
close_tags parts states a b may w is = ⊎_elim
    (before a b)
    (λ turns. EachMoment-then (before a turns.middle turns.first)
    (tags_through w Working (kept parts states) a is Model.Close (closed_disk is.disk) refl (close_law w.format w.state is.disk is.over.device works_then).0 turns.middle b turns.rest))
    (may is.disk (marked_on v) (stands v parts states a is.over))
  where
    v : BitmapStanding
    v = standing_on w is.disk

    works_then : w.state.condition ≡ Model.Working
    works_then = works v parts states a is.over

    before : (from to : List Content) → StandsThrough is.disk (marked_on v) from to → KeepsTagsIn w Model.Close from to
    before from to through = tags_unwritten w Working (kept parts states) a is Model.Close (close_writes w works_then) is.disk refl is.over.device.history from to through
