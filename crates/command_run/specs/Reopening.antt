-- A run in journal mode that was cut, and the next run on what it left.
use Rattle.std.specs.Prelude.{◌≡◌, ℕ, ◌<◌, ◌≤◌, false, List, ◌++◌, length, take, Option}
use Rattle.disk_model.specs.Disk.{Content, Image, IsImage}
use Rattle.device_model.specs.Cut.{all_writes}
use Rattle.device_model.specs.Device.{DeviceKind}
use Rattle.device_model.specs.History.{Change, History, cells_after, with_changes}
use Rattle.device_model.specs.Mode.{Journal}
use Rattle.run_model.specs.ScriptRun.{ScriptRun, IsRunOf}
use Rattle.device_model.specs.Transcript.{BlockFormat}
use Rattle.judging_model.specs.declared.consent.Consent.{Consent}
use Rattle.judging_model.specs.FaultLaws.{some_await_on}
use Rattle.judging_model.specs.Faults.{lacks_consent}
use Rattle.image_model.specs.Cells.{Cell}
use Rattle.place_model.specs.Format.{cells_on, format_on}
use Rattle.place_model.specs.Kind.{kind_in}
use Rattle.place_model.specs.Opened.{blocks_of}
use Rattle.device.specs.declared.opening.OpenMode.TheVariants as Modes
use Rattle.run_model.specs.CommandRun.{IsOfDevice, IsRunAt}
use Rattle.command_task.specs.Outset.{run_outset}

-- So many of the first writes, the one under way being the last, with every flushed one among them.
pub record HoldsFlushed (h : History) (kept : ℕ) : Type 0 where
  pub has_flushed : h.flushed ≤ kept
  pub has_no_more : kept ≤ length (all_writes h)

-- The history of a device of this kind once it was opened on an image and made these changes.
abbrev pub history_on : DeviceKind → Image → List Change → History
history_on kind image changes = with_changes changes (kind.opened image).history

-- Each block holds what some of the first writes of one run gave it, and then some of the first of the next run, with
-- every flushed one of both among them.
pub record IsLeftBehind (f : BlockFormat) (first : History) (kept : ℕ) (second : History) (left : ℕ → Cell)
    : Type 0 where
  pub more : ℕ
  pub flushed : HoldsFlushed second more
  pub each : (b : ℕ) → b < f.blocks
      → left b ≡ cells_after f.tag first.base
      (take kept (all_writes first) ++ take more (all_writes second)) b

-- A reopened image begins with what a cut left: the next run in journal mode, with consent where tags are still to be
-- made anew under a key, runs its script on a device whose blocks hold what some of the first writes of the run before
-- gave them, with every flushed one among them; and what a cut of that run leaves holds some of the first of its own
-- writes behind those.
pub record BeginsWithCut (key : Option (List ℕ)) (sectors : ℕ) (entry : Image) (changes : List Change) (left : Image)
    : Type 0 where
  pub starts : (consent : Consent) (script : List ℕ) (run : ScriptRun) → let kind = kind_in Journal key sectors in
      lacks_consent key consent (some_await_on (format_on key sectors left) left) ≡ false
      → IsRunOf (kind.format left) (kind.opened left) script run
      → IsRunAt (run_outset (Modes.Journal consent) key sectors left) script run
  pub blocks : blocks_of (format_on key sectors left) ≡ blocks_of (format_on key sectors entry)
  pub kept : ℕ
  pub flushed : HoldsFlushed (history_on (kind_in Journal key sectors) entry changes) kept
  pub base : let f = blocks_of (format_on key sectors entry) in
      let h = history_on (kind_in Journal key sectors) entry changes in
      (b : ℕ) → b < f.blocks → ((kind_in Journal key sectors).opened left).history.base b
      ≡ cells_after f.tag h.base (take kept (all_writes h)) b
  pub again : (more : List Change) (last : Image) → let kind = kind_in Journal key sectors in
      kind.MayBeLeft left (history_on kind left more) last
      → IsLeftBehind (blocks_of (format_on key sectors entry)) (history_on kind entry changes) kept
      (history_on kind left more) (cells_on (format_on key sectors last) last)

-- ---- laws

-- It is so of each image that a cut may leave at a moment of a run.
abbrev pub ReopeningLaw : Type 0
ReopeningLaw = (key : Option (List ℕ)) (sectors : ℕ) (entry : Image) (changes : List Change) (later : Content)
    (left : Image)
    → IsOfDevice (kind_in Journal key sectors) entry changes later → IsImage later left
    → BeginsWithCut key sectors entry changes left
