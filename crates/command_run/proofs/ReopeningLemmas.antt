-- An image that a cut has left begins the next run.
use Rattle.std.proofs.Common.{◌≡◌, ℕ, ◌<◌, Bool, true, false, if◌then◌else◌, refl, List, take, sym, ◌∙◌, ap, subst, Option}
use Rattle.disk_model.specs.Disk.{Image}
use Rattle.device_model.specs.Cut.{all_writes}
use Rattle.device_model.specs.Device.{DeviceKind}
use Rattle.device_model.specs.History.{BlockWrite, Change, History, cells_after}
use Rattle.device_model.specs.Mode.{Journal}
use Rattle.device_model.specs.Transcript.{BlockFormat}
use Rattle.device_model.proofs.HistoryLemmas.{cells_after-append, with_changes-base}
use Rattle.image_model.specs.Cells.{Cell}
use Rattle.place_model.specs.Changed.{changed_device, changes_mode}
use Rattle.place_model.specs.Format.{DiskFormat, cells_on, format_on}
use Rattle.place_model.specs.Kind.{MayBeLeftIn, kind_in}
use Rattle.place_model.specs.Opened.{blocks_of, opened_on}
use Rattle.place_model.proofs.BlocksLemmas.{cells_after-base}
use Rattle.judging_model.specs.FaultLaws.{OpensLaw}
use Rattle.device.specs.declared.opening.OpenMode.TheVariants as Modes
use Rattle.run_model.specs.CommandRun.{Outset, RunsOn, IsRunAt}
use Rattle.command_run.specs.Reopening.{HoldsFlushed, IsLeftBehind, ReopeningLaw, history_on}
use Rattle.command_model.specs.Outset.{judged_outset}

-- Whether the mode is changed or not, the device begins with the cells of the image.
by_base : (t : Bool) (d : DiskFormat) (image : Image)
    → (if t then changed_device d image else opened_on Journal d image).history.base ≡ cells_on d image
by_base true d image = refl
by_base false d image = refl

module _ (key : Option (List ℕ)) (sectors : ℕ) where
  abbrev kind : DeviceKind
  kind = kind_in Journal key sectors

  abbrev format : Image → BlockFormat
  format image = blocks_of (format_on key sectors image)

  abbrev cells : Image → ℕ → Cell
  cells image = cells_on (format_on key sectors image) image

  opened_base : (image : Image) → (kind.opened image).history.base ≡ cells image
  opened_base image = let d = format_on key sectors image in by_base (changes_mode Journal d.superblock) d image

  -- What a cut leaves, by the blocks of the image at the entry.
  record Keeps (entry : Image) (h : History) (left : Image) : Type 0 where
    pub kept : ℕ
    pub flushed : HoldsFlushed h kept
    pub each : (b : ℕ) → b < (format entry).blocks
        → cells left b ≡ cells_after (format entry).tag h.base (take kept (all_writes h)) b

  keeps : (entry : Image) (h : History) (left : Image) → MayBeLeftIn Journal key sectors entry h left → Keeps entry h left
  keeps entry h left is =
      let own = is.left_is.left in
      record {
        kept = own.kept;
        flushed = record { has_flushed = own.has_flushed; has_no_more = own.has_no_more };
        each = subst (λ (f : BlockFormat). (b : ℕ) → b < f.blocks → cells left b ≡ cells_after f.tag h.base (take own.kept (all_writes h)) b)
            is.blocks own.each;
      }

  module _ (entry left : Image) (h : History) (is : MayBeLeftIn Journal key sectors entry h left) where
    first : Keeps entry h left
    first = keeps entry h left is

    -- What the next run leaves holds its writes behind those that are kept.
    behind : (more : List Change) (last : Image) → MayBeLeftIn Journal key sectors left (history_on kind left more) last
        → IsLeftBehind (format entry) h first.kept (history_on kind left more) (cells last)
    behind more last next =
        let k = history_on kind left more in
        let own = next.left_is.left in
        let f = format entry in
        let kept = take first.kept (all_writes h) in
        let added : List BlockWrite = take own.kept (all_writes k) in
        let same : blocks_of (format_on key sectors last) ≡ f = next.blocks ∙ is.blocks in
        record {
          more = own.kept;
          flushed = record { has_flushed = own.has_flushed; has_no_more = own.has_no_more };
          each = λ b low.
              (subst (λ (x : BlockFormat). (n : ℕ) → n < x.blocks → cells last n ≡ cells_after x.tag k.base added n) same own.each) b low
              ∙ ap (λ (base : ℕ → Cell). cells_after f.tag base added b) (with_changes-base more (kind.opened left).history ∙ opened_base left)
              ∙ cells_after-base f.tag (cells left) (cells_after f.tag h.base kept) added b (first.each b low)
              ∙ sym (cells_after-append f.tag h.base kept added b);
        }

-- ---- for callers

pub reopening_law : OpensLaw → ReopeningLaw
reopening_law law key sectors entry changes later left by image =
    let k = kind_in Journal key sectors in
    let h = history_on k entry changes in
    let is : MayBeLeftIn Journal key sectors entry h left = by.left left image in
    let own = first key sectors entry left h is in
    record {
      starts = λ consent script run given is_run.
          subst (λ (o : Outset). IsRunAt o script run)
          (sym (ap (judged_outset (RunsOn (kind_in Journal key sectors) left)) ((law key consent sectors left).1 (by.opens left image, given)))) is_run;
      blocks = is.blocks;
      kept = own.kept;
      flushed = own.flushed;
      base = λ b low. ap (λ (base : ℕ → Cell). base b) (opened_base key sectors left) ∙ own.each b low;
      again = behind key sectors entry left h is;
    }
