-- What may be left of a device in journal mode, by its kind, also where the position of its recalculation has moved.
use Rattle.std.proofs.Common.{◌≡◌, ℕ, false, sym, ◌∙◌, ap, subst, List, Option, take}
use Rattle.disk_model.specs.Disk.{Content, EachImage, Image}
use Rattle.disk_model.specs.Moments.{EachMoment, HasNow}
use Rattle.disk_model.proofs.MomentsLemmas.{EachMoment-then, EachMoment-weaker}
use Rattle.image_model.specs.declared.flags.TheConstants.{DIRTY_BITMAP}
use Rattle.image_model.specs.Cells.{salt_of}
use Rattle.image_model.specs.Geometry.{Geometry}
use Rattle.image_model.specs.Superblock.{has_flag}
use Rattle.hmac_tag.specs.TagMaker.{TagRule}
use Rattle.device_model.specs.History.{History, with_changes}
use Rattle.device_model.specs.Mode.{DeviceFormat, Journal}
use Rattle.device_model.specs.Progress.{DeviceState, Event, event_result}
use Rattle.place_model.specs.Format.{DiskFormat, format_on}
use Rattle.place_model.specs.Kind.{CanOpenIn, MayBeLeftIn, kind_in}
use Rattle.place_model.specs.Left.{IsLeftInJournal}
use Rattle.place_model.specs.Opened.{blocks_of, device_format}
use Rattle.journal_laws.proofs.PromiseLemmas.{standing_left_law}
use Rattle.direct_laws.specs.MomentLaws.{IsLeftNow, IsLeftThrough}
use Rattle.recalculate_laws.specs.Formats.{IsFormatOf}
use Rattle.recalculate_laws.proofs.DeviceLemmas.{kind_left_law}
use Rattle.recalculate_laws.proofs.FormatsLemmas.{same_blocks_law}
use Rattle.device_parts.specs.Device.{rule_on}
use Rattle.journal_mode.specs.Journal.{PlacedRing}
use Rattle.journal_mode.specs.Standing.{JournalStanding, StandsAs}
use Rattle.tag_store.specs.Store.{Store}
use Rattle.journal_device.specs.Device.{kind_on}

module _ (d : DiskFormat) (entry : Image) (opened : blocks_of d ≡ blocks_of (format_on d.key d.sectors entry)) (mode : has_flag DIRTY_BITMAP d.superblock.flags ≡ false) where
  left-kind : (h : History) (c : Content) → EachImage (IsLeftInJournal d h) c → EachImage (MayBeLeftIn Journal d.key d.sectors entry h) c
  left-kind h c each image is = (kind_left_law d entry h image opened mode (each image is)).1

  opens-kind : (h : History) (c : Content) → EachImage (IsLeftInJournal d h) c → EachImage (CanOpenIn Journal d.key d.sectors) c
  opens-kind h c each image is = (kind_left_law d entry h image opened mode (each image is)).0

  -- So it is at each moment of an event, by a history within it,
  pub left_through : (f : DeviceFormat) (s : DeviceState) (event : Event) (kept : ℕ) (h : History) {a b : List Content} → h ≡ with_changes (take kept (event_result f s event).changes) s.history
      → EachMoment a b (EachImage (IsLeftInJournal d h)) → IsLeftThrough (kind_on d) entry f s event a b
  left_through f s event kept h is m = record {
    opens = EachMoment-weaker (opens-kind h) m;
    left = EachMoment-weaker (λ c each. record { history = h; within = record { kept = kept; is = is }; each = left-kind h c each }) m;
  }

  -- and at its end.
  pub left_now : (h : History) (a : List Content) → HasNow (EachImage (IsLeftInJournal d h)) a → IsLeftNow (kind_on d) entry h a
  left_now h a now = record { opens = λ c told. opens-kind h c (now c told); left = λ c told. left-kind h c (now c told) }

-- Where a journal stands for what a device says, each image may be left of it.
pub standing_now : (w : JournalStanding) (journal : PlacedRing) (store : Store) (a : List Content) → StandsAs w journal store a → HasNow (EachImage (IsLeftInJournal w.disk.format w.history)) a
standing_now w journal store a stands c told = standing_left_law w.format w.history w.counts w.disk journal.ring c stands.device (stands.placed.cells.now c told).stands

-- Calls in a row.
pub left_then : (d : DiskFormat) (entry : Image) (f : DeviceFormat) (s : DeviceState) (event : Event) {a m b : List Content} → IsLeftThrough (kind_on d) entry f s event a m → IsLeftThrough (kind_on d) entry f s event m b
    → IsLeftThrough (kind_on d) entry f s event a b
left_then d entry f s event first second = record { opens = EachMoment-then first.opens second.opens; left = EachMoment-then first.left second.left }

-- ---- a format that differs in what is to be recalculated alone

module _ (on d : DiskFormat) (same : IsFormatOf on d) where
  -- The device is opened by the same kind,
  pub through_on : (entry : Image) (f : DeviceFormat) (s : DeviceState) (event : Event) (a b : List Content) → IsLeftThrough (kind_on d) entry f s event a b → IsLeftThrough (kind_on on) entry f s event a b
  through_on entry f s event a b through =
      subst (λ (key : Option (List ℕ)). IsLeftThrough (kind_in Journal key on.sectors) entry f s event a b) same.key
      (subst (λ (sectors : ℕ). IsLeftThrough (kind_in Journal d.key sectors) entry f s event a b) same.sectors through)

  pub now_on : (entry : Image) (h : History) (a : List Content) → IsLeftNow (kind_on d) entry h a → IsLeftNow (kind_on on) entry h a
  now_on entry h a now =
      subst (λ (key : Option (List ℕ)). IsLeftNow (kind_in Journal key on.sectors) entry h a) same.key
      (subst (λ (sectors : ℕ). IsLeftNow (kind_in Journal d.key sectors) entry h a) same.sectors now)

  pub now_from : (entry : Image) (h : History) (a : List Content) → IsLeftNow (kind_on on) entry h a → IsLeftNow (kind_on d) entry h a
  now_from entry h a now =
      subst (λ (key : Option (List ℕ)). IsLeftNow (kind_in Journal key d.sectors) entry h a) (sym same.key)
      (subst (λ (sectors : ℕ). IsLeftNow (kind_in Journal on.key sectors) entry h a) (sym same.sectors) now)

  -- has the same blocks,
  pub blocks_then : (entry : Image) → blocks_of on ≡ blocks_of (format_on on.key on.sectors entry) → blocks_of d ≡ blocks_of (format_on d.key d.sectors entry)
  blocks_then entry opened =
      (same_blocks_law on d same).0 ∙ opened
      ∙ ap (λ (key : Option (List ℕ)). blocks_of (format_on key on.sectors entry)) (sym same.key)
      ∙ ap (λ (sectors : ℕ). blocks_of (format_on d.key sectors entry)) (sym same.sectors)

  -- is the same format of a device,
  pub format_then : device_format Journal d ≡ device_format Journal on
  format_then = (same_blocks_law on d same).1 Journal

  -- and has the same rule of tags.
  pub rule_then : rule_on d ≡ rule_on on
  rule_then =
      ap (λ (key : Option (List ℕ)). let r : TagRule = record { key = key; salt = salt_of d.superblock; size = d.geometry.shape.tag_size } in r) same.key
      ∙ ap (λ (salt : Option (List ℕ)). let r : TagRule = record { key = on.key; salt = salt; size = d.geometry.shape.tag_size } in r) same.salt
      ∙ ap (λ (g : Geometry). let r : TagRule = record { key = on.key; salt = salt_of on.superblock; size = g.shape.tag_size } in r) same.geometry

  -- So it is of one that differs so from it.
  pub format_again : (last : DiskFormat) → IsFormatOf d last → IsFormatOf on last
  format_again last next = record {
    key = next.key ∙ same.key;
    sectors = next.sectors ∙ same.sectors;
    geometry = next.geometry ∙ same.geometry;
    salt = next.salt ∙ same.salt;
    no_bitmap = next.no_bitmap;
  }
