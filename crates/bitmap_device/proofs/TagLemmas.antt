-- The tags of blocks without a write, whose region's bit was clear in the image that was opened, through a call.
use Rattle.std.proofs.Common.{◌≡◌, ⊎_elim, ℕ, ◌<◌, ◌++◌, false, List, [], ◌∷◌, refl, sym, ◌∙◌, ap, subst, Option, append-nil}
use Rattle.std.specs.List.{Any}
use Rattle.std.specs.Option.{option_to_list}
use Rattle.disk_model.specs.Disk.{Content, EachImage}
use Rattle.disk_model.proofs.MomentsLemmas.{EachMoment-then, EachMoment-weaker}
use Rattle.image_model.specs.Bitmap.{is_dirty}
use Rattle.image_model.specs.Cells.{Cell, placed_cells_of}
use Rattle.image_model.specs.Geometry.{region_of}
use Rattle.device_model.specs.Cut.{all_writes}
use Rattle.device_model.specs.History.{BlockWrite, History}
use Rattle.device_model.specs.Progress as Model
use Rattle.device_model.proofs.HistoryLemmas.{Any-append_left, with_changes-base}
use Rattle.place_model.specs.Format.{DiskFormat, cells_on}
use Rattle.bitmap_model.specs.BitmapDisk.{BitmapDisk}
use Rattle.bitmap_laws.specs.CallLaws.{StandsThrough}
use Rattle.bitmap_laws.specs.Device.{IsBitmapDevice, KnowsHistory}
use Rattle.bitmap_laws.specs.OwnTags.{StandsOn}
use Rattle.bitmap_laws.proofs.CallLemmas.{kept_stands_law}
use Rattle.bitmap_laws.proofs.OwnTagLemmas.{tag_stays_law}
use Rattle.tag_store.specs.Store.{given_tags}
use Rattle.device_parts.specs.declared.condition.Condition.{Condition}
use Rattle.device_parts.specs.declared.condition.Condition.TheVariants.{Working}
use Rattle.device_parts.specs.Device.{Standing, standing_after}
use Rattle.bitmap_mode.specs.Standing.{MayTurnInto, TurnsInto}
use Rattle.bitmap_device.specs.declared.parts.BitmapParts.{BitmapParts}
use Rattle.bitmap_device.specs.Device.{IsBitmapped, KeepsTags, KeepsTagsIn, KeptTagsLaw, marked_on, standing_on}

-- Each write of the disk is one of its history.
written_in : (P : BlockWrite → Type 0) (d : BitmapDisk) (h : History) → KnowsHistory d h → Any P d.writes → Any P (all_writes h)
written_in P d h knows any =
    let told : Any P (all_writes knows.known) = subst (Any P) knows.is_of.writes any in
    ⊎_elim
    (λ same. subst (λ (x : History). Any P (all_writes x)) (sym same) told)
    (λ begun.
    let done : all_writes knows.known ≡ knows.known.writes = ap (λ (o : Option BlockWrite). knows.known.writes ++ option_to_list o) begun.0 ∙ append-nil knows.known.writes in
    subst (λ (x : History). Any P (all_writes x)) (sym begun.1.1)
    (Any-append_left P knows.known.writes (begun.1.0 ∷ []) (subst (Any P) done told)))
    knows.is

-- Its cells at opening are those of its history.
base_in : (d : BitmapDisk) (h : History) → KnowsHistory d h → (b : ℕ) → b < d.geometry.blocks → d.base b ≡ h.base b
base_in d h knows b low = knows.is_of.base b low ∙ ⊎_elim
    (λ same. ap (λ (x : History). x.base b) (sym same))
    (λ begun. ap (λ (x : History). x.base b) (sym begun.1.1))
    knows.is

-- So is each such tag in its place, in each image of the disk.
tags_in : (w : Standing) (d : BitmapDisk) → d.format ≡ w.on → KnowsHistory d w.state.history
    → ((b : ℕ) → b < w.on.geometry.blocks → w.state.history.base b ≡ cells_on w.on w.entry b)
    → (c : Content) → StandsOn d (is_dirty w.on.geometry w.entry) c → EachImage (KeepsTags w) c
tags_in w d same knows base c on image is_image = record {
  each = λ b low clear none.
      subst (λ (x : DiskFormat). (placed_cells_of x.geometry image b).tag ≡ (placed_cells_of x.geometry w.entry b).tag) same
      (tag_stays_law d w.entry c b
      (subst (λ (x : DiskFormat). StandsOn d (is_dirty x.geometry w.entry) c) (sym same) on)
      (base_in d w.state.history knows b (low_in b low) ∙ base b low ∙ ap (λ (x : DiskFormat). cells_on x w.entry b) (sym same))
      (low_in b low)
      (subst (λ (x : DiskFormat). is_dirty x.geometry w.entry (region_of x.geometry b) ≡ false) (sym same) clear)
      (λ any. none (written_in _ d w.state.history knows any))
      image is_image);
}
  where
    low_in : (b : ℕ) → b < w.on.geometry.blocks → b < d.geometry.blocks
    low_in b low = subst (λ (x : DiskFormat). b < x.geometry.blocks) (sym same) low

-- ---- of a device in bitmap mode

module _ (w : Standing) (condition : Condition) (device : BitmapParts) (before : List Content) (is : IsBitmapped w condition device before) where
  base_on : (b : ℕ) → b < w.on.geometry.blocks → w.state.history.base b ≡ cells_on w.on w.entry b
  base_on = subst (λ (x : DiskFormat). (b : ℕ) → b < x.geometry.blocks → w.state.history.base b ≡ cells_on x w.entry b) is.format is.over.base

  -- Through a call whose disk is that of the device after the event, they are kept.
  module _ (event : Model.Event) where
    pub tags_through : (d : BitmapDisk) → d.format ≡ is.disk.format → IsBitmapDevice w.format (Model.after_event w.format w.state event) d
        → (a b : List Content) → StandsThrough d (marked_on (standing_on w is.disk)) a b → KeepsTagsIn w event a b
    tags_through d same then_ a b through =
        let then_base : (n : ℕ) → n < w.on.geometry.blocks → (Model.after_event w.format w.state event).history.base n ≡ cells_on w.on w.entry n =
        λ n low. ap (λ (base : ℕ → Cell). base n) (with_changes-base (Model.event_result w.format w.state event).changes w.state.history) ∙ base_on n low in
        EachMoment-weaker
        (λ c on. tags_in (standing_after w event) d (same ∙ is.format) then_.history then_base c
        (subst (λ (x : DiskFormat). StandsOn d (is_dirty x.geometry w.entry) c) is.format on))
        through.moments

    -- So they are where the event begins no write, and the disk is that of the history before it,
    pub tags_unwritten : all_writes (Model.after_event w.format w.state event).history ≡ all_writes w.state.history → (d : BitmapDisk) → d.format ≡ is.disk.format
        → KnowsHistory d w.state.history → (a b : List Content) → StandsThrough d (marked_on (standing_on w is.disk)) a b → KeepsTagsIn w event a b
    tags_unwritten writes d same knows a b through = EachMoment-weaker
        (λ c on image is_image.
        let kept = tags_in w d (same ∙ is.format) knows base_on c (subst (λ (x : DiskFormat). StandsOn d (is_dirty x.geometry w.entry) c) is.format on) image is_image in
        record { each = λ n low clear none. kept.each n low clear (λ any. none (subst (Any (λ write. write.block ≡ n)) (sym writes) any)) })
        through.moments

    -- where it turns into one after it,
    pub tags_turned : (d then_ : BitmapDisk) → d.format ≡ is.disk.format → IsBitmapDevice w.format (Model.after_event w.format w.state event) d
        → then_.format ≡ is.disk.format → IsBitmapDevice w.format (Model.after_event w.format w.state event) then_
        → (a b : List Content) → TurnsInto d then_ (marked_on (standing_on w is.disk)) a b → KeepsTagsIn w event a b
    tags_turned d then_ same_d device_d same_then device_then a b turns =
        EachMoment-then (tags_through d same_d device_d a turns.middle turns.first) (tags_through then_ same_then device_then turns.middle b turns.rest)

    -- or may.
    pub tags_may_turn : (d then_ : BitmapDisk) → d.format ≡ is.disk.format → IsBitmapDevice w.format (Model.after_event w.format w.state event) d
        → then_.format ≡ is.disk.format → IsBitmapDevice w.format (Model.after_event w.format w.state event) then_
        → (a b : List Content) → MayTurnInto d then_ (marked_on (standing_on w is.disk)) a b → KeepsTagsIn w event a b
    tags_may_turn d then_ same_d device_d same_then device_then a b may = ⊎_elim
        (tags_through d same_d device_d a b)
        (tags_turned d then_ same_d device_d same_then device_then a b) may

-- ---- between calls

pub kept_tags_law : KeptTagsLaw
kept_tags_law w device moments is c told =
    let stands = is.over.stands refl in
    tags_in w is.disk is.format is.over.device.history (base_on w Working device moments is) c
    (subst (λ (x : DiskFormat). StandsOn is.disk (is_dirty x.geometry w.entry) c) is.format
    (kept_stands_law is.disk (marked_on (standing_on w is.disk)) (given_tags device.parts.tags) moments stands.now c told))
