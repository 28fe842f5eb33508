-- What a formatting that was planned leaves, in the words of the whole call.
use Rattle.std.specs.Prelude.{◌==◌}
use Rattle.std.proofs.Common.{◌≡◌, inl, inr, ⊎_elim, ℕ, List, [], Option, Ok, refl, ◌∙◌, ap, subst}
use Rattle.std.specs.List.{Contains}
use Rattle.std.proofs.lemmas.Bool.{cases_Bool}
use Rattle.disk_model.specs.Disk.{Content, Image, last_image}
use Rattle.disk_model.specs.Moments.{EachSince, HasNow}
use Rattle.disk_model.proofs.DiskLemmas.{only_candidate}
use Rattle.hmac_tag.specs.TagMaker.{TagRule}
use Rattle.image_model.specs.Geometry.{Geometry, layout_of}
use Rattle.image_model.specs.Superblock.{Superblock}
use Rattle.image_model.proofs.GeometryOf.{geometry_given}
use Rattle.image_model.proofs.SuperblockLemmas.{superblock_of-no_magic}
use Rattle.image_format.specs.declared.reading.ImageFormat.{ImageFormat}
use Rattle.image_format.specs.Format.{IsFormat}
use Rattle.formatting_model.specs.declared.new_image.NewImage.{NewImage}
use Rattle.formatting_model.specs.FirstSector.{HasZeroHead, zero_sector}
use Rattle.formatting_model.specs.Formatted.{HasMade, HasNoMagic, HasSynced, IsAmidWriting, IsFormatted, IsLeftByFormat, IsLeftInOrder, IsLeftSynced, IsLeftUnsynced, IsWritten, IsWrittenBehindSync, IsWrittenInOrder, format_with, rule_with}
use Rattle.formatting_model.specs.NewImage.{fields_of, provided_of}
use Rattle.formatting_model.specs.Order.{IsUnsettled}
use Rattle.formatting_model.proofs.FormattedLemmas.{forgotten_first}
use Rattle.formatting_model.proofs.OrderLemmas.{each_in_order, first_sync_weaker, order_weaker}

-- Zeros are no magic.
pub no_magic : (sectors : ℕ) (image : Image) → image 0 ≡ zero_sector → HasNoMagic sectors image
no_magic sectors image zeros = elim (cases_Bool (sectors == 0)) [
  | inl none ↦ rw none (superblock_of-no_magic [] refl)
  | inr some ↦ rw (some, zeros) (superblock_of-no_magic zero_sector refl)
]

unsynced_is : (sectors : ℕ) (start later : Content) → IsUnsettled HasZeroHead start later → IsLeftUnsynced sectors start later
unsynced_is sectors start later h = record { kept = h.kept; images = λ image of. ⊎_elim inl (λ zeros. inr (no_magic sectors image zeros)) (h.images image of) }

-- A format that was planned is the one of the fields.
pub planned_is : (sectors : ℕ) (new : NewImage) (format : ImageFormat) → IsFormat sectors format → format.fields ≡ fields_of new format.fields.provided → format ≡ format_with new format.fields.provided
planned_is sectors new format is fields =
    let own : format.geometry ≡ layout_of format.fields = ((geometry_given format.fields sectors format.geometry).0 is.told).0 in
    ap (λ (g : Geometry). let f : ImageFormat = record { fields = format.fields; geometry = g } in f) own
    ∙ ap (λ (s : Superblock). let f : ImageFormat = record { fields = s; geometry = layout_of s } in f) fields

module _ (key : Option (List ℕ)) (sectors : ℕ) (new : NewImage) (format : ImageFormat) (rule : TagRule) (told : provided_of new sectors ≡ Ok format.fields.provided)
    (is : format ≡ format_with new format.fields.provided) (tags : rule ≡ rule_with key new) where
  formatted_is : (before image : Image) → IsFormatted new.wipe rule format before image → IsFormatted new.wipe (rule_with key new) (format_with new format.fields.provided) before image
  formatted_is before image h =
      subst (λ (r : TagRule). IsFormatted new.wipe r (format_with new format.fields.provided) before image) tags
      (subst (λ (f : ImageFormat). IsFormatted new.wipe rule f before image) is h)

  left_is : (start later : Content) → IsAmidWriting new.wipe rule format start later → IsLeftSynced key sectors new start later
  left_is start later amid image of = ⊎_elim (λ zeros. inl (no_magic sectors image zeros))
      (λ whole. inr (record { provided = format.fields.provided; is_provided = told; formatted = formatted_is (last_image start) image whole })) (amid image of)

  pub synced_by : {a b : List Content} → HasNow (λ start. IsWrittenBehindSync new.wipe rule format a b) a → HasNow (λ start. HasSynced key sectors new a b) a
  synced_by synced start told_start = first_sync_weaker (IsUnsettled HasZeroHead) (IsLeftUnsynced sectors) (IsAmidWriting new.wipe rule format) (IsLeftSynced key sectors new)
      (unsynced_is sectors) left_is (synced start told_start)

  pub left_by : {a b : List Content} → IsWrittenInOrder new.wipe rule format a b → IsLeftInOrder key sectors new a b
  left_by order = order_weaker (IsUnsettled HasZeroHead) (IsLeftUnsynced sectors) (IsAmidWriting new.wipe rule format) (IsLeftSynced key sectors new) (unsynced_is sectors) left_is order

  pub made_by : (before after : List Content) → IsWritten new.wipe rule format before after → HasMade key sectors new format.fields.provided before after
  made_by before after written = record {
    is_provided = told;
    is_written = λ start told_start content told_content.
        let whole = written start told_start content told_content in
        record { settled = whole.settled; image_ = formatted_is (last_image start) (last_image content) whole.image_ };
  }

-- ---- for callers

-- In either part a cut leaves an image that was there at the start, or one without a magic, or the whole new one.
pub left_in_order : {a b : List Content} (key : Option (List ℕ)) (sectors : ℕ) (new : NewImage) → IsLeftInOrder key sectors new a b → EachSince (IsLeftByFormat key sectors new) a b
left_in_order key sectors new order = each_in_order (IsLeftUnsynced sectors) (IsLeftSynced key sectors new) (IsLeftByFormat key sectors new)
    (λ start later unsynced image of. ⊎_elim inl (λ none. inr (inl none)) (unsynced.images image of))
    (λ start image of. inr (inl (no_magic sectors image (only_candidate zero_sector (image 0) (subst (λ (xs : List (List ℕ)). Contains xs (image 0)) (forgotten_first start) (of 0))))))
    (λ start later synced image of. inr (synced image of))
    order
