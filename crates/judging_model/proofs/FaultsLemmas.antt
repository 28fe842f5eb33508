-- Which fault is told, and what it says of an image.
use Rattle.std.proofs.Common.{◌≡◌, ℕ, Bool, true, false, if◌then◌else◌, refl, sym, ◌∙◌, ap, Option, Some, Ok, Err, List}
use Rattle.std.specs.Option.{option_map}
use Rattle.disk_model.specs.Disk.{Image}
use Rattle.image_model.specs.declared.flags.TheConstants.{DIRTY_BITMAP}
use Rattle.image_model.specs.Bitmap.{some_await}
use Rattle.image_model.specs.Superblock.{has_flag}
use Rattle.image_format.specs.declared.reading.ImageFormat.{ImageFormat}
use Rattle.image_format.specs.Format.{format_of}
use Rattle.image_refusal.specs.declared.call_fault.CallFault.{CallFault}
use Rattle.image_refusal.specs.declared.call_fault.CallFault.TheVariants.{Memory, Disk, Refused}
use Rattle.image_refusal.specs.declared.open_fault.OpenFault.{OpenFault}
use Rattle.judging_model.specs.declared.consent.Consent.{Consent}
use Rattle.judging_model.specs.Faults.{ImageFault, ByConsent, ByJournal, dirty_fault, fault_by_format, fault_in, fault_in_format, fault_of, journal_fault, lacks_consent}

-- ---- the fault of an image

module _ (key : Option (List ℕ)) (consent : Consent) (sectors : ℕ) (format : ImageFormat) (image : Image) (told : Ok format ≡ format_of sectors image) where
  by_format : fault_of key consent sectors image ≡ fault_by_format key consent image (Ok format)
  by_format = ap (fault_by_format key consent image) (sym told)

  -- With a bitmap it is want of consent, if some bit is set.
  pub fault_of-bitmap : has_flag DIRTY_BITMAP format.fields.flags ≡ true → fault_of key consent sectors image ≡ dirty_fault key consent image format
  fault_of-bitmap set = by_format ∙ rw set refl

  module _ (clear : has_flag DIRTY_BITMAP format.fields.flags ≡ false) where
    -- Without one it is that of the fields and the journal:
    pub fault_of-journal : fault_of key consent sectors image ≡ journal_fault key consent image format
    fault_of-journal = by_format ∙ rw clear refl

    abbrev by_lack : Bool → Option ImageFault
    by_lack b = if b then Some (ByConsent format.fields.flags) else option_map ByJournal (fault_in_format key image format)

    -- want of consent, where that is lacking,
    pub fault_of-lacking : lacks_consent key consent (some_await format.fields) ≡ true → fault_of key consent sectors image ≡ Some (ByConsent format.fields.flags)
    fault_of-lacking lacks = fault_of-journal ∙ ap by_lack lacks

    -- and else what the journal says.
    pub fault_of-format : lacks_consent key consent (some_await format.fields) ≡ false → fault_of key consent sectors image ≡ option_map ByJournal (fault_in_format key image format)
    fault_of-format lacks = fault_of-journal ∙ ap by_lack lacks

-- ---- the fault of an answer

-- A fault says the same in each kind of answer.
pub fault_in-err : (T U : Type 0) (fault : CallFault OpenFault) → fault_in {T = T} (Err fault) ≡ fault_in {T = U} (Err fault)
fault_in-err T U Memory = refl
fault_in-err T U Disk = refl
fault_in-err T U (Refused cause) = refl
