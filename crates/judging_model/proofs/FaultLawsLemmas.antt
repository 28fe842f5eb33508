-- Which images have a fault.
use Rattle.std.proofs.Common.{◌≡◌, inl, inr, ℕ, Bool, true, false, if◌then◌else◌, refl, sym, ◌∙◌, ap, Result, Option, None, Some, Ok, Err, IsOk, List}
use Rattle.std.specs.Option.{option_map}
use Rattle.std.proofs.lemmas.Bool.{cases_Bool}
use Rattle.std.proofs.lemmas.Option.{none-some}
use Rattle.disk_model.specs.Disk.{Image}
use Rattle.image_model.specs.declared.flags.TheConstants.{DIRTY_BITMAP}
use Rattle.image_model.specs.Bitmap.{some_await}
use Rattle.image_model.specs.Cells.{salt_of}
use Rattle.image_model.specs.Geometry.{Geometry}
use Rattle.image_model.specs.Openable as model
use Rattle.image_model.specs.Openable.{IsOpenable, IsReadable, journal_fault_of}
use Rattle.image_model.specs.Superblock.{Superblock, has_flag}
use Rattle.image_model.proofs.OpenableLemmas.{IsOpenable-from, IsOpenable-journal, IsReadable-same}
use Rattle.place_model.specs.Format.{format_on}
use Rattle.place_model.proofs.FormatLemmas.{reads_on}
use Rattle.image_refusal.specs.declared.open_fault.HeadFault.{HeadFault}
use Rattle.image_format.specs.declared.reading.ImageFormat.{ImageFormat}
use Rattle.image_format.proofs.FormatLawsLemmas.{bitmap_openable, format_of-readable}
use Rattle.image_format.specs.Format.{format_of}
use Rattle.image_format.specs.FormatLaws.{ReadLaw}
use Rattle.judging_model.specs.declared.consent.Consent.{Consent}
use Rattle.judging_model.specs.FaultLaws.{OpensLaw, some_await_on}
use Rattle.judging_model.specs.Faults.{ByConsent, ByHead, ByJournal, fault_by_format, fault_of, has_dirty_region, lacks_consent}
use Rattle.judging_model.proofs.FaultsLemmas.{fault_of-bitmap, fault_of-format, fault_of-journal}

-- An image without a fault tells a format.
told-ok : (key : Option (List ℕ)) (consent : Consent) (image : Image) (r : Result ImageFormat HeadFault) → fault_by_format key consent image r ≡ None → IsOk r
told-ok key consent image (Ok format) e = refl
told-ok key consent image (Err fault) e = absurd (none-some (ByHead fault) (sym e))

-- With a bitmap it has none where nothing lacks,
no_lack : (flags : ℕ) (b : Bool) → (if b then Some (ByConsent flags) else None) ≡ None → b ≡ false
no_lack flags true e = absurd (none-some (ByConsent flags) (sym e))
no_lack flags false e = refl

-- and with a journal where that has none, either.
no_fault : (o : Option model.JournalFault) → option_map ByJournal o ≡ None → o ≡ None
no_fault None e = refl
no_fault (Some fault) e = absurd (none-some (ByJournal fault) (sym e))

neither : (flags : ℕ) (b : Bool) (o : Option model.JournalFault) → (if b then Some (ByConsent flags) else option_map ByJournal o) ≡ None → (b ≡ false) × (o ≡ None)
neither flags true o e = absurd (none-some (ByConsent flags) (sym e))
neither flags false o e = (refl, no_fault o e)

module _ (key : Option (List ℕ)) (sectors : ℕ) (image : Image) (readable : IsReadable sectors image) where
  abbrev s : Superblock
  s = readable.superblock

  -- The fields and the geometry of a readable image are its own,
  own_fields : s ≡ (format_on key sectors image).superblock
  own_fields =
      let reads = reads_on key sectors image readable in
      (IsReadable-same sectors image readable reads.readable).0 ∙ reads.superblock

  own_geometry : readable.geometry ≡ (format_on key sectors image).geometry
  own_geometry =
      let reads = reads_on key sectors image readable in
      (IsReadable-same sectors image readable reads.readable).1 ∙ reads.geometry

  own_flag : has_flag DIRTY_BITMAP s.flags ≡ has_flag DIRTY_BITMAP (format_on key sectors image).superblock.flags
  own_flag = ap (λ (x : Superblock). has_flag DIRTY_BITMAP x.flags) own_fields

  -- and so is whether some block awaits.
  bitmap_awaits : has_flag DIRTY_BITMAP s.flags ≡ true → some_await_on (format_on key sectors image) image ≡ has_dirty_region readable.geometry image
  bitmap_awaits set = rw (sym own_flag ∙ set) (ap (λ (g : Geometry). has_dirty_region g image) (sym own_geometry))

  journal_awaits : has_flag DIRTY_BITMAP s.flags ≡ false → some_await_on (format_on key sectors image) image ≡ some_await s
  journal_awaits clear = rw (sym own_flag ∙ clear) (ap some_await (sym own_fields))

-- The format that a readable image tells.
abbrev format_told : {sectors : ℕ} {image : Image} → IsReadable sectors image → ImageFormat
format_told readable = record { fields = readable.superblock; geometry = readable.geometry }

-- Without a fault it can be opened, and consent is not lacking,
opens_from : (key : Option (List ℕ)) (consent : Consent) (sectors : ℕ) (image : Image) → IsReadable sectors image → fault_of key consent sectors image ≡ None
    → IsOpenable key sectors image × (lacks_consent key consent (some_await_on (format_on key sectors image) image) ≡ false)
opens_from key consent sectors image readable none =
    let s = readable.superblock in
    let told = sym (format_of-readable sectors image readable) in
    elim (cases_Bool (has_flag DIRTY_BITMAP s.flags)) [
      | inl set ↦ (
        bitmap_openable key sectors image readable set,
        ap (lacks_consent key consent) (bitmap_awaits key sectors image readable set)
            ∙ no_lack s.flags (lacks_consent key consent (has_dirty_region readable.geometry image))
            (sym (fault_of-bitmap key consent sectors (format_told readable) image told set) ∙ none),
      )
      | inr clear ↦
          let both = neither s.flags (lacks_consent key consent (some_await s)) (journal_fault_of key (salt_of s) readable.geometry image)
          (sym (fault_of-journal key consent sectors (format_told readable) image told clear) ∙ none) in
          (IsOpenable-from key sectors image readable (λ _. both.1), ap (lacks_consent key consent) (journal_awaits key sectors image readable clear) ∙ both.0)
    ]

-- and so the other way round.
fault_from : (key : Option (List ℕ)) (consent : Consent) (sectors : ℕ) (image : Image) → IsOpenable key sectors image
    → lacks_consent key consent (some_await_on (format_on key sectors image) image) ≡ false → fault_of key consent sectors image ≡ None
fault_from key consent sectors image opens given =
    let readable = opens.readable in
    let s = readable.superblock in
    let told = sym (format_of-readable sectors image readable) in
    elim (cases_Bool (has_flag DIRTY_BITMAP s.flags)) [
      | inl set ↦
          let lacks = ap (lacks_consent key consent) (sym (bitmap_awaits key sectors image readable set)) ∙ given in
          fault_of-bitmap key consent sectors (format_told readable) image told set
          ∙ ap (λ (b : Bool). if b then Some (ByConsent s.flags) else None) lacks
      | inr clear ↦
          let lacks = ap (lacks_consent key consent) (sym (journal_awaits key sectors image readable clear)) ∙ given in
          fault_of-format key consent sectors (format_told readable) image told clear lacks
          ∙ ap (option_map ByJournal) (IsOpenable-journal key sectors image opens clear)
    ]

-- ---- for callers

pub opens_law : ReadLaw → OpensLaw
opens_law reads key consent sectors image = (
  λ none.
      let readable = (reads sectors image).0 (told-ok key consent image (format_of sectors image) none) in
      opens_from key consent sectors image readable none,
  λ given. fault_from key consent sectors image given.0 given.1,
)
