-- Endings, computed: their statuses and their last lines.
use Rattle.std.proofs.Common.{◌≡◌, true, false, [], refl}
use Rattle.std.specs.Prelude.{codes}
use Rattle.std.specs.Fmt.{digits}
use Rattle.image_model.specs.declared.super_fields.SuperFault.TheVariants.{Version}
use Rattle.device_model.specs.Refusals.{ByConsent, BySuperblock, ByWords as ByForm}
use Rattle.device_model.specs.LineFault.{WrongNumber}
use Rattle.run_model.specs.declared.key_refusal.KeyRefusal.TheVariants.{Long}
use Rattle.run_model.specs.declared.outer.Outer.TheVariants.{Disk, Key, Script, Sink}
use Rattle.run_model.specs.Ending.{Complete, Refused, Failed, NoMemory, ByWords, ByKey, ByImage, BySecond, ByLegs, ByLine, ByLength}
use Rattle.run_model.specs.Ending.{status_of, fault_text}

status_of-each : (status_of (Complete false) ≡ 0) × (status_of (Complete true) ≡ 1)
    × (status_of (Refused ByWords) ≡ 2) × (status_of (Refused (ByKey Long)) ≡ 2)
    × (status_of (Refused (ByLine 7 (ByForm (WrongNumber [])))) ≡ 2) × (status_of (Refused ByLength) ≡ 2)
    × (status_of (Refused (ByImage (ByConsent 12))) ≡ 3) × (status_of (Refused (BySecond (ByConsent 12))) ≡ 3)
    × (status_of (Refused (ByLegs 80 512 208 512)) ≡ 3) × (status_of (Failed Disk) ≡ 4) × (status_of (Failed Key) ≡ 5)
    × (status_of (Failed Script) ≡ 5) × (status_of (Failed Sink) ≡ 6) × (status_of NoMemory ≡ 7)
status_of-each = (refl, refl, refl, refl, refl, refl, refl, refl, refl, refl, refl, refl, refl, refl)

fault_text-refused : (fault_text (Refused ByWords) ≡ codes "fault words\n")
    × (fault_text (Refused (ByKey Long)) ≡ codes "fault key long\n")
    × (fault_text (Refused (ByImage (BySuperblock (Version 6)))) ≡ codes "fault image version 6\n")
    × (fault_text (Refused (BySecond (BySuperblock (Version 6)))) ≡ codes "fault second version 6\n")
    × (fault_text (Refused (ByLegs 80 512 208 512)) ≡ codes "fault legs 80 512 208 512\n")
    × (fault_text (Refused (ByLine 7 (ByForm (WrongNumber (codes "08"))))) ≡ codes "fault line 7 number 08\n")
    × (fault_text (Refused ByLength) ≡ codes "fault script long\n")
unfolding digits
fault_text-refused = (refl, refl, refl, refl, refl, refl, refl)

fault_text-failed : (fault_text (Failed Disk) ≡ codes "fault disk\n") × (fault_text (Failed Key) ≡ codes "fault key\n")
    × (fault_text (Failed Script) ≡ codes "fault script\n") × (fault_text (Failed Sink) ≡ [])
    × (fault_text NoMemory ≡ codes "fault memory\n") × (fault_text (Complete true) ≡ [])
fault_text-failed = (refl, refl, refl, refl, refl, refl)
