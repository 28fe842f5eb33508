-- The index of a journal that was judged, and its fault.
use Rattle.std.proofs.Common.{◌≡◌, ℕ, true, false, refl, sym, ap, ◌∙◌, Option, None, Err, List}
use Rattle.disk_model.specs.Disk.{Content, Image, last_image}
use Rattle.image_model.specs.declared.flags.TheConstants.{DIRTY_BITMAP}
use Rattle.image_model.specs.Cells.{salt_of}
use Rattle.image_model.specs.Geometry.{Geometry}
use Rattle.image_model.specs.Openable.{journal_fault_of}
use Rattle.image_model.specs.Superblock.{has_flag}
use Rattle.image_model.proofs.OpenableLemmas.{journal_fault_law}
use Rattle.image_refusal.specs.declared.call_fault.CallFault.{CallFault}
use Rattle.image_refusal.specs.declared.call_fault.CallFault.TheVariants.{Memory, Disk, Refused}
use Rattle.image_refusal.specs.declared.open_fault.HeadFault.{HeadFault}
use Rattle.image_refusal.specs.declared.open_fault.OpenFault.TheVariants.{Head}
use Rattle.image_refusal.specs.Calls.{TellsCause, with_cause}
use Rattle.image_format.specs.declared.reading.ImageFormat.{ImageFormat}
use Rattle.image_format.specs.Format.{format_of}
use Rattle.hmac_tag.specs.TagMaker.{TagRule}
use Rattle.journal_reading.specs.declared.reading.JudgedJournal.{JudgedJournal}
use Rattle.journal_reading.specs.Journal.{IsJudgedOn}
use Rattle.journal_reading.specs.Newest.{newest_in}
use Rattle.journal_reading.proofs.IndexLemmas.{index-some}
use Rattle.judging_model.specs.Faults.{fault_by}
use Rattle.image_model.specs.declared.judged.What.{What}
use Rattle.image_model.specs.declared.judged.What.TheVariants.{Cells}
use Rattle.check_model.specs.Faults.{TellsFault, fault_for, journal_fault_for}
use Rattle.image_check.specs.Index.{IsIndexOn}

-- The newest entries of a journal in which nothing is refused are its index.
pub index_on : (rule : TagRule) (g : Geometry) (image : Image) (journal : JudgedJournal) → IsJudgedOn rule g image journal → IsIndexOn rule.key rule.salt g image journal.newest
index_on rule g image journal judged = record {
  each = λ b. index-some g image (newest_in journal.newest) judged.on.newest_ b;
  right = ((journal_fault_law rule.key rule.salt g image).0 judged.right).1;
}

-- With a bitmap no fault of a journal is told,
pub no_fault : (key : Option (List ℕ)) (format : ImageFormat) (image : Image) → has_flag DIRTY_BITMAP format.fields.flags ≡ true → journal_fault_for Cells key format image ≡ None
no_fault key format image set = rw set refl

-- and without one the journal's is, under the salt of the image.
pub own_fault : (key salt : Option (List ℕ)) (format : ImageFormat) (image : Image) → salt ≡ salt_of format.fields → has_flag DIRTY_BITMAP format.fields.flags ≡ false
    → journal_fault_for Cells key format image ≡ journal_fault_of key salt format.geometry image
own_fault key salt format image same clear =
    let own : journal_fault_for Cells key format image ≡ journal_fault_of key (salt_of format.fields) format.geometry image = rw clear refl in
    own ∙ ap (λ (x : Option (List ℕ)). journal_fault_of key x format.geometry image) (sym same)

-- The fault of reading a format is the one that the image has.
pub head_told : (T : Type 0) (what : What) (key : Option (List ℕ)) (sectors : ℕ) (moments : List Content) (fault : CallFault HeadFault) → TellsCause (format_of sectors) moments fault
    → TellsFault {T = T} (Err (with_cause Head fault)) (fault_for what key sectors) moments
head_told T what key sectors moments Memory told some well = absurd (some refl)
head_told T what key sectors moments Disk told some well = absurd (well refl)
head_told T what key sectors moments (Refused cause) told some well = λ x now.
    ap (fault_by (λ format. journal_fault_for what key format (last_image x))) (told cause refl x now)
