-- Why a line of a script is refused, or an image, and what is told of it.
-- Own: the texts.
use Rattle.std.specs.Prelude.{ℕ, false, List, ◌++◌, codes}
use Rattle.std.specs.Fmt.{decimal, digits}
use Rattle.hex.specs.Hex.{encode_lower}
use Rattle.image_model.specs.declared.geom_fault.GeomFault.{GeomFault}
use Rattle.image_model.specs.declared.geom_fault.GeomFault.TheVariants.{DeviceTooLarge, JournalTooLarge, TooSmall, BitmapTooLarge}
use Rattle.image_model.specs.declared.scan_fault.ScanFault.{ScanFault}
use Rattle.image_model.specs.declared.scan_fault.ScanFault.TheVariants.{NoNumber, FourNumbers}
use Rattle.image_model.specs.declared.super_fields.SuperFault.{SuperFault}
use Rattle.image_model.specs.declared.super_fields.SuperFault.TheVariants.{Magic, Version, JournalMac, Inline, Flags, Interleave, BlockSize, TagSize, Sections, Provided}
use Rattle.image_model.specs.Openable.{JournalFault, Scan, JournalBlock, JournalTag}
use Rattle.device_model.specs.LineFault.{WordsFault, words_fault_text}
use Rattle.device_model.specs.Script.{MeaningFault, meaning_text}

-- Why a line of a script is refused: its bytes are no line; or the line is not to be run on this device as it is.
pub data LineFault : Type 0 where
  ByWords : (fault : WordsFault) → LineFault
  ByMeaning : (fault : MeaningFault) → LineFault

-- Why an image is refused: its superblock is not accepted; the disk has no room for what that says; tags under a key
-- would be made anew without consent; or its journal has no plan, or an entry that may not be replayed.
pub data ImageFault : Type 0 where
  BySuperblock : (fault : SuperFault) → ImageFault
  ByGeometry : (fault : GeomFault) → ImageFault
  ByConsent : (flags : ℕ) → ImageFault
  ByJournal : (fault : JournalFault) → ImageFault

abbrev pub line_fault_text : LineFault → List ℕ
line_fault_text (ByWords fault) = words_fault_text fault
line_fault_text (ByMeaning fault) = meaning_text fault

-- A number in hexadecimal digits, without leading zeros.
abbrev pub hexadecimal : ℕ → List ℕ
hexadecimal n = codes "0x" ++ digits 16 false n

abbrev pub superblock_fault_text : SuperFault → List ℕ
superblock_fault_text Magic = codes "magic"
superblock_fault_text (Version v) = codes "version " ++ decimal v
superblock_fault_text (JournalMac flags) = codes "journal mac " ++ hexadecimal flags
superblock_fault_text (Inline flags) = codes "inline " ++ hexadecimal flags
superblock_fault_text (Flags unknown) = codes "flags " ++ hexadecimal unknown
superblock_fault_text (Interleave v) = codes "interleave " ++ decimal v
superblock_fault_text (BlockSize v) = codes "block size " ++ decimal v
superblock_fault_text (TagSize v) = codes "tag size " ++ decimal v
superblock_fault_text (Sections v) = codes "sections " ++ decimal v
superblock_fault_text (Provided v) = codes "provided " ++ decimal v

abbrev pub geometry_fault_text : GeomFault → List ℕ
geometry_fault_text (DeviceTooLarge have) = codes "device too large " ++ decimal have
geometry_fault_text (JournalTooLarge sectors) = codes "journal too large " ++ decimal sectors
geometry_fault_text (TooSmall have need) = codes "too small " ++ decimal have ++ codes " " ++ decimal need
geometry_fault_text (BitmapTooLarge need have) = codes "bitmap too large " ++ decimal need ++ codes " " ++ decimal have

abbrev pub scan_fault_text : ScanFault → List ℕ
scan_fault_text (NoNumber section sector found) =
    codes "number " ++ decimal section ++ codes " " ++ decimal sector
scan_fault_text (FourNumbers places) = codes "four numbers"

abbrev pub journal_fault_text : JournalFault → List ℕ
journal_fault_text (Scan fault) = scan_fault_text fault
journal_fault_text (JournalBlock section entry sector) =
    codes "journal block " ++ decimal section ++ codes " " ++ decimal entry ++ codes " " ++ decimal sector
journal_fault_text (JournalTag section entry stored computed) =
    codes "journal tag " ++ decimal section ++ codes " " ++ decimal entry
    ++ codes " stored " ++ encode_lower stored ++ codes " computed " ++ encode_lower computed

abbrev pub image_fault_text : ImageFault → List ℕ
image_fault_text (BySuperblock fault) = superblock_fault_text fault
image_fault_text (ByGeometry fault) = geometry_fault_text fault
image_fault_text (ByConsent flags) = codes "consent " ++ hexadecimal flags
image_fault_text (ByJournal fault) = journal_fault_text fault
