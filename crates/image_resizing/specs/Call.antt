-- What a resize tells, leaves and writes, by the image that reads gave at its start, on a disk of so many sectors and under a
-- key.
use Rattle.std.specs.Prelude.{◌≡◌, ◌≢◌, ℕ, Option, List, Result, Err}
use Rattle.disk_model.specs.Disk.{Content, last_image}
use Rattle.disk_model.specs.Moments.{EachMoment, HasNow}
use Rattle.place_model.specs.Format.{format_on}
use Rattle.resize_model.specs.Left.{IsResizedInOrder, IsResizedTo}
use Rattle.resize_model.specs.Refusals.{CanResize, resize_fault_of}
use Rattle.resize_model.specs.Resized.{resized_provided}
use Rattle.resize_model.specs.Written.{IsWrittenByResize}
use Rattle.image_refusal.specs.declared.call_fault.CallFault.{CallFault}
use Rattle.image_refusal.specs.declared.call_fault.CallFault.TheVariants.{Disk, Memory}
use Rattle.image_refusal.specs.declared.resize_fault.ResizeFault.{ResizeFault}
use Rattle.image_resizing.specs.Faults.{fault_in}
use Rattle.place_model.specs.RecoveryWrites.{IsOfRecovering}

-- The numbers are those of the sectors that the image provides and that it is to provide,
abbrev pub TellsProvided : Option (List ℕ) → (sectors : ℕ) → (before : List Content) → (told : ℕ × ℕ) → Type 0
TellsProvided key sectors before told = HasNow (λ start.
    let fields = (format_on key sectors (last_image start)).superblock in
    (told.0 ≡ fields.provided) × (told.1 ≡ resized_provided fields sectors)) before

-- and it is resized.
abbrev pub LeavesResized : Option (List ℕ) → (sectors : ℕ) → (before after : List Content) → Type 0
LeavesResized key sectors before after = HasNow (λ start. HasNow (IsResizedTo key sectors start) after) before

-- Where neither memory nor the disk failed, an answer tells why the image is refused, if it is.
abbrev pub TellsRefusal : {T : Type 0} → Option (List ℕ) → (sectors : ℕ) → List Content → Result T (CallFault ResizeFault) → Type 0
TellsRefusal key sectors before result = result ≢ Err Memory → result ≢ Err Disk
    → HasNow (λ c. fault_in result ≡ resize_fault_of key sectors (last_image c)) before

-- An image that can be resized is so in its order,
abbrev pub MovesInOrder : Option (List ℕ) → (sectors : ℕ) → (before after : List Content) → Type 0
MovesInOrder key sectors before after = HasNow (λ start. CanResize key sectors (last_image start)
    → IsResizedInOrder key sectors before after) before

-- and each moment is written by a resize.
abbrev pub WritesInOrder : Option (List ℕ) → (sectors : ℕ) → (before after : List Content) → Type 0
WritesInOrder key sectors before after = HasNow (λ start. CanResize key sectors (last_image start)
    → let d = format_on key sectors (last_image start) in
    EachMoment before after (IsWrittenByResize (IsOfRecovering d.geometry) d start)) before
