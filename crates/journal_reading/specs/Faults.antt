-- What an answer tells of the fault of a journal.
use Rattle.std.specs.Prelude.{◌≡◌, ◌≢◌, List, Option, Some, None, option_map, Result, Ok, Err}
use Rattle.std.specs.Result.{result_err}
use Rattle.disk_model.specs.Disk.{Content, last_image}
use Rattle.disk_model.specs.Moments.{HasNow}
use Rattle.image_model.specs.Geometry.{Geometry}
use Rattle.image_model.specs.Openable as model
use Rattle.hmac_tag.specs.TagMaker.{TagRule}
use Rattle.image_refusal.specs.declared.call_fault.CallFault.{CallFault}
use Rattle.image_refusal.specs.declared.call_fault.CallFault.TheVariants.{Memory, Disk, Refused}
use Rattle.image_refusal.specs.declared.journal_fault.JournalFault.{JournalFault}
pub use Rattle.image_refusal.specs.Causes.{as_fault}

-- The fault of an answer, if it is one.
abbrev pub fault_in : {T : Type 0} → Result T JournalFault → Option model.JournalFault
fault_in result = option_map as_fault (result_err result)

-- Why a journal is refused by its bytes, if that is the answer.
abbrev pub refusal_in : {T : Type 0} → Result T (CallFault JournalFault) → Option model.JournalFault
refusal_in (Ok answer) = None
refusal_in (Err Memory) = None
refusal_in (Err Disk) = None
refusal_in (Err (Refused fault)) = Some (as_fault fault)

-- Where neither memory nor the disk is what was wanting, the answer tells the fault of the journal that reads give, or
-- that it has none.
abbrev pub TellsFault : {T : Type 0} → TagRule → Geometry → Result T (CallFault JournalFault) → List Content → Type 0
TellsFault rule g result moments = result ≢ Err Memory → result ≢ Err Disk
    → HasNow (λ c. refusal_in result ≡ model.journal_fault_of rule.key rule.salt g (last_image c)) moments
