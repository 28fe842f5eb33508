-- When a call over an image fails, and what its fault says to the caller of that call.
use Rattle.std.specs.Prelude.{◌≡◌, ◌≢◌, ℕ, ◌≤◌, List, Result, Err}
use Rattle.disk_model.specs.Causes.{Rose}
use Rattle.disk_model.specs.Disk.{Content, Image, last_image}
use Rattle.disk_model.specs.Moments.{HasNow}
use Rattle.image_refusal.specs.declared.call_fault.CallFault.{CallFault}
use Rattle.image_refusal.specs.declared.call_fault.CallFault.TheVariants.{Memory, Disk, Refused}

-- The fault of a call with another name for its cause, as that of a call above it.
abbrev pub with_cause : {R S : Type 0} → (R → S) → CallFault R → CallFault S
with_cause name Memory = Memory
with_cause name Disk = Disk
with_cause name (Refused cause) = Refused (name cause)

-- A fault that refuses has the cause that the image tells which reads give.
abbrev pub TellsCause : {T R : Type 0} → (told : Image → Result T R) → List Content → CallFault R → Type 0
TellsCause {R = R} told moments fault =
    (cause : R) → fault ≡ Refused cause → HasNow (λ c. Err cause ≡ told (last_image c)) moments

-- The count of faults never falls; `Disk` comes only where it rose, and else it is as it was.
pub record HasCallCause {T R : Type 0} (before after : ℕ) (result : Result T (CallFault R)) : Type 0 where
  pub later : before ≤ after
  pub failed : result ≡ Err Disk → Rose before after
  pub passed : result ≢ Err Disk → after ≡ before

-- So it is of a fault that comes back with the disk.
pub record HasRefusalCause {R : Type 0} (before after : ℕ) (fault : CallFault R) : Type 0 where
  pub later : before ≤ after
  pub failed : fault ≡ Disk → Rose before after
  pub passed : fault ≢ Disk → after ≡ before
