-- What one fault of a call says of another.
use Rattle.std.proofs.Common.{◌≡◌, refl, subst, List, Result, Err}
use Rattle.disk_model.specs.Disk.{Content, Image, last_image}
use Rattle.disk_model.specs.Moments.{HasNow}
use Rattle.image_refusal.specs.declared.call_fault.CallFault.{CallFault}
use Rattle.image_refusal.specs.declared.call_fault.CallFault.TheVariants.{Memory, Disk, Refused}
use Rattle.image_refusal.specs.Calls.{TellsCause, with_cause}

-- Refusals that are the same have the same cause.
pub same_cause : {R : Type 0} {x y : R} → ◌≡◌ {A = CallFault R} (Refused x) (Refused y) → x ≡ y
same_cause {R} {x} {y} e = cc

-- Want of memory, and a failed disk, are one also as a fault of the other call.
pub with_cause-memory : {R S : Type 0} (name : R → S) (fault : CallFault R) → with_cause name fault ≡ Memory → fault ≡ Memory
with_cause-memory name Memory e = refl
with_cause-memory name Disk e = absurd (cc)
with_cause-memory name (Refused cause) e = absurd (cc)

pub with_cause-disk : {R S : Type 0} (name : R → S) (fault : CallFault R) → with_cause name fault ≡ Disk → fault ≡ Disk
with_cause-disk name Memory e = absurd (cc)
with_cause-disk name Disk e = refl
with_cause-disk name (Refused cause) e = absurd (cc)

-- A refusal tells its cause,
pub TellsCause-refused : {T R : Type 0} (told : Image → Result T R) (moments : List Content) (cause : R) → HasNow (λ c. Err cause ≡ told (last_image c)) moments → TellsCause told moments (Refused cause)
TellsCause-refused {T} {R} told moments cause is other same c now =
    subst (λ (x : R). let r : Result T R = Err x in r ≡ told (last_image c)) (same_cause same) (is c now)

-- and so it does as that of another call.
pub TellsCause-named : {T U R S : Type 0} (name : R → S) (told : Image → Result T R) (then : Image → Result U S) (moments : List Content) (fault : CallFault R)
    → ((image : Image) (cause : R) → Err cause ≡ told image → Err (name cause) ≡ then image) → TellsCause told moments fault → TellsCause then moments (with_cause name fault)
TellsCause-named name told then moments Memory by is other same = absurd (cc)
TellsCause-named name told then moments Disk by is other same = absurd (cc)
TellsCause-named name told then moments (Refused cause) by is other same =
    TellsCause-refused then moments (name cause) (λ c now. by (last_image c) cause (is cause refl c now)) other same
