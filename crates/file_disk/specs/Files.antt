-- What a call of a file may do: a part of what it is asked, nothing as it was interrupted, or fail.
-- Own: a file is seen by its whole sectors, and a call of it does whole sectors.
use Rattle.std.specs.Prelude.{◌≡◌, ◌⊎◌, ℕ, ◌+◌, ◌*◌, ◌/◌, ◌<◌, ◌≤◌, List, Option, Some, None, Result, Err, OnOk}
use Rattle.disk_model.specs.Causes.{HasCause, Rose}
use Rattle.std.specs.Option.{ForSome}
use Rattle.disk_model.specs.Disk.{Content, IsRun}
use Rattle.disk_model.specs.Identity.{DiskIdentity, IsBoundTo, NamedDisk, Unbound}
use Rattle.disk_model.specs.Moments.{content_now}
use Rattle.file_disk.specs.declared.sector_file.Access.{Access}
use Rattle.file_disk.specs.declared.sector_file.Access.TheVariants.{Read, Write}
use Rattle.file_disk.specs.declared.sector_file.FileFault.{FileFault}
use Rattle.file_disk.specs.declared.sector_file.FileFault.TheVariants.{Interrupted, Failed}

-- So many bytes from byte `from` on are whole sectors of a file that has so many, at least one.
pub record IsFileRun (from bytes sectors : ℕ) : Type 0 where
  pub begins : from ≡ 512 * (from / 512)
  pub run : IsRun (from / 512) bytes sectors

-- A call did so many of the bytes that it was given: whole sectors, at least one.
pub record IsPart (count bytes : ℕ) : Type 0 where
  pub whole : count ≡ 512 * (count / 512)
  pub some : 1 ≤ count / 512
  pub within : count ≤ bytes

-- The count of faults rose where the call failed, and else stays. A call can be interrupted so many times more, and
-- once less where it was.
pub record HasFileCause {T : Type 0} (faults later_faults times later_times : ℕ) (result : Result T FileFault) : Type 0 where
  pub later : faults ≤ later_faults
  pub fewer : later_times ≤ times
  pub failed : result ≡ Err Failed → Rose faults later_faults
  pub passed : OnOk result (later_faults ≡ faults)
  pub no_fault : result ≡ Err Interrupted → later_faults ≡ faults
  pub interrupted : result ≡ Err Interrupted → later_times < times

-- What is told of a file that is open, or else.
abbrev pub of_file : {F T : Type 0} → T → (F → T) → Option F → T
of_file else told None = else
of_file else told (Some file) = told file

-- What a file has under the name that it was opened by, or what is there where none is open.
abbrev pub named_as : {F : Type 0} → (F → DiskIdentity) → (F → List Content) → NamedDisk → Option F → NamedDisk
named_as identity moments else None = else
named_as identity moments else (Some file) = record { sectors = (identity file).sectors; moments = moments file }

-- Both tell the same of a name, where the first tells its content.
pub record TellsSame (first second : NamedDisk) : Type 0 where
  pub is : ForSome (content_now first.moments) (λ c. second ≡ first)

-- A disk that has no file yet.
abbrev pub no_disk : DiskIdentity
no_disk = record { name = Unbound; sectors = 0 }

-- ---- over a folder and the file that is open of it, if one is

-- Both tell the same of what stands under a name,
abbrev pub TellsSameOf : {O F : Type 0} → (O → List ℕ → NamedDisk) → (F → DiskIdentity) → (F → List Content)
    → (name : List ℕ) → O → Option F → O → Option F → Type 0
TellsSameOf named identity moments name folder file later_folder later_file =
    TellsSame (named_as identity moments (named folder name) file)
    (named_as identity moments (named later_folder name) later_file)

-- and a call fails only where their faults rose, with those that are counted beside them.
abbrev pub HasCauseOf : {T E O F : Type 0} → (O → ℕ) → (F → ℕ) → (own : ℕ) → O → Option F → (later : ℕ) → O → Option F
    → Result T E → Type 0
HasCauseOf folder_faults file_faults own folder file later later_folder later_file result =
    HasCause (own + (folder_faults folder + of_file 0 file_faults file))
    (later + (folder_faults later_folder + of_file 0 file_faults later_file)) result

-- The file is open for writes,
abbrev pub IsForWrites : {F : Type 0} → (F → Access) → Option F → Type 0
IsForWrites access file = of_file Read access file ≡ Write

-- or no more than reads are asked for.
abbrev pub ServesFor : {F : Type 0} → (F → Access) → Option F → (asked : Access) → Type 0
ServesFor access file asked = IsForWrites access file ⊎ (asked ≡ Read)

-- A bind to the name that it has, for what it serves, changes nothing.
abbrev pub BindsAgain : {F M : Type 0} → (F → DiskIdentity) → (name : List ℕ) → Option F → (serves is_ok : Type 0)
    → (old new : M) → Type 0
BindsAgain identity name file serves is_ok old new =
    IsBoundTo name (of_file no_disk identity file).name → serves → is_ok × (new ≡ old)
