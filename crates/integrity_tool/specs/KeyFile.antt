-- What the reading of a key file tells.
use Rattle.std.specs.Prelude.{◌≡◌, ℕ, List, drop, Option, Some, None, Result, Ok, Err}
use Rattle.std.specs.Option.{ForSome}
use Rattle.disk_model.specs.Causes.{Rose}
use Rattle.run_model.specs.declared.key_refusal.KeyRefusal.{KeyRefusal}
use Rattle.stream_io.specs.Stream.{TakesAtMost}
use Rattle.command_ending.specs.declared.ended.Ended.{Ended}
use Rattle.command_ending.specs.declared.ended.Ended.TheVariants as Endings
use Rattle.integrity_tool.specs.declared.top_call.Outside.{Outside}
use Rattle.command_model.specs.Outset.{key_by}
use Rattle.command_model.specs.World.{World}
use Rattle.command_model.specs.KeyFile.{HasFile, most_read}
use Rattle.run_model.specs.declared.outer.Outer.TheVariants as outers
use Rattle.command_ending.specs.declared.refusal.Refusal.TheVariants as refusals

-- P of the key that the file's bytes are, or of why they are none, whatever bytes the file has.
abbrev pub IsKeyed : Option (List ℕ) → (named : List ℕ → Option (List ℕ))
    → (Result (Option (List ℕ)) KeyRefusal → Type 0) → Type 0
IsKeyed file named P = (bytes : List ℕ) → HasFile file named bytes → P (key_by file bytes)

abbrev pub HasHash : (key : Option (List ℕ)) → Result (Option (List ℕ)) KeyRefusal → Type 0
HasHash key told = told ≡ Ok key

-- Where this ended what followed, the key file was read: its source did not fail, and there was memory.
abbrev pub HasKeyRead : Ended → Type 0
HasKeyRead (Endings.Failed outers.Key) = ⊥
HasKeyRead Endings.Memory = ⊥
HasKeyRead ended = Unit {0}

-- What is read for a key: nothing where there is no key file, so that the source is the same; and of a file at most so
-- many of its first bytes, whatever comes of it, and all of those where it is read.
abbrev pub ReadsKey : {K : Type 0} → Option (List ℕ) → (K → List ℕ → Option (List ℕ)) → (K → Option (List ℕ))
    → (key used : K) → (is_read : Type 0) → Type 0
ReadsKey None named left key used is_read = used ≡ key
ReadsKey (Some file) named left key used is_read = ForSome (named key file) (λ bytes.
    TakesAtMost most_read (Some bytes) (named used file) × (is_read → left used ≡ Some (drop most_read bytes)))

-- The same, of all that lies outside.
abbrev pub ReadsKeyFile : {D E K S O : Type 0} → Option (List ℕ) → (Outside D E K S O → World)
    → (first last : Outside D E K S O) → (is_read : Type 0) → Type 0
ReadsKeyFile None world first last is_read = last.key.now ≡ first.key.now
ReadsKeyFile (Some file) world first last is_read = ForSome ((world first).keys file) (λ bytes.
    TakesAtMost most_read (Some bytes) ((world last).keys file)
    × (is_read → (world last).key ≡ Some (drop most_read bytes)))

-- Why there is no key: its bytes are none, its source failed, or there is no memory.
abbrev pub IsKeyRefused : Option (List ℕ) → (named : List ℕ → Option (List ℕ)) → (faults_before faults : ℕ)
    → Ended → Type 0
IsKeyRefused file named faults_before faults (Endings.Refused (refusals.Key refusal)) =
    IsKeyed file named (λ told. told ≡ Err refusal)
IsKeyRefused file named faults_before faults (Endings.Failed outers.Key) = Rose faults_before faults
IsKeyRefused file named faults_before faults Endings.Memory = Unit {0}
IsKeyRefused file named faults_before faults ended = ⊥
