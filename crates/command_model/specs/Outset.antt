-- What a command starts on, by its key's bytes and by why its image is refused; and where the blocks of that lie.
-- Own: the key is judged before the image.
use Rattle.std.specs.Prelude.{ℕ, ◌==◌, ltb, if◌then◌else◌, List, length, Option, Some, None, Result, Ok, Err}
use Rattle.disk_model.specs.Disk.{Image}
use Rattle.image_model.specs.Geometry.{Geometry}
use Rattle.place_model.specs.Format.{format_on}
use Rattle.judging_model.specs.Faults.{ImageFault}
use Rattle.run_model.specs.declared.key_refusal.KeyRefusal.{KeyRefusal}
use Rattle.run_model.specs.declared.key_refusal.KeyRefusal.TheVariants.{Empty, Long}
use Rattle.run_model.specs.CommandRun.{Outset, RefusedBy}
use Rattle.command_model.specs.Refusing.{ending_by_refusal}

-- A key has at most so many bytes.
abbrev pub most_key : ℕ
most_key = 4096

-- The key that these bytes are, or why they are none.
abbrev pub key_in : List ℕ → Result (List ℕ) KeyRefusal
key_in bytes = if length bytes == 0 then Err Empty else if ltb most_key (length bytes) then Err Long else Ok bytes

abbrev pub keyed : Result (List ℕ) KeyRefusal → Result (Option (List ℕ)) KeyRefusal
keyed (Ok key) = Ok (Some key)
keyed (Err refusal) = Err refusal

-- The key of the tags, where a key file has these bytes. Tags without a key look at no file.
abbrev pub key_by : Option (List ℕ) → (bytes : List ℕ) → Result (Option (List ℕ)) KeyRefusal
key_by None bytes = Ok None
key_by (Some file) bytes = keyed (key_in bytes)

-- By why the image is refused, if it is: it is begun so on a device that opens it, or it is refused.
abbrev pub judged_outset : (begun : Outset) → Option ImageFault → Outset
judged_outset begun None = begun
judged_outset begun (Some refusal) = RefusedBy (ending_by_refusal refusal)

-- Where the blocks and tags of an image lie, by its superblock.
abbrev pub geometry_on : (sectors : ℕ) → Image → Geometry
geometry_on sectors image = (format_on None sectors image).geometry
