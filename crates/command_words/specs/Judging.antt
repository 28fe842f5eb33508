-- Which command the words give: the values of its places and options, and the rules between them.
-- Own, but for what integritysetup(8) has under the same names.
use Rattle.std.specs.Prelude.{◌==◌, ℕ, Bool, false, List, Option, Some, None, if◌then◌else◌, option_and_then}
use Rattle.std.specs.Prelude.{option_map, unwrap_or, codes}
use Rattle.std.specs.Option.{option_map_or}
use Rattle.std.specs.Str.{bytes_eq}
use Rattle.std.specs.Result.{result_ok}
use Rattle.hex.specs.Hex.{decode_sized}
use Rattle.command_words.specs.Table.{Text}
use Rattle.command_words.specs.Numbers.{interleave_of, number_of, number_within}
use Rattle.command_words.specs.Given.{◌>>=◌, Given, has, value_or}
use Rattle.command_words.specs.declared.command.Command.{Command}
use Rattle.command_words.specs.declared.command.Command.TheVariants as command
use Rattle.command_words.specs.declared.values.BlockSize.{BlockSize}
use Rattle.command_words.specs.declared.values.BlockSize.TheVariants.{Bytes512, Bytes1024, Bytes2048, Bytes4096}
use Rattle.image_model.specs.declared.judged.What.{What}
use Rattle.image_model.specs.declared.judged.What.TheVariants.{Cells, Placed}
use Rattle.command_words.specs.declared.values.Consent.{Consent}
use Rattle.command_words.specs.declared.values.Consent.TheVariants as consents
use Rattle.command_words.specs.declared.values.HashChoice.{HashChoice}
use Rattle.command_words.specs.declared.values.HashChoice.TheVariants.{Sha256, HmacSha256}
use Rattle.image_model.specs.declared.new_image.ImageMode.{ImageMode}
use Rattle.image_model.specs.declared.new_image.ImageMode.TheVariants as images
use Rattle.command_words.specs.declared.values.Mode.{Mode}
use Rattle.command_words.specs.declared.values.Mode.TheVariants.{Journal, Direct, Bitmap, Recovery}
use Rattle.command_words.specs.declared.values.NbdMode.{NbdMode}
use Rattle.command_words.specs.declared.values.NbdMode.TheVariants as sessions
use Rattle.image_model.specs.declared.new_image.Padding.{Padding}
use Rattle.image_model.specs.declared.new_image.Padding.TheVariants.{Fixed, Legacy}
use Rattle.image_model.specs.declared.new_image.Wipe.{Wipe}
use Rattle.image_model.specs.declared.new_image.Wipe.TheVariants as wipe

-- The hash that needs no key, where no key is given.
abbrev pub keyless_hash : Option Text → Option HashChoice
keyless_hash None = Some Sha256
keyless_hash (Some key_file) = None

-- The hash, by its name and by the file of its key. The file is given exactly where the hash is keyed.
abbrev pub hash_named : Text → Option Text → Option HashChoice
hash_named name key_file =
    if bytes_eq name (codes "sha256") then keyless_hash key_file
    else if bytes_eq name (codes "hmac-sha256") then option_map (λ file. HmacSha256 file) key_file
    else None

abbrev pub hash_of : Given → Option HashChoice
hash_of given =
    hash_named (unwrap_or (given (codes "integrity")) (codes "sha256")) (given (codes "integrity-key-file"))

-- The mode of a run.
abbrev pub mode_named : Text → Option Mode
mode_named text =
    if bytes_eq text (codes "J") then Some Journal
    else if bytes_eq text (codes "D") then Some Direct
    else if bytes_eq text (codes "B") then Some Bitmap
    else if bytes_eq text (codes "R") then Some Recovery
    else None

-- The mode of an NBD session: recovery mode, which refuses writes, is none.
abbrev pub nbd_mode_named : Text → Option NbdMode
nbd_mode_named text =
    if bytes_eq text (codes "J") then Some sessions.Journal
    else if bytes_eq text (codes "D") then Some sessions.Direct
    else if bytes_eq text (codes "B") then Some sessions.Bitmap
    else None

-- The mode of a mirror is named, and is journal mode.
abbrev pub names_journal : Given → Bool
names_journal given = option_map_or (λ text. bytes_eq text (codes "J")) (given (codes "mode")) false

-- The text, if it is another word.
abbrev pub other_than : (word text : Text) → Option Text
other_than word text = if bytes_eq text word then None else Some text

-- The mode of a new image.
abbrev pub image_mode_named : Text → Option ImageMode
image_mode_named text =
    if bytes_eq text (codes "J") then Some images.Journal
    else if bytes_eq text (codes "B") then Some images.Bitmap
    else None

abbrev pub image_mode_or_journal : Option Text → Option ImageMode
image_mode_or_journal text = value_or images.Journal image_mode_named text

abbrev pub consent_of : Given → Consent
consent_of given = if has given (codes "integrity-legacy-recalculate") then consents.Given else consents.Withheld

abbrev pub block_size_of : ℕ → Option BlockSize
block_size_of bytes =
    if bytes == 512 then Some Bytes512
    else if bytes == 1024 then Some Bytes1024
    else if bytes == 2048 then Some Bytes2048
    else if bytes == 4096 then Some Bytes4096
    else None

abbrev pub block_size_named : Text → Option BlockSize
block_size_named text = option_and_then block_size_of (number_of text)

abbrev pub interleave_named : Text → Option ℕ
interleave_named text = option_and_then interleave_of (number_of text)

-- The salt that 32 hexadecimal digits of either case write.
abbrev pub salt_named : Text → Option (Option (List ℕ))
salt_named text = option_map (λ salt. Some salt) (result_ok (decode_sized text 16))

abbrev pub padding_of : Given → Padding
padding_of given = if has given (codes "integrity-legacy-padding") then Legacy else Fixed

-- Where tags are to be recalculated no block is wiped.
abbrev pub wipe_of : Given → Wipe
wipe_of given =
    if has given (codes "recalculate") then wipe.Recalculated else
    if has given (codes "no-wipe") then wipe.Kept else wipe.Wiped

abbrev pub checked_of : Given → What
checked_of given = if has given (codes "placed") then Placed else Cells

abbrev pub tag_size_of : Given → Option ℕ
tag_size_of given = value_or 32 (number_within 1 32) (given (codes "tag-size"))

abbrev pub block_size_or_512 : Option Text → Option BlockSize
block_size_or_512 text = value_or Bytes512 block_size_named text

abbrev pub interleave_or_32768 : Option Text → Option ℕ
interleave_or_32768 text = value_or 32768 interleave_named text

abbrev pub sections_of : Given → Option ℕ
sections_of given = value_or 4 (number_within 1 1048576) (given (codes "sections"))

abbrev pub log2_blocks_per_bit_of : Given → Option ℕ
log2_blocks_per_bit_of given = value_or 15 (number_within 0 47) (given (codes "log2-blocks-per-bit"))

abbrev pub salt_or_none : Option Text → Option (Option (List ℕ))
salt_or_none text = value_or None salt_named text

abbrev pub format_of : Given → Option Command
format_of given = do
  image ← given (codes "IMAGE")
  hash ← hash_of given
  tag_size ← tag_size_of given
  block_size ← block_size_or_512 (given (codes "sector-size"))
  interleave ← interleave_or_32768 (given (codes "interleave-sectors"))
  sections ← sections_of given
  log2_blocks_per_bit ← log2_blocks_per_bit_of given
  salt ← salt_or_none (given (codes "salt"))
  mode ← image_mode_or_journal (given (codes "mode"))
  Some (command.Format (record {
    image = image;
    hash = hash;
    tag_size = tag_size;
    block_size = block_size;
    interleave = interleave;
    sections = sections;
    log2_blocks_per_bit = log2_blocks_per_bit;
    salt = salt;
    padding = padding_of given;
    mode = mode;
    wipe = wipe_of given;
  }))

abbrev pub run_of : Given → Option Command
run_of given = do
  image ← given (codes "IMAGE")
  mode ← option_and_then mode_named (given (codes "mode"))
  hash ← hash_of given
  Some (command.Run (record { image = image; mode = mode; hash = hash; consent = consent_of given }))

abbrev pub nbd_of : Given → Option Command
nbd_of given = do
  image ← given (codes "IMAGE")
  mode ← option_and_then nbd_mode_named (given (codes "mode"))
  hash ← hash_of given
  Some (command.Nbd (record { image = image; mode = mode; hash = hash; consent = consent_of given }))

abbrev pub mirror_of : Given → Option Command
mirror_of given = do
  image ← given (codes "IMAGE")
  second ← option_and_then (other_than image) (given (codes "SECOND"))
  hash ← hash_of given
  if names_journal given
      then Some (command.Mirror (record { image = image; second = second; hash = hash; consent = consent_of given }))
      else None

abbrev pub dump_of : Given → Option Command
dump_of given = do
  image ← given (codes "IMAGE")
  Some (command.Dump (record { image = image }))

abbrev pub check_of : Given → Option Command
check_of given = do
  image ← given (codes "IMAGE")
  hash ← hash_of given
  Some (command.Check (record { image = image; hash = hash; checked = checked_of given }))

abbrev pub salvage_of : Given → Option Command
salvage_of given = do
  image ← given (codes "IMAGE")
  hash ← hash_of given
  Some (command.Salvage (record { image = image; hash = hash }))

abbrev pub resize_of : Given → Option Command
resize_of given = do
  image ← given (codes "IMAGE")
  hash ← hash_of given
  Some (command.Resize (record { image = image; hash = hash }))

abbrev pub exercise_of : Given → Option Command
exercise_of given = do
  image ← given (codes "IMAGE")
  seed ← option_and_then number_of (given (codes "SEED"))
  count ← option_and_then (number_within 0 1000000) (given (codes "COUNT"))
  Some (command.Exercise (record { image = image; seed = seed; count = count }))

-- The command of this name, with what the words give it.
abbrev pub command_named : Text → Given → Option Command
command_named name given =
    if bytes_eq name (codes "format") then format_of given
    else if bytes_eq name (codes "run") then run_of given
    else if bytes_eq name (codes "nbd") then nbd_of given
    else if bytes_eq name (codes "mirror") then mirror_of given
    else if bytes_eq name (codes "dump") then dump_of given
    else if bytes_eq name (codes "check") then check_of given
    else if bytes_eq name (codes "salvage") then salvage_of given
    else if bytes_eq name (codes "resize") then resize_of given
    else if bytes_eq name (codes "exercise") then exercise_of given
    else None
