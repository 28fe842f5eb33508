-- Values from outside, computed from the definitions.
use Rattle.std.proofs.Common.{◌≡◌, refl, codes, [], ◌∷◌, Some, None}
use Rattle.std.specs.Fmt.{digits}
use Rattle.std.specs.Int.Count.{ones}
use Rattle.clap.proofs.OnLiterals.{clap_on_literals}
use Rattle.command_words.specs.Numbers.{interleave_of, number_of, number_within}
use Rattle.command_words.specs.Commands.{command_of}
use Rattle.command_words.specs.declared.command.Command.TheVariants as command
use Rattle.command_words.specs.declared.values.Consent.TheVariants.{Given, Withheld}
use Rattle.command_words.specs.declared.values.HashChoice.TheVariants.{Sha256, HmacSha256}
use Rattle.command_words.specs.declared.values.BlockSize.TheVariants.{Bytes512}
use Rattle.image_model.specs.declared.new_image.ImageMode.TheVariants as images
use Rattle.image_model.specs.declared.new_image.Padding.TheVariants.{Fixed}
use Rattle.image_model.specs.declared.new_image.Wipe.TheVariants.{Recalculated, Wiped}
use Rattle.command_words.specs.declared.values.Mode.TheVariants.{Bitmap, Direct, Journal, Recovery}
use Rattle.command_words.specs.declared.values.NbdMode.TheVariants as sessions

-- The largest number of 64 bits, and one more: 2^64 - 1 and 2^64.
number_of-largest : number_of (codes "18446744073709551615") ≡ Some 18446744073709551615
unfolding digits
number_of-largest = refl

number_of-too_large : number_of (codes "18446744073709551616") ≡ None
unfolding digits
number_of-too_large = refl

number_of-zero : number_of (codes "0") ≡ Some 0
unfolding digits
number_of-zero = refl

number_of-leading_zero : number_of (codes "01") ≡ None
unfolding digits
number_of-leading_zero = refl

number_of-plus : number_of (codes "+1") ≡ None
unfolding digits
number_of-plus = refl

number_of-none : number_of [] ≡ None
unfolding digits
number_of-none = refl

number_within-end : number_within 1 32 (codes "32") ≡ Some 32
unfolding digits
number_within-end = refl

number_within-beyond : number_within 1 32 (codes "33") ≡ None
unfolding digits
number_within-beyond = refl

interleave_of-least : interleave_of 8 ≡ Some 8
unfolding ones
interleave_of-least = refl

interleave_of-no_power : interleave_of 24 ≡ None
unfolding ones
interleave_of-no_power = refl

-- What `clap` makes of such words: an option may stand before the image, and its value behind `=`.
command_of-equals : command_of (codes "integrity" ∷ codes "run" ∷ codes "--mode=D" ∷ codes "I" ∷ [])
    ≡ Some (command.Run (record { image = codes "I"; mode = Direct; hash = Sha256; consent = Withheld }))
unfolding clap_on_literals
command_of-equals = refl

-- An option may be given once, and a mode is `J`, `D`, `B` or `R`.
command_of-twice : command_of (codes "integrity" ∷ codes "run" ∷ codes "I" ∷ codes "--mode" ∷ codes "D"
    ∷ codes "--mode" ∷ codes "D" ∷ []) ≡ None
unfolding clap_on_literals
command_of-twice = refl

command_of-other_mode : command_of (codes "integrity" ∷ codes "run" ∷ codes "I" ∷ codes "--mode" ∷ codes "X" ∷ [])
    ≡ None
unfolding clap_on_literals
command_of-other_mode = refl

command_of-recovery : command_of (codes "integrity" ∷ codes "run" ∷ codes "I" ∷ codes "--mode" ∷ codes "R" ∷ [])
    ≡ Some (command.Run (record { image = codes "I"; mode = Recovery; hash = Sha256; consent = Withheld }))
unfolding clap_on_literals
command_of-recovery = refl

-- Consent may be given in every mode, with a key or without.
command_of-bitmap : command_of (codes "integrity" ∷ codes "run" ∷ codes "I" ∷ codes "--mode" ∷ codes "B" ∷ [])
    ≡ Some (command.Run (record { image = codes "I"; mode = Bitmap; hash = Sha256; consent = Withheld }))
unfolding clap_on_literals
command_of-bitmap = refl

command_of-consent : command_of (codes "integrity" ∷ codes "run" ∷ codes "I" ∷ codes "--mode" ∷ codes "B"
    ∷ codes "--integrity-legacy-recalculate" ∷ [])
    ≡ Some (command.Run (record { image = codes "I"; mode = Bitmap; hash = Sha256; consent = Given }))
unfolding clap_on_literals
command_of-consent = refl

command_of-needless_consent : command_of (codes "integrity" ∷ codes "run" ∷ codes "--integrity-legacy-recalculate"
    ∷ codes "I" ∷ codes "--mode" ∷ codes "D" ∷ [])
    ≡ Some (command.Run (record { image = codes "I"; mode = Direct; hash = Sha256; consent = Given }))
unfolding clap_on_literals
command_of-needless_consent = refl

-- A new image has a journal, or a bitmap; no image is of direct mode alone.
command_of-format_bitmap : command_of (codes "integrity" ∷ codes "format" ∷ codes "I" ∷ codes "--mode" ∷ codes "B"
    ∷ []) ≡ Some (command.Format (record {
      image = codes "I";
      hash = Sha256;
      tag_size = 32;
      block_size = Bytes512;
      interleave = 32768;
      sections = 4;
      log2_blocks_per_bit = 15;
      salt = None;
      padding = Fixed;
      mode = images.Bitmap;
      wipe = Wiped;
    }))
unfolding clap_on_literals
command_of-format_bitmap = refl

command_of-format : command_of (codes "integrity" ∷ codes "format" ∷ codes "I" ∷ [])
    ≡ command_of (codes "integrity" ∷ codes "format" ∷ codes "I" ∷ codes "--mode" ∷ codes "J" ∷ [])
unfolding clap_on_literals
command_of-format = refl

-- Tags that are to be recalculated are so whether blocks are to be wiped or not.
command_of-format_recalculate : command_of (codes "integrity" ∷ codes "format" ∷ codes "I" ∷ codes "--recalculate"
    ∷ codes "--mode" ∷ codes "B" ∷ []) ≡ Some (command.Format (record {
      image = codes "I";
      hash = Sha256;
      tag_size = 32;
      block_size = Bytes512;
      interleave = 32768;
      sections = 4;
      log2_blocks_per_bit = 15;
      salt = None;
      padding = Fixed;
      mode = images.Bitmap;
      wipe = Recalculated;
    }))
unfolding clap_on_literals
command_of-format_recalculate = refl

command_of-format_no_wipe : command_of (codes "integrity" ∷ codes "format" ∷ codes "I" ∷ codes "--no-wipe"
    ∷ codes "--recalculate" ∷ codes "--mode" ∷ codes "B" ∷ [])
    ≡ command_of (codes "integrity" ∷ codes "format" ∷ codes "I" ∷ codes "--recalculate" ∷ codes "--mode" ∷ codes "B" ∷ [])
unfolding clap_on_literals
command_of-format_no_wipe = refl

command_of-format_direct : command_of (codes "integrity" ∷ codes "format" ∷ codes "I" ∷ codes "--mode" ∷ codes "D"
    ∷ []) ≡ None
unfolding clap_on_literals
command_of-format_direct = refl

-- The key file is given exactly where the hash is keyed.
command_of-keyed : command_of (codes "integrity" ∷ codes "run" ∷ codes "I" ∷ codes "--mode" ∷ codes "J"
    ∷ codes "--integrity" ∷ codes "hmac-sha256" ∷ codes "--integrity-key-file=" ∷ [])
    ≡ Some (command.Run (record { image = codes "I"; mode = Journal; hash = HmacSha256 []; consent = Withheld }))
unfolding clap_on_literals
command_of-keyed = refl

command_of-keyless : command_of (codes "integrity" ∷ codes "run" ∷ codes "I" ∷ codes "--mode" ∷ codes "J"
    ∷ codes "--integrity" ∷ codes "hmac-sha256" ∷ []) ≡ None
unfolding clap_on_literals
command_of-keyless = refl

-- A salvage wants the hash alone, and looks at every block in its place.
command_of-salvage : command_of (codes "integrity" ∷ codes "salvage" ∷ codes "I" ∷ codes "--integrity"
    ∷ codes "hmac-sha256" ∷ codes "--integrity-key-file" ∷ codes "K" ∷ [])
    ≡ Some (command.Salvage (record { image = codes "I"; hash = HmacSha256 (codes "K") }))
unfolding clap_on_literals
command_of-salvage = refl

command_of-placed_salvage : command_of (codes "integrity" ∷ codes "salvage" ∷ codes "I" ∷ codes "--placed" ∷ [])
    ≡ None
unfolding clap_on_literals
command_of-placed_salvage = refl

-- A resize wants the hash alone, and names no number of sectors.
command_of-resize : command_of (codes "integrity" ∷ codes "resize" ∷ codes "I" ∷ [])
    ≡ Some (command.Resize (record { image = codes "I"; hash = Sha256 }))
unfolding clap_on_literals
command_of-resize = refl

command_of-resize_to : command_of (codes "integrity" ∷ codes "resize" ∷ codes "I" ∷ codes "512" ∷ []) ≡ None
unfolding clap_on_literals
command_of-resize_to = refl

-- A session has the options of a run, in every mode but recovery mode, and a mode is named.
command_of-nbd : command_of (codes "integrity" ∷ codes "nbd" ∷ codes "I" ∷ codes "--mode" ∷ codes "D" ∷ [])
    ≡ Some (command.Nbd (record { image = codes "I"; mode = sessions.Direct; hash = Sha256; consent = Withheld }))
unfolding clap_on_literals
command_of-nbd = refl

command_of-nbd_keyed : command_of (codes "integrity" ∷ codes "nbd" ∷ codes "--mode=B" ∷ codes "--integrity"
    ∷ codes "hmac-sha256" ∷ codes "--integrity-key-file" ∷ codes "K" ∷ codes "--integrity-legacy-recalculate"
    ∷ codes "I" ∷ [])
    ≡ Some (command.Nbd (record {
      image = codes "I";
      mode = sessions.Bitmap;
      hash = HmacSha256 (codes "K");
      consent = Given;
    }))
unfolding clap_on_literals
command_of-nbd_keyed = refl

command_of-nbd_recovery : command_of (codes "integrity" ∷ codes "nbd" ∷ codes "I" ∷ codes "--mode" ∷ codes "R" ∷ [])
    ≡ None
unfolding clap_on_literals
command_of-nbd_recovery = refl

command_of-nbd_without_mode : command_of (codes "integrity" ∷ codes "nbd" ∷ codes "I" ∷ []) ≡ None
unfolding clap_on_literals
command_of-nbd_without_mode = refl

-- A mirror has the options of a run, journal mode alone, and the mode is named.
command_of-mirror : command_of (codes "integrity" ∷ codes "mirror" ∷ codes "I" ∷ codes "S" ∷ codes "--mode" ∷ codes "J"
    ∷ []) ≡ Some (command.Mirror (record { image = codes "I"; second = codes "S"; hash = Sha256; consent = Withheld }))
unfolding clap_on_literals
command_of-mirror = refl

command_of-mirror_keyed : command_of (codes "integrity" ∷ codes "mirror" ∷ codes "--mode=J" ∷ codes "I"
    ∷ codes "--integrity" ∷ codes "hmac-sha256" ∷ codes "--integrity-key-file" ∷ codes "K"
    ∷ codes "--integrity-legacy-recalculate" ∷ codes "S" ∷ [])
    ≡ Some (command.Mirror (record {
      image = codes "I";
      second = codes "S";
      hash = HmacSha256 (codes "K");
      consent = Given;
    }))
unfolding clap_on_literals
command_of-mirror_keyed = refl

command_of-mirror_direct : command_of (codes "integrity" ∷ codes "mirror" ∷ codes "I" ∷ codes "S" ∷ codes "--mode"
    ∷ codes "D" ∷ []) ≡ None
unfolding clap_on_literals
command_of-mirror_direct = refl

command_of-mirror_without_mode : command_of (codes "integrity" ∷ codes "mirror" ∷ codes "I" ∷ codes "S" ∷ []) ≡ None
unfolding clap_on_literals
command_of-mirror_without_mode = refl

-- Its second image is another word than the first, be it another word for the same file.
command_of-mirror_of_one : command_of (codes "integrity" ∷ codes "mirror" ∷ codes "I" ∷ codes "I" ∷ codes "--mode"
    ∷ codes "J" ∷ []) ≡ None
unfolding clap_on_literals
command_of-mirror_of_one = refl

command_of-mirror_by_path : command_of (codes "integrity" ∷ codes "mirror" ∷ codes "I" ∷ codes "./I" ∷ codes "--mode"
    ∷ codes "J" ∷ []) ≡ Some (command.Mirror (record {
      image = codes "I";
      second = codes "./I";
      hash = Sha256;
      consent = Withheld;
    }))
unfolding clap_on_literals
command_of-mirror_by_path = refl

command_of-mirror_alone : command_of (codes "integrity" ∷ codes "mirror" ∷ codes "I" ∷ codes "--mode" ∷ codes "J" ∷ [])
    ≡ None
unfolding clap_on_literals
command_of-mirror_alone = refl

-- Behind `--` a word may begin with `-`; one that asks for help makes all of them no command.
command_of-dashes : command_of (codes "integrity" ∷ codes "dump" ∷ codes "--" ∷ codes "-I" ∷ [])
    ≡ Some (command.Dump (record { image = codes "-I" }))
unfolding clap_on_literals
command_of-dashes = refl

command_of-question : command_of (codes "integrity" ∷ codes "dump" ∷ codes "--" ∷ codes "-h" ∷ []) ≡ None
unfolding clap_on_literals
command_of-question = refl
