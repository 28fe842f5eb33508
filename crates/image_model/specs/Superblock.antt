-- The superblock: its fields, the first fault for which it is refused, and the bytes that are written.
-- Source: Linux, drivers/md/dm-integrity.c, struct superblock, dm_integrity_ctr and calculate_device_limits.
use Rattle.std.specs.Prelude.{◌≡◌, ℕ, ◌%◌, ◌^◌, ◌≤◌, max, Bool, not, ◌&&◌, ◌==◌, nat_eq, nat_lt, if◌then◌else◌, List, [], ◌∷◌, ◌++◌, slice_index, Result, bit_and, codes}
use Rattle.std.specs.List.{starts_with}
use Rattle.std.specs.Int.{w32, bit_not, is_in_range, IsInRange}
use Rattle.image_model.specs.declared.flags.TheConstants.{HAVE_JOURNAL_MAC, RECALCULATING, DIRTY_BITMAP, FIXED_PADDING, FIXED_HMAC, INLINE, KNOWN_FLAGS}
use Rattle.image_model.specs.declared.super_fields.Super.{Super}
use Rattle.image_model.specs.declared.super_fields.SuperFault.{SuperFault}
use Rattle.image_model.specs.declared.super_fields.SuperFault.TheVariants.{Magic, Version, JournalMac, Inline, Flags, Interleave, BlockSize, TagSize, Sections, Provided}
use Rattle.image_model.specs.Faults.{ok_unless}
use Rattle.image_model.specs.Sectors.{piece, number_in, bytes_of, zero_bytes}

-- The fields. A tag's size is in bytes, `provided` and `recalc_sector` in sectors of the device.
abbrev pub Superblock : Type 0
Superblock = Super

-- The flag is set.
abbrev pub has_flag : ℕ → ℕ → Bool
has_flag flag flags = not (bit_and flags flag == 0)

-- The bits that are set and not known.
abbrev pub unknown_flags : ℕ → ℕ
unknown_flags flags = bit_and flags (bit_not w32 KNOWN_FLAGS)

-- The provided sectors are whole blocks, at least one, and no more than a disk may have.
abbrev pub is_provided : Superblock → Bool
is_provided s = is_in_range 1 (2 ^ 48) s.provided && s.provided % 2 ^ s.log2_spb == 0

-- The faults of the fields, each beside its test. Own: the order, and the bounds of a tag and of the provided sectors.
abbrev pub superblock_faults : Superblock → List (Bool × SuperFault)
superblock_faults s =
    (not (is_in_range 1 5 s.version), Version s.version)
    ∷ (has_flag HAVE_JOURNAL_MAC s.flags, JournalMac s.flags)
    ∷ (has_flag INLINE s.flags, Inline s.flags)
    ∷ (not (unknown_flags s.flags == 0), Flags (unknown_flags s.flags))
    ∷ (not (is_in_range 3 31 s.log2_interleave), Interleave s.log2_interleave)
    ∷ (nat_lt 3 s.log2_spb, BlockSize s.log2_spb)
    ∷ (not (is_in_range 1 32 s.tag_size), TagSize s.tag_size)
    ∷ (s.sections == 0, Sections s.sections)
    ∷ (not (is_provided s), Provided s.provided)
    ∷ []

-- The bytes by which a superblock is known.
abbrev pub magic : List ℕ
magic = codes "integrt" ++ 0 ∷ []

-- The fields as they stand in the bytes of sector 0.
unfoldable pub fields_in : List ℕ → Superblock
fields_in bytes = record {
  version = slice_index bytes 8;
  log2_interleave = slice_index bytes 9;
  tag_size = number_in bytes 10 2;
  sections = number_in bytes 12 4;
  provided = number_in bytes 16 8;
  flags = number_in bytes 24 4;
  log2_spb = slice_index bytes 28;
  log2_region = slice_index bytes 29;
  recalc_sector = number_in bytes 32 8;
  salt = piece bytes 48 16;
}

-- What the bytes of sector 0 tell: the fields, or the first fault. No bytes at all have no magic.
unfoldable pub superblock_of : List ℕ → Result Superblock SuperFault
superblock_of bytes =
    let s = fields_in bytes in
    ok_unless ((not (starts_with nat_eq bytes magic), Magic) ∷ superblock_faults s) s

-- The bytes 0 to 63 that are written for the fields.
unfoldable pub superblock_bytes : Superblock → List ℕ
superblock_bytes s =
    magic ++ bytes_of s.version 1 ++ bytes_of s.log2_interleave 1 ++ bytes_of s.tag_size 2
    ++ bytes_of s.sections 4 ++ bytes_of s.provided 8 ++ bytes_of s.flags 4 ++ bytes_of s.log2_spb 1
    ++ bytes_of s.log2_region 1 ++ zero_bytes 2 ++ bytes_of s.recalc_sector 8 ++ zero_bytes 8 ++ s.salt

-- The version that is written where `version` was read, and these are the flags.
-- Source: Linux, drivers/md/dm-integrity.c, sb_set_version. Own: never below the version read.
abbrev pub version_for : ℕ → ℕ → ℕ
version_for version flags =
    max version
    (if has_flag FIXED_HMAC flags then 5 else
    if has_flag FIXED_PADDING flags then 4 else
    if has_flag DIRTY_BITMAP flags then 3 else
    if has_flag RECALCULATING flags then 2 else 1)

-- No field but `provided` is one that is refused.
pub record HasLayout (s : Superblock) : Type 0 where
  pub version : IsInRange 1 5 s.version
  pub flags : unknown_flags s.flags ≡ 0
  pub log2_interleave : IsInRange 3 31 s.log2_interleave
  pub log2_spb : s.log2_spb ≤ 3
  pub tag_size : IsInRange 1 32 s.tag_size
  pub sections : 1 ≤ s.sections

-- No field is.
pub record IsAccepted (s : Superblock) : Type 0 where
  pub layout : HasLayout s
  pub provided : IsInRange 1 (2 ^ 48) s.provided
  pub whole_blocks : s.provided % 2 ^ s.log2_spb ≡ 0
