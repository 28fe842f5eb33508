use Rattle.std.proofs.Common.{◌≡◌, ◌%◌, arith, refl, append-nil}
use Rattle.std.proofs.Math.Nat.{mod-eq_of_lt}
use Rattle.image_model.specs.Superblock.{superblock_bytes}
use Rattle.superblock.proofs.writing.superblock_bytes.Goals as goal

pub returns-clause-bytes : goal.returns-clause-bytes
unfolding superblock_bytes
returns-clause-bytes c =
    let s = c.args.fields in
    let version : s.version % 256 ≡ s.version = mod-eq_of_lt (omega arith) in
    let log2_interleave : s.log2_interleave % 256 ≡ s.log2_interleave = mod-eq_of_lt (omega arith) in
    let log2_spb : s.log2_spb % 256 ≡ s.log2_spb = mod-eq_of_lt (omega arith) in
    let log2_region : s.log2_region % 256 ≡ s.log2_region = mod-eq_of_lt (omega arith) in
    rw (
      c.copy_from_slice-2.ensures.after,
      c.write_u64-2.ensures,
      c.write_u32-2.ensures,
      c.write_u64.ensures,
      c.write_u32.ensures,
      c.write_u16.ensures,
      c.copy_from_slice.ensures.after,
      append-nil,
      version,
      log2_interleave,
      log2_spb,
      log2_region,
    ) refl
