-- Images whose superblocks are known from outside.
use Rattle.std.proofs.Common.{ℕ, List, [], ◌∷◌, replicate}
use Rattle.image_model.specs.Superblock.{Superblock}

-- ---- the small image: a disk of 256 sectors, formatted with interleave 8 and one section

abbrev pub small : Superblock
small = record {
  version = 4;
  log2_interleave = 3;
  tag_size = 32;
  sections = 1;
  provided = 80;
  flags = 0x8;
  log2_spb = 0;
  log2_region = 15;
  recalc_sector = 0;
  salt = replicate 16 0;
}

abbrev pub small_bytes : List ℕ
small_bytes =
    0x69 ∷ 0x6e ∷ 0x74 ∷ 0x65 ∷ 0x67 ∷ 0x72 ∷ 0x74 ∷ 0 ∷ 0x04 ∷ 0x03 ∷ 0x20 ∷ 0 ∷ 0x01 ∷ 0 ∷ 0 ∷ 0
    ∷ 0x50 ∷ 0 ∷ 0 ∷ 0 ∷ 0 ∷ 0 ∷ 0 ∷ 0 ∷ 0x08 ∷ 0 ∷ 0 ∷ 0 ∷ 0 ∷ 0x0f ∷ 0 ∷ 0
    ∷ 0 ∷ 0 ∷ 0 ∷ 0 ∷ 0 ∷ 0 ∷ 0 ∷ 0 ∷ 0 ∷ 0 ∷ 0 ∷ 0 ∷ 0 ∷ 0 ∷ 0 ∷ 0
    ∷ 0 ∷ 0 ∷ 0 ∷ 0 ∷ 0 ∷ 0 ∷ 0 ∷ 0 ∷ 0 ∷ 0 ∷ 0 ∷ 0 ∷ 0 ∷ 0 ∷ 0 ∷ 0 ∷ []

-- ---- images that integritysetup 2.6.1 and Linux 6.1.192 made, with the fields that `integritysetup dump` tells

abbrev pub kernel_small_salt : List ℕ
kernel_small_salt =
    0x93 ∷ 0x0b ∷ 0x76 ∷ 0x3f ∷ 0xda ∷ 0x24 ∷ 0xbb ∷ 0x90 ∷ 0xf5 ∷ 0x16 ∷ 0x1b ∷ 0x68 ∷ 0xf4 ∷ 0xaa ∷ 0xf3 ∷ 0x51 ∷ []

-- The small image with a salt: `integritysetup format --integrity sha256 --interleave-sectors 8` on 256 sectors.
abbrev pub kernel_small : Superblock
kernel_small = record small { version = 5; flags = 0x18; salt = kernel_small_salt }

abbrev pub kernel_small_bytes : List ℕ
kernel_small_bytes =
    0x69 ∷ 0x6e ∷ 0x74 ∷ 0x65 ∷ 0x67 ∷ 0x72 ∷ 0x74 ∷ 0 ∷ 0x05 ∷ 0x03 ∷ 0x20 ∷ 0 ∷ 0x01 ∷ 0 ∷ 0 ∷ 0
    ∷ 0x50 ∷ 0 ∷ 0 ∷ 0 ∷ 0 ∷ 0 ∷ 0 ∷ 0 ∷ 0x18 ∷ 0 ∷ 0 ∷ 0 ∷ 0 ∷ 0x0f ∷ 0 ∷ 0
    ∷ 0 ∷ 0 ∷ 0 ∷ 0 ∷ 0 ∷ 0 ∷ 0 ∷ 0 ∷ 0 ∷ 0 ∷ 0 ∷ 0 ∷ 0 ∷ 0 ∷ 0 ∷ 0
    ∷ 0x93 ∷ 0x0b ∷ 0x76 ∷ 0x3f ∷ 0xda ∷ 0x24 ∷ 0xbb ∷ 0x90 ∷ 0xf5 ∷ 0x16 ∷ 0x1b ∷ 0x68 ∷ 0xf4 ∷ 0xaa ∷ 0xf3 ∷ 0x51 ∷ []

-- Tags of 20 bytes and interleave 32, on 512 sectors: some tags straddle two sectors.
abbrev pub kernel_straddling : Superblock
kernel_straddling = record {
  version = 5;
  log2_interleave = 5;
  tag_size = 20;
  sections = 1;
  provided = 320;
  flags = 0x18;
  log2_spb = 0;
  log2_region = 15;
  recalc_sector = 0;
  salt =
      0x2c ∷ 0xf7 ∷ 0x76 ∷ 0xfd ∷ 0x83 ∷ 0xdd ∷ 0xd8 ∷ 0x7f ∷ 0x05 ∷ 0x96 ∷ 0x67 ∷ 0xd1 ∷ 0xdd ∷ 0x4a ∷ 0xd5 ∷ 0xd0 ∷ [];
}

abbrev pub kernel_straddling_bytes : List ℕ
kernel_straddling_bytes =
    0x69 ∷ 0x6e ∷ 0x74 ∷ 0x65 ∷ 0x67 ∷ 0x72 ∷ 0x74 ∷ 0 ∷ 0x05 ∷ 0x05 ∷ 0x14 ∷ 0 ∷ 0x01 ∷ 0 ∷ 0 ∷ 0
    ∷ 0x40 ∷ 0x01 ∷ 0 ∷ 0 ∷ 0 ∷ 0 ∷ 0 ∷ 0 ∷ 0x18 ∷ 0 ∷ 0 ∷ 0 ∷ 0 ∷ 0x0f ∷ 0 ∷ 0
    ∷ 0 ∷ 0 ∷ 0 ∷ 0 ∷ 0 ∷ 0 ∷ 0 ∷ 0 ∷ 0 ∷ 0 ∷ 0 ∷ 0 ∷ 0 ∷ 0 ∷ 0 ∷ 0
    ∷ 0x2c ∷ 0xf7 ∷ 0x76 ∷ 0xfd ∷ 0x83 ∷ 0xdd ∷ 0xd8 ∷ 0x7f ∷ 0x05 ∷ 0x96 ∷ 0x67 ∷ 0xd1 ∷ 0xdd ∷ 0x4a ∷ 0xd5 ∷ 0xd0 ∷ []

-- Tags of 20 bytes, blocks of 2048 bytes and interleave 64, on 1024 sectors.
abbrev pub kernel_large_blocks : Superblock
kernel_large_blocks = record {
  version = 5;
  log2_interleave = 6;
  tag_size = 20;
  sections = 1;
  provided = 696;
  flags = 0x18;
  log2_spb = 2;
  log2_region = 13;
  recalc_sector = 0;
  salt =
      0x8c ∷ 0x0b ∷ 0xa8 ∷ 0x6c ∷ 0x43 ∷ 0x6c ∷ 0x45 ∷ 0xd2 ∷ 0x66 ∷ 0x05 ∷ 0x76 ∷ 0x4d ∷ 0x9d ∷ 0x73 ∷ 0x75 ∷ 0x8f ∷ [];
}

abbrev pub kernel_large_blocks_bytes : List ℕ
kernel_large_blocks_bytes =
    0x69 ∷ 0x6e ∷ 0x74 ∷ 0x65 ∷ 0x67 ∷ 0x72 ∷ 0x74 ∷ 0 ∷ 0x05 ∷ 0x06 ∷ 0x14 ∷ 0 ∷ 0x01 ∷ 0 ∷ 0 ∷ 0
    ∷ 0xb8 ∷ 0x02 ∷ 0 ∷ 0 ∷ 0 ∷ 0 ∷ 0 ∷ 0 ∷ 0x18 ∷ 0 ∷ 0 ∷ 0 ∷ 0x02 ∷ 0x0d ∷ 0 ∷ 0
    ∷ 0 ∷ 0 ∷ 0 ∷ 0 ∷ 0 ∷ 0 ∷ 0 ∷ 0 ∷ 0 ∷ 0 ∷ 0 ∷ 0 ∷ 0 ∷ 0 ∷ 0 ∷ 0
    ∷ 0x8c ∷ 0x0b ∷ 0xa8 ∷ 0x6c ∷ 0x43 ∷ 0x6c ∷ 0x45 ∷ 0xd2 ∷ 0x66 ∷ 0x05 ∷ 0x76 ∷ 0x4d ∷ 0x9d ∷ 0x73 ∷ 0x75 ∷ 0x8f ∷ []

-- No flag at all, tags of 32 bytes, interleave 256 and four sections, on 2048 sectors.
abbrev pub kernel_oldest : Superblock
kernel_oldest = record {
  version = 1;
  log2_interleave = 8;
  tag_size = 32;
  sections = 4;
  provided = 768;
  flags = 0;
  log2_spb = 0;
  log2_region = 15;
  recalc_sector = 0;
  salt = replicate 16 0;
}
