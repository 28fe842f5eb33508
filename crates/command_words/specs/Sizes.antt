-- How many sectors a block has, as a power of two.
use Rattle.std.specs.Prelude.{ℕ}
use Rattle.command_words.specs.declared.values.BlockSize.{BlockSize}
use Rattle.command_words.specs.declared.values.BlockSize.TheVariants.{Bytes512, Bytes1024, Bytes2048, Bytes4096}

abbrev pub log2_sectors : BlockSize → ℕ
log2_sectors Bytes512 = 0
log2_sectors Bytes1024 = 1
log2_sectors Bytes2048 = 2
log2_sectors Bytes4096 = 3
