-- The place of an entry in a metadata sector.
use Rattle.std.specs.Prelude.{◌≡◌, ℕ, ◌+◌, ◌*◌, ◌<◌, ◌≤◌, List, length, slice_index}
use Rattle.image_model.specs.Sectors.{piece, number_in}

-- It has the sector's number, the last 8 bytes of each of the block's sectors and the tag, and zeros behind them.
pub record HasFields (spb sector : ℕ) (block tag place : List ℕ) : Type 0 where
  pub sector_is : number_in place 0 8 ≡ sector
  pub lasts : (k : ℕ) → k < spb → piece place (8 + 8 * k) 8 ≡ piece block (512 * k + 504) 8
  pub tag_is : piece place (8 + 8 * spb) (length tag) ≡ tag
  pub zeros : (at : ℕ) → 8 + 8 * spb + length tag ≤ at → slice_index place at ≡ 0
