-- What stands in the place of a block, by what is read of the disk.
use Rattle.std.proofs.Common.{◌≡◌, ℕ, ◌+◌, ◌-◌, ◌*◌, ◌^◌, ◌<◌, ◌≤◌, ap, ◌∙◌, arith, List, Option, take, drop}
use Rattle.std.proofs.Math.Nat.{mul-le-mul_left}
use Rattle.disk_model.specs.Disk.{Image}
use Rattle.image_model.specs.declared.byte_place.BytePlace.{BytePlace}
use Rattle.image_model.specs.Cells.{block_tag, placed_cells_of}
use Rattle.image_model.specs.Geometry.{Geometry, IsGeometry, data_at, tag_at}
use Rattle.image_model.specs.Sectors.{bytes_at}
use Rattle.image_model.proofs.GeometryLemmas.{data_at-inside, tag_at-inside}
use Rattle.image_model.proofs.Regions.{blocks-low}
use Rattle.check_model.specs.Bad.{bad_by, bad_cell}

-- The first sector of a block fits its number.
pub block_sector-low : (g : Geometry) (block spb : ℕ) → IsGeometry g (2 ^ 48) → block < g.blocks → spb ≡ g.shape.spb → block * spb < 2 ^ 52
block_sector-low g block spb geometry low same =
    let few : spb ≤ 8 = omega (arith, geometry.spb.1, same) in
    omega (arith, mul-le-mul_left block few, blocks-low g (2 ^ 48) geometry)

-- The two sectors from where its tag begins are on the disk, and the tag ends in them.
pub record TagLies (g : Geometry) (sectors block : ℕ) : Type 0 where
  pub inside : (tag_at g block).sector + 2 ≤ sectors
  pub byte_low : (tag_at g block).byte < 512
  pub ends : (tag_at g block).byte + g.shape.tag_size ≤ 512 * 2

pub tag_lies : (g : Geometry) (sectors block : ℕ) → IsGeometry g sectors → block < g.blocks → TagLies g sectors block
tag_lies g sectors block geometry low =
    let data_ = data_at-inside g sectors block geometry low in
    let tag = tag_at-inside g sectors block geometry low in
    record {
      inside = omega (arith, data_.1, tag.1, geometry.spb.0, geometry.tag_size.0);
      byte_low = tag.2;
      ends = omega (arith, tag.2, geometry.tag_size.1);
    }

-- The block is judged by what was read of its place.
pub bad_cell-read : (key salt : Option (List ℕ)) (g : Geometry) (image : Image) (block : ℕ) (place : BytePlace) (at size spb : ℕ) (tags bytes : List ℕ)
    → place ≡ tag_at g block → at ≡ data_at g block → size ≡ g.shape.tag_size → spb ≡ g.shape.spb
    → tags ≡ bytes_at image place.sector 2 → bytes ≡ bytes_at image at spb
    → bad_by block (take (place.byte + size - place.byte) (drop place.byte tags)) (block_tag key salt g (block * g.shape.spb) bytes)
    ≡ bad_cell key salt g block (placed_cells_of g image block)
unfolding placed_cells_of
bad_cell-read key salt g image block place at size spb tags bytes place_is at_is size_is spb_is tags_are bytes_are =
    let count : place.byte + size - place.byte ≡ g.shape.tag_size = omega (arith, size_is) in
    let tag : take (place.byte + size - place.byte) (drop place.byte tags) ≡ (placed_cells_of g image block).tag =
    ap (λ n. take n (drop place.byte tags)) count
    ∙ ap (λ (xs : List ℕ). take g.shape.tag_size (drop place.byte xs)) tags_are
    ∙ ap (λ (p : BytePlace). take g.shape.tag_size (drop p.byte (bytes_at image p.sector 2))) place_is in
    let all : bytes ≡ (placed_cells_of g image block).bytes =
    bytes_are ∙ ap (λ n. bytes_at image n spb) at_is ∙ ap (λ n. bytes_at image (data_at g block) n) spb_is in
    ap (λ (xs : List ℕ). bad_by block xs (block_tag key salt g (block * g.shape.spb) bytes)) tag
    ∙ ap (λ (xs : List ℕ). bad_by block (placed_cells_of g image block).tag (block_tag key salt g (block * g.shape.spb) xs)) all
