-- Where the bytes of tags lie: behind the journal, and apart from all data.
use Rattle.std.proofs.Common.{◌≡◌, inl, inr, ℕ, ◌+◌, ◌*◌, ◌/◌, ◌<◌, ◌≤◌, ap, arith, List, length, drop, ◌≢◌, length-drop}
use Rattle.std.proofs.Math.Nat.{mul-le-mul_right}
use Rattle.std.proofs.lemmas.Bool.{cases_lt, cases_order}
use Rattle.std.proofs.lemmas.List.{length-take-le}
use Rattle.disk_model.specs.Disk.{sector_in}
use Rattle.image_model.proofs.GeometryLemmas.{tag_at-inside, placed, data_in_order, tag_sector-no_data}
use Rattle.image_model.specs.Geometry.{Geometry, data_at, tag_at, IsGeometry, initial}
use Rattle.place_model.specs.Tags.{tag_byte_at}

-- Sections in order lie in order.
pub order : (width a b : ℕ) → a ≤ b → a * width ≤ b * width
order width a b low = mul-le-mul_right width low

pub length-sector_in : (bytes : List ℕ) (k count : ℕ) → length bytes ≡ 512 * count → k < count → length (sector_in bytes k) ≡ 512
length-sector_in bytes k count size low = length-take-le 512 (drop (512 * k) bytes) (omega (arith, size, length-drop (512 * k) bytes))

-- The byte of a tag lies behind the journal.
pub tag_byte-behind : (g : Geometry) (sectors b i : ℕ) → IsGeometry g sectors → b < g.blocks → initial g ≤ (tag_byte_at g b i).sector
unfolding tag_byte_at
tag_byte-behind g sectors b i geometry low = let tag = tag_at-inside g sectors b geometry low in omega arith

-- The sector of a tag's byte holds no data.
pub tag_byte-no_data : (g : Geometry) (sectors b c i k : ℕ) → IsGeometry g sectors → i < g.shape.tag_size → k < g.shape.spb → (tag_byte_at g b i).sector ≢ data_at g c + k
unfolding tag_byte_at
tag_byte-no_data g sectors b c i k geometry i_low k_low = tag_sector-no_data g sectors b c ((tag_at g b).sector + ((tag_at g b).byte + i) / 512) k geometry (omega arith) (omega arith) k_low

-- A sector of data is one of one block, and one place in it.
pub data_once : (g : Geometry) (sectors b c i k : ℕ) → IsGeometry g sectors → i < g.shape.spb → k < g.shape.spb → data_at g b + i ≡ data_at g c + k → (b ≡ c) × (i ≡ k)
data_once g sectors b c i k geometry i_low k_low same = elim (cases_order b c) [
  | inl equal ↦ let there : data_at g b ≡ data_at g c = ap (data_at g) equal in (equal, omega arith)
  | inr (inl less) ↦ let before = data_in_order g b c (placed g sectors b geometry) (placed g sectors c geometry) less in absurd (omega arith)
  | inr (inr more) ↦ let before = data_in_order g c b (placed g sectors c geometry) (placed g sectors b geometry) more in absurd (omega arith)
]

pub block_low : (b blocks spb : ℕ) → b * spb < blocks * spb → b < blocks
block_low b blocks spb low = elim (cases_lt b blocks) [
  | inl less ↦ less
  | inr above ↦ let o = order spb blocks b above in absurd (omega arith)
]

pub same_product : (b c spb : ℕ) → 1 ≤ spb → b * spb ≡ c * spb → b ≡ c
same_product b c spb some same = elim (cases_order b c) [
  | inl equal ↦ equal
  | inr (inl less) ↦ let o = order spb (b + 1) c (omega arith) in absurd (omega arith)
  | inr (inr more) ↦ let o = order spb (c + 1) b (omega arith) in absurd (omega arith)
]
