-- The first blocks of an area: where their tags and their data lie, and that areas before them are not touched.
use Rattle.std.proofs.Common.{◌≡◌, ◌⊎◌, inl, inr, ⊎_elim, ℕ, zero, suc, ◌+◌, ◌-◌, ◌*◌, ◌/◌, ◌%◌, ◌^◌, ◌<◌, ◌≤◌, List, min, slice_index, sym, ◌∙◌, ap, subst, arith}
use Rattle.std.proofs.lemmas.Bool.{cases_lt}
use Rattle.std.proofs.lemmas.Nat.{div-mul-add, mod-mul-add, div-add-mod', mod_below, div_below}
use Rattle.disk_model.specs.Disk.{Content, Image, last_image}
use Rattle.disk_model.specs.Moments.{EachMoment, FromStart, HasNow}
use Rattle.hmac_tag.specs.TagMaker.{TagRule}
use Rattle.image_model.specs.Geometry.{Geometry, IsGeometry, area_at, data_at, layout_of, quotient_up, tag_at}
use Rattle.std.proofs.Math.Nat.{add-mul-mod_self_right, mul-div_cancel, pow-le-pow_right}
use Rattle.std.proofs.lemmas.Nat.{pow_pos, pow-add}
use Rattle.image_model.proofs.BestProvided.{sector_at-le}
use Rattle.image_model.proofs.GeometryOf.{geometry_given}
use Rattle.image_format.specs.declared.reading.ImageFormat.{ImageFormat}
use Rattle.image_format.specs.Format.{IsFormat}
use Rattle.formatting_model.proofs.JournalLemmas.{le_times}
use Rattle.image_model.proofs.GeometryLemmas.{area_at-lt, area_blocks_some, data_at-inside, placed, tag_at-inside}
use Rattle.image_model.specs.Entries.{IsWithin}
use Rattle.place_model.specs.Tags.{tag_byte_at}
use Rattle.place_model.proofs.TagsLemmas.{data_once, order, tag_byte-no_data}
use Rattle.formatting_model.specs.Blocks.{HasTagRun, HasZeroBlocks, IsAreaRun, IsBlockOf, IsSectorOf, zero_tag}
use Rattle.formatting_model.specs.Runs.{ChangesOnly, HasZeros}
use Rattle.formatting_model.proofs.RunsLemmas.{AgreeBut, changes_wider, keeps_now}
use Rattle.formatting_model.proofs.TaggingLemmas.{byte_of_tag, next_tag_fits}

-- ---- places

-- How many blocks an area has.
abbrev pub of_area : Geometry → ℕ
of_area g = g.interleave / g.shape.spb

pub of_area_some : (g : Geometry) (sectors : ℕ) → IsGeometry g sectors → 0 < of_area g
of_area_some g sectors is = area_blocks_some (of_area g) g.shape.spb g.interleave is.whole_blocks is.interleave

-- Block j of an area whose first one is `first`.
record IsInArea (g : Geometry) (first j : ℕ) : Type 0 where
  area : ℕ
  first_is : first ≡ area * of_area g
  first_data : data_at g first ≡ area_at g area + g.tag_run
  first_tag : 512 * (tag_at g first).sector + (tag_at g first).byte ≡ 512 * area_at g area
  data_is : data_at g (first + j) ≡ area_at g area + g.tag_run + j * g.shape.spb
  tag_is : 512 * (tag_at g (first + j)).sector + (tag_at g (first + j)).byte ≡ 512 * area_at g area + j * g.shape.tag_size
  tag_ends : j * g.shape.tag_size + g.shape.tag_size ≤ 512 * g.tag_run

in_area : (g : Geometry) (sectors first count j : ℕ) → IsGeometry g sectors → IsAreaRun g first count → j < count → IsInArea g first j
in_area g sectors first count j is run low =
    let one = placed g sectors first is in
    let other = placed g sectors (first + j) is in
    let some = of_area_some g sectors is in
    let none : one.place ≡ 0 = sym (ap (λ (n : ℕ). n % of_area g) one.block_is ∙ mod-mul-add one.area (of_area g) one.place one.place_low) ∙ run.begins in
    let at : first ≡ one.area * of_area g = omega (arith, one.block_is, none) in
    let inside : j < of_area g = omega (arith, low, run.ends) in
    let sum : first + j ≡ one.area * of_area g + j = omega (arith, at) in
    let area : other.area ≡ one.area = sym (div-mul-add other.area (of_area g) other.place other.place_low) ∙ ap (λ (n : ℕ). n / of_area g) (sym other.block_is ∙ sum) ∙ div-mul-add one.area (of_area g) j inside in
    let place : other.place ≡ j = sym (mod-mul-add other.area (of_area g) other.place other.place_low) ∙ ap (λ (n : ℕ). n % of_area g) (sym other.block_is ∙ sum) ∙ mod-mul-add one.area (of_area g) j inside in
    record {
      area = one.area;
      first_is = at;
      first_data = one.data_is ∙ ap (λ (n : ℕ). area_at g one.area + g.tag_run + n * g.shape.spb) none ∙ (omega arith);
      first_tag = one.tag_is ∙ ap (λ (n : ℕ). 512 * area_at g one.area + n * g.shape.tag_size) none ∙ (omega arith);
      data_is = other.data_is ∙ ap (λ (n : ℕ). area_at g n + g.tag_run + other.place * g.shape.spb) area ∙ ap (λ (n : ℕ). area_at g one.area + g.tag_run + n * g.shape.spb) place;
      tag_is = other.tag_is ∙ ap (λ (n : ℕ). 512 * area_at g n + other.place * g.shape.tag_size) area ∙ ap (λ (n : ℕ). 512 * area_at g one.area + n * g.shape.tag_size) place;
      tag_ends = subst (λ (n : ℕ). n * g.shape.tag_size + g.shape.tag_size ≤ 512 * g.tag_run) place other.tag_ends;
    }

-- The data of such a block, behind that of the first.
pub data_place : (g : Geometry) (sectors first count j : ℕ) → IsGeometry g sectors → IsAreaRun g first count → j < count → data_at g (first + j) ≡ data_at g first + j * g.shape.spb
data_place g sectors first count j is run low = let at = in_area g sectors first count j is run low in omega (arith, at.first_data, at.data_is)

-- The first tag begins a sector.
pub first_tag : (g : Geometry) (sectors first count : ℕ) → IsGeometry g sectors → IsAreaRun g first count → (tag_at g first).byte ≡ 0
first_tag g sectors first count is run =
    let at = in_area g sectors first count 0 is run run.some in
    let low = (tag_at-inside g sectors first is (omega (arith, run.some, run.inside))).2 in
    omega (arith, at.first_tag, low)

-- A byte of the tag of such a block.
pub tag_place : (g : Geometry) (sectors first count j i : ℕ) → IsGeometry g sectors → IsAreaRun g first count → j < count
    → ((tag_byte_at g (first + j) i).sector ≡ (tag_at g first).sector + (j * g.shape.tag_size + i) / 512) × ((tag_byte_at g (first + j) i).byte ≡ (j * g.shape.tag_size + i) % 512)
unfolding tag_byte_at
tag_place g sectors first count j i is run low =
    let at = in_area g sectors first count j is run low in
    let begins = first_tag g sectors first count is run in
    (omega (arith, at.first_tag, at.tag_is, begins), omega (arith, at.first_tag, at.tag_is, begins))

-- The tags of the blocks end before their data.
pub tags_before_data : (g : Geometry) (sectors first count : ℕ) → IsGeometry g sectors → IsAreaRun g first count → (tag_at g first).sector + quotient_up (count * g.shape.tag_size) 512 ≤ data_at g first
tags_before_data g sectors first count is run =
    let last = in_area g sectors first count (count - 1) is run (omega (arith, run.some)) in
    let begins = first_tag g sectors first count is run in
    let all : (count - 1) * g.shape.tag_size + g.shape.tag_size ≡ count * g.shape.tag_size = whole count g.shape.tag_size run.some in
    omega (arith, last.first_tag, last.first_data, last.tag_ends, begins, all)
  where
    whole : (n size : ℕ) → 1 ≤ n → (n - 1) * size + size ≡ n * size
    whole zero size low = absurd (omega arith)
    whole (suc n) size low = let e : suc n - 1 ≡ n = omega arith in rw e (omega arith)

-- The data of the blocks end on the disk.
pub data_inside : (g : Geometry) (sectors first count : ℕ) → IsGeometry g sectors → IsAreaRun g first count → data_at g first + count * g.shape.spb ≤ sectors
data_inside g sectors first count is run =
    let place = data_place g sectors first count (count - 1) is run (omega (arith, run.some)) in
    let end = (data_at-inside g sectors (first + (count - 1)) is (omega (arith, run.some, run.inside))).1 in
    let all = whole count g.shape.spb run.some in
    omega (arith, place, end, all)
  where
    whole : (n size : ℕ) → 1 ≤ n → (n - 1) * size + size ≡ n * size
    whole zero size low = absurd (omega arith)
    whole (suc n) size low = let e : suc n - 1 ≡ n = omega arith in rw e (omega arith)

-- ---- an area

-- Tags, and then zeros, are those of the blocks.
area_has : (rule : TagRule) (g : Geometry) (sectors first count : ℕ) (image : Image) → rule.size ≡ g.shape.tag_size → IsGeometry g sectors → IsAreaRun g first count
    → HasTagRun rule g.shape.spb first count (tag_at g first).sector image → HasZeros (data_at g first) (count * g.shape.spb) image → HasZeroBlocks rule g first count image
area_has rule g sectors first count image size is run tags zeros = record {
  zeros = λ b k block low.
      let j = b - first in
      let low_j : j < count = omega (arith, block.begins, block.ends) in
      let at : first + j ≡ b = omega (arith, block.begins) in
      let place : data_at g b + k ≡ data_at g first + (j * g.shape.spb + k) = ap (λ (n : ℕ). data_at g n + k) (sym at) ∙ ap (λ (n : ℕ). n + k) (data_place g sectors first count j is run low_j) ∙ omega arith in
      ap image place ∙ zeros (j * g.shape.spb + k) (let fits = next_tag_fits j count g.shape.spb low_j in omega (arith, fits, low));
  tags = λ b i block low.
      let j = b - first in
      let low_j : j < count = omega (arith, block.begins, block.ends) in
      let at : first + j ≡ b = omega (arith, block.begins) in
      let place = tag_place g sectors first count j i is run low_j in
      let same : j * rule.size + i ≡ j * g.shape.tag_size + i = ap (λ (n : ℕ). j * n + i) size in
      let fits = next_tag_fits j count rule.size low_j in
      let of = tags.each (j * rule.size + i) (omega (arith, fits, low, size)) in
      ap (λ (n : ℕ). slice_index (image (tag_byte_at g n i).sector) (tag_byte_at g n i).byte) (sym at)
      ∙ ap (λ (n : ℕ). slice_index (image n) (tag_byte_at g (first + j) i).byte) (place.0 ∙ ap (λ (n : ℕ). (tag_at g first).sector + n / 512) (sym same))
      ∙ ap (slice_index (image ((tag_at g first).sector + (j * rule.size + i) / 512))) (place.1 ∙ ap (λ (n : ℕ). n % 512) (sym same))
      ∙ of ∙ byte_of_tag rule g.shape.spb first j i (omega (arith, low, size))
      ∙ ap (λ (n : ℕ). slice_index (zero_tag rule g.shape.spb n) i) at;
}

-- Tags stay where other sectors change.
pub HasTagRun-same : (rule : TagRule) (spb first count at from size : ℕ) (one other : Image) → at + quotient_up (count * rule.size) 512 ≤ from → AgreeBut (IsWithin from size) one other
    → HasTagRun rule spb first count at one → HasTagRun rule spb first count at other
HasTagRun-same rule spb first count at from size one other before same h = record {
  each = λ p low. ap (λ (x : List ℕ). slice_index x (p % 512)) (same (at + p / 512) (λ within. omega (arith, within.0, before, low))) ∙ h.each p low;
}

-- The sectors of their tags,
pub tag_sector_of : (g : Geometry) (sectors first count s : ℕ) → IsGeometry g sectors → IsAreaRun g first count → IsWithin (tag_at g first).sector (quotient_up (count * g.shape.tag_size) 512) s → IsSectorOf g first count s
tag_sector_of g sectors first count s is run within =
    let size = g.shape.tag_size in
    let p = 512 * (s - (tag_at g first).sector) in
    let low : p < count * size = omega (arith, within.0, within.1) in
    let j = p / size in
    let low_j : j < count = div_below p size count is.tag_size.0 low in
    let split : j * size + p % size ≡ p = div-add-mod' p size in
    let place = tag_place g sectors first count j (p % size) is run low_j in
    record {
      block = first + j;
      is_block = record { begins = omega arith; ends = omega (arith, low_j) };
      at = inr (p % size, mod_below p size is.tag_size.0, sym (place.0 ∙ ap (λ (n : ℕ). (tag_at g first).sector + n / 512) split ∙ omega (arith, within.0)));
    }

-- and of their data.
pub data_sector_of : (g : Geometry) (sectors first count s : ℕ) → IsGeometry g sectors → IsAreaRun g first count → IsWithin (data_at g first) (count * g.shape.spb) s → IsSectorOf g first count s
data_sector_of g sectors first count s is run within =
    let spb = g.shape.spb in
    let x = s - data_at g first in
    let low : x < count * spb = omega (arith, within.0, within.1) in
    let j = x / spb in
    let low_j : j < count = div_below x spb count is.spb.0 low in
    let split : j * spb + x % spb ≡ x = div-add-mod' x spb in
    let place = data_place g sectors first count j is run low_j in
    record {
      block = first + j;
      is_block = record { begins = omega arith; ends = omega (arith, low_j) };
      at = inl (x % spb, mod_below x spb is.spb.0, omega (arith, place, split, within.0));
    }

-- ---- area after area

-- Tags of an earlier area lie in other sectors.
tags_apart : (g : Geometry) (sectors first count b c i k : ℕ) → IsGeometry g sectors → IsAreaRun g first count → b < first → IsBlockOf first count c → i < g.shape.tag_size
    → (tag_byte_at g b i).sector ≡ (tag_byte_at g c k).sector → ⊥
unfolding tag_byte_at
tags_apart g sectors first count b c i k is run before block low same =
    let old = placed g sectors b is in
    let new = in_area g sectors first count (c - first) is run (omega (arith, block.begins, block.ends)) in
    let there : first + (c - first) ≡ c = omega (arith, block.begins) in
    let tag_c : 512 * area_at g new.area ≤ 512 * (tag_at g c).sector + (tag_at g c).byte = subst (λ (n : ℕ). 512 * area_at g new.area ≤ 512 * (tag_at g n).sector + (tag_at g n).byte) there (omega (arith, new.tag_is)) in
    let lower : old.area < new.area = elim (cases_lt old.area new.area) [
      | inl less ↦ less
      | inr more ↦ absurd (let rows = order (of_area g) new.area old.area more in omega (arith, rows, old.block_is, before, new.first_is))
    ] in
    let apart = area_at-lt g old.area new.area lower in
    omega (arith, apart, old.tag_is, old.tag_ends, low, tag_c, same)

-- Blocks of earlier areas stay.
earlier_stay : (rule : TagRule) (g : Geometry) (sectors first count : ℕ) (one other : Image) → IsGeometry g sectors → IsAreaRun g first count → AgreeBut (IsSectorOf g first count) one other
    → HasZeroBlocks rule g 0 first one → HasZeroBlocks rule g 0 first other
earlier_stay rule g sectors first count one other is run same h = record {
  zeros = λ b k block low. same (data_at g b + k) (λ of. elim of.at [
    | inl bytes ↦ let once = data_once g sectors b of.block k bytes.0 is low bytes.1 bytes.2 in omega (arith, once.0, block.ends, of.is_block.begins)
    | inr tag ↦ tag_byte-no_data g sectors of.block b tag.0 k is tag.1 low (sym tag.2)
  ]) ∙ h.zeros b k block low;
  tags = λ b i block low. ap (λ (x : List ℕ). slice_index x (tag_byte_at g b i).byte) (same (tag_byte_at g b i).sector (λ of. elim of.at [
    | inl bytes ↦ tag_byte-no_data g sectors b of.block i bytes.0 is low bytes.1 bytes.2
    | inr tag ↦ tags_apart g sectors first count b of.block i tag.0 is run (omega (arith, block.ends)) of.is_block low tag.2
  ])) ∙ h.tags b i block low;
}

blocks_more : (rule : TagRule) (g : Geometry) (first count : ℕ) (image : Image) → HasZeroBlocks rule g 0 first image → HasZeroBlocks rule g first count image → HasZeroBlocks rule g 0 (first + count) image
blocks_more rule g first count image one two = record {
  zeros = λ b k block low. elim (cases_lt b first) [
    | inl before ↦ one.zeros b k (record { begins = omega arith; ends = omega (arith, before) }) low
    | inr from ↦ two.zeros b k (record { begins = from; ends = omega (arith, block.ends) }) low
  ];
  tags = λ b i block low. elim (cases_lt b first) [
    | inl before ↦ one.tags b i (record { begins = omega arith; ends = omega (arith, before) }) low
    | inr from ↦ two.tags b i (record { begins = from; ends = omega (arith, block.ends) }) low
  ];
}

-- ---- for callers

-- Tags that were written, and zeros behind them.
pub area_now : {a b : List Content} (rule : TagRule) (g : Geometry) (sectors first count : ℕ) → rule.size ≡ g.shape.tag_size → IsGeometry g sectors → IsAreaRun g first count
    → HasNow (λ c. HasTagRun rule g.shape.spb first count (tag_at g first).sector (last_image c)) a
    → EachMoment a b (FromStart a (ChangesOnly (IsWithin (data_at g first) (count * g.shape.spb)))) → HasNow (λ c. HasZeros (data_at g first) (count * g.shape.spb) (last_image c)) b
    → HasNow (λ c. HasZeroBlocks rule g first count (last_image c)) b
area_now {a} {b} rule g sectors first count size is run tags changes zeros d told =
    let before = subst (λ (n : ℕ). (tag_at g first).sector + quotient_up (count * n) 512 ≤ data_at g first) (sym size) (tags_before_data g sectors first count is run) in
    area_has rule g sectors first count (last_image d) size is run
    (keeps_now (IsWithin (data_at g first) (count * g.shape.spb)) (λ image. HasTagRun rule g.shape.spb first count (tag_at g first).sector image)
    (λ one other same h. HasTagRun-same rule g.shape.spb first count (tag_at g first).sector (data_at g first) (count * g.shape.spb) one other before same h) tags changes d told)
    (zeros d told)

-- One more area.
pub areas_next : {a b : List Content} (rule : TagRule) (g : Geometry) (sectors first count : ℕ) → IsGeometry g sectors → IsAreaRun g first count
    → HasNow (λ c. HasZeroBlocks rule g 0 first (last_image c)) a → EachMoment a b (FromStart a (ChangesOnly (IsSectorOf g first count))) → HasNow (λ c. HasZeroBlocks rule g first count (last_image c)) b
    → HasNow (λ c. HasZeroBlocks rule g 0 (first + count) (last_image c)) b
areas_next {a} {b} rule g sectors first count is run so_far changes wiped d told =
    blocks_more rule g first count (last_image d)
    (keeps_now (IsSectorOf g first count) (λ image. HasZeroBlocks rule g 0 first image) (λ one other same h. earlier_stay rule g sectors first count one other is run same h) so_far changes d told)
    (wiped d told)

-- The sectors of an area are of all.
pub area_sector : (g : Geometry) (first count s : ℕ) → first + count ≤ g.blocks → IsSectorOf g first count s → IsSectorOf g 0 g.blocks s
area_sector g first count s inside of = record {
  block = of.block;
  is_block = record { begins = omega arith; ends = omega (arith, of.is_block.ends, inside) };
  at = of.at;
}

-- How many blocks an area has, by the fields.
pub area_is : (sectors : ℕ) (format : ImageFormat) → IsFormat sectors format → 2 ^ (format.fields.log2_interleave - format.fields.log2_spb) ≡ of_area format.geometry
area_is sectors format is =
    let s = format.fields in
    let own : format.geometry ≡ layout_of s = ((geometry_given s sectors format.geometry).0 is.told).0 in
    let low : s.log2_spb ≤ s.log2_interleave = omega (arith, is.fields.layout.log2_spb, is.fields.layout.log2_interleave) in
    let parts : 2 ^ s.log2_interleave ≡ 2 ^ (s.log2_interleave - s.log2_spb) * 2 ^ s.log2_spb = ap (λ n. 2 ^ n) (let e : s.log2_interleave ≡ s.log2_interleave - s.log2_spb + s.log2_spb = omega (arith, low) in e) ∙ pow-add 2 (s.log2_interleave - s.log2_spb) s.log2_spb in
    sym (mul-div_cancel (2 ^ (s.log2_interleave - s.log2_spb)) (pow_pos s.log2_spb)) ∙ ap (λ n. n / 2 ^ s.log2_spb) (sym parts) ∙ ap of_area (sym own)

-- The same as a shift of one.
pub area_shift : (sectors : ℕ) (format : ImageFormat) → IsFormat sectors format → 1 * 2 ^ (format.fields.log2_interleave - format.fields.log2_spb) % 2 ^ 64 ≡ of_area format.geometry
area_shift sectors format is =
    let k = format.fields.log2_interleave - format.fields.log2_spb in
    let low : k ≤ 31 = omega (arith, is.fields.layout.log2_interleave) in
    let few : 2 ^ k ≤ 2 ^ 31 = pow-le-pow_right {n = 2} (omega arith) {i = k} {j = 31} low in
    let same : 1 * 2 ^ k % 2 ^ 64 ≡ 2 ^ k = omega (arith, few) in
    same ∙ area_is sectors format is

-- A device has no more blocks than its disk has sectors.
pub blocks_few : (g : Geometry) (sectors : ℕ) → IsGeometry g sectors → g.blocks ≤ 2 ^ 48
unfolding data_at
blocks_few g sectors is =
    let last = is.last in
    let low = sector_at-le g ((g.blocks - 1) * g.shape.spb) in
    let times = le_times (g.blocks - 1) g.shape.spb is.spb.0 in
    omega (arith, last, low, times, is.device, is.spb, is.blocks)

-- The next blocks are the first ones of an area.
pub next_area : (g : Geometry) (sectors first count size : ℕ) → IsGeometry g sectors → size ≡ of_area g → first < g.blocks → (first % of_area g ≡ 0) ⊎ (first ≡ g.blocks)
    → count ≡ min (g.blocks - first) size → IsAreaRun g first count × (((first + count) % of_area g ≡ 0) ⊎ (first + count ≡ g.blocks))
next_area g sectors first count size is same low whole least =
    let some = of_area_some g sectors is in
    let begins : first % of_area g ≡ 0 = ⊎_elim (λ e. e) (λ e. absurd (omega (arith, e, low))) whole in (
      record { begins = begins; some = omega (arith, least, low, some, same); ends = omega (arith, least, same); inside = omega (arith, least, low) },
      elim (cases_lt (g.blocks - first) size) [
        | inl all ↦ inr (omega (arith, least, all, low))
        | inr many ↦
            let is_size : count ≡ of_area g = omega (arith, least, many, same) in
            inl (ap (λ (n : ℕ). (first + n) % of_area g) is_size ∙ add-mod_self first (of_area g) ∙ begins)
      ],
    )
  where
    add-mod_self : (n k : ℕ) → (n + k) % k ≡ n % k
    add-mod_self n k = ap (λ (m : ℕ). (n + m) % k) (let e : k ≡ 1 * k = omega arith in e) ∙ add-mul-mod_self_right n 1 k

-- What the tags of an area change, and its data.
pub area_tags : {a b : List Content} (g : Geometry) (sectors first count at size : ℕ) → IsGeometry g sectors → IsAreaRun g first count → at ≡ (tag_at g first).sector → size ≡ g.shape.tag_size
    → EachMoment a b (FromStart a (ChangesOnly (IsWithin at (quotient_up (count * size) 512)))) → EachMoment a b (FromStart a (ChangesOnly (IsSectorOf g first count)))
area_tags g sectors first count at size is run at_is size_is m =
    let bytes : count * size ≡ count * g.shape.tag_size = ap (λ (n : ℕ). count * n) size_is in
    changes_wider (IsWithin at (quotient_up (count * size) 512)) (IsSectorOf g first count)
    (λ s of. tag_sector_of g sectors first count s is run (omega (arith, of.0, at_is), omega (arith, of.1, at_is, bytes))) m

pub area_data : {a b : List Content} (g : Geometry) (sectors first count at spb : ℕ) → IsGeometry g sectors → IsAreaRun g first count → at ≡ data_at g first → spb ≡ g.shape.spb
    → EachMoment a b (FromStart a (ChangesOnly (IsWithin at (count * spb)))) → EachMoment a b (FromStart a (ChangesOnly (IsSectorOf g first count)))
area_data g sectors first count at spb is run at_is spb_is m =
    let all : count * spb ≡ count * g.shape.spb = ap (λ (n : ℕ). count * n) spb_is in
    changes_wider (IsWithin at (count * spb)) (IsSectorOf g first count)
    (λ s of. data_sector_of g sectors first count s is run (omega (arith, of.0, at_is), omega (arith, of.1, at_is, all))) m
