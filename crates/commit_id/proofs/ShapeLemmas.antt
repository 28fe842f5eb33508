-- What holds of a `Shape`.
use Rattle.std.proofs.Common.{◌≡◌, ℕ, ◌+◌, ◌-◌, ◌*◌, ◌/◌, ◌%◌, ◌^◌, ◌<◌, ◌≤◌, ap, arith}
use Rattle.std.specs.Int.{IsInRange}
use Rattle.std.proofs.lemmas.Nat.{pow_pos}
use Rattle.std.proofs.Math.Nat.{pow-le-pow_right}
use Rattle.image_model.specs.Geometry.{entry_size, entries_per_sector, section_entries, section_sectors}
use Rattle.image_model.proofs.Bounds.{HasEntries, has_entries}
use Rattle.commit_id.specs.declared.shape.Shape.{Shape}
use Rattle.commit_id.specs.Shape.{as_shape, IsShape}

-- A block has 1 to 8 sectors.
spb_high : (log2 : ℕ) → log2 ≤ 3 → 2 ^ log2 ≤ 8
spb_high log2 low = pow-le-pow_right {n = 2} (omega arith) low

-- What is computed from the sectors of a block and the least size of an entry is a shape.
pub is_shape : (log2 tag spb entry : ℕ) → log2 ≤ 3 → IsInRange 1 32 tag → spb ≡ 1 * 2 ^ log2 % 2 ^ 64
    → 8 + 8 * spb + tag ≤ entry → entry < 8 + 8 * spb + tag + 8 → entry % 8 ≡ 0
    → IsShape (record {
      spb = spb;
      tag = tag;
      entry = entry;
      per_sector = 504 / entry;
      entries = 8 * (504 / entry);
      sectors = 8 + 8 * (504 / entry) * spb;
    })
unfolding entry_size entries_per_sector section_entries section_sectors
is_shape log2 tag spb entry low size is least most whole =
    let high = spb_high log2 low in
    let size_is : entry ≡ (8 + 8 * spb + tag + (8 - 1)) / 8 * 8 = omega arith in
    record {
      log2_spb = (log2, low, omega arith);
      tag = size;
      entry = size_is;
      per_sector = ap (λ n. 504 / n) size_is;
      entries = ap (λ n. 8 * (504 / n)) size_is;
      sectors = ap (λ n. 8 + 8 * (504 / n) * spb) size_is;
    }

-- ---- for callers

-- How large the numbers of a shape can be.
pub shape_holds : (shape : Shape) → IsShape shape → (1 ≤ shape.spb) × (shape.spb ≤ 8) × HasEntries (as_shape shape)
shape_holds shape is =
    let some = pow_pos is.log2_spb.0 in
    let few = spb_high is.log2_spb.0 is.log2_spb.1 in
    let least : 1 ≤ shape.spb = omega (arith, is.log2_spb.2) in
    let most : shape.spb ≤ 8 = omega (arith, is.log2_spb.2) in
    (least, most, has_entries (as_shape shape) least most is.tag.0 is.tag.1)
