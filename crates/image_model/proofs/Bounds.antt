-- How large the numbers of a section and of a geometry can be.
use Rattle.std.proofs.Common.{◌≡◌, inl, inr, ℕ, ◌+◌, ◌-◌, ◌*◌, ◌/◌, ◌%◌, ◌^◌, ◌<◌, ◌≤◌, cond, refl, ap, arith}
use Rattle.std.proofs.lemmas.Bool.{cases_Bool}
use Rattle.std.proofs.lemmas.Nat.{le-div, pow_pos, div-add-mod', mod_below, mul-le}
use Rattle.std.proofs.Math.Nat.{div-le_of_le-mul, div-mul-le_self, mul-le-mul_left, pow-le-pow_right}
use Rattle.image_model.specs.declared.flags.TheConstants.{FIXED_PADDING}
use Rattle.image_model.specs.Superblock.{Superblock, has_flag, HasLayout}
use Rattle.image_model.specs.Geometry.{Shape, round_up, entry_size, entries_per_sector, section_entries, section_sectors, tag_run_of, layout_of, journal_sectors, sector_at}

-- ---- a section

-- What holds of the numbers of a section whose blocks have 1 to 8 sectors and whose tags 1 to 32 bytes.
pub record HasEntries (shape : Shape) : Type 0 where
  pub entry_low : 8 + 8 * shape.spb + shape.tag_size ≤ entry_size shape
  pub entry_high : entry_size shape ≤ 104
  pub per_sector_low : 4 ≤ entries_per_sector shape
  pub per_sector_high : entries_per_sector shape ≤ 21
  pub sector_holds : entries_per_sector shape * entry_size shape ≤ 504
  pub entries_is : section_entries shape ≡ 8 * entries_per_sector shape
  pub sectors_is : section_sectors shape ≡ 8 + section_entries shape * shape.spb
  pub sectors_low : 40 ≤ section_sectors shape
  pub sectors_high : section_sectors shape ≤ 504

pub has_entries : (shape : Shape) → 1 ≤ shape.spb → shape.spb ≤ 8 → 1 ≤ shape.tag_size → shape.tag_size ≤ 32 → HasEntries shape
unfolding entry_size entries_per_sector section_entries section_sectors
has_entries shape spb_low spb_high tag_low tag_high =
    let entry : ℕ = (8 + 8 * shape.spb + shape.tag_size + 7) / 8 * 8 in
    let low : 16 + 8 * shape.spb ≤ entry = omega arith in
    let high : entry ≤ 104 = omega arith in
    let most : 504 / entry ≤ 21 = div-le_of_le-mul entry (omega arith) in
    let least : 4 ≤ 504 / entry = le-div 4 504 entry (omega arith) (omega arith) in
    let holds : 504 / entry * entry ≤ 504 = div-mul-le_self 504 entry in
    let few : 504 / entry * (16 + 8 * shape.spb) ≤ 504 / entry * entry = mul-le-mul_left (504 / entry) low in
    let some : 504 / entry * 1 ≤ 504 / entry * shape.spb = mul-le-mul_left (504 / entry) spb_low in
    record {
      entry_low = omega arith;
      entry_high = high;
      per_sector_low = least;
      per_sector_high = most;
      sector_holds = holds;
      entries_is = refl;
      sectors_is = refl;
      sectors_low = omega arith;
      sectors_high = omega arith;
    }

-- ---- a geometry

-- The sectors of the tags of an area are at most 256 more than its data sectors.
pub tag_run_of-high : (s : Superblock) → HasLayout s → tag_run_of s ≤ 2 ^ s.log2_interleave + 256
unfolding tag_run_of
tag_run_of-high s h =
    let tag = h.tag_size in
    let power = pow-le-pow_right {n = 2} (omega arith) {i = s.log2_interleave - s.log2_spb} {j = s.log2_interleave} (omega arith) in
    let bytes : 2 ^ (s.log2_interleave - s.log2_spb) * s.tag_size ≤ 2 ^ s.log2_interleave * 32 = mul-le _ _ _ _ power tag.1 in
    elim (cases_Bool (has_flag FIXED_PADDING s.flags)) [
      | inl set ↦ let e = ap (λ b. round_up (2 ^ (s.log2_interleave - s.log2_spb) * s.tag_size) (cond b 4096 131072) / 512) set in omega arith
      | inr unset ↦ let e = ap (λ b. round_up (2 ^ (s.log2_interleave - s.log2_spb) * s.tag_size) (cond b 4096 131072) / 512) unset in omega arith
    ]

-- A journal has few enough sections that its sectors can be counted.
pub journal_sectors-low : (s : Superblock) → HasLayout s → s.sections < 2 ^ 32 → journal_sectors (layout_of s) < 2 ^ 41
journal_sectors-low s h few =
    let power = pow-le-pow_right {n = 2} (omega arith) {i = s.log2_spb} {j = 3} h.log2_spb in
    let section = has_entries (record { spb = 2 ^ s.log2_spb; tag_size = s.tag_size }) (pow_pos s.log2_spb) (omega arith) h.tag_size.0 h.tag_size.1 in
    let sectors = section.sectors_high in
    let sections : s.sections ≤ 2 ^ 32 = omega arith in
    let all : s.sections * section_sectors (record { spb = 2 ^ s.log2_spb; tag_size = s.tag_size }) ≤ 2 ^ 32 * 504 = mul-le _ _ _ _ sections sectors in
    omega arith

-- The place of any sector can be told in a u64, on whatever disk.
pub sector_at-low : (s : Superblock) (x : ℕ) → HasLayout s → journal_sectors (layout_of s) ≤ 2 ^ 20 → x < 2 ^ 48 → sector_at (layout_of s) x < 2 ^ 55
unfolding sector_at
sector_at-low s x h journal low =
    let interleave = 2 ^ s.log2_interleave in
    let area = x / interleave in
    let run = tag_run_of-high s h in
    let least = pow-le-pow_right {n = 2} (omega arith) {i = 3} {j = s.log2_interleave} h.log2_interleave.0 in
    let most = pow-le-pow_right {n = 2} (omega arith) {i = s.log2_interleave} {j = 31} h.log2_interleave.1 in
    let split : area * interleave + x % interleave ≡ x = div-add-mod' x interleave in
    let offset : x % interleave < interleave = mod_below x interleave (omega arith) in
    let few : area * 8 ≤ area * interleave = mul-le-mul_left area least in
    let runs : area * tag_run_of s ≤ area * (interleave + 256) = mul-le-mul_left area run in
    omega arith
