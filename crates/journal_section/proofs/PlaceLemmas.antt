-- Where the entries of a section lie: each in its metadata sector before the commit id, and apart from the others.
use Rattle.std.proofs.Common.{◌≢◌, ◌⊎◌, inl, inr, ℕ, ◌+◌, ◌*◌, ◌/◌, ◌%◌, ◌<◌, ◌≤◌, arith}
use Rattle.std.proofs.lemmas.Bool.{cases_lt}
use Rattle.std.proofs.Math.Nat.{mul-le-mul_right}
use Rattle.image_model.specs.Geometry.{Shape, entry_size, entries_per_sector, section_entries, section_sectors}
use Rattle.image_model.specs.Section.{entry_from}
use Rattle.image_model.proofs.Bounds.{HasEntries}

-- An entry ends before the commit id of its sector,
pub entry_fits : (shape : Shape) (n : ℕ) → HasEntries shape → n < section_entries shape
    → n / 8 * entry_size shape + entry_size shape ≤ 504
entry_fits shape n has low =
    let row : n / 8 + 1 ≤ entries_per_sector shape = omega (arith, has.entries_is) in
    let all : (n / 8 + 1) * entry_size shape ≤ entries_per_sector shape * entry_size shape = mul-le-mul_right (entry_size shape) row in
    omega (arith, has.sector_holds)

-- so within the metadata sectors.
pub entry_in_meta : (shape : Shape) (n : ℕ) → HasEntries shape → n < section_entries shape
    → entry_from shape n + entry_size shape ≤ 4096
entry_in_meta shape n has low = omega (arith, entry_fits shape n has low)

-- Entries lie apart.
pub entries_apart : (shape : Shape) (m n : ℕ) → HasEntries shape → m < section_entries shape → n < section_entries shape → m ≢ n
    → (entry_from shape m + entry_size shape ≤ entry_from shape n) ⊎ (entry_from shape n + entry_size shape ≤ entry_from shape m)
entries_apart shape m n has low_m low_n differ =
    let fits_m = entry_fits shape m has low_m in
    let fits_n = entry_fits shape n has low_n in
    elim (cases_lt (m % 8) (n % 8)) [
      | inl before ↦ inl (omega arith)
      | inr not_before ↦ elim (cases_lt (n % 8) (m % 8)) [
        | inl behind ↦ inr (omega arith)
        | inr not_behind ↦ elim (cases_lt (m / 8) (n / 8)) [
          | inl above ↦
              let step : (m / 8 + 1) * entry_size shape ≤ n / 8 * entry_size shape = mul-le-mul_right (entry_size shape) (omega arith) in
              inl (omega arith)
          | inr not_above ↦
              let lower : n / 8 + 1 ≤ m / 8 = omega arith in
              let step : (n / 8 + 1) * entry_size shape ≤ m / 8 * entry_size shape = mul-le-mul_right (entry_size shape) lower in
              inr (omega arith)
        ]
      ]
    ]

-- The data sectors of an entry are within the section,
pub parts_fit : (shape : Shape) (n : ℕ) → HasEntries shape → n < section_entries shape
    → 512 * (8 + n * shape.spb) + 512 * shape.spb ≤ 512 * section_sectors shape
parts_fit shape n has low =
    let all : (n + 1) * shape.spb ≤ section_entries shape * shape.spb = mul-le-mul_right shape.spb (omega arith) in
    omega (arith, has.sectors_is)

-- and apart from those of another.
pub parts_apart : (shape : Shape) (m n : ℕ) → m ≢ n
    → (512 * (8 + m * shape.spb) + 512 * shape.spb ≤ 512 * (8 + n * shape.spb))
    ⊎ (512 * (8 + n * shape.spb) + 512 * shape.spb ≤ 512 * (8 + m * shape.spb))
parts_apart shape m n differ = elim (cases_lt m n) [
  | inl before ↦ let step : (m + 1) * shape.spb ≤ n * shape.spb = mul-le-mul_right shape.spb (omega arith) in inl (omega arith)
  | inr behind ↦ let lower : n + 1 ≤ m = omega arith in let step : (n + 1) * shape.spb ≤ m * shape.spb = mul-le-mul_right shape.spb lower in inr (omega arith)
]
