-- Values of the definitions, told from outside.
use Rattle.std.proofs.Common.{◌≡◌, inl, inr, ℕ, zero, suc, ◌/◌, ◌<◌, refl, sym, ◌∙◌, ap, arith, List, [], ◌∷◌, length, replicate}
use Rattle.std.specs.List.{Contains, slice_index_or}
use Rattle.image_model.specs.Geometry.{Geometry, data_at, sector_at, tag_at, tag_offset, section_sectors, section_entries, entries_per_sector, entry_size}
use Rattle.image_model.specs.Section.{Entry}
use Rattle.place_model.specs.Tags.{tag_byte_at}
use Rattle.place_model.specs.RecoveryWrites.{IsOfEntry, IsOfRecovery}

-- The small image: 256 sectors, one section of 88 sectors behind the superblock, and areas of 8 sectors of tags and 8 of
-- data from sector 96 on.
abbrev small : Geometry
small = record { shape = record { spb = 1; tag_size = 32 }; sections = 1; interleave = 8; tag_run = 8; blocks = 80; log2_region = 15 }

-- Block 9 is the second one of the second area.
abbrev entry : Entry
entry = record { sector = 9; bytes = replicate 512 170; tag = [] }

data_at-block_9 : data_at small 9 ≡ 121
unfolding data_at sector_at section_sectors section_entries entries_per_sector entry_size
data_at-block_9 = refl

-- The entry's bytes in its place,
IsOfRecovery-place : IsOfRecovery small (entry ∷ []) 121 (replicate 512 170)
unfolding data_at sector_at section_sectors section_entries entries_per_sector entry_size
IsOfRecovery-place = inl (inl (record {
  entry = entry;
  among = (0, omega arith, refl);
  in_place = record { begins = omega (arith, data_at-block_9); ends = omega (arith, data_at-block_9); is = refl };
}))

-- and anything where its tag stands.
IsOfRecovery-tags : IsOfRecovery small (entry ∷ []) 112 []
unfolding tag_byte_at tag_at tag_offset section_sectors section_entries entries_per_sector entry_size
IsOfRecovery-tags = inl (inr (record { block = 9; byte = 0; block_low = omega arith; byte_low = omega arith; is = refl }))

-- The place of the next block gets none of it.
IsOfEntry-next_block : (x : List ℕ) → IsOfEntry small (Contains (entry ∷ [])) 122 x → ⊥
IsOfEntry-next_block x of = by of.among.0 of.among.1 of.among.2
  where
    by : (k : ℕ) → k < 1 → slice_index_or (entry ∷ []) k of.entry ≡ of.entry → ⊥
    by zero low e =
        let at : 121 ≡ data_at small (of.entry.sector / 1) = sym data_at-block_9 ∙ ap (λ (y : Entry). data_at small (y.sector / 1)) e in
        let size : 1 ≡ length of.entry.bytes / 512 = ap (λ (y : Entry). length y.bytes / 512) e in
        omega (arith, of.in_place.ends, at, size)
    by (suc k) low e = omega (arith, low)
