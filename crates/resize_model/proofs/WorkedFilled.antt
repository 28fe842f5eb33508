-- The worked disk once eight blocks are added: their zeros and tags are written and synced, and the first sector tells of them.
-- So no law of what is written speaks of nothing. The tags are by Python's `hashlib`.
use Rattle.std.proofs.Common.{◌≡◌, nat_lt, inl, inr, ℕ, ◌+◌, ◌<◌, ◌≤◌, ◌==◌, if◌then◌else◌, true, false, List, [], ◌∷◌, ◌++◌, slice_index, replicate, refl, sym, ap, ◌∙◌, subst, arith}
use Rattle.std.specs.List.{Contains}
use Rattle.std.proofs.lemmas.Bool.{cases_eq, cases_lt, eq-eqb, le-ltb, lt-ltb, ne_eqb}
use Rattle.sha2.specs.Sha256.{compress, digest_bytes, first_words, hash_after, rounds, schedule, sha256}
use Rattle.disk_model.specs.Disk.{Content, HasNothingPending, Image, OnlyAdds}
use Rattle.disk_model.proofs.DiskLemmas.{newest_only-last, only_candidate}
use Rattle.image_model.specs.Cells.{placed_cells_of}
use Rattle.image_model.specs.Geometry.{best_provided, best_provided_of, data_at, entries_per_sector, entry_size, section_entries, section_sectors, sector_at, tag_at, tag_offset, tag_run_of}
use Rattle.image_model.specs.Tag.{tag_message, tag_of}
use Rattle.place_model.specs.Format.{HasWholeSectors, tagger_of}
use Rattle.place_model.specs.Tags.{IsOfTags, tag_byte_at}
use Rattle.place_model.proofs.PlacedLemmas.{placed_tag-byte}
use Rattle.place_model.proofs.WorkedDisk.{fresh_journal}
use Rattle.resize_model.specs.Growth.{AreGrowing, Growth, HasNewBlocks, IsNewBlock, IsOfGrowth, IsOfNewTags, StandsFor, geometry_then}
use Rattle.resize_model.specs.Resized.{zero_block}
use Rattle.resize_model.specs.StepLaws.{resizing}
use Rattle.resize_model.proofs.StepLemmas.{growing_law, new_tags_law}
use Rattle.resize_model.proofs.WorkedGrowth.{longer, content, HasWholeSectors-longer, StandsFor-fresh}

abbrev pub w : Growth
w = resizing longer fresh_journal

-- The tags of the blocks 8 to 15, of zeros.
abbrev new_tags : List ℕ
new_tags =
    0xb1 ∷ 0xd7 ∷ 0xea ∷ 0x5c ∷ 0x03 ∷ 0xb7 ∷ 0x71 ∷ 0xec ∷ 0xc5 ∷ 0x83 ∷ 0xc9 ∷ 0xe6 ∷ 0x38 ∷ 0x0e ∷ 0x7d ∷ 0x1b ∷
    0xfb ∷ 0xe0 ∷ 0x5f ∷ 0x43 ∷ 0xa7 ∷ 0x86 ∷ 0x99 ∷ 0x0e ∷ 0xee ∷ 0x5b ∷ 0xe1 ∷ 0x00 ∷ 0xf0 ∷ 0x61 ∷ 0x0c ∷ 0x54 ∷
    0xa4 ∷ 0xa1 ∷ 0x16 ∷ 0xa6 ∷ 0x39 ∷ 0x88 ∷ 0x3a ∷ 0xf0 ∷ 0x21 ∷ 0x8f ∷ 0xa7 ∷ 0xd4 ∷ 0xfa ∷ 0xda ∷ 0xf4 ∷ 0x62 ∷
    0xf6 ∷ 0x96 ∷ 0xea ∷ 0x37 ∷ 0xce ∷ 0x1e ∷ 0x1a ∷ 0x1c ∷ 0x05 ∷ 0xc9 ∷ 0x04 ∷ 0x02 ∷ 0x13 ∷ 0x8e ∷ 0xf2 ∷ 0x6b ∷
    0xfe ∷ 0xf4 ∷ 0x36 ∷ 0x30 ∷ 0x17 ∷ 0xb7 ∷ 0xb8 ∷ 0x1e ∷ 0xdd ∷ 0xb5 ∷ 0x98 ∷ 0xab ∷ 0x74 ∷ 0xaa ∷ 0xf7 ∷ 0xaa ∷
    0x65 ∷ 0xec ∷ 0x88 ∷ 0x97 ∷ 0xb2 ∷ 0x4b ∷ 0xc5 ∷ 0xc1 ∷ 0xc4 ∷ 0xd4 ∷ 0xfa ∷ 0xf0 ∷ 0xd2 ∷ 0x43 ∷ 0x6b ∷ 0x0d ∷
    0xc1 ∷ 0x58 ∷ 0x35 ∷ 0xc1 ∷ 0xa5 ∷ 0x74 ∷ 0x26 ∷ 0xad ∷ 0x06 ∷ 0x1f ∷ 0x59 ∷ 0xf0 ∷ 0xd6 ∷ 0x15 ∷ 0xd7 ∷ 0x9b ∷
    0x15 ∷ 0xe2 ∷ 0xc8 ∷ 0xdf ∷ 0xce ∷ 0xf5 ∷ 0x0d ∷ 0xb8 ∷ 0x34 ∷ 0x33 ∷ 0x29 ∷ 0x71 ∷ 0x66 ∷ 0x20 ∷ 0x5d ∷ 0x70 ∷
    0x49 ∷ 0x2e ∷ 0x66 ∷ 0xf8 ∷ 0x93 ∷ 0xec ∷ 0xb6 ∷ 0x5e ∷ 0x1d ∷ 0xff ∷ 0xf3 ∷ 0xd8 ∷ 0x53 ∷ 0xf7 ∷ 0x2b ∷ 0x9a ∷
    0x7f ∷ 0x24 ∷ 0x8e ∷ 0x05 ∷ 0xce ∷ 0xaf ∷ 0xa4 ∷ 0x34 ∷ 0x39 ∷ 0x34 ∷ 0xa4 ∷ 0x57 ∷ 0xdd ∷ 0xe8 ∷ 0xf4 ∷ 0x88 ∷
    0x72 ∷ 0x39 ∷ 0xab ∷ 0x6f ∷ 0x4b ∷ 0x65 ∷ 0xe9 ∷ 0x39 ∷ 0x2a ∷ 0x23 ∷ 0x29 ∷ 0x71 ∷ 0x0a ∷ 0x08 ∷ 0x8f ∷ 0x36 ∷
    0x41 ∷ 0x2f ∷ 0xb5 ∷ 0xe8 ∷ 0xf9 ∷ 0x91 ∷ 0xdc ∷ 0xf9 ∷ 0xf7 ∷ 0x72 ∷ 0x97 ∷ 0x6d ∷ 0x36 ∷ 0xbd ∷ 0x99 ∷ 0xb8 ∷
    0xbb ∷ 0x77 ∷ 0x42 ∷ 0xcf ∷ 0xe6 ∷ 0x0c ∷ 0xe7 ∷ 0x22 ∷ 0xc0 ∷ 0x21 ∷ 0xe1 ∷ 0xb3 ∷ 0x20 ∷ 0xa0 ∷ 0x33 ∷ 0x76 ∷
    0x4d ∷ 0x38 ∷ 0xe3 ∷ 0x2c ∷ 0xe1 ∷ 0x42 ∷ 0x38 ∷ 0xe8 ∷ 0xf6 ∷ 0x75 ∷ 0xd6 ∷ 0xa0 ∷ 0x42 ∷ 0x05 ∷ 0xea ∷ 0xcc ∷
    0x55 ∷ 0xa4 ∷ 0xaa ∷ 0xa9 ∷ 0xe9 ∷ 0xc2 ∷ 0x65 ∷ 0x96 ∷ 0x4d ∷ 0x82 ∷ 0x43 ∷ 0x92 ∷ 0x22 ∷ 0x41 ∷ 0x66 ∷ 0xbf ∷
    0x0b ∷ 0xdd ∷ 0x59 ∷ 0x4b ∷ 0x51 ∷ 0xbb ∷ 0xe5 ∷ 0xb7 ∷ 0x05 ∷ 0xc7 ∷ 0x0d ∷ 0xd6 ∷ 0x88 ∷ 0x34 ∷ 0x10 ∷ 0x87 ∷ []

-- They stand in the first sector of the second area, which is sector 112; the zeros stood there before.
abbrev pub filled_journal : Image
filled_journal sector = if sector == 112 then new_tags ++ replicate 256 0 else fresh_journal sector

abbrev pub filled : Content
filled sector = filled_journal sector ∷ []

pub HasWholeSectors-filled : HasWholeSectors longer filled_journal
HasWholeSectors-filled sector inside = elim (cases_eq sector 112) [
  | inl here ↦ rw (eq-eqb sector 112 here) refl
  | inr other ↦ rw (ne_eqb sector 112 other) (HasWholeSectors-longer sector inside)
]

pub settled-filled : HasNothingPending filled
settled-filled = record { only = λ sector x has. only_candidate (filled_journal sector) x has }

-- ---- the new blocks

-- P of each of them.
eight_blocks : (P : ℕ → Type 0) → P 8 → P 9 → P 10 → P 11 → P 12 → P 13 → P 14 → P 15 → (b : ℕ) → 8 ≤ b → b < 16 → P b
eight_blocks P p8 p9 p10 p11 p12 p13 p14 p15 b above low =
    elim (cases_lt b 9) [
      | inl u ↦ (let e : 8 ≡ b = omega arith in subst P e p8)
      | inr u9 ↦
          elim (cases_lt b 10) [
            | inl u ↦ (let e : 9 ≡ b = omega arith in subst P e p9)
            | inr u10 ↦
                elim (cases_lt b 11) [
                  | inl u ↦ (let e : 10 ≡ b = omega arith in subst P e p10)
                  | inr u11 ↦
                      elim (cases_lt b 12) [
                        | inl u ↦ (let e : 11 ≡ b = omega arith in subst P e p11)
                        | inr u12 ↦
                            elim (cases_lt b 13) [
                              | inl u ↦ (let e : 12 ≡ b = omega arith in subst P e p12)
                              | inr u13 ↦
                                  elim (cases_lt b 14) [
                                    | inl u ↦ (let e : 13 ≡ b = omega arith in subst P e p13)
                                    | inr u14 ↦
                                        elim (cases_lt b 15) [
                                          | inl u ↦ (let e : 14 ≡ b = omega arith in subst P e p14)
                                          | inr u15 ↦
                                              (let e : 15 ≡ b = omega arith in subst P e p15)
                                        ]
                                  ]
                            ]
                      ]
                ]
          ]
    ]

-- There are eight of them.
pub new_low : (b : ℕ) → IsNewBlock w b → b < 16
unfolding best_provided_of best_provided tag_run_of entry_size entries_per_sector section_entries section_sectors
new_low b is_new = is_new.low

pub low_new : (b : ℕ) → 8 ≤ b → b < 16 → IsNewBlock w b
unfolding best_provided_of best_provided tag_run_of entry_size entries_per_sector section_entries section_sectors
low_new b above low = record { new = above; low = low }

-- Each has its tag in its place.
abbrev HasItsTag : ℕ → Type 0
HasItsTag b = (placed_cells_of longer.geometry filled_journal b).tag ≡ tagger_of longer b (zero_block longer.geometry)

tag-8 : HasItsTag 8
unfolding placed_cells_of data_at sector_at tag_at tag_offset tag_run_of entry_size entries_per_sector section_entries section_sectors first_words schedule rounds compress hash_after digest_bytes sha256 tag_message tag_of
tag-8 = refl

tag-9 : HasItsTag 9
unfolding placed_cells_of data_at sector_at tag_at tag_offset tag_run_of entry_size entries_per_sector section_entries section_sectors first_words schedule rounds compress hash_after digest_bytes sha256 tag_message tag_of
tag-9 = refl

tag-10 : HasItsTag 10
unfolding placed_cells_of data_at sector_at tag_at tag_offset tag_run_of entry_size entries_per_sector section_entries section_sectors first_words schedule rounds compress hash_after digest_bytes sha256 tag_message tag_of
tag-10 = refl

tag-11 : HasItsTag 11
unfolding placed_cells_of data_at sector_at tag_at tag_offset tag_run_of entry_size entries_per_sector section_entries section_sectors first_words schedule rounds compress hash_after digest_bytes sha256 tag_message tag_of
tag-11 = refl

tag-12 : HasItsTag 12
unfolding placed_cells_of data_at sector_at tag_at tag_offset tag_run_of entry_size entries_per_sector section_entries section_sectors first_words schedule rounds compress hash_after digest_bytes sha256 tag_message tag_of
tag-12 = refl

tag-13 : HasItsTag 13
unfolding placed_cells_of data_at sector_at tag_at tag_offset tag_run_of entry_size entries_per_sector section_entries section_sectors first_words schedule rounds compress hash_after digest_bytes sha256 tag_message tag_of
tag-13 = refl

tag-14 : HasItsTag 14
unfolding placed_cells_of data_at sector_at tag_at tag_offset tag_run_of entry_size entries_per_sector section_entries section_sectors first_words schedule rounds compress hash_after digest_bytes sha256 tag_message tag_of
tag-14 = refl

tag-15 : HasItsTag 15
unfolding placed_cells_of data_at sector_at tag_at tag_offset tag_run_of entry_size entries_per_sector section_entries section_sectors first_words schedule rounds compress hash_after digest_bytes sha256 tag_message tag_of
tag-15 = refl

pub tag_is : (b : ℕ) → 8 ≤ b → b < 16 → HasItsTag b
tag_is = eight_blocks HasItsTag tag-8 tag-9 tag-10 tag-11 tag-12 tag-13 tag-14 tag-15

-- Byte by byte, as it stands in its sector.
pub tag_byte : (b i : ℕ) → IsNewBlock w b → i < 32
    → slice_index (filled_journal (tag_byte_at longer.geometry b i).sector) (tag_byte_at longer.geometry b i).byte ≡ slice_index (tagger_of longer b (zero_block longer.geometry)) i
unfolding tag_byte_at tag_at tag_offset placed_cells_of data_at sector_at
tag_byte b i is_new i_low =
    sym (placed_tag-byte (geometry_then w) 128 StandsFor-fresh.formed.grown.is_grown filled_journal HasWholeSectors-filled b is_new.low (placed_cells_of longer.geometry filled_journal b) i i_low)
    ∙ ap (λ (tag : List ℕ). slice_index tag i) (tag_is b is_new.new (new_low b is_new))

-- No old block has a byte of its tag there.
old_apart : (b i : ℕ) → b < 8 → i < 32 → 112 ≡ (tag_byte_at longer.geometry b i).sector → ⊥
unfolding tag_byte_at tag_at tag_offset tag_run_of entry_size entries_per_sector section_entries section_sectors
old_apart b i low i_low there = omega arith

first_there : 112 ≡ (tag_byte_at longer.geometry 8 0).sector
unfolding tag_byte_at tag_at tag_offset tag_run_of entry_size entries_per_sector section_entries section_sectors
first_there = refl

-- The tags in place in an image,
abbrev tags_on : Image → ℕ → List ℕ
tags_on image b = (placed_cells_of longer.geometry image b).tag

-- and those that come: old blocks have theirs, and new ones that of zeros. Both may be there meanwhile.
tags_then : ℕ → List ℕ
tags_then b = if nat_lt b 8 then tags_on fresh_journal b else tagger_of longer b (zero_block longer.geometry)

AreGrowing-then : AreGrowing w tags_then
unfolding tags_then
AreGrowing-then = record {
  old = λ b low. rw (lt-ltb b 8 low) refl;
  new = λ b is_new. inr (rw (le-ltb b 8 is_new.new) refl);
}

AreGrowing-fresh : AreGrowing w (tags_on fresh_journal)
AreGrowing-fresh = record { old = λ b low. refl; new = λ b is_new. inl refl }

-- So the sector may be written,
IsOfTags-filled : IsOfTags (geometry_then w) (tags_on fresh_journal) tags_then 112 (new_tags ++ replicate 256 0)
unfolding tags_then tag_byte_at tag_at tag_offset
IsOfTags-filled = record {
  whole = refl;
  block = 8;
  byte = 0;
  block_low = (low_new 8 (omega arith) (omega arith)).low;
  byte_low = omega arith;
  is = first_there;
  each = λ b i low i_low there. elim (cases_lt b 8) [
    | inl old ↦ absurd (old_apart b i old i_low there)
    | inr above ↦ inr (
        ap (λ (n : ℕ). slice_index (filled_journal n) (tag_byte_at longer.geometry b i).byte) there
        ∙ tag_byte b i (record { new = above; low = low }) i_low
        ∙ ap (λ (tag : List ℕ). slice_index tag i) (rw (le-ltb b 8 above) refl))
  ];
}

pub IsOfNewTags-filled : IsOfNewTags w 112 (new_tags ++ replicate 256 0)
IsOfNewTags-filled = new_tags_law w (tags_on fresh_journal) tags_then 112 (new_tags ++ replicate 256 0) StandsFor-fresh.formed AreGrowing-fresh AreGrowing-then IsOfTags-filled

-- and the disk stands for the same.
pub OnlyAdds-filled : OnlyAdds (IsOfGrowth w) content filled
OnlyAdds-filled = record {
  among = λ sector x has.
      let is : x ≡ filled_journal sector = only_candidate (filled_journal sector) x has in
      elim (cases_eq sector 112) [
        | inl here ↦ inr (inr (inl (
            subst (λ (n : ℕ). IsOfNewTags w n x) (sym here)
            (subst (IsOfNewTags w 112) (sym (is ∙ rw (eq-eqb sector 112 here) refl)) IsOfNewTags-filled))))
        | inr other ↦ inl (subst (λ (y : List ℕ). Contains (content sector) y) (sym (is ∙ rw (ne_eqb sector 112 other) refl)) (newest_only-last content sector))
      ];
}

pub StandsFor-filled : StandsFor w filled
StandsFor-filled = growing_law w content filled StandsFor-fresh OnlyAdds-filled

-- ---- their zeros

zeros_at : (s : ℕ) → 113 ≤ s → filled_journal s ≡ replicate 512 0
zeros_at s above = rw (ne_eqb s 112 (λ same. omega arith), ne_eqb s 0 (λ same. omega arith), le-ltb s 8 (omega arith), le-ltb s 96 (omega arith), ne_eqb s 96 (λ same. omega arith)) refl

pub data_late : (b k : ℕ) → 8 ≤ b → 113 ≤ data_at longer.geometry b + k
unfolding data_at sector_at tag_run_of entry_size entries_per_sector section_entries section_sectors
data_late b k above = omega arith

pub HasNewBlocks-filled : HasNewBlocks w filled_journal
HasNewBlocks-filled = record {
  zeros = λ b k is_new k_low. zeros_at (data_at longer.geometry b + k) (data_late b k is_new.new);
  tags = λ b i is_new i_low. tag_byte b i is_new i_low;
  bits = λ set region is_new. absurd (let wrong : false ≡ true = set in cc);
}
