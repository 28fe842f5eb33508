-- What a resize of the worked disk does not do: each of these runs is refused by the words of `specs/Written.antt`.
use Rattle.std.proofs.Common.{◌≡◌, inl, inr, false, [], ⊎_elim, ℕ, ◌+◌, List, ◌∷◌, slice_index, replicate, refl, sym, ap, ◌∙◌, arith}
use Rattle.std.specs.Fmt.{digits}
use Rattle.image_model.specs.Geometry.{data_at, entries_per_sector, entry_size, section_entries, section_sectors, sector_at, tag_at, tag_offset, tag_run_of}
use Rattle.place_model.specs.Format.{tagger_of}
use Rattle.run_model.specs.declared.outer.Outer.TheVariants.{Disk}
use Rattle.run_model.specs.CommandRun.{IsEndedBy, only_prints}
use Rattle.run_model.specs.Ending.{Complete, Failed}
use Rattle.place_model.specs.Tags.{tag_byte_at}
use Rattle.place_model.proofs.WorkedDisk.{fresh_journal}
use Rattle.resize_model.specs.Growth.{IsOfGrowth, IsOfNewTags}
use Rattle.resize_model.specs.Resized.{resized_text, zero_block}
use Rattle.resize_model.specs.Written.{IsOfHead, IsToTell, head_then}
use Rattle.resize_model.proofs.WrittenLemmas.{beside_old_law}
use Rattle.resize_model.proofs.WorkedGrowth.{longer, content, StandsFor-fresh}
use Rattle.resize_model.proofs.WorkedFilled.{w, filled_journal, low_new, tag_byte}

-- Bytes that differ at the first place do not agree.
first_differs : (x y : List ℕ) → x ≡ y → slice_index x 0 ≡ slice_index y 0
first_differs x y same = ap (λ (bytes : List ℕ). slice_index bytes 0) same

-- ---- data

at-eight : 120 ≡ data_at longer.geometry 8 + 0
unfolding data_at sector_at tag_run_of entry_size entries_per_sector section_entries section_sectors
at-eight = refl

at-zero : 104 ≡ data_at longer.geometry 0 + 0
unfolding data_at sector_at tag_run_of entry_size entries_per_sector section_entries section_sectors
at-zero = refl

-- No bytes but zeros are written in a new block,
new-data : IsOfGrowth w 120 (1 ∷ replicate 511 0) → ⊥
new-data of =
    let is = (beside_old_law w 120 (1 ∷ replicate 511 0) StandsFor-fresh.formed of).new 8 0 (low_new 8 (omega arith) (omega arith)) (omega arith) at-eight in
    let wrong : 1 ≡ 0 = first_differs (1 ∷ replicate 511 0) (replicate 512 0) is in
    omega (arith, wrong)

-- and none in an old one, nor in the superblock or the journal.
old-data : (x : List ℕ) → IsOfGrowth w 104 x → ⊥
old-data x of = (beside_old_law w 104 x StandsFor-fresh.formed of).old 0 0 (omega arith) (omega arith) at-zero

superblock : (x : List ℕ) → IsOfGrowth w 0 x → ⊥
superblock x of = let late = (beside_old_law w 0 x StandsFor-fresh.formed of).behind in omega arith

journal : (x : List ℕ) → IsOfGrowth w 8 x → ⊥
unfolding section_sectors section_entries entries_per_sector entry_size
journal x of = (beside_old_law w 8 x StandsFor-fresh.formed of).journal refl (record { section = 0; place = 0; inside = omega arith; narrow = omega arith; is = refl })

-- ---- tags

tag-sector : (112 ≡ (tag_byte_at longer.geometry 8 0).sector) × ((tag_byte_at longer.geometry 8 0).byte ≡ 0)
unfolding tag_byte_at tag_at tag_offset tag_run_of entry_size entries_per_sector section_entries section_sectors
tag-sector = (refl, refl)

-- The first byte of the tag of block 8, of zeros, is 0xb1.
tag-first : slice_index (tagger_of longer 8 (zero_block longer.geometry)) 0 ≡ 0xb1
tag-first =
    sym (tag_byte 8 0 (low_new 8 (omega arith) (omega arith)) (omega arith))
    ∙ ap (λ (n : ℕ). slice_index (filled_journal n) (tag_byte_at longer.geometry 8 0).byte) (sym tag-sector.0)
    ∙ ap (slice_index (filled_journal 112)) tag-sector.1

-- No other byte is written there but the one that was there, which is 0.
new-tag : IsOfNewTags w 112 (replicate 512 1) → ⊥
new-tag of = ⊎_elim
    (λ kept. let wrong : 1 ≡ 0 = sym (ap (slice_index (replicate 512 1)) tag-sector.1) ∙ kept ∙ ap (slice_index (fresh_journal 112)) tag-sector.1 in omega (arith, wrong))
    (λ zeros. let wrong : 1 ≡ 0xb1 = sym (ap (slice_index (replicate 512 1)) tag-sector.1) ∙ zeros ∙ tag-first in omega (arith, wrong))
    (of.come 8 0 (low_new 8 (omega arith) (omega arith)) (omega arith) tag-sector.0)

-- ---- the first sector

-- It is not written before the tags are there,
told-early : IsToTell w content content → ⊥
told-early tells =
    let wrong : 0 ≡ 0xb1 =
    sym (ap (slice_index (fresh_journal 112)) tag-sector.1)
    ∙ ap (λ (n : ℕ). slice_index (fresh_journal n) (tag_byte_at longer.geometry 8 0).byte) tag-sector.0
    ∙ tells.new.tags 8 0 (low_new 8 (omega arith) (omega arith)) (omega arith) ∙ tag-first in
    omega (arith, wrong)

-- and not with other bytes.
other-head : (x : List ℕ) → IsOfHead (head_then longer (fresh_journal 0)) 0 x → x ≡ head_then longer (fresh_journal 0)
other-head x is = is.is

-- ---- the text

-- A disk that fails behind the text ends no resize: the text is told once all is done.
told-first : IsEndedBy (only_prints (resized_text 80 208 ∷ []) false) (resized_text 80 208) [] (Failed Disk) → ⊥
unfolding digits
told-first (inl whole) = let wrong : Failed Disk ≡ Complete false = whole.is in cc
told-first (inr ended) = let less = ended.short (false, refl) in omega (arith, less)
