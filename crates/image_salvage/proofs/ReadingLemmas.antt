-- What is told of a block, by what was read of its place.
use Rattle.std.proofs.Common.{◌≡◌, ℕ, ◌+◌, ◌-◌, ◌*◌, ap, ◌∙◌, arith, List, Option, take, drop}
use Rattle.disk_model.specs.Disk.{Image}
use Rattle.image_model.specs.declared.byte_place.BytePlace.{BytePlace}
use Rattle.image_model.specs.Cells.{block_tag, placed_cells_of, salt_of}
use Rattle.image_model.specs.Geometry.{Geometry, data_at, tag_at}
use Rattle.image_model.specs.Sectors.{bytes_at}
use Rattle.image_format.specs.declared.reading.ImageFormat.{ImageFormat}
use Rattle.image_format.specs.Format.{disk_format}
use Rattle.salvage_model.specs.Verdicts.{Verdict, salvaged_bytes, verdict_on}

-- A verdict with this tag of these bytes.
abbrev verdict_with : (key salt : Option (List ℕ)) → Geometry → (block : ℕ) → (stored bytes : List ℕ) → Verdict
verdict_with key salt g block stored bytes = record { block = block; stored = stored; computed = block_tag key salt g (block * g.shape.spb) bytes }

module _ (key : Option (List ℕ)) (sectors : ℕ) (format : ImageFormat) (image : Image) (block : ℕ) where
  -- The bytes are those of its sectors,
  pub bytes-read : (at spb : ℕ) (bytes : List ℕ) → at ≡ data_at format.geometry block → spb ≡ format.geometry.shape.spb → bytes ≡ bytes_at image at spb
      → bytes ≡ salvaged_bytes (disk_format key sectors format) image block
  unfolding placed_cells_of
  bytes-read at spb bytes at_is spb_is bytes_are =
      bytes_are ∙ ap (λ n. bytes_at image n spb) at_is ∙ ap (λ n. bytes_at image (data_at format.geometry block) n) spb_is

  -- its tag stands where it begins,
  tag-read : (place : BytePlace) (size : ℕ) (tags : List ℕ) → place ≡ tag_at format.geometry block → size ≡ format.geometry.shape.tag_size → tags ≡ bytes_at image place.sector 2
      → take (place.byte + size - place.byte) (drop place.byte tags) ≡ (placed_cells_of format.geometry image block).tag
  unfolding placed_cells_of
  tag-read place size tags place_is size_is tags_are =
      let count : place.byte + size - place.byte ≡ format.geometry.shape.tag_size = omega (arith, size_is) in
      ap (λ n. take n (drop place.byte tags)) count
      ∙ ap (λ (xs : List ℕ). take format.geometry.shape.tag_size (drop place.byte xs)) tags_are
      ∙ ap (λ (p : BytePlace). take format.geometry.shape.tag_size (drop p.byte (bytes_at image p.sector 2))) place_is

  -- and so both are told.
  pub verdict-read : (salt : Option (List ℕ)) (place : BytePlace) (at size spb : ℕ) (tags bytes : List ℕ) → salt ≡ salt_of format.fields
      → place ≡ tag_at format.geometry block → at ≡ data_at format.geometry block → size ≡ format.geometry.shape.tag_size → spb ≡ format.geometry.shape.spb
      → tags ≡ bytes_at image place.sector 2 → bytes ≡ bytes_at image at spb
      → verdict_with key salt format.geometry block (take (place.byte + size - place.byte) (drop place.byte tags)) bytes ≡ verdict_on (disk_format key sectors format) image block
  verdict-read salt place at size spb tags bytes salt_is place_is at_is size_is spb_is tags_are bytes_are =
      let cell = placed_cells_of format.geometry image block in
      ap (λ (xs : List ℕ). verdict_with key salt format.geometry block xs bytes) (tag-read place size tags place_is size_is tags_are)
      ∙ ap (λ (xs : List ℕ). verdict_with key salt format.geometry block cell.tag xs) (bytes-read at spb bytes at_is spb_is bytes_are)
      ∙ ap (λ (x : Option (List ℕ)). verdict_with key x format.geometry block cell.tag cell.bytes) salt_is
