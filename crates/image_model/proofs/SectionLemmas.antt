-- What an entry of a section is.
use Rattle.std.proofs.Common.{◌≡◌, ℕ, ◌+◌, ◌*◌, true, false, refl, List, Some, None}
use Rattle.image_model.specs.Geometry.{Shape}
use Rattle.image_model.specs.Section.{entry_from, is_used, parts_of, block_in, entry_at}
use Rattle.image_model.specs.Sectors.{piece, number_in}

-- There is no entry where it is unused,
pub entry_at-unused : (shape : Shape) (bytes : List ℕ) (n : ℕ) → is_used shape bytes n ≡ false → entry_at shape bytes n ≡ None
unfolding entry_at
entry_at-unused shape bytes n unused = rw unused refl

-- and where it is used it has a sector, the joined bytes of its block, and a tag.
pub entry_at-used : (shape : Shape) (bytes : List ℕ) (n : ℕ) → is_used shape bytes n ≡ true → entry_at shape bytes n ≡ Some (record {
  sector = number_in bytes (entry_from shape n) 8;
  bytes = block_in shape bytes (parts_of shape bytes n) n;
  tag = piece bytes (entry_from shape n + 8 + 8 * shape.spb) shape.tag_size;
})
unfolding entry_at
entry_at-used shape bytes n used = rw used refl
