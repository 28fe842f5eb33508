-- An opening leaves the first sector as it is.
use Rattle.std.proofs.Common.{◌≡◌, inl, inr, ℕ, ◌/◌, ◌≤◌, List, sym, subst, arith}
use Rattle.disk_model.specs.Disk.{Content, EachImage, Image, last_image}
use Rattle.disk_model.proofs.DiskLemmas.{only_candidate}
use Rattle.image_model.specs.Geometry.{Geometry, data_at, sector_at, tag_at}
use Rattle.image_model.specs.Section.{Entry}
use Rattle.image_model.specs.Superblock.{fields_in}
use Rattle.place_model.specs.Tags.{tag_byte_at}
use Rattle.place_model.specs.RecoveryWrites.{IsOfRecovery, IsOfOpening}
use Rattle.place_model.specs.Awaiting.{AwaitsNoMore, HasNoMore, fields_of}

-- Neither tags nor data nor sections have that sector.
tag_behind : (g : Geometry) (b i : ℕ) → 8 ≤ (tag_byte_at g b i).sector
unfolding tag_byte_at tag_at
tag_behind g b i = omega arith

data_behind : (g : Geometry) (b : ℕ) → 8 ≤ data_at g b
unfolding data_at sector_at
data_behind g b = omega arith

not_head : (g : Geometry) (entries : List Entry) (x : List ℕ) → IsOfRecovery g entries 0 x → ⊥
not_head g entries x of = elim of [
  | inl placing ↦ elim placing [
    | inl entry ↦
        let behind = data_behind g (entry.entry.sector / g.shape.spb) in
        let begins = entry.in_place.begins in
        omega (arith, behind, begins)
    | inr tag ↦
        let behind = tag_behind g tag.block tag.byte in
        let is = tag.is in
        omega (arith, behind, is)
  ]
  | inr empty ↦ let begins = empty.in_place.begins in omega (arith, begins)
]

-- Each image has that of the image at the start.
head_opened : (g : Geometry) (start opened : Content) → IsOfOpening g start opened → EachImage (λ image. image 0 ≡ last_image start 0) opened
head_opened g start opened of image is = elim (of.among 0 (image 0) (is 0)) [
  | inl was ↦ only_candidate (last_image start 0) (image 0) was
  | inr written ↦ absurd (not_head g _ (image 0) written)
]

-- So by its fields no block awaits that did not.
no_more : (g : Geometry) (entry image : Image) → image 0 ≡ entry 0 → AwaitsNoMore g (fields_of entry) (fields_of image)
no_more g entry image same =
    subst (λ (x : List ℕ). AwaitsNoMore g (fields_of entry) (fields_in x)) (sym same) (record { flag = λ set. set; blocks_ = λ b low awaits. awaits })

-- ---- for callers

pub no_more_opened : (g : Geometry) (start opened : Content) → IsOfOpening g start opened → HasNoMore g (last_image start) opened
no_more_opened g start opened of image is = no_more g (last_image start) image (head_opened g start opened of image is)
