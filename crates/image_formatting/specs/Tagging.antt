-- With what the tags of blocks of zeros are made, and what stays behind them.
use Rattle.std.specs.Prelude.{◌≡◌, ℕ, ◌+◌, ◌/◌, ◌%◌, ◌^◌, ◌<◌, ◌≤◌, List, length, slice_index}
use Rattle.commit_id.specs.declared.shape.Shape.{Shape}
use Rattle.commit_id.specs.Shape.{IsShape}
use Rattle.disk_model.specs.Disk.{Content, last_image}
use Rattle.disk_model.specs.Moments.{HasNow}
use Rattle.hmac_tag.specs.TagMaker.{TagRule}
use Rattle.image_model.specs.Geometry.{quotient_up}
use Rattle.image_formatting.specs.Room.{tags_at_once, zeros_at_once}

-- Tags of this rule, for blocks of this shape, are made with 512 sectors of zeros, and with a buffer for the tags of 512
-- blocks so often that they are no more.
pub record MakesTags (maker : TagRule) (shape : Shape) (zeros tags : List ℕ) : Type 0 where
  pub shape_ : IsShape shape
  pub size : maker.size ≡ shape.tag
  pub zeros_ : zeros ≡ zeros_at_once
  pub room : length tags ≡ tags_at_once shape.tag

-- The sectors of so many bytes, from one on, are on a disk of so many, which has no more than a disk may have.
pub record LiesOn (at size sectors : ℕ) : Type 0 where
  pub inside : at + quotient_up size 512 ≤ sectors
  pub few : sectors ≤ 2 ^ 48

-- The bytes of a run of sectors from `at` on, behind so many, are those of the disk.
abbrev pub HasReadBehind : (at size most : ℕ) → (run : List ℕ) → List Content → Type 0
HasReadBehind at size most run moments = (p : ℕ) → size ≤ p → p < most
    → HasNow (λ c. slice_index run p ≡ slice_index (last_image c (at + p / 512)) (p % 512)) moments
