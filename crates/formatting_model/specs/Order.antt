-- The order of a formatting: zeros in the first sector are settled before all else.
-- Own: what was there can come back only until the first sync has succeeded.
use Rattle.std.specs.Prelude.{◌≡◌, ◌⊎◌, List, ◌∷◌}
use Rattle.disk_model.specs.Disk.{Content, Image, IsImage, EachImage}
use Rattle.disk_model.specs.Moments.{EachMoment, EachSince, FromStart, HasNow}
use Rattle.formatting_model.specs.FirstSector.{forgotten}

-- Nothing has been settled: a cut leaves any image that was there at the start, or one with P.
pub record IsUnsettled (P : Image → Type 0) (start later : Content) : Type 0 where
  pub kept : EachImage (IsImage later) start
  pub images : EachImage (λ image. IsImage start image ⊎ P image) later

-- All is settled, the first sector with zeros, and each other one with what it had last.
abbrev pub IsForgotten : (start later : Content) → Type 0
IsForgotten start later = later ≡ forgotten start

-- The first sync has succeeded. Each content that stood until then is of the first kind; that sync left zeros in
-- the first sector, and nothing pending; and each content that stood from then on is of the second kind.
pub record HasFirstSync (Early Late : (start later : Content) → Type 0) (before after : List Content) : Type 0 where
  pub unsynced : List Content
  pub earlier : EachSince Early before unsynced
  pub settled : Content
  pub is_settled : FromStart before IsForgotten settled
  pub later : EachMoment (settled ∷ unsynced) after (FromStart before Late)

-- It has, where the disk tells its content.
abbrev pub SyncsFirst : (Early Late : (start later : Content) → Type 0) → (before after : List Content) → Type 0
SyncsFirst Early Late before after = HasNow (λ start. HasFirstSync Early Late before after) before

-- It has, or each content since the start is of the first kind.
abbrev pub IsInOrder : (Early Late : (start later : Content) → Type 0) → (before after : List Content) → Type 0
IsInOrder Early Late before after = EachSince Early before after ⊎ HasFirstSync Early Late before after
