-- What the calls of a `Bits` say is what the chains of calls of a device ask of them: a trial that no proof cites.
use Rattle.std.proofs.Common.{ℕ, Bool, true, false, List}
use Rattle.disk_model.specs.Disk.{Content}
use Rattle.image_model.specs.Geometry.{Geometry}
use Rattle.device_model.specs.Regions.{with_region}
use Rattle.direct_laws.specs.CallLaws.{GivesTags, ReadsImage}
use Rattle.bitmap_laws.specs.CallLaws.{AddsBits, IsCleared, IsDirtied, IsNowBy}
use Rattle.bitmap_laws.specs.ServeLaws.{ClearsBit, MakesDirty}

-- `make_dirty`, by `moments` and `written`, where the store of tags gives the same tags. Each disk reads an image.
pub scratch_make_dirty_serves : (g : Geometry) (bits : ℕ → Bool) (region : ℕ) (tags now : Content → ℕ → List ℕ) (before after : List Content) → ReadsImage before
    → AddsBits g (with_region region true bits) before after → IsNowBy (IsDirtied g bits region) before after → GivesTags g tags now before after → MakesDirty g bits region tags now before after
scratch_make_dirty_serves g bits region tags now before after image moments written gives = record { image = image; adds = moments; made = written; gives = gives }

-- `clear`, by the same clauses.
pub scratch_clear_serves : (g : Geometry) (bits : ℕ → Bool) (region : ℕ) (tags now : Content → ℕ → List ℕ) (before after : List Content)
    → AddsBits g (with_region region false bits) before after → IsNowBy (IsCleared g bits region) before after → GivesTags g tags now before after → ClearsBit g bits region tags now before after
scratch_clear_serves g bits region tags now before after moments written gives = record { adds = moments; made = written; gives = gives }
