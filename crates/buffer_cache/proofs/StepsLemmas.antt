-- Steps of a cache in a row.
use Rattle.std.proofs.Common.{List, refl, sym, ◌∙◌, subst}
use Rattle.disk_model.specs.Disk.{Content}
use Rattle.disk_model.specs.Identity.{DiskIdentity, IsBound}
use Rattle.disk_model.specs.Moments.{EachMoment, FromStart}
use Rattle.buffer_cache.specs.declared.held.HeldSectors.{HeldSectors}
use Rattle.buffer_cache.specs.Steps.{GivesSame, IsOverDisk}
use Rattle.buffer_cache.proofs.CachedLemmas.{Keeps-same, Keeps-then}

-- A step starts from what the step before it kept.
pub IsOverDisk-later : {i j : DiskIdentity} {a b : List Content} (old new : HeldSectors) → IsOverDisk old i a → GivesSame old new i j a b → IsOverDisk new j b
IsOverDisk-later old new over step = record {
  bound = subst (λ (disk : DiskIdentity). IsBound disk.name) (sym step.identity) over.bound;
  cache = step.cache;
}

-- A step that does nothing.
pub GivesSame-none : {i : DiskIdentity} {a : List Content} (sectors : HeldSectors) → IsOverDisk sectors i a → GivesSame sectors sectors i i a a
GivesSame-none {i} {a} sectors over = record { cache = over.cache; keeps = Keeps-same sectors a; identity = refl }

-- Two steps in a row, where the second changes the disk as P says.
pub GivesSame-then : {i j k : DiskIdentity} {a b c : List Content} (P : Content → Content → Type 0) (r s t : HeldSectors) → ((x : Content) → P x x) → EachMoment b c (FromStart b P)
    → GivesSame r s i j a b → GivesSame s t j k b c → GivesSame r t i k a c
GivesSame-then P r s t same moments first second = record {
  cache = second.cache;
  keeps = Keeps-then P r s t same moments first.keeps second.keeps;
  identity = second.identity ∙ first.identity;
}
