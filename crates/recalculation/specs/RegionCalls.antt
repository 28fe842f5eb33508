-- What the calls say that recalculate one region: on success, where the disk failed, and at each moment.
use Rattle.std.specs.Prelude.{◌≡◌, ◌⊎◌, ℕ, Some, List}
use Rattle.disk_model.specs.Disk.{Content}
use Rattle.direct_laws.specs.CallLaws.{AddsTags}
use Rattle.bitmap_laws.specs.CallLaws.{region_tags}
use Rattle.bitmap_laws.specs.ServeLaws.{Recalculates}
use Rattle.hmac_tag.specs.TagMaker.{TagRule}
use Rattle.tag_store.specs.Store.{Store, given_tags}
use Rattle.recalculation.specs.declared.left.Left.{Left}
use Rattle.recalculation.specs.declared.places.Places.{Places}
use Rattle.recalculation.specs.Awaiting.{AwaitingRegions, awaiting_blocks}
use Rattle.recalculation.specs.Places.{awaits_from}
use Rattle.recalculation.specs.Rule.{tagger_by}
use Rattle.recalculation.specs.Taking.{AddsPlacedTag, FailsBlock, GivesBetween, TakesBlock}

-- ---- one block

-- The block got the tag of its placed bytes, by the rule.
abbrev pub TakesOne : TagRule → Places → (block : ℕ) → (store last : Store) → (before after : List Content) → Type 0
TakesOne rule p block store last before after =
    TakesBlock (tagger_by rule p.geometry) p.geometry block (given_tags store) (given_tags last) before after

-- Nothing was done, or it may have got it in part.
abbrev pub FailsOne : TagRule → Places → (block : ℕ) → (store last : Store) → (before after : List Content) → Type 0
FailsOne rule p block store last before after = ((after ≡ before) × (last ≡ store))
    ⊎ FailsBlock (tagger_by rule p.geometry) p.geometry block (given_tags store) (given_tags last) before after

-- Nothing was written, or sectors of tags with bytes of the old tags and of that one.
abbrev pub AddsOne : TagRule → Places → (block : ℕ) → Store → (before after : List Content) → Type 0
AddsOne rule p block store before after = (after ≡ before)
    ⊎ AddsPlacedTag (tagger_by rule p.geometry) p.geometry block (given_tags store) before after

-- ---- the blocks of a region from the first one on

-- Each of them got the tag of its placed bytes, and each other block kept its own.
abbrev pub TakesFrom : TagRule → Places → (region : ℕ) → (store last : Store) → (before after : List Content) → Type 0
TakesFrom rule p region store last before after = Recalculates (tagger_by rule p.geometry) p.geometry
    (awaits_from p.first) region (given_tags store) (given_tags last) before after

-- Each byte of a tag that the store gives is of the old one, or of that one.
abbrev pub GivesFrom : TagRule → Places → (region : ℕ) → (store last : Store) → (before after : List Content) → Type 0
GivesFrom rule p region store last before after = GivesBetween p.geometry (given_tags store)
    (λ c. region_tags (tagger_by rule p.geometry) p.geometry (awaits_from p.first) region c (given_tags store c))
    (given_tags last) before after

-- Sectors of tags alone are added, with bytes of the old tags and of these.
abbrev pub AddsFrom : TagRule → Places → (region : ℕ) → Store → (before after : List Content) → Type 0
AddsFrom rule p region store before after = AddsTags p.geometry (given_tags store)
    (λ c. region_tags (tagger_by rule p.geometry) p.geometry (awaits_from p.first) region c (given_tags store c))
    before after

-- ---- the blocks of a region that await

-- The regions that are left await.
abbrev pub left_in : Places → Left → AwaitingRegions
left_in p left = record { geometry = p.geometry; first = p.first; left = Some left.set }

-- Each of them got the tag of its placed bytes, and each other block kept its own.
abbrev pub TakesIn : TagRule → AwaitingRegions → (region : ℕ) → (store last : Store) → (before after : List Content)
    → Type 0
TakesIn rule a region store last before after = Recalculates (tagger_by rule a.geometry) a.geometry
    (awaiting_blocks a) region (given_tags store) (given_tags last) before after

-- Each byte of a tag that the store gives is of the old one, or of that one.
abbrev pub GivesIn : TagRule → AwaitingRegions → (region : ℕ) → (store last : Store) → (before after : List Content)
    → Type 0
GivesIn rule a region store last before after = GivesBetween a.geometry (given_tags store)
    (λ c. region_tags (tagger_by rule a.geometry) a.geometry (awaiting_blocks a) region c (given_tags store c))
    (given_tags last) before after

-- Sectors of tags alone are added, with bytes of the old tags and of these.
abbrev pub AddsIn : TagRule → AwaitingRegions → (region : ℕ) → Store → (before after : List Content) → Type 0
AddsIn rule a region store before after = AddsTags a.geometry (given_tags store)
    (λ c. region_tags (tagger_by rule a.geometry) a.geometry (awaiting_blocks a) region c (given_tags store c))
    before after
