-- What is kept beside a disk stays that of the disk, through a region that is recalculated and a position that moves:
-- for the devices of each mode.
use Rattle.std.proofs.Common.{◌≡◌, inl, inr, ℕ, ◌<◌, ◌==◌, nat_le, ◌&&◌, Bool, true, false, if◌then◌else◌, sym, ◌∙◌, ap, subst, Some, None, List}
use Rattle.std.proofs.lemmas.Bool.{cases_eq, true≢false}
use Rattle.disk_model.specs.Disk.{Content}
use Rattle.image_model.specs.declared.flags.TheConstants.{RECALCULATING}
use Rattle.image_model.specs.Bitmap.{is_to_recalculate}
use Rattle.image_model.specs.Cells.{salt_of}
use Rattle.image_model.specs.Geometry.{Geometry, region_of, regions}
use Rattle.image_model.specs.Superblock.{Superblock, has_flag}
use Rattle.image_model.proofs.Regions.{region_of-lt}
use Rattle.device_model.specs.History.{Tagger}
use Rattle.device_model.specs.Regions.{least_region, with_region}
use Rattle.place_model.specs.Format.{DiskFormat, tagger_of}
use Rattle.bitmap_model.proofs.BitLemmas.{with_region-here, with_region-other}
use Rattle.direct_laws.specs.CallLaws.{AddsTags}
use Rattle.bitmap_laws.specs.CallLaws.{AreSameBits, region_tags}
use Rattle.bitmap_laws.specs.ServeLaws.{Recalculates}
use Rattle.bitmap_laws.proofs.LeastLemmas.{least_law}
use Rattle.hmac_tag.specs.TagMaker.{TagRule}
use Rattle.recalculate_laws.specs.Calls.{MovesHeadBy}
use Rattle.recalculate_laws.specs.Moments.{tags_then}
use Rattle.recalculate_laws.specs.Position.{IsSamePosition, MovesPosition, moved_fields}
use Rattle.recalculate_laws.specs.Taking.{TakesRegion}
use Rattle.recalculate_laws.proofs.AwaitsLemmas.{moved_same_law}
use Rattle.recalculation.specs.declared.recalculating.Recalculation.{Recalculation}
use Rattle.recalculation.specs.Awaiting.{AwaitingRegions, IsOpening, awaiting_blocks, awaiting_of}
use Rattle.recalculation.specs.Position.{WritesFields}
use Rattle.recalculation.specs.Recalculation.{AwaitsBlocksOf, IsRecalculationOf, TakesAwaiting, TakesAwaitingIn, next_of, to_write}
use Rattle.recalculation.specs.Rule.{tagger_by}
use Rattle.recalculation.proofs.LawsLemmas.{same_blocks_law, same_moments_law}
use Rattle.recalculation.proofs.PositionLemmas.{moved_written, written_moved}

-- At opening it is that of the disk, whose fields are those of the position.
pub recalculation_opened : (s : Superblock) (g : Geometry) (awaiting : ℕ → Bool) (r : Recalculation) → IsOpening s g None r.awaiting → r.position ≡ s → AreSameBits g (awaiting_of r.awaiting) awaiting
    → IsRecalculationOf s g awaiting r
recalculation_opened s g awaiting r opening position same = record {
  geometry = opening.geometry;
  regions_ = same;
  blocks_ = subst (λ (x : Geometry). (b : ℕ) → b < x.blocks → awaiting_of r.awaiting (region_of x b) ≡ true → awaiting_blocks r.awaiting b ≡ is_to_recalculate s x b) (sym opening.geometry)
      (λ b low waits. opening.blocks_ b low);
  fields = position;
}

-- ---- a region is recalculated

-- A region that awaits still once one is taken did so before.
waited : (set : ℕ → Bool) (region other : ℕ) → with_region region false set other ≡ true → set other ≡ true
waited set region other waits = elim (cases_eq region other) [
  | inl here ↦ absurd (true≢false (sym waits ∙ with_region-here region other false set here))
  | inr apart ↦ sym (with_region-other region other false set apart) ∙ waits
]

both_left : (x y t : Bool) → x ≡ true → y ≡ true → (x && t) ≡ (y && t)
both_left x y t e h = ap (λ (z : Bool). z && t) (e ∙ sym h)

module _ (d : DiskFormat) (awaiting : ℕ → Bool) (old : Recalculation) (is : IsRecalculationOf d.superblock d.geometry awaiting old) where
  module _ (rule : TagRule) (region : ℕ) (new : Recalculation) (tags now : Content → ℕ → List ℕ) (a b : List Content) (taken : TakesAwaiting rule region old new d.geometry tags now a b) where
    there : new.awaiting.geometry ≡ d.geometry
    there = taken.geometry ∙ is.geometry

    blocks : AwaitsBlocksOf d.superblock new.awaiting
    blocks n low waits =
        let low_ : n < old.awaiting.geometry.blocks = subst (λ (x : Geometry). n < x.blocks) taken.geometry low in
        let here = subst (λ (x : Geometry). awaiting_of new.awaiting (region_of x n) ≡ true) there waits in
        let inside = region_of-lt d.geometry n (subst (λ (x : Geometry). n < x.blocks) there low) in
        let before : awaiting_of old.awaiting (region_of d.geometry n) ≡ true = waited (awaiting_of old.awaiting) region (region_of d.geometry n) (sym (taken.regions_ (region_of d.geometry n) inside) ∙ here) in
        let before_ = subst (λ (x : Geometry). awaiting_of old.awaiting (region_of x n) ≡ true) (sym is.geometry) before in
        both_left (awaiting_of new.awaiting (region_of new.awaiting.geometry n)) (awaiting_of old.awaiting (region_of old.awaiting.geometry n)) (nat_le new.awaiting.first n) waits before_
        ∙ ap (λ (first : ℕ). awaiting_of old.awaiting (region_of old.awaiting.geometry n) && nat_le first n) taken.first
        ∙ is.blocks_ n low_ before_
        ∙ ap (λ (x : Geometry). is_to_recalculate d.superblock x n) (sym taken.geometry)

    -- It awaits no more, and all else is as before.
    pub taken_is : IsRecalculationOf d.superblock d.geometry (with_region region false awaiting) new
    taken_is = record {
      geometry = there;
      regions_ = λ other low. taken.regions_ other low ∙ ap (λ (t : Bool). if other == region then false else t) (is.regions_ other low);
      blocks_ = blocks;
      fields = taken.position ∙ is.fields;
    }

  -- ---- what is recalculated

  module _ (rule : TagRule) (own : rule ≡ record { key = d.key; salt = salt_of d.superblock; size = d.geometry.shape.tag_size }) (region : ℕ) (low : region < regions d.geometry) (waits : awaiting region ≡ true) where
    made : tagger_by rule d.geometry ≡ tagger_of d
    made = ap (λ (r : TagRule). tagger_by r d.geometry) own

    same_blocks : (b : ℕ) → b < d.geometry.blocks → region_of d.geometry b ≡ region → awaiting_blocks old.awaiting b ≡ is_to_recalculate d.superblock d.geometry b
    same_blocks b b_low here =
        let awaits : awaiting_of old.awaiting (region_of d.geometry b) ≡ true = ap (awaiting_of old.awaiting) here ∙ is.regions_ region low ∙ waits in
        is.blocks_ b (subst (λ (x : Geometry). b < x.blocks) (sym is.geometry) b_low) (subst (λ (x : Geometry). awaiting_of old.awaiting (region_of x b) ≡ true) (sym is.geometry) awaits)
        ∙ ap (λ (x : Geometry). is_to_recalculate d.superblock x b) is.geometry

    -- It is as the laws have it,
    pub takes_region : (tags now : Content → ℕ → List ℕ) (a b : List Content) → Recalculates (tagger_by rule d.geometry) d.geometry (awaiting_blocks old.awaiting) region tags now a b → TakesRegion d region tags now a b
    takes_region tags now a b taken =
        same_blocks_law (tagger_of d) d.geometry (awaiting_blocks old.awaiting) (is_to_recalculate d.superblock d.geometry) region tags now a b same_blocks
        (subst (λ (t : Tagger). Recalculates t d.geometry (awaiting_blocks old.awaiting) region tags now a b) made taken)

    -- and so is what may be added meanwhile.
    pub takes_in : (tags : Content → ℕ → List ℕ) (a b : List Content) → TakesAwaitingIn rule region old d.geometry tags a b → AddsTags d.geometry tags (λ c. tags_then d region c (tags c)) a b
    takes_in tags a b adds =
        same_moments_law (tagger_of d) d.geometry (awaiting_blocks old.awaiting) (is_to_recalculate d.superblock d.geometry) region tags a b same_blocks
        (subst (λ (t : Tagger). AddsTags d.geometry tags (λ c. region_tags t d.geometry (awaiting_blocks old.awaiting) region c (tags c)) a b) made adds)

  -- ---- the position moves

  abbrev moved : Superblock
  moved = moved_fields d.superblock d.geometry awaiting

  -- The moved fields are those by the regions that await.
  own_moved : moved_fields old.position old.awaiting.geometry (awaiting_of old.awaiting) ≡ moved_fields d.superblock d.geometry awaiting
  own_moved =
      ap (λ (s : Superblock). moved_fields s old.awaiting.geometry (awaiting_of old.awaiting)) is.fields
      ∙ ap (λ (x : Geometry). moved_fields d.superblock x (awaiting_of old.awaiting)) is.geometry
      ∙ moved_same_law d.superblock d.geometry (awaiting_of old.awaiting) awaiting is.regions_

  set_flag : has_flag RECALCULATING d.superblock.flags ≡ true → has_flag RECALCULATING old.position.flags ≡ true
  set_flag set = ap (λ (s : Superblock). has_flag RECALCULATING s.flags) is.fields ∙ set

  -- They are to be written where the flag is set and position or flag changes,
  pub writes_moved : has_flag RECALCULATING d.superblock.flags ≡ true → ¬ IsSamePosition d.superblock moved → to_write old ≡ Some moved
  writes_moved set changes =
      moved_written old.position old.awaiting.geometry (awaiting_of old.awaiting) (set_flag set)
      (λ same. changes (record {
        position = sym (ap (λ (s : Superblock). s.recalc_sector) own_moved) ∙ same.position ∙ ap (λ (s : Superblock). s.recalc_sector) is.fields;
        flags = sym (ap (λ (s : Superblock). s.flags) own_moved) ∙ same.flags ∙ ap (λ (s : Superblock). s.flags) is.fields;
      }))
      ∙ ap (λ (s : Superblock). Some s) own_moved

  -- and what is to be written are these, under the flag.
  pub moved_if_some : (fields : Superblock) → to_write old ≡ Some fields → (fields ≡ moved) × (has_flag RECALCULATING d.superblock.flags ≡ true)
  moved_if_some fields some =
      let told = written_moved old.position old.awaiting.geometry (awaiting_of old.awaiting) fields some in
      (told.0 ∙ own_moved, ap (λ (s : Superblock). has_flag RECALCULATING s.flags) (sym is.fields) ∙ told.1)

  -- Once they are written the head has moved, as the laws have it.
  pub moves_head : (tags : Content → ℕ → List ℕ) (a b : List Content) → WritesFields d.geometry moved tags a b → MovesHeadBy d awaiting tags tags a b
  moves_head tags a b written = record {
    head = written.head;
    written = tags;
    between = written.between;
    is_head = written.is_head;
    writes = written.writes;
    syncs = written.syncs;
  }

  -- Then it is that of the disk under them.
  pub moved_is : (new : Recalculation) (sectors : ℕ) → new.awaiting ≡ old.awaiting → new.position ≡ moved → MovesPosition d.superblock d.geometry sectors awaiting moved
      → IsRecalculationOf moved d.geometry awaiting new
  moved_is new sectors same position moves = record {
    geometry = ap (λ (a : AwaitingRegions). a.geometry) same ∙ is.geometry;
    regions_ = subst (λ (a : AwaitingRegions). AreSameBits d.geometry (awaiting_of a) awaiting) (sym same) is.regions_;
    blocks_ = subst (AwaitsBlocksOf moved) (sym same) (λ b low waits.
        let low_ = subst (λ (x : Geometry). b < x.blocks) is.geometry low in
        let here = subst (λ (x : Geometry). awaiting_of old.awaiting (region_of x b) ≡ true) is.geometry waits in
        is.blocks_ b low waits ∙ ap (λ (x : Geometry). is_to_recalculate d.superblock x b) is.geometry
        ∙ sym (moves.passes b low_ (sym (is.regions_ (region_of d.geometry b) (region_of-lt d.geometry b low_)) ∙ here))
        ∙ ap (λ (x : Geometry). is_to_recalculate moved x b) (sym is.geometry));
    fields = position;
  }

  -- The least region that awaits is the same.
  pub next_is : next_of old ≡ least_region (regions d.geometry) awaiting
  next_is =
      ap (λ (x : Geometry). least_region (regions x) (awaiting_of old.awaiting)) is.geometry
      ∙ least_law (regions d.geometry) (awaiting_of old.awaiting) awaiting is.regions_
