-- What the calls below a device in direct mode add, as what its disk stands for.
use Rattle.std.proofs.Common.{◌≡◌, inl, inr, ℕ, ◌+◌, ◌<◌, Bool, refl, sym, ◌∙◌, ap, subst, Option, Some, None, List, [], ◌∷◌, ◌++◌}
use Rattle.std.specs.List.{Contains, AllByRecursion}
use Rattle.std.specs.Option.{ForSome, option_map}
use Rattle.std.proofs.lemmas.Bool.{cases_eq, eq-eqb, ne_eqb}
use Rattle.std.proofs.lemmas.Option.{none-some, same_Some}
use Rattle.disk_model.specs.Disk.{Content, IsImage, OnlyAdds, AddsSome, IsOfRun, last_image, newest_only, with_run}
use Rattle.disk_model.specs.Moments.{content_now, EachMoment, FromStart}
use Rattle.disk_model.proofs.DiskLemmas.{only_candidate, OnlyAdds-none, OnlyAdds-wider, AddsSome-adds, AddsSome-none, AddsSome-all}
use Rattle.disk_model.proofs.MomentsLemmas.{EachMoment-kept, EachMoment-then, EachMoment-weaker, content_at_end}
use Rattle.image_model.specs.Cells.{Cell}
use Rattle.image_model.specs.Geometry.{Geometry, data_at}
use Rattle.device_model.specs.History.{BlockWrite, cells_now}
use Rattle.device_model.specs.Reply.{block_reply}
use Rattle.device_model.specs.Serial.{readable_cells}
use Rattle.place_model.specs.Blocks.{IsBlockWrite, ReadsData}
use Rattle.place_model.specs.Format.{tagger_of}
use Rattle.place_model.specs.Tags.{IsOfTags, KeepsOthers, ReadsTags, with_block_tag}
use Rattle.place_model.proofs.BlocksLemmas.{ReadsData-same, KeepsOthers-data}
use Rattle.direct_model.specs.DirectDisk.{DirectDisk, IsFormed, StandsFor, cell_now}
use Rattle.direct_model.specs.Steps.{with_write, after_flush, AreTags, IsOfWrite}
use Rattle.direct_model.proofs.DirectLemmas.{kept_before, writing_law, tags_written_law}
use Rattle.direct_laws.specs.CallLaws.{StandsThrough, HasData, StillLaw, ThroughLaw, DataLaw, DataDoneLaw, PutLaw, PutDoneLaw, BackLaw, BackDoneLaw, SyncLaw, SyncDoneLaw, BlockReadLaw}
use Rattle.direct_laws.specs.ReadLaws.{KeepsCells}
use Rattle.direct_laws.proofs.ReadLemmas.{own, kept, rests, written_data, are_tags, keeps_flushed, keeps_same, read_law}

-- ---- moments

-- What each later content has, by the one at the start, where that is told.
pub each_from : {a b : List Content} (P : Content → Content → Type 0) (Q : Content → Type 0) → ForSome (content_now a) (λ start. (c : Content) → P start c → Q c) → EachMoment a b (FromStart a P) → EachMoment a b Q
each_from {a} P Q f m = EachMoment-weaker (λ c. at_once a f c) m
  where
    at_once : (h : List Content) → ForSome (content_now h) (λ start. (c : Content) → P start c → Q c) → (c : Content) → FromStart h P c → Q c
    at_once [] f c p = absurd p
    at_once (start ∷ h) f c p = f start refl c p

-- Where each later content has it, and the one at the start, the disk stands for it through the call.
through : {a b : List Content} (d : DirectDisk) (P : Content → Content → Type 0) → ForSome (content_now a) (StandsFor d) → ForSome (content_now a) (λ start. (c : Content) → P start c → StandsFor d c)
    → EachMoment a b (FromStart a P) → StandsThrough d a b
through d P start f m =
    let each = each_from P (StandsFor d) f m in
    record { moments = each; now = content_at_end each start }

-- What is changed came from something.
pub came_from : (o : Option Content) (f : Content → Content) (y : Content) → option_map f o ≡ Some y → (x : Content) × (o ≡ Some x) × (f x ≡ y)
came_from None f y e = absurd (none-some y e)
came_from (Some x) f y e = (x, refl, same_Some _ _ e)

-- A disk that tells its content told it at the start,
start_told : {a b : List Content} (P : Content → Content → Type 0) (c : Content) → EachMoment a b (FromStart a P) → content_now b ≡ Some c → (start : Content) × (content_now a ≡ Some start)
start_told {a} P c m told = first a m.since m.each (sym (ap content_now m.grows) ∙ told)
  where
    first : (a since : List Content) → AllByRecursion (FromStart a P) since → content_now (since ++ a) ≡ Some c → (start : Content) × (content_now a ≡ Some start)
    first (start ∷ a) since each e = (start, refl)
    first [] [] each e = absurd (none-some c e)
    first [] (x ∷ since) each e = absurd each.0

-- and what each later one has by that, the last one has.
end_from : {a b : List Content} (P : Content → Content → Type 0) → ((c : Content) → P c c) → EachMoment a b (FromStart a P) → (start c : Content) → content_now a ≡ Some start → content_now b ≡ Some c → P start c
end_from {a} {b} P none m start c told_start told = last a m.since m.each told_start (sym (ap content_now m.grows) ∙ told)
  where
    last : (h since : List Content) → AllByRecursion (FromStart h P) since → content_now h ≡ Some start → content_now (since ++ h) ≡ Some c → P start c
    last [] since each e f = absurd (none-some start e)
    last (s ∷ h) [] each e f = subst (P start) (same_Some _ _ (sym e ∙ f)) (none start)
    last (s ∷ h) (x ∷ since) each e f = subst (λ (y : Content). P y c) (same_Some _ _ e) (subst (P s) (same_Some _ _ f) each.0)

pub still_law : StillLaw
still_law d a b same stands = record { moments = EachMoment-kept (StandsFor d) same; now = subst (λ (moments : List Content). ForSome (content_now moments) (StandsFor d)) (sym same) stands }

pub through_law : ThroughLaw
through_law d a b c first second = record { moments = EachMoment-then first.moments second.moments; now = second.now }

-- ---- the bytes of a block

module _ (d : DirectDisk) (g : Geometry) (write : BlockWrite) (e : d.geometry ≡ g) (is : IsBlockWrite d.geometry write) where
  -- Some of its sectors are written.
  stands_data : (awaiting : ℕ → Bool) (tags : ℕ → List ℕ) (start c : Content) → KeepsCells d awaiting tags start → AddsSome (data_at g write.block) write.bytes start c → StandsFor (with_write d write) c
  stands_data awaiting tags start c keeps some =
      writing_law d write tags start c keeps.stands is (are_tags d awaiting tags start keeps)
      (OnlyAdds-wider (IsOfRun (data_at g write.block) write.bytes) (IsOfWrite d write tags)
      (λ s x of. inl (subst (λ (y : Geometry). IsOfRun (data_at y write.block) write.bytes s x) (sym e) of))
      start c (AddsSome-adds (data_at g write.block) write.bytes start c some))

  -- All of them are.
  has_data : (awaiting : ℕ → Bool) (tags now : ℕ → List ℕ) (start : Content) → KeepsCells d awaiting tags start → ((b : ℕ) → b < g.blocks → now b ≡ tags b)
      → HasData d write awaiting now (with_run (data_at g write.block) write.bytes start)
  has_data awaiting tags now start keeps same = record {
    formed = keeps.stands.formed;
    stands = stands_data awaiting tags start (with_run (data_at g write.block) write.bytes start) keeps (AddsSome-all (data_at g write.block) write.bytes start);
    reads = subst (λ (y : Geometry). ReadsData d.geometry (cell_now (with_write d write)) (with_run (data_at y write.block) write.bytes start)) e
        (written_data d write start keeps.stands.formed is keeps.reads);
    tags_are = λ b low apart awaits. same b (subst (λ (y : Geometry). b < y.blocks) e low) ∙ keeps.tags_are b low awaits;
  }

pub data_law : DataLaw
data_law d g write awaiting tags a b e is keeps m =
    through (with_write d write) (AddsSome (data_at g write.block) write.bytes)
    (λ start told. stands_data d g write e is awaiting (tags start) start start (keeps start told) (AddsSome-none (data_at g write.block) write.bytes start))
    (λ start told c some. stands_data d g write e is awaiting (tags start) start c (keeps start told) some) m

pub data_done_law : DataDoneLaw
data_done_law d g write awaiting tags now a b e is keeps written same c told =
    let first = came_from (content_now a) (with_run (data_at g write.block) write.bytes) c (sym written ∙ told) in
    subst (HasData d write awaiting (now c)) first.2
    (has_data d g write e is awaiting (tags first.0) (now c) first.0 (keeps first.0 first.1) (same first.0 first.1 c told))

-- ---- the tag of a block

-- Reads of the data are the same.
data_same : (d : DirectDisk) (g : Geometry) → d.geometry ≡ g → IsFormed d → (start c : Content) → KeepsOthers g start c
    → (b k : ℕ) → b < d.geometry.blocks → k < d.geometry.shape.spb → last_image c (data_at d.geometry b + k) ≡ last_image start (data_at d.geometry b + k)
data_same d g e formed start c others b k low k_low =
    KeepsOthers-data d.geometry d.sectors start c formed.is_geometry (subst (λ (y : Geometry). KeepsOthers y start c) (sym e) others) b k low k_low

-- Sectors of tags are written, in the geometry of the disk.
adds_in : (d : DirectDisk) (g : Geometry) → d.geometry ≡ g → (old new : ℕ → List ℕ) (start c : Content) → OnlyAdds (IsOfTags g old new) start c → OnlyAdds (IsOfTags d.geometry old new) start c
adds_in d g e old new start c = subst (λ (y : Geometry). OnlyAdds (IsOfTags y old new) start c) (sym e)

module _ (d : DirectDisk) (g : Geometry) (write : BlockWrite) (tag : List ℕ) (e : d.geometry ≡ g) (is : IsBlockWrite d.geometry write)
    (awaiting : ℕ → Bool) (tags : ℕ → List ℕ) (start c : Content) (has : HasData d write awaiting tags start) where
  old_are : AreTags (with_write d write) tags
  old_are = record {
    each = λ b low still kept_then.
        let before = kept_before d write has.formed is b kept_then in
        has.tags_are b low before.1 (rests d awaiting b still) ∙ ap (λ (cell : Cell). cell.tag) (sym (kept d write start has.formed is b before.1));
  }

  new_are : AreTags (with_write d write) (with_block_tag write.block tag tags)
  new_are = record {
    each = λ b low still kept_then.
        let before = kept_before d write has.formed is b kept_then in
        rw (ne_eqb write.block b before.1) (old_are.each b low still kept_then);
  }

  stands_put : OnlyAdds (IsOfTags g tags (with_block_tag write.block tag tags)) start c → StandsFor (with_write d write) c
  stands_put adds = tags_written_law (with_write d write) tags (with_block_tag write.block tag tags) start c has.stands old_are new_are (adds_in d g e tags (with_block_tag write.block tag tags) start c adds)

  put_done : (now : ℕ → List ℕ) → tag ≡ tagger_of d.format write.block write.bytes → OnlyAdds (IsOfTags g tags (with_block_tag write.block tag tags)) start c
      → KeepsOthers g start c
      → ((b : ℕ) → b < g.blocks → now b ≡ with_block_tag write.block tag tags b) → KeepsCells (with_write d write) awaiting now c
  put_done now is_tag adds others gives = record {
    stands = stands_put adds;
    reads = ReadsData-same d.geometry (cell_now (with_write d write)) start c (data_same d g e has.formed start c others) has.reads;
    tags_are = λ b low awaits. gives b (subst (λ (y : Geometry). b < y.blocks) e low) ∙ elim (cases_eq write.block b) [
      | inl here ↦ rw (eq-eqb write.block b here) (is_tag ∙ ap (λ (cell : Cell). cell.tag) (sym (own d write start has.formed is b here)))
      | inr apart ↦ rw (ne_eqb write.block b apart) (has.tags_are b low apart awaits ∙ ap (λ (cell : Cell). cell.tag) (sym (kept d write start has.formed is b apart)))
    ];
  }

-- What a put adds, beside the content at its start.
abbrev PutAdds : Geometry → ℕ → List ℕ → (Content → ℕ → List ℕ) → Content → Content → Type 0
PutAdds g block tag tags start = OnlyAdds (IsOfTags g (tags start) (with_block_tag block tag (tags start))) start

pub put_law : PutLaw
put_law d g write tag awaiting tags a b e is has m =
    through (with_write d write) (PutAdds g write.block tag tags) (λ start told. (has start told).stands)
    (λ start told c adds. stands_put d g write tag e is awaiting (tags start) start c (has start told) adds) m

pub put_done_law : PutDoneLaw
put_done_law d g write tag awaiting tags now a b e is is_tag has m others gives c told =
    let P = PutAdds g write.block tag tags in
    let start = start_told P c m told in
    let adds = end_from P (λ x. OnlyAdds-none (IsOfTags g (tags x) (with_block_tag write.block tag (tags x))) x) m start.0 c start.1 told in
    put_done d g write tag e is awaiting (tags start.0) start.0 c (has start.0 start.1) (now c) is_tag adds (others start.0 start.1 c told) (gives start.0 start.1 c told)

-- ---- tags are written back

module _ (d : DirectDisk) (g : Geometry) (e : d.geometry ≡ g) (awaiting : ℕ → Bool) (tags : ℕ → List ℕ) (start c : Content) (keeps : KeepsCells d awaiting tags start) where
  stands_back : OnlyAdds (IsOfTags g tags tags) start c → StandsFor d c
  stands_back adds =
      let are = are_tags d awaiting tags start keeps in
      tags_written_law d tags tags start c keeps.stands are are (adds_in d g e tags tags start c adds)

  back_done : (now : ℕ → List ℕ) → OnlyAdds (IsOfTags g tags tags) start c
      → KeepsOthers g start c
      → ((b : ℕ) → b < g.blocks → now b ≡ tags b) → KeepsCells d awaiting now c
  back_done now adds others gives = record {
    stands = stands_back adds;
    reads = ReadsData-same d.geometry (cell_now d) start c (data_same d g e keeps.stands.formed start c others) keeps.reads;
    tags_are = λ b low awaits. gives b (subst (λ (y : Geometry). b < y.blocks) e low) ∙ keeps.tags_are b low awaits;
  }

-- What a call adds that writes tags back, beside the content at its start.
abbrev BackAdds : Geometry → (Content → ℕ → List ℕ) → Content → Content → Type 0
BackAdds g tags start = OnlyAdds (IsOfTags g (tags start) (tags start)) start

pub back_law : BackLaw
back_law d g awaiting tags a b e keeps m =
    through d (BackAdds g tags) (λ start told. (keeps start told).stands)
    (λ start told c adds. stands_back d g e awaiting (tags start) start c (keeps start told) adds) m

pub back_done_law : BackDoneLaw
back_done_law d g awaiting tags now a b e keeps m others gives c told =
    let P = BackAdds g tags in
    let start = start_told P c m told in
    let adds = end_from P (λ x. OnlyAdds-none (IsOfTags g (tags x) (tags x)) x) m start.0 c start.1 told in
    back_done d g e awaiting (tags start.0) start.0 c (keeps start.0 start.1) (now c) adds (others start.0 start.1 c told) (gives start.0 start.1 c told)

-- ---- a sync

-- The last candidates are among the candidates.
stands_synced : (d : DirectDisk) (c : Content) → StandsFor d c → IsImage c (last_image c) → StandsFor d (newest_only c)
stands_synced d c stands image = record {
  formed = stands.formed;
  each = λ sector x has. stands.each sector x (subst (Contains (c sector)) (sym (only_candidate (last_image c sector) x has)) (image sector));
}

pub sync_law : SyncLaw
sync_law d a b stands image m =
    through d (λ start c. c ≡ newest_only start) stands
    (λ start told c is. subst (StandsFor d) (sym is) (stands_synced d start (stands start told) (image start told))) m

pub sync_done_law : SyncDoneLaw
sync_done_law d g awaiting tags now a b e keeps image reads synced gives c told =
    let first = came_from (content_now a) newest_only c (sym synced ∙ told) in
    let start = first.0 in
    let flushed = keeps_flushed d awaiting (tags start) start (keeps start first.1) (image start first.1)
    (subst (λ (y : Geometry). ReadsTags y (tags start) start) (sym e) (reads start first.1)) in
    subst (KeepsCells (after_flush d) awaiting (now c)) first.2
    (keeps_same (after_flush d) awaiting awaiting (tags start) (now c) (newest_only start)
    (λ b low. gives start first.1 c told b (subst (λ (y : Geometry). b < y.blocks) e low)) (λ b low awaits. awaits) flushed)

-- ---- a read

pub block_read_law : BlockReadLaw
block_read_law f s d awaiting tags a b bytes tag is works keeps low awaits size reads is_tag c told =
    let held = readable_cells f (cells_now f.blocks.tag s.history) b in
    subst (λ (t : List ℕ). let cell : Cell = record { bytes = bytes; tag = t } in (held ≡ cell) × (block_reply f.blocks.tag b held ≡ block_reply (tagger_of d.format) b cell))
    (sym (is_tag c told)) (read_law f s d awaiting (tags c) c b bytes is works (keeps c told) low awaits size (reads c told))
