-- The steps of a growth, one behind the other.
use Rattle.std.proofs.Common.{◌≡◌, inl, refl, ℕ, ◌<◌, sym, ◌∙◌, ap, subst, arith, Ok, Result, Some, List, length}
use Rattle.std.proofs.lemmas.Option.{same_Some}
use Rattle.disk_model.specs.Disk.{AddsSome, Content, EachImage, Image, IsImage, last_image, newest_only, with_run}
use Rattle.disk_model.specs.Moments.{EachMoment, EachSince, HasNow, IsChangedBy, content_now}
use Rattle.disk_model.proofs.MomentsLemmas.{EachMoment-weaker}
use Rattle.image_model.specs.declared.super_fields.SuperFault.{SuperFault}
use Rattle.image_model.specs.Cells.{Cell, placed_cells_of}
use Rattle.image_model.specs.Geometry.{Geometry, regions}
use Rattle.image_model.specs.Superblock.{Superblock, superblock_of}
use Rattle.buffer_cache.proofs.CachedLemmas.{changed_now}
use Rattle.direct_laws.specs.CallLaws.{ReadsImage, ReadsTagsNow}
use Rattle.direct_laws.specs.ServeLaws.{Syncs}
use Rattle.place_model.specs.Format.{cells_on}
use Rattle.place_model.proofs.PlacedLemmas.{placed_tag-byte}
use Rattle.resize_model.specs.CallLaws.{IsFounded, IsToBeFounded, StandsThrough}
use Rattle.resize_model.specs.Growth.{Growth, IsCutOf, geometry_then}
use Rattle.resize_model.proofs.CallLemmas.{filling_law, head_done_law, head_law, head_sync_law, left_law, ready_law, sync_done_law, sync_law}
use Rattle.resize_model.proofs.ImageLemmas.{placed_then}
use Rattle.resize_model.specs.Left.{IsResizedOrNot}
use Rattle.resize_model.proofs.LeftLemmas.{growth_done_law, growth_left_law, stored_law, ungrown_done_law}
use Rattle.resize_model.proofs.PlacesLemmas.{quotients_in_order}
use Rattle.image_resizing.specs.declared.planning.Plan.{Plan}
use Rattle.image_resizing.specs.Cleared.{bits_begin, bits_end}
use Rattle.image_resizing.specs.Filled.{HasFilledOn, read_tags}
use Rattle.image_resizing.specs.Grown.{IsPrepared, IsResizedFrom, IsSettledFrom, IsToGrow, StandsNow}
use Rattle.image_resizing.specs.Plan.{IsPlan, added, growth_of, present_format}
use Rattle.image_resizing.proofs.FilledLemmas.{IsRead, read_whole}
use Rattle.image_resizing.proofs.PlanLemmas.{plan_more, plan_places}

module _ (sectors : ℕ) (plan : Plan) (is : IsPlan sectors plan) (image : Image) where
  abbrev w : Growth
  w = growth_of sectors plan image

  -- At the start reads give what is in place.
  pub begins : (a : List Content) → StandsNow sectors plan image a → HasFilledOn sectors plan image 0 0 (bits_begin plan) a
  begins a to_grow =
      filling_law w (bits_begin plan) (read_tags plan) a (λ c told. (to_grow c told).stands)
      (λ region new. quotients_in_order (regions plan.present.geometry) region 4096 (omega arith) new.new)
      (λ c told b low.
      ap (λ (g : Geometry). (placed_cells_of g (last_image c) b).tag) (plan_places sectors plan is image)
      ∙ ap (λ (cell : Cell). cell.tag) (placed_then plan.present.geometry (geometry_then w).blocks (last_image c) b)
      ∙ ap (λ (found : Image). (placed_cells_of plan.present.geometry found b).tag) (to_grow c told).reads)

  module _ (written groups : ℕ) (a b : List Content) (has : HasFilledOn sectors plan image written written groups a) (read : IsRead sectors a) where
    -- All is synced.
    pub sync_stands : EachSince (λ start c. c ≡ newest_only start) a b → StandsThrough w a b
    sync_stands m = sync_law w a b (λ c told. (has c told).stands) read.image m

    reads_tags : ReadsTagsNow plan.grown.geometry (read_tags plan) a
    reads_tags c told = record {
      each = λ n i low i_low.
          sym (placed_tag-byte plan.grown.geometry sectors is.grown.geometry (last_image c) (read_whole sectors a read c told) n low (placed_cells_of plan.grown.geometry (last_image c) n) i i_low);
    }

    syncs : IsChangedBy newest_only a b → EachSince (λ start c. c ≡ newest_only start) a b → Syncs plan.grown.geometry (read_tags plan) (read_tags plan) a b
    syncs synced m = record {
      image = read.image;
      synced = synced;
      adds = m;
      gives = λ start told c told_c n low.
          let first = changed_now newest_only (content_now a) (content_now b) synced c told_c in
          ap (λ (x : Content). read_tags plan x n) (first.2 ∙ ap newest_only (same_Some first.0 start (sym first.1 ∙ told)));
    }

    pub sync_prepares : IsChangedBy newest_only a b → EachSince (λ start c. c ≡ newest_only start) a b
        → written ≡ added plan → groups ≡ bits_end plan → HasNow (IsPrepared sectors plan image) b
    sync_prepares synced m all bits =
        let done = sync_done_law w written written groups (read_tags plan) (read_tags plan) a b has
        (subst (λ (g : Geometry). ReadsTagsNow g (read_tags plan) a) (plan_places sectors plan is image) reads_tags)
        (subst (λ (g : Geometry). Syncs g (read_tags plan) (read_tags plan) a b) (plan_places sectors plan is image) (syncs synced m)) in
        let new = ready_law w written groups (read_tags plan) b
        (let more = plan_more sectors plan is in let e = ap (λ (g : Geometry). g.blocks) (plan_places sectors plan is image) in omega (arith, more, e, all))
        (λ region of.
        let low : region < regions plan.grown.geometry = subst (λ (g : Geometry). region < regions g) (sym (plan_places sectors plan is image)) of.low in
        omega (arith, low, bits))
        done.0 done.1 in
        λ c told. record { stands = (done.0 c told).stands; settled = done.2 c told; new = new c told }

  -- ---- the first sector

  module _ (head : List ℕ) (a : List Content) (prepared : HasNow (IsPrepared sectors plan image) a) (reads : ReadsImage a) (size : length head ≡ 512)
      (told : superblock_of head ≡ Ok plan.grown.fields) where
    to_be_founded : IsToBeFounded w head a
    to_be_founded = record {
      stands = λ c now. (prepared c now).stands;
      settled = λ c now. (prepared c now).settled;
      reads = reads;
      new = λ c now. (prepared c now).new;
      size = size;
      told = told ∙ ap (λ (s : Superblock). let r : Result Superblock SuperFault = Ok s in r) is.fields;
    }

    pub head_cuts : (b : List Content) → EachSince (AddsSome 0 head) a b → EachMoment a b (EachImage (IsCutOf w))
    head_cuts b m = head_law w head a b to_be_founded m

    pub head_sync_cuts : (m b : List Content) → IsChangedBy (with_run 0 head) a m → EachSince (λ start c. c ≡ newest_only start) m b → EachMoment m b (EachImage (IsCutOf w))
    head_sync_cuts m b written synced = head_sync_law w head a m b to_be_founded written synced

    pub head_founds : (m b : List Content) → IsChangedBy (with_run 0 head) a m → IsChangedBy newest_only m b → HasNow (IsFounded w) b
    head_founds m b written synced = head_done_law w head a m b to_be_founded written synced

  -- While the disk stands for the growth each image has the old blocks.
  pub stands_cuts : (a b : List Content) → StandsThrough w a b → EachMoment a b (EachImage (IsCutOf w))
  stands_cuts a b through = EachMoment-weaker (λ c each found among. inl (each found among)) (left_law w a b through)

-- ---- by the image at entry

module _ (sectors : ℕ) (plan : Plan) (is : IsPlan sectors plan) (entry : Image) (x : Content) (settled : IsSettledFrom sectors plan entry x) where
  -- The disk stands for the growth of what reads give.
  pub to_grow : (a : List Content) → content_now a ≡ Some x → StandsNow sectors plan (last_image x) a
  to_grow a told z told_z = subst (IsToGrow sectors plan (last_image x)) (same_Some x z (sym told ∙ told_z)) (record { reads = refl; stands = settled.stands })

  -- Once it is founded the image is resized,
  pub founded_resized : IsImage x (last_image x) → (y : Content) → IsFounded (growth_of sectors plan (last_image x)) y → IsResizedFrom sectors plan entry y
  founded_resized among y founded =
      let d = present_format sectors plan in
      record {
        resized = growth_done_law d (cells_on d entry) (last_image x) y settled.before (λ clear. settled.placed clear (last_image x) among) founded;
        stored = stored_law d entry (last_image x) y (settled.stored (last_image x) among) founded;
      }

  -- each image until then is the old one or that,
  pub cuts_left : (a b : List Content) → EachMoment a b (EachImage (IsCutOf (growth_of sectors plan (last_image x))))
      → EachMoment a b (EachImage (IsResizedOrNot (present_format sectors plan) (cells_on (present_format sectors plan) entry)))
  cuts_left a b m =
      let d = present_format sectors plan in
      EachMoment-weaker (λ y cuts. growth_left_law d (cells_on d entry) (last_image x) y settled.before cuts) m

  -- and where no more is provided it is resized already.
  pub still_resized : plan.grown.fields.provided ≡ plan.present.fields.provided → IsResizedFrom sectors plan entry x
  still_resized same =
      let d = present_format sectors plan in
      record {
        resized = ungrown_done_law d (cells_on d entry) x settled.settled settled.cells settled.placed (ap (λ (s : Superblock). s.provided) (sym is.fields) ∙ same);
        stored = settled.stored;
      }
