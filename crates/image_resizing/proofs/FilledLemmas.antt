-- Zeros and tags of new blocks, as runs of them leave them.
use Rattle.std.proofs.Common.{◌≡◌, ℕ, zero, suc, ◌+◌, ◌-◌, ◌*◌, ◌/◌, ◌%◌, ◌<◌, ◌≤◌, [], sym, ◌∙◌, ap, subst, arith, refl, Some, List, length, take}
use Rattle.std.specs.List.{Contains}
use Rattle.std.proofs.lemmas.List.{length-replicate, take-replicate}
use Rattle.std.proofs.lemmas.Nat.{div-add-mod', div_below, mod_below}
use Rattle.std.proofs.lemmas.Option.{same_Some}
use Rattle.disk_model.specs.Disk.{AddsSome, Content, Image, IsImage, IsRun, last_image, with_run}
use Rattle.disk_model.specs.Moments.{EachSince, HasNow, IsChangedBy, content_now}
use Rattle.disk_model.proofs.DiskLemmas.{last_image-with_run_out}
use Rattle.hmac_tag.specs.TagMaker.{TagRule}
use Rattle.image_model.specs.Geometry.{Geometry, IsGeometry, data_at}
use Rattle.image_model.specs.Sectors.{zero_bytes}
use Rattle.buffer_cache.proofs.CachedLemmas.{changed_now}
use Rattle.direct_laws.specs.CallLaws.{AddsTags, GivesTags, KeepsOthersNow}
use Rattle.formatting_model.specs.Blocks.{zero_tag}
use Rattle.image_model.proofs.GeometryLemmas.{data_at-inside}
use Rattle.image_model.proofs.TagLemmas.{length-tag_of}
use Rattle.place_model.proofs.TagsLemmas.{order, tag_byte-no_data}
use Rattle.resize_model.specs.CallLaws.{AreTagsThen, IsNewSector, StandsThrough, new_tag}
use Rattle.resize_model.specs.Growth.{geometry_then}
use Rattle.resize_model.proofs.CallLemmas.{still_law, tags_done_law, tags_law, through_law, zeros_done_law, zeros_law}
use Rattle.resize_model.proofs.GrowthLemmas.{same_data}
use Rattle.tag_store.specs.Store.{tags_in}
use Rattle.place_model.specs.Tags.{HoldsTag}
use Rattle.tag_store.specs.StoreLaws.{AreWhole}
use Rattle.tag_store.proofs.StoreLemmas.{tags_in-same}
use Rattle.image_resizing.specs.declared.planning.Plan.{Plan}
use Rattle.image_resizing.specs.Filled.{FillsBlocks, HasFilledOn, IsRow, StandsFilling, read_tags}
use Rattle.image_resizing.specs.Plan.{IsPlan, added, growth_of}
use Rattle.image_resizing.specs.Room.{zeros_at_once}
use Rattle.image_resizing.proofs.PlanLemmas.{plan_more, plan_places}

-- The first zeros of those that are written at once.
pub take-zeros : (zeros : List ℕ) (n size : ℕ) → zeros ≡ zeros_at_once → n ≤ 512 → size ≡ 512 * n → take size zeros ≡ zero_bytes (512 * n)
take-zeros zeros n size is low size_is =
    ap (λ (xs : List ℕ). take size xs) is ∙ ap (λ (m : ℕ). take m zeros_at_once) size_is ∙ take-replicate {X = ℕ} (512 * n) (512 * 512) 0 (omega arith)

-- ---- tags

-- A tag that is made has the size of all.
pub zero_tag_size : (sectors : ℕ) (plan : Plan) → IsPlan sectors plan → (spb block : ℕ) → length (zero_tag plan.maker spb block) ≡ plan.grown.geometry.shape.tag_size
zero_tag_size sectors plan is spb block =
    let rule = plan.maker in
    let size : rule.size ≡ plan.present.geometry.shape.tag_size = ap (λ (r : TagRule). r.size) is.maker in
    let most = is.present.geometry.tag_size.1 in
    length-tag_of rule.key rule.salt rule.size (block * spb) (zero_bytes (512 * spb)) (omega (arith, size, most))
    ∙ size
    ∙ sym (ap (λ (g : Geometry). g.shape.tag_size) (plan_places sectors plan is (λ sector. [])))

-- It is the tag of the new block.
pub zero_tag_new : (sectors : ℕ) (plan : Plan) → IsPlan sectors plan → (image : Image) (spb n : ℕ) → spb ≡ plan.present.geometry.shape.spb
    → zero_tag plan.maker spb (plan.present.geometry.blocks + n) ≡ new_tag (growth_of sectors plan image) n
zero_tag_new sectors plan is image spb n spb_is =
    ap (λ (k : ℕ). zero_tag plan.maker k (plan.present.geometry.blocks + n)) spb_is
    ∙ ap (λ (r : TagRule). zero_tag r plan.present.geometry.shape.spb (plan.present.geometry.blocks + n)) is.maker

-- ---- a run without a tag

-- What reads give of a disk is an image, and its sectors are whole.
pub record IsRead (sectors : ℕ) (moments : List Content) : Type 0 where
  pub image : (c : Content) → content_now moments ≡ Some c → IsImage c (last_image c)
  pub whole : (c : Content) (sector : ℕ) (x : List ℕ) → content_now moments ≡ Some c → sector < sectors → Contains (c sector) x → length x ≡ 512

pub read_whole : (sectors : ℕ) (moments : List Content) → IsRead sectors moments → (c : Content) → content_now moments ≡ Some c → AreWhole sectors (last_image c)
read_whole sectors moments read c told sector low = read.whole c sector (last_image c sector) told low (read.image c told sector)

-- It leaves the tags.
pub run_gives : (g : Geometry) (sectors at : ℕ) (bytes : List ℕ) (a b : List Content) → IsGeometry g sectors
    → ((s : ℕ) → at ≤ s → s < at + length bytes / 512 → HoldsTag g s → ⊥) → IsChangedBy (with_run at bytes) a b → IsRead sectors a → IsRead sectors b
    → GivesTags g (λ c. tags_in g (last_image c)) (λ c. tags_in g (last_image c)) a b
run_gives g sectors at bytes a b is apart written read read_now start told d told_d n low =
    let first = changed_now (with_run at bytes) (content_now a) (content_now b) written d told_d in
    let same : d ≡ with_run at bytes start = first.2 ∙ ap (with_run at bytes) (same_Some first.0 start (sym first.1 ∙ told)) in
    tags_in-same g sectors is (last_image start) (last_image d) (read_whole sectors a read start told) (read_whole sectors b read_now d told_d)
    (λ s holds. ap (λ (x : Content). last_image x s) same ∙ last_image-with_run_out at bytes start s (λ above below. apart s above below holds)) n low

-- ---- zeros

module _ (sectors : ℕ) (plan : Plan) (is : IsPlan sectors plan) (done count : ℕ) (row : IsRow plan.grown.geometry (plan.present.geometry.blocks + done) count) where
  abbrev row_at : ℕ
  row_at = data_at plan.grown.geometry (plan.present.geometry.blocks + done)

  abbrev row_spb : ℕ
  row_spb = plan.grown.geometry.shape.spb

  -- The shape stays.
  same_spb : plan.grown.geometry.shape.spb ≡ plan.present.geometry.shape.spb
  same_spb = ap (λ (g : Geometry). g.shape.spb) (plan_places sectors plan is (λ sector. []))

  old_data : (b : ℕ) → data_at plan.present.geometry b ≡ data_at plan.grown.geometry b
  old_data b = sym (ap (λ (g : Geometry). data_at g b) (plan_places sectors plan is (λ sector. [])) ∙ same_data plan.present.geometry (geometry_then (growth_of sectors plan (λ sector. []))).blocks b)

  -- Block i of the row.
  row_data : (i : ℕ) → i < count → data_at plan.present.geometry (plan.present.geometry.blocks + (done + i)) ≡ row_at + i * row_spb
  row_data i low =
      old_data (plan.present.geometry.blocks + (done + i))
      ∙ ap (data_at plan.grown.geometry) (let e : plan.present.geometry.blocks + (done + i) ≡ plan.present.geometry.blocks + done + i = omega arith in e)
      ∙ row.each i low

  -- Each sector of it is one of a new block.
  pub row_new : (image : Image) (sector : ℕ) → row_at ≤ sector → sector < row_at + count * row_spb → IsNewSector (growth_of sectors plan image) sector
  row_new image sector above low =
      let j = sector - row_at in
      let some = is.grown.geometry.spb.0 in
      let i_low : j / row_spb < count = div_below j row_spb count some (omega (arith, above, low)) in
      let k_low = mod_below j row_spb some in
      let split = div-add-mod' j row_spb in
      record {
        block = plan.present.geometry.blocks + (done + j / row_spb);
        place = j % row_spb;
        is_new = record {
          new = omega arith;
          low = subst (λ (g : Geometry). plan.present.geometry.blocks + (done + j / row_spb) < g.blocks) (plan_places sectors plan is image) (let inside = row.inside in omega (arith, inside, i_low));
        };
        narrow = subst (λ (n : ℕ). j % row_spb < n) same_spb k_low;
        is = let e = row_data (j / row_spb) i_low in omega (arith, e, split, above);
      }

  -- So it holds no tag.
  pub row_apart : (s : ℕ) → row_at ≤ s → s < row_at + count * row_spb → HoldsTag plan.grown.geometry s → ⊥
  row_apart s above low holds =
      let new = row_new (λ sector. []) s above low in
      tag_byte-no_data plan.grown.geometry sectors holds.block new.block holds.byte new.place is.grown.geometry holds.byte_low (subst (λ (n : ℕ). new.place < n) (sym same_spb) new.narrow)
      (sym holds.is ∙ new.is ∙ ap (λ (n : ℕ). n + new.place) (old_data new.block))

  -- The row has those blocks,
  row_covers : (n k : ℕ) → done ≤ n → n < done + count → k < plan.present.geometry.shape.spb
      → (row_at ≤ data_at plan.present.geometry (plan.present.geometry.blocks + n) + k) × (data_at plan.present.geometry (plan.present.geometry.blocks + n) + k < row_at + count * row_spb)
  row_covers n k above low k_low =
      let i = n - done in
      let i_low : i < count = omega (arith, above, low) in
      let at : data_at plan.present.geometry (plan.present.geometry.blocks + n) ≡ row_at + i * row_spb =
      ap (λ (m : ℕ). data_at plan.present.geometry (plan.present.geometry.blocks + m)) (let e : n ≡ done + i = omega (arith, above) in e) ∙ row_data i i_low in
      let fits : suc i * row_spb ≤ count * row_spb = order row_spb (suc i) count i_low in
      (omega (arith, at), omega (arith, at, fits, k_low, same_spb))

  -- and lies on the disk.
  pub row_inside : 1 ≤ count → row_at + count * row_spb ≤ sectors
  row_inside some =
      let last = data_at-inside plan.grown.geometry sectors (plan.present.geometry.blocks + done + (count - 1)) is.grown.geometry (let inside = row.inside in omega (arith, inside, some)) in
      let at = row.each (count - 1) (omega (arith, some)) in
      let all : (count - 1) * row_spb + row_spb ≡ count * row_spb = whole count row_spb some in
      omega (arith, last.1, at, all)
    where
      whole : (n size : ℕ) → 1 ≤ n → (n - 1) * size + size ≡ n * size
      whole zero size low = absurd (omega arith)
      whole (suc n) size low = let e : suc n - 1 ≡ n = omega arith in rw e (omega arith)

  -- A buffer of its zeros is a run of the disk,
  pub row_is_run : (at : ℕ) (bytes : List ℕ) → at ≡ row_at → bytes ≡ zero_bytes (512 * (count * row_spb)) → 1 ≤ count → IsRun at (length bytes) sectors
  row_is_run at bytes at_is zeros some =
      let size : length bytes ≡ 512 * (count * row_spb) = ap length zeros ∙ length-replicate {A = ℕ} (512 * (count * row_spb)) 0 in
      let spb = is.grown.geometry.spb.0 in
      let one : 1 * row_spb ≤ count * row_spb = order row_spb 1 count some in
      let inside = row_inside some in
      record { whole = omega (arith, size); some = omega (arith, size, one, spb); inside = omega (arith, size, inside, at_is) }

  -- in which no tag stands.
  pub row_no_tag : (at : ℕ) (bytes : List ℕ) → at ≡ row_at → bytes ≡ zero_bytes (512 * (count * row_spb))
      → (s : ℕ) → at ≤ s → s < at + length bytes / 512 → HoldsTag plan.grown.geometry s → ⊥
  row_no_tag at bytes at_is zeros s above low holds =
      let size : length bytes ≡ 512 * (count * row_spb) = ap length zeros ∙ length-replicate {A = ℕ} (512 * (count * row_spb)) 0 in
      row_apart s (omega (arith, at_is, above)) (omega (arith, at_is, low, size)) holds

  -- While they are written the disk stands for the same,
  pub row_stands : (image : Image) (groups : ℕ) (at : ℕ) (bytes : List ℕ) (a b : List Content) → at ≡ row_at → bytes ≡ zero_bytes (512 * (count * row_spb))
      → HasFilledOn sectors plan image done 0 groups a → EachSince (AddsSome at bytes) a b → StandsThrough (growth_of sectors plan image) a b
  row_stands image groups at bytes a b at_is zeros has m =
      zeros_law (growth_of sectors plan image) done 0 groups row_at (count * row_spb) (read_tags plan) a b (row_new image) has
      (subst (λ (n : ℕ). EachSince (AddsSome n (zero_bytes (512 * (count * row_spb)))) a b) at_is (subst (λ (xs : List ℕ). EachSince (AddsSome at xs) a b) zeros m))

  -- and then they are there.
  pub row_fills : (image : Image) (groups : ℕ) (at : ℕ) (bytes : List ℕ) (a b : List Content) → at ≡ row_at → bytes ≡ zero_bytes (512 * (count * row_spb))
      → HasFilledOn sectors plan image done 0 groups a → IsChangedBy (with_run at bytes) a b
      → GivesTags plan.grown.geometry (read_tags plan) (read_tags plan) a b → HasFilledOn sectors plan image (done + count) 0 groups b
  row_fills image groups at bytes a b at_is zeros has written gives =
      zeros_done_law (growth_of sectors plan image) done (done + count) 0 groups row_at (count * row_spb) (read_tags plan) (read_tags plan) a b (row_new image) row_covers has
      (subst (λ (n : ℕ). IsChangedBy (with_run n (zero_bytes (512 * (count * row_spb)))) a b) at_is (subst (λ (xs : List ℕ). IsChangedBy (with_run at xs) a b) zeros written))
      (subst (λ (g : Geometry). GivesTags g (read_tags plan) (read_tags plan) a b) (plan_places sectors plan is image) gives)

-- ---- tags of blocks

module _ (sectors : ℕ) (plan : Plan) (is : IsPlan sectors plan) (image : Image) (written done count groups : ℕ) (new : Content → ℕ → List ℕ) (a b : List Content)
    (low : done + count ≤ added plan) (has : HasFilledOn sectors plan image written done groups a)
    (then_ : HasNow (λ c. AreTagsThen (growth_of sectors plan image) done (done + count) (read_tags plan c) (new c)) a) where
  -- While they are written the disk stands for the same,
  pub tags_stand : AddsTags plan.grown.geometry (read_tags plan) new a b → StandsThrough (growth_of sectors plan image) a b
  tags_stand adds = tags_law (growth_of sectors plan image) written done (done + count) groups (read_tags plan) new a b has then_
      (subst (λ (g : Geometry). AddsTags g (read_tags plan) new a b) (plan_places sectors plan is image) adds)

  -- and then they are there.
  pub tags_fill : AddsTags plan.grown.geometry (read_tags plan) new a b → KeepsOthersNow plan.grown.geometry a b → GivesTags plan.grown.geometry new (read_tags plan) a b
      → HasFilledOn sectors plan image written (done + count) groups b
  tags_fill adds others gives =
      let same = plan_places sectors plan is image in
      tags_done_law (growth_of sectors plan image) written done (done + count) groups (read_tags plan) new (read_tags plan) a b (omega arith)
      (subst (λ (g : Geometry). plan.present.geometry.blocks + (done + count) ≤ g.blocks) same (let more = plan_more sectors plan is in omega (arith, low, more))) has then_
      (subst (λ (g : Geometry). AddsTags g (read_tags plan) new a b) same adds)
      (subst (λ (g : Geometry). KeepsOthersNow g a b) same others)
      (subst (λ (g : Geometry). GivesTags g new (read_tags plan) a b) same gives)

-- ---- calls in a row

module _ (sectors : ℕ) (plan : Plan) where
  pub fills_then : (a b c : List Content) (n t m s p q : ℕ) → FillsBlocks sectors plan n t m s a b → FillsBlocks sectors plan m s p q b c → FillsBlocks sectors plan n t p q a c
  fills_then a b c n t m s p q first second image groups has = second image groups (first image groups has)

  pub stands_still : (a : List Content) (n t : ℕ) → StandsFilling sectors plan n t a a
  stands_still a n t image groups has = still_law (growth_of sectors plan image) a a refl (λ c told. (has c told).stands)

  pub stands_then : (a b c : List Content) (n t m s : ℕ) → FillsBlocks sectors plan n t m s a b → StandsFilling sectors plan n t a b
      → StandsFilling sectors plan m s b c → StandsFilling sectors plan n t a c
  stands_then a b c n t m s fills first second image groups has =
      through_law (growth_of sectors plan image) a b c (first image groups has) (second image groups (fills image groups has))
