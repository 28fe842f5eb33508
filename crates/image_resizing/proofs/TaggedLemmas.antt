-- A run of tags of new blocks, as its write leaves the growth.
use Rattle.std.proofs.Common.{◌≡◌, ◌⊎◌, inl, inr, ⊎_elim, ℕ, suc, [], min, ◌+◌, ◌-◌, ◌*◌, ◌/◌, ◌%◌, ◌^◌, ◌<◌, ◌≤◌, refl, sym, ◌∙◌, ap, subst, arith, Some, List, length, slice_index}
use Rattle.std.proofs.lemmas.Bool.{cases_lt}
use Rattle.std.proofs.lemmas.Nat.{div-add-mod', mod_below}
use Rattle.disk_model.specs.Disk.{AddsSome, Content, Image, IsRun, last_image, with_run}
use Rattle.disk_model.specs.Moments.{EachSince, HasNow, IsChangedBy, content_now}
use Rattle.hmac_tag.specs.TagMaker.{TagRule}
use Rattle.formatting_model.specs.Blocks.{byte_of_tags, zero_tag}
use Rattle.image_formatting.specs.Tagging.{LiesOn}
use Rattle.formatting_model.proofs.TaggingLemmas.{byte_of_tag, sectors_are}
use Rattle.formatting_model.proofs.WipingLemmas.{area_is, of_area_some}
use Rattle.image_model.specs.Geometry.{Geometry, quotient_up, tag_at}
use Rattle.image_model.proofs.GeometryLemmas.{tag_at-inside}
use Rattle.image_model.proofs.Regions.{blocks-low}
use Rattle.place_model.specs.Format.{tagger_of}
use Rattle.place_model.proofs.TagsLemmas.{order}
use Rattle.resize_model.specs.CallLaws.{AreTagsThen}
use Rattle.resize_model.specs.Resized.{zero_block}
use Rattle.image_resizing.specs.declared.planning.Plan.{Plan}
use Rattle.image_resizing.specs.Filled.{FillsBlocks, HasReadAround, IsTagRow, StandsFilling, read_tags}
use Rattle.image_resizing.specs.Plan.{IsPlan, added, growth_of}
use Rattle.image_resizing.proofs.FilledLemmas.{IsRead, read_whole, tags_fill, tags_stand, zero_tag_new, zero_tag_size}
use Rattle.image_resizing.proofs.PlanLemmas.{plan_more, plan_places}
use Rattle.image_resizing.proofs.TagRunLemmas.{area_row, behind_come, behind_others, run_adds, run_gives, run_inside, run_others, tags_behind}

module _ (sectors : ℕ) (plan : Plan) (is : IsPlan sectors plan) (done count first at from spb size : ℕ) (first_is : first ≡ plan.present.geometry.blocks + done)
    (row : IsTagRow plan.grown.geometry first count)
    (at_is : at ≡ (tag_at plan.grown.geometry first).sector) (from_is : from ≡ (tag_at plan.grown.geometry first).byte)
    (spb_is : spb ≡ plan.present.geometry.shape.spb) (size_is : size ≡ plan.grown.geometry.shape.tag_size) (run : List ℕ)
    (long : length run ≡ 512 * quotient_up (from + count * size) 512) where
  long_is : length run ≡ 512 * quotient_up (from + count * plan.grown.geometry.shape.tag_size) 512
  long_is = subst (λ (n : ℕ). length run ≡ 512 * quotient_up (from + count * n) 512) size_is long

  -- The run lies on the disk.
  pub tags_inside : at + length run / 512 ≤ sectors
  tags_inside = run_inside plan.grown.geometry sectors is.grown.geometry first count at from row at_is from_is run (zero_tag plan.maker spb) long_is

  module _ (holds : (p : ℕ) → p < count * size → slice_index run (from + p) ≡ byte_of_tags plan.maker spb first p)
      (a : List Content) (read : IsRead sectors a) (around : HasReadAround at from (from + count * size) run a) where
    rule_size : plan.maker.size ≡ plan.grown.geometry.shape.tag_size
    rule_size =
        ap (λ (r : TagRule). r.size) is.maker
        ∙ sym (ap (λ (y : Geometry). y.shape.tag_size) (plan_places sectors plan is (λ sector. [])))

    holds_is : (n i : ℕ) → n < count → i < plan.grown.geometry.shape.tag_size
        → slice_index run (from + (n * plan.grown.geometry.shape.tag_size + i)) ≡ slice_index (zero_tag plan.maker spb (first + n)) i
    holds_is n i n_low i_low =
        let p = n * plan.grown.geometry.shape.tag_size + i in
        subst (λ (k : ℕ). (q : ℕ) → q < count * k → slice_index run (from + q) ≡ byte_of_tags plan.maker spb first q) size_is holds p (tag_fits n count plan.grown.geometry.shape.tag_size i n_low i_low)
        ∙ ap (λ (k : ℕ). byte_of_tags plan.maker spb first (n * k + i)) (sym rule_size)
        ∙ byte_of_tag plan.maker spb first n i (omega (arith, rule_size, i_low))
      where
        tag_fits : (n count size i : ℕ) → n < count → i < size → n * size + i < count * size
        tag_fits n count size i n_low i_low = let le = order size (suc n) count (omega (arith, n_low)) in omega (arith, le, i_low)

    around_is : (c : Content) → content_now a ≡ Some c → (p : ℕ) → p < length run → (p < from) ⊎ (from + count * plan.grown.geometry.shape.tag_size ≤ p)
        → slice_index run p ≡ slice_index (last_image c (at + p / 512)) (p % 512)
    around_is c told = subst (λ (k : ℕ). (p : ℕ) → p < length run → (p < from) ⊎ (from + count * k ≤ p) → slice_index run p ≡ slice_index (last_image c (at + p / 512)) (p % 512)) size_is (around c told)

    sizes : (n : ℕ) → n < count → length (zero_tag plan.maker spb (first + n)) ≡ plan.grown.geometry.shape.tag_size
    sizes n low = zero_tag_size sectors plan is spb (first + n)

    -- The tags that reads give then.
    then_tags : (image : Image) → HasNow (λ c. AreTagsThen (growth_of sectors plan image) done (done + count) (read_tags plan c) (tags_behind plan.grown.geometry at run c)) a
    then_tags image c told = record {
      come = λ b above low.
          let n = b - first in
          let n_low : n < count = omega (arith, above, low, first_is) in
          let there : first + n ≡ b = omega (arith, above, first_is) in
          let block : first + n ≡ plan.present.geometry.blocks + (done + n) = omega (arith, first_is) in
          ap (tags_behind plan.grown.geometry at run c) (sym there)
          ∙ behind_come plan.grown.geometry sectors is.grown.geometry first count at from row at_is from_is run (λ k. zero_tag plan.maker spb (first + k)) long_is holds_is sizes a
          (read_whole sectors a read) around_is c told n n_low
          ∙ ap (zero_tag plan.maker spb) block
          ∙ zero_tag_new sectors plan is image spb (done + n) spb_is
          ∙ ap (λ (k : ℕ). tagger_of (growth_of sectors plan image).format k (zero_block plan.present.geometry)) (sym block ∙ there);
      others = λ b low other.
          behind_others plan.grown.geometry sectors is.grown.geometry first count at from row at_is from_is run (λ k. zero_tag plan.maker spb (first + k)) long_is holds_is sizes a
          (read_whole sectors a read) around_is c told b (subst (λ (y : Geometry). b < y.blocks) (sym (plan_places sectors plan is image)) low)
          (⊎_elim (λ before. inl (omega (arith, before, first_is))) (λ behind. inr (omega (arith, behind, first_is))) other);
    }

    low_is : done + count ≤ added plan
    low_is = let inside = row.inside in let more = plan_more sectors plan is in omega (arith, inside, more, first_is)

    -- While the run is written the disk stands for the same,
    pub tags_stands : (written : ℕ) (b : List Content) → EachSince (AddsSome at run) a b → StandsFilling sectors plan written done a b
    tags_stands written b m image groups has =
        tags_stand sectors plan is image written done count groups (tags_behind plan.grown.geometry at run) a b low_is has (then_tags image)
        (run_adds plan.grown.geometry sectors is.grown.geometry first count at from row at_is from_is run (λ k. zero_tag plan.maker spb (first + k)) long_is holds_is sizes a
        (read_whole sectors a read) around_is b m)

    -- and then the tags are there.
    pub tags_fills : (written : ℕ) (b : List Content) → EachSince (AddsSome at run) a b → IsChangedBy (with_run at run) a b → FillsBlocks sectors plan written done written (done + count) a b
    tags_fills written b m changed image groups has =
        tags_fill sectors plan is image written done count groups (tags_behind plan.grown.geometry at run) a b low_is has (then_tags image)
        (run_adds plan.grown.geometry sectors is.grown.geometry first count at from row at_is from_is run (λ k. zero_tag plan.maker spb (first + k)) long_is holds_is sizes a
        (read_whole sectors a read) around_is b m)
        (run_others plan.grown.geometry sectors is.grown.geometry first count at from row at_is from_is run (λ k. zero_tag plan.maker spb (first + k)) long_is holds_is sizes a
        (read_whole sectors a read) around_is b changed)
        (run_gives plan.grown.geometry sectors is.grown.geometry first count at from row at_is from_is run (λ k. zero_tag plan.maker spb (first + k)) long_is holds_is sizes a
        (read_whole sectors a read) around_is b changed)

-- ---- how many tags at once

module _ (sectors : ℕ) (plan : Plan) (is : IsPlan sectors plan) (done first of_area from size tags room count : ℕ) (first_is : first ≡ plan.present.geometry.blocks + done)
    (done_low : done < added plan) (area : of_area ≡ 2 ^ (plan.grown.fields.log2_interleave - plan.grown.fields.log2_spb))
    (from_is : from ≡ (tag_at plan.grown.geometry first).byte) (size_is : size ≡ plan.grown.geometry.shape.tag_size) (tags_are : tags ≡ 512 * 512)
    (room_is : room ≡ (tags - from) / size) where
  pub first_low : first < plan.grown.geometry.blocks
  first_low = omega (arith, first_is, done_low)

  pub from_low : from < 512
  from_low = let begins = (tag_at-inside plan.grown.geometry sectors first is.grown.geometry first_low).2 in omega (arith, from_is, begins)

  area_blocks_is : of_area ≡ plan.grown.geometry.interleave / plan.grown.geometry.shape.spb
  area_blocks_is = area ∙ area_is sectors plan.grown is.grown

  pub area_some : 0 < of_area
  area_some = let some = of_area_some plan.grown.geometry sectors is.grown.geometry in omega (arith, some, area_blocks_is)

  room_some : 1 ≤ room
  room_some =
      let split = div-add-mod' (tags - from) size in
      let rest = mod_below (tags - from) size (let some = is.grown.geometry.tag_size.0 in omega (arith, some, size_is)) in
      let most = is.grown.geometry.tag_size.1 in
      elim (cases_lt room 1) [
        | inl none ↦
            let zero_ : (tags - from) / size * size ≡ 0 * size = ap (λ (n : ℕ). n * size) (let e : (tags - from) / size ≡ 0 = omega (arith, room_is, none) in e) in
            absurd (omega (arith, split, rest, zero_, most, size_is, tags_are, from_low))
        | inr some ↦ some
      ]

  module _ (count_is : count ≡ min (min room (of_area - first % of_area)) (plan.grown.geometry.blocks - first)) where
    in_area_low : first % of_area < of_area
    in_area_low = mod_below first of_area area_some

    pub count_some : 1 ≤ count
    count_some = omega (arith, count_is, room_some, first_low, in_area_low)

    pub count_inside : first + count ≤ plan.grown.geometry.blocks
    count_inside = omega (arith, count_is, first_low)

    pub count_row : IsTagRow plan.grown.geometry first count
    count_row = area_row plan.grown.geometry sectors first count is.grown.geometry count_some count_inside
        (subst (λ (n : ℕ). count ≤ n - first % n) area_blocks_is (omega (arith, count_is)))

    pub count_fits : from + count * size ≤ tags
    count_fits =
        let split = div-add-mod' (tags - from) size in
        let le = order size count ((tags - from) / size) (omega (arith, count_is, room_is)) in
        omega (arith, split, le, from_low, tags_are)

-- ---- the bytes of a run

module _ (sectors : ℕ) (plan : Plan) (is : IsPlan sectors plan) (done count first at from size tags multiple : ℕ) (first_is : first ≡ plan.present.geometry.blocks + done)
    (row_is : IsTagRow plan.grown.geometry (plan.present.geometry.blocks + done) count)
    (at_is : at ≡ (tag_at plan.grown.geometry first).sector) (from_is : from ≡ (tag_at plan.grown.geometry first).byte) (size_is : size ≡ plan.grown.geometry.shape.tag_size)
    (tags_are : tags ≡ 512 * 512) (fits : (tag_at plan.grown.geometry (plan.present.geometry.blocks + done)).byte + count * plan.grown.geometry.shape.tag_size ≤ tags) where
  pub run_row : IsTagRow plan.grown.geometry first count
  run_row = subst (λ (n : ℕ). IsTagRow plan.grown.geometry n count) (sym first_is) row_is

  pub run_from : from < 512
  run_from =
      let begins = (tag_at-inside plan.grown.geometry sectors first is.grown.geometry (let inside = run_row.inside in let some = run_row.some in omega (arith, inside, some))).2 in
      omega (arith, from_is, begins)

  pub run_end : from + count * size ≤ tags
  run_end =
      let begins = from_is ∙ ap (λ (n : ℕ). (tag_at plan.grown.geometry n).byte) first_is in
      let all = ap (λ (n : ℕ). count * n) size_is in
      omega (arith, begins, all, fits)

  pub run_some : from < from + count * size
  run_some =
      let le = order size 1 count run_row.some in
      let some = is.grown.geometry.tag_size.0 in
      omega (arith, le, some, size_is)

  pub run_blocks : first + count ≤ 2 ^ 48
  run_blocks = let inside = run_row.inside in let low = blocks-low plan.grown.geometry sectors is.grown.geometry in omega (arith, inside, low)

  pub run_rule : plan.maker.size ≡ size
  run_rule =
      ap (λ (r : TagRule). r.size) is.maker
      ∙ sym (ap (λ (y : Geometry). y.shape.tag_size) (plan_places sectors plan is (λ sector. [])))
      ∙ sym size_is

  module _ (lower : from + count * size ≤ multiple) (upper : multiple < from + count * size + 512) (whole : multiple % 512 ≡ 0) where
    pub run_is : (multiple ≡ 512 * quotient_up (from + count * size) 512) × (multiple ≤ tags)
    run_is = let are = sectors_are (from + count * size) multiple 512 lower upper whole (omega (arith, run_end, tags_are)) in (are.0, omega (arith, are.1, tags_are))

    pub run_lies : (run : List ℕ) → length run ≡ multiple → LiesOn at (from + count * size) sectors
    run_lies run long =
        let inside = tags_inside sectors plan is done count first at from plan.present.geometry.shape.spb size first_is run_row at_is from_is refl size_is run (long ∙ run_is.0) in
        record { inside = omega (arith, inside, long, run_is.0); few = is.grown.geometry.device }

    pub run_writes : (run : List ℕ) → length run ≡ multiple → IsRun at (length run) sectors
    run_writes run long =
        let inside = tags_inside sectors plan is done count first at from plan.present.geometry.shape.spb size first_is run_row at_is from_is refl size_is run (long ∙ run_is.0) in
        record { whole = omega (arith, long, whole); some = omega (arith, long, lower, run_some, whole); inside = inside }
