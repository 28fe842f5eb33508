-- A run of tags of new blocks, over what reads give of its sectors.
use Rattle.std.proofs.Common.{◌≡◌, ◌⊎◌, inl, inr, ℕ, zero, suc, ◌+◌, ◌-◌, ◌*◌, ◌/◌, ◌%◌, ◌<◌, ◌≤◌, [], sym, ◌∙◌, ap, arith, Some, List, length, slice_index}
use Rattle.std.proofs.lemmas.Bool.{cases_lt}
use Rattle.std.proofs.lemmas.Nat.{div-add-mod', div-mul-add, div_below, mod-mul-add, mod_below}
use Rattle.std.proofs.lemmas.Option.{same_Some}
use Rattle.disk_model.specs.Disk.{AddsSome, Content, Image, IsOfRun, OnlyAdds, last_image, sector_in, with_run}
use Rattle.disk_model.specs.Moments.{EachSince, IsChangedBy, content_now}
use Rattle.disk_model.proofs.DiskLemmas.{AddsSome-adds, OnlyAdds-wider, last_image-with_run, last_image-with_run_out}
use Rattle.disk_model.proofs.MomentsLemmas.{EachMoment-weaker, FromStart-weaker}
use Rattle.buffer_cache.proofs.CachedLemmas.{changed_now}
use Rattle.direct_laws.specs.CallLaws.{AddsTags, GivesTags, KeepsOthersNow}
use Rattle.formatting_model.proofs.TaggingLemmas.{slice_index-sector_in}
use Rattle.image_model.specs.Cells.{Cell, placed_cells_of}
use Rattle.image_model.specs.Geometry.{Geometry, IsGeometry, area_at, quotient_up, tag_at}
use Rattle.image_model.proofs.GeometryLemmas.{data_at-inside, placed, tag_at-inside, tags_in_order}
use Rattle.place_model.specs.Tags.{IsOfTags, tag_byte_at, HoldsTag}
use Rattle.place_model.proofs.PlacedLemmas.{placed_tag, placed_tag-byte, placed_tag-length}
use Rattle.place_model.proofs.TagsLemmas.{length-sector_in, order}
use Rattle.tag_store.specs.Store.{tags_in}
use Rattle.tag_store.specs.StoreLaws.{AreWhole}
use Rattle.image_resizing.specs.Filled.{IsTagRow, tag_byte}

-- ---- bytes of the disk

-- Byte i of the tag of a block.
byte_is : (g : Geometry) (b i : ℕ) → 512 * (tag_byte_at g b i).sector + (tag_byte_at g b i).byte ≡ tag_byte g b + i
unfolding tag_byte_at
byte_is g b i = omega arith

byte_low : (g : Geometry) (b i : ℕ) → (tag_byte_at g b i).byte < 512
unfolding tag_byte_at
byte_low g b i = omega arith

-- The next tag fits.
next_fits : (n count size : ℕ) → n < count → n * size + size ≤ count * size
next_fits n count size low = let le = order size (suc n) count (omega (arith, low)) in omega (arith, le)

-- So does the last one.
last_is : (n size : ℕ) → 1 ≤ n → (n - 1) * size + size ≡ n * size
last_is zero size low = absurd (omega arith)
last_is (suc n) size low = let e : suc n - 1 ≡ n = omega arith in rw e (omega arith)

-- ---- blocks of an area

-- The tags of blocks of one area lie one behind the other.
pub area_row : (g : Geometry) (sectors first count : ℕ) → IsGeometry g sectors → 1 ≤ count → first + count ≤ g.blocks
    → count ≤ g.interleave / g.shape.spb - first % (g.interleave / g.shape.spb) → IsTagRow g first count
area_row g sectors first count is some inside low = record {
  some = some;
  inside = inside;
  each = λ i i_low.
      let one = placed g sectors first is in
      let other = placed g sectors (first + i) is in
      let n = g.interleave / g.shape.spb in
      let rest = rest_is first n one.area one.place one.place_low one.block_is in
      let same = same_area n one.area (one.place + i) other.area other.place other.place_low (let e : other.area * n + other.place ≡ one.area * n + (one.place + i) = omega (arith, other.block_is, one.block_is) in e)
      (omega (arith, i_low, low, rest)) in
      let areas : 512 * area_at g other.area ≡ 512 * area_at g one.area = ap (λ (m : ℕ). 512 * area_at g m) same.0 in
      let places : other.place * g.shape.tag_size ≡ (one.place + i) * g.shape.tag_size = ap (λ (m : ℕ). m * g.shape.tag_size) same.1 in
      let parts : (one.place + i) * g.shape.tag_size ≡ one.place * g.shape.tag_size + i * g.shape.tag_size = omega arith in
      omega (arith, one.tag_is, other.tag_is, areas, places, parts);
}
  where
    rest_is : (b n area place : ℕ) → place < n → b ≡ area * n + place → b % n ≡ place
    rest_is b n area place low is = ap (λ (m : ℕ). m % n) is ∙ mod-mul-add area n place low

    same_area : (n a r c s : ℕ) → s < n → c * n + s ≡ a * n + r → r < n → (c ≡ a) × (s ≡ r)
    same_area n a r c s s_low same r_low = (
      sym (div-mul-add c n s s_low) ∙ ap (λ (m : ℕ). m / n) same ∙ div-mul-add a n r r_low,
      sym (mod-mul-add c n s s_low) ∙ ap (λ (m : ℕ). m % n) same ∙ mod-mul-add a n r r_low,
    )

-- ---- a run over an image

module _ (g : Geometry) (sectors : ℕ) (is : IsGeometry g sectors) (first count at from : ℕ) (row : IsTagRow g first count)
    (at_is : at ≡ (tag_at g first).sector) (from_is : from ≡ (tag_at g first).byte) (run : List ℕ) (tag : ℕ → List ℕ)
    (long : length run ≡ 512 * quotient_up (from + count * g.shape.tag_size) 512) where
  -- The run ends where the last tag does,
  pub run_inside : at + length run / 512 ≤ sectors
  run_inside =
      let last = row.each (count - 1) (let some = row.some in omega (arith, some)) in
      let there = tag_at-inside g sectors (first + (count - 1)) is (let inside = row.inside in let some = row.some in omega (arith, inside, some)) in
      let end = data_at-inside g sectors (first + (count - 1)) is (let inside = row.inside in let some = row.some in omega (arith, inside, some)) in
      let all : (count - 1) * g.shape.tag_size + g.shape.tag_size ≡ count * g.shape.tag_size = last_is count g.shape.tag_size row.some in
      omega (arith, last, there.1, end.1, all, at_is, from_is, long)

  -- and each of its sectors has a byte of a tag.
  pub run_holds : (s : ℕ) → at ≤ s → s < at + length run / 512 → HoldsTag g s
  run_holds s above low =
      let size = g.shape.tag_size in
      let p = 512 * (s - at) - from in
      let p_low : p < count * size = (let le = next_fits 0 count size row.some in let some = is.tag_size.0 in omega (arith, low, long, above, le, some)) in
      let n = p / size in
      let n_low : n < count = div_below p size count is.tag_size.0 p_low in
      let split : n * size + p % size ≡ p = div-add-mod' p size in
      let begins = (tag_at-inside g sectors first is (let inside = row.inside in let some = row.some in omega (arith, inside, some))).2 in
      let here = byte_is g (first + n) (p % size) in
      let each = row.each n n_low in
      record {
        block = first + n;
        byte = p % size;
        block_low = let inside = row.inside in omega (arith, inside, n_low);
        byte_low = mod_below p size is.tag_size.0;
        is = let byte = byte_low g (first + n) (p % size) in omega (arith, here, each, split, byte, at_is, from_is, begins, above);
      }

  module _ (image : Image) (whole : AreWhole sectors image)
      (holds : (n i : ℕ) → n < count → i < g.shape.tag_size → slice_index run (from + (n * g.shape.tag_size + i)) ≡ slice_index (tag n) i)
      (sizes : (n : ℕ) → n < count → length (tag n) ≡ g.shape.tag_size)
      (rest : (p : ℕ) → p < length run → (p < from) ⊎ (from + count * g.shape.tag_size ≤ p) → slice_index run p ≡ slice_index (image (at + p / 512)) (p % 512))
      (then_ : Image) (inside : (s : ℕ) → at ≤ s → s < at + length run / 512 → then_ s ≡ sector_in run (s - at))
      (outside : (s : ℕ) → (at ≤ s → s < at + length run / 512 → ⊥) → then_ s ≡ image s) where
    -- The image with the run has whole sectors.
    pub then_whole : AreWhole sectors then_
    then_whole s low = elim (cases_lt s at) [
      | inl before ↦ ap (λ (x : List ℕ). length x) (outside s (λ above below. omega (arith, before, above))) ∙ whole s low
      | inr above ↦ elim (cases_lt s (at + length run / 512)) [
        | inl below ↦
            ap (λ (x : List ℕ). length x) (inside s above below)
            ∙ length-sector_in run (s - at) (length run / 512) (omega (arith, long)) (omega (arith, above, below))
        | inr behind ↦ ap (λ (x : List ℕ). length x) (outside s (λ _above below. omega (arith, behind, below))) ∙ whole s low
      ]
    ]

    -- A byte of the run in it.
    run_byte : (s j p : ℕ) → j < 512 → 512 * s + j ≡ 512 * at + p → p < length run → slice_index (then_ s) j ≡ slice_index run p
    run_byte s j p j_low same low =
        let quotient : p / 512 ≡ s - at = omega (arith, j_low, same) in
        let byte : p % 512 ≡ j = omega (arith, j_low, same) in
        ap (λ (x : List ℕ). slice_index x j) (inside s (omega (arith, j_low, same)) (omega (arith, j_low, same, low, long)))
        ∙ ap (λ (n : ℕ). slice_index (sector_in run n) j) (sym quotient)
        ∙ ap (slice_index (sector_in run (p / 512))) (sym byte)
        ∙ slice_index-sector_in run p

    -- A byte of a tag that comes,
    come_byte : (n i : ℕ) → n < count → i < g.shape.tag_size → slice_index (then_ (tag_byte_at g (first + n) i).sector) (tag_byte_at g (first + n) i).byte ≡ slice_index (tag n) i
    come_byte n i n_low i_low =
        let here = byte_is g (first + n) i in
        let each = row.each n n_low in
        let fits = next_fits n count g.shape.tag_size n_low in
        run_byte (tag_byte_at g (first + n) i).sector (tag_byte_at g (first + n) i).byte (from + (n * g.shape.tag_size + i)) (byte_low g (first + n) i)
        (omega (arith, here, each, at_is, from_is)) (omega (arith, fits, i_low, long))
        ∙ holds n i n_low i_low

    -- and of any other.
    other_byte : (b i : ℕ) → b < g.blocks → (b < first) ⊎ (first + count ≤ b) → i < g.shape.tag_size
        → slice_index (then_ (tag_byte_at g b i).sector) (tag_byte_at g b i).byte ≡ slice_index (image (tag_byte_at g b i).sector) (tag_byte_at g b i).byte
    other_byte b i b_low other i_low =
        let s = (tag_byte_at g b i).sector in
        let j = (tag_byte_at g b i).byte in
        let j_low = byte_low g b i in
        elim (cases_lt s at) [
          | inl before ↦ ap (λ (x : List ℕ). slice_index x j) (outside s (λ above below. omega (arith, before, above)))
          | inr above ↦ elim (cases_lt s (at + length run / 512)) [
            | inr behind ↦ ap (λ (x : List ℕ). slice_index x j) (outside s (λ _above below. omega (arith, behind, below)))
            | inl below ↦
                let p = 512 * (s - at) + j in
                let same : 512 * s + j ≡ 512 * at + p = omega (arith, above) in
                let p_low : p < length run = omega (arith, j_low, above, below, long) in
                let sector : at + p / 512 ≡ s = omega (arith, j_low, above) in
                let byte : p % 512 ≡ j = omega (arith, j_low, above) in
                run_byte s j p j_low same p_low
                ∙ rest p p_low (apart b i other i_low p (omega (arith, same, byte_is g b i)))
                ∙ ap (λ (n : ℕ). slice_index (image n) (p % 512)) sector
                ∙ ap (slice_index (image s)) byte
          ]
        ]
      where
        apart : (b i : ℕ) → (b < first) ⊎ (first + count ≤ b) → i < g.shape.tag_size → (p : ℕ) → 512 * at + p ≡ tag_byte g b + i → (p < from) ⊎ (from + count * g.shape.tag_size ≤ p)
        apart b i (inl before) i_low p is_p =
            let first_of = tags_in_order g b first (placed g sectors b is) (placed g sectors first is) before in
            inl (omega (arith, first_of, is_p, i_low, at_is, from_is))
        apart b i (inr behind) i_low p is_p =
            let last = count - 1 in
            let some = row.some in
            let after = tags_in_order g (first + last) b (placed g sectors (first + last) is) (placed g sectors b is) (omega (arith, behind, some)) in
            let each = row.each last (omega (arith, some)) in
            let all = last_is count g.shape.tag_size row.some in
            inr (omega (arith, after, each, all, is_p, at_is, from_is))

    -- The tags come,
    pub come_tag : (n : ℕ) → n < count → tags_in g then_ (first + n) ≡ tag n
    come_tag n n_low =
        let cell : Cell = record { bytes = []; tag = tag n } in
        placed_tag g sectors is then_ then_whole (first + n) (let inside = row.inside in omega (arith, inside, n_low)) cell (sizes n n_low) (λ i i_low. come_byte n i n_low i_low)

    -- and all others stay.
    pub other_tag : (b : ℕ) → b < g.blocks → (b < first) ⊎ (first + count ≤ b) → tags_in g then_ b ≡ tags_in g image b
    other_tag b b_low other =
        placed_tag g sectors is then_ then_whole b b_low (placed_cells_of g image b) (placed_tag-length g sectors is image whole b b_low (placed_cells_of g image b))
        (λ i i_low. other_byte b i b_low other i_low ∙ sym (placed_tag-byte g sectors is image whole b b_low (placed_cells_of g image b) i i_low))

    -- What is written to a sector are the tags that stand in it then.
    pub run_of_tags : (s : ℕ) (x : List ℕ) → IsOfRun at run s x → IsOfTags g (tags_in g image) (tags_in g then_) s x
    run_of_tags s x of =
        let tags = run_holds s of.begins of.ends in
        let same : x ≡ then_ s = of.is ∙ sym (inside s of.begins of.ends) in
        record {
          whole = ap (λ (y : List ℕ). length y) same ∙ then_whole s (let all = run_inside in let ends = of.ends in omega (arith, all, ends));
          block = tags.block;
          byte = tags.byte;
          block_low = tags.block_low;
          byte_low = tags.byte_low;
          is = tags.is;
          each = λ b i b_low i_low here. inr
              (ap (λ (y : List ℕ). slice_index y (tag_byte_at g b i).byte) (same ∙ ap then_ here)
              ∙ sym (placed_tag-byte g sectors is then_ then_whole b b_low (placed_cells_of g then_ b) i i_low));
        }

-- ---- a run over a disk

-- The tags that reads give once the run is written.
abbrev pub tags_behind : Geometry → (at : ℕ) → (run : List ℕ) → Content → ℕ → List ℕ
tags_behind g at run c = tags_in g (last_image (with_run at run c))

abbrev pub tags_read : Geometry → Content → ℕ → List ℕ
tags_read g c = tags_in g (last_image c)

module _ (g : Geometry) (sectors : ℕ) (is : IsGeometry g sectors) (first count at from : ℕ) (row : IsTagRow g first count)
    (at_is : at ≡ (tag_at g first).sector) (from_is : from ≡ (tag_at g first).byte) (run : List ℕ) (tag : ℕ → List ℕ)
    (long : length run ≡ 512 * quotient_up (from + count * g.shape.tag_size) 512)
    (holds : (n i : ℕ) → n < count → i < g.shape.tag_size → slice_index run (from + (n * g.shape.tag_size + i)) ≡ slice_index (tag n) i)
    (sizes : (n : ℕ) → n < count → length (tag n) ≡ g.shape.tag_size) (a : List Content)
    (whole : (c : Content) → content_now a ≡ Some c → AreWhole sectors (last_image c))
    (rest : (c : Content) → content_now a ≡ Some c → (p : ℕ) → p < length run → (p < from) ⊎ (from + count * g.shape.tag_size ≤ p)
    → slice_index run p ≡ slice_index (last_image c (at + p / 512)) (p % 512)) where
  -- At each moment tags have been added,
  pub run_adds : (b : List Content) → EachSince (AddsSome at run) a b → AddsTags g (tags_read g) (tags_behind g at run) a b
  run_adds b m = EachMoment-weaker (FromStart-weaker a (AddsSome at run) (λ start. OnlyAdds (IsOfTags g (tags_read g start) (tags_behind g at run start)) start)
      (λ start c told some. OnlyAdds-wider (IsOfRun at run) (IsOfTags g (tags_read g start) (tags_behind g at run start))
      (λ s x of. run_of_tags g sectors is first count at from row at_is from_is run tag long (last_image start) (whole start told) holds sizes (rest start told)
      (last_image (with_run at run start)) (last_image-with_run at run start) (last_image-with_run_out at run start) s x of)
      start c (AddsSome-adds at run start c some))) m

  run_done : (b : List Content) → IsChangedBy (with_run at run) a b → (start c : Content) → content_now a ≡ Some start → content_now b ≡ Some c → c ≡ with_run at run start
  run_done b written start c told told_c =
      let from_ = changed_now (with_run at run) (content_now a) (content_now b) written c told_c in
      from_.2 ∙ ap (with_run at run) (same_Some from_.0 start (sym from_.1 ∙ told))

  -- and then no other sector has changed,
  pub run_others : (b : List Content) → IsChangedBy (with_run at run) a b → KeepsOthersNow g a b
  run_others b written start told c told_c = record {
    each = λ s none.
        ap (λ (x : Content). last_image x s) (run_done b written start c told told_c)
        ∙ last_image-with_run_out at run start s (λ above low.
        let tags = run_holds g sectors is first count at from row at_is from_is run tag long s above low in
        none tags.block tags.byte tags.block_low tags.byte_low tags.is);
  }

  -- reads give the tags,
  pub run_gives : (b : List Content) → IsChangedBy (with_run at run) a b → GivesTags g (tags_behind g at run) (tags_read g) a b
  run_gives b written start told c told_c n low = ap (λ (x : Content). tags_read g x n) (run_done b written start c told told_c)

  -- which are those that come,
  pub behind_come : (c : Content) → content_now a ≡ Some c → (n : ℕ) → n < count → tags_behind g at run c (first + n) ≡ tag n
  behind_come c told n n_low =
      come_tag g sectors is first count at from row at_is from_is run tag long (last_image c) (whole c told) holds sizes (rest c told)
      (last_image (with_run at run c)) (last_image-with_run at run c) (last_image-with_run_out at run c) n n_low

  -- and all others as before.
  pub behind_others : (c : Content) → content_now a ≡ Some c → (b : ℕ) → b < g.blocks → (b < first) ⊎ (first + count ≤ b) → tags_behind g at run c b ≡ tags_read g c b
  behind_others c told b b_low other =
      other_tag g sectors is first count at from row at_is from_is run tag long (last_image c) (whole c told) holds sizes (rest c told)
      (last_image (with_run at run c)) (last_image-with_run at run c) (last_image-with_run_out at run c) b b_low other
