-- What each part of a formatting writes is written for the new image.
use Rattle.std.proofs.Common.{◌≡◌, inl, inr, ⊎_elim, ℕ, ◌+◌, ◌-◌, ◌*◌, ◌/◌, ◌%◌, ◌<◌, ◌≤◌, List, length, slice_index, sym, ◌∙◌, ap, subst, arith, Some, Ok}
use Rattle.std.specs.List.{Contains}
use Rattle.std.specs.Option.{option_map}
use Rattle.std.proofs.lemmas.List.{length-replicate}
use Rattle.std.proofs.lemmas.Nat.{div-add-mod', div_below, mod_below}
use Rattle.std.proofs.lemmas.Option.{same_Some}
use Rattle.disk_model.specs.Disk.{Content, IsOfRun, OnlyAdds, last_image, sector_in}
use Rattle.disk_model.specs.Moments.{content_now, EachSince, FromStart, HasNow}
use Rattle.disk_model.proofs.DiskLemmas.{OnlyAdds-wider, within_or_out}
use Rattle.disk_model.proofs.MomentsLemmas.{EachMoment-join, EachMoment-weaker, FromStart-weaker, adds_told}
use Rattle.image_model.specs.Geometry.{Geometry, IsGeometry, data_at, initial, journal_sectors, quotient_up, tag_at}
use Rattle.image_model.specs.Sectors.{zero_bytes}
use Rattle.image_format.specs.declared.reading.ImageFormat.{ImageFormat}
use Rattle.image_model.specs.Entries.{IsWithin}
use Rattle.place_model.proofs.TagsLemmas.{order, tag_byte-behind}
use Rattle.formatting_model.specs.declared.new_image.NewImage.{NewImage}
use Rattle.image_model.specs.declared.new_image.Wipe.{Wipe}
use Rattle.image_model.specs.declared.new_image.Wipe.TheVariants.{Wiped, Kept, Recalculated}
use Rattle.formatting_model.specs.Blocks.{IsAreaRun}
use Rattle.formatting_model.specs.FirstSector.{IsFirst, forgotten, head_of, zero_sector}
use Rattle.formatting_model.specs.Formatted.{format_with}
use Rattle.formatting_model.specs.NewImage.{provided_of}
use Rattle.formatting_model.specs.Runs.{ChangesOnly}
use Rattle.formatting_model.specs.Stays.{IsBlockByte, IsRunByte, ReadsKeep}
use Rattle.formatting_model.specs.Written.{Blocks, Fields, IsOfBlocks, IsOfFormat, IsOfNewImage, IsOfTagRun, IsOfWipe, IsZeroWithin, Journal, OnlyWrites, OnlyWritesNew, Zeros}
use Rattle.formatting_model.proofs.FormattedLemmas.{forgotten_other}
use Rattle.formatting_model.proofs.RunsLemmas.{sector_in-zeros}
use Rattle.formatting_model.proofs.StaysLemmas.{behind_byte, block_byte_of, keep_changes, keep_then, tag_byte_of}
use Rattle.formatting_model.proofs.WipingLemmas.{data_place, tag_place}

-- ---- calls in a row

pub writes_wider : {a b : List Content} (W V : Content → ℕ → List ℕ → Type 0) → ((start : Content) → content_now a ≡ Some start → (s : ℕ) (x : List ℕ) → W start s x → V start s x)
    → OnlyWrites W a b → OnlyWrites V a b
writes_wider {a} W V f m = EachMoment-weaker (FromStart-weaker a (λ start. OnlyAdds (W start) start) (λ start. OnlyAdds (V start) start)
    (λ start c told adds. OnlyAdds-wider (W start) (V start) (f start told) start c adds)) m

-- What a later call writes, by the content at its own start, is written by the one at the start of both.
pub writes_then : {a b c : List Content} (W V : Content → ℕ → List ℕ → Type 0) → OnlyWrites W a b → OnlyWrites V b c
    → ((start middle : Content) → content_now a ≡ Some start → content_now b ≡ Some middle → (s : ℕ) (x : List ℕ) → V middle s x → W start s x) → OnlyWrites W a c
writes_then W V first second f = EachMoment-join (λ start. OnlyAdds (W start) start) (λ start. OnlyAdds (V start) start) first second
    (λ start middle later told told_middle so_far adds. record {
      among = λ s x has. ⊎_elim
          (λ was. ⊎_elim (λ e. inl (subst (λ (c : Content). Contains (c s) x) e was)) (λ p. p.among s x was) so_far)
          (λ v. inr (f start middle told told_middle s x v)) (adds.among s x has);
    })

-- Sectors of a run that are changed alone are written alone.
pub changes_write : {a b : List Content} (at count : ℕ) → EachSince (ChangesOnly (IsWithin at count)) a b → EachSince (OnlyAdds (λ s x. IsWithin at count s)) a b
changes_write {a} at count m = EachMoment-weaker (FromStart-weaker a (ChangesOnly (IsWithin at count)) (OnlyAdds (λ s x. IsWithin at count s))
    (λ start c told h. record {
      among = λ s x has. elim (within_or_out at count s) [
        | inl within ↦ inr (within.0, within.1)
        | inr out ↦ inl (subst (λ (xs : List (List ℕ)). Contains xs x) (h.others s (λ of. out of.0 of.1)) has)
      ];
    })) m

-- ---- runs

-- A run of zeros, as a part of more.
pub zero_written : (at count done part : ℕ) (bytes : List ℕ) → bytes ≡ zero_bytes (512 * part) → done + part ≤ count → (s : ℕ) (x : List ℕ) → IsOfRun (at + done) bytes s x → IsZeroWithin at count s x
zero_written at count done part bytes is fits s x of =
    let long : length bytes ≡ 512 * part = ap length is ∙ length-replicate {A = ℕ} (512 * part) 0 in (
      (omega (arith, of.begins), omega (arith, of.ends, long, fits)),
      of.is ∙ ap (λ (xs : List ℕ). sector_in xs (s - (at + done))) is ∙ sector_in-zeros part (s - (at + done)) (omega (arith, of.begins, of.ends, long)),
    )

-- A run of tags, with what stood behind them.
pub run_written : (a : List Content) (at size : ℕ) (bytes : List ℕ) → ((p : ℕ) → size ≤ p → p < length bytes → HasNow (λ c. slice_index bytes p ≡ slice_index (last_image c (at + p / 512)) (p % 512)) a)
    → length bytes ≡ 512 * quotient_up size 512 → (start : Content) → content_now a ≡ Some start → (s : ℕ) (x : List ℕ) → IsOfRun at bytes s x → IsOfTagRun at size start s x
run_written a at size bytes behind long start told s x of = record {
  within = (of.begins, omega (arith, of.ends, long));
  rest = λ j low out. ap (λ (y : List ℕ). slice_index y j) of.is
      ∙ behind_byte a at size bytes behind (omega (arith, long)) start told s j (of.begins, of.ends) low out;
}

-- One more run of tags, behind those so far.
pub tag_run_next : (a b : List Content) (at done part count size : ℕ) → done * size ≡ 512 * (done * size / 512) → done + part ≤ count → ReadsKeep (IsRunByte at (done * size)) a b
    → (start middle : Content) → content_now a ≡ Some start → content_now b ≡ Some middle → (s : ℕ) (x : List ℕ) → IsOfTagRun (at + done * size / 512) (part * size) middle s x → IsOfTagRun at (count * size) start s x
tag_run_next a b at done part count size whole fits stays start middle told told_middle s x of =
    let le = order size (done + part) count fits in
    let sum : (done + part) * size ≡ done * size + part * size = omega arith in
    record {
      within = (omega (arith, of.within.0), omega (arith, of.within.1, whole, le, sum));
      rest = λ j low out.
          of.rest j low (λ own. out (record { begins = omega (arith, own.begins); ends = omega (arith, own.ends, whole, le, sum) }))
          ∙ stays start told middle told_middle s j low (λ own. out (record { begins = own.begins; ends = omega (arith, own.ends, le, sum) }));
    }

-- ---- an area

pub tags_written : (g : Geometry) (sectors first count at size : ℕ) → IsGeometry g sectors → IsAreaRun g first count → at ≡ (tag_at g first).sector → size ≡ g.shape.tag_size
    → (start : Content) (s : ℕ) (x : List ℕ) → IsOfTagRun at (count * size) start s x → IsOfBlocks g first count start s x
tags_written g sectors first count at size is run at_is size_is start s x of =
    let tag = g.shape.tag_size in
    let bytes : count * size ≡ count * tag = ap (λ (n : ℕ). count * n) size_is in
    let p = 512 * (s - (tag_at g first).sector) in
    let low : p < count * tag = omega (arith, of.within.0, of.within.1, at_is, bytes) in
    let n = p / tag in
    let low_n : n < count = div_below p tag count is.tag_size.0 low in
    let split : n * tag + p % tag ≡ p = div-add-mod' p tag in
    let place = tag_place g sectors first count n (p % tag) is run low_n in
    inr (record {
      block = first + n;
      is_block = record { begins = omega arith; ends = omega (arith, low_n) };
      i = p % tag;
      low = mod_below p tag is.tag_size.0;
      at = sym (place.0 ∙ ap (λ (m : ℕ). (tag_at g first).sector + m / 512) split ∙ omega (arith, of.within.0, at_is));
      rest = λ j low_j out. of.rest j low_j (λ own. out (tag_byte_of g sectors first count at size s j is run at_is size_is low_j own));
    })

pub data_written : (g : Geometry) (sectors first count at spb : ℕ) → IsGeometry g sectors → IsAreaRun g first count → at ≡ data_at g first → spb ≡ g.shape.spb
    → (start : Content) (s : ℕ) (x : List ℕ) → IsZeroWithin at (count * spb) s x → IsOfBlocks g first count start s x
data_written g sectors first count at spb is run at_is spb_is start s x of =
    let own = g.shape.spb in
    let all : count * spb ≡ count * own = ap (λ (n : ℕ). count * n) spb_is in
    let q = s - data_at g first in
    let low : q < count * own = omega (arith, of.0.0, of.0.1, at_is, all) in
    let n = q / own in
    let low_n : n < count = div_below q own count is.spb.0 low in
    let split : n * own + q % own ≡ q = div-add-mod' q own in
    let place = data_place g sectors first count n is run low_n in
    inl (record {
      block = first + n;
      is_block = record { begins = omega arith; ends = omega (arith, low_n) };
      k = q % own;
      low = mod_below q own is.spb.0;
      at = omega (arith, place, split, of.0.0, at_is);
      zeros = of.1;
    })

-- ---- all blocks

-- One more area.
pub blocks_next : (a b : List Content) (g : Geometry) (first count : ℕ) → first + count ≤ g.blocks → ReadsKeep (IsBlockByte g 0 first) a b
    → (start middle : Content) → content_now a ≡ Some start → content_now b ≡ Some middle → (s : ℕ) (x : List ℕ) → IsOfBlocks g first count middle s x → IsOfBlocks g 0 g.blocks start s x
blocks_next a b g first count fits stays start middle told told_middle s x of = elim of [
  | inl zeros ↦ inl (record { block = zeros.block; is_block = record { begins = omega arith; ends = omega (arith, zeros.is_block.ends, fits) }; k = zeros.k; low = zeros.low; at = zeros.at; zeros = zeros.zeros })
  | inr tags ↦ inr (record {
    block = tags.block;
    is_block = record { begins = omega arith; ends = omega (arith, tags.is_block.ends, fits) };
    i = tags.i;
    low = tags.low;
    at = tags.at;
    rest = λ j low out.
        tags.rest j low (λ own. out (block_byte_of g first count 0 g.blocks s j (omega arith) (omega (arith, fits)) own))
        ∙ stays start told middle told_middle s j low (λ own. out (block_byte_of g 0 first 0 g.blocks s j (omega arith) (omega (arith, fits)) own));
  })
]

-- What is written for the blocks after other sectors is the same by the content before those.
abbrev pub SameBehind : Geometry → (start middle : Content) → Type 0
SameBehind g start middle = (s j : ℕ) → initial g ≤ s → j < 512 → slice_index (last_image middle s) j ≡ slice_index (last_image start s) j

wipe_same : (wipe : Wipe) (g : Geometry) (sectors : ℕ) → IsGeometry g sectors → (start middle : Content) → SameBehind g start middle
    → (s : ℕ) (x : List ℕ) → IsOfWipe wipe g middle s x → IsOfWipe wipe g start s x
wipe_same Wiped g sectors is start middle same s x of = elim of [
  | inl zeros ↦ inl zeros
  | inr tags ↦
      let at = tag_byte-behind g sectors tags.block tags.i is (omega (arith, tags.is_block.ends)) in
      inr (record {
        block = tags.block;
        is_block = tags.is_block;
        i = tags.i;
        low = tags.low;
        at = tags.at;
        rest = λ j low out. tags.rest j low out ∙ same s j (omega (arith, at, tags.at)) low;
      })
]
wipe_same Kept g sectors is start middle same s x of = of
wipe_same Recalculated g sectors is start middle same s x of = of

format_same : (wipe : Wipe) (format : ImageFormat) (sectors : ℕ) → IsGeometry format.geometry sectors → (start middle : Content) → SameBehind format.geometry start middle
    → (s : ℕ) (x : List ℕ) → IsOfFormat wipe format middle s x → IsOfFormat wipe format start s x
format_same _ format sectors is start middle same s x (Zeros zeros) = Zeros zeros
format_same _ format sectors is start middle same s x (Fields first fields) = Fields first fields
format_same _ format sectors is start middle same s x (Journal within) = Journal within
format_same wipe format sectors is start middle same s x (Blocks blocks) = Blocks (wipe_same wipe format.geometry sectors is start middle same s x blocks)

-- ---- the image, for callers

pub head_written : {a b : List Content} (wipe : Wipe) (format : ImageFormat) → EachSince (OnlyAdds (IsZeroWithin 1 7)) a b → OnlyWrites (IsOfFormat wipe format) a b
head_written wipe format m = adds_told (IsOfFormat wipe format) (IsZeroWithin 1 7) (λ start told s x of. Zeros ((omega arith, omega (arith, of.0.1)), of.1)) m

pub journal_written : {a b c : List Content} (wipe : Wipe) (format : ImageFormat) → EachSince (OnlyAdds (IsZeroWithin 1 7)) a b
    → EachSince (ChangesOnly (IsWithin 8 (journal_sectors format.geometry))) b c → OnlyWrites (IsOfFormat wipe format) a c
journal_written wipe format first second =
    let within = λ (start : Content) (s : ℕ) (x : List ℕ). IsWithin 8 (journal_sectors format.geometry) s in
    writes_then (IsOfFormat wipe format) within (head_written wipe format first) (changes_write 8 (journal_sectors format.geometry) second)
    (λ start middle told told_middle s x of. Journal of)

pub fill_written : {a b c d : List Content} (wipe : Wipe) (format : ImageFormat) (sectors : ℕ) → IsGeometry format.geometry sectors
    → EachSince (ChangesOnly (IsWithin 1 7)) a b → EachSince (OnlyAdds (IsZeroWithin 1 7)) a b
    → EachSince (ChangesOnly (IsWithin 8 (journal_sectors format.geometry))) b c → OnlyWrites (IsOfWipe wipe format.geometry) c d → OnlyWrites (IsOfFormat wipe format) a d
fill_written {a} {b} {c} wipe format sectors is head zeros journal blocks =
    let g = format.geometry in
    let before = λ (s j : ℕ). s < initial g in
    let keeps = keep_then a b c before (FromStart a (ChangesOnly (IsWithin 1 7))) head
    (keep_changes a b (IsWithin 1 7) before (λ s j of. omega (arith, of.1)) head)
    (keep_changes b c (IsWithin 8 (journal_sectors g)) before (λ s j of. of.1) journal) in
    writes_then (IsOfFormat wipe format) (IsOfWipe wipe g) (journal_written wipe format zeros journal) blocks
    (λ start middle told told_middle s x of. Blocks (wipe_same wipe g sectors is start middle
    (λ n j high low. keeps start told middle told_middle n j low (λ below. omega (arith, high, below))) s x of))

pub forget_written : {a b : List Content} (wipe : Wipe) (format : ImageFormat) → EachSince (OnlyAdds (IsFirst zero_sector)) a b → OnlyWrites (IsOfFormat wipe format) a b
forget_written wipe format m = adds_told (IsOfFormat wipe format) (IsFirst zero_sector) (λ start told s x of. Zeros ((omega arith, omega (arith, of.0)), of.1)) m

pub filled_written : {a b c : List Content} (wipe : Wipe) (format : ImageFormat) (sectors : ℕ) → IsGeometry format.geometry sectors → EachSince (OnlyAdds (IsFirst zero_sector)) a b
    → content_now b ≡ option_map forgotten (content_now a) → OnlyWrites (IsOfFormat wipe format) b c → OnlyWrites (IsOfFormat wipe format) a c
filled_written wipe format sectors is first forgot second = writes_then (IsOfFormat wipe format) (IsOfFormat wipe format) (forget_written wipe format first) second
    (λ start middle told told_middle s x of.
    let from : middle ≡ forgotten start = sym (same_Some _ _ (sym (forgot ∙ ap (option_map forgotten) told) ∙ told_middle)) in
    format_same wipe format sectors is start middle
    (λ n j high low. ap (λ (c : Content). slice_index (last_image c n) j) from ∙ ap (λ (y : List ℕ). slice_index y j) (forgotten_other start n (λ none. omega (arith, high, none)))) s x of)

pub founded_written : {a b c : List Content} (wipe : Wipe) (format : ImageFormat) → OnlyWrites (IsOfFormat wipe format) a b → EachSince (OnlyAdds (IsFirst (head_of format.fields))) b c
    → OnlyWrites (IsOfFormat wipe format) a c
founded_written wipe format first second =
    let head = λ (start : Content). IsFirst (head_of format.fields) in
    writes_then (IsOfFormat wipe format) head first second (λ start middle told told_middle s x of. Fields of.0 of.1)

pub new_written : {a b : List Content} (sectors : ℕ) (new : NewImage) (format : ImageFormat) → provided_of new sectors ≡ Ok format.fields.provided → format ≡ format_with new format.fields.provided
    → OnlyWrites (IsOfFormat new.wipe format) a b → OnlyWritesNew sectors new a b
new_written sectors new format told is m = writes_wider (IsOfFormat new.wipe format) (IsOfNewImage sectors new)
    (λ start told_start s x of. record { provided = format.fields.provided; is_provided = told; written = subst (λ (f : ImageFormat). IsOfFormat new.wipe f start s x) is of }) m
