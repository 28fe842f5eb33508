-- Which bytes stay in calls one after the other.
use Rattle.std.proofs.Common.{◌≡◌, inl, inr, ⊎_elim, ℕ, ◌+◌, ◌-◌, ◌*◌, ◌/◌, ◌%◌, ◌<◌, ◌≤◌, List, length, slice_index, sym, ◌∙◌, ap, arith, Some}
use Rattle.std.specs.Option.{option_map}
use Rattle.std.proofs.lemmas.Bool.{cases_lt}
use Rattle.std.proofs.lemmas.Option.{same_Some}
use Rattle.std.proofs.lemmas.Nat.{div-add-mod', div_below, mod_below}
use Rattle.disk_model.specs.Disk.{Content, last_candidate, last_image, sector_in, with_run}
use Rattle.disk_model.specs.Moments.{content_now, EachMoment, FromStart, HasNow}
use Rattle.disk_model.proofs.DiskLemmas.{last_image-with_run, last_image-with_run_out, within_or_out}
use Rattle.image_model.specs.Geometry.{Geometry, IsGeometry, data_at, tag_at}
use Rattle.image_model.specs.Entries.{IsWithin}
use Rattle.formatting_model.specs.Blocks.{IsAreaRun}
use Rattle.formatting_model.specs.Runs.{ChangesOnly}
use Rattle.formatting_model.specs.Stays.{IsBlockByte, IsRunByte, ReadsKeep}
use Rattle.formatting_model.proofs.RunsLemmas.{changed_now, since_end, told_later}
use Rattle.formatting_model.proofs.TaggingLemmas.{slice_index-sector_in}
use Rattle.formatting_model.proofs.WipingLemmas.{data_place, tag_place}

pub keep_none : (B : ℕ → ℕ → Type 0) (a : List Content) → ReadsKeep B a a
keep_none B a start told content told_content s j low out =
    ap (λ (x : Content). slice_index (last_image x s) j) (same_Some _ _ (sym told_content ∙ told))

pub keep_wider : (a b : List Content) (B V : ℕ → ℕ → Type 0) → ((s j : ℕ) → j < 512 → B s j → V s j) → ReadsKeep B a b → ReadsKeep V a b
keep_wider a b B V f keep start told content told_content s j low out = keep start told content told_content s j low (λ of. out (f s j low of))

pub keep_then : (a b c : List Content) (B : ℕ → ℕ → Type 0) (P : Content → Type 0) → EachMoment a b P → ReadsKeep B a b → ReadsKeep B b c → ReadsKeep B a c
keep_then a b c B P moments first second start told content told_content s j low out =
    let middle = told_later P moments start told in
    second middle.0 middle.1 content told_content s j low out ∙ first start told middle.0 middle.1 s j low out

-- Sectors that are not changed keep their bytes.
pub keep_changes : (a b : List Content) (S : ℕ → Type 0) (B : ℕ → ℕ → Type 0) → ((s j : ℕ) → S s → B s j) → EachMoment a b (FromStart a (ChangesOnly S)) → ReadsKeep B a b
keep_changes a b S B f moments start told content told_content s j low out =
    let end = since_end (ChangesOnly S) moments content told_content in
    let from : end.0 ≡ start = same_Some _ _ (sym end.1 ∙ told) in
    ⊎_elim (λ e. ap (λ (x : Content). slice_index (last_image x s) j) (e ∙ from))
    (λ h. ap (λ (x : List (List ℕ)). slice_index (last_candidate x) j) (h.others s (λ of. out (f s j of))) ∙ ap (λ (x : Content). slice_index (last_image x s) j) from) end.2

-- What stands behind some bytes in their last sector is in the run as it was,
pub behind_byte : (a : List Content) (at size : ℕ) (bytes : List ℕ) → ((p : ℕ) → size ≤ p → p < length bytes → HasNow (λ c. slice_index bytes p ≡ slice_index (last_image c (at + p / 512)) (p % 512)) a)
    → length bytes ≡ 512 * (length bytes / 512) → (start : Content) → content_now a ≡ Some start → (s j : ℕ) → IsWithin at (length bytes / 512) s → j < 512 → (IsRunByte at size s j → ⊥)
    → slice_index (sector_in bytes (s - at)) j ≡ slice_index (last_image start s) j
behind_byte a at size bytes behind whole start told s j within low out =
    let p = 512 * (s - at) + j in
    let sector : p / 512 ≡ s - at = omega (arith, low) in
    let byte : p % 512 ≡ j = omega (arith, low) in
    let there : at + p / 512 ≡ s = omega (arith, sector, within.0) in
    let high : size ≤ p = elim (cases_lt p size) [ inl less ↦ absurd (out (record { begins = omega (arith, within.0); ends = omega (arith, less, within.0) })) | inr more ↦ more ] in
    ap (λ (n : ℕ). slice_index (sector_in bytes n) j) (sym sector) ∙ ap (slice_index (sector_in bytes (p / 512))) (sym byte)
    ∙ slice_index-sector_in bytes p
    ∙ behind p high (omega (arith, within.0, within.1, whole, low)) start told
    ∙ ap (λ (n : ℕ). slice_index (last_image start n) (p % 512)) there ∙ ap (slice_index (last_image start s)) byte

-- and is written again so.
pub behind_keeps : (a b : List Content) (at size : ℕ) (bytes : List ℕ) → ((p : ℕ) → size ≤ p → p < length bytes → HasNow (λ c. slice_index bytes p ≡ slice_index (last_image c (at + p / 512)) (p % 512)) a)
    → length bytes ≡ 512 * (length bytes / 512) → content_now b ≡ option_map (with_run at bytes) (content_now a) → ReadsKeep (IsRunByte at size) a b
behind_keeps a b at size bytes behind whole written start told content told_content s j low out =
    let was = changed_now (with_run at bytes) (content_now a) (content_now b) written content told_content in
    let from : was.0 ≡ start = same_Some _ _ (sym was.1 ∙ told) in
    ap (λ (x : Content). slice_index (last_image x s) j) (was.2 ∙ ap (with_run at bytes) from)
    ∙ elim (within_or_out at (length bytes / 512) s) [
      | inl within ↦
          ap (λ (x : List ℕ). slice_index x j) (last_image-with_run at bytes start s within.0 within.1)
          ∙ behind_byte a at size bytes behind whole start told s j within low out
      | inr behind_run ↦ ap (λ (x : List ℕ). slice_index x j) (last_image-with_run_out at bytes start s behind_run)
    ]

-- ---- the bytes of blocks

-- The bytes of their tags,
pub tag_byte_of : (g : Geometry) (sectors first count at size s j : ℕ) → IsGeometry g sectors → IsAreaRun g first count → at ≡ (tag_at g first).sector → size ≡ g.shape.tag_size → j < 512
    → IsRunByte at (count * size) s j → IsBlockByte g first count s j
tag_byte_of g sectors first count at size s j is run at_is size_is low of =
    let tag = g.shape.tag_size in
    let bytes : count * size ≡ count * tag = ap (λ (n : ℕ). count * n) size_is in
    let p = 512 * s + j - 512 * (tag_at g first).sector in
    let low_p : p < count * tag = omega (arith, of.begins, of.ends, at_is, bytes) in
    let n = p / tag in
    let low_n : n < count = div_below p tag count is.tag_size.0 low_p in
    let split : n * tag + p % tag ≡ p = div-add-mod' p tag in
    let place = tag_place g sectors first count n (p % tag) is run low_n in
    record {
      block = first + n;
      is_block = record { begins = omega arith; ends = omega (arith, low_n) };
      at = inr (
        p % tag,
        mod_below p tag is.tag_size.0,
        sym (place.0 ∙ ap (λ (m : ℕ). (tag_at g first).sector + m / 512) split ∙ omega (arith, of.begins, at_is, low)),
        sym (place.1 ∙ ap (λ (m : ℕ). m % 512) split ∙ omega (arith, of.begins, at_is, low)),
      );
    }

-- and those of their data.
pub data_byte_of : (g : Geometry) (sectors first count at spb s j : ℕ) → IsGeometry g sectors → IsAreaRun g first count → at ≡ data_at g first → spb ≡ g.shape.spb → IsWithin at (count * spb) s → IsBlockByte g first count s j
data_byte_of g sectors first count at spb s j is run at_is spb_is within =
    let own = g.shape.spb in
    let all : count * spb ≡ count * own = ap (λ (n : ℕ). count * n) spb_is in
    let x = s - data_at g first in
    let low : x < count * own = omega (arith, within.0, within.1, at_is, all) in
    let n = x / own in
    let low_n : n < count = div_below x own count is.spb.0 low in
    let split : n * own + x % own ≡ x = div-add-mod' x own in
    let place = data_place g sectors first count n is run low_n in
    record {
      block = first + n;
      is_block = record { begins = omega arith; ends = omega (arith, low_n) };
      at = inl (x % own, mod_below x own is.spb.0, omega (arith, place, split, within.0, at_is));
    }

-- Those of some blocks are of more.
pub block_byte_of : (g : Geometry) (first count low high s j : ℕ) → low ≤ first → first + count ≤ low + high → IsBlockByte g first count s j → IsBlockByte g low high s j
block_byte_of g first count low high s j begins ends of = record {
  block = of.block;
  is_block = record { begins = omega (arith, begins, of.is_block.begins); ends = omega (arith, ends, of.is_block.ends) };
  at = of.at;
}
