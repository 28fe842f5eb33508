-- Tags of blocks of zeros, one behind the other, in a buffer and on a disk.
use Rattle.std.proofs.Common.{◌≡◌, ◌⊎◌, inl, inr, ℕ, suc, ◌+◌, ◌-◌, ◌*◌, ◌/◌, ◌%◌, ◌<◌, ◌≤◌, List, ◌++◌, length, min, take, drop, drop_at, slice_index, sym, ◌∙◌, ap, subst, arith}
use Rattle.std.specs.Option.{option_map}
use Rattle.std.proofs.lemmas.Bool.{cases_lt}
use Rattle.std.proofs.Math.Nat.{mul-add-mod_self_right}
use Rattle.std.proofs.lemmas.List.{get_or-take, get_or-drop, get_or_append_left, length-take-le}
use Rattle.std.proofs.lemmas.Nat.{div-mul-add, mod-mul-add, div-add-mod', mod_below}
use borrow.Rule.Slice.PartMut.{put_mid, post_of}
use Rattle.disk_model.specs.Disk.{Content, Image, Reads, last_image, sector_in, with_run}
use Rattle.disk_model.specs.Moments.{content_now, EachMoment, FromStart, HasNow}
use Rattle.disk_model.proofs.DiskLemmas.{Reads-one, last_image-with_run}
use Rattle.hmac_tag.specs.TagMaker.{TagRule}
use Rattle.image_model.specs.Geometry.{quotient_up}
use Rattle.image_model.specs.Entries.{IsWithin}
use Rattle.place_model.proofs.TagsLemmas.{order}
use Rattle.formatting_model.specs.Blocks.{HasTagRun, HoldsTags, byte_of_tags, zero_tag}
use Rattle.formatting_model.specs.Runs.{ChangesOnly}
use Rattle.formatting_model.proofs.RunsLemmas.{AgreeBut, changed_now, keeps_now}

-- ---- in a buffer

-- So many tags, and one more.
pub next_tag_fits : (i count size : ℕ) → i < count → i * size + size ≤ count * size
next_tag_fits i count size low = let le = order size (suc i) count (omega (arith, low)) in omega (arith, le)

-- A byte of the next tag.
pub byte_of_tag : (rule : TagRule) (spb first i r : ℕ) → r < rule.size → byte_of_tags rule spb first (i * rule.size + r) ≡ slice_index (zero_tag rule spb (first + i)) r
byte_of_tag rule spb first i r low =
    ap (λ (n : ℕ). slice_index (zero_tag rule spb (first + n)) ((i * rule.size + r) % rule.size)) (div-mul-add i rule.size r low)
    ∙ ap (λ (n : ℕ). slice_index (zero_tag rule spb (first + i)) n) (mod-mul-add i rule.size r low)

pub HoldsTags-next : (rule : TagRule) (spb first i size : ℕ) (tag old new : List ℕ) → rule.size ≡ size → length tag ≡ size → tag ≡ zero_tag rule spb (first + i)
    → ((r : ℕ) → r < length tag → slice_index new (i * size + r) ≡ slice_index tag r) → ((p : ℕ) → (IsWithin (i * size) (length tag) p → ⊥) → slice_index new p ≡ slice_index old p)
    → HoldsTags rule spb first (i * size) old → HoldsTags rule spb first ((i + 1) * size) new
HoldsTags-next rule spb first i size tag old new is one tag_is put others so_far p low = elim (cases_lt p (i * size)) [
  | inl before ↦ others p (λ within. omega (arith, before, within.0)) ∙ so_far p before
  | inr from ↦
      let inside : p - i * size < size = omega (arith, from, low) in
      let there : i * size + (p - i * size) ≡ p = omega (arith, from) in
      ap (slice_index new) (sym there) ∙ put (p - i * size) (omega (arith, one, inside)) ∙ ap (λ (xs : List ℕ). slice_index xs (p - i * size)) tag_is
      ∙ sym (byte_of_tag rule spb first i (p - i * size) (omega (arith, is, inside)))
      ∙ ap (λ (n : ℕ). byte_of_tags rule spb first (i * n + (p - i * size))) is ∙ ap (byte_of_tags rule spb first) there
]

-- ---- on a disk

pub slice_index-sector_in : (bytes : List ℕ) (p : ℕ) → slice_index (sector_in bytes (p / 512)) (p % 512) ≡ slice_index bytes p
slice_index-sector_in bytes p =
    let split : 512 * (p / 512) + p % 512 ≡ p = omega arith in
    get_or-take 512 (drop (512 * (p / 512)) bytes) (p % 512) 0 (omega arith) ∙ get_or-drop (512 * (p / 512)) bytes (p % 512) 0 ∙ ap (slice_index bytes) split

pub tag_run_written : (a b : List Content) (rule : TagRule) (spb first count at size : ℕ) (bytes : List ℕ) → rule.size ≡ size → HoldsTags rule spb first (count * size) bytes → count * size ≤ 512 * (length bytes / 512)
    → content_now b ≡ option_map (with_run at bytes) (content_now a) → HasNow (λ c. HasTagRun rule spb first count at (last_image c)) b
tag_run_written a b rule spb first count at size bytes is holds fits written d told =
    let was = changed_now (with_run at bytes) (content_now a) (content_now b) written d told in
    let all : count * rule.size ≡ count * size = ap (λ (n : ℕ). count * n) is in
    record {
      each = λ p low.
          ap (λ (x : Content). slice_index (last_image x (at + p / 512)) (p % 512)) was.2
          ∙ ap (λ (x : List ℕ). slice_index x (p % 512)) (last_image-with_run at bytes was.0 (at + p / 512) (omega arith) (omega (arith, low, fits, all)))
          ∙ ap (λ (n : ℕ). slice_index (sector_in bytes n) (p % 512)) (let e : at + p / 512 - at ≡ p / 512 = omega arith in e)
          ∙ slice_index-sector_in bytes p
          ∙ holds p (omega (arith, low, all));
    }

-- One run behind another, whose sectors are whole.
-- The tags of `done` blocks take whole sectors.
pub whole_tags : (done size : ℕ) → done % 512 ≡ 0 → done * size ≡ 512 * (done * size / 512)
whole_tags done size whole =
    let split : done ≡ 512 * (done / 512) = omega (arith, whole) in
    let parts : done * size ≡ 512 * (done / 512 * size) = ap (λ (n : ℕ). n * size) split ∙ product (done / 512) size in
    omega (arith, parts)
  where
    product : (n k : ℕ) → 512 * n * k ≡ 512 * (n * k)
    product n k = omega arith

pub HasTagRun-both : (rule : TagRule) (spb first done part at : ℕ) (image : Image) → done * rule.size ≡ 512 * (done * rule.size / 512) → 1 ≤ rule.size
    → HasTagRun rule spb first done at image → HasTagRun rule spb (first + done) part (at + done * rule.size / 512) image → HasTagRun rule spb first (done + part) at image
HasTagRun-both rule spb first done part at image whole some one two = record {
  each = λ p low. elim (cases_lt p (done * rule.size)) [
    | inl before ↦ one.each p before
    | inr from ↦
        let rest : (done + part) * rule.size ≡ done * rule.size + part * rule.size = omega arith in
        let q = p - done * rule.size in
        let is : done * rule.size + q ≡ p = omega (arith, from) in
        let sector : at + done * rule.size / 512 + q / 512 ≡ at + p / 512 = omega (arith, whole, is) in
        let byte : q % 512 ≡ p % 512 = omega (arith, whole, is) in
        let quotient : done + q / rule.size ≡ p / rule.size = shift_div done q rule.size some ∙ ap (λ (n : ℕ). n / rule.size) is in
        let rest_is : q % rule.size ≡ p % rule.size = shift_mod done q rule.size ∙ ap (λ (n : ℕ). n % rule.size) is in
        ap (λ (n : ℕ). slice_index (image n) (p % 512)) (sym sector) ∙ ap (λ (n : ℕ). slice_index (image (at + done * rule.size / 512 + q / 512)) n) (sym byte)
        ∙ two.each q (omega (arith, low, from, rest))
        ∙ ap (λ (n : ℕ). slice_index (zero_tag rule spb n) (q % rule.size)) (let e : first + done + q / rule.size ≡ first + (done + q / rule.size) = omega arith in e ∙ ap (λ (n : ℕ). first + n) quotient)
        ∙ ap (λ (n : ℕ). slice_index (zero_tag rule spb (first + p / rule.size)) n) rest_is
  ];
}
  where
    shift_div : (done q size : ℕ) → 1 ≤ size → done + q / size ≡ (done * size + q) / size
    shift_div done q size low =
        let split : q / size * size + q % size ≡ q = div-add-mod' q size in
        let all : (done + q / size) * size + q % size ≡ done * size + q = omega (arith, split) in
        sym (ap (λ (n : ℕ). n / size) (sym all) ∙ div-mul-add (done + q / size) size (q % size) (mod_below q size low))

    shift_mod : (done q size : ℕ) → q % size ≡ (done * size + q) % size
    shift_mod done q size = sym (mul-add-mod_self_right done size q)

-- ---- what stands behind the tags

-- The last sector of a run was read over its own.
pub behind_is : (at size p : ℕ) (run buffer : List ℕ) (c : Content) → length run ≡ 512 * quotient_up size 512 → length buffer ≡ length run - 512 * (size / 512) → Reads (at + size / 512) buffer c → 512 * (size / 512) ≤ p → p < length run
    → slice_index (put_mid (512 * (size / 512)) (length run - 512 * (size / 512)) run buffer) p ≡ slice_index (last_image c (at + p / 512)) (p % 512)
behind_is at size p run buffer c long one read from low =
    let last = size / 512 in
    let sector : p / 512 ≡ last = omega (arith, long, from, low) in
    let there : 512 * last + p % 512 ≡ p = omega (arith, sector) in
    let whole : length buffer ≡ 512 = omega (arith, long, one, from, low) in
    let fits : 512 * last ≤ length run = omega (arith, from, low) in
    ap (slice_index (put_mid (512 * last) (length run - 512 * last) run buffer)) (sym there)
    ∙ sym (get_or-drop (512 * last) (put_mid (512 * last) (length run - 512 * last) run buffer) (p % 512) 0)
    ∙ ap (λ (xs : List ℕ). slice_index xs (p % 512)) (drop_at (take (512 * last) run) (buffer ++ post_of (512 * last) (length run - 512 * last) run) (512 * last) (length-take-le (512 * last) run fits))
    ∙ get_or_append_left buffer (post_of (512 * last) (length run - 512 * last) run) 0 (p % 512) (omega (arith, whole))
    ∙ ap (λ (xs : List ℕ). slice_index xs (p % 512)) (Reads-one (at + last) buffer c whole read)
    ∙ ap (λ (n : ℕ). slice_index (last_image c (at + n)) (p % 512)) (sym sector)

-- The sectors before it stay.
pub before_is : (size p : ℕ) (run buffer : List ℕ) → length run ≡ 512 * quotient_up size 512 → p < 512 * (size / 512)
    → slice_index (put_mid (512 * (size / 512)) (length run - 512 * (size / 512)) run buffer) p ≡ slice_index run p
before_is size p run buffer long low =
    let begin = 512 * (size / 512) in
    let held : length (take begin run) ≡ begin = length-take-le begin run (omega (arith, long)) in
    get_or_append_left (take begin run) (buffer ++ post_of begin (length run - begin) run) 0 p (omega (arith, held, low))
    ∙ get_or-take begin run p 0 low

-- ---- runs of tags in a row

-- Tags stay where sectors behind them change.
HasTagRun-stays : (rule : TagRule) (spb first done at n : ℕ) (one other : Image) → done * rule.size ≡ 512 * (done * rule.size / 512) → AgreeBut (IsWithin (at + done * rule.size / 512) n) one other
    → HasTagRun rule spb first done at one → HasTagRun rule spb first done at other
HasTagRun-stays rule spb first done at n one other whole same h = record {
  each = λ p low. ap (λ (x : List ℕ). slice_index x (p % 512)) (same (at + p / 512) (λ within. omega (arith, within.0, whole, low))) ∙ h.each p low;
}

-- One more run behind those so far.
pub tags_next : {a b : List Content} (rule : TagRule) (spb first done part at n size : ℕ) → rule.size ≡ size → 1 ≤ size → done * size ≡ 512 * (done * size / 512)
    → HasNow (λ c. HasTagRun rule spb first done at (last_image c)) a → EachMoment a b (FromStart a (ChangesOnly (IsWithin (at + done * size / 512) n)))
    → HasNow (λ c. HasTagRun rule spb (first + done) part (at + done * size / 512) (last_image c)) b → HasNow (λ c. HasTagRun rule spb first (done + part) at (last_image c)) b
tags_next {a} {b} rule spb first done part at n size is some whole so_far changes next d told =
    let own_whole = subst (λ (k : ℕ). done * k ≡ 512 * (done * k / 512)) (sym is) whole in
    let own_changes = subst (λ (k : ℕ). EachMoment a b (FromStart a (ChangesOnly (IsWithin (at + done * k / 512) n)))) (sym is) changes in
    HasTagRun-both rule spb first done part at (last_image d) own_whole (omega (arith, is, some))
    (keeps_now (IsWithin (at + done * rule.size / 512) n) (λ image. HasTagRun rule spb first done at image) (λ one other same h. HasTagRun-stays rule spb first done at n one other own_whole same h) so_far own_changes d told)
    (subst (λ (k : ℕ). HasTagRun rule spb (first + done) part (at + done * k / 512) (last_image d)) (sym is) (next d told))

-- A run and those before it lie in the sectors of all.
pub next_run_inside : (at done part count size : ℕ) → done * size ≡ 512 * (done * size / 512) → done + part ≤ count
    → at + done * size / 512 + quotient_up (part * size) 512 ≤ at + quotient_up (count * size) 512
next_run_inside at done part count size whole low =
    let le = order size (done + part) count low in
    let sum : (done + part) * size ≡ done * size + part * size = omega arith in
    omega (arith, whole, le, sum)

-- So many blocks at once have tags in whole sectors.
pub group_whole : (done size left part : ℕ) → done % 512 ≡ 0 → part ≡ min (512 * (512 / size)) left → ((done + part) % 512 ≡ 0) ⊎ (part ≡ left)
group_whole done size left part whole least = elim (cases_lt left (512 * (512 / size))) [
  | inl all ↦ inr (omega (arith, least, all))
  | inr many ↦ inl (let is : part ≡ 512 * (512 / size) = omega (arith, least, many) in omega (arith, whole, is))
]

pub group_fits : (part size left : ℕ) → part ≡ min (512 * (512 / size)) left → part * size ≤ 512 * (size * (512 / size))
group_fits part size left least =
    let le = order size part (512 * (512 / size)) (omega (arith, least)) in
    let turned : 512 * (512 / size) * size ≡ 512 * (size * (512 / size)) = omega arith in
    omega (arith, le, turned)

-- The sectors of so many bytes.
pub sectors_are : (size multiple sectors : ℕ) → size ≤ multiple → multiple < size + 512 → multiple % 512 ≡ 0 → size ≤ 512 * sectors → (multiple ≡ 512 * quotient_up size 512) × (multiple ≤ 512 * sectors)
sectors_are size multiple sectors low high whole fits = (omega (arith, low, high, whole), omega (arith, low, high, whole, fits))
