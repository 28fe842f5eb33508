-- Runs of sectors that are copied in a buffer, and what the bytes beside a record have in each sector.
use Rattle.std.proofs.Common.{◌≡◌, inl, inr, ℕ, ◌+◌, ◌-◌, ◌*◌, ◌/◌, ◌<◌, ◌≤◌, List, [], ◌∷◌, ◌++◌, length, take, drop, sym, ◌∙◌, ap, subst, arith, drop_at, below_more, length-take}
use Rattle.std.proofs.lemmas.Bool.{cases_lt}
use Rattle.std.proofs.lemmas.List.{drop-take, take-append-le, take_all}
use Rattle.std.proofs.lemmas.Slice.{take-put_mid, drop-put_mid}
use borrow.Rule.Slice.PartMut.{put_mid}
use Rattle.disk_model.specs.Disk.{Content, Image, Reads, last_candidate, last_image, sector_in, with_run}
use Rattle.disk_model.proofs.DiskLemmas.{last_image-with_run, last_image-with_run_out}
use Rattle.disk_model.proofs.SectorLemmas.{sector_in-take, sector_in-drop, sector_in-put_below, sector_in-put_within, with_run-take}
use Rattle.sector_disk.specs.declared.record.Event.{Event}
use Rattle.sector_disk.specs.declared.record.Event.TheVariants.{Sync}
use Rattle.sector_disk.specs.Record.{content_after, content_of_bytes, sector_writes, IsLatest}
use Rattle.sector_disk.proofs.RecordLemmas.{content_after-push, content_after-writes}

-- ---- the sectors of a buffer, one part after the other

put_there : (xs ys : List ℕ) (k n : ℕ) → 512 * k ≤ length xs → length ys ≡ 512 → sector_in (put_mid (512 * k) n xs ys) k ≡ ys
put_there xs ys k n fits one =
    sym (drop-take (512 * k) 512 (put_mid (512 * k) n xs ys))
    ∙ ap (λ (l : List ℕ). drop (512 * k) l) (take-put_mid (512 * k) n xs ys (512 * k + 512) (omega (arith, one)) fits)
    ∙ drop_at (take (512 * k) xs) ys (512 * k) (omega (arith, length-take (512 * k) xs))

-- One sector more is as it is to be.
pub one_sector_more : (xs ys : List ℕ) (k n : ℕ) (wanted : Image) → 512 * k ≤ length xs → length ys ≡ 512 → ys ≡ wanted k → ((j : ℕ) → j < k → sector_in xs j ≡ wanted j)
    → (j : ℕ) → j < k + 1 → sector_in (put_mid (512 * k) n xs ys) j ≡ wanted j
one_sector_more xs ys k n wanted fits one is so_far = below_more _ _ (λ j below. sector_in-put_below xs ys k n j fits below ∙ so_far j below) (put_there xs ys k n fits one ∙ is)

-- ---- runs of sectors, copied at once

pub read_sectors : (latest buffer : List ℕ) (at size n : ℕ) → buffer ≡ take n (drop (512 * at) latest) → n ≡ size → size ≡ 512 * (size / 512) → (k : ℕ) → k < size / 512 → sector_in buffer k ≡ sector_in latest (at + k)
read_sectors latest buffer at size n copied same whole k below =
    ap (λ (l : List ℕ). sector_in l k) copied ∙ sector_in-take n (drop (512 * at) latest) k (omega (arith, same, whole, below)) ∙ sector_in-drop at k latest

module _ (latest bytes : List ℕ) (at n : ℕ) (whole : length bytes ≡ 512 * (length bytes / 512)) (inside : 512 * at + length bytes ≤ length latest) (size : n ≡ length bytes) where
  before : (s : ℕ) → s < at → sector_in (put_mid (512 * at) n latest bytes) s ≡ sector_in latest s
  before s low = sector_in-put_below latest bytes at n s (omega (arith, inside)) low

  behind : (s : ℕ) → at + length bytes / 512 ≤ s → sector_in (put_mid (512 * at) n latest bytes) s ≡ sector_in latest s
  behind s high = ap (take 512) (drop-put_mid (512 * at) n latest bytes (512 * s) (omega (arith, whole, size, high)) (omega (arith, inside)) (sym size))

  among : (k : ℕ) → k < length bytes / 512 → sector_in (put_mid (512 * at) n latest bytes) (at + k) ≡ sector_in bytes k
  among k below = sector_in-put_within latest bytes at n k (omega (arith, inside)) (omega (arith, whole, below))

  pub write_sectors : (c : Content) (s : ℕ) → sector_in latest s ≡ last_image c s → sector_in (put_mid (512 * at) n latest bytes) s ≡ last_image (with_run at bytes c) s
  write_sectors c s was = elim (cases_lt s at) [
    | inl low ↦ before s low ∙ was ∙ sym (last_image-with_run_out at bytes c s (λ begins ends. omega (arith, low, begins)))
    | inr begins ↦ elim (cases_lt s (at + length bytes / 512)) [
      | inl ends ↦
          let place : at + (s - at) ≡ s = omega (arith, begins) in
          ap (λ (k : ℕ). sector_in (put_mid (512 * at) n latest bytes) k) (sym place) ∙ among (s - at) (omega (arith, begins, ends)) ∙ sym (last_image-with_run at bytes c s begins ends)
      | inr high ↦ behind s high ∙ was ∙ sym (last_image-with_run_out at bytes c s (λ low ends. omega (arith, high, ends)))
    ]
  ]

-- ---- the bytes beside a record are its last candidates

-- They stay so with a write of the first sectors of some bytes.
pub IsLatest-writes : (sectors : ℕ) (old new base : List ℕ) (es fs : List Event) (at count : ℕ) (bytes : List ℕ) → IsLatest sectors old base es → fs ≡ es ++ sector_writes at bytes count → 512 * count ≤ length bytes
    → ((c : Content) (s : ℕ) → sector_in old s ≡ last_image c s → sector_in new s ≡ last_image (with_run at (take (512 * count) bytes) c) s) → IsLatest sectors new base fs
IsLatest-writes sectors old new base es fs at count bytes was e le copied s below =
    copied (content_after (content_of_bytes base) es) s (was s below)
    ∙ ap last_candidate (with_run-take at count bytes (content_after (content_of_bytes base) es) s le)
    ∙ sym (ap (λ (c : Content). last_image c s) (ap (content_after (content_of_bytes base)) e ∙ content_after-writes (content_of_bytes base) es at bytes count))

-- So they are where a vector's elements were written as a slice, which keeps its length.
pub IsLatest-refilled : (sectors : ℕ) (old new base : List ℕ) (es : List Event) (n : ℕ) → length new ≡ n → IsLatest sectors new base es → IsLatest sectors (take n (new ++ drop (length new) old)) base es
IsLatest-refilled sectors old new base es n size is =
    let same : take n (new ++ drop (length new) old) ≡ new = take-append-le n new (drop (length new) old) (omega (arith, size)) ∙ take_all n new (omega (arith, size)) in
    subst (λ (l : List ℕ). IsLatest sectors l base es) (sym same) is

-- They stay so with a sync.
pub IsLatest-sync : (sectors : ℕ) (latest base : List ℕ) (es fs : List Event) → IsLatest sectors latest base es → fs ≡ es ++ Sync ∷ [] → IsLatest sectors latest base fs
IsLatest-sync sectors latest base es fs was e s below =
    was s below ∙ sym (ap (λ (c : Content). last_image c s) (ap (content_after (content_of_bytes base)) e ∙ content_after-push (content_of_bytes base) es Sync))

-- So a run that is copied out of them is what a read gives.
pub Reads-latest : (sectors : ℕ) (latest base : List ℕ) (es : List Event) (at : ℕ) (buffer : List ℕ) → IsLatest sectors latest base es → at + length buffer / 512 ≤ sectors
    → ((k : ℕ) → k < length buffer / 512 → sector_in buffer k ≡ sector_in latest (at + k)) → Reads at buffer (content_after (content_of_bytes base) es)
Reads-latest sectors latest base es at buffer was inside copied k below = copied k below ∙ was (at + k) (omega (arith, inside, below))
