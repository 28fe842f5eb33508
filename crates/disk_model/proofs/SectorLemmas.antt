-- Runs of sectors in some bytes: parts of them, a part that was copied over them, and runs that are written one after the other.
use Rattle.std.proofs.Common.{◌≡◌, ◌⊎◌, inl, inr, ℕ, ◌+◌, ◌-◌, ◌*◌, ◌/◌, ◌<◌, ◌≤◌, List, [], ◌∷◌, ◌++◌, length, take, drop, sym, ◌∙◌, ap, subst, arith, drop_at, length-take, length-drop, Option, Some, None}
use Rattle.std.specs.Option.{option_map}
use Rattle.std.proofs.lemmas.Bool.{cases_lt}
use Rattle.std.proofs.lemmas.List.{drop-take, take-take, drop-drop, drop-append-le, take-append-le, length-take-le}
use Rattle.std.proofs.lemmas.Slice.{take-put_mid, take-put_mid_below}
use borrow.Rule.Slice.PartMut.{put_mid, post_of}
use Rattle.disk_model.specs.Disk.{Content, sector_in, with_sectors, with_run, AddsSome}
use Rattle.disk_model.specs.Moments.{EachMoment, FromStart}
use Rattle.disk_model.proofs.MomentsLemmas.{EachMoment-weaker, FromStart-weaker}
use Rattle.disk_model.proofs.DiskLemmas.{within_or_out, with_sectors-in, with_sectors-out}

-- ---- parts of some bytes

-- A sector of the first bytes is one of all.
pub sector_in-take : (n : ℕ) (xs : List ℕ) (k : ℕ) → 512 * k + 512 ≤ n → sector_in (take n xs) k ≡ sector_in xs k
sector_in-take n xs k fits =
    sym (drop-take (512 * k) 512 (take n xs))
    ∙ ap (λ (l : List ℕ). drop (512 * k) l) (take-take (512 * k + 512) n xs fits)
    ∙ drop-take (512 * k) 512 xs

-- A sector from sector `at` on is a sector of all.
pub sector_in-drop : (at k : ℕ) (xs : List ℕ) → sector_in (drop (512 * at) xs) k ≡ sector_in xs (at + k)
sector_in-drop at k xs =
    let place : 512 * at + 512 * k ≡ 512 * (at + k) = omega arith in
    ap (take 512) (drop-drop (512 * k) (512 * at) xs ∙ ap (λ (n : ℕ). drop n xs) place)

-- ---- a part that was copied over some bytes

-- The sectors before it are as they were.
pub sector_in-put_below : (xs ys : List ℕ) (k n j : ℕ) → 512 * k ≤ length xs → j < k → sector_in (put_mid (512 * k) n xs ys) j ≡ sector_in xs j
sector_in-put_below xs ys k n j fits below =
    sym (drop-take (512 * j) 512 (put_mid (512 * k) n xs ys))
    ∙ ap (λ (l : List ℕ). drop (512 * j) l) (take-put_mid_below (512 * k) n xs ys (512 * j + 512) (omega arith) fits)
    ∙ drop-take (512 * j) 512 xs

-- The sectors in it are its own.
pub sector_in-put_within : (xs ys : List ℕ) (k n j : ℕ) → 512 * k ≤ length xs → 512 * j + 512 ≤ length ys → sector_in (put_mid (512 * k) n xs ys) (k + j) ≡ sector_in ys j
sector_in-put_within xs ys k n j fits within =
    let rest = post_of (512 * k) n xs in
    sym (sector_in-drop k j (put_mid (512 * k) n xs ys))
    ∙ ap (λ (l : List ℕ). sector_in l j) (drop_at (take (512 * k) xs) (ys ++ rest) (512 * k) (length-take-le (512 * k) xs fits))
    ∙ ap (take 512) (drop-append-le (512 * j) ys rest (omega (arith, within)))
    ∙ take-append-le 512 (drop (512 * j) ys) rest (omega (arith, within, length-drop (512 * j) ys))

-- ---- runs that are written one after the other

-- The candidates are those of the first sectors of the bytes, where these are all.
pub with_run-take : (at count : ℕ) (bytes : List ℕ) (c : Content) (s : ℕ) → 512 * count ≤ length bytes → with_run at (take (512 * count) bytes) c s ≡ with_sectors count at bytes c s
with_run-take at count bytes c s le =
    let size : length (take (512 * count) bytes) / 512 ≡ count = omega (arith, length-take-le (512 * count) bytes le) in
    ap (λ (k : ℕ). with_sectors k at (take (512 * count) bytes) c s) size
    ∙ elim (within_or_out at count s) [
      | inl in_run ↦
          with_sectors-in count at (take (512 * count) bytes) c s in_run.0 in_run.1
          ∙ ap (λ (x : List ℕ). c s ++ x ∷ []) (sector_in-take (512 * count) bytes (s - at) (omega (arith, in_run.0, in_run.1)))
          ∙ sym (with_sectors-in count at bytes c s in_run.0 in_run.1)
      | inr out ↦ with_sectors-out count at (take (512 * count) bytes) c s out ∙ sym (with_sectors-out count at bytes c s out)
    ]

-- The next sectors of the bytes, after the first ones, are all up to there.
with_sectors-next : (at count more : ℕ) (bytes : List ℕ) (c : Content) (s : ℕ)
    → with_sectors more (at + count) (drop (512 * count) bytes) (with_sectors count at bytes c) s ≡ with_sectors (count + more) at bytes c s
with_sectors-next at count more bytes c s = elim (within_or_out at count s) [
  | inl first ↦
      with_sectors-out more (at + count) (drop (512 * count) bytes) (with_sectors count at bytes c) s (λ low high. omega (arith, first.1, low))
      ∙ with_sectors-in count at bytes c s first.0 first.1
      ∙ sym (with_sectors-in (count + more) at bytes c s first.0 (omega (arith, first.1)))
  | inr out ↦ elim (within_or_out (at + count) more s) [
    | inl then ↦
        let place : count + (s - (at + count)) ≡ s - at = omega (arith, then.0) in
        with_sectors-in more (at + count) (drop (512 * count) bytes) (with_sectors count at bytes c) s then.0 then.1
        ∙ ap (λ (xs : List (List ℕ)). xs ++ sector_in (drop (512 * count) bytes) (s - (at + count)) ∷ []) (with_sectors-out count at bytes c s out)
        ∙ ap (λ (x : List ℕ). c s ++ x ∷ []) (sector_in-drop count (s - (at + count)) bytes ∙ ap (sector_in bytes) place)
        ∙ sym (with_sectors-in (count + more) at bytes c s (omega (arith, then.0)) (omega (arith, then.1)))
    | inr behind ↦
        with_sectors-out more (at + count) (drop (512 * count) bytes) (with_sectors count at bytes c) s behind
        ∙ with_sectors-out count at bytes c s out
        ∙ sym (with_sectors-out (count + more) at bytes c s (λ low high. elim (cases_lt s (at + count)) [
          | inl before ↦ out low before
          | inr from ↦ behind from (omega (arith, high))
        ]))
  ]
]

-- The same of bytes: what a call writes from there on, and so many bytes are whole sectors.
pub written_next : (at from done n : ℕ) (bytes part : List ℕ) (start so_far now : Option Content) → done ≡ 512 * (done / 512) → n ≡ 512 * (n / 512) → done + n ≤ length bytes → from ≡ at + done / 512 → part ≡ take n (drop done bytes)
    → so_far ≡ option_map (with_sectors (done / 512) at bytes) start → now ≡ option_map (with_run from part) so_far → now ≡ option_map (with_sectors ((done + n) / 512) at bytes) start
written_next at from done n bytes part None so_far now whole whole_n within place is before e = e ∙ ap (option_map (with_run from part)) before
written_next at from done n bytes part (Some c) so_far now whole whole_n within place is before e =
    e ∙ ap (option_map (with_run from part)) before ∙ ap (λ (d : Content). Some d) (λ i s. same s i)
  where
    same : (s : ℕ) → with_run from part (with_sectors (done / 512) at bytes c) s ≡ with_sectors ((done + n) / 512) at bytes c s
    same s =
        let there : part ≡ take (512 * (n / 512)) (drop (512 * (done / 512)) bytes) = is ∙ ap (λ (k : ℕ). take k (drop done bytes)) whole_n ∙ ap (λ (k : ℕ). take (512 * (n / 512)) (drop k bytes)) whole in
        let all : done / 512 + n / 512 ≡ (done + n) / 512 = omega (arith, whole, whole_n) in
        ap (λ (p : List ℕ). with_run from p (with_sectors (done / 512) at bytes c) s) there
        ∙ ap (λ (k : ℕ). with_run k (take (512 * (n / 512)) (drop (512 * (done / 512)) bytes)) (with_sectors (done / 512) at bytes c) s) place
        ∙ with_run-take (at + done / 512) (n / 512) (drop (512 * (done / 512)) bytes) (with_sectors (done / 512) at bytes c) s (omega (arith, whole, whole_n, within, length-drop (512 * (done / 512)) bytes))
        ∙ with_sectors-next at (done / 512) (n / 512) bytes c s
        ∙ ap (λ (k : ℕ). with_sectors k at bytes c s) all

-- What any part of the rest adds to the first sectors, is what a part of all adds to the start.
pub AddsSome-next : (at from done : ℕ) (bytes rest : List ℕ) (start later : Content) → done ≡ 512 * (done / 512) → length bytes ≡ 512 * (length bytes / 512) → done ≤ length bytes → from ≡ at + done / 512 → rest ≡ drop done bytes
    → AddsSome from rest (with_sectors (done / 512) at bytes start) later → AddsSome at bytes start later
AddsSome-next at from done bytes rest start later whole all_whole within place is adds s = elim (adds s) [
  | inl same ↦ elim (within_or_out at (done / 512) s) [
    | inl first ↦ inr (same ∙ with_sectors-in (done / 512) at bytes start s first.0 first.1 ∙ sym (with_sectors-in (length bytes / 512) at bytes start s first.0 (omega (arith, first.1, within, whole))))
    | inr out ↦ inl (same ∙ with_sectors-out (done / 512) at bytes start s out)
  ]
  | inr written ↦
      let there : rest ≡ drop (512 * (done / 512)) bytes = is ∙ ap (λ (k : ℕ). drop k bytes) whole in
      let size : length rest / 512 ≡ length bytes / 512 - done / 512 = omega (arith, ap length is, length-drop done bytes, whole, all_whole, within) in
      let all : done / 512 + (length bytes / 512 - done / 512) ≡ length bytes / 512 = omega (arith, whole, all_whole, within) in
      inr (written
      ∙ ap (λ (k : ℕ). with_sectors k from rest (with_sectors (done / 512) at bytes start) s) size
      ∙ ap (λ (k : ℕ). with_sectors (length bytes / 512 - done / 512) k rest (with_sectors (done / 512) at bytes start) s) place
      ∙ ap (λ (r : List ℕ). with_sectors (length bytes / 512 - done / 512) (at + done / 512) r (with_sectors (done / 512) at bytes start) s) there
      ∙ with_sectors-next at (done / 512) (length bytes / 512 - done / 512) bytes start s
      ∙ ap (λ (k : ℕ). with_sectors k at bytes start s) all)
]

-- What a part of the first sectors adds, a part of all may add too.
pub AddsSome-take : (at count : ℕ) (bytes : List ℕ) (start later : Content) → 512 * count ≤ length bytes → AddsSome at (take (512 * count) bytes) start later → AddsSome at bytes start later
AddsSome-take at count bytes start later within adds s = elim (adds s) [
  | inl same ↦ inl same
  | inr written ↦ elim (within_or_out at count s) [
    | inl first ↦
        inr (written ∙ with_run-take at count bytes start s within ∙ with_sectors-in count at bytes start s first.0 first.1
        ∙ sym (with_sectors-in (length bytes / 512) at bytes start s first.0 (omega (arith, first.1, within))))
    | inr out ↦ inl (written ∙ with_run-take at count bytes start s within ∙ with_sectors-out count at bytes start s out)
  ]
]

-- The same at each moment, for a part of so many bytes.
pub part_adds : {a b : List Content} (at size : ℕ) (bytes part : List ℕ) → size ≡ 512 * (size / 512) → size ≤ length bytes → part ≡ take size bytes
    → EachMoment a b (FromStart a (AddsSome at part)) → EachMoment a b (FromStart a (AddsSome at bytes))
part_adds {a} at size bytes part whole within is each =
    EachMoment-weaker (FromStart-weaker a (AddsSome at part) (AddsSome at bytes)
    (λ start later told adds. AddsSome-take at (size / 512) bytes start later (omega (arith, whole, within))
    (subst (λ (p : List ℕ). AddsSome at p start later) (is ∙ ap (λ (k : ℕ). take k bytes) whole) adds))) each
