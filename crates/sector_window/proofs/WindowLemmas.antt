-- What a window shows of a disk.
use Rattle.std.proofs.Common.{◌≡◌, ℕ, ◌+◌, ◌-◌, ◌*◌, ◌/◌, ◌<◌, ◌≤◌, List, [], length, take, drop, sym, ap, subst, ◌∙◌, arith, length-take}
use Rattle.disk_model.specs.Disk.{Content, Reads, last_image}
use Rattle.disk_model.specs.Moments.{HasNow}
use Rattle.image_model.specs.Sectors.{piece, bytes_at}
use Rattle.image_model.proofs.SectorLemmas.{bytes_at_read, length-piece, piece-piece}
use Rattle.sector_window.specs.Room.{IsWindow}
use Rattle.sector_window.specs.Window.{HasRoom, Shows, ShowsDisk, Window}

-- Sectors that were read, from a later one on, are those of the image.
pub bytes_at-window : (first at count : ℕ) (bytes : List ℕ) (c : Content) → first ≤ at → 512 * (at + count) ≤ 512 * first + length bytes
    → Reads first bytes c → piece bytes (512 * (at - first)) (512 * count) ≡ bytes_at (last_image c) at count
bytes_at-window first at count bytes c begins ends reads =
    let from = 512 * (at - first) in
    bytes_at_read (last_image c) at count (piece bytes from (512 * count)) (length-piece bytes from (512 * count) (omega arith)) (λ k low.
    let fits : 512 * k + 512 ≤ 512 * count = omega arith in
    let moved : from + 512 * k ≡ 512 * (at - first + k) = omega arith in
    let place : first + (at - first + k) ≡ at + k = omega arith in
    let inside : at - first + k < length bytes / 512 = omega arith in
    piece-piece bytes from (512 * count) (512 * k) 512 fits
    ∙ ap (λ n. take 512 (drop n bytes)) moved
    ∙ reads (at - first + k) inside
    ∙ ap (last_image c) place)

-- No bytes are read of any disk.
pub Reads-none : (first : ℕ) (c : Content) → Reads first [] c
Reads-none first c k low = absurd (omega (arith, low))

-- A window that shows none shows any disk.
pub fresh_window : (sectors room : ℕ) (w : Window) (moments : List Content) → (let empty : Window = record { room = room; first = 0; bytes = [] } in w ≡ empty) → sectors ≤ room → HasRoom sectors w moments
fresh_window sectors room w moments is fits = subst (λ (x : Window). HasRoom sectors x moments) (sym is) (record {
  room = fits;
  window = record { reads = λ c told. Reads-none 0 c };
})

-- ---- in memory

-- A piece of the first bytes is one of all.
piece-take : (bytes : List ℕ) (from size count : ℕ) → from + size ≤ count → piece (take count bytes) from size ≡ piece bytes from size
piece-take bytes from size count fits = piece-piece bytes 0 count from size fits ∙ ap (λ n. piece bytes n size) (omega arith)

-- What is shown from a sector on, of a buffer, is what reads of the disk give.
pub run_shown : (room first held : ℕ) (buffer shown : List ℕ) (w : Window) (at count : ℕ) (moments : List Content) → IsWindow room first held buffer
    → (let view : Window = record { room = room; first = first; bytes = take (512 * held) buffer } in view ≡ w) → shown ≡ buffer
    → Shows w at count → ShowsDisk w moments
    → HasNow (λ c. take (512 * (at - first) + 512 * count - 512 * (at - first)) (drop (512 * (at - first)) shown) ≡ bytes_at (last_image c) at count) moments
run_shown room first held buffer shown w at count moments is view value shows told c now =
    let bytes = take (512 * held) buffer in
    let first_is : first ≡ w.first = ap (λ (x : Window). x.first) view in
    let bytes_is : bytes ≡ w.bytes = ap (λ (x : Window). x.bytes) view in
    let from = 512 * (at - first) in
    let begins : first ≤ at = omega (arith, shows.begins, first_is) in
    let ends : 512 * (at + count) ≤ 512 * first + length bytes = omega (arith, shows.ends, first_is, ap length bytes_is) in
    let reads : Reads first bytes c = subst (λ (n : ℕ). Reads n bytes c) (sym first_is) (subst (λ (xs : List ℕ). Reads w.first xs c) (sym bytes_is) (told.reads c now)) in
    let size : from + 512 * count - from ≡ 512 * count = omega arith in
    let inside : from + 512 * count ≤ 512 * held = omega (arith, ends, length-take (512 * held) buffer) in
    ap (λ xs. take (from + 512 * count - from) (drop from xs)) value
    ∙ ap (λ n. take n (drop from buffer)) size
    ∙ sym (piece-take buffer from (512 * count) (512 * held) inside)
    ∙ bytes_at-window first at count bytes c begins ends reads
