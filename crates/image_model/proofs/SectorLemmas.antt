-- Lemmas on the words of specs/Sectors.antt.
use Rattle.std.proofs.Common.{◌≡◌, ℕ, zero, suc, ◌+◌, ◌-◌, ◌*◌, ◌/◌, ◌%◌, ◌^◌, ◌<◌, ◌≤◌, List, [], ◌∷◌, ◌++◌, length, take, drop, slice_index, refl, sym, ap, ◌∙◌, arith, length-append, length-take, length-drop}
use Rattle.std.proofs.lemmas.List.{append_assoc, get_or-drop, get_or_append_left, get_or-append-add, take-append-drop, take_at, drop_at, drop-drop, drop-take, get_or-take, take-take}
use Rattle.std.proofs.lemmas.Grind.{same_number_lists}
use Rattle.std.proofs.Math.Nat.{div-div-eq-div-mul, pow-suc, pow-succ'}
use Rattle.std.proofs.Math.Seq.{drop-cons, take-add}
use Rattle.std.specs.Int.{byte_at, bytes_low_first}
use Rattle.byteorder.specs.Numbers.{length-bytes_low_first, little_from-take, little_from-lt, little_number-reads_back}
use Rattle.disk_model.specs.Disk.{Image, sector_in}
use Rattle.image_model.specs.Sectors.{piece, number_in, bytes_of, bytes_at}

-- ---- pieces and numbers

-- A piece has its size where the bytes reach that far.
pub length-piece : (bytes : List ℕ) (from size : ℕ) → from + size ≤ length bytes → length (piece bytes from size) ≡ size
length-piece bytes from size h = omega (arith, length-take size (drop from bytes), length-drop from bytes)

pub length-bytes_of : (number size : ℕ) → length (bytes_of number size) ≡ size
length-bytes_of number size = length-bytes_low_first 0 size number

-- What is written for a number reads as the number.
pub number_in-bytes_of : (number size : ℕ) (rest : List ℕ) → number < 256 ^ size → number_in (bytes_of number size ++ rest) 0 size ≡ number
number_in-bytes_of number size rest h = little_number-reads_back size number rest h

-- A number of so many bytes is below its limit.
pub number_in-lt : (bytes : List ℕ) (from size : ℕ) → ((k : ℕ) → slice_index bytes k < 256) → number_in bytes from size < 256 ^ size
number_in-lt bytes from size h = little_from-lt from size bytes h

-- No byte past the number matters.
pub number_in-take : (bytes : List ℕ) (from size count : ℕ) → from + size ≤ count → number_in (take count bytes) from size ≡ number_in bytes from size
number_in-take bytes from size count h = little_from-take from size count bytes h

-- None before it does.
pub number_in-drop : (bytes : List ℕ) (from size at : ℕ) → number_in (drop at bytes) from size ≡ number_in bytes (at + from) size
number_in-drop bytes from zero at = refl
number_in-drop bytes from (suc size) at =
    let byte = get_or-drop at bytes from 0 in
    let rest = number_in-drop bytes (suc from) size at in
    let moved : at + suc from ≡ suc (at + from) = omega arith in
    rw (byte, rest, moved) refl

-- A number in a piece.
pub number_in-piece : (bytes : List ℕ) (from size at count : ℕ) → from + size ≤ count → number_in (piece bytes at count) from size ≡ number_in bytes (at + from) size
number_in-piece bytes from size at count h = number_in-take (drop at bytes) from size count h ∙ number_in-drop bytes from size at

-- A byte of a number is the one before it of the number without its lowest byte.
byte_at-suc : (i number : ℕ) → byte_at (suc i) number ≡ byte_at i (number / 256)
byte_at-suc zero number = refl
byte_at-suc (suc i) number =
    ap (λ n. n % 256)
    (ap (λ power. number / power) (pow-succ' 256 (suc i)) ∙ sym (div-div-eq-div-mul number 256 (256 ^ suc i)))

bytes_low_first-suc : (i count number : ℕ)
    → bytes_low_first (suc i) count number ≡ bytes_low_first i count (number / 256)
bytes_low_first-suc i zero number = refl
bytes_low_first-suc i (suc count) number = rw (byte_at-suc i number, bytes_low_first-suc (suc i) count number) refl

-- What is written for a number that was read is what it was read from.
pub bytes_of-number_in : (bytes : List ℕ) (from size : ℕ) → from + size ≤ length bytes
    → ((k : ℕ) → slice_index bytes k < 256)
    → bytes_of (number_in bytes from size) size ≡ piece bytes from size
bytes_of-number_in bytes from zero inside low = refl
bytes_of-number_in bytes from (suc size) inside low =
    let byte = low from in
    let rest = number_in bytes (suc from) size in
    let here : from < length bytes = omega arith in
    let lowest : (slice_index bytes from + 256 * rest) % 256 ≡ slice_index bytes from = omega arith in
    let others : (slice_index bytes from + 256 * rest) / 256 ≡ rest = omega arith in
    let split = drop-cons bytes from 0 here in
    let later = bytes_of-number_in bytes (suc from) size (omega arith) low in
    rw (bytes_low_first-suc 0 size (slice_index bytes from + 256 * rest), split, lowest, others, later) refl

-- A number in the first of two lists.
pub number_in-append_left : (xs ys : List ℕ) (from size : ℕ) → from + size ≤ length xs → number_in (xs ++ ys) from size ≡ number_in xs from size
number_in-append_left xs ys from zero h = refl
number_in-append_left xs ys from (suc size) h =
    let byte = get_or_append_left xs ys 0 from (omega arith) in
    let rest = number_in-append_left xs ys (suc from) size (omega arith) in
    rw (byte, rest) refl

-- A number in the second.
pub number_in-append_right : (xs ys : List ℕ) (from size : ℕ) → number_in (xs ++ ys) (length xs + from) size ≡ number_in ys from size
number_in-append_right xs ys from zero = refl
number_in-append_right xs ys from (suc size) =
    let byte = get_or-append-add xs ys from 0 in
    let rest = number_in-append_right xs ys (suc from) size in
    let moved : suc (length xs + from) ≡ length xs + suc from = omega arith in
    rw (byte, moved, rest) refl

-- Bytes that agree in two places have the same number there.
pub number_in-same : (xs ys : List ℕ) (from at size : ℕ) → ((i : ℕ) → i < size → slice_index xs (from + i) ≡ slice_index ys (at + i))
    → number_in xs from size ≡ number_in ys at size
number_in-same xs ys from at zero same = refl
number_in-same xs ys from at (suc size) same =
    let one : from + 0 ≡ from = omega arith in
    let other : at + 0 ≡ at = omega arith in
    let here : slice_index xs from ≡ slice_index ys at = rw (one, other) at (same 0 (omega arith)) in
    let later = number_in-same xs ys (suc from) (suc at) size (λ i low.
    let next : suc from + i ≡ from + suc i = omega arith in
    let next_other : suc at + i ≡ at + suc i = omega arith in
    rw (next, next_other) (same (suc i) (omega arith))) in
    rw (here, later) refl

-- A number is that in its lowest bytes, and that in the others above it.
pub number_in-add : (bytes : List ℕ) (from low high : ℕ) → number_in bytes from (low + high) ≡ number_in bytes from low + 256 ^ low * number_in bytes (from + low) high
number_in-add bytes from zero high =
    let all : 0 + high ≡ high = omega arith in
    let start : from + 0 ≡ from = omega arith in
    rw (all, start) (omega arith)
number_in-add bytes from (suc low) high =
    let more : suc low + high ≡ suc (low + high) = omega arith in
    let next : suc from + low ≡ from + suc low = omega arith in
    let rest = number_in-add bytes (suc from) low high in
    rw (more, rest, next, pow-suc 256 low) (omega arith)

-- Bytes that agree in two places have the same piece there.
pub piece-same : (xs ys : List ℕ) (from at size : ℕ) → from + size ≤ length xs → at + size ≤ length ys
    → ((i : ℕ) → i < size → slice_index xs (from + i) ≡ slice_index ys (at + i)) → piece xs from size ≡ piece ys at size
piece-same xs ys from at size fits fits_other same =
    let long = length-piece xs from size fits in
    let long_other = length-piece ys at size fits_other in
    same_number_lists (piece xs from size) (piece ys at size) (long ∙ sym long_other) (λ k inside.
    let low : k < size = omega arith in
    get_or-take size (drop from xs) k 0 low ∙ get_or-drop from xs k 0 ∙ same k low
    ∙ sym (get_or-take size (drop at ys) k 0 low ∙ get_or-drop at ys k 0))

-- A piece is its first bytes, and then the others.
pub piece-add : (bytes : List ℕ) (from first second : ℕ) → piece bytes from (first + second) ≡ piece bytes from first ++ piece bytes (from + first) second
piece-add bytes from first second =
    take-add first second (drop from bytes) ∙ ap (λ xs. piece bytes from first ++ take second xs) (drop-drop first from bytes ∙ ap (λ n. drop n bytes) (omega arith))

-- A piece of a piece is one of the whole.
pub piece-piece : (bytes : List ℕ) (from size at count : ℕ) → at + count ≤ size → piece (piece bytes from size) at count ≡ piece bytes (from + at) count
piece-piece bytes from size at count h =
    let split : size ≡ at + (size - at) = omega arith in
    let fits : count ≤ size - at = omega arith in
    ap (λ n. take count (drop at (take n (drop from bytes)))) split
    ∙ ap (take count) (drop-take at (size - at) (drop from bytes) ∙ ap (take (size - at)) (drop-drop at from bytes))
    ∙ take-take count (size - at) (drop (from + at) bytes) fits

-- ---- runs of sectors

-- Whole sectors give whole runs.
pub length-bytes_at : (image : Image) (at count : ℕ) → ((sector : ℕ) → at ≤ sector → sector < at + count → length (image sector) ≡ 512) → length (bytes_at image at count) ≡ 512 * count
length-bytes_at image at zero whole = refl
length-bytes_at image at (suc count) whole =
    let rest = length-bytes_at image (suc at) count (λ sector low high. whole sector (omega arith) (omega arith)) in
    omega (arith, whole at (omega arith) (omega arith), rest, length-append (image at) (bytes_at image (suc at) count))

-- A run is its first sectors, and then the others.
pub bytes_at-add : (image : Image) (at first second : ℕ) → bytes_at image at (first + second) ≡ bytes_at image at first ++ bytes_at image (at + first) second
bytes_at-add image at zero second = let e : at + 0 ≡ at = omega arith in let f : 0 + second ≡ second = omega arith in rw (e, f) refl
bytes_at-add image at (suc first) second =
    let e : suc first + second ≡ suc (first + second) = omega arith in
    let f : suc at + first ≡ at + suc first = omega arith in
    rw (e, bytes_at-add image (suc at) first second, f)
    (sym (append_assoc (image at) (bytes_at image (suc at) first) (bytes_at image (at + suc first) second)))

-- Images that agree on a run have the same bytes there.
pub bytes_at-same : (one other : Image) (at count : ℕ) → ((sector : ℕ) → at ≤ sector → sector < at + count → one sector ≡ other sector) → bytes_at one at count ≡ bytes_at other at count
bytes_at-same one other at zero same = refl
bytes_at-same one other at (suc count) same =
    let rest = bytes_at-same one other (suc at) count (λ sector low high. same sector (omega arith) (omega arith)) in
    let here = same at (omega arith) (omega arith) in
    rw (here, rest) refl

-- A sector of a run is the image's.
pub sector_in-bytes_at : (image : Image) (at count k : ℕ) → ((sector : ℕ) → at ≤ sector → sector < at + count → length (image sector) ≡ 512) → k < count → sector_in (bytes_at image at count) k ≡ image (at + k)
sector_in-bytes_at image at count k whole inside =
    let split : count ≡ k + suc (count - k - 1) = omega arith in
    let before = length-bytes_at image at k (λ sector low high. whole sector low (omega arith)) in
    let here = whole (at + k) (omega arith) (omega arith) in
    let later = bytes_at image (suc (at + k)) (count - k - 1) in
    ap (λ n. sector_in (bytes_at image at n) k) split
    ∙ ap (λ bytes. sector_in bytes k) (bytes_at-add image at k (suc (count - k - 1)))
    ∙ ap (take 512) (drop_at (bytes_at image at k) (image (at + k) ++ later) (512 * k) before)
    ∙ take_at (image (at + k)) later 512 here

no_bytes : (bytes : List ℕ) → length bytes ≡ 0 → bytes ≡ []
no_bytes [] h = refl
no_bytes (byte ∷ bytes) h = absurd (omega arith)

-- Bytes that have the image's sectors in order are those of the run.
pub bytes_at_read : (image : Image) (at count : ℕ) (bytes : List ℕ) → length bytes ≡ 512 * count → ((k : ℕ) → k < count → sector_in bytes k ≡ image (at + k)) → bytes ≡ bytes_at image at count
bytes_at_read image at zero bytes size reads = no_bytes bytes size
bytes_at_read image at (suc count) bytes size reads =
    let first : take 512 bytes ≡ image at = reads 0 (omega arith) ∙ ap image (omega arith) in
    let rest = bytes_at_read image (suc at) count (drop 512 bytes) (omega (arith, length-drop 512 bytes))
    (λ k inside. ap (take 512) (drop-drop (512 * k) 512 bytes ∙ ap (λ n. drop n bytes) (omega arith)) ∙ reads (suc k) (omega arith) ∙ ap image (omega arith)) in
    sym (take-append-drop 512 bytes) ∙ ap (λ xs. xs ++ drop 512 bytes) first ∙ ap (λ xs. image at ++ xs) rest
