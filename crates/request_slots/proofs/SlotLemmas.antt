-- One slot that goes on: its ticket, what it asks for, and that it fits.
use Rattle.std.proofs.Common.{◌≡◌, ◌≢◌, ◌⊎◌, inl, inr, ℕ, suc, ◌+◌, ◌*◌, ◌^◌, ◌<◌, ◌≤◌, ◌==◌, Bool, true, false, if◌then◌else◌, List, length, drop, refl, sym, ◌∙◌, ap, subst, arith, length-append, length-take, length-drop}
use Rattle.std.proofs.Math.Nat.{mul-le-mul_right}
use Rattle.std.proofs.Math.Numerals.{lt_of_le_of_ne}
use Rattle.range_lock.specs.Asks.{ask_for}
use Rattle.std.proofs.lemmas.Bool.{cases_Bool, false≢true, eqb-false}
use Rattle.std.proofs.lemmas.List.{length-take-le}
use Rattle.std.proofs.lemmas.Nat.{mul-le}
use Rattle.request_slots.specs.Flight.{bytes_in, count_in, first_in, has_blocks, is_unfinished, is_open, ask_of, next_of, IsSlotOf, IsTurnWithin}
use Rattle.request_slots.specs.Serving.{next_bytes, with_piece, with_read_piece, with_block_counted, with_block_read, with_fault, with_finish}
use Rattle.request_slots.specs.declared.request.Request.{Request}
use Rattle.request_slots.specs.declared.request.Request.TheVariants.{Read, Write, Flush}
use Rattle.request_slots.specs.declared.slot.Outcome.TheVariants.{Finished}
use Rattle.request_slots.specs.declared.slot.Slot.{Slot}

length-with_piece : (from : ℕ) (piece bytes : List ℕ) → from + length piece ≤ length bytes → length (with_piece from piece bytes) ≡ length bytes
length-with_piece from piece bytes fits = simp (length-append, length-take, length-drop) (omega (arith, fits))

-- ---- sums that fit a word

module _ (blocks size submitted : ℕ) (x : Slot) (fits : IsSlotOf blocks size submitted x) (few : blocks ≤ 2 ^ 48) where
  pub block-low : first_in x.request + x.served ≤ 2 ^ 48
  block-low =
      let counted : x.served ≤ count_in x.request = fits.counted in
      let there : first_in x.request + count_in x.request ≤ blocks = fits.there in
      omega (arith, counted, there, few)

  pub served-low : x.served ≤ 2 ^ 48
  served-low = let low = block-low in omega (arith, low)

  pub from-low : size ≤ 4096 → x.served * size + size ≤ 2 ^ 60 + 4096
  from-low small =
      let product : x.served * size ≤ 2 ^ 48 * 4096 = mul-le x.served size (2 ^ 48) 4096 served-low small in
      omega (arith, product, small)

-- ---- the next block fits

module _ (blocks size submitted : ℕ) (x : Slot) (fits : IsSlotOf blocks size submitted x) (has : has_blocks x.request ≡ true)
    (still : is_unfinished x ≡ true) where
  pub room-next : x.served * size + size ≤ length (bytes_in x.request)
  room-next =
      let under : x.served < count_in x.request = fits.left has still in
      let product : (x.served + 1) * size ≤ count_in x.request * size = mul-le-mul_right size (omega (arith, under)) in
      let whole : length (bytes_in x.request) ≡ count_in x.request * size = fits.bytes in
      omega (arith, product, whole)

  pub IsSlotOf-counted : IsSlotOf blocks size submitted (with_block_counted x)
  IsSlotOf-counted = record {
    given = fits.given;
    there = fits.there;
    bytes = fits.bytes;
    counted = fits.left has still;
    left = λ _ unfinished. more unfinished (cases_Bool (suc x.served == count_in x.request));
  }
    where
      more : is_unfinished (with_block_counted x) ≡ true → (suc x.served == count_in x.request ≡ true) ⊎ (suc x.served == count_in x.request ≡ false)
          → suc x.served < count_in x.request
      more unfinished (inl last) = absurd (false≢true (ap is_open (sym (ap (λ (b : Bool). if b then Finished else x.outcome) last)) ∙ unfinished))
      more unfinished (inr not_last) =
          let under : x.served < count_in x.request = fits.left has still in
          let other : suc x.served ≢ count_in x.request = eqb-false (suc x.served) (count_in x.request) not_last in
          lt_of_le_of_ne under other

-- ---- what stays

first-read_piece : (from : ℕ) (piece : List ℕ) (r : Request) → first_in (with_read_piece from piece r) ≡ first_in r
first-read_piece from piece (Read first count buffer) = refl
first-read_piece from piece (Write first count bytes fua) = refl
first-read_piece from piece Flush = refl

pub count-read_piece : (from : ℕ) (piece : List ℕ) (r : Request) → count_in (with_read_piece from piece r) ≡ count_in r
count-read_piece from piece (Read first count buffer) = refl
count-read_piece from piece (Write first count bytes fua) = refl
count-read_piece from piece Flush = refl

blocks-read_piece : (from : ℕ) (piece : List ℕ) (r : Request) → has_blocks (with_read_piece from piece r) ≡ has_blocks r
blocks-read_piece from piece (Read first count buffer) = refl
blocks-read_piece from piece (Write first count bytes fua) = refl
blocks-read_piece from piece Flush = refl

length-read_piece : (from : ℕ) (piece : List ℕ) (r : Request) → from + length piece ≤ length (bytes_in r)
    → length (bytes_in (with_read_piece from piece r)) ≡ length (bytes_in r)
length-read_piece from piece (Read first count buffer) fits = length-with_piece from piece buffer fits
length-read_piece from piece (Write first count bytes fua) fits = refl
length-read_piece from piece Flush fits = refl

-- a read with more of its bytes fits
IsSlotOf-piece : (blocks size submitted from : ℕ) (piece : List ℕ) (x : Slot) → from + length piece ≤ length (bytes_in x.request)
    → IsSlotOf blocks size submitted x → IsSlotOf blocks size submitted (record x { request = with_read_piece from piece x.request })
IsSlotOf-piece blocks size submitted from piece x room fits =
    let first = first-read_piece from piece x.request in
    let count = count-read_piece from piece x.request in
    record {
      given = fits.given;
      there = subst (λ (n : ℕ). n ≤ blocks) (sym (ap (λ (n : ℕ). n + count_in (with_read_piece from piece x.request)) first ∙ ap (λ (n : ℕ). first_in x.request + n) count)) fits.there;
      bytes = length-read_piece from piece x.request room ∙ fits.bytes ∙ ap (λ (n : ℕ). n * size) (sym count);
      counted = subst (λ (n : ℕ). x.served ≤ n) (sym count) fits.counted;
      left = λ has unfinished. subst (λ (n : ℕ). x.served < n) (sym count) (fits.left (sym (blocks-read_piece from piece x.request) ∙ has) unfinished);
    }

pub IsSlotOf-read : (blocks size submitted : ℕ) (piece : List ℕ) (x : Slot) → IsSlotOf blocks size submitted x → has_blocks x.request ≡ true
    → is_unfinished x ≡ true → length piece ≡ size → IsSlotOf blocks size submitted (with_block_read size piece x)
IsSlotOf-read blocks size submitted piece x fits has still whole =
    let room : x.served * size + length piece ≤ length (bytes_in x.request) =
    subst (λ (n : ℕ). x.served * size + n ≤ length (bytes_in x.request)) (sym whole) (room-next blocks size submitted x fits has still) in
    let with_bytes : Slot = record x { request = with_read_piece (x.served * size) piece x.request } in
    IsSlotOf-counted blocks size submitted with_bytes (IsSlotOf-piece blocks size submitted (x.served * size) piece x room fits)
    (blocks-read_piece (x.served * size) piece x.request ∙ has) still

pub IsSlotOf-fault : (blocks size submitted block : ℕ) (stored computed : List ℕ) (x : Slot) → IsSlotOf blocks size submitted x
    → has_blocks x.request ≡ true → is_unfinished x ≡ true → IsSlotOf blocks size submitted (with_fault block stored computed x)
IsSlotOf-fault blocks size submitted block stored computed x fits has still = record {
  given = fits.given;
  there = fits.there;
  bytes = fits.bytes;
  counted = fits.left has still;
  left = λ _ unfinished. absurd (false≢true unfinished);
}

pub IsSlotOf-finish : (blocks size submitted : ℕ) (x : Slot) → IsSlotOf blocks size submitted x → IsSlotOf blocks size submitted (with_finish x)
IsSlotOf-finish blocks size submitted x fits = record {
  given = fits.given;
  there = fits.there;
  bytes = fits.bytes;
  counted = fits.counted;
  left = λ _ unfinished. absurd (false≢true unfinished);
}

pub ask_of-read : (size : ℕ) (piece : List ℕ) (x : Slot) → ask_of (with_block_read size piece x) ≡ ask_of x
ask_of-read size piece x =
    ap (λ (n : ℕ). ask_for x.ticket n (count_in (with_read_piece (x.served * size) piece x.request))) (first-read_piece (x.served * size) piece x.request)
    ∙ ap (λ (n : ℕ). ask_for x.ticket (first_in x.request) n) (count-read_piece (x.served * size) piece x.request)

-- ---- what is done next

-- the bytes of the next block are as many as a block has
pub whole-next : (size : ℕ) (x : Slot) → x.served * size + size ≤ length (bytes_in x.request) → length (next_bytes size x) ≡ size
whole-next size x room =
    length-take-le size (drop (x.served * size) (bytes_in x.request))
    (subst (λ (n : ℕ). size ≤ n) (sym (length-drop (x.served * size) (bytes_in x.request))) (omega (arith, room)))

-- its next block is one of so many
pub next-within : (blocks size submitted : ℕ) (x : Slot) → IsSlotOf blocks size submitted x → is_unfinished x ≡ true
    → (r : Request) → x.request ≡ r → IsTurnWithin blocks (next_of x r)
next-within blocks size submitted x fits still (Read first count buffer) is =
    let under : x.served < count_in x.request = fits.left (ap has_blocks is) still in
    let there : first_in x.request + count_in x.request ≤ blocks = fits.there in
    let first_is : first_in x.request ≡ first = ap first_in is in
    omega (arith, under, there, first_is)
next-within blocks size submitted x fits still (Write first count bytes fua) is =
    let under : x.served < count_in x.request = fits.left (ap has_blocks is) still in
    let there : first_in x.request + count_in x.request ≤ blocks = fits.there in
    let first_is : first_in x.request ≡ first = ap first_in is in
    omega (arith, under, there, first_is)
next-within blocks size submitted x fits still Flush is = tt
