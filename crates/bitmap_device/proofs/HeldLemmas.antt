-- The regions of the requests in flight, one request after the other, and those of the requests of `device_model`.
use Rattle.std.proofs.Common.{◌≡◌, ℕ, zero, suc, ◌+◌, ◌<◌, ◌==◌, ◌&&◌, not, if◌then◌else◌, Bool, true, false, ◌||◌, List, [], ◌∷◌, length, set, take, drop, Some, None, option_map, slice_get, refl, sym, ◌∙◌, ap, arith}
use Rattle.std.specs.List.{list_any, range_with_len}
use Rattle.std.proofs.lemmas.List.{drop-set-lt, take_more_set}
use Rattle.std.proofs.lemmas.List.Folds.{list_any-append}
use Rattle.std.proofs.lemmas.Option.{none-some, same_Some}
use Rattle.std.proofs.Math.Bool.{or-false}
use Rattle.image_model.specs.Geometry.{Geometry, region_of}
use Rattle.device_model.specs.Mode.{DeviceFormat}
use Rattle.device_model.specs.Progress.{is_used}
use Rattle.device_model.specs.Request as Asks
use Rattle.request_slots.specs.declared.block_range.BlockRange.{BlockRange}
use Rattle.request_slots.specs.declared.slot.Slot.{Slot}
use Rattle.request_slots.specs.Flight.{Flight, count_in, first_in, range_of}
use Rattle.request_slots.specs.InFlight.{IsFlightOf, bytes_now, request_with, slot_for, slots_of}
use Rattle.bitmap_mode.specs.declared.spans.RegionSpan.{RegionSpan}
use Rattle.bitmap_mode.specs.Cleaning.{has_block_in, is_held, is_in_span}

-- The request has a block in the region,
abbrev pub has_in : Geometry → (region : ℕ) → Slot → Bool
has_in g region slot = has_block_in g (first_in slot.request) (count_in slot.request) region

-- or one of these has.
abbrev pub is_held_in : Geometry → List Slot → (region : ℕ) → Bool
is_held_in g slots region = list_any (has_in g region) slots

-- ---- span by span

-- The request at a place is one of so many, and with it one more is told.
pub record IsMore (g : Geometry) (slots : List Slot) (place : ℕ) (range : BlockRange) : Type 0 where
  pub low : place < length slots
  pub told : (region : ℕ) → is_held_in g (take (suc place) slots) region ≡ (is_held_in g (take place slots) region || has_block_in g range.first range.count region)

pub held_more : (g : Geometry) (slots : List Slot) (place : ℕ) (range : BlockRange) → option_map range_of (slice_get slots place) ≡ Some range → IsMore g slots place range
held_more g [] place range e = absurd (none-some range e)
held_more g (x ∷ slots) zero range e = record {
  low = omega arith;
  told = λ region. or-false _ ∙ ap (λ (r : BlockRange). has_block_in g r.first r.count region) (same_Some (range_of x) range e);
}
held_more g (x ∷ slots) (suc place) range e =
    let rest = held_more g slots place range e in
    let low = rest.low in
    record {
      low = omega (arith, low);
      told = λ region. ap (λ (t : Bool). has_in g region x || t) (rest.told region) ∙ or_more (has_in g region x) _ _;
    }
  where
    or_more : (a b c : Bool) → (a || (b || c)) ≡ ((a || b) || c)
    or_more true b c = refl
    or_more false b c = refl

-- Where none is at a place, all are before it.
pub held_all : (slots : List Slot) (place : ℕ) → option_map range_of (slice_get slots place) ≡ None → take place slots ≡ slots
held_all [] zero e = refl
held_all [] (suc place) e = refl
held_all (x ∷ slots) zero e = absurd (none-some (range_of x) (sym e))
held_all (x ∷ slots) (suc place) e = ap (λ (xs : List Slot). x ∷ xs) (held_all slots place e)

-- The spans with one more.
pub spans_more : (spans : List RegionSpan) (place : ℕ) (span : RegionSpan) (region : ℕ) → place < length spans
    → is_held (take (place + 1) (set spans place span)) region ≡ (is_held (take place spans) region || is_in_span span region)
spans_more spans place span region low =
    ap (λ (xs : List RegionSpan). is_held xs region) (take_more_set spans place span low)
    ∙ list_any-append (λ s. is_in_span s region) (take place spans) (span ∷ [])
    ∙ ap (λ (t : Bool). is_held (take place spans) region || t) (or-false _)

-- Those behind it are none, as they were.
pub none_more : (spans : List RegionSpan) (place : ℕ) (span : RegionSpan) (region : ℕ) → is_held (drop place spans) region ≡ false
    → is_held (drop (place + 1) (set spans place span)) region ≡ false
none_more spans place span region none =
    ap (λ (xs : List RegionSpan). is_held xs region) (drop-set-lt (place + 1) spans place span (omega arith))
    ∙ ap (λ (n : ℕ). is_held (drop n spans) region) next ∙ fewer spans place none
  where
    next : place + 1 ≡ suc place
    next = omega arith

    rest : (a b : Bool) → (a || b) ≡ false → b ≡ false
    rest true b e = absurd cc
    rest false b e = e

    fewer : (xs : List RegionSpan) (n : ℕ) → is_held (drop n xs) region ≡ false → is_held (drop (suc n) xs) region ≡ false
    fewer [] zero e = refl
    fewer [] (suc n) e = refl
    fewer (x ∷ xs) zero e = rest (is_in_span x region) (is_held xs region) e
    fewer (x ∷ xs) (suc n) e = fewer xs n e

-- All of them.
pub spans_all : (spans : List RegionSpan) (place region : ℕ) → is_held (drop place spans) region ≡ false → is_held spans region ≡ is_held (take place spans) region
spans_all [] zero region none = refl
spans_all [] (suc place) region none = refl
spans_all (x ∷ spans) zero region none = none
spans_all (x ∷ spans) (suc place) region none = ap (λ (t : Bool). is_in_span x region || t) (spans_all spans place region none)

-- ---- the requests of a device

-- A request has a block in the region.
abbrev uses : (ℕ → ℕ) → (region : ℕ) → Asks.Request → Bool
uses region_of region request = list_any (λ b. region_of b == region) (range_with_len (Asks.first_of request) (Asks.count_of request))

-- Its slot has the same blocks.
slot_uses : (g : Geometry) (region : ℕ) (request : Asks.Request) (bytes : List ℕ)
    → has_block_in g (first_in (request_with request bytes)) (count_in (request_with request bytes)) region ≡ uses (region_of g) region request
slot_uses g region (Asks.Read first count) bytes = refl
slot_uses g region (Asks.Write first blocks fua) bytes = refl
slot_uses g region Asks.Flush bytes = refl

-- The slots of those that are neither taken nor dropped.
slots_use : (g : Geometry) (region t : ℕ) (requests : List Asks.Asked)
    → is_held_in g (slots_of t requests) region ≡ list_any (λ a. not (Asks.is_over a.state) && uses (region_of g) region a.request) requests
slots_use g region t [] = refl
slots_use g region t (a ∷ requests) = by (slots_use g region (suc t) requests) (Asks.is_over a.state)
  where
    by : is_held_in g (slots_of (suc t) requests) region ≡ list_any (λ x. not (Asks.is_over x.state) && uses (region_of g) region x.request) requests → (over : Bool) → is_held_in g (if over then slots_of (suc t) requests else slot_for t a ∷ slots_of (suc t) requests) region
        ≡ ((not over && uses (region_of g) region a.request) || list_any (λ x. not (Asks.is_over x.state) && uses (region_of g) region x.request) requests)
    by rest true = rest
    by rest false =
        ap (λ (x : Bool). x || is_held_in g (slots_of (suc t) requests) region) (slot_uses g region a.request (bytes_now a))
        ∙ ap (λ (x : Bool). uses (region_of g) region a.request || x) rest

-- ---- for callers

-- A region is held by those in flight that is used by the requests.
pub held_is_used : (f : DeviceFormat) (g : Geometry) (flight : Flight) (requests : List Asks.Asked) → IsFlightOf f flight requests → f.region_of ≡ region_of g
    → (region : ℕ) → is_held_in g flight.slots region ≡ is_used f requests region
held_is_used f g flight requests is same region =
    ap (λ (slots : List Slot). is_held_in g slots region) is.slots
    ∙ slots_use g region 1 requests
    ∙ ap (λ (of : ℕ → ℕ). list_any (λ a. not (Asks.is_over a.state) && uses of region a.request) requests) (sym same)
