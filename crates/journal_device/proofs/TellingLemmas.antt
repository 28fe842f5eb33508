-- A serve keeps its request, and steps leave room, whatever the disk tells.
use Rattle.std.proofs.Common.{◌≡◌, ◌≢◌, inl, inr, ℕ, suc, ◌+◌, ◌-◌, ◌*◌, ◌<◌, ◌≤◌, ◌==◌, ltb, leb, Bool, true, false, if◌then◌else◌, List, [], ◌∷◌, length, find, Option, Some, None, IfSome, refl, sym, ◌∙◌, ap, subst, arith, length-append, length-take, length-drop}
use Rattle.std.specs.Str.{bytes_eq}
use Rattle.std.proofs.lemmas.Bool.{cases_Bool, false≢true, le-leb, lt-ltb, or_right}
use Rattle.disk_model.specs.Disk.{Content}
use Rattle.image_model.specs.Section.{Entry}
use Rattle.journal_model.specs.Ring.{JournalRing, entries_of, has_open_section, has_room, unplaced_from, with_settle}
use Rattle.journal_ring.specs.RoomLaws.{HasBounds}
use Rattle.journal_ring.specs.declared.ring.Moved.{Moved}
use Rattle.journal_ring.specs.declared.ring.Moved.TheVariants.{Did, Idle}
use Rattle.tag_store.specs.Store.{Store}
use Rattle.request_slots.specs.Flight.{FitsFlight, Flight, IsSlotOf, bytes_in, count_in, first_in, has_blocks, is_in_flight, is_of, is_unfinished, next_of, slot_of, turn_behind, turn_in, turn_of}
use Rattle.request_slots.specs.Serving.{changed, with_block_counted, with_block_read, with_change, with_fault, with_finish, with_piece, with_read_piece}
use Rattle.request_slots.specs.declared.request.Request.{Request}
use Rattle.request_slots.specs.declared.request.Request.TheVariants.{Flush, Read, Write}
use Rattle.request_slots.specs.declared.slot.Outcome.{Outcome}
use Rattle.request_slots.specs.declared.slot.Outcome.TheVariants.{Finished}
use Rattle.request_slots.specs.declared.slot.Slot.{Slot}
use Rattle.request_slots.specs.declared.turn.Turn.{Turn}
use Rattle.request_slots.specs.declared.turn.Turn.TheVariants as Turns
use Rattle.request_slots.proofs.SlotLemmas.{room-next}
use Rattle.request_slots.proofs.SlotsLemmas.{IsSplit, changed-split, find-split, split_of}
use Rattle.device_model.specs.declared.actor.Actor.TheVariants as Actors
use Rattle.device_parts.specs.declared.parts.Parts.{Parts}
use Rattle.device_parts.specs.Answers.{after_read, served_by, tag_by}
use Rattle.journal_mode.specs.Commits.{HasCommitted}
use Rattle.journal_mode.specs.Journal.{PlacedRing}
use Rattle.journal_mode.specs.Placement.{placed_in}
use Rattle.journal_mode.specs.PlaceWriterMoves.{HasPlaced, HasSettled}
use Rattle.journal_device.specs.Answers.{moved_as}
use Rattle.journal_device.specs.Telling.{IsCommitted, IsDueFor, IsFaultAmong, IsPlaced, IsSettled, IsSlotFor, IsToldOf, KeepsRequest, LeavesDue, with_buffer}

-- ---- one slot

length-piece : (from : ℕ) (piece bytes : List ℕ) → from + length piece ≤ length bytes → length (with_piece from piece bytes) ≡ length bytes
length-piece from piece bytes fits = simp (length-append, length-take, length-drop) (omega (arith, fits))

first-buffer : (buffer : List ℕ) (r : Request) → first_in (with_buffer buffer r) ≡ first_in r
first-buffer buffer (Read first count given) = refl
first-buffer buffer (Write first count bytes fua) = refl
first-buffer buffer Flush = refl

count-buffer : (buffer : List ℕ) (r : Request) → count_in (with_buffer buffer r) ≡ count_in r
count-buffer buffer (Read first count given) = refl
count-buffer buffer (Write first count bytes fua) = refl
count-buffer buffer Flush = refl

-- Another block is counted of it, or it is finished.
fault-counted : (r : Request) (outcome : Outcome) (b : Bool) → IsFaultAmong r outcome → IsFaultAmong r (if b then Finished else outcome)
fault-counted r outcome true fault = tt
fault-counted r outcome false fault = fault

slot-counted : (r : Request) (x : Slot) → IsSlotFor r x → IsSlotFor r (with_block_counted x)
slot-counted r x is = record {
  buffer = is.buffer;
  is = is.is;
  size = is.size;
  fault = fault-counted r x.outcome (suc x.served == count_in x.request) is.fault;
}

slot-finished : (r : Request) (x : Slot) → IsSlotFor r x → IsSlotFor r (with_finish x)
slot-finished r x is = record { buffer = is.buffer; is = is.is; size = is.size; fault = tt }

-- A read gets a piece of its bytes.
slot-piece : (r : Request) (x : Slot) (from : ℕ) (piece : List ℕ) → from + length piece ≤ length (bytes_in x.request) → IsSlotFor r x
    → IsSlotFor r (record x { request = with_read_piece from piece x.request })
slot-piece (Read first count given) x from piece room is = record {
  buffer = with_piece from piece is.buffer;
  is = ap (with_read_piece from piece) is.is;
  size = length-piece from piece is.buffer (subst (λ (r : Request). from + length piece ≤ length (bytes_in r)) is.is room) ∙ is.size;
  fault = is.fault;
}
slot-piece (Write first count bytes fua) x from piece room is = record {
  buffer = is.buffer;
  is = ap (with_read_piece from piece) is.is;
  size = is.size;
  fault = is.fault;
}
slot-piece Flush x from piece room is = record {
  buffer = is.buffer;
  is = ap (with_read_piece from piece) is.is;
  size = is.size;
  fault = is.fault;
}

-- A fault of its next block is of one of its blocks.
slot-fault : (r : Request) (x : Slot) (block : ℕ) (stored computed : List ℕ) → block ≡ first_in x.request + x.served → x.served < count_in x.request
    → IsSlotFor r x → IsSlotFor r (with_fault block stored computed x)
slot-fault r x block stored computed at under is =
    let first : first_in x.request ≡ first_in r = ap first_in is.is ∙ first-buffer is.buffer r in
    let count : count_in x.request ≡ count_in r = ap count_in is.is ∙ count-buffer is.buffer r in
    record {
      buffer = is.buffer;
      is = is.is;
      size = is.size;
      fault = (omega (arith, at, under, first, count), omega (arith, at, under, first, count));
    }

-- ---- the request of a ticket

abbrev block_in : Turn → ℕ
block_in Turns.Finished = 0
block_in (Turns.Held by) = 0
block_in (Turns.Read block) = block
block_in (Turns.Write block is_flushed) = 0
block_in Turns.Flush = 0

-- The next block of a request that reads it.
record ReadsNext (x : Slot) (block : ℕ) : Type 0 where
  pub still : is_unfinished x ≡ true
  pub has : has_blocks x.request ≡ true
  pub at : block ≡ first_in x.request + x.served

next_read : (x : Slot) (block : ℕ) → is_unfinished x ≡ true → (r : Request) → x.request ≡ r → next_of x r ≡ Turns.Read block → ReadsNext x block
next_read x block still (Read first count given) is turn = record {
  still = still;
  has = ap has_blocks is;
  at = sym (ap block_in turn) ∙ ap (λ (n : ℕ). n + x.served) (sym (ap first_in is));
}
next_read x block still (Write first count bytes fua) is turn = absurd cc
next_read x block still Flush is turn = absurd cc

behind_read : (x : Slot) (block : ℕ) → is_unfinished x ≡ true → (by : Option ℕ) → turn_behind x by ≡ Turns.Read block → ReadsNext x block
behind_read x block still (Some by) turn = absurd cc
behind_read x block still None turn = next_read x block still x.request refl turn

turn_read : (x : Slot) (block : ℕ) (by : Option ℕ) (b : Bool) → is_unfinished x ≡ b
    → (if b then turn_behind x by else Turns.Finished) ≡ Turns.Read block → ReadsNext x block
turn_read x block by true still turn = behind_read x block still by turn
turn_read x block by false still turn = absurd cc

module _ (t : ℕ) (flight : Flight) (there : is_in_flight t flight ≡ true) where
  abbrev split : IsSplit t flight.slots
  split = split_of t flight.slots there

  abbrev own : Slot
  own = split.own

  own_there : slot_of t flight ≡ Some own
  own_there =
      ap (find (is_of t)) split.is ∙ find-split t own split.behind split.own_is split.before split.none

  own_changed : (change : Slot → Slot) → ((x : Slot) → (change x).ticket ≡ x.ticket) → slot_of t (with_change t change flight) ≡ Some (change own)
  own_changed change same =
      ap (find (is_of t)) (ap (changed t change) split.is
      ∙ changed-split t own split.behind split.own_is change split.before split.none)
      ∙ find-split t (change own) split.behind (ap (λ (n : ℕ). n == t) (same own) ∙ split.own_is) split.before
      split.none

  keeps_changed : (change : Slot → Slot) → ((x : Slot) → (change x).ticket ≡ x.ticket) → ((r : Request) → IsSlotFor r own → IsSlotFor r (change own))
      → KeepsRequest t flight (with_change t change flight)
  keeps_changed change same step r is =
      subst (λ (o : Option Slot). IfSome o (IsSlotFor r)) (sym (own_changed change same))
      (step r (subst (λ (o : Option Slot). IfSome o (IsSlotFor r)) own_there is))

  -- A block of a write is counted,
  pub keeps_counted : KeepsRequest t flight (with_change t with_block_counted flight)
  keeps_counted = keeps_changed with_block_counted (λ x. refl) (λ r is. slot-counted r own is)

  -- a flush is done,
  pub keeps_finished : KeepsRequest t flight (with_change t with_finish flight)
  keeps_finished = keeps_changed with_finish (λ x. refl) (λ r is. slot-finished r own is)

  -- and a block is read.
  module _ (block : ℕ) (fits : FitsFlight t flight) (turn : turn_of flight t ≡ Turns.Read block) where
    reads : ReadsNext own block
    reads =
        turn_read own block _ (is_unfinished own) refl
        (sym (ap (turn_in flight) own_there) ∙ turn)

    own_fits : IsSlotOf flight.blocks flight.block_size flight.submitted own
    own_fits = subst (λ (o : Option Slot). IfSome o (IsSlotOf flight.blocks flight.block_size flight.submitted)) own_there fits

    by_tag : (bytes stored computed : List ℕ) → length bytes ≡ flight.block_size → (b : Bool)
        → KeepsRequest t flight (if b then with_change t (with_block_read flight.block_size bytes) flight else with_change t (with_fault block stored computed) flight)
    by_tag bytes stored computed whole true =
        let room : own.served * flight.block_size + length bytes ≤ length (bytes_in own.request) =
        subst (λ (n : ℕ). own.served * flight.block_size + n ≤ length (bytes_in own.request)) (sym whole)
        (room-next flight.blocks flight.block_size flight.submitted own own_fits reads.has reads.still) in
        keeps_changed (with_block_read flight.block_size bytes) (λ x. refl)
        (λ r is. slot-counted r (record own { request = with_read_piece (own.served * flight.block_size) bytes own.request })
        (slot-piece r own (own.served * flight.block_size) bytes room is))
    by_tag bytes stored computed whole false =
        keeps_changed (with_fault block stored computed) (λ x. refl)
        (λ r is. slot-fault r own block stored computed reads.at (own_fits.left reads.has reads.still) is)

pub keeps_read_of : (t block : ℕ) (stored : List ℕ) (parts : Parts) → is_in_flight t parts.slots ≡ true → FitsFlight t parts.slots
    → turn_of parts.slots t ≡ Turns.Read block → length parts.buffer.items ≡ parts.slots.block_size
    → KeepsRequest t parts.slots (after_read t block stored parts)
keeps_read_of t block stored parts there fits turn whole =
    let computed = tag_by parts.maker parts.spb block parts.buffer.items in
    by_tag t parts.slots there block fits turn parts.buffer.items stored computed whole (bytes_eq stored computed)

-- ---- what is answered

served_is : (t : ℕ) (old new : Flight) (full : Type 0) (turn : Turn) → turn_of new t ≡ turn → IsToldOf t old new full (served_by turn)
served_is t old new full Turns.Finished is = is
served_is t old new full (Turns.Held by) is = tt
served_is t old new full (Turns.Read block) is = tt
served_is t old new full (Turns.Write block is_flushed) is = tt
served_is t old new full Turns.Flush is = tt

-- What a request answers that was served is so.
pub served_told : (t : ℕ) (old new : Flight) (full : Type 0) → IsToldOf t old new full (served_by (turn_of new t))
served_told t old new full = served_is t old new full (turn_of new t) refl

-- A flush that is done is.
pub finished_told : (t : ℕ) (flight : Flight) → is_in_flight t flight ≡ true → turn_of (with_change t with_finish flight) t ≡ Turns.Finished
finished_told t flight there = ap (turn_in (with_change t with_finish flight)) (own_changed t flight there with_finish (λ x. refl))

-- ---- what a step leaves of the journal

-- The same ring with other committed sections has no section opened either.
committed_settled : (n : ℕ) (ring : JournalRing) → IsCommitted ring → IsCommitted (with_settle n ring)
committed_settled n ring is = record { sections = is.sections; none = is.none }

all_unplaced : (sections : List (List Entry)) (placed : ℕ) → length (entries_of sections) ≤ placed → unplaced_from placed sections ≡ []
all_unplaced [] placed low = refl
all_unplaced (x ∷ sections) placed low =
    let size = length-append x (entries_of sections) in
    ap (λ (b : Bool). if b then unplaced_from (placed - length x) sections else x ∷ sections) (le-leb (length x) placed (omega arith))
    ∙ all_unplaced sections (placed - length x) (omega arith)

pub commit_due : {A : Type 0} (moved : Moved) (old new : PlacedRing) (first last : A) (a b : List Content) → HasBounds old.ring
    → HasCommitted moved old new first last a b → LeavesDue Actors.Commit (moved_as moved) old new
commit_due Did old new first last a b bounds has = λ due. tt
commit_due Idle old new first last a b bounds has =
    let inside = bounds.inside in
    λ due. subst (λ (j : PlacedRing). IsCommitted j.ring) (sym has.journal) (record { sections = omega (arith, inside); none = has.none })

pub place_due : {A : Type 0} (moved : Moved) (old new : PlacedRing) (before after : Store) (first last : A)
    → HasPlaced moved old.placement new.placement old.ring before after first last → new.ring ≡ old.ring
    → LeavesDue Actors.Place (moved_as moved) old new
place_due Did old new before after first last has same = λ due. subst IsCommitted (sym same) due
place_due Idle old new before after first last has same = λ due. record {
  committed = subst IsCommitted (sym same) due;
  all =
      subst (λ (r : JournalRing). placed_in new.placement r ≡ length (entries_of r.committed)) (sym same)
      (ap (λ p. placed_in p old.ring) has.placement ∙ has.all);
}

pub settle_due : {A : Type 0} (moved : Moved) (old new : PlacedRing) (before after : Store) (first last : A)
    → HasSettled moved old.placement new.placement old.ring new.ring before after first last
    → LeavesDue Actors.Settle (moved_as moved) old new
settle_due Did old new before after first last has = λ due.
    let n = placed_in old.placement old.ring in
    let all : n ≡ length (entries_of old.ring.committed) = due.all in
    let free : new.ring.committed ≡ [] = ap (λ (r : JournalRing). r.committed) has.left_is ∙ all_unplaced old.ring.committed n (omega (arith, all)) in
    let none : length (entries_of new.ring.committed) ≡ 0 = ap (λ (xs : List (List Entry)). length (entries_of xs)) free in
    let rest = has.rest in
    record {
      committed = subst IsCommitted (sym has.left_is) (committed_settled n old.ring due.committed);
      all = omega (arith, all, none, rest);
    }
settle_due Idle old new before after first last has = λ due.
    let n = placed_in old.placement old.ring in
    let all : n ≡ length (entries_of old.ring.committed) = due.all in
    record {
      committed_ = subst IsCommitted (sym has.ring_) due.committed;
      free =
          ap (λ (r : JournalRing). r.committed) has.ring_ ∙ sym (ap (λ (r : JournalRing). r.committed) has.none)
          ∙ all_unplaced old.ring.committed n (omega (arith, all));
    }

pub recalc_due : (moved : Moved) (journal : PlacedRing) → LeavesDue Actors.Recalc (moved_as moved) journal journal
recalc_due Did journal = λ due. tt
recalc_due Idle journal = λ due. tt

-- ---- for callers

-- Once all is settled there is room.
pub settled_room : (ring : JournalRing) → IsSettled ring → has_room ring ≡ true
settled_room ring is =
    let sections = is.committed_.sections in
    let some : length ring.opened + length ring.committed < ring.geometry.sections =
    omega (arith, sections, ap (λ (xs : List (List Entry)). length xs) is.committed_.none, ap (λ (xs : List (List Entry)). length xs) is.free) in
    or_right (has_open_section ring) (ltb (length ring.opened + length ring.committed) ring.geometry.sections)
    (lt-ltb (length ring.opened + length ring.committed) ring.geometry.sections some)
