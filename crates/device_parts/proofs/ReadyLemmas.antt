-- A device stays ready while requests come in, are served, and replies go out.
use Rattle.std.proofs.Common.{◌≡◌, ℕ, ◌*◌, ◌<◌, ◌^◌, ◌≤◌, Bool, true, false, List, if◌then◌else◌, length, Option, None, Some, refl, sym, ◌∙◌, ap, subst, arith}
use Rattle.std.specs.Str.{bytes_eq}
use Rattle.std.proofs.lemmas.Nat.{mul-le}
use Rattle.disk_model.specs.Disk.{Content}
use Rattle.disk_model.specs.Identity.{DiskIdentity}
use Rattle.image_model.specs.Geometry.{Geometry}
use Rattle.image_model.proofs.Regions.{blocks-low}
use Rattle.image_model.proofs.TagLemmas.{length-tag_of}
use Rattle.hmac_tag.specs.TagMaker.{TagRule}
use Rattle.tag_store.specs.Store.{IsStore}
use Rattle.range_lock.specs.declared.ask.Ask.{Ask}
use Rattle.request_slots.specs.Flight.{Flight, ask_of, is_unfinished}
use Rattle.request_slots.specs.Serving.{with_block_read, with_change, with_fault}
use Rattle.request_slots.specs.Submitting.{after_submit}
use Rattle.request_slots.specs.Taking.{after_take, without}
use Rattle.request_slots.specs.declared.request.Request.{Request}
use Rattle.request_slots.specs.declared.slot.Slot.{Slot}
use Rattle.request_slots.specs.declared.submit_fault.SubmitFault.{SubmitFault}
use Rattle.request_slots.proofs.SlotLemmas.{ask_of-read}
use Rattle.device_parts.specs.Answers.{after_read, tag_by}
use Rattle.device_parts.specs.Device.{IsReady, KeepsFlight}
use Rattle.device_parts.specs.declared.parts.Parts.{Parts}
use Rattle.device_parts.proofs.TurnLemmas.{asks-changed, in_flight-changed}

-- ---- requests come and go

-- The requests in flight are on the same blocks.
pub record HasSameBlocks (old new : Flight) : Type 0 where
  pub blocks : new.blocks ≡ old.blocks
  pub block_size : new.block_size ≡ old.block_size

pub ready-same : (parts : Parts) (flight : Flight) (disk : DiskIdentity) (moments : List Content) → HasSameBlocks parts.slots flight
    → IsReady parts disk moments → IsReady (record parts { slots = flight }) disk moments
ready-same parts flight disk moments same ready = record {
  store = ready.store;
  blocks = same.blocks ∙ ready.blocks;
  block_size = same.block_size ∙ ready.block_size;
  spb = ready.spb;
  tag_size = ready.tag_size;
  buffer = ready.buffer ∙ sym same.block_size;
}

pub submit-same : (fault : Option SubmitFault) (request : Request) (flight : Flight) → HasSameBlocks flight (after_submit fault request flight)
submit-same None request flight = record { blocks = refl; block_size = refl }
submit-same (Some fault) request flight = record { blocks = refl; block_size = refl }

either_same : (ticket : ℕ) (flight : Flight) (b : Bool) → HasSameBlocks flight (if b then flight else record flight { slots = without ticket flight.slots })
either_same ticket flight true = record { blocks = refl; block_size = refl }
either_same ticket flight false = record { blocks = refl; block_size = refl }

pub take-same : (ticket : ℕ) (slot : Option Slot) (flight : Flight) → HasSameBlocks flight (after_take ticket slot flight)
take-same ticket None flight = record { blocks = refl; block_size = refl }
take-same ticket (Some slot) flight = either_same ticket flight (is_unfinished slot)

-- ---- which are in flight

pub same_flight : (a : Flight) → KeepsFlight a a
same_flight a = record { blocks = refl; block_size = refl; submitted = refl; same = λ t. refl; asks = refl }

pub kept_flight : (a b c : Flight) → KeepsFlight a b → KeepsFlight b c → KeepsFlight a c
kept_flight a b c first second = record {
  blocks = second.blocks ∙ first.blocks;
  block_size = second.block_size ∙ first.block_size;
  submitted = second.submitted ∙ first.submitted;
  same = λ t. second.same t ∙ first.same t;
  asks = second.asks ∙ first.asks;
}

-- A change that keeps the blocks that a request asks for keeps which are in flight.
pub keeps_flight : (ticket : ℕ) (change : Slot → Slot) → ((x : Slot) → ask_of (change x) ≡ ask_of x) → (flight : Flight)
    → KeepsFlight flight (with_change ticket change flight)
keeps_flight ticket change same flight = record {
  blocks = refl;
  block_size = refl;
  submitted = refl;
  same = λ t. in_flight-changed ticket t change (λ x. ap (λ (ask : Ask). ask.ticket) (same x)) flight;
  asks = asks-changed ticket change same flight.slots;
}

pub keeps_read : (ticket block : ℕ) (stored : List ℕ) (parts : Parts) → KeepsFlight parts.slots (after_read ticket block stored parts)
keeps_read ticket block stored parts = by (bytes_eq stored (tag_by parts.maker parts.spb block parts.buffer.items))
  where
    by : (b : Bool) → KeepsFlight parts.slots (if b then with_change ticket (with_block_read parts.slots.block_size parts.buffer.items) parts.slots
        else with_change ticket (with_fault block stored (tag_by parts.maker parts.spb block parts.buffer.items)) parts.slots)
    by true = keeps_flight ticket (with_block_read parts.slots.block_size parts.buffer.items) (λ x. ask_of-read parts.slots.block_size parts.buffer.items x) parts.slots
    by false = keeps_flight ticket (with_fault block stored (tag_by parts.maker parts.spb block parts.buffer.items)) (λ x. refl) parts.slots

-- ---- a block of a request

module _ (parts : Parts) (disk : DiskIdentity) (moments : List Content) (ready : IsReady parts disk moments) where
  pub sector-low : (block : ℕ) → block < parts.slots.blocks → block * parts.spb < 2 ^ 64
  sector-low block low =
      let few = blocks-low parts.tags.geometry disk.sectors ready.store.geometry in
      let under : block ≤ 2 ^ 48 = let same = ready.blocks in omega (arith, low, few, same) in
      let spb : parts.spb ≤ 8 = subst (λ (n : ℕ). n ≤ 8) (sym ready.spb) ready.store.geometry.spb.1 in
      let product : block * parts.spb ≤ 2 ^ 48 * 8 = mul-le block parts.spb (2 ^ 48) 8 under spb in
      omega (arith, product)

  pub block-low : (block : ℕ) → block < parts.slots.blocks → block < parts.tags.geometry.blocks
  block-low block low = subst (λ (n : ℕ). block < n) ready.blocks low

  pub length-tag_by : (block : ℕ) (bytes : List ℕ) → length (tag_by parts.maker parts.spb block bytes) ≡ parts.tags.geometry.shape.tag_size
  length-tag_by block bytes =
      length-tag_of parts.maker.key parts.maker.salt parts.maker.size (block * parts.spb) bytes
      (subst (λ (n : ℕ). n ≤ 32) (sym ready.tag_size) ready.store.geometry.tag_size.1) ∙ ready.tag_size

-- After a read of a block it is ready.
pub ready_read : (old new : Parts) (disk now : DiskIdentity) (a b : List Content) → IsReady old disk a
    → IsStore new.tags now b → new.tags.geometry ≡ old.tags.geometry → KeepsFlight old.slots new.slots
    → new.spb ≡ old.spb → new.maker ≡ old.maker → length new.buffer.items ≡ old.slots.block_size
    → IsReady new now b
ready_read old new disk now a b ready store same flight spb maker size = record {
  store = store;
  blocks = flight.blocks ∙ ready.blocks ∙ ap (λ (g : Geometry). g.blocks) (sym same);
  block_size = flight.block_size ∙ ready.block_size ∙ ap (λ (g : Geometry). 512 * g.shape.spb) (sym same);
  spb = spb ∙ ready.spb ∙ ap (λ (g : Geometry). g.shape.spb) (sym same);
  tag_size = ap (λ (rule : TagRule). rule.size) maker ∙ ready.tag_size
      ∙ ap (λ (g : Geometry). g.shape.tag_size) (sym same);
  buffer = size ∙ sym flight.block_size;
}
