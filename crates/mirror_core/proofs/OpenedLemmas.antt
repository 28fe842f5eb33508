-- A device in journal mode is a leg, and what one stands for that has just been opened, or has all flushed.
use Rattle.std.proofs.Common.{◌≡◌, ℕ, ◌*◌, ◌^◌, ◌<◌, ◌≤◌, Bool, true, false, if◌then◌else◌, List, length, refl, sym, ap, subst, arith}
use Rattle.std.proofs.lemmas.Option.{none-some}
use Rattle.disk_model.specs.Disk.{Content, Image, last_image}
use Rattle.disk_model.specs.Identity.{DiskIdentity}
use Rattle.image_model.specs.Cells.{Cell}
use Rattle.image_model.proofs.Regions.{blocks-low}
use Rattle.device_model.specs.Mode as Modes
use Rattle.device_model.specs.Progress.{DeviceState, opened_device}
use Rattle.device_model.specs.ScriptLaws.{IsAtRest}
use Rattle.place_model.specs.Changed.{changed_device, changes_mode, opened_in}
use Rattle.place_model.specs.Format.{DiskFormat, cells_on, format_on}
use Rattle.place_model.specs.Opened.{awaiting_on, base_on, next_on, opened_on, set_bits_on}
use Rattle.device_parts.specs.declared.condition.Condition.{Condition}
use Rattle.device_parts.specs.declared.condition.Condition.TheVariants.{Working}
use Rattle.device_parts.specs.declared.parts.Parts.{Parts}
use Rattle.device_parts.specs.Device as Devices
use Rattle.device_parts.specs.Device.{opened_standing}
use Rattle.device.specs.declared.mode.DeviceParts.{DeviceParts}
use Rattle.device.specs.declared.mode.Mode.{Mode}
use Rattle.device.specs.declared.mode.Mode.TheVariants.{Bitmap, Direct, Journal, Recovery}
use Rattle.request_slots.specs.Flight.{Flight}
use Rattle.device.specs.Device.{IsReady, IsReadyIn, mode_of}
use Rattle.device.proofs.TellingLemmas.{no_bitmap, no_direct, no_recovery}
use Rattle.mirror_core.specs.LegLaws.{OpenedLaw, OpenedLegLaw, RestedLaw, RestingLegLaw, ToldLaw}
use Rattle.mirror_core.proofs.CloseLemmas.{told_now}
use Rattle.mirror_core.proofs.LegLemmas.{leg_blocks}
use Rattle.mirror_core.proofs.SinceLemmas.{IsSince-begin}
use Rattle.mirror_core.proofs.StandsLemmas.{flight, idle}

pub told_law : ToldLaw
told_law parts moments on told stands = record {
  blocks = leg_blocks parts moments on told stands;
  left = told_now parts moments on told stands;
}

-- ---- a leg

-- What is kept of a device in journal mode is of its disk.
kept_ready : (mode : Mode) (condition : Condition) (common : Parts) (disk : DiskIdentity) (a : List Content) → mode_of mode ≡ Modes.Journal
    → condition ≡ Working → IsReadyIn mode condition common disk a → Devices.IsReady common disk a
kept_ready (Journal state) condition common disk a named works ready = ready.parts_ works
kept_ready (Direct recalculation) condition common disk a named works ready = absurd (no_direct named)
kept_ready (Bitmap regions) condition common disk a named works ready = absurd (no_bitmap named)
kept_ready Recovery condition common disk a named works ready = absurd (no_recovery named)

at_least : (size spb : ℕ) → size ≡ 512 * spb → 1 ≤ spb → 1 ≤ size
at_least size spb is least = omega (arith, is, least)

at_most : (size spb : ℕ) → size ≡ 512 * spb → spb ≤ 8 → size < 2 ^ 16
at_most size spb is most = omega (arith, is, most)

pub resting_law : {D : Type 0} (identity : D → DiskIdentity) (moments : D → List Content) → RestingLegLaw identity moments
resting_law {D} identity moments condition parts disk works named none =
    let ready = kept_ready parts.mode condition parts.common (identity disk) (moments disk) named works.is works.ready in
    let g = ready.store.geometry in
    let few : parts.common.tags.geometry.blocks ≤ 2 ^ 48 = blocks-low parts.common.tags.geometry (identity disk).sectors g in
    let size : parts.common.slots.block_size ≡ 512 * parts.common.tags.geometry.shape.spb = ready.block_size in
    let least : 1 ≤ parts.common.tags.geometry.shape.spb = g.spb.0 in
    let most : parts.common.tags.geometry.shape.spb ≤ 8 = g.spb.1 in
    record {
      works = works;
      mode = named;
      none = none;
      few = subst (λ (n : ℕ). n ≤ 2 ^ 48) (sym ready.blocks) few;
      some = at_least parts.common.slots.block_size parts.common.tags.geometry.shape.spb size least;
      small = at_most parts.common.slots.block_size parts.common.tags.geometry.shape.spb size most;
    }

pub opened_leg_law : {D : Type 0} (identity : D → DiskIdentity) (moments : D → List Content) → OpenedLegLaw identity moments
opened_leg_law {D} identity moments consent key condition parts first last same works has =
    resting_law identity moments condition parts last (record {
      ready =
          subst (λ (c : Condition). IsReady c parts (identity last) (moments last)) (sym works)
          (subst (λ (i : DiskIdentity). IsReady Working parts i (moments last)) (sym same) has.ready);
      is = works;
    }) has.asked_ (ap (λ (f : Flight). f.slots) has.requests)

-- ---- what it stands for

pub rested_law : RestedLaw
rested_law w parts a rests flushed =
    let own = flight w parts a rests in
    record {
      w = w;
      rests = rests;
      format = refl;
      key = refl;
      sectors = refl;
      entry = refl;
      since = IsSince-begin w.format.blocks.tag w.state.history flushed (idle w parts a rests);
      blocks = sym own.blocks;
      size = sym own.block_size;
    }

-- ---- a device that has just been opened

-- It has had no request, and all is flushed.
record IsFresh (s : DeviceState) : Type 0 where
  rests : IsAtRest s
  flushed : s.history.flushed ≡ length s.history.writes

fresh_opened : (base : ℕ → Cell) (next : ℕ) (set_bits awaiting : ℕ → Bool) → IsFresh (opened_device base next set_bits awaiting)
fresh_opened base next set_bits awaiting = record {
  rests = record { each = λ k a is. absurd (none-some a is) };
  flushed = refl;
}

fresh_if : (t : Bool) (x y : DeviceState) → IsFresh x → IsFresh y → IsFresh (if t then x else y)
fresh_if true x y first second = first
fresh_if false x y first second = second

fresh_in : (d : DiskFormat) (image : Image) → IsFresh (opened_in Modes.Journal d image)
fresh_in d image =
    fresh_if (changes_mode Modes.Journal d.superblock) (changed_device d image) (opened_on Modes.Journal d image)
    (fresh_opened (cells_on d image) 0 (λ region. false) (λ region. false))
    (fresh_opened (base_on Modes.Journal d image) (next_on Modes.Journal d image) (set_bits_on Modes.Journal d image) (awaiting_on Modes.Journal d image))

pub opened_law : OpenedLaw
opened_law consent key disk parts before after start made was now has =
    let w = opened_standing Modes.Journal key disk.sectors (last_image start) (last_image made) in
    let fresh : IsFresh w.state = fresh_in (format_on key disk.sectors (last_image start)) (last_image start) in
    rested_law w parts after (record { device = has.device start was made now; mode = refl; rests = fresh.rests }) fresh.flushed
