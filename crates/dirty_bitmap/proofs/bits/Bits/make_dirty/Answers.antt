use Rattle.std.proofs.Common.{◌∙◌, ◌/◌, ◌<◌, ap, inr, refl, sym, subst, true}
use Rattle.std.proofs.lemmas.Option.{same_Some}
use Rattle.disk_model.specs.Disk.{Content, last_image}
use Rattle.disk_model.specs.Identity.{DiskIdentity}
use Rattle.dirty_bitmap.specs.Bits.{HoldsBitsNow, RegionBits, bits_of}
use Rattle.dirty_bitmap.specs.Regions.{has_region, sector_of}
use Rattle.dirty_bitmap.proofs.BitsLemmas.{HoldsBits-synced, are_told, call_adds, call_adds_to, changed_to, has_told, holds_after, images_dirty, keeps_elsewhere, sector_inside, seen_bits, seen_set}
use Rattle.bitmap_model.proofs.BitLemmas.{with_region-here}
use Rattle.dirty_bitmap.proofs.bits.Bits.make_dirty.Goals as goal

pub write_bit_and_sync-requires-clause-inside : goal.write_bit_and_sync-requires-clause-inside
write_bit_and_sync-requires-clause-inside g c = (sector_inside c.self.inside.geometry c.self.inside.set c.args.self.now c.self.view_is c.self.invariant _ c.args.region true c.requires.places c.requires.region).1

pub returns-in-Ok-clause-written : goal.returns-in-Ok-clause-written
returns-in-Ok-clause-written g c start told later told_later = record {
  is = inr (
    sym (seen_bits c.self.inside.geometry c.self.inside.set c.args.self.now c.self.view_is c.args.region) ∙ sym c.has-was_set.ensures ∙ c.if-was_set.false,
    sector_of c.insert.new.self (c.args.region / 4096),
    are_told c.self.inside.geometry c.self.inside.set c.args.self.now c.self.view_is c.self.invariant _ c.args.region true c.requires.places c.requires.region c.insert.new.self c.insert.ensures.size c.insert.ensures.has c.write_bit_and_sync.ensures.sector,
    changed_to _ _ _ c.in-Ok.ensures.written start later told told_later,
  );
}

pub returns-in-Ok-clause-holds : goal.returns-in-Ok-clause-holds
returns-in-Ok-clause-holds g c was =
    let of = seen_set c.self.inside.geometry c.self.inside.set c.args.self.now c.self.view_is c.self.invariant in
    let all : HoldsBitsNow c.args.self.now.geometry (has_region c.insert.new.self) (g.D.Disk.moments c.write_bit_and_sync.new.disk) =
    holds_after c.self.inside.geometry c.self.inside.set c.args.self.now c.self.view_is c.self.invariant _ c.args.region true c.requires.places c.requires.region c.insert.new.self c.insert.ensures.size c.insert.ensures.has c.write_bit_and_sync.ensures.sector _ _ c.write_bit_and_sync.ensures.moments _ c.in-Ok.ensures.written
    (λ start was. HoldsBits-synced c.args.self.now.geometry _ c.args.region true (sector_of c.insert.new.self (c.args.region / 4096)) start was (are_told c.self.inside.geometry c.self.inside.set c.args.self.now c.self.view_is c.self.invariant _ c.args.region true c.requires.places c.requires.region c.insert.new.self c.insert.ensures.size c.insert.ensures.has c.write_bit_and_sync.ensures.sector)) was in
    record {
      all = all;
      images = λ later told.
          images_dirty c.args.self.now.geometry _ (has_region c.insert.new.self) c.args.region later c.requires.places of.fits c.requires.region
          (λ sector x inside. g.met.D.Disk.whole_sectors c.write_bit_and_sync.new.disk later sector x told (subst (λ (d : DiskIdentity). sector < d.sectors) (sym c.write_bit_and_sync.ensures.identity) inside))
          (all later told)
          (has_told c.self.inside.geometry c.self.inside.set c.args.self.now c.self.view_is c.self.invariant _ c.args.region true c.requires.places c.requires.region c.insert.new.self c.insert.ensures.size c.insert.ensures.has c.args.region ∙ with_region-here c.args.region c.args.region true (bits_of c.args.self.now) refl);
    }

pub returns-in-Ok-clause-stays : goal.returns-in-Ok-clause-stays
returns-in-Ok-clause-stays g c = record {
  geometry = ap (λ (b : RegionBits). b.geometry) c.self.view_is;
  identity = c.write_bit_and_sync.ensures.identity;
  elsewhere = keeps_elsewhere c.args.self.now.geometry c.args.region (sector_inside c.self.inside.geometry c.self.inside.set c.args.self.now c.self.view_is c.self.invariant _ c.args.region true c.requires.places c.requires.region).0 _ _ c.write_bit_and_sync.ensures.others;
}

pub returns-in-Ok-clause-sector : goal.returns-in-Ok-clause-sector
returns-in-Ok-clause-sector g c = call_adds_to c.self.inside.geometry c.self.inside.set c.args.self.now c.self.view_is c.self.invariant _ c.args.region true c.requires.places c.requires.region c.insert.new.self c.insert.ensures.size c.insert.ensures.has c.write_bit_and_sync.ensures.sector _ _ c.write_bit_and_sync.ensures.moments

pub returns-in-Ok-clause-moments : goal.returns-in-Ok-clause-moments
returns-in-Ok-clause-moments g c = call_adds c.self.inside.geometry c.self.inside.set c.args.self.now c.self.view_is c.self.invariant _ c.args.region true c.requires.places c.requires.region c.insert.new.self c.insert.ensures.size c.insert.ensures.has c.write_bit_and_sync.ensures.sector _ _ c.write_bit_and_sync.ensures.moments

pub returns-in-Err-clause-stays : goal.returns-in-Err-clause-stays
returns-in-Err-clause-stays g c = record {
  geometry = ap (λ (b : RegionBits). b.geometry) c.self.view_is;
  identity = c.write_bit_and_sync.ensures.identity;
  elsewhere = keeps_elsewhere c.args.self.now.geometry c.args.region (sector_inside c.self.inside.geometry c.self.inside.set c.args.self.now c.self.view_is c.self.invariant _ c.args.region true c.requires.places c.requires.region).0 _ _ c.write_bit_and_sync.ensures.others;
}

pub returns-in-Err-clause-sector : goal.returns-in-Err-clause-sector
returns-in-Err-clause-sector g c = call_adds_to c.self.inside.geometry c.self.inside.set c.args.self.now c.self.view_is c.self.invariant _ c.args.region true c.requires.places c.requires.region c.insert.new.self c.insert.ensures.size c.insert.ensures.has c.write_bit_and_sync.ensures.sector _ _ c.write_bit_and_sync.ensures.moments

pub returns-in-Err-clause-moments : goal.returns-in-Err-clause-moments
returns-in-Err-clause-moments g c = call_adds c.self.inside.geometry c.self.inside.set c.args.self.now c.self.view_is c.self.invariant _ c.args.region true c.requires.places c.requires.region c.insert.new.self c.insert.ensures.size c.insert.ensures.has c.write_bit_and_sync.ensures.sector _ _ c.write_bit_and_sync.ensures.moments

pub returns-then-was_set-clause-holds : goal.returns-then-was_set-clause-holds
returns-then-was_set-clause-holds g c was =
    let of = seen_set c.self.inside.geometry c.self.inside.set c.args.self.now c.self.view_is c.self.invariant in
    record {
      all = was;
      images = λ later told.
          images_dirty c.args.self.now.geometry _ _ c.args.region later c.requires.places of.fits c.requires.region
          (λ sector x inside. g.met.D.Disk.whole_sectors c.args.disk.now later sector x told inside)
          (was later told) (sym (seen_bits c.self.inside.geometry c.self.inside.set c.args.self.now c.self.view_is c.args.region) ∙ sym c.has-was_set.ensures ∙ c.if-was_set.true);
    }

pub returns-then-was_set-clause-stays : goal.returns-then-was_set-clause-stays
returns-then-was_set-clause-stays g c = record { geometry = refl; identity = refl; elsewhere = λ start told later told_later sector none. ap (λ (x : Content). last_image x sector) (same_Some later start (sym told_later ∙ told)) }
