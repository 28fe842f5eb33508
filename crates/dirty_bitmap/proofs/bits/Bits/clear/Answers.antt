use Rattle.std.proofs.Common.{◌/◌, ap, false}
use Rattle.dirty_bitmap.specs.Bits.{RegionBits}
use Rattle.dirty_bitmap.specs.Regions.{sector_of}
use Rattle.dirty_bitmap.proofs.BitsLemmas.{HoldsBits-cleared, are_told, call_adds, call_adds_to, changed_to, holds_after, keeps_elsewhere, sector_inside}
use Rattle.dirty_bitmap.proofs.bits.Bits.clear.Goals as goal

pub write_bit-requires-clause-inside : goal.write_bit-requires-clause-inside
write_bit-requires-clause-inside g c = (sector_inside c.self.inside.geometry c.self.inside.set c.args.self.now c.self.view_is c.self.invariant _ c.args.region false c.requires.places c.requires.region).1

pub returns-in-Ok-clause-written : goal.returns-in-Ok-clause-written
returns-in-Ok-clause-written g c start told later told_later = record {
  bytes = sector_of c.remove.new.self (c.args.region / 4096);
  are = are_told c.self.inside.geometry c.self.inside.set c.args.self.now c.self.view_is c.self.invariant _ c.args.region false c.requires.places c.requires.region c.remove.new.self c.remove.ensures.size c.remove.ensures.has c.write_bit.ensures.sector;
  is = changed_to _ _ _ c.in-Ok.ensures.written start later told told_later;
}

pub returns-in-Ok-clause-holds : goal.returns-in-Ok-clause-holds
returns-in-Ok-clause-holds g c =
    holds_after c.self.inside.geometry c.self.inside.set c.args.self.now c.self.view_is c.self.invariant _ c.args.region false c.requires.places c.requires.region c.remove.new.self c.remove.ensures.size c.remove.ensures.has c.write_bit.ensures.sector _ _ c.write_bit.ensures.moments _ c.in-Ok.ensures.written
    (λ start was. HoldsBits-cleared c.args.self.now.geometry _ c.args.region (sector_of c.remove.new.self (c.args.region / 4096)) start was (are_told c.self.inside.geometry c.self.inside.set c.args.self.now c.self.view_is c.self.invariant _ c.args.region false c.requires.places c.requires.region c.remove.new.self c.remove.ensures.size c.remove.ensures.has c.write_bit.ensures.sector))

pub returns-in-Ok-clause-stays : goal.returns-in-Ok-clause-stays
returns-in-Ok-clause-stays g c = record {
  geometry = ap (λ (b : RegionBits). b.geometry) c.self.view_is;
  identity = c.write_bit.ensures.identity;
  elsewhere = keeps_elsewhere c.args.self.now.geometry c.args.region (sector_inside c.self.inside.geometry c.self.inside.set c.args.self.now c.self.view_is c.self.invariant _ c.args.region false c.requires.places c.requires.region).0 _ _ c.write_bit.ensures.others;
}

pub returns-in-Ok-clause-sector : goal.returns-in-Ok-clause-sector
returns-in-Ok-clause-sector g c = call_adds_to c.self.inside.geometry c.self.inside.set c.args.self.now c.self.view_is c.self.invariant _ c.args.region false c.requires.places c.requires.region c.remove.new.self c.remove.ensures.size c.remove.ensures.has c.write_bit.ensures.sector _ _ c.write_bit.ensures.moments

pub returns-in-Ok-clause-moments : goal.returns-in-Ok-clause-moments
returns-in-Ok-clause-moments g c = call_adds c.self.inside.geometry c.self.inside.set c.args.self.now c.self.view_is c.self.invariant _ c.args.region false c.requires.places c.requires.region c.remove.new.self c.remove.ensures.size c.remove.ensures.has c.write_bit.ensures.sector _ _ c.write_bit.ensures.moments

pub returns-then-was_set-clause-stays : goal.returns-then-was_set-clause-stays
returns-then-was_set-clause-stays g c = record {
  geometry = ap (λ (b : RegionBits). b.geometry) c.self.view_is;
  identity = c.write_bit.ensures.identity;
  elsewhere = keeps_elsewhere c.args.self.now.geometry c.args.region (sector_inside c.self.inside.geometry c.self.inside.set c.args.self.now c.self.view_is c.self.invariant _ c.args.region false c.requires.places c.requires.region).0 _ _ c.write_bit.ensures.others;
}

pub returns-then-was_set-clause-sector : goal.returns-then-was_set-clause-sector
returns-then-was_set-clause-sector g c = call_adds_to c.self.inside.geometry c.self.inside.set c.args.self.now c.self.view_is c.self.invariant _ c.args.region false c.requires.places c.requires.region c.remove.new.self c.remove.ensures.size c.remove.ensures.has c.write_bit.ensures.sector _ _ c.write_bit.ensures.moments

pub returns-then-was_set-clause-moments : goal.returns-then-was_set-clause-moments
returns-then-was_set-clause-moments g c = call_adds c.self.inside.geometry c.self.inside.set c.args.self.now c.self.view_is c.self.invariant _ c.args.region false c.requires.places c.requires.region c.remove.new.self c.remove.ensures.size c.remove.ensures.has c.write_bit.ensures.sector _ _ c.write_bit.ensures.moments

pub returns-else-was_set-clause-stays : goal.returns-else-was_set-clause-stays
returns-else-was_set-clause-stays g c = record {
  geometry = ap (λ (b : RegionBits). b.geometry) c.self.view_is;
  identity = c.write_bit.ensures.identity;
  elsewhere = keeps_elsewhere c.args.self.now.geometry c.args.region (sector_inside c.self.inside.geometry c.self.inside.set c.args.self.now c.self.view_is c.self.invariant _ c.args.region false c.requires.places c.requires.region).0 _ _ c.write_bit.ensures.others;
}

pub returns-else-was_set-clause-sector : goal.returns-else-was_set-clause-sector
returns-else-was_set-clause-sector g c = call_adds_to c.self.inside.geometry c.self.inside.set c.args.self.now c.self.view_is c.self.invariant _ c.args.region false c.requires.places c.requires.region c.remove.new.self c.remove.ensures.size c.remove.ensures.has c.write_bit.ensures.sector _ _ c.write_bit.ensures.moments

pub returns-else-was_set-clause-moments : goal.returns-else-was_set-clause-moments
returns-else-was_set-clause-moments g c = call_adds c.self.inside.geometry c.self.inside.set c.args.self.now c.self.view_is c.self.invariant _ c.args.region false c.requires.places c.requires.region c.remove.new.self c.remove.ensures.size c.remove.ensures.has c.write_bit.ensures.sector _ _ c.write_bit.ensures.moments
