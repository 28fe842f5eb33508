use Rattle.std.proofs.Common.{◌<◌, ◌/◌, ◌∙◌, ap, arith, false, length-set}
use Rattle.std.proofs.lemmas.List.{get_or_read}
use Rattle.device_model.specs.Regions.{with_region}
use Rattle.dirty_bitmap.specs.Regions.{Regions, has_region}
use Rattle.dirty_bitmap.proofs.SetLemmas.{IsBitmap-with, byte_inside}
use Rattle.dirty_bitmap.proofs.WordLemmas.{is_bit_set-clear}
use Rattle.dirty_bitmap.proofs.region_set.RegionSet.remove.Goals as goal

pub invariant_of-self : goal.invariant_of-self
invariant_of-self c =
    let s = c.self.inside in
    let region = c.args.region in
    let low : region < s.size = omega (arith, c.requires, ap (λ (s : Regions). s.size) c.self.view_is) in
    let inside = byte_inside s.size s.bytes.items c.self.invariant.whole region low in
    IsBitmap-with s.size s.bytes.items _ region false c.self.invariant (length-set s.bytes.items (region / 8) _) low
    (is_bit_set-clear s.bytes.items region c.index_mut.result.now inside (get_or_read s.bytes.items _ _ inside c.index_mut.ensures.value 0))

pub returns-clause-has : goal.returns-clause-has
returns-clause-has c r =
    let s = c.self.inside in
    let region = c.args.region in
    let low : region < s.size = omega (arith, c.requires, ap (λ (s : Regions). s.size) c.self.view_is) in
    let inside = byte_inside s.size s.bytes.items c.self.invariant.whole region low in
    is_bit_set-clear s.bytes.items region c.index_mut.result.now inside (get_or_read s.bytes.items _ _ inside c.index_mut.ensures.value 0) r
    ∙ ap (λ (s : Regions). with_region region false (has_region s) r) c.self.view_is
