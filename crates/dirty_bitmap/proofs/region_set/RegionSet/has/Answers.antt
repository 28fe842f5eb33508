use Rattle.std.proofs.Common.{◌≡◌, ◌==◌, ◌/◌, ◌%◌, ◌∙◌, ap, arith, ℕ, slice_index}
use Rattle.std.specs.Int.{bit_at}
use Rattle.std.proofs.lemmas.List.{get_or_read}
use Rattle.std.proofs.lemmas.Nat.Bits.{shr_and_one}
use Rattle.image_model.specs.Bitmap.{is_bit_set}
use Rattle.dirty_bitmap.specs.Regions.{Regions, has_region}
use Rattle.dirty_bitmap.proofs.SetLemmas.{byte_inside}
use Rattle.dirty_bitmap.proofs.region_set.RegionSet.has.Goals as goal

pub returns : goal.returns
unfolding is_bit_set
returns c =
    let s = c.self.inside in
    let region = c.args.region in
    let inside = byte_inside s.size s.bytes.items c.self.invariant.whole region (omega (arith, c.requires, ap (λ (s : Regions). s.size) c.self.view_is)) in
    let byte : c.index.result.now ≡ slice_index s.bytes.items (region / 8) = get_or_read s.bytes.items _ _ inside c.index.ensures 0 in
    ap (λ (x : ℕ). x == 1) (shr_and_one c.index.result.now (region % 8)) ∙ ap (λ (x : ℕ). bit_at x (region % 8) == 1) byte
    ∙ ap (λ (s : Regions). has_region s region) c.self.view_is
