use Rattle.std.proofs.Common.{◌≡◌, ◌*◌, ◌+◌, ◌-◌, ◌∙◌, ap, arith, ℕ, List, take, drop}
use Rattle.dirty_bitmap.specs.Regions.{Regions, sector_of}
use Rattle.dirty_bitmap.proofs.SetLemmas.{sector_shown}
use Rattle.dirty_bitmap.proofs.region_set.RegionSet.sector.Goals as goal

pub returns-clause-bytes : goal.returns-clause-bytes
returns-clause-bytes c =
    let bytes = c.as_slice-bytes.result.now in
    let k = c.args.sector in
    let size : 512 * k + 512 - 512 * k ≡ 512 = omega arith in
    ap (λ (n : ℕ). take n (drop (512 * k) bytes)) size ∙ ap (λ (xs : List ℕ). take 512 (drop (512 * k) xs)) c.as_slice-bytes.ensures.value
    ∙ ap (λ (s : Regions). sector_of s k) c.self.view_is

pub returns-clause-told : goal.returns-clause-told
returns-clause-told c =
    let bytes = c.as_slice-bytes.result.now in
    let k = c.args.sector in
    let size : 512 * k + 512 - 512 * k ≡ 512 = omega arith in
    sector_shown c.args.self.now c.self.inside.size c.self.inside.bytes.items bytes k c.self.invariant c.self.view_is c.as_slice-bytes.ensures.value c.requires _ (ap (λ (n : ℕ). take n (drop (512 * k) bytes)) size)
