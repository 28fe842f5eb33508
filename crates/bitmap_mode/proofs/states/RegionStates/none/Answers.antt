use Rattle.std.proofs.Common.{◌≡◌, ℕ, false, List}
use Rattle.std.proofs.lemmas.Result.{IfOk-weaker}
use Rattle.disk_model.specs.Disk.{Content, last_image}
use Rattle.disk_model.specs.Moments.{HasNow}
use Rattle.place_model.specs.Format.{DiskFormat}
use Rattle.dirty_bitmap.specs.Bits.{bits_of}
use Rattle.bitmap_mode.specs.Standing.{AreOpened, HasNoBits}
use Rattle.bitmap_mode.specs.States.{HasCounts, counts_of, counts_opened}
use Rattle.bitmap_mode.proofs.OpeningLemmas.{counted_regions, counts_same, no_bits}
use Rattle.bitmap_mode.proofs.states.RegionStates.none.Goals as goal

pub returns-clause-counts : goal.returns-clause-counts
returns-clause-counts c =
    let there = c.args.geometry in
    let bits = c.in_ok-bits.bits in
    IfOk-weaker c.opened.result (λ states. HasCounts states there (counts_opened (bits_of bits))) (λ states. HasCounts states there (counts_opened (λ region. false)))
    (λ states counts. counts_same there (bits_of bits) (λ (region : ℕ). false) (counts_of states) counts c.in_ok-bits.ensures.none) c.opened.ensures.counts

pub returns-clause-opened : goal.returns-clause-opened
returns-clause-opened c =
    let there = c.args.geometry in
    let bits = c.in_ok-bits.bits in
    IfOk-weaker c.opened.result (λ states. HasCounts states there (counts_opened (bits_of bits))) (λ states. (d : DiskFormat) (moments : List Content) → d.geometry ≡ there → HasNow (HasNoBits d) moments → AreOpened d states moments)
    (λ states counts d moments same none x told.
    counted_regions there (λ (region : ℕ). false) (counts_of states) d (last_image x)
    (counts_same there (bits_of bits) (λ (region : ℕ). false) (counts_of states) counts c.in_ok-bits.ensures.none)
    same (no_bits there d x same (none x told))) c.opened.ensures.counts
