-- A device that was just recovered stands for its base.
use Rattle.std.proofs.Common.{◌≡◌, ℕ, sym, ◌∙◌, ap, subst, arith}
use Rattle.std.proofs.lemmas.Option.{same_Some}
use Rattle.disk_model.specs.Disk.{Content}
use Rattle.device_model.specs.Mode.{Journal}
use Rattle.journal_laws.specs.Device.{IsJournalOf}
use Rattle.journal_laws.proofs.StepLemmas.{recovered_law}
use Rattle.place_model.specs.Format.{DiskFormat}
use Rattle.place_model.specs.Opened.{device_format, next_on, opened_on}
use Rattle.journal_model.specs.Ring.{JournalRing, empty_ring}
use Rattle.journal_model.specs.Steps.{KeepsCells}
use Rattle.tag_store.specs.Store.{given_tags}
use Rattle.journal_mode.specs.Opening.{RecoveredStandsLaw}

pub recovered_stands_law : RecoveredStandsLaw
recovered_stands_law f image number store moments c clear same told is =
    let next = next_on Journal f image in
    let ring : empty_ring is.now.geometry is.now.next is.now.number ≡ empty_ring f.geometry next number =
    ap (λ (x : DiskFormat). empty_ring x.geometry is.now.next is.now.number) is.same_format
    ∙ ap (λ (n : ℕ). empty_ring f.geometry n is.now.number) is.next_is
    ∙ ap (empty_ring f.geometry next) is.number_is in
    let s = opened_on Journal f image in
    let device = subst (λ (r : JournalRing). IsJournalOf (device_format Journal f) s.history s.progress.journal is.now r) ring (recovered_law f image number (given_tags store c) c clear is) in
    record {
      device = device;
      placed = record {
        ring_ = device.is_ring;
        placed = omega (arith, device.sound.formed.placed_low);
        cells = record {
          sound = device.sound;
          geometry = ap (λ (x : DiskFormat). x.geometry) is.same_format ∙ same;
          now = λ x there. subst (λ (y : Content). KeepsCells is.now (given_tags store y) y) (same_Some c x (sym told ∙ there)) is.keeps;
        };
      };
    }
