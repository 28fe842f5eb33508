-- A device in journal mode on a fresh disk of eight blocks: what a device keeps holds of it, and room is for its first write.
use Rattle.std.proofs.Common.{false, refl, sym, ap, List, length}
use Rattle.disk_model.specs.Disk.{EachImage}
use Rattle.image_model.specs.Cells.{last_entry}
use Rattle.image_model.specs.Section.{Entry}
use Rattle.device_model.specs.History.{opened}
use Rattle.device_model.specs.Mode.{Journal}
use Rattle.device_model.specs.Progress.{opened_device}
use Rattle.place_model.specs.Left.{IsLeftInJournal}
use Rattle.place_model.specs.Opened.{device_format}
use Rattle.place_model.proofs.WorkedDisk.{journal_format, replayed_entries-fresh}
use Rattle.journal_model.proofs.EntriesLemmas.{cell_after-none}
use Rattle.journal_model.proofs.WorkedDisk.{fresh, content, StandsFor-fresh, Rests-fresh}
use Rattle.journal_model.specs.Ring.{empty_ring}
use Rattle.journal_laws.specs.Device.{IsJournalDevice}
use Rattle.journal_laws.proofs.PromiseLemmas.{standing_left_law}
use Rattle.journal_laws.proofs.StepLemmas.{opening_law}

pub IsJournalDevice-fresh : IsJournalDevice (device_format Journal journal_format) (opened_device fresh.base 0 (λ region. false) (λ region. false)) fresh (empty_ring fresh.geometry fresh.next fresh.number)
IsJournalDevice-fresh = opening_law (device_format Journal journal_format) fresh fresh.base (λ region. false) (λ region. false) refl StandsFor-fresh.sound Rests-fresh
    (sym (ap length replayed_entries-fresh))
    (λ b low. cell_after-none journal_format.geometry fresh.base fresh.entries b (ap (λ (entries : List Entry). last_entry journal_format.geometry entries b) replayed_entries-fresh))
    (λ b low. refl)

-- Each image of it may be left.
pub IsLeftInJournal-fresh : EachImage (IsLeftInJournal journal_format (opened fresh.base)) content
IsLeftInJournal-fresh = standing_left_law (device_format Journal journal_format) (opened fresh.base) _ fresh (empty_ring fresh.geometry fresh.next fresh.number) content IsJournalDevice-fresh StandsFor-fresh
