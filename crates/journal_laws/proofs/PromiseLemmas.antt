-- What a cut leaves of a device in journal mode, and what its reads give.
use Rattle.std.proofs.Common.{◌≡◌, ℕ, zero, suc, ◌+◌, ◌*◌, ◌<◌, refl, sym, ◌∙◌, ap, subst, arith, Option, Some, None, List, [], ◌∷◌, ◌++◌, length, take, drop, slice_get, append_assoc, append-nil}
use Rattle.std.specs.Option.{option_or, option_to_list}
use Rattle.std.proofs.lemmas.Bool.{eq-eqb}
use Rattle.std.proofs.lemmas.List.{take-append-drop, drop-drop}
use Rattle.std.proofs.lemmas.Option.{none-some, same_Some}
use Rattle.disk_model.specs.Disk.{Image}
use Rattle.image_model.specs.Cells.{last_entry}
use Rattle.image_model.specs.Geometry.{Geometry}
use Rattle.image_model.specs.Section.{Entry}
use Rattle.device_model.specs.Cut.{all_writes}
use Rattle.device_model.specs.History.{Tagger, BlockWrite, History, cells_now, cells_after}
use Rattle.device_model.specs.Journal.{JournalCounts}
use Rattle.device_model.specs.Mode.{DeviceFormat}
use Rattle.place_model.specs.Left.{IsLeftInJournal}
use Rattle.place_model.specs.Format.{tagger_of}
use Rattle.place_model.specs.Blocks.{GivesCell}
use Rattle.journal_model.specs.Entries.{cell_of, cell_after}
use Rattle.journal_model.specs.JournaledDisk.{JournaledDisk, IsCutOf}
use Rattle.journal_model.specs.Steps.{after_place, after_settle}
use Rattle.journal_model.proofs.EntriesLemmas.{last_entry-append, last_entry-none, last_entry-some, cell_after-append, cell_after-some}
use Rattle.journal_model.proofs.HistoryLemmas.{left_law, cell_after-writes}
use Rattle.journal_model.proofs.KeepsLemmas.{placed_read_law}
use Rattle.journal_model.proofs.StepLemmas.{standing_law, committing_law}
use Rattle.journal_model.specs.Ring.{JournalRing, entries_of, uncommitted_entries, next_batch, with_settle}
use Rattle.journal_model.proofs.JournalRingLemmas.{entries_of-append, entries_of-take}
use Rattle.journal_laws.specs.Device.{freed_count, placed_count, IsJournalOf}
use Rattle.journal_laws.specs.PromiseLaws.{StandingLeftLaw, CommittingLeftLaw, PlacingLeftLaw, SettlingLeftLaw, newest_entry, NewestPlaceLaw, JournaledReadLaw, PlacedReadLaw}
use Rattle.journal_laws.proofs.FormatLemmas.{blocks-is, tag-is}
use Rattle.journal_laws.proofs.StepLemmas.{placed_is, settled_is}
use Rattle.journal_laws.proofs.CommitLemmas.{commit-some, told, batch}
use Rattle.journal_laws.proofs.RingLemmas.{held_at, freed_settled}

-- ---- at a cut

left_of : (f : DeviceFormat) (h : History) (j : JournalCounts) (d : JournaledDisk) (r : JournalRing) (count : ℕ) (image : Image) → IsJournalOf f h j d r
    → IsCutOf d (take count (uncommitted_entries r)) image → IsLeftInJournal d.format h image
left_of f h j d r count image is cut = left_law d (uncommitted_entries r) count h image is.history cut

pub standing_left_law : StandingLeftLaw
standing_left_law f h j d r c is stands image is_image = left_of f h j d r 0 image is (standing_law d c stands image is_image)

pub committing_left_law : CommittingLeftLaw
committing_left_law f h j j' d r bytes first c is commits are stands adds image is_image =
    let some = (commit-some f.sections j j' commits).0 in
    let cut = committing_law d (next_batch r) bytes first c stands is.is_ring.rests (batch f h j d r bytes is some are) adds image is_image in
    let count = length (entries_of (take (next_batch r) r.opened)) in
    left_of f h j d r count image is (subst (λ (xs : List Entry). IsCutOf d xs image) (told f h j d r bytes is some are ∙ sym (entries_of-take (next_batch r) r.opened)) cut)

pub placing_left_law : PlacingLeftLaw
placing_left_law f h j d r c is less stands = standing_left_law f h _ (after_place d) r c (placed_is f h j d r is less) stands

pub settling_left_law : SettlingLeftLaw
settling_left_law f h j d r c is stands = standing_left_law f h _ (after_settle d) (with_settle (placed_count d r) r) c (settled_is f h j d r is) stands

-- ---- the newest entry

pub last_entry-here : (g : Geometry) (entry : Entry) (xs : List Entry) (b : ℕ) → entry.sector ≡ b * g.shape.spb → last_entry g xs b ≡ None → last_entry g (entry ∷ xs) b ≡ Some entry
last_entry-here g entry xs b is none =
    let e = last_entry-append g (entry ∷ []) xs b in
    let one : last_entry g (entry ∷ []) b ≡ Some entry = rw (eq-eqb entry.sector (b * g.shape.spb) is) refl in
    e ∙ ap (λ (o : Option Entry). option_or o (last_entry g (entry ∷ []) b)) none ∙ one

pub split_at : {A : Type 0} (xs : List A) (k : ℕ) (x : A) → slice_get xs k ≡ Some x → xs ≡ take k xs ++ x ∷ drop (suc k) xs
split_at [] zero x e = absurd (none-some x e)
split_at [] (suc k) x e = absurd (none-some x e)
split_at (y ∷ xs) zero x e = ap (λ z. z ∷ xs) (same_Some y x e)
split_at (y ∷ xs) (suc k) x e = ap (λ zs. y ∷ zs) (split_at xs k x e)

pub newest_place_law : NewestPlaceLaw
newest_place_law g sections b i n entry is =
    let entries = is.entries in
    let inner : last_entry g entries b ≡ Some entry =
    ap (λ (xs : List Entry). last_entry g xs b) (split_at entries n entry is.there)
    ∙ last_entry-some g (take n entries) (entry ∷ drop (suc n) entries) b entry (last_entry-here g entry (drop (suc n) entries) b is.block is.last_in_section) in
    let whole : entries_of sections ≡ entries_of (take i sections) ++ (entries ++ entries_of (drop (suc i) sections)) =
    ap entries_of (split_at sections i entries is.section) ∙ entries_of-append (take i sections) (entries ∷ drop (suc i) sections) in
    let last : last_entry g (entries ++ entries_of (drop (suc i) sections)) b ≡ Some entry =
    last_entry-append g entries (entries_of (drop (suc i) sections)) b ∙ ap (λ (o : Option Entry). option_or o (last_entry g entries b)) is.none_behind ∙ inner in
    ap (λ (xs : List Entry). last_entry g xs b) whole ∙ last_entry-some g (entries_of (take i sections)) (entries ++ entries_of (drop (suc i) sections)) b entry last

-- ---- reads

module _ (f : DeviceFormat) (h : History) (j : JournalCounts) (d : JournaledDisk) (r : JournalRing) (b : ℕ) (is : IsJournalOf f h j d r) (idle : h.pending ≡ None) (low : b < f.blocks.blocks) where
  inside : b < d.geometry.blocks
  inside = omega (arith, low, (blocks-is f d.format is.format))

  -- What the block holds now is its cell after all entries.
  pub cell_is : cells_now f.blocks.tag h b ≡ cell_after d.geometry d.base (d.entries ++ uncommitted_entries r) b
  cell_is =
      let g = d.geometry in
      let past = is.history in
      let all : all_writes h ≡ h.writes = ap (λ (o : Option BlockWrite). h.writes ++ option_to_list o) idle ∙ append-nil h.writes in
      let first = cell_after g d.base (take past.opened d.entries) in
      ap (λ (tag : Tagger). cells_after tag h.base h.writes b) (tag-is f d.format is.format)
      ∙ ap (λ (ws : List BlockWrite). cells_after (tagger_of d.format) h.base ws b) (sym all)
      ∙ sym (cell_after-writes d is.sound.formed.is_geometry.spb.0 first h.base (all_writes h) b (past.again b inside ∙ past.base b inside))
      ∙ ap (λ (xs : List Entry). cell_after g first xs b) (sym past.writes)
      ∙ sym (cell_after-append g d.base (take past.opened d.entries) (drop past.opened d.entries ++ uncommitted_entries r) b)
      ∙ ap (λ (xs : List Entry). cell_after g d.base xs b) (sym (append_assoc (take past.opened d.entries) (drop past.opened d.entries) (uncommitted_entries r)) ∙ ap (λ (xs : List Entry). xs ++ uncommitted_entries r) (take-append-drop past.opened d.entries))

  -- The entries end with those of the sections that are not free.
  ends : d.entries ++ uncommitted_entries r ≡ take (freed_count d r) d.entries ++ entries_of (r.committed ++ r.opened)
  ends =
      ap (λ (xs : List Entry). xs ++ uncommitted_entries r) (sym (take-append-drop (freed_count d r) d.entries) ∙ ap (λ (xs : List Entry). take (freed_count d r) d.entries ++ xs) (held_at d r is.sound is.is_ring))
      ∙ append_assoc (take (freed_count d r) d.entries) (entries_of r.committed) (uncommitted_entries r)
      ∙ ap (λ (xs : List Entry). take (freed_count d r) d.entries ++ xs) (sym (entries_of-append r.committed r.opened))

  pub journaled_is : (entry : Entry) → newest_entry d r b ≡ Some entry → cells_now f.blocks.tag h b ≡ cell_of entry
  journaled_is entry newest =
      cell_is ∙ ap (λ (xs : List Entry). cell_after d.geometry d.base xs b) ends
      ∙ cell_after-some d.geometry d.base (take (freed_count d r) d.entries ++ entries_of (r.committed ++ r.opened)) b entry
      (last_entry-some d.geometry (take (freed_count d r) d.entries) (entries_of (r.committed ++ r.opened)) b entry newest)

  pub none_left : newest_entry d r b ≡ None → last_entry d.geometry (drop d.placed d.entries ++ uncommitted_entries r) b ≡ None
  none_left none =
      let p = placed_count d r in
      let count : freed_count d r + p ≡ d.placed = omega (arith, freed_settled d r is.sound is.is_ring, is.sound.formed.settled_low) in
      let rest : drop d.placed d.entries ≡ drop p (entries_of r.committed) =
      ap (λ (m : ℕ). drop m d.entries) (sym count) ∙ sym (drop-drop p (freed_count d r) d.entries) ∙ ap (drop p) (held_at d r is.sound is.is_ring) in
      let whole : entries_of (r.committed ++ r.opened) ≡ take p (entries_of r.committed) ++ (drop d.placed d.entries ++ uncommitted_entries r) =
      entries_of-append r.committed r.opened
      ∙ ap (λ (xs : List Entry). xs ++ uncommitted_entries r) (sym (take-append-drop p (entries_of r.committed)))
      ∙ append_assoc (take p (entries_of r.committed)) (drop p (entries_of r.committed)) (uncommitted_entries r)
      ∙ ap (λ (xs : List Entry). take p (entries_of r.committed) ++ (xs ++ uncommitted_entries r)) (sym rest) in
      (last_entry-none d.geometry (take p (entries_of r.committed)) (drop d.placed d.entries ++ uncommitted_entries r) b (ap (λ (xs : List Entry). last_entry d.geometry xs b) (sym whole) ∙ none)).1

pub journaled_read_law : JournaledReadLaw
journaled_read_law f h j d r b entry is idle low newest = journaled_is f h j d r b is idle low entry newest

pub placed_law : PlacedReadLaw
placed_law f h j d r b tags c is idle low none keeps =
    let reads = placed_read_law d tags c (uncommitted_entries r) b (inside f h j d r b is idle low) keeps (none_left f h j d r b is idle low none) in
    subst (GivesCell d.format b (tags b) c) (sym (cell_is f h j d r b is idle low)) reads
