-- A place and a settle, as steps of the device.
use Rattle.std.proofs.Common.{◌≡◌, inl, inr, ℕ, ◌-◌, ◌≤◌, leb, min, Bool, true, false, ◌||◌, if◌then◌else◌, refl, sym, ◌∙◌, ap, subst, arith, Some, None, List, [], ◌∷◌, ◌++◌, length, map}
use Rattle.std.specs.Prelude.{Result, Ok, Err, IfOk, OnOk}
use Rattle.std.specs.List.{AllByRecursion, list_any}
use Rattle.std.proofs.lemmas.Bool.{cases_lt, false≢true, le-leb, lt-leb}
use Rattle.std.proofs.lemmas.List.{length-map}
use Rattle.image_model.proofs.NumberLemmas.{cases_option}
use Rattle.disk_model.specs.Disk.{Content}
use Rattle.disk_model.proofs.MomentsLemmas.{EachMoment-weaker}
use Rattle.image_model.specs.Geometry.{Geometry}
use Rattle.image_model.specs.Section.{Entry}
use Rattle.device_model.specs.History.{History}
use Rattle.device_model.specs.Journal.{Closed, Committed, Free, JournalCounts, Open, SectionCounts, SectionState, as_settled, is_all_placed, is_committed, is_uncommitted, place, settle}
use Rattle.device_model.specs.Mode.{DeviceFormat}
use Rattle.journal_laws.specs.Device.{AreOpened, IsJournalOf, block_of, committed_counts, placed_count}
use Rattle.journal_laws.proofs.RingLemmas.{committed_low, freed_settled}
use Rattle.journal_laws.proofs.StepLemmas.{idle_place_law, idle_settle_law, place_law, settle_law}
use Rattle.journal_model.specs.JournaledDisk.{JournaledDisk}
use Rattle.journal_model.specs.Ring.{JournalRing, entries_of, uncommitted_entries, unplaced_from, with_settle}
use Rattle.journal_model.specs.Steps.{after_settle}
use Rattle.journal_model.proofs.HistoryLemmas.{left_law}
use Rattle.journal_ring.specs.declared.ring.Moved.{Moved}
use Rattle.journal_ring.specs.declared.ring.Moved.TheVariants.{Did, Idle}
use Rattle.direct_laws.specs.CallLaws.{GivesTags}
use Rattle.replay.specs.Moves.{GivesNext, HasPlaced, HasSettled, IsLeftOn, IsPlacedOn, StandsThrough, after_placing}
use Rattle.replay.specs.Placement.{placed_in}
use Rattle.replay.specs.DeclaredPlacement.{Placement}
use Rattle.tag_store.specs.Store.{Store, given_tags}
use Rattle.journal_mode.specs.Journal.{PlacedRing}
use Rattle.journal_mode.specs.Moves.{PlacesAs, SettlesAs}
use Rattle.journal_mode.specs.Standing.{IsLeftThrough, JournalStanding, StandsAs}
use Rattle.journal_mode.proofs.GivesLemmas.{IsTold, tags_idle, tags_kept, tags_placed, tags_settled}

-- What holds of what a call gives, by two clauses of it.
pub if_ok_both : {T E : Type 0} (r : Result T E) (P Q S : T → Type 0) → ((x : T) → P x → Q x → S x) → IfOk r P → IfOk r Q → IfOk r S
if_ok_both (Ok x) P Q S f p q = f x p q
if_ok_both (Err e) P Q S f p q = tt

-- And with a clause that names nothing of it.
pub if_ok_and : {T E : Type 0} (r : Result T E) (P : T → Type 0) (Q : Type 0) → IfOk r P → OnOk r Q → IfOk r (λ x. P x × Q)
if_ok_and (Ok x) P Q p q = (p, q)
if_ok_and (Err e) P Q p q = tt

-- ---- at each moment

-- Each image is a cut of the disk with no entry more, so it may be left of the device.
pub left_cut : (w : JournalStanding) (journal : PlacedRing) (store : Store) (d : JournaledDisk) {before after : List Content} → StandsAs w journal store before → StandsThrough d w.disk before after → IsLeftThrough w before after
left_cut w journal store d stands through =
    EachMoment-weaker (λ c each image is_image. left_law w.disk (uncommitted_entries journal.ring) 0 w.history image stands.device.history (each image is_image)) through.cuts

-- ---- a place

module _ (w : JournalStanding) (journal : PlacedRing) (store : Store) (moments : List Content) (stands : StandsAs w journal store moments) where
  abbrev d : JournaledDisk
  d = w.disk

  abbrev ring : JournalRing
  ring = journal.ring

  -- All entries of the disk are placed exactly where those of the ring are.
  pub all_of_disk : placed_in journal.placement ring ≡ length (entries_of ring.committed) → w.disk.placed ≡ length w.disk.entries
  all_of_disk all =
      let device = stands.device in
      omega (arith, all, stands.placed.placed, committed_low d ring device.sound device.is_ring, freed_settled d ring device.sound device.is_ring, device.sound.formed.settled_low, device.sound.formed.placed_low)

  all_of_ring : w.disk.placed ≡ length w.disk.entries → placed_in journal.placement ring ≡ length (entries_of ring.committed)
  all_of_ring all =
      let device = stands.device in
      omega (arith, all, stands.placed.placed, committed_low d ring device.sound device.is_ring)

  pub places_as : (moved : Moved) (new : Placement) (then_ : Store) (after : List Content) {A : Type 0} (first last : A) → HasPlaced moved journal.placement new ring store then_ first last
      → IsPlacedOn (after_placing moved w.disk) new ring then_ after → ring.geometry ≡ store.geometry → IsTold moments after → GivesNext journal.placement ring store then_ moments after
      → PlacesAs moved w (record journal { placement = new }) store then_ moments after
  places_as Did new then_ after first last has on same told gives = elim (cases_option (place w.counts)) [
    | inl none ↦ absurd (let all = all_of_ring ((idle_place_law w.format w.history w.counts d ring stands.device).1 none) in omega (arith, all, has.more))
    | inr there ↦ record {
      counts = there.0;
      counts_are = there.1;
      stands = record { device = (place_law w.format w.history w.counts there.0 d ring stands.device there.1).1; placed = on };
      gives = tags_placed d journal.placement ring store then_ moments after stands.placed same has.more told gives;
    }
  ]
  places_as Idle new then_ after first last has on same told gives = record {
    none = (idle_place_law w.format w.history w.counts d ring stands.device).0 (all_of_disk has.all);
    stands = record { device = stands.device; placed = on };
    gives = tags_idle d journal.placement ring store then_ moments after stands.placed same has.all told gives;
  }

-- ---- a settle

pub unplaced_few : (q : ℕ) (xs : List (List Entry)) → length (unplaced_from q xs) ≤ length xs
unplaced_few q [] = omega arith
unplaced_few q (x ∷ xs) = by (leb (length x) q) (unplaced_few (q - length x) xs)
  where
    by : (t : Bool) → length (unplaced_from (q - length x) xs) ≤ length xs → length (if t then unplaced_from (q - length x) xs else x ∷ xs) ≤ length (x ∷ xs)
    by true few = omega (arith, few)
    by false few = omega arith

-- Sections that are free or opened are none to settle,
others_first : (front op : List SectionCounts) → AllByRecursion (λ (s : SectionCounts). is_committed s.state ≡ false) front → list_any is_all_placed (front ++ op) ≡ list_any is_all_placed op
others_first [] op idle = refl
others_first (s ∷ front) op idle = rw (idle.0, others_first front op idle.1) refl

free_idle : (free : List SectionCounts) → AllByRecursion (λ (s : SectionCounts). s.state ≡ Free) free → AllByRecursion (λ (s : SectionCounts). is_committed s.state ≡ false) free
free_idle [] all = tt
free_idle (s ∷ free) all = (ap is_committed all.0, free_idle free all.1)

uncommitted_idle : (t : SectionState) → is_uncommitted t ≡ true → is_committed t ≡ false
uncommitted_idle Open e = refl
uncommitted_idle Closed e = refl
uncommitted_idle Committed e = absurd (false≢true e)
uncommitted_idle Free e = refl

opened_none : (g : Geometry) (closed : Bool) (opened : List (List Entry)) (op : List SectionCounts) → AreOpened g closed opened op → list_any is_all_placed op ≡ false
opened_none g closed [] [] are = refl
opened_none g closed [] (s ∷ op) are = absurd are
opened_none g closed (x ∷ opened) [] are = absurd are
opened_none g closed (x ∷ opened) (s ∷ op) are = rw (uncommitted_idle s.state are.0.uncommitted, opened_none g closed opened op are.1) refl

-- nor are committed ones of which none is placed,
none_placed : (g : Geometry) (q : ℕ) (xs : List (List Entry)) (op : List SectionCounts) → q ≡ 0 → AllByRecursion (λ (x : List Entry). 1 ≤ length x) xs → list_any is_all_placed op ≡ false
    → list_any is_all_placed (committed_counts g q xs ++ op) ≡ false
none_placed g q [] op zero_ some none = none
none_placed g q (x ∷ xs) op zero_ some none =
    let test : leb (length (map (block_of g) x)) (min q (length x)) ≡ false = lt-leb (length (map (block_of g) x)) (min q (length x)) (omega (arith, length-map x (block_of g), some.0, zero_)) in
    ap (λ (t : Bool). t || list_any is_all_placed (committed_counts g (q - length x) xs ++ op)) test
    ∙ none_placed g (q - length x) xs op (omega (arith, zero_)) some.1 none

-- nor those of which the first is not wholly placed.
none_settled : (g : Geometry) (q : ℕ) (xs : List (List Entry)) (op : List SectionCounts) → AllByRecursion (λ (x : List Entry). 1 ≤ length x) xs → unplaced_from q xs ≡ xs → list_any is_all_placed op ≡ false
    → list_any is_all_placed (committed_counts g q xs ++ op) ≡ false
none_settled g q [] op some same none = none
none_settled g q (x ∷ xs) op some same none = elim (cases_lt q (length x)) [
  | inl here ↦
      let test : leb (length (map (block_of g) x)) (min q (length x)) ≡ false = lt-leb (length (map (block_of g) x)) (min q (length x)) (omega (arith, length-map x (block_of g), here)) in
      ap (λ (t : Bool). t || list_any is_all_placed (committed_counts g (q - length x) xs ++ op)) test
      ∙ none_placed g (q - length x) xs op (omega (arith, here)) some.1 none
  | inr past ↦
      let goes : unplaced_from q (x ∷ xs) ≡ unplaced_from (q - length x) xs = ap (λ (t : Bool). if t then unplaced_from (q - length x) xs else x ∷ xs) (le-leb (length x) q past) in
      absurd (omega (arith, ap length (sym goes ∙ same), unplaced_few (q - length x) xs))
]

-- Where the ring keeps all its sections the counts have nothing to settle.
pub idle_counts : (f : DeviceFormat) (h : History) (j : JournalCounts) (d : JournaledDisk) (r : JournalRing) → IsJournalOf f h j d r → with_settle (placed_count d r) r ≡ r → settle j ≡ None
idle_counts f h j d r is same =
    let c = is.counts in
    let q = placed_count d r in
    let none : list_any is_all_placed j.sections ≡ false =
    ap (list_any is_all_placed) c.sections
    ∙ others_first c.free (committed_counts d.geometry q r.committed ++ c.opened) (free_idle c.free c.all_free)
    ∙ none_settled d.geometry q r.committed c.opened is.is_ring.some_committed (ap (λ (x : JournalRing). x.committed) same) (opened_none d.geometry r.closed r.opened c.opened c.are_opened) in
    ap (λ (t : Bool). if t then Some (let k : JournalCounts = record j { sections = map as_settled j.sections } in k) else None) none

pub settles_as : (w : JournalStanding) (journal : PlacedRing) (store : Store) (before : List Content) (moved : Moved) (new : Placement) (left : JournalRing) (then_ : Store) (after : List Content) {A : Type 0} (first last : A)
    → StandsAs w journal store before → HasSettled moved journal.placement new journal.ring left store then_ first last → IsLeftOn moved w.disk new left then_ after
    → IsTold before after → GivesTags store.geometry (given_tags store) (given_tags then_) before after → SettlesAs moved w (record { ring = left; placement = new }) store then_ before after
settles_as w journal store before Did new left then_ after first last stands has on told gives =
    let d = w.disk in
    let ring = journal.ring in
    let part : left ≡ with_settle (placed_count d ring) ring = has.left_is ∙ ap (λ (q : ℕ). with_settle q ring) (sym stands.placed.placed) in
    elim (cases_option (settle w.counts)) [
      | inl none ↦ absurd (has.some (ap (λ (q : ℕ). with_settle q ring) (sym stands.placed.placed) ∙ idle_settle_law w.format w.history w.counts d ring stands.device none))
      | inr there ↦ record {
        counts = there.0;
        counts_are = there.1;
        stands = record {
          device = subst (IsJournalOf w.format w.history there.0 (after_settle d)) (sym part) (settle_law w.format w.history w.counts there.0 d ring stands.device there.1);
          placed = on.on;
        };
        gives = tags_settled d store then_ before after stands.placed.cells.geometry told gives;
        images = on.images;
      }
    ]
settles_as w journal store before Idle new left then_ after first last stands has on told gives = record {
  none = idle_counts w.format w.history w.counts w.disk journal.ring stands.device (ap (λ (q : ℕ). with_settle q journal.ring) stands.placed.placed ∙ has.none);
  stands = record {
    device = subst (IsJournalOf w.format w.history w.counts w.disk) (sym has.ring_) stands.device;
    placed = on;
  };
  gives = tags_kept w.disk w.disk store then_ before after stands.placed.cells.geometry (λ n low. refl) told gives;
}
