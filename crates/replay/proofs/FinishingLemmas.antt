-- What the state of a journal says once its entries are in place.
use Rattle.std.proofs.Common.{◌≡◌, ◌↔◌, ◌⊎◌, inl, inr, ℕ, ◌*◌, ◌<◌, Bool, false, refl, sym, ◌∙◌, ap, subst, arith, Some, Result, IfOk, List, [], ◌∷◌, length}
use Rattle.image_model.specs.declared.journal_plan.Plan.{Plan}
use Rattle.image_model.specs.declared.journal_plan.State.TheVariants.{Rest, Mixed, Erasing}
use Rattle.image_model.specs.declared.scan_fault.ScanFault.{ScanFault}
use Rattle.image_model.specs.Cells.{replayed_entries}
use Rattle.image_model.specs.Geometry.{Geometry, IsGeometry, journal_sectors, section_sectors}
use Rattle.image_model.specs.Grid.{IsGridOf}
use Rattle.image_model.specs.Tables.{IsPlanOf, has_number}
use Rattle.image_model.specs.Walk.{newest, sections_of}
use Rattle.commit_id.specs.Grid.{as_grid}
use Rattle.image_model.proofs.NumberLemmas.{newest_tells}
use Rattle.image_model.proofs.ScanLemmas.{scan_law}
use Rattle.place_model.specs.Journal.{numbers_on}
use Rattle.journal_model.specs.JournaledDisk.{JournaledDisk}
use Rattle.journal_model.specs.Opening.{HasNewest, TellsNumbers}
use Rattle.journal_model.proofs.OpeningLemmas.{state_law}
use Rattle.journal_erasure.specs.declared.erasure.Erasure.{Erasure}
use Rattle.journal_erasure.specs.declared.newest.NewestSectors.{NewestSectors}
use Rattle.journal_erasure.specs.declared.newest.NewestSectors.TheVariants.{Scanned, First}
use Rattle.journal_erasure.specs.Erasing.{IsErasureFor, IsErasureOf, erasure_at_rest}
use Rattle.journal_erasure.specs.Newest.{HasSectors, IsScanned}
use Rattle.journal_erasure.proofs.LawsLemmas.{rest_erasure_law, scanned_erasure_law}
use Rattle.journal_reading.specs.declared.reading.JudgedJournal.{JudgedJournal}
use Rattle.journal_reading.specs.Journal.{FitsJournal}
use Rattle.disk_model.specs.Disk.{Content, HasNothingPending}
use Rattle.journal_model.specs.Steps.{KeepsCells}
use Rattle.replay.specs.declared.recovered.Recovered.{Recovered}
use Rattle.replay.specs.Recovery.{GoesOnIn, IsAtRestOn, IsReplayed, LeavesRecovered}
use Rattle.disk_model.specs.Moments.{content_now}
use Rattle.tag_store.specs.Store.{Store, given_tags}
use Rattle.replay.proofs.RecoveryLemmas.{KeepsCells-moved, moved, settled_recovered}

-- The plan follows the rules of the scan.
pub rules : (g : Geometry) (journal : JudgedJournal) → FitsJournal g journal → IsPlanOf (as_grid journal.grid) (sections_of journal.plan.walk) journal.plan.state
rules g journal fits =
    subst (λ (r : Result Plan ScanFault). IfOk r (λ (plan : Plan). IsPlanOf (as_grid journal.grid) (sections_of plan.walk) plan.state)) fits.plan_ (scan_law (as_grid journal.grid) fits.grid_.is_grid).plan

-- A journal at rest goes on in one of its sections.
pub rest_place : (g : Geometry) (journal : JudgedJournal) (next number : ℕ) (used : Bool) → FitsJournal g journal → journal.plan.state ≡ Rest next number
    → GoesOnIn g (record { next = next; number = number; used = used })
rest_place g journal next number used fits state =
    let at = (subst (IsPlanOf (as_grid journal.grid) (sections_of journal.plan.walk)) state (rules g journal fits)).0 in
    let inside = at.inside in
    let sections = fits.grid_.sections in
    record { next = omega (arith, inside, sections); number = at.low }

-- What is told of a disk whose journal it is.
module _ (d : JournaledDisk) (g : Geometry) (sectors : ℕ) (journal : JudgedJournal) (geometry : IsGeometry g sectors) (replayed : IsReplayed d g journal) where
  -- Its numbers are those that the state tells,
  pub tells_there : TellsNumbers d.geometry d.journal journal.plan
  tells_there = subst (λ (x : Geometry). TellsNumbers x d.journal journal.plan) (sym replayed.geometry) (state_law g sectors d.journal journal.plan geometry replayed.on.plan_)

  -- and the scanned erasure is one of it.
  pub erasure_there : (erasure : Erasure) → erasure.first < g.sections → (journal.plan.state ≡ Mixed erasure.number) ⊎ (journal.plan.state ≡ Erasing erasure.number)
      → IsScanned erasure.newest (as_grid journal.grid).cells erasure.number → IsErasureOf g erasure d
  erasure_there erasure first state scanned =
      let has : HasNewest d.geometry.sections (section_sectors d.geometry.shape) erasure.number (numbers_on d.geometry d.journal) =
      elim state [ inl mixed ↦ tells_there.mixed erasure.number mixed | inr erasing ↦ tells_there.erasing erasure.number erasing ] in
      let law = scanned_erasure_law d (as_grid journal.grid) erasure (subst (λ (x : Geometry). IsGridOf x d.journal (as_grid journal.grid)) (sym replayed.geometry) replayed.on.grid_) replayed.settled
      (subst (λ (x : Geometry). erasure.first < x.sections) (sym replayed.geometry) first) has scanned in
      subst (λ (x : Geometry). IsErasureOf x erasure d) replayed.geometry law.1

-- Such an erasure fits the journal.
pub erasure_fits : (g : Geometry) (journal : JudgedJournal) (erasure : Erasure) → FitsJournal g journal → erasure.first < g.sections
    → (journal.plan.state ≡ Mixed erasure.number) ⊎ (journal.plan.state ≡ Erasing erasure.number) → IsScanned erasure.newest (as_grid journal.grid).cells erasure.number → IsErasureFor g erasure
erasure_fits g journal erasure fits first state scanned =
    let grid = as_grid journal.grid in
    let newest_is : newest (has_number grid) ≡ Some erasure.number = elim state [
      | inl mixed ↦ (subst (IsPlanOf grid (sections_of journal.plan.walk)) mixed (rules g journal fits)).1
      | inr erasing ↦ (subst (IsPlanOf grid (sections_of journal.plan.walk)) erasing (rules g journal fits)).1
    ] in
    record {
      number = (newest_tells (has_number grid) erasure.number newest_is).0;
      first = first;
      told = by_cells erasure.newest scanned;
    }
  where
    all : length (as_grid journal.grid).cells ≡ journal_sectors g
    all =
        fits.grid_.is_grid.cells
        ∙ ap (λ (n : ℕ). n * (as_grid journal.grid).sectors) fits.grid_.sections
        ∙ ap (λ (n : ℕ). g.sections * n) fits.grid_.sectors

    by_cells : (newest : NewestSectors) → IsScanned newest (as_grid journal.grid).cells erasure.number → HasSectors newest (journal_sectors g)
    by_cells (Scanned cells number) same = omega (arith, all, ap length same.0)
    by_cells (First count) same = absurd same

-- A list of a count is empty exactly where the count is zero.
pub no_entries : {A : Type 0} (xs : List A) → (length xs ≡ 0) ↔ (xs ≡ [])
no_entries [] = (λ _. refl, λ _. refl)
no_entries (x ∷ xs) = (λ none. absurd (omega arith), λ none. absurd (cc))

-- A journal at rest goes on as its state tells.
pub rest_left : (d : JournaledDisk) (g : Geometry) (sectors : ℕ) (journal : JudgedJournal) (next number : ℕ) (at : Recovered) (tags : ℕ → List ℕ) (c : Content) → IsGeometry g sectors
    → IsReplayed d g journal → journal.plan.state ≡ Rest next number
    → at.next ≡ next → at.number ≡ number → ((at.used ≡ false) ↔ ((next ≡ 0) × (journal.count ≡ 0))) → KeepsCells d tags c → HasNothingPending c → LeavesRecovered d at tags c
unfolding settled_recovered
rest_left d g sectors journal next number at tags c geometry replayed state next_is number_is used keeps pending =
    let rest = (tells_there d g sectors journal geometry replayed).rest next number state in
    let there = settled_recovered d (moved d next number) tags c (KeepsCells-moved d next number tags c keeps) (record { at = rest }) replayed.settled replayed.placed refl (λ b low. refl) in
    let entries : replayed_entries d.geometry d.journal ≡ replayed_entries g d.journal = ap (λ (x : Geometry). replayed_entries x d.journal) replayed.geometry in
    subst (λ (n : ℕ). LeavesRecovered d (record { next = n; number = at.number; used = at.used }) tags c) (sym next_is)
    (subst (λ (n : ℕ). LeavesRecovered d (record { next = next; number = n; used = at.used }) tags c) (sym number_is)
    (record {
      recovered = there;
      pending = pending;
      unused = (
        λ none. let both = used.0 none in (both.0, entries ∙ (no_entries (replayed_entries g d.journal)).0 (sym replayed.on.count_ ∙ both.1)),
        λ both. used.1 (both.0, replayed.on.count_ ∙ (no_entries (replayed_entries g d.journal)).1 (sym entries ∙ both.1)),
      );
    }))

-- The erasure of a journal at rest is one of a disk that is at rest so.
pub erasure_at : (d : JournaledDisk) (g : Geometry) (at : Recovered) (store : Store) (moments : List Content) → IsAtRestOn d at store moments → g ≡ store.geometry → IsErasureOf g (erasure_at_rest g at.next at.number) d
erasure_at d g at store moments rest same =
    let law = (rest_erasure_law d rest.cells.sound rest.rests rest.settled).1 in
    subst (λ (n : ℕ). IsErasureOf g (erasure_at_rest g at.next n) d) rest.number_is
    (subst (λ (n : ℕ). IsErasureOf g (erasure_at_rest g n d.number) d) rest.next_is
    (subst (λ (x : Geometry). IsErasureOf x (erasure_at_rest x d.next d.number) d) (rest.cells.geometry ∙ sym same) law))

-- Where nothing is used it is left as it is.
pub unused_left : (d : JournaledDisk) (at : Recovered) (store : Store) (moments : List Content) (c : Content) → IsAtRestOn d at store moments → at.used ≡ false → content_now moments ≡ Some c → LeavesRecovered d at (given_tags store c) c
unfolding settled_recovered
unused_left d at store moments c rest none told =
    let tags = given_tags store c in
    let there = settled_recovered d d tags c (rest.cells.now c told) rest.rests rest.settled rest.placed refl (λ b low. refl) in
    subst (λ (n : ℕ). LeavesRecovered d (record { next = n; number = at.number; used = at.used }) tags c) rest.next_is
    (subst (λ (n : ℕ). LeavesRecovered d (record { next = d.next; number = n; used = at.used }) tags c) rest.number_is
    (record {
      recovered = there;
      pending = rest.pending c told;
      unused = (λ _. let both = rest.unused none in (rest.next_is ∙ both.0, both.1), λ _. none);
    }))
