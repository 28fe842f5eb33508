-- The first fault of a journal's entries, and what is kept of those before it.
use Rattle.std.proofs.Common.{◌≡◌, ◌≢◌, inl, inr, ℕ, zero, suc, ◌+◌, ◌/◌, ◌<◌, ◌≤◌, refl, sym, ◌∙◌, ap, subst, arith, Option, Some, None, option_and_then, Result, Ok, Err, IfOk, List, [], ◌∷◌, ◌++◌, length, take, filter_map, slice_get, true, false, bytes_eq}
use Rattle.std.proofs.lemmas.Bool.{cases_Bool, cases_eq, ne_eqb}
use Rattle.std.proofs.lemmas.Nat.{div_below}
use Rattle.std.proofs.lemmas.Slice.Eq.{bytes_eq-Decides}
use Rattle.std.proofs.lemmas.List.{take_more, take_all}
use Rattle.std.proofs.lemmas.List.Elements.{filter_map-append}
use Rattle.std.proofs.lemmas.Option.{none-some, same_Some, slice_get_within, get_or_from_slice_get}
use Rattle.disk_model.specs.Disk.{Image}
use Rattle.image_model.specs.declared.entry_place.EntryPlace.{EntryPlace}
use Rattle.image_model.specs.declared.journal_plan.Plan.{Plan}
use Rattle.image_model.specs.declared.scan_fault.ScanFault.{ScanFault}
use Rattle.image_model.specs.Cells.{block_tag, entry_of}
use Rattle.image_model.specs.Geometry.{Geometry, section_at, section_sectors}
use Rattle.image_model.specs.Grid.{IsGridOf, walk_of}
use Rattle.image_model.specs.Openable.{JournalBlock, JournalFault, JournalTag, Scan, entry_fault, is_block_start, journal_fault_of}
use Rattle.image_model.specs.Section.{Entry, entry_at}
use Rattle.image_model.specs.Sectors.{bytes_at}
use Rattle.image_model.proofs.NumberLemmas.{cases_option}
use Rattle.image_model.proofs.OpenableLemmas.{entry_fault_none}
use Rattle.commit_id.specs.Grid.{as_grid}
use Rattle.hmac_tag.specs.TagMaker.{TagRule}
use Rattle.image_refusal.specs.declared.call_fault.CallFault.{CallFault}
use Rattle.image_refusal.specs.declared.call_fault.CallFault.TheVariants.{Memory, Disk, Refused}
use Rattle.image_refusal.specs.declared.journal_fault.JournalFault as causes
use Rattle.image_refusal.specs.Causes.{as_fault}
use Rattle.journal_reading.specs.declared.reading.JudgedJournal.{JudgedJournal}
use Rattle.journal_reading.specs.Faults.{refusal_in}
use Rattle.journal_reading.specs.Index.{AddsEntry}
use Rattle.journal_reading.specs.Journal.{IsJudgedOn}
use Rattle.journal_reading.specs.Judging.{IsJudgedAt, StaysInside, entry_on}
use Rattle.journal_reading.specs.Newest.{newest_in}
use Rattle.journal_reading.specs.Places.{places_of}
use Rattle.journal_reading.proofs.IndexLemmas.{IsIndexUpTo, index-next, index-none, index_all, index_count}

-- ---- a list, up to an element

module _ {X Y : Type 0} (f : X → Option Y) where
  -- Of the front nothing is kept, and nothing of the next element: so it is of a front with that.
  pub kept_none-more : (xs : List X) (k : ℕ) (x : X) → slice_get xs k ≡ Some x → filter_map f (take k xs) ≡ [] → f x ≡ None → filter_map f (take (k + 1) xs) ≡ []
  kept_none-more xs k x there before none =
      let low = slice_get_within xs k x there in
      ap (filter_map f) (take_more xs k x low ∙ ap (λ (y : X). take k xs ++ y ∷ []) (get_or_from_slice_get xs k x x there))
      ∙ filter_map-append f (take k xs) (x ∷ [])
      ∙ rw (before, none) refl

  -- Where something is, it is the first.
  pub kept_first : (xs : List X) (k : ℕ) (x : X) (y : Y) → slice_get xs k ≡ Some x → filter_map f (take k xs) ≡ [] → f x ≡ Some y → slice_get (filter_map f xs) 0 ≡ Some y
  kept_first [] k x y there before some = absurd (none-some x there)
  kept_first (a ∷ xs) zero x y there before some =
      let here : f a ≡ Some y = ap f (same_Some a x there) ∙ some in
      rw here refl
  kept_first (a ∷ xs) (suc k) x y there before some = elim (cases_option (f a)) [
    | inl none ↦ rw none (kept_first xs k x y there (rw none at before) some)
    | inr kept ↦ absurd (no_cons _ _ (rw kept.1 at before))
  ]
    where
      no_cons : (z : Y) (zs : List Y) → z ∷ zs ≡ [] → ⊥
      no_cons z zs e = cc

-- ---- one entry

module _ (key salt : Option (List ℕ)) (g : Geometry) (place : EntryPlace) (entry : Entry) where
  -- An entry where no block begins,
  pub entry_fault-block : is_block_start g entry.sector ≡ false → Some (JournalBlock place.section place.entry entry.sector) ≡ entry_fault key salt g place entry
  unfolding entry_fault
  entry_fault-block fails = sym (rw fails refl)

  -- one with its own tag,
  pub entry_fault-right : is_block_start g entry.sector ≡ true → entry.tag ≡ block_tag key salt g entry.sector entry.bytes → None ≡ entry_fault key salt g place entry
  unfolding entry_fault
  entry_fault-right starts same =
      let equal : bytes_eq entry.tag (block_tag key salt g entry.sector entry.bytes) ≡ true = (bytes_eq-Decides entry.tag (block_tag key salt g entry.sector entry.bytes)).1 same in
      sym (rw (starts, equal) refl)

  -- and one with another.
  pub entry_fault-tag : (computed : List ℕ) → is_block_start g entry.sector ≡ true → computed ≡ block_tag key salt g entry.sector entry.bytes → (entry.tag ≡ computed → ⊥)
      → Some (JournalTag place.section place.entry entry.tag computed) ≡ entry_fault key salt g place entry
  unfolding entry_fault
  entry_fault-tag computed starts is differs = elim (cases_Bool (bytes_eq entry.tag (block_tag key salt g entry.sector entry.bytes))) [
    | inl equal ↦ absurd (differs ((bytes_eq-Decides entry.tag (block_tag key salt g entry.sector entry.bytes)).0 equal ∙ sym is))
    | inr differ ↦ ap (λ (x : List ℕ). Some (JournalTag place.section place.entry entry.tag x)) is ∙ sym (rw (starts, differ) refl)
  ]

-- ---- an entry that is added

module _ (key salt : Option (List ℕ)) (g : Geometry) (place : EntryPlace) (number : ℕ) (old new : ℕ → Option ℕ) (wide : 1 ≤ g.shape.spb) where
  -- One that is not refused is of a block of the device.
  stays_inside : (used : ℕ) (o : Option Entry) → option_and_then (entry_fault key salt g place) o ≡ None → AddsEntry g number o old new used → StaysInside g old new used
  stays_inside used None right adds = record {
    few = let use_ = adds.used_is in omega (arith, use_);
    inside = λ before b k is. before b k (sym (adds.each b) ∙ is);
  }
  stays_inside used (Some entry) right adds =
      let replayable = entry_fault_none key salt g place entry right in
      let low : entry.sector / g.shape.spb < g.blocks = div_below entry.sector g.shape.spb g.blocks wide replayable.inside in
      record {
        few = let use_ = adds.used_is in omega (arith, use_);
        inside = λ before b k is. elim (cases_eq b (entry.sector / g.shape.spb)) [
          | inl same ↦ omega (arith, low, same)
          | inr other ↦ before b k (sym (adds.each b ∙ rw (ne_eqb b (entry.sector / g.shape.spb) other) refl) ∙ is)
        ];
      }

  pub stays_inside_ok : (o : Option Entry) (result : Result ℕ (CallFault causes.JournalFault)) → (result ≢ Err Memory → refusal_in result ≡ option_and_then (entry_fault key salt g place) o)
      → IfOk result (AddsEntry g number o old new) → IfOk result (StaysInside g old new)
  stays_inside_ok o (Ok used) refused added = stays_inside used o (sym (refused (λ e. cc))) added
  stays_inside_ok o (Err fault) refused added = tt

-- An entry that is judged by the bytes of its section is judged as that of the image.
pub judged_at : (rule : TagRule) (g : Geometry) (image : Image) (walk : List (ℕ × ℕ)) (number : ℕ) (place : EntryPlace) (section : List ℕ) (at sectors : ℕ) (old new : ℕ → Option ℕ) (result : Result ℕ (CallFault causes.JournalFault))
    → slice_get (places_of g walk) number ≡ Some place → at ≡ section_at g place.section → sectors ≡ section_sectors g.shape → section ≡ bytes_at image at sectors
    → (result ≢ Err Memory → refusal_in result ≡ option_and_then (entry_fault rule.key rule.salt g place) (entry_at g.shape section place.entry))
    → IfOk result (AddsEntry g number (entry_at g.shape section place.entry) old new) → IsJudgedAt rule g image walk number old new result
judged_at rule g image walk number place section at sectors old new result there at_is sectors_is read refused added =
    let here : entry_at g.shape section place.entry ≡ entry_of g image place =
    ap (λ (xs : List ℕ). entry_at g.shape xs place.entry)
    (read ∙ ap (λ (n : ℕ). bytes_at image n sectors) at_is ∙ ap (λ (n : ℕ). bytes_at image (section_at g place.section) n) sectors_is) in
    let on : entry_of g image place ≡ entry_on g image walk number = sym (ap (option_and_then (entry_of g image)) there) in
    record {
      refused = λ not_memory not_disk.
          refused not_memory
          ∙ ap (option_and_then (entry_fault rule.key rule.salt g place)) here
          ∙ sym (ap (option_and_then (λ (x : EntryPlace). option_and_then (entry_fault rule.key rule.salt g x) (entry_of g image x))) there);
      added = subst (λ (o : Option Entry). IfOk result (AddsEntry g number o old new)) (here ∙ on) added;
    }

-- ---- the journal

module _ (rule : TagRule) (g : Geometry) (image : Image) (plan : Plan) where
  -- Why the entry at a place is refused, if it is used and is.
  abbrev fault_at : EntryPlace → Option JournalFault
  fault_at place = option_and_then (entry_fault rule.key rule.salt g place) (entry_of g image place)

  -- None of the first entries is refused, and they are kept.
  pub record IsJudgedUpTo (k : ℕ) (newest : ℕ → Option ℕ) (count : ℕ) : Type 0 where
    pub right : filter_map fault_at (take k (places_of g plan.walk)) ≡ []
    pub index : IsIndexUpTo g (entry_of g image) (places_of g plan.walk) k newest count

  pub judged-none : (newest : ℕ → Option ℕ) → ((b : ℕ) → newest b ≡ None) → IsJudgedUpTo 0 newest 0
  judged-none newest none = record { right = refl; index = index-none g (entry_of g image) (places_of g plan.walk) newest none }

  -- The next one is judged.
  pub judged-next : (k : ℕ) (place : EntryPlace) (old new : ℕ → Option ℕ) (count used : ℕ) (result : Result ℕ (CallFault causes.JournalFault)) → slice_get (places_of g plan.walk) k ≡ Some place → 1 ≤ g.shape.spb
      → result ≡ Ok used → IsJudgedAt rule g image plan.walk k old new result → IsJudgedUpTo k old count → IsJudgedUpTo (k + 1) new (count + used)
  judged-next k place old new count used result there wide ok judged before =
      let is = subst (IsJudgedAt rule g image plan.walk k old new) ok judged in
      let right : fault_at place ≡ None =
      sym (is.refused (λ e. cc) (λ e. cc) ∙ ap (option_and_then fault_at) there) in
      record {
        right = kept_none-more fault_at (places_of g plan.walk) k place there before.right right;
        index = index-next g (entry_of g image) (places_of g plan.walk) k place old new count used there wide
            (λ entry some. (entry_fault_none rule.key rule.salt g place entry (sym (ap (option_and_then (entry_fault rule.key rule.salt g place)) some) ∙ right)).whole)
            is.added before.index;
      }

  module _ (walk : walk_of g image ≡ Ok plan) where
    fault_of_plan : (first : Option JournalFault) → slice_get (filter_map fault_at (places_of g plan.walk)) 0 ≡ first → journal_fault_of rule.key rule.salt g image ≡ first
    unfolding journal_fault_of
    fault_of_plan first e = rw walk e

    -- Where it is refused the journal is,
    pub judged-refused : (T : Type 0) (k : ℕ) (place : EntryPlace) (old new : ℕ → Option ℕ) (count : ℕ) (result : Result ℕ (CallFault causes.JournalFault)) (fault : CallFault causes.JournalFault) → slice_get (places_of g plan.walk) k ≡ Some place
        → result ≡ Err fault → fault ≢ Memory → fault ≢ Disk → IsJudgedAt rule g image plan.walk k old new result → IsJudgedUpTo k old count
        → refusal_in {T = T} (Err fault) ≡ journal_fault_of rule.key rule.salt g image
    judged-refused T k place old new count result Memory there err not_memory not_disk judged before = absurd (not_memory refl)
    judged-refused T k place old new count result Disk there err not_memory not_disk judged before = absurd (not_disk refl)
    judged-refused T k place old new count result (Refused fault) there err not_memory not_disk judged before =
        let is = subst (IsJudgedAt rule g image plan.walk k old new) err judged in
        let refused : fault_at place ≡ Some (as_fault fault) = sym (is.refused (λ e. cc) (λ e. cc) ∙ ap (option_and_then fault_at) there) in
        sym (fault_of_plan (Some (as_fault fault)) (kept_first fault_at (places_of g plan.walk) k place (as_fault fault) there before.right refused))

    -- and where none is, it is not.
    judged-right : (k : ℕ) (newest : ℕ → Option ℕ) (count : ℕ) → k ≡ length (places_of g plan.walk) → IsJudgedUpTo k newest count → journal_fault_of rule.key rule.salt g image ≡ None
    judged-right k newest count all judged =
        fault_of_plan None (
        ap (λ (xs : List EntryPlace). slice_get (filter_map fault_at xs) 0) (sym (take_all k (places_of g plan.walk) (omega (arith, all))))
        ∙ ap (λ (faults : List JournalFault). slice_get faults 0) judged.right)

    pub judged-all : (journal : JudgedJournal) (k : ℕ) → k ≡ length (places_of g plan.walk) → journal.plan ≡ plan → IsGridOf g image (as_grid journal.grid)
        → IsJudgedUpTo k (newest_in journal.newest) journal.count → IsJudgedOn rule g image journal
    judged-all journal k all plan_is grid judged = record {
      on = record {
        grid_ = grid;
        plan_ = walk ∙ ap (λ (p : Plan). let r : Result Plan ScanFault = Ok p in r) (sym plan_is);
        newest_ = index_all g image plan walk k (newest_in journal.newest) journal.count all judged.index;
        count_ = index_count g image plan walk k (newest_in journal.newest) journal.count all judged.index;
      };
      right = judged-right k (newest_in journal.newest) journal.count all judged;
    }

-- A journal that the scan refuses is refused for that.
pub fault_of_scan : (key salt : Option (List ℕ)) (g : Geometry) (image : Image) (fault : ScanFault) → walk_of g image ≡ Err fault → journal_fault_of key salt g image ≡ Some (Scan fault)
unfolding journal_fault_of
fault_of_scan key salt g image fault is = rw is refl
