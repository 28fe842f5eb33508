-- An image that is settled and then grows, by what its judging tells.
use Rattle.std.proofs.Common.{◌≡◌, inl, ℕ, arith, true, false, refl, sym, ◌∙◌, ap, subst, Some, None, Option, List, [], ◌∷◌, ◌++◌, Ok, Err, Result}
use Rattle.std.specs.List.{AllByRecursion}
use Rattle.std.specs.Option.{IsSomeAnd, option_map}
use Rattle.std.proofs.lemmas.Bool.{true≢false}
use Rattle.std.proofs.lemmas.Option.{same_Some}
use Rattle.disk_model.specs.Causes.{HasCause, Rose}
use Rattle.disk_model.specs.Disk.{Content, EachImage, IsImage, last_image, newest_only}
use Rattle.disk_model.specs.Moments.{EachMoment, FromStart, content_now}
use Rattle.disk_model.proofs.MomentsLemmas.{EachMoment-kept, EachMoment-then, EachMoment-weaker, FromStart-weaker, no_moment}
use Rattle.image_model.specs.declared.flags.TheConstants.{DIRTY_BITMAP}
use Rattle.image_model.specs.Cells.{salt_of}
use Rattle.image_model.specs.Openable.{IsReplayable, journal_fault_of}
use Rattle.image_model.specs.Superblock.{Superblock, has_flag}
use Rattle.image_model.proofs.CellsLemmas.{counted_entries-bitmap, counted_entries-journal}
use Rattle.image_model.proofs.OpenableLemmas.{journal_fault_law}
use Rattle.device_model.specs.Refusals.{ByJournal, ImageFault}
use Rattle.hmac_tag.specs.TagMaker.{TagRule}
use Rattle.image_format.specs.Format.{IsReadNow, disk_format}
use Rattle.image_refusal.specs.declared.call_fault.CallFault.{CallFault}
use Rattle.image_refusal.specs.declared.call_fault.CallFault.TheVariants.{Disk, Memory, Refused}
use Rattle.image_refusal.specs.declared.journal_fault.JournalFault.{JournalFault}
use Rattle.image_refusal.specs.declared.resize_fault.ResizeFault.{ResizeFault}
use Rattle.image_refusal.specs.declared.resize_fault.ResizeFault.TheVariants.{Journal}
use Rattle.image_refusal.specs.Calls.{HasCallCause, with_cause}
use Rattle.journal_reading.specs.Faults.{refusal_in}
use Rattle.sector_disk.specs.declared.disk.Failed.{Failed}
use Rattle.place_model.specs.Format.{DiskFormat, HasCells, OpensAs, cells_on, format_on}
use Rattle.place_model.proofs.FormatLemmas.{opens_from, opens_on, reads_tells}
use Rattle.resize_model.specs.AllPlaced.{KeepsStored}
use Rattle.resize_model.specs.Left.{IsResizedContent, IsResizedInOrder, IsResizedOrNot, IsResizedTo, IsLeftSynced}
use Rattle.resize_model.specs.Refusals.{CanResize, fault_by_journal}
use Rattle.resize_model.specs.Resized.{resized_provided}
use Rattle.resize_model.specs.Written.{IsWrittenByResize}
use Rattle.resize_model.proofs.LeftLemmas.{order_law}
use Rattle.image_resizing.specs.declared.planning.Plan.{Plan}
use Rattle.image_resizing.specs.Faults.{fault_told}
use Rattle.image_resizing.specs.Grown.{IsResizedFrom}
use Rattle.image_resizing.specs.Plan.{IsPlan, present_format}
use Rattle.image_resizing.specs.Writing.{IsWrittenBy}
use Rattle.place_model.specs.RecoveryWrites.{IsOfRecovering}
use Rattle.image_resizing.specs.Settled.{ResizesInOrder, SettlesInOrder, journal_fault}

-- ---- the journal

module _ (sectors : ℕ) (plan : Plan) (is : IsPlan sectors plan) (c : Content) where
  -- With a bitmap the journal is not looked at,
  pub fault_unseen : has_flag DIRTY_BITMAP plan.present.fields.flags ≡ true → journal_fault plan c ≡ None
  fault_unseen set = rw set refl

  -- and else its fault is the one that is judged.
  pub fault_seen : has_flag DIRTY_BITMAP plan.present.fields.flags ≡ false
      → journal_fault plan c ≡ option_map ByJournal (journal_fault_of plan.maker.key plan.maker.salt plan.present.geometry (last_image c))
  fault_seen clear =
      let salt : plan.maker.salt ≡ salt_of plan.present.fields = ap (λ (r : TagRule). r.salt) is.maker in
      rw (clear, salt) refl

  module _ (read : IsReadNow plan.maker.key sectors plan.present c) where
    -- An image whose journal has none can be opened,
    pub judged_opens : has_flag DIRTY_BITMAP plan.present.fields.flags ≡ false → journal_fault_of plan.maker.key plan.maker.salt plan.present.geometry (last_image c) ≡ None
        → OpensAs (present_format sectors plan) (last_image c)
    judged_opens clear none =
        let key = plan.maker.key in
        let fields = plan.present.fields in
        let geometry = plan.present.geometry in
        let right : journal_fault_of key (salt_of fields) geometry (last_image c) ≡ None = ap (λ (r : TagRule). journal_fault_of key r.salt geometry (last_image c)) (sym is.maker) ∙ none in
        let told = reads_tells (present_format sectors plan) (last_image c) read.reads in
        let law = (journal_fault_law key (salt_of fields) geometry (last_image c)).0 right in
        opens_from (present_format sectors plan) (last_image c) (record {
          head = told.head;
          has_geometry = told.has_geometry;
          is_geometry = told.is_geometry;
          walk = λ _. law.0;
          entries = subst (AllByRecursion (IsReplayable key (salt_of fields) geometry)) (sym (counted_entries-journal key fields geometry (last_image c) clear)) law.1;
        })

    -- and so can one with a bitmap.
    pub bitmap_opens : has_flag DIRTY_BITMAP plan.present.fields.flags ≡ true → OpensAs (present_format sectors plan) (last_image c)
    bitmap_opens set =
        let key = plan.maker.key in
        let fields = plan.present.fields in
        let geometry = plan.present.geometry in
        let told = reads_tells (present_format sectors plan) (last_image c) read.reads in
        opens_from (present_format sectors plan) (last_image c) (record {
          head = told.head;
          has_geometry = told.has_geometry;
          is_geometry = told.is_geometry;
          walk = λ clear. absurd (true≢false (sym set ∙ clear));
          entries = subst (AllByRecursion (IsReplayable key (salt_of fields) geometry)) (sym (counted_entries-bitmap key fields geometry (last_image c) set)) tt;
        })

-- What is told of a journal is the fault that it has.
pub refusal_told : (T : Type 0) (refused : CallFault JournalFault) → fault_told (with_cause Journal refused) ≡ option_map ByJournal (refusal_in {T = T} (Err refused))
refusal_told T Memory = refl
refusal_told T Disk = refl
refusal_told T (Refused fault) = refl

-- A refusal of a journal as an answer of a resize.
abbrev pub as_resize : (T U : Type 0) → Result T (CallFault JournalFault) → Result U (CallFault ResizeFault)
as_resize T U (Ok answer) = Err Memory
as_resize T U (Err refused) = Err (with_cause Journal refused)

disk_back : (T U : Type 0) (refused : CallFault JournalFault) → as_resize T U (Err refused) ≡ Err Disk → (let r : Result T (CallFault JournalFault) = Err refused in r) ≡ Err Disk
disk_back T U Memory e = absurd (cc)
disk_back T U Disk e = refl
disk_back T U (Refused fault) e = absurd (cc)

-- Its cause,
pub refused_cause : (T U : Type 0) (before after : ℕ) (refused : CallFault JournalFault) → HasCallCause before after (let r : Result T (CallFault JournalFault) = Err refused in r) → HasCallCause before after (as_resize T U (Err refused))
refused_cause T U before after refused is = record {
  later = is.later;
  failed = λ e. is.failed (disk_back T U refused e);
  passed = λ other. is.passed (λ e. other (ap (as_resize T U) e));
}

-- that of a disk which fails behind the judging,
pub failed_cause : (T U V : Type 0) (before mid after : ℕ) (judged : T) (failed : Failed) → HasCallCause before mid (let r : Result T (CallFault JournalFault) = Ok judged in r)
    → HasCause mid after (let r : Result U Failed = Err failed in r) → HasCallCause before after (let r : Result V (CallFault ResizeFault) = Err Disk in r)
failed_cause T U V before mid after judged failed first is =
    let same = first.passed (λ e. cc) in
    let later = is.later in
    record {
      later = omega (arith, later, same);
      failed = λ e. subst (λ (n : ℕ). Rose n after) same is.failed;
      passed = λ other. absurd (other refl);
    }

-- and that of a resize which is done.
pub done_cause : (T U V : Type 0) (before mid after : ℕ) (judged : T) (done : U) (answer : V) → HasCallCause before mid (let r : Result T (CallFault JournalFault) = Ok judged in r)
    → HasCause mid after (let r : Result U Failed = Ok done in r) → HasCallCause before after (let r : Result V (CallFault ResizeFault) = Ok answer in r)
done_cause T U V before mid after judged done answer first is =
    let same = first.passed (λ e. cc) in
    let later = is.later in
    record {
      later = omega (arith, later, same);
      failed = λ e. absurd (cc);
      passed = λ other. is.passed ∙ same;
    }

-- Where no call of the disk but reads was made, it is in order.
pub kept_order : (sectors : ℕ) (plan : Plan) (a b : List Content) → b ≡ a → ResizesInOrder sectors plan a b
kept_order sectors plan a b same = record {
  synced = a;
  earlier = no_moment a (FromStart a (λ start c. c ≡ newest_only start));
  later = EachMoment-kept _ same;
}

-- ---- the order

-- Where the start is told, so is the end.
told_on : (a since : List Content) (start : Content) → content_now a ≡ Some start → (c : Content) × (content_now (since ++ a) ≡ Some c)
told_on a [] start told = (start, told)
told_on a (c ∷ since) start told = (c, refl)

pub now_told : {a b : List Content} {P : Content → Type 0} → EachMoment a b P → (start : Content) → content_now a ≡ Some start → (c : Content) × (content_now b ≡ Some c)
now_told {a} {b} m start told = subst (λ (h : List Content). (c : Content) × (content_now h ≡ Some c)) (sym m.grows) (told_on a m.since start told)

module _ (sectors : ℕ) (plan : Plan) (a b : List Content) (order : SettlesInOrder sectors plan a b) where
  pub settled_told : (start : Content) → content_now a ≡ Some start → (c : Content) × (content_now b ≡ Some c)
  settled_told start told = let synced = now_told order.earlier start told in now_told order.later synced.0 synced.1

  -- What is settled is resized so far,
  pub settled_order : ResizesInOrder sectors plan a b
  settled_order =
      let f = present_format sectors plan in
      record {
        synced = order.synced;
        earlier = order.earlier;
        later = EachMoment-weaker (FromStart-weaker a (λ start. EachImage (HasCells f (cells_on f (last_image start)))) (λ start. EachImage (IsResizedOrNot f (cells_on f (last_image start))))
            (λ start c told each image among. inl (each image among))) order.later;
      }

  -- and so it is by a growth behind it.
  pub grown_order : (c : List Content) (start : Content) → content_now a ≡ Some start
      → EachMoment b c (EachImage (IsResizedOrNot (present_format sectors plan) (cells_on (present_format sectors plan) (last_image start)))) → ResizesInOrder sectors plan a c
  grown_order c start told grows =
      let f = present_format sectors plan in
      let so_far = settled_order in
      record {
        synced = so_far.synced;
        earlier = so_far.earlier;
        later = EachMoment-then so_far.later
            (EachMoment-weaker (λ x each. subst (λ (o : Option Content). IsSomeAnd o (λ s. EachImage (IsResizedOrNot f (cells_on f (last_image s))) x)) (sym told) each) grows);
      }

-- ---- by the key

module _ (key : Option (List ℕ)) (sectors : ℕ) (plan : Plan) (is : IsPlan sectors plan) (same : plan.maker.key ≡ key) (start : Content) (read : IsReadNow key sectors plan.present start) where
  -- The format of the image is that of the plan.
  own_format : format_on key sectors (last_image start) ≡ present_format sectors plan
  own_format = read.own ∙ ap (λ (k : Option (List ℕ)). disk_format k sectors plan.present) (sym same)

  pub provided_told : ((format_on key sectors (last_image start)).superblock.provided ≡ plan.present.fields.provided)
      × (plan.grown.fields.provided ≡ resized_provided (format_on key sectors (last_image start)).superblock sectors)
  provided_told = (
    ap (λ (d : DiskFormat). d.superblock.provided) own_format,
    ap (λ (s : Superblock). s.provided) is.fields ∙ sym (ap (λ (d : DiskFormat). resized_provided d.superblock sectors) own_format),
  )

  pub resized_to : (c : Content) → IsResizedFrom sectors plan (last_image start) c → IsResizedTo key sectors start c
  resized_to c from = subst (λ (d : DiskFormat). IsResizedContent d (cells_on d (last_image start)) c × EachImage (KeepsStored d (last_image start)) c) (sym own_format) (from.resized, from.stored)

  pub can_open : CanResize key sectors (last_image start) → OpensAs (present_format sectors plan) (last_image start)
  can_open can = subst (λ (d : DiskFormat). OpensAs d (last_image start)) own_format (opens_on key sectors (last_image start) can.openable)

  pub in_order : (a b : List Content) → content_now a ≡ Some start → IsImage start (last_image start) → OpensAs (present_format sectors plan) (last_image start) → ResizesInOrder sectors plan a b
      → IsResizedInOrder key sectors a b
  in_order a b told reads opens order =
      let f = present_format sectors plan in
      order_law key sectors a order.synced b
      (λ c told_c. subst (λ (x : Content). IsImage x (last_image x) × OpensAs (format_on key sectors (last_image x)) (last_image x)) (same_Some start c (sym told ∙ told_c))
      (reads, subst (λ (d : DiskFormat). OpensAs d (last_image start)) (sym own_format) opens))
      order.earlier
      (EachMoment-weaker (FromStart-weaker a (λ s. EachImage (IsResizedOrNot f (cells_on f (last_image s)))) (IsLeftSynced key sectors)
      (λ s c told_s each. subst (λ (x : Content). let d = format_on key sectors (last_image x) in EachImage (IsResizedOrNot d (cells_on d (last_image x))) c) (same_Some start s (sym told ∙ told_s))
      (subst (λ (d : DiskFormat). EachImage (IsResizedOrNot d (cells_on d (last_image start))) c) (sym own_format)
      (subst (λ (x : Content). EachImage (IsResizedOrNot f (cells_on f (last_image x))) c) (same_Some s start (sym told_s ∙ told)) each)))) order.later)

  -- What is written by the plan is written by the resize of the image.
  pub written_by : (a b : List Content) → EachMoment a b (IsWrittenBy sectors plan start)
      → EachMoment a b (let d = format_on key sectors (last_image start) in IsWrittenByResize (IsOfRecovering d.geometry) d start)
  written_by a b m = subst (λ (d : DiskFormat). EachMoment a b (IsWrittenByResize (IsOfRecovering d.geometry) d start)) (sym own_format) m

  -- Its fault is that of its journal.
  pub journal_told : (fault : Option ImageFault) → fault ≡ fault_by_journal key (last_image start) plan.present.fields plan.present.geometry → journal_fault plan start ≡ fault
  journal_told fault told = ap (λ (k : Option (List ℕ)). fault_by_journal k (last_image start) plan.present.fields plan.present.geometry) same ∙ sym told

-- An image that is not judged yet is as it was.
pub unread_order : (key : Option (List ℕ)) (sectors : ℕ) (a b : List Content) → b ≡ a → IsResizedInOrder key sectors a b
unread_order key sectors a b same = record {
  unsynced = a;
  earlier = no_moment a (FromStart a (λ start c. c ≡ start));
  later = EachMoment-kept _ same;
}

-- A fault as that of another answer.
abbrev pub as_answer : (T U : Type 0) → Result T (CallFault ResizeFault) → Result U (CallFault ResizeFault)
as_answer T U (Ok answer) = Err Memory
as_answer T U (Err fault) = Err fault
