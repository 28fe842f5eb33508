-- The bad blocks of an image, line by line, and what a check prints and leaves.
use Rattle.std.proofs.Common.{◌≡◌, ◌≢◌, ◌⊎◌, inl, inr, ℕ, ◌+◌, ◌<◌, ◌≤◌, ltb, Bool, List, [], ◌∷◌, ◌++◌, length, map, flat_map, append_assoc, append-nil, length-append, arith, refl, sym, ◌∙◌, ap, subst, Option, Some, None, Err}
use Rattle.std.specs.Option.{IsSomeAnd, option_map}
use Rattle.std.proofs.lemmas.Grind.{flat_map-append}
use Rattle.std.proofs.lemmas.List.{map-append}
use Rattle.std.proofs.lemmas.List.Concat.{flat_map-cons}
use Rattle.disk_model.specs.Disk.{Content, Image, last_image}
use Rattle.disk_model.specs.Identity.{DiskIdentity}
use Rattle.disk_model.specs.Moments.{content_now, HasNow}
use Rattle.run_model.specs.Ending.{Ending, Complete, Failed, NoMemory}
use Rattle.stream_io.specs.Stream.{AddsPrefix, held_with, with_bytes}
use Rattle.check_model.specs.Bad.{bad_blocks_from}
use Rattle.image_check.specs.Checked.{Checked, IsCheckOf, IsSameCheck, awaiting_at, bad_in, checked_format}
use Rattle.check_model.specs.declared.bad.Bad.{Bad}
use Rattle.image_model.specs.declared.judged.What.{What}
use Rattle.image_refusal.specs.declared.call_fault.CallFault.{CallFault}
use Rattle.image_refusal.specs.declared.call_fault.CallFault.TheVariants as CallFaults
use Rattle.image_refusal.specs.declared.open_fault.OpenFault.{OpenFault}
use Rattle.image_refusal.specs.declared.open_fault.OpenFault.TheVariants as OpenFaults
use Rattle.image_refusal.specs.declared.open_fault.HeadFault.TheVariants as HeadFaults
use Rattle.check_model.specs.Faults.{fault_for}
use Rattle.judging_model.specs.Faults.{ImageFault, fault_in}
use Rattle.check_model.specs.Report.{with_found}
use Rattle.image_check.proofs.CheckedLemmas.{blocks_are, judged_in, judged_now, kept-next, kept-nothing, kept-skip}
use Rattle.place_model.specs.Format.{format_on}
use Rattle.command_ending.specs.Ended.{ending_of}
use Rattle.run_model.specs.CommandRun.{Outset, Prints, IsEndedShort, only_prints}
use Rattle.command_image.specs.Listing.{IsListed, IsPrintedShort, lines_in}
use Rattle.command_model.specs.Checking.{bad_line, check_outset, counts_line, has_bad, last_line, outset_by_check}
use Rattle.command_task.specs.Opening.{HasRunOn}
use Rattle.command_task.specs.Refusing.{ended_by_opening}
use Rattle.command_model.specs.Refusing.{ending_by_refusal}
use Rattle.command_image.proofs.PrintingLemmas.{all_printed, part_printed, same_now}
use Rattle.command_task.proofs.RunningLemmas.{told_further, told_nothing}
use Rattle.command_task.proofs.OutsetLemmas.{counts_begin, fine_check, lines_begin}
use Rattle.command_task.proofs.UnbegunLemmas.{before_kept, nothing_run, refused_run, untouched_kept}
use Rattle.command_task.proofs.TextsLemmas.{none_short, text_short, texts_short, texts_whole}
use Rattle.run_model.specs.declared.outer.Outer.TheVariants as outers

-- ---- one block

-- One block has one line, and no block none.
pub none_listed : (held : Option (List ℕ)) → IsListed [] 0 held held
none_listed held = record { counted = refl; told = told_nothing held }

pub one_listed : (bad : Bad) (before held : Option (List ℕ)) → held ≡ option_map (with_bytes (bad_line bad)) before
    → IsListed (bad ∷ []) 1 before held
one_listed bad before held told = record {
  counted = refl;
  told = told ∙ ap (λ (l : List ℕ). held_with l before)
      (sym (append-nil (bad_line bad)) ∙ sym (flat_map-cons bad_line bad []));
}

found_few : (found : Option Bad) → length (with_found found []) ≤ 1
found_few None = omega arith
found_few (Some bad) = omega arith

pub more_few : (found : Option Bad) (count : ℕ) {before held : Option (List ℕ)} → IsListed (with_found found []) count before held → count ≤ 1
more_few found count listed = omega (arith, listed.counted, found_few found)

-- ---- some blocks

-- The lines of the bad blocks before a block are printed, so many.
pub record IsListedTo (checked : Checked) (sectors : ℕ) (moments : List Content) (block count : ℕ)
    (held_before held : Option (List ℕ)) : Type 0 where
  pub bad : List Bad
  pub listed : IsListed bad count held_before held
  pub few : count ≤ block
  pub rest : HasNow (λ c. bad_in checked sectors (last_image c)
      ≡ bad ++ bad_blocks_from checked.what (checked_format checked sectors (last_image c)) (last_image c) block) moments

pub listed_none : (checked : Checked) (sectors : ℕ) (moments : List Content) (held : Option (List ℕ))
    → IsListedTo checked sectors moments 0 0 held held
listed_none checked sectors moments held = record {
  bad = [];
  listed = none_listed held;
  few = omega arith;
  rest = λ c told. refl;
}

-- Where these lines are printed behind those.
listed_further : (bad more : List Bad) (count others : ℕ) (before mid held : Option (List ℕ)) → IsListed bad count before mid → IsListed more others mid held
    → IsListed (bad ++ more) (count + others) before held
listed_further bad more count others before mid held one other = record {
  counted = omega (arith, one.counted, other.counted, length-append bad more);
  told = other.told ∙ ap (held_with (flat_map bad_line more)) one.told
      ∙ told_further (flat_map bad_line bad) (flat_map bad_line more) before
      ∙ ap (λ (l : List ℕ). held_with l before) (sym (flat_map-append bad_line bad more));
}

module _ (old new : Checked) (disk now : DiskIdentity) (before after : List Content) (is : IsCheckOf old disk before)
    (same : IsSameCheck old new) (e : now ≡ disk) (m : after ≡ before) (held_before held : Option (List ℕ)) where
  -- The bad blocks from a block on.
  abbrev behind : Content → ℕ → List Bad
  behind c b = bad_blocks_from old.what (checked_format old disk.sectors (last_image c)) (last_image c) b

  -- It is the first of them where it is bad.
  behind_found : (b : ℕ) (found : Option Bad) → b < old.format.geometry.blocks
      → HasNow (λ c. found ≡ judged_in new now.sectors (last_image c) b) after
      → HasNow (λ c. behind c b ≡ with_found found [] ++ behind c (b + 1)) before
  behind_found b None low h c told =
      let inside : b < (checked_format old disk.sectors (last_image c)).geometry.blocks = omega (arith, low, blocks_are old disk before is c told) in
      kept-skip (judged_in old disk.sectors (last_image c)) (checked_format old disk.sectors (last_image c)).geometry.blocks b inside
      (sym (judged_now old new disk now before after is same e m None b h c told))
  behind_found b (Some bad) low h c told =
      let inside : b < (checked_format old disk.sectors (last_image c)).geometry.blocks = omega (arith, low, blocks_are old disk before is c told) in
      kept-next (judged_in old disk.sectors (last_image c)) (checked_format old disk.sectors (last_image c)).geometry.blocks b bad inside
      (sym (judged_now old new disk now before after is same e m (Some bad) b h c told))

  pub listed_next : (b count more : ℕ) (found : Option Bad) (held_after : Option (List ℕ)) → b < old.format.geometry.blocks
      → HasNow (λ c. found ≡ judged_in new now.sectors (last_image c) b) after
      → IsListedTo old disk.sectors before b count held_before held → IsListed (with_found found []) more held held_after
      → IsListedTo old disk.sectors before (b + 1) (count + more) held_before held_after
  listed_next b count more found held_after low h to listed = record {
    bad = to.bad ++ with_found found [];
    listed = listed_further to.bad (with_found found []) count more held_before held held_after to.listed listed;
    few = omega (arith, to.few, more_few found more listed);
    rest = λ c told.
        to.rest c told
        ∙ ap (λ (xs : List Bad). to.bad ++ xs) (behind_found b found low h c told)
        ∙ sym (append_assoc to.bad (with_found found []) (behind c (b + 1)));
  }

  pub listed_all : (b count : ℕ) → old.format.geometry.blocks ≤ b → IsListedTo old disk.sectors before b count held_before held
      → HasNow (λ c. IsListed (bad_in old disk.sectors (last_image c)) count held_before held) before
  listed_all b count high to c told =
      let outside : (checked_format old disk.sectors (last_image c)).geometry.blocks ≤ b = omega (arith, high, blocks_are old disk before is c told) in
      let all : bad_in old disk.sectors (last_image c) ≡ to.bad =
      to.rest c told
      ∙ ap (λ (xs : List Bad). to.bad ++ xs)
      (kept-nothing (judged_in old disk.sectors (last_image c)) (checked_format old disk.sectors (last_image c)).geometry.blocks b outside)
      ∙ append-nil to.bad in
      subst (λ (xs : List Bad). IsListed xs count held_before held) (sym all) to.listed

  -- ---- something outside ends it

  -- The lines behind those that are printed.
  abbrev lines_behind : (image : Image) → List Bad → List (List ℕ)
  lines_behind image more =
      map bad_line more ++ last_line (checked_format old disk.sectors image) image (length (bad_in old disk.sectors image)) ∷ []

  cut_at : (image : Image) (bad more : List Bad) (count : ℕ) (ending : Ending) (text : List ℕ) (held_after : Option (List ℕ))
      → bad_in old disk.sectors image ≡ bad ++ more → IsListed bad count held_before held
      → ((found : Bool) → IsEndedShort (only_prints (lines_behind image more) found) text [] ending)
      → held_after ≡ held_with text held
      → IsPrintedShort (lines_in old disk.sectors image) ending held_before held_after
  cut_at image bad more count ending text held_after split listed short told =
      let last = last_line (checked_format old disk.sectors image) image (length (bad_in old disk.sectors image)) in
      let lines : lines_in old disk.sectors image ≡ map bad_line bad ++ lines_behind image more =
      ap (λ (xs : List Bad). map bad_line xs ++ last ∷ []) split
      ∙ ap (λ (xs : List (List ℕ)). xs ++ last ∷ []) (map-append bad_line bad more)
      ∙ append_assoc (map bad_line bad) (map bad_line more) (last ∷ []) in
      record {
        text = flat_map bad_line bad ++ text;
        ended = λ found.
            subst (λ (xs : List (List ℕ)). IsEndedShort (only_prints xs found) (flat_map bad_line bad ++ text) [] ending) (sym lines)
            (texts_short bad_line bad (lines_behind image more) found text ending (short found));
        told = told ∙ ap (held_with text) listed.told ∙ told_further (flat_map bad_line bad) text held_before;
      }

  -- The disk failed before a block is judged.
  pub cut_by_disk : (b count : ℕ) → IsListedTo old disk.sectors before b count held_before held
      → HasNow (λ c. IsPrintedShort (lines_in old disk.sectors (last_image c)) (Failed outers.Disk) held_before held) before
  cut_by_disk b count to c told =
      let more = behind c b in
      cut_at (last_image c) to.bad more count (Failed outers.Disk) [] held (to.rest c told) to.listed
      (λ found. none_short (lines_behind (last_image c) more) found (Failed outers.Disk) (lines_begin more _ (counts_begin _ _ _)) tt)
      (told_nothing held)

  -- The sink failed in the line of a bad block.
  pub cut_by_sink : (b count : ℕ) (found : Option Bad) (held_after : Option (List ℕ)) → b < old.format.geometry.blocks
      → HasNow (λ c. found ≡ judged_in new now.sectors (last_image c) b) after
      → IsListedTo old disk.sectors before b count held_before held
      → IsSomeAnd found (λ bad. AddsPrefix (bad_line bad) held held_after)
      → HasNow (λ c. IsPrintedShort (lines_in old disk.sectors (last_image c)) (Failed outers.Sink) held_before held_after) before
  cut_by_sink b count None held_after low h to part c told = absurd part
  cut_by_sink b count (Some bad) held_after low h to part c told =
      let more = behind c (b + 1) in
      cut_at (last_image c) to.bad (bad ∷ more) count (Failed outers.Sink) _ held_after
      (to.rest c told ∙ ap (λ (xs : List Bad). to.bad ++ xs) (behind_found b (Some bad) low h c told)) to.listed
      (λ found. text_short (bad_line bad) (lines_behind (last_image c) more) found part.count (Failed outers.Sink) part.short (λ other. absurd (other refl)) tt)
      part.held

-- ---- a check

module _ (what : What) (key : Option (List ℕ)) (sectors : ℕ) (start : Content) (script : List ℕ) {a b : List Content} (told : content_now a ≡ Some start) (kept : b ≡ a) where
  abbrev outset : Outset
  outset = check_outset what key sectors (last_image start)

  -- There was no memory, or the disk failed before a line was printed: nothing is.
  pub unchecked : (ending : Ending) (held : Option (List ℕ)) → (ending ≡ NoMemory) ⊎ (ending ≡ Failed outers.Disk) → HasRunOn outset start script ending b held held
  unchecked ending held early = elim early [
    | inl memory ↦
        subst (λ (e : Ending). HasRunOn outset start script e b held held) (sym memory)
        (nothing_run outset (fine_check what key sectors (last_image start)) start script NoMemory tt b (before_kept outset start told kept) held held refl)
    | inr disk ↦
        subst (λ (e : Ending). HasRunOn outset start script e b held held) (sym disk)
        (nothing_run outset (fine_check what key sectors (last_image start)) start script (Failed outers.Disk) tt b (before_kept outset start told kept) held held refl)
  ]

  refused_as : (refusal : ImageFault) (held : Option (List ℕ)) → Some refusal ≡ fault_for what key sectors (last_image start)
      → HasRunOn outset start script (ending_by_refusal refusal) b held held
  refused_as refusal held refused =
      refused_run outset start script (ending_by_refusal refusal)
      (ap (outset_by_check what (format_on key sectors (last_image start)) (last_image start)) (sym refused)) b
      (untouched_kept start told kept) held held refl

  -- The image is not opened.
  pub not_checked : (fault : CallFault OpenFault) (held : Option (List ℕ))
      → ((fault ≢ CallFaults.Memory) → (fault ≢ CallFaults.Disk)
      → fault_in {T = Unit {0}} (Err fault) ≡ fault_for what key sectors (last_image start))
      → HasRunOn outset start script (ending_of (ended_by_opening fault)) b held held
  not_checked CallFaults.Memory held refused = unchecked NoMemory held (inl refl)
  not_checked CallFaults.Disk held refused = unchecked (Failed outers.Disk) held (inr refl)
  not_checked (CallFaults.Refused (OpenFaults.Head (HeadFaults.Super fault))) held refused = refused_as _ held (refused (λ is. absurd (cc)) (λ is. absurd (cc)))
  not_checked (CallFaults.Refused (OpenFaults.Head (HeadFaults.Geom fault))) held refused = refused_as _ held (refused (λ is. absurd (cc)) (λ is. absurd (cc)))
  not_checked (CallFaults.Refused (OpenFaults.Consent flags)) held refused = refused_as _ held (refused (λ is. absurd (cc)) (λ is. absurd (cc)))
  not_checked (CallFaults.Refused (OpenFaults.Journal fault)) held refused = refused_as _ held (refused (λ is. absurd (cc)) (λ is. absurd (cc)))

  -- It is opened.
  module _ (checked : Checked) (what_is : checked.what ≡ what) (key_is : checked.rule.key ≡ key)
      (accepted : None ≡ fault_for what key sectors (last_image start)) where
    abbrev lines : List (List ℕ)
    lines = lines_in checked sectors (last_image start)

    abbrev bad : List Bad
    bad = bad_in checked sectors (last_image start)

    prints : outset ≡ Prints lines (has_bad bad)
    prints =
        ap (outset_by_check what (format_on key sectors (last_image start)) (last_image start)) (sym accepted)
        ∙ ap (λ (w : What). outset_by_check w (format_on key sectors (last_image start)) (last_image start) None) (sym what_is)
        ∙ ap (λ (k : Option (List ℕ)). outset_by_check checked.what (format_on k sectors (last_image start)) (last_image start) None) (sym key_is)

    -- Something outside ended the printing.
    pub check_cut : (ending : Ending) (held_before held : Option (List ℕ)) → IsPrintedShort lines ending held_before held
        → HasRunOn outset start script ending b held_before held
    check_cut ending held_before held short =
        subst (λ (o : Outset). HasRunOn o start script ending b held_before held) (sym prints)
        (part_printed (Prints lines (has_bad bad)) lines (has_bad bad) start script b held_before (λ s. refl) short.text ending held
        (short.ended (has_bad bad)) short.told (same_now start told kept))

    module _ (count blocks awaiting : ℕ) (held_before mid held : Option (List ℕ)) (listed : IsListed bad count held_before mid)
        (counts : counts_line blocks count awaiting ≡ last_line (checked_format checked sectors (last_image start)) (last_image start) (length bad)) where
      -- All is printed,
      pub check_whole : (found : Bool) → found ≡ ltb 0 count → held ≡ option_map (with_bytes (counts_line blocks count awaiting)) mid
          → HasRunOn outset start script (Complete found) b held_before held
      check_whole found found_is put =
          let has : has_bad bad ≡ found = sym (found_is ∙ ap (λ (n : ℕ). ltb 0 n) listed.counted) in
          let last = last_line (checked_format checked sectors (last_image start)) (last_image start) (length bad) in
          let text = flat_map bad_line bad ++ last in
          let all : text ≡ flat_map bad_line bad ++ (last ++ []) = ap (λ (l : List ℕ). flat_map bad_line bad ++ l) (sym (append-nil last)) in
          let to : held ≡ held_with text held_before =
          put ∙ ap (λ (l : List ℕ). held_with l mid) counts ∙ ap (held_with last) listed.told ∙ told_further (flat_map bad_line bad) last held_before in
          subst (λ (f : Bool). HasRunOn outset start script (Complete f) b held_before held) has
          (subst (λ (o : Outset). HasRunOn o start script (Complete (has_bad bad)) b held_before held) (sym prints)
          (all_printed (Prints lines (has_bad bad)) lines (has_bad bad) start script b held_before (λ s. refl) text held
          (all ∙ sym (texts_whole bad_line bad (last ∷ []))) to (same_now start told kept)))

      -- or the sink failed in the last line.
      pub check_untold : AddsPrefix (counts_line blocks count awaiting) mid held → HasRunOn outset start script (Failed outers.Sink) b held_before held
      check_untold put =
          let last = last_line (checked_format checked sectors (last_image start)) (last_image start) (length bad) in
          let part : AddsPrefix last mid held = subst (λ (l : List ℕ). AddsPrefix l mid held) counts put in
          check_cut (Failed outers.Sink) held_before held (record {
            text = flat_map bad_line bad ++ _;
            ended = λ found. texts_short bad_line bad (last ∷ []) found _ (Failed outers.Sink)
                (text_short last [] found part.count (Failed outers.Sink) part.short (λ other. absurd (other refl)) tt);
            told = part.held ∙ ap (held_with _) listed.told ∙ told_further (flat_map bad_line bad) _ held_before;
          })

-- The last line, by what the image that was opened has.
pub counts_told : (old : Checked) (disk : DiskIdentity) (moments : List Content) (is : IsCheckOf old disk moments) (c : Content) (told : content_now moments ≡ Some c)
    (blocks count awaiting : ℕ) → blocks ≡ old.format.geometry.blocks → count ≡ length (bad_in old disk.sectors (last_image c)) → awaiting ≡ awaiting_at old disk.sectors (last_image c)
    → counts_line blocks count awaiting ≡ last_line (checked_format old disk.sectors (last_image c)) (last_image c) (length (bad_in old disk.sectors (last_image c)))
counts_told old disk moments is c told blocks count awaiting blocks_is count_is awaiting_is =
    ap (λ (n : ℕ). counts_line n count awaiting) (blocks_is ∙ sym (blocks_are old disk moments is c told))
    ∙ ap (λ (n : ℕ). counts_line (checked_format old disk.sectors (last_image c)).geometry.blocks n awaiting) count_is
    ∙ ap (λ (n : ℕ). counts_line (checked_format old disk.sectors (last_image c)).geometry.blocks (length (bad_in old disk.sectors (last_image c))) n)
    awaiting_is
