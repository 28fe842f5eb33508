-- The blocks of an image that is salvaged, line by line, and what a salvage prints and leaves.
use Rattle.std.proofs.Common.{◌≡◌, ◌≢◌, ◌⊎◌, inl, inr, ℕ, zero, suc, ◌+◌, ◌-◌, ◌<◌, ◌≤◌, ltb, Bool, true, false, not, List, [], ◌∷◌, ◌++◌, length, filter, map, flat_map, take, append_assoc, append-nil, length-append, arith, refl, sym, ◌∙◌, ap, subst, Option, Some, None, unwrap_or}
use Rattle.std.specs.Prelude.{if◌then◌else◌}
use Rattle.std.specs.List.{range_with_len}
use Rattle.std.specs.Option.{option_map}
use Rattle.std.proofs.lemmas.Bool.{cases_Bool, lt-ltb, ltb-false, ltb-true}
use Rattle.std.proofs.lemmas.Grind.{flat_map-append}
use Rattle.std.proofs.lemmas.List.{map-append}
use Rattle.std.proofs.lemmas.List.Concat.{flat_map-cons}
use Rattle.std.proofs.lemmas.List.FromFn.{filter_of_map_range_with_len_more}
use Rattle.disk_model.specs.Disk.{Content, Image, last_image}
use Rattle.disk_model.specs.Identity.{DiskIdentity}
use Rattle.disk_model.specs.Moments.{content_now, HasNow}
use Rattle.device_model.specs.Refusals as Refusals
use Rattle.run_model.specs.ScriptRun.{texts_of}
use Rattle.run_model.specs.Ending.{Ending, Complete, Refused, Failed, NoMemory, ByImage}
use Rattle.stream_io.specs.Stream.{AddsPrefix, held_with, with_bytes}
use Rattle.place_model.specs.Format.{DiskFormat, format_on}
use Rattle.place_model.specs.Refusals.{read_fault_of}
use Rattle.salvage_model.specs.Salvaging.{block_text, counts_text, has_bad, salvage_texts, verdict_text}
use Rattle.command_model.specs.Salvaging.{outset_by_salvage, salvage_outset}
use Rattle.salvage_model.specs.Verdicts as Model
use Rattle.salvage_model.specs.Verdicts.{bad_count, is_good, next_verdict, salvaged_bytes, verdict_on}
use Rattle.image_format.specs.declared.reading.ImageFormat.{ImageFormat}
use Rattle.image_refusal.specs.declared.call_fault.CallFault.{CallFault}
use Rattle.image_refusal.specs.declared.call_fault.CallFault.TheVariants as CallFaults
use Rattle.image_refusal.specs.declared.open_fault.HeadFault.{HeadFault}
use Rattle.image_refusal.specs.declared.open_fault.HeadFault.TheVariants as HeadFaults
use Rattle.image_refusal.specs.declared.open_fault.OpenFault.TheVariants.{Head}
use Rattle.image_refusal.specs.Calls.{with_cause}
use Rattle.image_salvage.specs.declared.verdict.Verdict.{Verdict}
use Rattle.image_salvage.specs.Refusing.{refusal_of}
use Rattle.image_salvage.specs.Salvaged.{IsSalvageOf, IsSameSalvage, Salvaged, blocks_of, salvaged_format}
use Rattle.image_salvage.specs.Telling.{GivesBytes, TellsNext, as_verdict}
use Rattle.image_salvage.proofs.SalvagedLemmas.{blocks_are, format-same}
use Rattle.command_ending.specs.Ended.{ending_of}
use Rattle.run_model.specs.CommandRun.{Outset, IsEndedShort, only_prints, printing_step}
use Rattle.command_image.specs.Listing.{IsPrintedShort, IsPrintedBy, IsToldTo}
use Rattle.command_task.specs.Opening.{HasRunOn}
use Rattle.command_task.specs.Refusing.{ended_by_opening}
use Rattle.command_image.proofs.PrintingLemmas.{same_now}
use Rattle.command_task.proofs.RunningLemmas.{told_further, told_nothing}
use Rattle.command_task.proofs.OutsetLemmas.{blocks_begin, fine_salvage, salvage_counts_begin}
use Rattle.command_task.proofs.UnbegunLemmas.{before_kept, nothing_run, refused_run, untouched_kept}
use Rattle.command_task.proofs.TextsLemmas.{none_short, text_short, texts_change_nothing, texts_short, texts_whole}
use Rattle.run_model.specs.declared.outer.Outer.TheVariants as outers

some_same : {X : Type 0} {x y : X} → Some x ≡ Some y → x ≡ y
some_same {x = x} is = ap (λ (o : Option _). unwrap_or o x) is

-- ---- numbers in a row

-- A range is its front and what is behind it.
range_split : (from front behind all at : ℕ) → all ≡ front + behind → at ≡ from + front
    → range_with_len from all ≡ range_with_len from front ++ range_with_len at behind
range_split from zero behind all at whole place =
    let all_is : all ≡ behind = omega (arith, whole) in
    let at_is : at ≡ from = omega (arith, place) in
    rw (all_is, at_is) refl
range_split from (suc front) behind zero at whole place = absurd (omega (arith, whole))
range_split from (suc front) behind (suc all) at whole place =
    ap (λ (numbers : List ℕ). from ∷ numbers) (range_split (from + 1) front behind all at (omega (arith, whole)) (omega (arith, place)))

-- ---- an end

-- What ended it is the printing's end.
pub printed_short : {texts : List (List ℕ)} {ending : Ending} {held_before held : Option (List ℕ)} (found : Bool)
    → IsPrintedShort texts ending held_before held → IsPrintedBy texts found ending held_before held
printed_short found short = record { text = short.text; ended = inr (short.ended found); told = short.told }

module _ (d : DiskFormat) (image : Image) where
  -- ---- the blocks that are told

  -- The bad ones of the first blocks.
  abbrev bad_first : (told : ℕ) → List Model.Verdict
  bad_first told = filter (λ verdict. not (is_good verdict)) (map (verdict_on d image) (range_with_len 0 told))

  -- The lines of one block more.
  lines_next : (told : ℕ) → flat_map (block_text d image) (range_with_len 0 (told + 1))
      ≡ flat_map (block_text d image) (range_with_len 0 told) ++ block_text d image told
  lines_next told =
      ap (flat_map (block_text d image)) (range_split 0 told 1 (told + 1) told (omega arith) (omega arith))
      ∙ flat_map-append (block_text d image) (range_with_len 0 told) (told ∷ [])
      ∙ ap (λ (l : List ℕ). flat_map (block_text d image) (range_with_len 0 told) ++ l)
      (flat_map-cons (block_text d image) told [] ∙ append-nil (block_text d image told))

  -- None is,
  pub told_none : (held : Option (List ℕ)) → IsToldTo d image 0 0 held held
  told_none held = record { counted = refl; printed = told_nothing held }

  more_bad : (told bad : ℕ) → bad ≡ length (bad_first told)
      → (if is_good (verdict_on d image told) then bad else bad + 1) ≡ length (bad_first (told + 1))
  more_bad told bad counted =
      let grown = ap length (filter_of_map_range_with_len_more (λ (verdict : Model.Verdict). not (is_good verdict)) (verdict_on d image) 0 told told (omega arith)) in
      elim (cases_Bool (is_good (verdict_on d image told))) [
        | inl good ↦ rw good (counted ∙ sym (rw good at grown ∙ ap length (append-nil _)))
        | inr bad_one ↦ rw bad_one (omega (arith, counted, rw bad_one at grown, length-append (bad_first told) (verdict_on d image told ∷ [])))
      ]

  -- or one more is.
  pub told_next : (told bad : ℕ) (held_before mid held : Option (List ℕ)) → IsToldTo d image told bad held_before mid
      → held ≡ option_map (with_bytes (block_text d image told)) mid
      → IsToldTo d image (told + 1) (if is_good (verdict_on d image told) then bad else bad + 1) held_before held
  told_next told bad held_before mid held to put = record {
    counted = more_bad told bad to.counted;
    printed = put ∙ ap (held_with (block_text d image told)) to.printed
        ∙ told_further (flat_map (block_text d image) (range_with_len 0 told)) (block_text d image told) held_before
        ∙ ap (λ (l : List ℕ). held_with l held_before) (sym (lines_next told));
  }

  -- ---- the lines

  -- Those of the blocks from here on, and the last one.
  abbrev lines_behind : (told : ℕ) → List (List ℕ)
  lines_behind told =
      map (block_text d image) (range_with_len told (d.geometry.blocks - told))
      ++ counts_text d.geometry.blocks (bad_count d image) ∷ []

  lines_split : (told : ℕ) → told ≤ d.geometry.blocks
      → salvage_texts d image ≡ map (block_text d image) (range_with_len 0 told) ++ lines_behind told
  lines_split told few =
      let last = counts_text d.geometry.blocks (bad_count d image) ∷ [] in
      let front = range_with_len 0 told in
      let behind = range_with_len told (d.geometry.blocks - told) in
      ap (λ (numbers : List ℕ). map (block_text d image) numbers ++ last)
      (range_split 0 told (d.geometry.blocks - told) d.geometry.blocks told (omega arith) (omega arith))
      ∙ ap (λ (texts : List (List ℕ)). texts ++ last) (map-append (block_text d image) front behind)
      ∙ append_assoc (map (block_text d image) front) (map (block_text d image) behind) last

  -- ---- something outside ends it

  cut_at : (told bad : ℕ) (ending : Ending) (text : List ℕ) (held_before mid held : Option (List ℕ)) → told ≤ d.geometry.blocks
      → IsToldTo d image told bad held_before mid
      → ((found : Bool) → IsEndedShort (only_prints (lines_behind told) found) text [] ending)
      → held ≡ held_with text mid → IsPrintedShort (salvage_texts d image) ending held_before held
  cut_at told bad ending text held_before mid held few to short put = record {
    text = flat_map (block_text d image) (range_with_len 0 told) ++ text;
    ended = λ found.
        subst (λ (texts : List (List ℕ)). IsEndedShort (only_prints texts found) (flat_map (block_text d image) (range_with_len 0 told) ++ text) [] ending)
        (sym (lines_split told few))
        (texts_short (block_text d image) (range_with_len 0 told) (lines_behind told) found text ending (short found));
    told = put ∙ ap (held_with text) to.printed
        ∙ told_further (flat_map (block_text d image) (range_with_len 0 told)) text held_before;
  }

  -- The disk failed, or there was no memory, before the line of a block is printed.
  pub cut_between : (told bad : ℕ) (ending : Ending) (held_before held : Option (List ℕ)) → (ending ≡ NoMemory) ⊎ (ending ≡ Failed outers.Disk)
      → told ≤ d.geometry.blocks → IsToldTo d image told bad held_before held
      → IsPrintedShort (salvage_texts d image) ending held_before held
  cut_between told bad ending held_before held early few to =
      let begins = blocks_begin d image (range_with_len told (d.geometry.blocks - told)) (counts_text d.geometry.blocks (bad_count d image)) (salvage_counts_begin _ _) in
      elim early [
        | inl memory ↦ rw memory (cut_at told bad NoMemory [] held_before held held few to (λ found. none_short (lines_behind told) found NoMemory begins tt) (told_nothing held))
        | inr disk ↦ rw disk (cut_at told bad (Failed outers.Disk) [] held_before held held few to (λ found. none_short (lines_behind told) found (Failed outers.Disk) begins tt) (told_nothing held))
      ]

  -- The sink failed in the line of a block.
  pub cut_in_line : (told bad : ℕ) (held_before mid held : Option (List ℕ)) → told < d.geometry.blocks
      → IsToldTo d image told bad held_before mid → AddsPrefix (block_text d image told) mid held
      → IsPrintedShort (salvage_texts d image) (Failed outers.Sink) held_before held
  cut_in_line told bad held_before mid held low to part =
      let first : lines_behind told ≡ block_text d image told ∷ lines_behind (told + 1) =
      ap (λ (n : ℕ). map (block_text d image) (range_with_len told n) ++ counts_text d.geometry.blocks (bad_count d image) ∷ [])
      (let split : d.geometry.blocks - told ≡ suc (d.geometry.blocks - (told + 1)) = omega (arith, low) in split) in
      let put = take part.count (block_text d image told) in
      cut_at told bad (Failed outers.Sink) put held_before mid held (omega (arith, low)) to
      (λ found.
      subst (λ (texts : List (List ℕ)). IsEndedShort (only_prints texts found) put [] (Failed outers.Sink)) (sym first)
      (text_short (block_text d image told) (lines_behind (told + 1)) found part.count (Failed outers.Sink) part.short (λ other. absurd (other refl)) tt))
      part.held

  -- ---- the last line

  module _ (bad blocks : ℕ) (held_before mid held : Option (List ℕ)) (blocks_are : blocks ≡ d.geometry.blocks)
      (to : IsToldTo d image blocks bad held_before mid) where
    same_bad : bad ≡ bad_count d image
    same_bad = rw blocks_are at to.counted

    line_is : counts_text blocks bad ≡ counts_text d.geometry.blocks (bad_count d image)
    line_is = ap (λ (n : ℕ). counts_text n bad) blocks_are ∙ ap (λ (n : ℕ). counts_text d.geometry.blocks n) same_bad

    -- All is printed,
    pub all_told : (found : Bool) → found ≡ ltb 0 bad → held ≡ option_map (with_bytes (counts_text blocks bad)) mid
        → IsPrintedBy (salvage_texts d image) (has_bad d image) (Complete found) held_before held
    all_told found found_is put =
        let all = range_with_len 0 blocks in
        let last = counts_text d.geometry.blocks (bad_count d image) in
        let text = flat_map (block_text d image) all ++ last in
        let has : found ≡ has_bad d image = found_is ∙ ap (λ (n : ℕ). ltb 0 n) same_bad in
        record {
          text = text;
          ended = inl (record {
            whole = record {
              is_text = ap (λ (l : List ℕ). flat_map (block_text d image) all ++ l) (sym (append-nil last))
                  ∙ sym (texts_whole (block_text d image) all (last ∷ []))
                  ∙ ap (λ (numbers : List ℕ). texts_of (map printing_step (map (block_text d image) numbers ++ last ∷ [])))
                  (ap (λ (n : ℕ). range_with_len 0 n) blocks_are);
              is_changes = sym (texts_change_nothing (salvage_texts d image));
            };
            is = ap (λ (f : Bool). Complete f) has;
          });
          told = put ∙ ap (λ (l : List ℕ). held_with l mid) line_is ∙ ap (held_with last) to.printed
              ∙ told_further (flat_map (block_text d image) all) last held_before;
        }

    -- or the sink failed in it.
    pub last_cut : AddsPrefix (counts_text blocks bad) mid held
        → IsPrintedBy (salvage_texts d image) (has_bad d image) (Failed outers.Sink) held_before held
    last_cut put =
        let last = counts_text d.geometry.blocks (bad_count d image) in
        let part : AddsPrefix last mid held = subst (λ (l : List ℕ). AddsPrefix l mid held) line_is put in
        let whole : lines_behind blocks ≡ last ∷ [] =
        ap (λ (n : ℕ). map (block_text d image) (range_with_len blocks n) ++ last ∷ []) (let none : d.geometry.blocks - blocks ≡ 0 = omega (arith, blocks_are) in none) in
        let text = take part.count last in
        let short = cut_at blocks bad (Failed outers.Sink) text held_before mid held (omega (arith, blocks_are)) to
        (λ found.
        subst (λ (texts : List (List ℕ)). IsEndedShort (only_prints texts found) text [] (Failed outers.Sink)) (sym whole)
        (text_short last [] found part.count (Failed outers.Sink) part.short (λ other. absurd (other refl)) tt))
        part.held in
        printed_short (has_bad d image) short

-- One bad block more at most, where one block more is told.
pub bad_few : (good : Bool) (bad told : ℕ) → bad ≤ told → (if good then bad else bad + 1) ≤ told + 1
bad_few true bad told few = omega (arith, few)
bad_few false bad told few = omega (arith, few)

-- What is told of the same image is told of it from the start.
pub same_then : (old mid new : Salvaged) → IsSameSalvage old mid → IsSameSalvage mid new → IsSameSalvage old new
same_then old mid new one other = record {
  format = other.format ∙ one.format;
  rule = other.rule ∙ one.rule;
}

-- ---- over what is kept

module _ (old new : Salvaged) (disk now : DiskIdentity) (before after : List Content) (is : IsSalvageOf new now after)
    (same : IsSameSalvage old new) (e : now ≡ disk) (m : after ≡ before) where
  -- The format of the image that reads give.
  abbrev own_at : Content → DiskFormat
  own_at c = salvaged_format old disk.sectors (last_image c)

  own_is : (c : Content) → salvaged_format new now.sectors (last_image c) ≡ own_at c
  own_is c = ap (λ (d : DiskIdentity). salvaged_format new d.sectors (last_image c)) e ∙ format-same old new disk.sectors c same

  later_told : (c : Content) → content_now before ≡ Some c → content_now after ≡ Some c
  later_told c told = ap content_now m ∙ told

  own_blocks : (c : Content) → content_now before ≡ Some c → (own_at c).geometry.blocks ≡ blocks_of new
  own_blocks c told =
      ap (λ (d : DiskFormat). d.geometry.blocks) (sym (own_is c)) ∙ blocks_are new now after is c (later_told c told)

  pub told_few : (c : Content) → content_now before ≡ Some c → new.told ≤ (own_at c).geometry.blocks
  told_few c told = let few = is.few in omega (arith, few, own_blocks c told)

  -- A block is left where a verdict is told,
  pub told_low : (verdict : Verdict) → TellsNext new now.sectors after (Some verdict) → new.told < blocks_of new
  told_low verdict tells = ltb-true new.told (blocks_of new) (sym tells.some)

  -- which is that on the next block,
  verdict_is : (verdict : Verdict) → TellsNext new now.sectors after (Some verdict)
      → (c : Content) → content_now before ≡ Some c → as_verdict verdict ≡ verdict_on (own_at c) (last_image c) new.told
  verdict_is verdict tells c told =
      let low = told_low verdict tells in
      let inside : new.told < (salvaged_format new now.sectors (last_image c)).geometry.blocks =
      omega (arith, low, blocks_are new now after is c (later_told c told)) in
      let next : Some (as_verdict verdict) ≡ next_verdict (salvaged_format new now.sectors (last_image c)) (last_image c) new.told =
      tells.verdict c (later_told c told) in
      some_same (rw (lt-ltb new.told (salvaged_format new now.sectors (last_image c)).geometry.blocks inside) at next)
      ∙ ap (λ (d : DiskFormat). verdict_on d (last_image c) new.told) (own_is c)

  -- and its line is that block's.
  line_is_next : (verdict : Verdict) (bytes_before bytes : List ℕ) → TellsNext new now.sectors after (Some verdict)
      → GivesBytes new now.sectors after (Some verdict) bytes_before bytes
      → (c : Content) → content_now before ≡ Some c
      → verdict_text (as_verdict verdict) bytes ≡ block_text (own_at c) (last_image c) new.told
  line_is_next verdict bytes_before bytes tells gives c told =
      ap (λ (v : Model.Verdict). verdict_text v bytes) (verdict_is verdict tells c told)
      ∙ ap (λ (l : List ℕ). verdict_text (verdict_on (own_at c) (last_image c) new.told) l)
      (gives c (later_told c told) ∙ ap (λ (d : DiskFormat). salvaged_bytes d (last_image c) new.told) (own_is c))

  module _ (bad : ℕ) (held_before mid : Option (List ℕ))
      (to : HasNow (λ c. IsToldTo (own_at c) (last_image c) new.told bad held_before mid) before) where
    -- The line of one block more is printed,
    pub told_more : (verdict : Verdict) (bytes_before bytes : List ℕ) (held : Option (List ℕ)) → TellsNext new now.sectors after (Some verdict)
        → GivesBytes new now.sectors after (Some verdict) bytes_before bytes
        → held ≡ option_map (with_bytes (verdict_text (as_verdict verdict) bytes)) mid
        → HasNow (λ c. IsToldTo (own_at c) (last_image c) (new.told + 1) (if is_good (as_verdict verdict) then bad else bad + 1) held_before held) before
    told_more verdict bytes_before bytes held tells gives put c told =
        subst (λ (v : Model.Verdict). IsToldTo (own_at c) (last_image c) (new.told + 1) (if is_good v then bad else bad + 1) held_before held)
        (sym (verdict_is verdict tells c told))
        (told_next (own_at c) (last_image c) new.told bad held_before mid held (to c told)
        (put ∙ ap (λ (l : List ℕ). held_with l mid) (line_is_next verdict bytes_before bytes tells gives c told)))

    -- or the sink failed in it,
    pub cut_in_block : (verdict : Verdict) (bytes_before bytes : List ℕ) (held : Option (List ℕ)) → TellsNext new now.sectors after (Some verdict)
        → GivesBytes new now.sectors after (Some verdict) bytes_before bytes
        → AddsPrefix (verdict_text (as_verdict verdict) bytes) mid held
        → HasNow (λ c. IsPrintedShort (salvage_texts (own_at c) (last_image c)) (Failed outers.Sink) held_before held) before
    cut_in_block verdict bytes_before bytes held tells gives put c told =
        let low = told_low verdict tells in
        cut_in_line (own_at c) (last_image c) new.told bad held_before mid held (omega (arith, low, own_blocks c told)) (to c told)
        (subst (λ (l : List ℕ). AddsPrefix l mid held) (line_is_next verdict bytes_before bytes tells gives c told) put)

    -- or something else ended it before,
    pub cut_at_block : (ending : Ending) → (ending ≡ NoMemory) ⊎ (ending ≡ Failed outers.Disk)
        → HasNow (λ c. IsPrintedShort (salvage_texts (own_at c) (last_image c)) ending held_before mid) before
    cut_at_block ending early c told =
        cut_between (own_at c) (last_image c) new.told bad ending held_before mid early (told_few c told) (to c told)

    -- or no block is left.
    pub told_all : TellsNext new now.sectors after None
        → HasNow (λ c. IsToldTo (own_at c) (last_image c) (blocks_of old) bad held_before mid) before
    told_all tells c told =
        let high = ltb-false new.told (blocks_of new) (sym tells.some) in
        let few = is.few in
        let all : new.told ≡ blocks_of old = omega (arith, high, few, ap (λ (f : ImageFormat). f.geometry.blocks) same.format) in
        subst (λ (n : ℕ). IsToldTo (own_at c) (last_image c) n bad held_before mid) all (to c told)

-- ---- a salvage

module _ (key : Option (List ℕ)) (sectors : ℕ) (start : Content) (script : List ℕ) {a b : List Content} (told : content_now a ≡ Some start) (kept : b ≡ a) where
  abbrev outset : Outset
  outset = salvage_outset key sectors (last_image start)

  abbrev own : DiskFormat
  own = format_on key sectors (last_image start)

  refused_as : (refusal : Refusals.ImageFault) (held : Option (List ℕ)) → read_fault_of sectors (last_image start) ≡ Some refusal
      → HasRunOn outset start script (Refused (ByImage refusal)) b held held
  refused_as refusal held refused =
      refused_run outset start script (Refused (ByImage refusal)) (ap (outset_by_salvage own (last_image start)) refused) b
      (untouched_kept start told kept) held held refl

  -- The image is not opened.
  pub not_salvaged : (fault : CallFault HeadFault) (held : Option (List ℕ))
      → ((fault ≢ CallFaults.Memory) → (fault ≢ CallFaults.Disk) → read_fault_of sectors (last_image start) ≡ refusal_of fault)
      → HasRunOn outset start script (ending_of (ended_by_opening (with_cause Head fault))) b held held
  not_salvaged CallFaults.Memory held refused =
      nothing_run outset (fine_salvage key sectors (last_image start)) start script NoMemory tt b (before_kept outset start told kept) held held refl
  not_salvaged CallFaults.Disk held refused =
      nothing_run outset (fine_salvage key sectors (last_image start)) start script (Failed outers.Disk) tt b (before_kept outset start told kept) held held refl
  not_salvaged (CallFaults.Refused (HeadFaults.Super fault)) held refused = refused_as _ held (refused (λ is. absurd (cc)) (λ is. absurd (cc)))
  not_salvaged (CallFaults.Refused (HeadFaults.Geom fault)) held refused = refused_as _ held (refused (λ is. absurd (cc)) (λ is. absurd (cc)))

  -- It is opened, and its lines are printed so far.
  pub salvaged : (ending : Ending) (held_before held : Option (List ℕ)) → read_fault_of sectors (last_image start) ≡ None
      → IsPrintedBy (salvage_texts own (last_image start)) (has_bad own (last_image start)) ending held_before held
      → HasRunOn outset start script ending b held_before held
  salvaged ending held_before held accepted printed =
      let texts = salvage_texts own (last_image start) in
      let found = has_bad own (last_image start) in
      subst (λ (o : Outset). HasRunOn o start script ending b held_before held)
      (sym (ap (outset_by_salvage own (last_image start)) accepted)) (record {
        run = only_prints texts found;
        is_run = refl;
        text = printed.text;
        changes = [];
        ended = printed.ended;
        told = printed.told;
        left = same_now start told kept;
      })

-- It ran so on the disk that is given back.
pub ran_back : (outset : Outset) (start : Content) (script : List ℕ) (ending : Ending) (held_before held : Option (List ℕ)) {after later : List Content}
    → HasRunOn outset start script ending after held_before held → later ≡ after
    → HasRunOn outset start script ending later held_before held
ran_back outset start script ending held_before held ran same =
    subst (λ (moments : List Content). HasRunOn outset start script ending moments held_before held) (sym same) ran
