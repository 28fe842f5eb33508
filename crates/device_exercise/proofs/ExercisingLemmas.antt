-- Requests of an exercise, one after the other, and where they are cut off.
use Rattle.std.proofs.Common.{◌≡◌, ℕ, ◌+◌, ◌-◌, ◌<◌, ◌≤◌, List, [], ◌∷◌, ◌++◌, map, Option, None, false, refl, sym}
use Rattle.std.proofs.Common.{◌∙◌, ap, subst, arith, append-nil, append_assoc}
use Rattle.std.specs.List.{range_with_len}
use Rattle.std.proofs.lemmas.List.{map-append}
use Rattle.disk_model.specs.Disk.{Content}
use Rattle.disk_model.specs.Identity.{DiskIdentity}
use Rattle.device_model.specs.History.{Change}
use Rattle.device_model.specs.Mode.{DeviceFormat, Direct}
use Rattle.device_model.specs.Progress.{Answer, DeviceState, Event}
use Rattle.device_model.specs.Script.{Ask, AskLine, Read, ask_fault, line_outcome}
use Rattle.device_model.specs.Script as script
use Rattle.workload_model.specs.Exercise.{Tally, asking_line, line_answers, read_all, script_events, tally_of}
use Rattle.workload_model.specs.Workload.{next_number, workload_ask, workload_asks}
use Rattle.workload_model.proofs.ExerciseLemmas.{after_events-script, line_answers-append, script_events-append}
use Rattle.request_slots.specs.declared.reply.Reply.{Reply}
use Rattle.workload.specs.Tally.{no_tally, with_ask}
use Rattle.workload.specs.Workload.{WorkloadState, asks_ahead}
use Rattle.workload.proofs.RunnableLemmas.{read_runs, workload_runs}
use Rattle.workload.proofs.WorkloadLemmas.{asks_ahead-next}
use Rattle.device_parts.specs.declared.condition.Condition.{Condition}
use Rattle.device_parts.specs.declared.condition.Condition.TheVariants as Conditions
use Rattle.device.specs.declared.mode.DeviceParts.{DeviceParts}
use Rattle.device.specs.declared.mode.Mode.{Mode}
use Rattle.device.specs.declared.mode.Mode.TheVariants as Modes
use Rattle.device.specs.Device.{IsDevice, IsReady, IsReadyIn, kind_of}
use Rattle.device_parts.specs.Device.{Standing}
use Rattle.device_parts.specs.declared.parts.Parts.{Parts}
use Rattle.device.specs.Run.{HasRun, IsCutOff, standing_behind}
use Rattle.device.proofs.RunLemmas.{cut_then, cut_wider, run_none, run_then}
use Rattle.script_session.specs.declared.tickets.Tickets.{Tickets}
use Rattle.script_session.specs.LineRun.{HasRunAsk, events_of}
use Rattle.script_session.specs.Meaning.{ask_fault_on}
use Rattle.script_session.specs.Tickets.{AreInFlight, Stays}
use Rattle.device_exercise.specs.Exercising.{AreAsksCut, Counts, HasExercised, HasRunAsks, IsExerciseCut}
use Rattle.device_exercise.specs.Exercising.{StaysWithin, answers_of}
use Rattle.device_exercise.specs.Exercising.{events_of_asks, exercise_events, with_reply_of}
use Rattle.device_exercise.specs.InOrder.{changes_by_ask, changes_by_exercise}
use Rattle.workload_model.specs.InOrder.{AreLinesBegun, AreLinesMade}
use Rattle.device_exercise.proofs.InOrderLemmas.{ask_begun, ask_made, asks_begun_then, asks_begun_wider, asks_made_then}
use Rattle.device_exercise.proofs.CountLemmas.{counts_answer, counts_ask, counts_none, counts_then}

-- ---- some requests, and more

module _ (w : Standing) where
  abbrev pub behind : List Ask → Standing
  behind asks = standing_behind w (events_of_asks w asks)

  pub events_of_asks-append : (xs ys : List Ask)
      → events_of_asks w (xs ++ ys) ≡ events_of_asks w xs ++ events_of_asks (behind xs) ys
  events_of_asks-append xs ys =
      let f = w.format in
      let s = w.state in
      ap (script_events f s) (map-append asking_line xs ys)
      ∙ script_events-append f s (map asking_line xs) (map asking_line ys)
      ∙ ap (λ (u : DeviceState). events_of_asks w xs ++ script_events f u (map asking_line ys))
      (sym (after_events-script f s (map asking_line xs)))

  answers_of-append : (xs ys : List Ask) → answers_of w (xs ++ ys) ≡ answers_of w xs ++ answers_of (behind xs) ys
  answers_of-append xs ys =
      let f = w.format in
      let s = w.state in
      ap (line_answers f s) (map-append asking_line xs ys)
      ∙ line_answers-append f s (map asking_line xs) (map asking_line ys)
      ∙ ap (λ (u : DeviceState). answers_of w xs ++ line_answers f u (map asking_line ys))
      (sym (after_events-script f s (map asking_line xs)))

  events_of_asks-one : (ask : Ask) → events_of_asks w (ask ∷ []) ≡ events_of w (AskLine false ask)
  events_of_asks-one ask = append-nil (events_of w (AskLine false ask))

  -- None is done yet.
  ran_none : (t : Tally) (p : DeviceParts) (a : List Content) → IsDevice w Conditions.Working p a
      → HasRunAsks w [] [] t t p a a
  ran_none t p a is = record { run = run_none w p a is; in_order = refl; tally = counts_none t }

  -- Requests behind others that are done.
  pub ran_then : (xs counted ys more : List Ask) (t u v : Tally) (p q : DeviceParts) (a b c : List Content)
      → HasRunAsks w xs counted t u p a b → HasRunAsks (behind xs) ys more u v q b c
      → HasRunAsks w (xs ++ ys) (counted ++ more) t v q a c
  ran_then xs counted ys more t u v p q a b c first second = record {
    run = subst (λ (l : List Event). HasRun w l q a c) (sym (events_of_asks-append xs ys))
        (run_then w (events_of_asks w xs) (events_of_asks (behind xs) ys) p q a b c first.run second.run);
    in_order = asks_made_then w xs ys a b c first.in_order second.in_order;
    tally = subst (λ (l : List (Option Answer)). Counts (counted ++ more) l t v) (sym (answers_of-append xs ys))
        (counts_then counted more (answers_of w xs) (answers_of (behind xs) ys) t u v first.tally second.tally);
  }

  -- They are cut off,
  pub cut_behind : (xs counted ys : List Ask) (t u : Tally) (p : DeviceParts) (a b c : List Content)
      (first : HasRunAsks w xs counted t u p a b) → AreAsksCut (behind xs) ys b c → AreAsksCut w (xs ++ ys) a c
  cut_behind xs counted ys t u p a b c first cut = record {
    cut = subst (λ (l : List Event). IsCutOff w l a c) (sym (events_of_asks-append xs ys))
        (cut_then w (events_of_asks w xs) (events_of_asks (behind xs) ys) p a b c first.run cut.cut);
    in_order = asks_begun_then w xs ys a b c first.in_order cut.in_order;
  }

  -- or were before.
  pub cut_before : (xs ys : List Ask) (a b : List Content) → AreAsksCut w xs a b → AreAsksCut w (xs ++ ys) a b
  cut_before xs ys a b cut = record {
    cut = subst (λ (l : List Event). IsCutOff w l a b) (sym (events_of_asks-append xs ys))
        (cut_wider w (events_of_asks w xs) (events_of_asks (behind xs) ys) a b cut.cut);
    in_order = asks_begun_wider w xs ys a b cut.in_order;
  }

  -- ---- one request

  pub ran_one : (ask : Ask) (reply : Option Reply) (old new : Tally) (p : DeviceParts) (a b : List Content)
      → HasRunAsk w ask reply p a b → new ≡ with_reply_of reply old → HasRunAsks w (ask ∷ []) [] old new p a b
  ran_one ask reply old new p a b ran same = record {
    run = subst (λ (l : List Event). HasRun w l p a b) (sym (events_of_asks-one ask)) ran.run;
    in_order = ask_made w ask p a b ran.run;
    tally = counts_answer reply (line_outcome w.format w.state (AskLine false ask)).answer old new ran.reply_ same;
  }

  pub cut_one : (ask : Ask) (a b : List Content) → IsCutOff w (events_of w (AskLine false ask)) a b
      → AreAsksCut w (ask ∷ []) a b
  cut_one ask a b cut = record {
    cut = subst (λ (l : List Event). IsCutOff w l a b) (sym (events_of_asks-one ask)) cut;
    in_order = ask_begun w ask a b cut;
  }

  -- ---- on the way

  -- Of all requests the first are done, and these are ahead; of those that are counted too.
  pub record IsAmong (all ahead all_counted counted_ahead : List Ask) (start now : Tally) (parts : DeviceParts)
      (before after : List Content) : Type 0 where
    pub made : List Ask
    pub counted : List Ask
    pub is_all : all ≡ made ++ ahead
    pub is_counted : all_counted ≡ counted ++ counted_ahead
    pub ran : HasRunAsks w made counted start now parts before after

  pub among_none : (all ahead all_counted counted_ahead : List Ask) (t u : Tally) (p : DeviceParts) (a : List Content)
      → IsDevice w Conditions.Working p a → all ≡ ahead → all_counted ≡ counted_ahead → u ≡ t
      → IsAmong all ahead all_counted counted_ahead t u p a a
  among_none all ahead all_counted counted_ahead t u p a is same same_counted same_tally = record {
    made = [];
    counted = [];
    is_all = same;
    is_counted = same_counted;
    ran = subst (λ (x : Tally). HasRunAsks w [] [] t x p a a) (sym same_tally) (ran_none t p a is);
  }

  module _ (all ahead all_counted counted_ahead : List Ask) (start now : Tally) (p : DeviceParts) (a b : List Content)
      (at : IsAmong all ahead all_counted counted_ahead start now p a b) where
    -- One is done more,
    pub among_more : (ask : Ask) (rest one rest_counted : List Ask) → ahead ≡ ask ∷ rest
        → counted_ahead ≡ one ++ rest_counted → (next : Tally) (q : DeviceParts) (c : List Content)
        → HasRunAsks (behind at.made) (ask ∷ []) one now next q b c
        → IsAmong all rest all_counted rest_counted start next q a c
    among_more ask rest one rest_counted is is_counted next q c ran = record {
      made = at.made ++ ask ∷ [];
      counted = at.counted ++ one;
      is_all = at.is_all ∙ ap (λ (l : List Ask). at.made ++ l) is ∙ sym (append_assoc at.made (ask ∷ []) rest);
      is_counted = at.is_counted ∙ ap (λ (l : List Ask). at.counted ++ l) is_counted
          ∙ sym (append_assoc at.counted one rest_counted);
      ran = ran_then at.made at.counted (ask ∷ []) one start now next p q a b c at.ran ran;
    }

    -- or is cut off,
    pub among_cut : (ask : Ask) (rest : List Ask) → ahead ≡ ask ∷ rest → (c : List Content)
        → AreAsksCut (behind at.made) (ask ∷ []) b c → AreAsksCut w all a c
    among_cut ask rest is c cut =
        subst (λ (l : List Ask). AreAsksCut w l a c)
        (sym (at.is_all ∙ ap (λ (l : List Ask). at.made ++ l) is ∙ sym (append_assoc at.made (ask ∷ []) rest)))
        (cut_before (at.made ++ ask ∷ []) rest a c
        (cut_behind at.made at.counted (ask ∷ []) start now p a b c at.ran cut))

    -- or none is left.
    pub among_all : ahead ≡ [] → counted_ahead ≡ [] → HasRunAsks w all all_counted start now p a b
    among_all none none_counted =
        let made : at.made ≡ all = sym (at.is_all ∙ ap (λ (l : List Ask). at.made ++ l) none ∙ append-nil at.made) in
        let counted : at.counted ≡ all_counted =
        sym (at.is_counted ∙ ap (λ (l : List Ask). at.counted ++ l) none_counted ∙ append-nil at.counted) in
        subst (λ (l : List Ask). HasRunAsks w all l start now p a b) counted
        (subst (λ (l : List Ask). HasRunAsks w l at.counted start now p a b) made at.ran)

-- A request that is counted, and then done and its answer counted.
pub ran_counted : (w : Standing) (ask : Ask) (t u v : Tally) (p : DeviceParts) (a b : List Content) → u ≡ with_ask ask t
    → HasRunAsks w (ask ∷ []) [] u v p a b → HasRunAsks w (ask ∷ []) (ask ∷ []) t v p a b
ran_counted w ask t u v p a b same ran = record {
  run = ran.run;
  in_order = ran.in_order;
  tally = counts_then (ask ∷ []) [] [] (answers_of w (ask ∷ [])) t u v (counts_ask ask t u same) ran.tally;
}

-- ---- what stays

pub stays_none : (condition : Condition) (parts : DeviceParts) (tickets : Tickets) (disk : DiskIdentity)
    (moments : List Content) → IsReady condition parts disk moments → AreInFlight tickets parts.common.slots
    → StaysWithin 0 condition parts parts tickets disk disk moments
stays_none condition parts tickets disk moments ready are = record {
  ready = ready;
  tickets_ = are;
  mode_ = refl;
  blocks = refl;
  block_size = refl;
  submitted = omega arith;
  identity = refl;
}

pub stays_one : (condition : Condition) (old new : DeviceParts) (tickets : Tickets) (before disk : DiskIdentity)
    (moments : List Content) → Stays condition old new tickets before disk moments
    → StaysWithin 1 condition old new tickets before disk moments
stays_one condition old new tickets before disk moments stays = record {
  ready = stays.ready;
  tickets_ = stays.tickets_;
  mode_ = stays.mode_;
  blocks = stays.blocks;
  block_size = stays.block_size;
  submitted = let more = stays.submitted in omega (arith, more);
  identity = stays.identity;
}

pub stays_then : (m n most : ℕ) (condition between : Condition) (a b c : DeviceParts) (tickets some : Tickets)
    (disk_a disk_b disk_c : DiskIdentity) (moments moments_b : List Content) → m + n ≤ most
    → StaysWithin m between a b some disk_a disk_b moments_b → StaysWithin n condition b c tickets disk_b disk_c moments
    → StaysWithin most condition a c tickets disk_a disk_c moments
stays_then m n most condition between a b c tickets some disk_a disk_b disk_c moments held fits first second = record {
  ready = second.ready;
  tickets_ = second.tickets_;
  mode_ = second.mode_ ∙ first.mode_;
  blocks = second.blocks ∙ first.blocks;
  block_size = second.block_size ∙ first.block_size;
  submitted = let one = first.submitted in let two = second.submitted in omega (arith, fits, one, two);
  identity = second.identity ∙ first.identity;
}

pub stays_wider : (m most : ℕ) (condition : Condition) (old new : DeviceParts) (tickets : Tickets)
    (before disk : DiskIdentity) (moments : List Content) → m ≤ most
    → StaysWithin m condition old new tickets before disk moments
    → StaysWithin most condition old new tickets before disk moments
stays_wider m most condition old new tickets before disk moments fits stays = record {
  ready = stays.ready;
  tickets_ = stays.tickets_;
  mode_ = stays.mode_;
  blocks = stays.blocks;
  block_size = stays.block_size;
  submitted = let one = stays.submitted in omega (arith, fits, one);
  identity = stays.identity;
}

-- A device that works has a block.
some_in : (mode : Mode) (common : Parts) (disk : DiskIdentity) (moments : List Content)
    → IsReadyIn mode Conditions.Working common disk moments → 1 ≤ common.slots.blocks
some_in (Modes.Direct recalc) common disk moments ready =
    let direct = ready.parts_ in
    let some = direct.store.geometry.blocks in let is = direct.blocks in omega (arith, some, is)
some_in (Modes.Journal journal) common disk moments ready =
    let direct = ready.parts_ refl in
    let some = direct.store.geometry.blocks in let is = direct.blocks in omega (arith, some, is)
some_in (Modes.Bitmap regions) common disk moments ready =
    let direct = ready.parts_ in
    let some = direct.store.geometry.blocks in let is = direct.blocks in omega (arith, some, is)
some_in Modes.Recovery common disk moments ready =
    let direct = ready.kept in
    let some = direct.store.geometry.blocks in let is = direct.blocks in omega (arith, some, is)

pub some_blocks : (condition : Condition) (parts : DeviceParts) (disk : DiskIdentity) (moments : List Content)
    → condition ≡ Conditions.Working → IsReady condition parts disk moments → 1 ≤ parts.common.slots.blocks
some_blocks condition parts disk moments works ready =
    some_in parts.mode parts.common disk moments
    (subst (λ (x : Condition). IsReadyIn parts.mode x parts.common disk moments) works ready)

-- ---- requests that can be run

-- A format with so many blocks, for what is told of those alone.
abbrev with_blocks : (blocks size : ℕ) → DeviceFormat
with_blocks blocks size = record {
  mode = Direct;
  blocks = record { blocks = blocks; block_size = size; tag = λ b bytes. [] };
  slots = 0;
  sections = 0;
  entries = 0;
  regions = 0;
  region_of = λ b. 0;
}

fault-is : (blocks size : ℕ) (ask : Ask) → ask_fault_on blocks size ask ≡ ask_fault (with_blocks blocks size) ask
fault-is blocks size (script.Fill first count byte fua) = refl
fault-is blocks size (script.Write first stretches fua) = refl
fault-is blocks size (script.Read first count) = refl
fault-is blocks size script.Flush = refl

pub workload_fits : (x blocks some size : ℕ) (ask : Ask) → ask ≡ workload_ask x blocks → some ≡ blocks → 1 ≤ blocks
    → ask_fault_on some size ask ≡ None
workload_fits x blocks some size ask is same least =
    ap (λ (n : ℕ). ask_fault_on n size ask) same ∙ ap (ask_fault_on blocks size) is
    ∙ fault-is blocks size (workload_ask x blocks) ∙ workload_runs (with_blocks blocks size) x least

pub read_fits : (block blocks some size : ℕ) → some ≡ blocks → block < blocks
    → ask_fault_on some size (Read block 1) ≡ None
read_fits block blocks some size same low =
    ap (λ (n : ℕ). ask_fault_on n size (Read block 1)) same
    ∙ fault-is blocks size (Read block 1) ∙ read_runs (with_blocks blocks size) block low

-- ---- what is ahead at the start

pub asks_at_start : (count seed blocks some : ℕ) (w : WorkloadState) → w ≡ record { number = seed; blocks = some }
    → some ≡ blocks → workload_asks count seed blocks ≡ asks_ahead (count - 0) w
asks_at_start count seed blocks some w is same =
    let all : count - 0 ≡ count = omega arith in
    ap (workload_asks count seed) (sym same) ∙ ap (asks_ahead count) (sym is)
    ∙ ap (λ (n : ℕ). asks_ahead n w) (sym all)

pub reads_at_start : (blocks : ℕ)
    → read_all blocks ≡ map (λ b. Read b 1) (range_with_len 0 (blocks - 0))
reads_at_start blocks =
    let all : blocks - 0 ≡ blocks = omega arith in
    ap (λ (n : ℕ). map (λ b. Read b 1) (range_with_len 0 n)) (sym all)

-- Behind the last block none is read.
pub reads-none : (blocks block : ℕ) → blocks ≤ block
    → map (λ b. Read b 1) (range_with_len block (blocks - block)) ≡ []
reads-none blocks block past =
    let none : blocks - block ≡ 0 = omega arith in
    ap (λ (n : ℕ). map (λ b. Read b 1) (range_with_len block n)) none

-- The next request is the first of those that are ahead.
pub next_is : (n made : ℕ) (old new : WorkloadState) (ask : Ask) → made < n
    → ask ≡ workload_ask new.number old.blocks → new ≡ record old { number = next_number old.number }
    → asks_ahead (n - made) old ≡ ask ∷ asks_ahead (n - (made + 1)) new
next_is n made old new ask low is same =
    let told : ask ≡ workload_ask (next_number old.number) old.blocks =
    is ∙ ap (λ (w : WorkloadState). workload_ask w.number old.blocks) same in
    asks_ahead-next n made old low
    ∙ ap (λ (x : Ask). x ∷ asks_ahead (n - (made + 1)) (record old { number = next_number old.number })) (sym told)
    ∙ ap (λ (w : WorkloadState). ask ∷ asks_ahead (n - (made + 1)) w) (sym same)

-- ---- the exercise

-- Its requests are those of the workload, and then a read of each block.
module _ (w : Standing) (seed count blocks : ℕ) (is : w.format.blocks.blocks ≡ blocks) where
  pub exercise_asks : exercise_events w seed count
      ≡ events_of_asks w (workload_asks count seed blocks ++ read_all blocks)
  exercise_asks = ap (λ (n : ℕ). events_of_asks w (workload_asks count seed n ++ read_all n)) is

  abbrev asks : List Ask
  asks = workload_asks count seed blocks

  -- What each of its lines does is what each of these does.
  exercise_changes : changes_by_exercise w seed count ≡ changes_by_ask w (asks ++ read_all blocks)
  exercise_changes = ap (λ (n : ℕ). changes_by_ask w (workload_asks count seed n ++ read_all n)) is

  cut_in : (a b : List Content) → AreAsksCut w (asks ++ read_all blocks) a b → IsExerciseCut w seed count a b
  cut_in a b cut = record {
    cut = subst (λ (l : List Event). IsCutOff w l a b) (sym exercise_asks) cut.cut;
    in_order = subst (λ (l : List (List Change)). AreLinesBegun (kind_of w) w.entry w.state.history l a b)
        (sym exercise_changes) cut.in_order;
  }

  -- It is cut off in the first of these,
  pub cut_first : (a b : List Content) → AreAsksCut w asks a b → IsExerciseCut w seed count a b
  cut_first a b cut = cut_in a b (cut_before w asks (read_all blocks) a b cut)

  module _ (t : Tally) (p : DeviceParts) (a b : List Content) (first : HasRunAsks w asks asks no_tally t p a b)
      (n : ℕ) (same : n ≡ blocks) where
    -- or in a read,
    pub cut_second : (c : List Content) → AreAsksCut (behind w asks) (read_all n) b c
        → IsExerciseCut w seed count a c
    cut_second c cut = cut_in a c
        (cut_behind w asks asks (read_all blocks) no_tally t p a b c first
        (subst (λ (k : ℕ). AreAsksCut (behind w asks) (read_all k) b c) same cut))

    -- or all are done, and it counts what it is to count.
    pub has_exercised : (u : Tally) (q : DeviceParts) (c : List Content)
        → HasRunAsks (behind w asks) (read_all n) [] t u q b c → HasExercised w seed count u q a c
    has_exercised u q c second =
        let reads = subst (λ (k : ℕ). HasRunAsks (behind w asks) (read_all k) [] t u q b c) same second in
        let all = ran_then w asks asks (read_all blocks) [] no_tally t u p q a b c first reads in
        record {
          run = subst (λ (l : List Event). HasRun w l q a c) (sym exercise_asks) all.run;
          in_order = subst (λ (l : List (List Change)). AreLinesMade (kind_of w) w.entry w.state.history l a c)
              (sym exercise_changes) all.in_order;
          tally_ = all.tally [] [] refl
              ∙ ap (λ (l : List Ask). tally_of l (answers_of w (asks ++ read_all blocks))) (append-nil asks)
              ∙ ap (λ (k : ℕ). tally_of (workload_asks count seed k)
              (answers_of w (workload_asks count seed k ++ read_all k))) (sym is);
        }
