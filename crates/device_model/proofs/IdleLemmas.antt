-- How often an actor steps until it is idle, and that a write then finds room.
use Rattle.std.proofs.Common.{◌≡◌, ◌≢◌, ◌⊎◌, inl, inr, ℕ, zero, suc, ◌+◌, ◌-◌, ◌%◌, ◌<◌, ◌≤◌, ◌==◌, Bool, true, false, not, ◌&&◌, ◌||◌, ltb, leb, List, [], ◌∷◌, ◌++◌, length, map, sum_by, cond, if◌then◌else◌, Option, None, Some, option_map, refl, sym, ◌∙◌, ap, subst, arith}
use Rattle.std.specs.List.{list_any}
use Rattle.std.proofs.lemmas.Bool.{cases_Bool, false≢true, or_parts, or_cases, ltb-true, both_ways, and_parts}
use Rattle.std.proofs.lemmas.List.Sums.{sum_by-cons, sum_by-le-sum_by}
use Rattle.std.proofs.lemmas.Option.{none-some, same_Some}
use Rattle.device_model.specs.History.{with_changes, Change}
use Rattle.device_model.specs.Journal.{SectionState, Open, Closed, Committed, Free, SectionCounts, is_open, is_uncommitted, is_committed, is_unfreed, JournalCounts, closed_end, committed_batch, commit, is_unplaced, place_oldest, place, is_all_placed, as_settled, settle}
use Rattle.device_model.specs.Mode.{DeviceFormat, is_journal, is_bitmap, is_recovery}
use Rattle.device_model.specs.Progress.{Progress, Condition, Working, Broken, Closed, DeviceState, Event, Step, Commit, Place, Settle, Clean, Recalc, Answer, Did, Idle, step_journal, step_regions, step, in_modes, is_used, result_in, event_result, after_event, after_events, Actor}
use Rattle.device_model.specs.RoomLaws.{RoomEventsLaw, commits}
use Rattle.device_model.specs.Regions.{RegionCounts, clean, recalculate}
use Rattle.device_model.specs.Script.{steps_until_idle, most_steps, idle_events, room_events, IsOfJournal}
use Rattle.device_model.proofs.RoomLemmas.{no_uncommitted, no_unplaced, all_free, in_modes-did, sections_of, commit-idle, place-idle, step-requests, after_place-committed, after_settle-free, HasRoomFor, HasRoomFor-free, HasRoomFor-other, no_room-works, serve-room}

-- ---- how often an actor steps

-- How many sections are uncommitted, and how many entries of committed ones are unplaced.
abbrev pub uncommitted_weight : SectionCounts → ℕ
uncommitted_weight s = cond (is_uncommitted s.state) 1 0

abbrev pub unplaced_weight : SectionCounts → ℕ
unplaced_weight s = cond (is_committed s.state) (length s.blocks - s.placed) 0

abbrev pub section_weight : SectionCounts → ℕ
section_weight s = suc (length s.blocks)

uncommitted-le : (s : SectionCounts) → uncommitted_weight s ≤ section_weight s
uncommitted-le s = elim (is_uncommitted s.state) as (λ t. cond t 1 0 ≤ section_weight s) [ true ↦ omega arith | false ↦ omega arith ]

unplaced-le : (s : SectionCounts) → unplaced_weight s ≤ section_weight s
unplaced-le s = elim (is_committed s.state) as (λ t. cond t (length s.blocks - s.placed) 0 ≤ section_weight s) [ true ↦ omega arith | false ↦ omega arith ]

abbrev pub uncommitted_count : List SectionCounts → ℕ
uncommitted_count sections = sum_by uncommitted_weight sections

abbrev pub unplaced_count : List SectionCounts → ℕ
unplaced_count sections = sum_by unplaced_weight sections

closed-state : (s : SectionCounts) → is_uncommitted (if is_open s.state then record s { state = Closed } else s).state ≡ is_uncommitted s.state
closed-state s = by s.blocks s.placed s.state
  where
    by : (blocks : List ℕ) (placed : ℕ) (state : SectionState)
        → let s : SectionCounts = record { blocks = blocks; placed = placed; state = state } in is_uncommitted (if is_open s.state then record s { state = Closed } else s).state ≡ is_uncommitted s.state
    by blocks placed Open = refl
    by blocks placed Closed = refl
    by blocks placed Committed = refl
    by blocks placed Free = refl

uncommitted_count-closed_end : (sections : List SectionCounts) → uncommitted_count (closed_end sections) ≡ uncommitted_count sections
uncommitted_count-closed_end [] = refl
uncommitted_count-closed_end (s ∷ []) =
    sum_by-cons uncommitted_weight (if is_open s.state then record s { state = Closed } else s) []
    ∙ ap (λ (t : Bool). cond t 1 0 + 0) (closed-state s) ∙ sym (sum_by-cons uncommitted_weight s [])
uncommitted_count-closed_end (s ∷ next ∷ sections) =
    sum_by-cons uncommitted_weight s (closed_end (next ∷ sections))
    ∙ ap (λ (n : ℕ). uncommitted_weight s + n) (uncommitted_count-closed_end (next ∷ sections))
    ∙ sym (sum_by-cons uncommitted_weight s (next ∷ sections))

list_any-closed_end : (sections : List SectionCounts) → list_any (λ (s : SectionCounts). is_uncommitted s.state) (closed_end sections) ≡ list_any (λ (s : SectionCounts). is_uncommitted s.state) sections
list_any-closed_end [] = refl
list_any-closed_end (s ∷ []) = ap (λ (t : Bool). t || false) (closed-state s)
list_any-closed_end (s ∷ next ∷ sections) = ap (λ (t : Bool). is_uncommitted s.state || t) (list_any-closed_end (next ∷ sections))

abbrev pub committed_one : SectionCounts → SectionCounts
committed_one s = record s { state = Committed }

-- A batch leaves no more uncommitted, and fewer where there were some.
module _ (ring : ℕ) where
  pub batch_next : ℕ → List SectionCounts → List SectionCounts
  batch_next at sections = if suc at % ring == 0 then sections else committed_batch ring (suc at) sections

  pub batch-at : (at : ℕ) (s : SectionCounts) (sections : List SectionCounts)
      → ((is_uncommitted s.state ≡ true) × (committed_batch ring at (s ∷ sections) ≡ committed_one s ∷ batch_next at sections))
      ⊎ ((is_uncommitted s.state ≡ false) × (committed_batch ring at (s ∷ sections) ≡ s ∷ committed_batch ring (suc at) sections))
  unfolding batch_next
  batch-at at s sections =
      let by = λ (t : Bool). if t then committed_one s ∷ (if suc at % ring == 0 then sections else committed_batch ring (suc at) sections) else s ∷ committed_batch ring (suc at) sections in
      elim (cases_Bool (is_uncommitted s.state)) [
        | inl here ↦ inl (here, ap by here)
        | inr later ↦ inr (later, ap by later)
      ]

  pub batch_next-cases : (at : ℕ) (sections : List SectionCounts) → (batch_next at sections ≡ sections) ⊎ (batch_next at sections ≡ committed_batch ring (suc at) sections)
  unfolding batch_next
  batch_next-cases at sections = elim (cases_Bool (suc at % ring == 0)) [
    | inl last ↦ inl (ap (λ (t : Bool). if t then sections else committed_batch ring (suc at) sections) last)
    | inr more ↦ inr (ap (λ (t : Bool). if t then sections else committed_batch ring (suc at) sections) more)
  ]

  batch-le : (at : ℕ) (sections : List SectionCounts) → uncommitted_count (committed_batch ring at sections) ≤ uncommitted_count sections
  batch-le at [] = omega arith
  batch-le at (s ∷ sections) =
      let whole = sum_by-cons uncommitted_weight s sections in
      elim (batch-at at s sections) [
        | inl here ↦
            let one = sum_by-cons uncommitted_weight (committed_one s) (batch_next at sections) in
            let rest : uncommitted_count (batch_next at sections) ≤ uncommitted_count sections = elim (batch_next-cases at sections) [
              | inl same ↦ rw same (omega arith)
              | inr more ↦ rw more (batch-le (suc at) sections)
            ] in
            rw here.1 (omega (arith, whole, one, rest))
        | inr later ↦
            let one = sum_by-cons uncommitted_weight s (committed_batch ring (suc at) sections) in
            rw later.1 (omega (arith, whole, one, batch-le (suc at) sections))
      ]

  batch-lt : (at : ℕ) (sections : List SectionCounts) → list_any (λ (s : SectionCounts). is_uncommitted s.state) sections ≡ true
      → uncommitted_count (committed_batch ring at sections) < uncommitted_count sections
  batch-lt at [] some = absurd (false≢true some)
  batch-lt at (s ∷ sections) some =
      let whole = sum_by-cons uncommitted_weight s sections in
      elim (batch-at at s sections) [
        | inl here ↦
            let one = sum_by-cons uncommitted_weight (committed_one s) (batch_next at sections) in
            let rest : uncommitted_count (batch_next at sections) ≤ uncommitted_count sections = elim (batch_next-cases at sections) [
              | inl same ↦ rw same (omega arith)
              | inr more ↦ rw more (batch-le (suc at) sections)
            ] in
            let weight : uncommitted_weight s ≡ 1 = ap (λ (t : Bool). cond t 1 0) here.0 in
            rw here.1 (omega (arith, whole, one, rest, weight))
        | inr later ↦
            let behind : list_any (λ (s : SectionCounts). is_uncommitted s.state) sections ≡ true = sym (ap (λ (t : Bool). t || list_any (λ (s : SectionCounts). is_uncommitted s.state) sections) later.0) ∙ some in
            let one = sum_by-cons uncommitted_weight s (committed_batch ring (suc at) sections) in
            rw later.1 (omega (arith, whole, one, batch-lt (suc at) sections behind))
      ]

-- One placement more leaves one entry fewer.
unplaced-one : (s : SectionCounts) → is_unplaced s ≡ true → unplaced_weight (record s { placed = suc s.placed }) < unplaced_weight s
unplaced-one s here =
    let parts = and_parts (is_committed s.state) (ltb s.placed (length s.blocks)) here in
    let below = ltb-true s.placed (length s.blocks) parts.1 in
    let before : unplaced_weight s ≡ length s.blocks - s.placed = ap (λ (t : Bool). cond t (length s.blocks - s.placed) 0) parts.0 in
    let behind : unplaced_weight (record s { placed = suc s.placed }) ≡ length s.blocks - suc s.placed = ap (λ (t : Bool). cond t (length s.blocks - suc s.placed) 0) parts.0 in
    omega (arith, below, before, behind)

place_oldest-lt : (sections after : List SectionCounts) → place_oldest sections ≡ Some after → unplaced_count after < unplaced_count sections
place_oldest-lt [] after is = absurd (none-some after is)
place_oldest-lt (s ∷ sections) after is =
    let by = λ (t : Bool). if t then Some (record s { placed = suc s.placed } ∷ sections) else option_map (λ (rest : List SectionCounts). s ∷ rest) (place_oldest sections) in
    let whole = sum_by-cons unplaced_weight s sections in
    elim (cases_Bool (is_unplaced s)) [
      | inl here ↦
          let it : record s { placed = suc s.placed } ∷ sections ≡ after = same_Some _ _ (sym (ap by here) ∙ is) in
          let one = sum_by-cons unplaced_weight (record s { placed = suc s.placed }) sections in
          subst (λ (ss : List SectionCounts). unplaced_count ss < unplaced_count (s ∷ sections)) it (omega (arith, whole, one, unplaced-one s here))
      | inr later ↦ behind s sections after (place_oldest sections) (λ rest is_rest. place_oldest-lt sections rest is_rest) refl (sym (ap by later) ∙ is)
    ]
  where
    behind : (s : SectionCounts) (sections after : List SectionCounts) (found : Option (List SectionCounts))
        → ((rest : List SectionCounts) → place_oldest sections ≡ Some rest → unplaced_count rest < unplaced_count sections) → place_oldest sections ≡ found
        → option_map (λ (rest : List SectionCounts). s ∷ rest) found ≡ Some after → unplaced_count after < unplaced_count (s ∷ sections)
    behind s sections after None rests is joined = absurd (none-some after joined)
    behind s sections after (Some rest) rests is joined =
        let one = sum_by-cons unplaced_weight s rest in
        let whole = sum_by-cons unplaced_weight s sections in
        subst (λ (ss : List SectionCounts). unplaced_count ss < unplaced_count (s ∷ sections)) (same_Some (s ∷ rest) after joined) (omega (arith, one, whole, rests rest is))

-- ---- until an actor is idle

module _ (f : DeviceFormat) where
  pub after_events-append : (s : DeviceState) (xs ys : List Event) → after_events f s (xs ++ ys) ≡ after_events f (after_events f s xs) ys
  after_events-append s [] ys = refl
  after_events-append s (x ∷ xs) ys = after_events-append (after_event f s x) xs ys

  -- An answer at which an actor stops.
  abbrev pub IsStop : Answer → Type 0
  IsStop answer = (x y : List Event) → ◌≡◌ {A = List Event} (elim answer [ Did ↦ x | _ ↦ y ]) y

  -- Each step did something, or the actor stops at its answer.
  pub step-two : (s : DeviceState) (actor : Actor) → ((event_result f s (Step actor)).answer ≡ Did) ⊎ IsStop (event_result f s (Step actor)).answer
  step-two s actor = by s.condition
    where
      of_journal : (j : Option JournalCounts) → ((step_journal s.progress j).answer ≡ Did) ⊎ IsStop (step_journal s.progress j).answer
      of_journal None = inr (λ x y. refl)
      of_journal (Some j) = inl refl

      of_regions : (c : Option RegionCounts) → ((step_regions s.progress c).answer ≡ Did) ⊎ IsStop (step_regions s.progress c).answer
      of_regions None = inr (λ x y. refl)
      of_regions (Some c) = inl refl

      of_step : (actor : Actor) → ((step f s.progress actor).answer ≡ Did) ⊎ IsStop (step f s.progress actor).answer
      of_step Commit = of_journal (in_modes (is_journal f.mode) (commit f.sections s.progress.journal))
      of_step Place = of_journal (in_modes (is_journal f.mode) (place s.progress.journal))
      of_step Settle = of_journal (in_modes (is_journal f.mode) (settle s.progress.journal))
      of_step Clean = of_regions (in_modes (is_bitmap f.mode) (clean f.regions (is_used f s.progress.requests) s.progress.regions))
      of_step Recalc = of_regions (in_modes (not (is_recovery f.mode)) (recalculate f.regions s.progress.regions))

      by : (c : Condition) → ((result_in f s c (Step actor)).answer ≡ Did) ⊎ IsStop (result_in f s c (Step actor)).answer
      by Working = of_step actor
      by Broken = inr (λ x y. refl)
      by Closed = inr (λ x y. refl)

  stop_not_did : (answer : Answer) → IsStop answer → answer ≡ Did → ⊥
  stop_not_did answer stops did =
      let go = λ (a : Answer). elim a as (λ b. List Event) [ Did ↦ Step Commit ∷ [] | _ ↦ [] ] in
      let same : Step Commit ∷ [] ≡ [] = sym (ap go did) ∙ stops (Step Commit ∷ []) [] in
      absurd (cc)

  -- On a device that works a step of the journal's actors at which one stops is idle.
  step_journal-stop : (p : Progress) (j : Option JournalCounts) → IsStop (step_journal p j).answer → (step_journal p j).answer ≡ Idle
  step_journal-stop p None stops = refl
  step_journal-stop p (Some j) stops = absurd (stop_not_did Did stops refl)

  -- Where an actor stops nothing has changed.
  step_journal-same : (p : Progress) (j : Option JournalCounts) → IsStop (step_journal p j).answer → (step_journal p j).progress ≡ p × (step_journal p j).changes ≡ []
  step_journal-same p None stops = (refl, refl)
  step_journal-same p (Some j) stops = absurd (stop_not_did Did stops refl)

  module _ (actor : Actor) (weight : DeviceState → ℕ)
      (falls : (s : DeviceState) → (event_result f s (Step actor)).answer ≡ Did → weight (after_event f s (Step actor)) < weight s)
      (rests : (s : DeviceState) → IsStop (event_result f s (Step actor)).answer → after_event f s (Step actor) ≡ s) where
    -- An actor that has steps enough stops at their end.
    pub steps_until_idle-idle : (n : ℕ) (s : DeviceState) → weight s < n → IsStop (event_result f (after_events f s (steps_until_idle f actor n s)) (Step actor)).answer
    steps_until_idle-idle zero s below = absurd (omega (arith, below))
    steps_until_idle-idle (suc n) s below =
        let next = after_event f s (Step actor) in
        let more = steps_until_idle f actor n next in
        let Stops = λ (events : List Event). IsStop (event_result f (after_events f next events) (Step actor)).answer in
        elim (step-two s actor) [
          | inl did ↦ subst (λ (answer : Answer). Stops (elim answer [ Did ↦ more | _ ↦ [] ])) (sym did) (steps_until_idle-idle n next (omega (arith, below, falls s did)))
          | inr stops ↦ subst Stops (sym (stops more [])) (subst (λ (t : DeviceState). IsStop (event_result f t (Step actor)).answer) (sym (rests s stops)) stops)
        ]

    -- More steps than enough are as good.
    steps_until_idle-enough : (n m : ℕ) (s : DeviceState) → weight s < n → weight s < m → steps_until_idle f actor n s ≡ steps_until_idle f actor m s
    steps_until_idle-enough zero m s below other = absurd (omega (arith, below))
    steps_until_idle-enough (suc n) zero s below other = absurd (omega (arith, other))
    steps_until_idle-enough (suc n) (suc m) s below other =
        let next = after_event f s (Step actor) in
        let go = λ (i : ℕ) (answer : Answer). Step actor ∷ elim answer [ Did ↦ steps_until_idle f actor i next | _ ↦ [] ] in
        let first = λ (l : List Event). Step actor ∷ l in
        elim (step-two s actor) [
          | inl did ↦
              ap (go n) did
              ∙ ap first (steps_until_idle-enough n m next (omega (arith, below, falls s did)) (omega (arith, other, falls s did)))
              ∙ sym (ap (go m) did)
          | inr stops ↦ ap first (stops (steps_until_idle f actor n next) []) ∙ sym (ap first (stops (steps_until_idle f actor m next) []))
        ]

    -- One step, and where that did something the others.
    pub idle_events-step : (s : DeviceState) → ((t : DeviceState) → weight t < most_steps t.progress)
        → idle_events f actor s ≡ Step actor ∷ elim (event_result f s (Step actor)).answer [ Did ↦ idle_events f actor (after_event f s (Step actor)) | _ ↦ [] ]
    idle_events-step s bound =
        let next = after_event f s (Step actor) in
        let fuel = sum_by section_weight s.progress.journal.sections in
        let one = λ (answer : Answer). Step actor ∷ elim answer [ Did ↦ steps_until_idle f actor fuel next | _ ↦ [] ] in
        let other = λ (answer : Answer). Step actor ∷ elim answer [ Did ↦ idle_events f actor next | _ ↦ [] ] in
        let first = λ (l : List Event). Step actor ∷ l in
        elim (step-two s actor) [
          | inl did ↦
              ap one did
              ∙ ap first (steps_until_idle-enough fuel (most_steps next.progress) next (omega (arith, falls s did, bound s)) (bound next))
              ∙ sym (ap other did)
          | inr stops ↦ ap first (stops (steps_until_idle f actor fuel next) []) ∙ sym (ap first (stops (idle_events f actor next) []))
        ]

  -- What each step keeps, they keep.
  module _ (actor : Actor) (P : DeviceState → Type 0)
      (keeps : (s : DeviceState) → P s → P (after_event f s (Step actor))) where
    pub steps_until_idle-keeps : (n : ℕ) (s : DeviceState) → P s → P (after_events f s (steps_until_idle f actor n s))
    steps_until_idle-keeps zero s holds = holds
    steps_until_idle-keeps (suc n) s holds =
        let next = after_event f s (Step actor) in
        let more = steps_until_idle f actor n next in
        let go = λ (answer : Answer). after_events f next (elim answer [ Did ↦ more | _ ↦ [] ]) in
        elim (step-two s actor) [
          | inl did ↦ subst P (sym (ap go did)) (steps_until_idle-keeps n next (keeps s holds))
          | inr stops ↦ subst P (sym (ap (after_events f next) (stops more []))) (keeps s holds)
        ]

  -- Where an actor of the journal stops the device is as it was.
  abbrev state_of : DeviceState → Progress → List Change → DeviceState
  state_of s p changes = record { history = with_changes changes s.history; progress = p; condition = s.condition }

  rests_by : (s : DeviceState) (j : Option JournalCounts) → IsStop (step_journal s.progress j).answer → state_of s (step_journal s.progress j).progress (step_journal s.progress j).changes ≡ s
  rests_by s j stops =
      let parts = step_journal-same s.progress j stops in
      ap (λ (p : Progress). state_of s p (step_journal s.progress j).changes) parts.0 ∙ ap (state_of s s.progress) parts.1

  pub step-rests : (actor : Actor) → IsOfJournal actor → (s : DeviceState) → IsStop (event_result f s (Step actor)).answer → after_event f s (Step actor) ≡ s
  step-rests actor is s stops = by s.condition stops
    where
      of_step : IsStop (step f s.progress actor).answer → state_of s (step f s.progress actor).progress (step f s.progress actor).changes ≡ s
      of_step stops =
          let P = λ (a : Actor). IsStop (step f s.progress a).answer → state_of s (step f s.progress a).progress (step f s.progress a).changes ≡ s in
          let rests : P actor = elim is [
            | inl same ↦ subst P (sym same) (rests_by s (in_modes (is_journal f.mode) (commit f.sections s.progress.journal)))
            | inr other ↦ elim other [
              | inl same ↦ subst P (sym same) (rests_by s (in_modes (is_journal f.mode) (place s.progress.journal)))
              | inr same ↦ subst P (sym same) (rests_by s (in_modes (is_journal f.mode) (settle s.progress.journal)))
            ]
          ] in
          rests stops

      by : (c : Condition) → IsStop (result_in f s c (Step actor)).answer → state_of s (result_in f s c (Step actor)).progress (result_in f s c (Step actor)).changes ≡ s
      by Working stops = of_step stops
      by Broken stops = refl
      by Closed stops = refl

  -- On a device that works an actor of the journal stops where it is idle.
  pub stop-idle : (actor : Actor) → IsOfJournal actor → (s : DeviceState) → s.condition ≡ Working → IsStop (event_result f s (Step actor)).answer → (event_result f s (Step actor)).answer ≡ Idle
  stop-idle actor is s works stops =
      let P = λ (a : Actor). IsStop (step f s.progress a).answer → (step f s.progress a).answer ≡ Idle in
      let of_step : P actor = elim is [
        | inl same ↦ subst P (sym same) (step_journal-stop s.progress (in_modes (is_journal f.mode) (commit f.sections s.progress.journal)))
        | inr other ↦ elim other [
          | inl same ↦ subst P (sym same) (step_journal-stop s.progress (in_modes (is_journal f.mode) (place s.progress.journal)))
          | inr same ↦ subst P (sym same) (step_journal-stop s.progress (in_modes (is_journal f.mode) (settle s.progress.journal)))
        ]
      ] in
      ap (λ (c : Condition). (result_in f s c (Step actor)).answer) works
      ∙ of_step (subst (λ (c : Condition). IsStop (result_in f s c (Step actor)).answer) works stops)

  -- What a step that did something has done, it did on a device that works.
  step-did : (actor : Actor) (s : DeviceState) (P : Progress → Type 0) → (event_result f s (Step actor)).answer ≡ Did
      → ((step f s.progress actor).answer ≡ Did → P (step f s.progress actor).progress) → P (after_event f s (Step actor)).progress
  step-did actor s P did next = by s.condition did
    where
      by : (c : Condition) → (result_in f s c (Step actor)).answer ≡ Did → P (result_in f s c (Step actor)).progress
      by Working did = next did
      by Broken did = absurd (cc)
      by Closed did = absurd (cc)

  -- And in the mode of its actor.
  journal-did : (p : Progress) (P : Progress → Type 0) (x : Option JournalCounts) → (step_journal p (in_modes (is_journal f.mode) x)).answer ≡ Did
      → ((step_journal p x).answer ≡ Did → P (step_journal p x).progress) → P (step_journal p (in_modes (is_journal f.mode) x)).progress
  journal-did p P x did next =
      let same = in_modes-did p (is_journal f.mode) x did in
      subst (λ (y : Option JournalCounts). P (step_journal p y).progress) (sym same) (next (sym (ap (λ (y : Option JournalCounts). (step_journal p y).answer) same) ∙ did))

  -- Commit.
  commit-falls : (s : DeviceState) → (event_result f s (Step Commit)).answer ≡ Did → uncommitted_count (sections_of f (after_event f s (Step Commit))) < uncommitted_count (sections_of f s)
  commit-falls s did =
      let p = s.progress in
      let j = p.journal in
      let unc = λ (t : SectionCounts). is_uncommitted t.state in
      let after : JournalCounts = record j { sections = committed_batch f.sections j.next (closed_end j.sections) } in
      let by = λ (t : Bool). step_journal p (if t then Some after else None) in
      let P = λ (q : Progress). uncommitted_count q.journal.sections < uncommitted_count j.sections in
      step-did Commit s P did (λ stepped. journal-did p P (commit f.sections j) stepped (λ committed. elim (cases_Bool (list_any unc j.sections)) [
        | inl some ↦
            subst (λ (ss : List SectionCounts). uncommitted_count ss < uncommitted_count j.sections) (sym (ap (λ (t : Bool). (by t).progress.journal.sections) some))
            (omega (arith, batch-lt f.sections j.next (closed_end j.sections) (list_any-closed_end j.sections ∙ some), uncommitted_count-closed_end j.sections))
        | inr none ↦ absurd (did_not_idle (sym committed ∙ ap (λ (t : Bool). (by t).answer) none))
      ]))
    where
      did_not_idle : Did ≡ Idle → ⊥
      did_not_idle same = cc

  -- Place.
  placed-falls : (p : Progress) (found : Option (List SectionCounts)) → place_oldest p.journal.sections ≡ found
      → (step_journal p (option_map (λ (sections : List SectionCounts). record p.journal { sections = sections }) found)).answer ≡ Did
      → unplaced_count (step_journal p (option_map (λ (sections : List SectionCounts). record p.journal { sections = sections }) found)).progress.journal.sections < unplaced_count p.journal.sections
  placed-falls p None is did = absurd (cc)
  placed-falls p (Some after) is did = place_oldest-lt p.journal.sections after is

  pub place-falls : (s : DeviceState) → (event_result f s (Step Place)).answer ≡ Did → unplaced_count (sections_of f (after_event f s (Step Place))) < unplaced_count (sections_of f s)
  place-falls s did =
      let p = s.progress in
      let P = λ (q : Progress). unplaced_count q.journal.sections < unplaced_count p.journal.sections in
      step-did Place s P did (λ stepped. journal-did p P (place p.journal) stepped (λ placed. placed-falls p (place_oldest p.journal.sections) refl placed))

  -- Settle.
  free-commits : (sections : List SectionCounts) → all_free sections → no_uncommitted sections × no_unplaced sections
  free-commits [] free = (refl, refl)
  free-commits (s ∷ sections) free =
      let parts = or_parts (is_unfreed s) (list_any is_unfreed sections) free in
      let here = or_parts (is_uncommitted s.state) (is_committed s.state) parts.0 in
      let rest = free-commits sections parts.1 in (
        ap (λ (t : Bool). t || list_any (λ (s : SectionCounts). is_uncommitted s.state) sections) here.0 ∙ rest.0,
        ap (λ (t : Bool). (t && ltb s.placed (length s.blocks)) || list_any is_unplaced sections) here.1 ∙ rest.1,
      )

  settle-keeps_free : (s : DeviceState) → is_journal f.mode ≡ true → s.condition ≡ Working → all_free (sections_of f s) → all_free (sections_of f (after_event f s (Step Settle)))
  settle-keeps_free s journal works free =
      let parts = free-commits (sections_of f s) free in
      after_settle-free f s journal works parts.0 parts.1

  -- The whole of it.
  -- They keep the requests, and the device's condition.
  HasSame : DeviceState → DeviceState → Type 0
  HasSame s t = (t.progress.requests ≡ s.progress.requests) × (t.condition ≡ s.condition)

  pub idle_events-same : (s : DeviceState) (actor : Actor)
      → let t = after_events f s (idle_events f actor s) in (t.progress.requests ≡ s.progress.requests) × (t.condition ≡ s.condition)
  unfolding HasSame
  idle_events-same s actor =
      steps_until_idle-keeps actor (HasSame s) (λ t same. (step-requests f t actor ∙ same.0, same.1)) (most_steps s.progress) s (refl, refl)

  pub room_events-same : (s : DeviceState)
      → let t = after_events f s (room_events f s) in (t.progress.requests ≡ s.progress.requests) × (t.condition ≡ s.condition)
  room_events-same s =
      let commits = idle_events f Commit s in
      let first = after_events f s commits in
      let places = idle_events f Place first in
      let second = after_events f first places in
      let settles = idle_events f Settle second in
      let last : after_events f s (room_events f s) ≡ after_events f second settles =
      after_events-append s commits (places ++ settles) ∙ after_events-append first places settles in
      let one = idle_events-same s Commit in
      let two = idle_events-same first Place in
      let three = idle_events-same second Settle in (
        ap (λ (t : DeviceState). t.progress.requests) last ∙ three.0 ∙ two.0 ∙ one.0,
        ap (λ (t : DeviceState). t.condition) last ∙ three.1 ∙ two.1 ∙ one.1,
      )

  module _ (journal : is_journal f.mode ≡ true) where
    pub commits-idle : (s : DeviceState) → s.condition ≡ Working → no_uncommitted (sections_of f (after_events f s (idle_events f Commit s)))
    commits-idle s works =
        let last = after_events f s (idle_events f Commit s) in
        let last_works = (idle_events-same s Commit).1 ∙ works in
        commit-idle f last journal last_works (stop-idle Commit (inl refl) last last_works
        (steps_until_idle-idle Commit (λ t. uncommitted_count (sections_of f t)) commit-falls (step-rests Commit (inl refl)) (most_steps s.progress) s
        (omega (arith, sum_by-le-sum_by uncommitted_weight section_weight (sections_of f s) uncommitted-le))))

    pub places-idle : (s : DeviceState) → s.condition ≡ Working → no_unplaced (sections_of f (after_events f s (idle_events f Place s)))
    places-idle s works =
        let last = after_events f s (idle_events f Place s) in
        let last_works = (idle_events-same s Place).1 ∙ works in
        place-idle f last journal last_works (stop-idle Place (inr (inl refl)) last last_works
        (steps_until_idle-idle Place (λ t. unplaced_count (sections_of f t)) place-falls (step-rests Place (inr (inl refl))) (most_steps s.progress) s
        (omega (arith, sum_by-le-sum_by unplaced_weight section_weight (sections_of f s) unplaced-le))))

    FreeWorking : DeviceState → Type 0
    FreeWorking t = all_free (sections_of f t) × (t.condition ≡ Working)

    pub settles-free : (s : DeviceState) → s.condition ≡ Working → no_uncommitted (sections_of f s) → no_unplaced (sections_of f s) → all_free (sections_of f (after_events f s (idle_events f Settle s)))
    unfolding FreeWorking
    settles-free s works committed placed =
        let bound = sum_by section_weight (sections_of f s) in
        let next = after_event f s (Step Settle) in
        let more = steps_until_idle f Settle bound next in
        let free = after_settle-free f s journal works committed placed in
        let go = λ (answer : Answer). after_events f next (elim answer [ Did ↦ more | _ ↦ [] ]) in
        elim (step-two s Settle) [
          | inl did ↦ subst (λ (t : DeviceState). all_free (sections_of f t)) (sym (ap go did))
              (steps_until_idle-keeps Settle FreeWorking (λ t holds. (settle-keeps_free t journal holds.1 holds.0, holds.1)) bound next (free, works)).0
          | inr stops ↦ subst (λ (t : DeviceState). all_free (sections_of f t)) (sym (ap (after_events f next) (stops more []))) free
        ]

    -- After the events by which a line makes room all is free.
    pub room_events-free : (s : DeviceState) → s.condition ≡ Working → all_free (sections_of f (after_events f s (room_events f s)))
    room_events-free s works =
        let commits = idle_events f Commit s in
        let first = after_events f s commits in
        let places = idle_events f Place first in
        let second = after_events f first places in
        let settles = idle_events f Settle second in
        let last : after_events f s (room_events f s) ≡ after_events f second settles =
        after_events-append s commits (places ++ settles) ∙ after_events-append first places settles in
        let first_works = (idle_events-same s Commit).1 ∙ works in
        let second_works = (idle_events-same first Place).1 ∙ first_works in
        let committed : no_uncommitted (sections_of f second) =
        steps_until_idle-keeps Place (λ t. no_uncommitted (sections_of f t)) (after_place-committed f) (most_steps first.progress) first (commits-idle s works) in
        subst (λ (t : DeviceState). all_free (sections_of f t)) (sym last) (settles-free second second_works committed (places-idle first first_works))

-- A settle leaves fewer sections that are committed.
abbrev pub committed_weight : SectionCounts → ℕ
committed_weight s = cond (is_committed s.state) 1 0

committed-le : (s : SectionCounts) → committed_weight s ≤ section_weight s
committed-le s = elim (is_committed s.state) as (λ t. cond t 1 0 ≤ section_weight s) [ true ↦ omega arith | false ↦ omega arith ]

settled-weight : (s : SectionCounts) → (committed_weight (as_settled s) ≤ committed_weight s) × (is_all_placed s ≡ true → committed_weight (as_settled s) < committed_weight s)
settled-weight s = elim (cases_Bool (is_all_placed s)) [
  | inl placed ↦
      let parts = and_parts (is_committed s.state) (leb (length s.blocks) s.placed) placed in
      let by = λ (t : Bool). committed_weight (if t then record s { state = Free } else s) in
      let after : committed_weight (as_settled s) ≡ 0 = ap by placed in
      let before : committed_weight s ≡ 1 = ap (λ (t : Bool). cond t 1 0) parts.0 in
      (omega (arith, after, before), λ again. omega (arith, after, before))
  | inr other ↦
      let by = λ (t : Bool). committed_weight (if t then record s { state = Free } else s) in
      let after : committed_weight (as_settled s) ≡ committed_weight s = ap by other in
      (omega (arith, after), λ placed. absurd (both_ways (is_all_placed s) other placed))
]

settled-le : (sections : List SectionCounts) → sum_by committed_weight (map as_settled sections) ≤ sum_by committed_weight sections
settled-le [] = omega arith
settled-le (s ∷ sections) =
    omega (arith, settled-le sections, (settled-weight s).0, sum_by-cons committed_weight s sections, sum_by-cons committed_weight (as_settled s) (map as_settled sections))

settled-lt : (sections : List SectionCounts) → list_any is_all_placed sections ≡ true → sum_by committed_weight (map as_settled sections) < sum_by committed_weight sections
settled-lt [] some = absurd (false≢true some)
settled-lt (s ∷ sections) some =
    let whole = sum_by-cons committed_weight s sections in
    let after = sum_by-cons committed_weight (as_settled s) (map as_settled sections) in
    elim (or_cases (is_all_placed s) (list_any is_all_placed sections) some) [
      | inl here ↦ omega (arith, whole, after, (settled-weight s).1 here, settled-le sections)
      | inr later ↦ omega (arith, whole, after, (settled-weight s).0, settled-lt sections later)
    ]

module _ (f : DeviceFormat) where
  settle-falls : (s : DeviceState) → (event_result f s (Step Settle)).answer ≡ Did → sum_by committed_weight (sections_of f (after_event f s (Step Settle))) < sum_by committed_weight (sections_of f s)
  settle-falls s did =
      let p = s.progress in
      let j = p.journal in
      let after : JournalCounts = record j { sections = map as_settled j.sections } in
      let by = λ (t : Bool). step_journal p (if t then Some after else None) in
      let P = λ (q : Progress). sum_by committed_weight q.journal.sections < sum_by committed_weight j.sections in
      step-did f Settle s P did (λ stepped. journal-did f p P (settle j) stepped (λ settled. elim (cases_Bool (list_any is_all_placed j.sections)) [
        | inl some ↦
            subst (λ (ss : List SectionCounts). sum_by committed_weight ss < sum_by committed_weight j.sections) (sym (ap (λ (t : Bool). (by t).progress.journal.sections) some))
            (settled-lt j.sections some)
        | inr none ↦ absurd (idle_not_did (sym (ap (λ (t : Bool). (by t).answer) none) ∙ settled))
      ]))
    where
      idle_not_did : Idle ≡ Did → ⊥
      idle_not_did same = cc

  -- The events of an actor of the journal until it is idle: one step, and where that did something the others.
  pub idle_events-journal : (actor : Actor) → IsOfJournal actor → (s : DeviceState)
      → idle_events f actor s ≡ Step actor ∷ elim (event_result f s (Step actor)).answer [ Did ↦ idle_events f actor (after_event f s (Step actor)) | _ ↦ [] ]
  idle_events-journal actor is s =
      let P = λ (a : Actor). idle_events f a s ≡ Step a ∷ elim (event_result f s (Step a)).answer [ Did ↦ idle_events f a (after_event f s (Step a)) | _ ↦ [] ] in
      elim is [
        | inl same ↦ subst P (sym same) (idle_events-step f Commit (λ t. uncommitted_count (sections_of f t)) (commit-falls f) (step-rests f Commit (inl refl)) s
            (λ t. omega (arith, sum_by-le-sum_by uncommitted_weight section_weight (sections_of f t) uncommitted-le)))
        | inr other ↦ elim other [
          | inl same ↦ subst P (sym same) (idle_events-step f Place (λ t. unplaced_count (sections_of f t)) (place-falls f) (step-rests f Place (inr (inl refl))) s
              (λ t. omega (arith, sum_by-le-sum_by unplaced_weight section_weight (sections_of f t) unplaced-le)))
          | inr same ↦ subst P (sym same) (idle_events-step f Settle (λ t. sum_by committed_weight (sections_of f t)) settle-falls (step-rests f Settle (inr (inr refl))) s
              (λ t. omega (arith, sum_by-le-sum_by committed_weight section_weight (sections_of f t) committed-le)))
        ]
      ]

pub room_events_law : RoomEventsLaw
room_events_law f s ticket some none =
    let made = after_events f s (room_events f s) in
    let same = room_events-same f s in
    let room : HasRoomFor f made = elim (cases_Bool (is_journal f.mode)) [
      | inr other ↦ HasRoomFor-other f made other
      | inl journal ↦ HasRoomFor-free f made some (room_events-free f journal s (no_room-works f s ticket none))
    ] in
    serve-room f s made room same.0 same.1 ticket none
