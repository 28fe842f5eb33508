-- A step that recalculates, and a close.
use Rattle.std.proofs.Common.{◌≡◌, inl, inr, ℕ, ◌<◌, Bool, true, false, refl, sym, ◌∙◌, ap, subst, Option, Some, None, IfSome, List, Result, Ok, Err}
use Rattle.disk_model.specs.Disk.{Content}
use Rattle.disk_model.proofs.MomentsLemmas.{EachMoment-then}
use Rattle.image_model.specs.declared.flags.TheConstants.{RECALCULATING}
use Rattle.image_model.specs.Geometry.{Geometry, regions}
use Rattle.image_model.specs.Superblock.{Superblock, has_flag}
use Rattle.image_model.proofs.NumberLemmas.{cases_option}
use Rattle.device_model.specs.Progress as Model
use Rattle.device_model.specs.Regions.{least_region, recalculated_region, with_region}
use Rattle.device_model.proofs.SubmissionLemmas.{result-working}
use Rattle.bitmap_laws.proofs.LeastLemmas.{least_found}
use Rattle.direct_model.specs.DirectDisk.{DirectDisk}
use Rattle.direct_model.specs.Steps.{after_flush}
use Rattle.direct_mode.specs.CallLaws.{KeepsNow, StandsThrough}
use Rattle.direct_mode.specs.Cells.{HasCells}
use Rattle.direct_mode.specs.MomentLaws.{HasBlocksOf}
use Rattle.direct_mode.specs.ServeLaws.{KeepsDevice}
use Rattle.direct_mode.proofs.EventLemmas.{quiet_events_law}
use Rattle.direct_mode.proofs.ServeLemmas.{served_close_law, served_kept_law}
use Rattle.tag_store.specs.Store.{Store, given_tags}
use Rattle.hmac_tag.specs.TagMaker.{TagRule}
use Rattle.request_slots.specs.Flight.{Flight}
use Rattle.request_slots.specs.InFlight.{IsFlightOf}
use Rattle.device_parts.specs.declared.condition.Condition.TheVariants as Conditions
use Rattle.device_parts.specs.declared.parts.Parts.{Parts}
use Rattle.recalculate_laws.specs.Calls.{MovesPositionBy}
use Rattle.recalculate_laws.specs.DirectCalls.{EntersStep, IsCutThrough, moved_disk}
use Rattle.recalculate_laws.specs.Formats.{AwaitsWork}
use Rattle.recalculate_laws.specs.Moments.{awaiting_then}
use Rattle.recalculate_laws.specs.Position.{HasPosition, MovesPosition, moved_fields}
use Rattle.recalculate_laws.proofs.DirectCallsLemmas.{direct_close_calls_law, direct_failed_close_law, direct_failed_step_law, direct_step_calls_law}
use Rattle.recalculate_laws.proofs.DirectCallsLemmas.{direct_settled_law, direct_stands_cut_law}
use Rattle.recalculate_laws.proofs.DirectDeviceLemmas.{direct_idle_law, direct_recalc_law}
use Rattle.recalculate_laws.proofs.DirectStepLemmas.{direct_position_law}
use Rattle.recalculate_laws.proofs.FormatsLemmas.{moved_format_law, work_flag_law, work_moves_law}
use Rattle.recalculate_laws.proofs.PositionLemmas.{position_law}
use Rattle.recalculate_laws.proofs.TakingLemmas.{direct_taken_law, direct_taking_law}
use Rattle.recalculation.specs.declared.recalculating.Recalculation.{Recalculation}
use Rattle.recalculation.specs.Position.{HasMoved, MayMove, WritesFields}
use Rattle.recalculation.specs.Recalculation.{HasFields, IsRecalculationOf, SettlesPosition, SettlesPositionIn, StepsPosition, StepsPositionIn, Taken, TakesAwaiting, TakesAwaitingIn, Taking, fields_left, fields_or, next_of, to_write}
use Rattle.recalculation.proofs.KeptLemmas.{moved_if_some, moved_is, moves_head, next_is, taken_is, takes_in, takes_region, writes_moved}
use Rattle.direct_device.specs.Device.{DirectStanding, IsOverDisk}
use Rattle.direct_device.proofs.DoneLemmas.{done, not_working, told_then}
use Rattle.direct_device.proofs.EventLemmas.{formed, idle_done, keeps}
use Rattle.direct_device.proofs.MovingLemmas.{fields_told, settling_cut, settling_stands}
use Rattle.direct_device.proofs.OverDisk.{EndsOver, IsAfter}

-- ---- a step

-- It is done, and answers so.
pub record IsStepped (w : DirectStanding) (answer : Model.Answer) (parts : Parts) (recalculation : Recalculation) (before after : List Content) : Type 0 where
  pub answers : (Model.event_result w.format w.state (Model.Step Model.Recalc)).answer ≡ answer
  pub done : IsAfter w (Model.Step Model.Recalc) Conditions.Working parts recalculation before after

module _ (w : DirectStanding) (parts : Parts) (recalculation : Recalculation) (a : List Content) (is : IsOverDisk w Conditions.Working parts recalculation a) where
  abbrev d : DirectDisk
  d = w.disk

  abbrev awaiting : ℕ → Bool
  awaiting = w.state.progress.regions.awaiting

  own : IsRecalculationOf w.disk.superblock w.disk.geometry w.state.progress.regions.awaiting recalculation
  own = (is.works refl).recalculation_

  cells : HasCells w.disk w.state.progress.regions.awaiting parts.tags a
  cells = (is.works refl).cells

  -- Where no region awaits it is idle.
  pub step_idle : next_of recalculation ≡ None → IsStepped w Model.Idle parts recalculation a a
  step_idle none =
      let result = direct_idle_law w.format w.state w.disk is.device is.condition_ (sym (next_is w.disk.format awaiting recalculation own) ∙ none) in
      record {
        answers = ap (λ (x : Model.EventResult). x.answer) result;
        done = idle_done w parts recalculation a is Model.Recalc result;
      }

  module _ (region : ℕ) (next : next_of recalculation ≡ Some region) (may : MayMove recalculation.position) where
    least : least_region (regions w.disk.geometry) w.state.progress.regions.awaiting ≡ Some region
    least = sym (next_is w.disk.format awaiting recalculation own) ∙ next

    found : (region < regions w.disk.geometry) × (w.state.progress.regions.awaiting region ≡ true)
    found = least_found (regions w.disk.geometry) w.state.progress.regions.awaiting region least

    has_work : AwaitsWork w.disk.format w.state.progress.regions.awaiting
    has_work other waits =
        let m = is.device.awaiting other waits in
        record { block = m.block; inside = m.inside; is = m.is; to_recalculate = m.to_recalculate }

    set : has_flag RECALCULATING w.disk.superblock.flags ≡ true
    set = work_flag_law w.disk.format w.state.progress.regions.awaiting region has_work found.1

    position : HasPosition w.disk.superblock
    position = subst HasPosition own.fields (may (ap (λ (s : Superblock). has_flag RECALCULATING s.flags) own.fields ∙ set))

    abbrev then_ : ℕ → Bool
    then_ = awaiting_then region w.state.progress.regions.awaiting

    enters : EntersStep w.format w.state w.disk region (given_tags parts.tags) w.entry a
    enters = record {
      device = is.device;
      works = is.condition_;
      least = least;
      formed = formed w parts recalculation a is;
      keeps = keeps w parts recalculation a is;
      position = position;
      opened = is.opened;
    }

    -- A region that is taken, in the places of the disk.
    here : (mid : Recalculation) (made : Content → ℕ → List ℕ) (m : List Content) → TakesAwaiting parts.maker region recalculation mid parts.tags.geometry (given_tags parts.tags) made a m
        → TakesAwaiting parts.maker region recalculation mid w.disk.geometry (given_tags parts.tags) made a m
    here mid made m taken = subst (λ (g : Geometry). TakesAwaiting parts.maker region recalculation mid g (given_tags parts.tags) made a m) (sym cells.geometry) taken

    mid_is : (mid : Recalculation) (made : Content → ℕ → List ℕ) (m : List Content) → TakesAwaiting parts.maker region recalculation mid w.disk.geometry (given_tags parts.tags) made a m
        → IsRecalculationOf w.disk.superblock w.disk.geometry (with_region region false w.state.progress.regions.awaiting) mid
    mid_is mid made m taken = taken_is w.disk.format awaiting recalculation own parts.maker region mid (given_tags parts.tags) made a m taken

    -- ---- it fails

    pub step_cut : (b : List Content) → StepsPositionIn parts.maker region recalculation parts.tags.geometry (given_tags parts.tags) a b → IsCutThrough w.disk (moved_fields w.disk.superblock w.disk.geometry then_) a b
    step_cut b (Taking adds) =
        direct_stands_cut_law w.disk (moved_fields w.disk.superblock w.disk.geometry then_) a b
        (direct_taking_law w.disk region w.state.progress.regions.awaiting (given_tags parts.tags) a b cells.now
        (takes_in w.disk.format awaiting recalculation own parts.maker is.rule region found.0 found.1 (given_tags parts.tags) a b
        (subst (λ (g : Geometry). TakesAwaitingIn parts.maker region recalculation g (given_tags parts.tags) a b) (sym cells.geometry) adds)))
    step_cut b (Taken mid made m taken in_) =
        let taken_ = here mid made m taken in
        let takes = takes_region w.disk.format awaiting recalculation own parts.maker is.rule region found.0 found.1 (given_tags parts.tags) made a m taken_.takes in
        let keeps_mid = direct_taken_law w.disk region w.state.progress.regions.awaiting (given_tags parts.tags) made a m cells.now takes in
        EachMoment-then
        (direct_stands_cut_law w.disk (moved_fields w.disk.superblock w.disk.geometry then_) a m
        (direct_taking_law w.disk region w.state.progress.regions.awaiting (given_tags parts.tags) a m cells.now takes.adds))
        (settling_cut w.disk then_ made m keeps_mid mid (mid_is mid made m taken_) position b
        (subst (λ (g : Geometry). SettlesPositionIn mid g made m b) (sym cells.geometry) in_))

    pub step_failed : (new : Parts) (last : Recalculation) (b : List Content) → new.slots ≡ parts.slots → new.maker ≡ parts.maker
        → StepsPositionIn parts.maker region recalculation parts.tags.geometry (given_tags parts.tags) a b → IsAfter w (Model.FailedStep Model.Recalc) Conditions.Broken new last a b
    step_failed new last b slots maker in_ =
        let result = result-working w.format w.state (Model.FailedStep Model.Recalc) is.condition_ in
        done w Conditions.Working parts recalculation a is (Model.FailedStep Model.Recalc) w.disk Conditions.Broken new last b
        (direct_failed_step_law w.format w.state w.disk region (given_tags parts.tags) w.entry a b enters (step_cut b in_)) refl
        (subst (λ (x : Flight). IsFlightOf w.format x (Model.after_event w.format w.state (Model.FailedStep Model.Recalc)).progress.requests) (sym slots)
        (subst (λ (x : Model.EventResult). IsFlightOf w.format parts.slots x.progress.requests) (sym result) is.flight))
        maker (ap Model.after_failure is.condition_) (λ same. not_working same)

    -- ---- it is done

    module _ (last : Recalculation) (store : Store) (b : List Content) (steps : StepsPosition parts.maker region recalculation last parts.tags.geometry (given_tags parts.tags) (given_tags store) a b) where
      taken_ : TakesAwaiting parts.maker region recalculation steps.mid w.disk.geometry (given_tags parts.tags) steps.made a steps.between
      taken_ = here steps.mid steps.made steps.between steps.takes

      mid_own : IsRecalculationOf w.disk.superblock w.disk.geometry (with_region region false w.state.progress.regions.awaiting) steps.mid
      mid_own = mid_is steps.mid steps.made steps.between taken_

      settles : SettlesPosition steps.mid last w.disk.geometry steps.made (given_tags store) steps.between b
      settles = subst (λ (g : Geometry). SettlesPosition steps.mid last g steps.made (given_tags store) steps.between b) (sym cells.geometry) steps.settles

      abbrev fields : Superblock
      fields = moved_fields w.disk.superblock w.disk.geometry (awaiting_then region w.state.progress.regions.awaiting)

      changes : to_write steps.mid ≡ Some (moved_fields w.disk.superblock w.disk.geometry (awaiting_then region w.state.progress.regions.awaiting))
      changes = writes_moved w.disk.format then_ steps.mid mid_own set (work_moves_law w.disk.format w.state.progress.regions.awaiting region has_work least)

      has_moved : (last.position ≡ moved_fields w.disk.superblock w.disk.geometry (awaiting_then region w.state.progress.regions.awaiting))
          × WritesFields w.disk.geometry (moved_fields w.disk.superblock w.disk.geometry (awaiting_then region w.state.progress.regions.awaiting)) (given_tags store) settles.between b
      has_moved = subst (λ (o : Option Superblock). HasMoved o w.disk.geometry (given_tags store) steps.mid.position last.position settles.between b) changes settles.moves

      moves : MovesPositionBy w.disk.format then_ steps.made (given_tags store) steps.between b
      moves = record {
        settled = given_tags store;
        between = settles.between;
        settles = settles.settles;
        moves = moves_head w.disk.format then_ steps.mid mid_own (given_tags store) settles.between b has_moved.1;
      }

      calls : KeepsDevice w.format w.state (Model.Step Model.Recalc) w.entry w.disk (moved_disk w.disk then_) a b
          × KeepsNow (moved_disk w.disk then_) then_ (given_tags store) b × HasBlocksOf w.entry (moved_disk w.disk then_)
      calls =
          direct_step_calls_law w.format w.state w.disk region (given_tags parts.tags) steps.made (given_tags store) w.entry a steps.between b enters
          (takes_region w.disk.format awaiting recalculation own parts.maker is.rule region found.0 found.1 (given_tags parts.tags) steps.made a steps.between taken_.takes) moves

      moves_position : MovesPosition w.disk.superblock w.disk.geometry w.disk.sectors then_ (moved_fields w.disk.superblock w.disk.geometry then_)
      moves_position =
          let f = formed w parts recalculation a is in
          position_law w.disk.superblock w.disk.geometry w.disk.sectors then_ position f.has_geometry f.no_bitmap

      result : Model.event_result w.format w.state (Model.Step Model.Recalc) ≡ Model.step_regions w.state.progress (Some (recalculated_region region w.state.progress.regions))
      result = (direct_recalc_law w.format w.state w.disk region is.device is.condition_ least).0

      then_is : (Model.after_event w.format w.state (Model.Step Model.Recalc)).progress.regions.awaiting ≡ awaiting_then region w.state.progress.regions.awaiting
      then_is = ap (λ (x : Model.EventResult). x.progress.regions.awaiting) result

      pub step_done : (new : Parts) → new.tags ≡ store → new.tags.geometry ≡ parts.tags.geometry → new.slots ≡ parts.slots → new.maker ≡ parts.maker → IsStepped w Model.Did new last a b
      step_done new tags places slots maker =
          let told = told_then a b is.told is.is_told calls.0.through.opens in
          record {
            answers = ap (λ (x : Model.EventResult). x.answer) result;
            done = record {
              disk = moved_disk w.disk then_;
              format = λ on of. moved_format_law on w.disk.format then_ (moved_fields w.disk.superblock w.disk.geometry then_) of moves_position;
              device = record {
                device = calls.0.device;
                opened = calls.2;
                flight = subst (λ (x : Flight). IsFlightOf w.format x (Model.after_event w.format w.state (Model.Step Model.Recalc)).progress.requests) (sym slots)
                    (subst (λ (x : Model.EventResult). IsFlightOf w.format parts.slots x.progress.requests) (sym result) is.flight);
                rule = maker ∙ is.rule ∙ ap (λ (salt : Option (List ℕ)). let rule : TagRule = record { key = w.disk.key; salt = salt; size = w.disk.geometry.shape.tag_size } in rule) (sym moves_position.same_salt);
                condition_ = is.condition_;
                told = told.content;
                is_told = told.is;
                works = λ working. record {
                  cells = subst (λ (x : ℕ → Bool). HasCells (moved_disk w.disk then_) x new.tags b) (sym then_is) (record {
                    geometry = cells.geometry ∙ sym places;
                    now = subst (λ (x : Store). KeepsNow (moved_disk w.disk then_) then_ (given_tags x) b) (sym tags) calls.1;
                  });
                  recalculation_ = subst (λ (x : ℕ → Bool). IsRecalculationOf (moved_fields w.disk.superblock w.disk.geometry then_) w.disk.geometry x last) (sym then_is)
                      (moved_is w.disk.format then_ steps.mid mid_own last w.disk.sectors settles.awaiting has_moved.0 moves_position);
                };
                left = calls.0.now;
              };
              through = calls.0.through;
            };
          }

-- ---- a close

module _ (w : DirectStanding) (parts : Parts) (recalculation : Recalculation) (a : List Content) (is : IsOverDisk w Conditions.Working parts recalculation a) (may : MayMove recalculation.position) where
  closing : (event : Model.Event) → Model.event_result w.format w.state event ≡ Model.working_result w.format w.state event
  closing event = result-working w.format w.state event is.condition_

  own_ : IsRecalculationOf w.disk.superblock w.disk.geometry w.state.progress.regions.awaiting recalculation
  own_ = (is.works refl).recalculation_

  cells_ : HasCells w.disk w.state.progress.regions.awaiting parts.tags a
  cells_ = (is.works refl).cells

  -- The position may move where there are fields to be written.
  pub may_move : (fields : Superblock) → to_write recalculation ≡ Some fields → HasPosition w.disk.superblock
  may_move fields some =
      subst HasPosition own_.fields (may (ap (λ (s : Superblock). has_flag RECALCULATING s.flags) own_.fields ∙ (moved_if_some w.disk.format w.state.progress.regions.awaiting recalculation own_ fields some).1))

  -- It failed.
  pub close_failed : (b : List Content) → SettlesPositionIn recalculation parts.tags.geometry (given_tags parts.tags) a b → EndsOver w Model.FailedClose Model.DiskFailed a b
  close_failed b in_ =
      let awaiting = w.state.progress.regions.awaiting in
      let here_ = subst (λ (g : Geometry). SettlesPositionIn recalculation g (given_tags parts.tags) a b) (sym cells_.geometry) in_ in
      elim (cases_option (to_write recalculation)) [
        | inl none ↦
            let kept = served_kept_law w.format w.state Model.FailedClose w.disk w.entry a b is.device is.opened (quiet_events_law w.format w.state Model.FailedClose w.disk is.device tt)
            (settling_stands w.disk awaiting (given_tags parts.tags) a cells_.now recalculation own_ b none here_) in
            record { answers = ap (λ (x : Model.EventResult). x.answer) (closing Model.FailedClose); through = kept.through; left = kept.now }
        | inr some ↦
            let position = may_move some.0 some.1 in
            let f = formed w parts recalculation a is in
            let fields = moved_fields w.disk.superblock w.disk.geometry awaiting in
            let moves = position_law w.disk.superblock w.disk.geometry w.disk.sectors awaiting position f.has_geometry f.no_bitmap in
            let failed = direct_failed_close_law w.format w.state w.disk fields awaiting (given_tags parts.tags) w.entry a b is.device f (direct_position_law w.disk awaiting fields moves).0 is.opened cells_.now
            (settling_cut w.disk awaiting (given_tags parts.tags) a cells_.now recalculation own_ position b here_) in
            record { answers = ap (λ (x : Model.EventResult). x.answer) (closing Model.FailedClose); through = failed.0; left = failed.1 }
      ]

  module _ (last : Recalculation) (now : Content → ℕ → List ℕ) (b : List Content) (settles : SettlesPosition recalculation last parts.tags.geometry (given_tags parts.tags) now a b) where
    abbrev waits : ℕ → Bool
    waits = w.state.progress.regions.awaiting

    here_settles : SettlesPosition recalculation last w.disk.geometry (given_tags parts.tags) now a b
    here_settles = subst (λ (g : Geometry). SettlesPosition recalculation last g (given_tags parts.tags) now a b) (sym cells_.geometry) settles

    -- What was done where no fields were to be written, and where some were.
    stays_none : to_write recalculation ≡ None → b ≡ here_settles.between
    stays_none none = (subst (λ (o : Option Superblock). HasMoved o w.disk.geometry now recalculation.position last.position here_settles.between b) none here_settles.moves).1

    moves_some : (fields : Superblock) → to_write recalculation ≡ Some fields → WritesFields w.disk.geometry (moved_fields w.disk.superblock w.disk.geometry w.state.progress.regions.awaiting) now here_settles.between b
    moves_some fields some =
        let moved = moved_if_some w.disk.format waits recalculation own_ fields some in
        subst (λ (s : Superblock). WritesFields w.disk.geometry s now here_settles.between b) moved.0
        (subst (λ (o : Option Superblock). HasMoved o w.disk.geometry now recalculation.position last.position here_settles.between b) some here_settles.moves).1

    -- It is closed,
    pub close_done : EndsOver w Model.Close Model.IsClosed a b × HasFields (fields_left recalculation) b
    close_done = elim (cases_option (to_write recalculation)) [
      | inl none ↦
          let settled = direct_settled_law w.disk waits (given_tags parts.tags) now a here_settles.between cells_.now here_settles.settles in
          let through = subst (StandsThrough w.disk a) (sym (stays_none none)) settled.0 in
          let flushed = subst (KeepsNow (after_flush w.disk) waits now) (sym (stays_none none)) settled.2 in
          let kept = served_close_law w.format w.state w.disk w.entry waits now a b is.device is.opened is.condition_ through flushed in
          let left : fields_left recalculation ≡ w.disk.superblock = ap (λ (o : Option Superblock). fields_or o recalculation.position) none ∙ own_.fields in (
            record { answers = ap (λ (x : Model.EventResult). x.answer) (closing Model.Close); through = kept.through; left = kept.now },
            subst (λ (s : Superblock). HasFields s b) (sym left) (fields_told (after_flush w.disk) waits now b flushed),
          )
      | inr some ↦
          let position = may_move some.0 some.1 in
          let calls = direct_close_calls_law w.format w.state w.disk waits (given_tags parts.tags) now now w.entry a here_settles.between b is.device (formed w parts recalculation a is) is.condition_ is.opened position cells_.now
          here_settles.settles (moves_head w.disk.format waits recalculation own_ now here_settles.between b (moves_some some.0 some.1)) in
          let moved = moved_if_some w.disk.format waits recalculation own_ some.0 some.1 in
          let left : fields_left recalculation ≡ moved_fields w.disk.superblock w.disk.geometry waits = ap (λ (o : Option Superblock). fields_or o recalculation.position) some.1 ∙ moved.0 in (
            record { answers = ap (λ (x : Model.EventResult). x.answer) (closing Model.Close); through = calls.2; left = calls.3 },
            subst (λ (s : Superblock). HasFields s b) (sym left) (fields_told (moved_disk (after_flush w.disk) waits) waits now b calls.1),
          )
    ]

-- ---- whatever is next

-- A step that fails had a region to take.
pub err_or_ok : {T E : Type 0} (r : Result T E) (x : T) (e : E) → r ≡ Ok x → r ≡ Err e → ⊥
err_or_ok {T} {E} r x e ok err = subst (λ (y : Result T E). elim y as (λ _. Type 0) [ Ok a ↦ Unit {0} | Err a ↦ ⊥ ]) (sym ok ∙ err) tt

pub failed_next : (w : DirectStanding) (parts : Parts) (recalculation : Recalculation) (a : List Content) → IsOverDisk w Conditions.Working parts recalculation a → MayMove recalculation.position → (next_of recalculation ≡ None → ⊥)
    → (new : Parts) (last : Recalculation) (b : List Content) → new.slots ≡ parts.slots → new.maker ≡ parts.maker
    → IfSome (next_of recalculation) (λ region. StepsPositionIn parts.maker region recalculation parts.tags.geometry (given_tags parts.tags) a b) → IsAfter w (Model.FailedStep Model.Recalc) Conditions.Broken new last a b
failed_next w parts recalculation a is may some new last b slots maker in_ = elim (cases_option (next_of recalculation)) [
  | inl none ↦ absurd (some none)
  | inr found ↦
      step_failed w parts recalculation a is found.0 found.1 may new last b slots maker
      (subst (λ (o : Option ℕ). IfSome o (λ region. StepsPositionIn parts.maker region recalculation parts.tags.geometry (given_tags parts.tags) a b)) found.1 in_)
]
