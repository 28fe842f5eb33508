-- What stops a run on a mirror at its close.
use Rattle.std.proofs.Common.{◌≡◌, ℕ, List, refl, sym, subst, Option, Result, Ok, Err, IfErr, OnOk}
use Rattle.disk_model.specs.Disk.{Content, EachImage}
use Rattle.disk_model.specs.Moments.{HasNow}
use Rattle.device_model.specs.History.{History}
use Rattle.device_model.specs.Transcript.{closed_text}
use Rattle.run_model.specs.Ending.{Complete, Failed}
use Rattle.run_model.specs.declared.outer.Outer.TheVariants as outers
use Rattle.stream_io.specs.Stream.{held_with}
use Rattle.mirror_model.specs.Calls.{close_changes}
use Rattle.mirror_model.specs.ScriptRun.{MirrorRun, mirror_close_step, mirror_only_ends}
use Rattle.mirror_model.proofs.ChangeLemmas.{changes_on_first-is, changes_on_second-is}
use Rattle.device.specs.declared.mode.DeviceParts.{DeviceParts}
use Rattle.mirror_calls.specs.Leg.{IsLeftSince}
use Rattle.mirror_core.specs.Closing.{LeavesClosing, LeavesFlushed, closing}
use Rattle.mirror_core.specs.Stands.{MayBeLeftOf}
use Rattle.mirror_core.proofs.OpenedLemmas.{told_law}
use Rattle.mirror_run.specs.Running.{IsStopped, only_close}
use Rattle.mirror_run.specs.Standing.{BothMoments, Cuts, IsStanding, Shown, Standing, cuts_by, standing_behind}
use Rattle.mirror_run.proofs.StoppingLemmas.{AreLeft, stopped_by_disk, stopped_by_itself, stopped_by_sink, stopped_further}
use Rattle.script_text.specs.Found.{finds_fault}
use Rattle.script_text.specs.declared.tags_found.TagsFound.{TagsFound}
use Rattle.command_ending.specs.Ended.{ending_of}
use Rattle.command_ending.specs.declared.ended.Ended.{Ended}
use Rattle.command_ending.specs.declared.ended.Ended.TheVariants as Endings
use Rattle.command_mirror.specs.Calls.{TellsClosed, ending_by, shown_of}

-- The images that a cut may leave of two devices.
abbrev pub leg_cuts : Cuts
leg_cuts = cuts_by MayBeLeftOf MayBeLeftOf

module _ (parts second_parts : DeviceParts) (a b second_a second_b : List Content) (w : Standing)
    (stands : IsStanding w (shown_of parts second_parts a second_a)) (found : TagsFound)
    (leaves : LeavesClosing parts a b) (second_leaves : LeavesClosing second_parts second_a second_b)
    (held_a held_b : Option (List ℕ)) where
  abbrev before : BothMoments
  before = record { first = a; second = second_a }

  abbrev after : BothMoments
  after = record { first = b; second = second_b }

  abbrev ends : MirrorRun
  ends = mirror_only_ends (Complete (finds_fault found))

  since : IsLeftSince (MayBeLeftOf w.a) w.m.a.history closing a b
  since = leaves w.a w.m.a.history stands.first

  second_since : IsLeftSince (MayBeLeftOf w.b) w.m.b.history closing second_a second_b
  second_since = second_leaves w.b w.m.b.history stands.second

  -- A disk failed in it.
  pub stopped_in_close : held_b ≡ held_a → IsStopped leg_cuts w (only_close found) (Failed outers.Disk) before after held_a held_b
  stopped_in_close untold =
      stopped_by_disk leg_cuts w mirror_close_step ends (λ none. absurd (cc)) before after held_a held_b since second_since
      (record {
        first = (told_law parts a w.a w.m.a.history stands.first).left;
        second = (told_law second_parts second_a w.b w.m.b.history stands.second).left;
      }) untold

  module _ (flushed : LeavesFlushed parts a b) (second_flushed : LeavesFlushed second_parts second_a second_b) where
    all_flushed : AreLeft leg_cuts (standing_behind w close_changes) after
    all_flushed = record {
      first = subst (λ (h : History). HasNow (EachImage (MayBeLeftOf w.a h)) b) (sym (changes_on_first-is close_changes w.m))
          (flushed w.a w.m.a.history stands.first);
      second = subst (λ (h : History). HasNow (EachImage (MayBeLeftOf w.b h)) second_b)
          (sym (changes_on_second-is close_changes w.m)) (second_flushed w.b w.m.b.history stands.second);
    }

    -- Nothing stands for a leg behind it.
    abbrev closed : Shown
    closed = record { first = λ on session. Unit {0}; second = λ on session. Unit {0}; moments = after }

    stopped_by_close : held_b ≡ held_with closed_text held_a
        → IsStopped leg_cuts w (only_close found) (Complete (finds_fault found)) before after held_a held_b
    stopped_by_close told =
        stopped_further leg_cuts w mirror_close_step before closed held_a held_b
        (record { legs = record { first = tt; second = tt }; first = since; second = second_since; told = told })
        ends (Complete (finds_fault found)) after held_b
        (stopped_by_itself leg_cuts (standing_behind w close_changes) after all_flushed ends (Complete (finds_fault found)) held_b refl)

    -- It is closed, and that is told, or the sink failed in that.
    pub stopped_behind_close : (Cause : Type 0) (result : Result TagsFound Ended) → TellsClosed found held_a held_b result
        → IfErr result (λ ended. (ended ≡ Endings.Failed outers.Sink) × Cause)
        → IsStopped leg_cuts w (only_close found) (ending_by result) before after held_a held_b
    stopped_behind_close Cause (Ok told) tells cause =
        subst (λ (t : TagsFound). IsStopped leg_cuts w (only_close found) (Complete (finds_fault t)) before after held_a held_b)
        (sym tells.0) (stopped_by_close tells.1)
    stopped_behind_close Cause (Err ended) tells cause =
        subst (λ (e : Ended). IsStopped leg_cuts w (only_close found) (ending_of e) before after held_a held_b) (sym cause.0)
        (stopped_by_sink leg_cuts w mirror_close_step ends (λ none. absurd (cc)) before after held_a held_b since second_since
        all_flushed tells)

-- What holds of a call that was done well holds where it was.
pub when_ok : {T E : Type 0} (result : Result T E) (done : T) → result ≡ Ok done → (P : Type 0) → OnOk result P → P
when_ok (Ok told) done is P holds = holds
when_ok (Err fault) done is P holds = absurd (cc)
