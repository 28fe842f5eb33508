-- What one call of a device leaves: which sectors it does not write, and which tags stay.
use Rattle.std.proofs.Common.{◌≡◌, inl, inr, ℕ, Bool, true, false, if◌then◌else◌, List, [], ◌∷◌, ◌++◌, refl, ap, subst}
use Rattle.std.specs.List.{Any}
use Rattle.disk_model.specs.Disk.{Content}
use Rattle.disk_model.specs.Moments.{EachMoment}
use Rattle.disk_model.proofs.MomentsLemmas.{EachMoment-weaker}
use Rattle.device_model.specs.Actors.{actor_of}
use Rattle.device_model.specs.History.{Change, Flushed}
use Rattle.device_model.specs.Mode as Model
use Rattle.device_model.specs.Mode.{is_recovery}
use Rattle.device_model.specs.Progress.{Close, Event, EventResult, FailedServe, Serve, Step, Working, after_event, changes_of, event_result}
use Rattle.device_model.proofs.HistoryLemmas.{Any-append_left, Any-cons, Any-nil}
use Rattle.device_model.proofs.SubmissionLemmas.{result-working}
use Rattle.request_slots.specs.Flight.{is_in_flight}
use Rattle.device_model.specs.declared.actor.Actor.{Actor}
use Rattle.device_parts.specs.declared.condition.Condition.TheVariants as Conditions
use Rattle.device_parts.specs.declared.parts.Parts.{Parts}
use Rattle.device_parts.specs.Device.{Standing}
use Rattle.bitmap_device.specs.Device.{IsUnwritten, kept as bitmap_kept}
use Rattle.device.specs.declared.mode.Mode.{Mode}
use Rattle.device.specs.declared.mode.Mode.TheVariants.{Bitmap, Direct, Journal, Recovery}
use Rattle.device.specs.Answers.{KeepsClearTags, WritesInClose, WritesInServe, WritesInStep}
use Rattle.device.specs.Device.{IsDeviceIn}
use Rattle.device.specs.Tags.{IsLeftOut, Leaves, LeavesIn}
use Rattle.place_model.specs.KeptTags.{IsOfBlock, KeepsStill, KeepsTagsOf}
use Rattle.place_model.specs.RunWrites.{WritesOnly}
use Rattle.device.proofs.EventWritesLemmas.{close_writes, serve_writes, step_writes}
use Rattle.device.proofs.ModeLemmas.{condition_now, own_direct, own_journal, plain_bitmap, plain_recovery}
use Rattle.device.proofs.RunLemmas.{first_of}
use Rattle.device.proofs.TagsLemmas.{among_first, unwritten_behind}

module _ (w : Standing) (common : Parts) (a : List Content) where
  -- The tags of blocks that changes leave out are left, where it is told of an event behind which these have no write.
  tags_left : (mode : Mode) → IsDeviceIn mode w Conditions.Working common a → (changes : List Change) (told_of : Event) {b : List Content}
      → ((block : ℕ) → IsLeftOut w.state.history changes block → IsUnwritten (after_event w.format w.state told_of).history block)
      → WritesOnly w.format.mode w.on.geometry w.entry changes a b → KeepsClearTags mode common told_of a b
      → EachMoment a b (KeepsTagsOf w.format.mode (IsLeftOut w.state.history changes) w.on.geometry w.entry)
  tags_left (Direct r) is changes told_of {b} unwritten writes tags =
      subst (λ (m : Model.Mode). EachMoment a b (KeepsTagsOf m (IsLeftOut w.state.history changes) w.on.geometry w.entry))
      (own_direct w Conditions.Working common r a is) (tags w is)
  tags_left (Journal state) is changes told_of {b} unwritten writes tags =
      subst (λ (m : Model.Mode). EachMoment a b (KeepsTagsOf m (IsLeftOut w.state.history changes) w.on.geometry w.entry))
      (own_journal w Conditions.Working common state a is) (tags w is)
  tags_left (Bitmap states) is changes told_of {b} unwritten writes tags =
      subst (λ (m : Model.Mode). EachMoment a b (KeepsTagsOf m (IsLeftOut w.state.history changes) w.on.geometry w.entry))
      (plain_bitmap.own w Conditions.Working (bitmap_kept common states) a is)
      (EachMoment-weaker (λ c keeps image of. record {
        each = λ block below clear out. (keeps image of).each block below clear (unwritten block out);
      }) (tags w is))
  tags_left Recovery is changes told_of {b} unwritten writes tags =
      subst (λ (m : Model.Mode). EachMoment a b (KeepsTagsOf m (IsLeftOut w.state.history changes) w.on.geometry w.entry))
      (plain_recovery.own w Conditions.Working common a is) (EachMoment-weaker (λ c any. tt) writes)

  -- In recovery mode the disk is as it was, where a call tells that.
  still_left : (mode : Mode) → IsDeviceIn mode w Conditions.Working common a → {b : List Content} → (mode ≡ Recovery → b ≡ a)
      → KeepsStill w.format.mode a b
  still_left (Direct r) is {b} same = subst (λ (m : Model.Mode). KeepsStill m a b) (own_direct w Conditions.Working common r a is) tt
  still_left (Journal state) is {b} same = subst (λ (m : Model.Mode). KeepsStill m a b) (own_journal w Conditions.Working common state a is) tt
  still_left (Bitmap states) is {b} same =
      subst (λ (m : Model.Mode). KeepsStill m a b) (plain_bitmap.own w Conditions.Working (bitmap_kept common states) a is) tt
  still_left Recovery is {b} same =
      subst (λ (m : Model.Mode). KeepsStill m a b) (plain_recovery.own w Conditions.Working common a is) (same refl)

  module _ (works : w.state.condition ≡ Working) where
    abbrev changes_by : Event → List Change
    changes_by event = (event_result w.format w.state event).changes

    unwritten_by : (event : Event) (block : ℕ) → IsLeftOut w.state.history (changes_by event ++ []) block
        → IsUnwritten (after_event w.format w.state event).history block
    unwritten_by event block out = unwritten_behind block w.state.history (changes_by event) (record {
      before = out.before;
      since = λ any. out.since (Any-append_left (IsOfBlock block) (changes_by event) [] any);
    })

    -- A block that a serve leaves out has no write behind one that failed,
    unwritten_served : (ticket : ℕ) (block : ℕ) → IsLeftOut w.state.history (changes_by (Serve ticket) ++ []) block
        → IsUnwritten (after_event w.format w.state (FailedServe ticket)).history block
    unwritten_served ticket block out =
        let first = first_of w (Serve ticket) (FailedServe ticket) works refl in
        let changes = changes_by (Serve ticket) in
        unwritten_behind block w.state.history (changes_by (FailedServe ticket)) (record {
          before = out.before;
          since = λ any. out.since (Any-append_left (IsOfBlock block) changes []
              (among_first block first.count changes (subst (Any (IsOfBlock block)) first.is any)));
        })

    none_closed : (is_recovered : Bool) (block : ℕ) → Any (IsOfBlock block) (if is_recovered then [] else Flushed ∷ []) → ⊥
    none_closed true block any = Any-nil (IsOfBlock block) any
    none_closed false block any = elim (Any-cons (IsOfBlock block) Flushed [] any) [
      | inl is ↦ is
      | inr none ↦ Any-nil (IsOfBlock block) none
    ]

    -- and one without a write has none behind a close.
    unwritten_closed : (changes : List Change) (block : ℕ) → IsLeftOut w.state.history changes block
        → IsUnwritten (after_event w.format w.state Close).history block
    unwritten_closed changes block out = unwritten_behind block w.state.history (changes_by Close) (record {
      before = out.before;
      since = λ any. none_closed (is_recovery w.format.mode) block
          (subst (Any (IsOfBlock block)) (ap (λ (x : EventResult). x.changes) (result-working w.format w.state Close works)) any);
    })

  -- ---- both of them

  -- A serve leaves what its event does,
  pub serve_leaves : (mode : Mode) → IsDeviceIn mode w Conditions.Working common a → (ticket : ℕ) → is_in_flight ticket common.slots ≡ true
      → (new : Parts) {b : List Content} → WritesInServe mode ticket common new a b
      → KeepsClearTags mode common (FailedServe ticket) a b → LeavesIn w (Serve ticket ∷ []) a b
  serve_leaves mode is ticket there new {b} writes tags =
      let sectors = serve_writes w common a mode is ticket there new writes in
      record {
        sectors = sectors;
        tags = tags_left mode is (changes_of w.format w.state (Serve ticket ∷ [])) (FailedServe ticket)
            (unwritten_served (condition_now w Conditions.Working mode common a is) ticket) sectors tags;
        still = still_left mode is {b = b} (λ e. subst (λ (m : Mode). WritesInServe m ticket common new a b) e writes);
      }

  -- so does a step,
  pub step_leaves : (mode : Mode) → IsDeviceIn mode w Conditions.Working common a → (actor : Actor) {b : List Content}
      → WritesInStep mode actor common a b → KeepsClearTags mode common (Step (actor_of actor)) a b
      → LeavesIn w (Step (actor_of actor) ∷ []) a b
  step_leaves mode is actor {b} writes tags =
      let sectors = step_writes w common a mode is actor writes in
      record {
        sectors = sectors;
        tags = tags_left mode is (changes_of w.format w.state (Step (actor_of actor) ∷ [])) (Step (actor_of actor))
            (unwritten_by (condition_now w Conditions.Working mode common a is) (Step (actor_of actor))) sectors tags;
        still = still_left mode is {b = b} (λ e. subst (λ (m : Mode). WritesInStep m actor common a b) e writes);
      }

  -- and a close leaves what may be left whatever changes.
  pub close_leaves : (mode : Mode) → IsDeviceIn mode w Conditions.Working common a → (changes : List Change) {b : List Content}
      → WritesInClose mode common a b → KeepsClearTags mode common Close a b → Leaves w changes a b
  close_leaves mode is changes {b} writes tags =
      let sectors = close_writes w common a mode is changes writes in
      record {
        sectors = sectors;
        tags = tags_left mode is changes Close (unwritten_closed (condition_now w Conditions.Working mode common a is) changes) sectors tags;
        still = still_left mode is {b = b} (λ e. subst (λ (m : Mode). WritesInClose m common a b) e writes);
      }
