-- What a line has come to when it ends.
use Rattle.std.proofs.Common.{◌≡◌, ℕ, List, [], Option, sym, ◌∙◌, ap, subst, append-nil}
use Rattle.disk_model.specs.Disk.{Content}
use Rattle.device_model.specs.Progress.{Event}
use Rattle.device_model.specs.Script.{MeaningFault, ScriptLine, meaning_fault}
use Rattle.device_parts.specs.declared.condition.Condition.TheVariants as Conditions
use Rattle.device.specs.declared.mode.DeviceParts.{DeviceParts}
use Rattle.device.specs.Device.{IsDevice}
use Rattle.device_parts.specs.Device.{Standing}
use Rattle.device.proofs.ModeLemmas.{flight_now}
use Rattle.device.specs.Run.{HasBegun, HasFailed, HasRun, IsCutOff}
use Rattle.device.proofs.RunLemmas.{cut_run}
use Rattle.script_session.specs.declared.line_answer.LineAnswer.{LineAnswer}
use Rattle.script_session.specs.declared.stop.Stop.{Stop}
use Rattle.script_session.specs.declared.stop.Stop.TheVariants as Stops
use Rattle.script_text.specs.declared.tags_found.TagsFound.{TagsFound}
use Rattle.script_session.specs.declared.tickets.Tickets.{Tickets}
use Rattle.script_session.specs.LineRun.{HasAnswered, HasRunLine, HasStopped, IsBegunLine, IsCutLine, IsFailedLine, IsHalfTold, IsRunnable, events_of}
use Rattle.script_session.specs.Meaning.{fault_on}
use Rattle.script_session.specs.Tickets.{AreInFlight, numbers_of}
use Rattle.script_session.specs.Told.{answer_found, answer_told}
use Rattle.script_text.specs.Found.{finds_fault}
use Rattle.stream_io.specs.Stream.{AddsPrefix, held_with}
use Rattle.script_session.proofs.TicketLemmas.{fault-is}

module _ (w : Standing) (parts : DeviceParts) (a : List Content) (is : IsDevice w Conditions.Working parts a) (tickets : Tickets) (are : AreInFlight tickets parts.common.slots)
    (blocks size : ℕ) (blocks_is : blocks ≡ parts.common.slots.blocks) (size_is : size ≡ parts.common.slots.block_size) (line : ScriptLine) where
  -- A line is judged as the model judges it.
  pub judged : (fault : Option MeaningFault) → fault ≡ fault_on blocks size (numbers_of tickets) line
      → meaning_fault w.format w.state.progress line ≡ fault
  judged fault told =
      sym (told ∙ ap (λ (n : ℕ). fault_on n size (numbers_of tickets) line) blocks_is
      ∙ ap (λ (n : ℕ). fault_on parts.common.slots.blocks n (numbers_of tickets) line) size_is
      ∙ fault-is w.format parts.common.slots w.state.progress (flight_now w Conditions.Working parts.mode parts.common a is) tickets are line)

-- What is begun is cut off.
pub cut_begun : (w : Standing) (events : List Event) (parts : DeviceParts) (a b : List Content)
    → HasBegun w events parts a b → IsCutOff w events a b
cut_begun w events parts a b begun =
    subst (λ (l : List Event). IsCutOff w l a b) (sym begun.all) (cut_run w begun.made begun.rest parts a b begun.run)

all_begun : (w : Standing) (events : List Event) (parts : DeviceParts) (a b : List Content) → HasRun w events parts a b
    → HasBegun w events parts a b
all_begun w events parts a b run = record { made = events; rest = []; all = sym (append-nil events); run = run }

module _ (w : Standing) (line : ScriptLine) (runnable : IsRunnable w line) (a b : List Content) (before now : Option (List ℕ)) where
  pub line_cut : IsCutOff w (events_of w line) a b → now ≡ before → IsCutLine w line a b before now
  line_cut cut told = record { runnable = runnable; cut = cut; told = told }

  pub line_failed : (parts : DeviceParts) → HasFailed w (events_of w line) parts a b → now ≡ before
      → IsFailedLine w line parts a b before now
  line_failed parts failed told = record { runnable = runnable; failed = failed; told = told }

  pub line_begun : (parts : DeviceParts) → HasBegun w (events_of w line) parts a b → now ≡ before
      → IsBegunLine w line parts a b before now
  line_begun parts begun told = record { runnable = runnable; begun = begun; told = told }

  module _ (answer : LineAnswer) (parts : DeviceParts) (answered : HasAnswered w (events_of w line) answer parts a b) where
    -- All is done and told,
    pub line_told : (found : TagsFound) → found ≡ answer_found answer
        → now ≡ held_with (answer_told answer) before → HasRunLine w line found parts a b before now
    line_told found found_is told = record {
      runnable = runnable;
      run = answered.run;
      found_ = ap finds_fault found_is ∙ answered.found;
      told = told ∙ ap (λ (t : List ℕ). held_with t before) answered.text;
    }

    -- or nothing is told,
    pub line_untold : now ≡ before → IsBegunLine w line parts a b before now
    line_untold told = line_begun parts (all_begun w (events_of w line) parts a b answered.run) told

    -- or a part.
    pub line_half : AddsPrefix (answer_told answer) before now → IsHalfTold w line parts a b before now
    line_half told = record {
      runnable = runnable;
      run = answered.run;
      told = subst (λ (t : List ℕ). AddsPrefix t before now) answered.text told;
    }

-- ---- for callers

-- A line in which the disk failed was cut off,
pub line_cut_failed : (w : Standing) (line : ScriptLine) (parts : DeviceParts) (a b : List Content)
    (before now : Option (List ℕ)) → IsFailedLine w line parts a b before now → IsCutLine w line a b before now
line_cut_failed w line parts a b before now is = line_cut w line is.runnable a b before now is.failed.cut is.told

-- and so was one that was begun.
pub line_cut_begun : (w : Standing) (line : ScriptLine) (parts : DeviceParts) (a b : List Content)
    (before now : Option (List ℕ)) → IsBegunLine w line parts a b before now → IsCutLine w line a b before now
line_cut_begun w line parts a b before now is =
    line_cut w line is.runnable a b before now (cut_begun w (events_of w line) parts a b is.begun) is.told

-- What is stopped is cut off.
pub cut_stopped : (w : Standing) (events : List Event) (stop : Stop) (parts : DeviceParts) (a b : List Content)
    → HasStopped w events stop parts a b → IsCutOff w events a b
cut_stopped w events Stops.Disk parts a b stopped = stopped.cut
cut_stopped w events Stops.Memory parts a b stopped = cut_begun w events parts a b stopped
