-- What a leg gives that a device gives of a read or a write that is run whole.
use Rattle.std.proofs.Common.{◌≡◌, ℕ, zero, suc, ◌+◌, ◌-◌, ◌*◌, ◌<◌, ◌≤◌, Bool, if◌then◌else◌, List, [], ◌++◌, length, drop, refl, sym, ◌∙◌, ap, subst, arith, length-append}
use Rattle.std.proofs.lemmas.List.{length-drop}
use Rattle.disk_model.specs.Disk.{Content}
use Rattle.image_model.specs.Cells.{Cell}
use Rattle.device_model.specs.History.{History, Tagger, cells_now}
use Rattle.device_model.specs.Mode.{Mode, is_recovery}
use Rattle.device_model.specs.Reply as Model
use Rattle.device_model.specs.Reply.{block_reply, bytes_of, good_bytes, read_back, read_reply}
use Rattle.device_model.specs.Serial.{readable_cells}
use Rattle.device_model.specs.Submission.{Submission}
use Rattle.device_model.specs.Transcript.{BlockFormat}
use Rattle.device_model.proofs.ReplyLemmas.{read_reply-same}
use Rattle.request_slots.specs.declared.reply.Reply.{Reply}
use Rattle.request_slots.specs.declared.reply.Reply.TheVariants as Replies
use Rattle.request_slots.specs.InFlight.{as_reply, returned_in}
use Rattle.device_parts.specs.Device.{Standing}
use Rattle.device.specs.declared.mode.DeviceParts.{DeviceParts}
use Rattle.mirror_calls.specs.declared.leg.BlocksRead.{BlocksRead}
use Rattle.mirror_calls.specs.declared.leg.BlocksRead.TheVariants.{Given, Differs}
use Rattle.mirror_calls.specs.declared.leg.TagPair.{TagPair}
use Rattle.mirror_calls.specs.Leg.{GivesBlocks, HasBlocks, IsAmong, LegOn, buffer_in}
use Rattle.mirror_core.specs.Answered.{IsOfRead, IsOfWrite, IsReadAs}
use Rattle.mirror_core.specs.Stands.{StandsFor}
use Rattle.mirror_core.specs.Whole.{HasRunWhole, cells_on}
use Rattle.mirror_core.proofs.ReadLemmas.{AreSized, HasBlocks-same, IsFaulty, all_given, all_long, faulty, good_bytes-same}
use Rattle.mirror_core.proofs.SinceLemmas.{IsSince-cells}
use Rattle.mirror_core.proofs.StandsLemmas.{sized}

module _ (parts : DeviceParts) (a : List Content) (on : LegOn) (told : History) (stands : StandsFor parts a on told) (first count : ℕ) (buffer : List ℕ)
    (there : first + count ≤ parts.common.slots.blocks)
    (long : length buffer ≡ count * parts.common.slots.block_size) where
  abbrev w : Standing
  w = stands.w

  abbrev tag : Tagger
  tag = w.format.blocks.tag

  abbrev cells : ℕ → Cell
  cells = cells_on w

  abbrev size : ℕ
  size = parts.common.slots.block_size

  size_is : w.format.blocks.block_size ≡ size
  size_is = ap (λ (b : BlockFormat). b.block_size) (sym stands.format) ∙ stands.size

  tag_is : tag ≡ on.format.tag
  tag_is = ap (λ (b : BlockFormat). b.tag) (sym stands.format)

  cells_told : (b : ℕ) → cells b ≡ cells_now tag told b
  cells_told b = sym (IsSince-cells tag w.state.history told stands.since b)

  sized_here : AreSized tag cells size first count
  sized_here b from below =
      let blocks : w.format.blocks.blocks ≡ parts.common.slots.blocks = ap (λ (x : BlockFormat). x.blocks) (sym stands.format) ∙ stands.blocks in
      let low : b < w.format.blocks.blocks = omega (arith, below, there, blocks) in
      sized w parts a stands.rests b low ∙ size_is

  -- By what the mirror is told.
  told_blocks : (n : ℕ) (out : List ℕ) → HasBlocks tag cells size first n out → HasBlocks on.format.tag (cells_now on.format.tag told) size first n out
  told_blocks n out has =
      subst (λ (t : Tagger). HasBlocks t (cells_now t told) size first n out) tag_is
      (HasBlocks-same tag cells (cells_now tag told) size cells_told first n out has)

  told_fault : (block : ℕ) (stored computed : List ℕ) → block_reply tag block (cells block) ≡ Model.TagFault block stored computed
      → block_reply on.format.tag block (cells_now on.format.tag told block) ≡ Model.TagFault block stored computed
  told_fault block stored computed is =
      subst (λ (t : Tagger). block_reply t block (cells_now t told block) ≡ Model.TagFault block stored computed) tag_is
      (ap (block_reply tag block) (sym (cells_told block)) ∙ is)

  module _ (reply : Reply) (new : DeviceParts) (b : List Content) (run : HasRunWhole w (Submission.Read first count buffer) reply new b) where
    plain : (c : ℕ) → readable_cells w.format cells c ≡ cells c
    plain c =
        ap (λ (m : Mode). if is_recovery m then record { bytes = (cells c).bytes; tag = w.format.blocks.tag c (cells c).bytes } else cells c) stands.rests.mode

    reply_is : as_reply reply ≡ read_reply tag cells first count
    reply_is = run.reply_ ∙ read_reply-same tag (readable_cells w.format cells) cells first count (λ c from below. plain c)

    read_all : (out : List ℕ) → reply ≡ Replies.Read out → read_reply tag cells first count ≡ Model.Bytes out
    read_all out is = sym reply_is ∙ ap as_reply is

    -- All is given,
    gives_all : (out : List ℕ) → reply ≡ Replies.Read out
        → GivesBlocks on.format.tag (cells_now on.format.tag told) size first count (Given out)
    gives_all out is = record {
      before = told_blocks count out (all_given tag cells size first count out sized_here (read_all out is));
      fault = tt;
    }

    -- or what stands before a fault.
    module _ (block : ℕ) (stored computed out : List ℕ) (is : reply ≡ Replies.TagFault block stored computed out) where
      fault : read_reply tag cells first count ≡ Model.TagFault block stored computed
      fault = sym reply_is ∙ ap as_reply is

      at_fault : IsFaulty tag cells size first count block stored computed
      at_fault = faulty tag cells size first count block stored computed sized_here fault

      abbrev good : List ℕ
      good = good_bytes tag cells first count

      out_is : out ≡ good ++ drop (length good) buffer
      out_is =
          ap returned_in (sym is) ∙ run.returned
          ∙ ap (λ (r : Model.Reply). read_back r (good_bytes tag (readable_cells w.format cells) first count) buffer)
          (read_reply-same tag (readable_cells w.format cells) cells first count (λ c from below. plain c) ∙ fault)
          ∙ ap (λ (l : List ℕ). l ++ drop (length l) buffer) (good_bytes-same tag (readable_cells w.format cells) cells size plain first count)

      gives_fault : (tags : TagPair) → tags.stored ≡ stored → tags.computed ≡ computed
          → GivesBlocks on.format.tag (cells_now on.format.tag told) size first count (Differs block tags out)
      gives_fault tags stored_is computed_is = record {
        before = told_blocks (block - first) out
            (subst (λ (l : List ℕ). HasBlocks tag cells size first (block - first) l) (sym out_is) (at_fault.before (drop (length good) buffer)));
        fault = told_fault block stored computed at_fault.reply_
            ∙ ap (λ (x : List ℕ). Model.TagFault block x computed) (sym stored_is)
            ∙ ap (λ (x : List ℕ). Model.TagFault block tags.stored x) (sym computed_is);
      }

    pub read_gives : (read : BlocksRead) → IsReadAs reply read → GivesBlocks on.format.tag (cells_now on.format.tag told) size first count read
    read_gives read given = by reply refl given
      where
        by : (r : Reply) → reply ≡ r → IsReadAs r read → GivesBlocks on.format.tag (cells_now on.format.tag told) size first count read
        by (Replies.Read out) is given = subst (λ (x : BlocksRead). GivesBlocks on.format.tag (cells_now on.format.tag told) size first count x) (sym given) (gives_all out is)
        by (Replies.TagFault block stored computed out) is given =
            subst (λ (x : BlocksRead). GivesBlocks on.format.tag (cells_now on.format.tag told) size first count x) (sym given)
            (gives_fault block stored computed out is (record { stored = stored; computed = computed }) refl refl)
        by (Replies.Written out) is given = absurd given
        by Replies.Flushed is given = absurd given
